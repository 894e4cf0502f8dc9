-- That nobody but its holder signs with a key, as a fact about a run. Assumes nothing.
--
-- No function can promise it: a signature is 64 bytes, and who guesses them has them. What can be assumed is that in a given run
-- nobody did. It is meant to be the only hypothesis of what is promised of runs. A run has to list every use of the key, in the order of time:
-- each signing by its holder, and each check of a signature, wherever it is made. With several keys, it is assumed of each with its own uses.
use Rattle.std.specs.Prelude.{◌≡◌, ℕ, Bool, true, List, ◌∷◌, ◌++◌}

-- what is done with one key: its holder signs a message; somebody checks a signature for a message
pub data Use : Type 0 where
  Signs : (message : List ℕ) → Use
  Checks : (message signature : List ℕ) → Use

-- the holder signed the message in the course of these uses
abbrev pub Signed : List ℕ → List Use → Type 0
Signed m uses = (past : List Use) × (later : List Use) × (uses ≡ past ++ Signs m ∷ later)

-- Whatever the key accepts, anywhere in the run, its holder signed before.
abbrev pub Unforged : (List ℕ → List ℕ → Bool) → List Use → Type 0
Unforged accepts uses =
    (past later : List Use) (m s : List ℕ) → uses ≡ past ++ Checks m s ∷ later → accepts m s ≡ true → Signed m past
