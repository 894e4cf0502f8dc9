-- Byte strings that carry their signature: the last 64 bytes are one for all before them. Assumes nothing.
use Rattle.std.specs.Prelude.{◌≡◌, ℕ, ◌+◌, ◌-◌, ◌<◌, ◌≤◌, Bool, true, not, ◌&&◌, List, [], ◌∷◌, ◌++◌, length, take, drop, Some, None, Option, nat_lt}
use Rattle.signing.specs.Unforged.{Use, Signs, Checks, Signed, Unforged}

abbrev pub body : List ℕ → List ℕ
body bytes = take (length bytes - 64) bytes

abbrev pub ending : List ℕ → List ℕ
ending bytes = drop (length bytes - 64) bytes

unfoldable pub carries : (List ℕ → List ℕ → Bool) → List ℕ → Bool
carries accepts bytes = not (nat_lt (length bytes) 64) && accepts (body bytes) (ending bytes)

-- In every run without forgery in which this check is made: what it accepts was signed before.
abbrev pub SignedBefore : (List ℕ → List ℕ → Bool) → List ℕ → Bool → Type 0
SignedBefore accepts bytes answer =
    (past later : List Use) → Unforged accepts (past ++ Checks (body bytes) (ending bytes) ∷ later) → answer ≡ true → Signed (body bytes) past

-- The first n bytes of memory are signed, and the signature is written after them, exactly if there is room; else nothing changes.
abbrev pub Sealed : (List ℕ → List ℕ) → ℕ → List ℕ → Option ℕ → List ℕ → Type 0
Sealed signature n old (Some end) new =
    (end ≡ n + 64) × (end ≤ length old) × (new ≡ take n old ++ (signature (take n old) ++ drop end old))
Sealed signature n old None new = (length old < n + 64) × (new ≡ old)

-- what was sealed is accepted
abbrev pub Accepted : (List ℕ → List ℕ → Bool) → Option ℕ → List ℕ → Type 0
Accepted accepts (Some end) memory = carries accepts (take end memory) ≡ true
Accepted accepts None memory = Unit

-- A key pair, by what it accepts and signs: a message with its signature after it is accepted; to be without forgery is no law of the two
-- functions, since a signature may be guessed; and a run in which the holder signed before is without.
pub record Scheme (accepts : List ℕ → List ℕ → Bool) (signature : List ℕ → List ℕ) : Type 0 where
  pub carried : (m : List ℕ) → carries accepts (m ++ signature m) ≡ true
  pub guessed : (m : List ℕ) → Unforged accepts (Checks m (signature m) ∷ []) → ⊥
  pub signed : (m : List ℕ) → Unforged accepts (Signs m ∷ Checks m (signature m) ∷ [])
