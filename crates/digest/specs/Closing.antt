-- The digest of a message whose first blocks have been processed already. Assumes nothing.
use Rattle.std.specs.Prelude.{◌≡◌, ℕ, ◌*◌, List, ◌++◌, length}
use Rattle.compression.specs.declared.state.State.{State}
use Rattle.compression.specs.Sha256.{initial_hash, processed, digest}

-- Whatever whole blocks of so many bytes gave the state, r is the digest of these and then the rest.
abbrev pub Closes : State → ℕ → List ℕ → List ℕ → Type 0
Closes state before rest r =
    (first : List ℕ) (n : ℕ) → length first ≡ before → length first ≡ 64 * n → state ≡ processed first n initial_hash → r ≡ digest (first ++ rest)
