-- What stands at the numbers. Assumes nothing.
use Rattle.std.specs.Prelude.{◌≡◌, ℕ, ◌≤◌, cond, ◌==◌, List, length, Some, None, Ok, Err, Option, Result, slice_index_or}
use Rattle.std.specs.declared.alloc.AllocError.{AllocError}

-- beyond the last place there is nothing
abbrev pub at : {X : Type 0} → List (Option X) → ℕ → Option X
at places n = slice_index_or places n None

-- x stands at n, and all else as it did
abbrev pub Put : {X : Type 0} → List (Option X) → ℕ → X → List (Option X) → Type 0
Put old n x new = (k : ℕ) → at new k ≡ cond (k == n) (Some x) (at old k)

-- x is put; or nothing is changed, and there was no place for n yet
abbrev pub Inserted : {X : Type 0} → List (Option X) → ℕ → X → Result (Unit {0}) AllocError → List (Option X) → Type 0
Inserted old n x (Ok _) new = Put old n x new
Inserted old n x (Err _) new = (new ≡ old) × (length old ≤ n)
