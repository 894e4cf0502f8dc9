-- A byte string written over the start of lent memory. Assumes nothing.
use Rattle.std.specs.Prelude.{Bool, true, false, List, ◌++◌, ◌≡◌, ℕ, ◌<◌, ◌≤◌, length, drop}

-- it is written exactly if there is room, and nothing else changes
abbrev pub Written : List ℕ → List ℕ → Bool → List ℕ → Type 0
Written bytes old true new = (length bytes ≤ length old) × (new ≡ bytes ++ drop (length bytes) old)
Written bytes old false new = (length old < length bytes) × (new ≡ old)
