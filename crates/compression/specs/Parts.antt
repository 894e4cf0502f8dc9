-- A part of the schedule and of the rounds, for the functions that do sixteen at a time. Assumes nothing.
use Rattle.std.specs.Prelude.{ℕ, zero, suc, ◌+◌, List, drop, slice_index}
use Rattle.compression.specs.declared.state.State.{State}
use Rattle.compression.specs.Sha256.{round_constants, round, extended}

-- the sixteen words of the schedule after the words w
abbrev pub following : List ℕ → List ℕ
following w = drop 16 (extended w 16)

-- n rounds from the round t on, with the words w
unfoldable pub rounds_from : ℕ → List ℕ → ℕ → State → State
rounds_from t w zero s = s
rounds_from t w (suc n) s = round (rounds_from t w n s) (slice_index round_constants (t + n)) (slice_index w n)
