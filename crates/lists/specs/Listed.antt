-- When a card stands on a list of barrings. Assumes nothing.
use Rattle.std.specs.Prelude.{◌≡◌, ℕ, ◌<◌, Bool, List, length, ◌==◌, slice_index}
use Rattle.std.specs.List.{list_any}

unfoldable pub listed : ℕ → List ℕ → Bool
listed c xs = list_any (λ x. c == x) xs

-- the card stands at some place of the list
abbrev pub Stands : ℕ → List ℕ → Type 0
Stands c xs = (r : ℕ) × (r < length xs) × (slice_index xs r ≡ c)
