use Rattle.std.proofs.Common.{◌≡◌, ℕ, ◌<◌, false, get_or}
use Rattle.lists.proofs.is_listed.Given as goal

-- nothing was found so far: the card is at none of the places that were read
abbrev pub invariant-scan : goal.invariant-scan
invariant-scan l = (l.found ≡ false) × ((k : ℕ) → k < l.barred-index → get_or l.barrings k 0 ≡ l.card → ⊥)
