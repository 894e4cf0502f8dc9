-- How lists go over in a visit, by their numbers, and the lock's decision. Assumes nothing.
use Rattle.std.specs.Prelude.{ℕ, Bool, true, cond, ◌&&◌, List, Some, None, Option, ◌==◌, nat_le, nat_lt}
use Rattle.faults.specs.declared.Fault.TheVariants.{Barred}
use Rattle.faults.specs.declared.VisitEnd.{VisitEnd}
use Rattle.faults.specs.declared.VisitEnd.TheVariants.{Opened, Refused}
use Rattle.lists.specs.Listed.{listed}

-- of two lists the one with the higher number is newer
abbrev pub newer : ℕ → ℕ → ℕ
newer a e = cond (nat_lt a e) e a

-- what a lock with list n has after it heard a number said, and the list t given or none: it takes only a list that has the number said, and only if that is higher than its own
unfoldable pub heard : ℕ → ℕ → Option ℕ → ℕ
heard n says None = n
heard n says (Some t) = cond (nat_lt n says && t == says) t n

-- the visit comes to the decision unless the lock awaits a list that is not given
unfoldable pub comes : ℕ → ℕ → Option ℕ → Bool
comes n says None = nat_le says n
comes n says (Some t) = true

-- the lock opens unless the card stands on its list
unfoldable pub decision : ℕ → List ℕ → VisitEnd
decision c bars = cond (listed c bars) (Refused Barred) Opened
