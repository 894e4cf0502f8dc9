-- The worked cases come out as they should, by computation. Assumes nothing.
use Rattle.std.proofs.Common.{refl}
use Rattle.lists.specs.Listed.{listed}
use Rattle.office.specs.Desk.{bar_answer, barred_after, signed}
use Rattle.visits.specs.Exchange.{heard, comes, decision}
use Rattle.model.specs.Run.{after}
use Rattle.model.specs.Cases.{AsWorked}

pub as_worked : AsWorked
unfolding after listed bar_answer barred_after signed heard comes decision
as_worked = refl
