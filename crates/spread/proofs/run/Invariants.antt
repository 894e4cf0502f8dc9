use Rattle.std.proofs.Common.{◌≤◌, length, vec_items, vec_capacity}
use Rattle.spread.proofs.Runs.{SoFar}
use Rattle.spread.proofs.run.Given as goal

-- so many events are played, and there is room for the other answers
abbrev pub invariant-loop-event : goal.invariant-loop-event
invariant-loop-event l = SoFar l.initial.world l.events l.event-index l.world (vec_items l.answers) × (length l.events ≤ vec_capacity l.answers)
