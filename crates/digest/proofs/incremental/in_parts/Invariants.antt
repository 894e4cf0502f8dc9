use Rattle.digest.proofs.Joined.{SoFar}
use Rattle.digest.proofs.incremental.in_parts.Given as goal

abbrev pub invariant-loop-part : goal.invariant-loop-part
invariant-loop-part g l = (k : g.T.Incremental.Key) → SoFar (g.T.Incremental.holds k) l.fn.begun l.parts l.part-index l.taken
