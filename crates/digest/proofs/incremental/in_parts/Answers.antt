use Rattle.std.proofs.Common.{arith}
use Rattle.digest.proofs.Joined.{refused}
use Rattle.digest.proofs.incremental.in_parts.Goals as goal

pub returns-in_err-update : goal.returns-in_err-update
returns-in_err-update g c = λ k.
    let t = g.T.Incremental in
    refused (t.holds k) c.args.begun c.args.parts.now (t.value k) t.limit c.loop-part.part-index _ c.loop-part.taken _
    c.from_residual.ensures.0 (omega arith) (c.loop-part.invariant k) (c.in_err-update.ensures k).1
