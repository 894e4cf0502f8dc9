use Rattle.std.proofs.Common.{refl, arith}
use Rattle.digest.specs.Lengths.{length-digest}
use Rattle.digest_c.proofs.dozhebul_sha256.Goals as goal

pub returns-in_default : goal.returns-in_default
returns-in_default c =
    let long = length-digest c.args.message.now in
    let short = c.in_default.ensures.cases in
    (omega arith, refl)
