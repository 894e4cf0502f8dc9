use Rattle.std.proofs.Common.{◌≤◌, length, ◌∙◌, ap₂, arith}
use Rattle.signing.proofs.Runs.{too_short, long_enough, before, never}
use Rattle.signing.proofs.keys.is_signed.Goals as goal

pub returns-in_default : goal.returns-in_default
returns-in_default g c =
    let accepts = g.K.VerifyingKey.accepts c.args.key.now in
    let bytes = c.args.bytes.now in
    record { value = too_short accepts bytes c.in_default.ensures.cases; before = never accepts bytes }

pub returns : goal.returns
returns g c =
    let accepts = g.K.VerifyingKey.accepts c.args.key.now in
    let bytes = c.args.bytes.now in
    let split = c.in-Some.ensures.cases in
    let answer = c.verify.ensures ∙ ap₂ accepts split.0 split.1 in
    let enough : 64 ≤ length bytes = omega (arith, split.2) in
    record { value = answer ∙ long_enough accepts bytes enough; before = before accepts bytes c.verify.result answer }
