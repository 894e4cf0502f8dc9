use Rattle.std.proofs.Common.{refl, arith}
use Rattle.signing.proofs.Runs.{scheme, sealed, accepted}
use Rattle.signing.proofs.keys.seal.Goals as goal

pub returns-then-memory-lt64 : goal.returns-then-memory-lt64
returns-then-memory-lt64 g c =
    let key = c.args.key.now in
    let accepts = g.S.Verifying.VerifyingKey.accepts (g.S.SigningKey.verifying key) in
    record {
      memory = (omega arith, refl);
      accepted = tt;
      scheme = scheme accepts (g.S.SigningKey.signature key) (g.met.S.SigningKey.honest key) (g.met.S.SigningKey.sized key);
    }

pub returns : goal.returns
returns g c =
    let key = c.args.key.now in
    let n = c.args.n in
    let old = c.args.memory.now in
    let accepts = g.S.Verifying.VerifyingKey.accepts (g.S.SigningKey.verifying key) in
    let signature = g.S.SigningKey.signature key in
    let honest = g.met.S.SigningKey.honest key in
    let sized = g.met.S.SigningKey.sized key in
    let new = sealed accepts signature honest sized n old _ _ c.copy_from_slice.ensures.after c.sign-signature.ensures in
    record {
      memory = (refl, omega arith, new);
      accepted = accepted accepts signature honest sized n old _ (omega arith) new;
      scheme = scheme accepts signature honest sized;
    }
