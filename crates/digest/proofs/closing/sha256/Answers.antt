use Rattle.std.proofs.Common.{[], refl}
use Rattle.compression.specs.Sha256.{processed}
use Rattle.digest.proofs.closing.sha256.Goals as goal

pub returns : goal.returns
unfolding processed
returns c = c.close.ensures [] 0 refl refl c.initial.ensures
