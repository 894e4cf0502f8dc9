use Rattle.std.proofs.Common.{refl}
use Rattle.compression.specs.Sha256.{processed}
use Rattle.digest.proofs.hasher.Hasher.new.Goals as goal

pub returns : goal.returns
unfolding processed
returns c = record { long = refl; whole = c.initial.ensures; rest = refl }
