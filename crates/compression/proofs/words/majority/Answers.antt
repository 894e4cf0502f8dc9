use Rattle.std.proofs.Common.{arith}
use Rattle.compression.specs.Sha256.{maj}
use Rattle.compression.proofs.Digits.{majority_is}
use Rattle.compression.proofs.words.majority.Goals as goal

pub returns : goal.returns
unfolding maj
returns c = majority_is 32 c.args.x c.args.y c.args.z (omega arith) (omega arith) (omega arith)
