use Rattle.std.proofs.Common.{arith}
use Rattle.compression.specs.Sha256.{ch, bit_not}
use Rattle.compression.proofs.Digits.{choice_is}
use Rattle.compression.proofs.words.choose.Goals as goal

pub returns : goal.returns
unfolding ch bit_not
returns c = choice_is 32 c.args.x _ c.args.y c.args.z (omega arith) (omega arith)
