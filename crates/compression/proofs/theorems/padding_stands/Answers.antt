use Rattle.compression.proofs.Padded.{padding_is}
use Rattle.compression.proofs.theorems.padding_stands.Goals as goal

pub returns : goal.returns
returns c = padding_is
