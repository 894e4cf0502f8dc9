use Rattle.model.proofs.Promised.{numbered}
use Rattle.model.proofs.theorems.numbered_stands.Goals as goal

pub returns : goal.returns
returns c = numbered
