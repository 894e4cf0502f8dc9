use Rattle.model.proofs.Promised.{once_only}
use Rattle.model.proofs.theorems.once_stands.Goals as goal

pub returns : goal.returns
returns c = once_only
