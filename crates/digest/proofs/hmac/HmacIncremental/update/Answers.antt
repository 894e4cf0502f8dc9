use Rattle.digest.proofs.Keys.{updates}
use Rattle.digest.proofs.hmac.HmacIncremental.update.Goals as goal

pub returns : goal.returns
returns c = λ k.
    updates k c.args.part.now c.args.self.now.inner c.update.new.self c.args.self.now.outer c.update.result c.update.ensures
