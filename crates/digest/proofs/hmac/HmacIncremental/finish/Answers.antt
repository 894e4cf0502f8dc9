use Rattle.std.proofs.Common.{◌++◌, ap, ◌∙◌}
use Rattle.compression.specs.Sha256.{digest}
use Rattle.digest.specs.Hmac.{masked, opad, hmac}
use Rattle.digest.specs.Lengths.{length-masked}
use Rattle.digest.proofs.hmac.HmacIncremental.finish.Goals as goal

pub returns : goal.returns
unfolding hmac
returns c = λ k m t.
    let l = length-masked opad k in
    c.close.ensures (masked opad k) 1 l l t.outside ∙ ap (λ v. digest (masked opad k ++ v)) (c.finish.ensures _ t.inside)
