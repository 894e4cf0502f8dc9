use Rattle.std.proofs.Common.{◌++◌, ap, ◌∙◌}
use Rattle.compression.specs.Sha256.{digest}
use Rattle.digest.specs.Hmac.{masked, ipad, opad, hmac}
use Rattle.digest.specs.Lengths.{length-masked}
use Rattle.digest.proofs.Keys.{after_key}
use Rattle.digest.proofs.hmac.hmac_sha256.Goals as goal

pub returns : goal.returns
unfolding hmac
returns c =
    let k = c.args.key.now in
    let li = length-masked ipad k in
    let lo = length-masked opad k in
    let inside = after_key ipad k _ _ c.key_block-block.ensures c.after_key.ensures in
    let outside = after_key opad k _ _ c.key_block-block.ensures c.after_key-2.ensures in
    c.close.ensures (masked opad k) 1 lo lo outside
    ∙ ap (λ v. digest (masked opad k ++ v)) (c.close-inner.ensures (masked ipad k) 1 li li inside)
