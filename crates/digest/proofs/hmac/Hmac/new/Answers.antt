use Rattle.std.proofs.Common.{[], sym, ◌∙◌, subst, append-nil}
use Rattle.digest.specs.Hmac.{masked, ipad, opad}
use Rattle.digest.specs.Taken.{Took}
use Rattle.digest.proofs.Keys.{masked_is, after_key}
use Rattle.digest.proofs.hmac.Hmac.new.Goals as goal

pub returns : goal.returns
returns c =
    let k = c.args.key.now in
    let same = masked_is ipad k _ _ c.key_block-block.ensures c.mask.ensures in
    record {
      inside = subst (Took c.take.new.self) (same ∙ sym (append-nil (masked ipad k))) (c.take.ensures [] c.new-inner.ensures);
      outside = after_key opad k _ _ c.key_block-block.ensures c.after_key.ensures;
    }
