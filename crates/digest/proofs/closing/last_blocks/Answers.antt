use Rattle.std.proofs.Common.{◌-◌, ◌∷◌, ◌++◌, length, replicate, ap, ◌∙◌}
use Rattle.digest.proofs.Messages.{last_is, eight_is}
use Rattle.digest.proofs.closing.last_blocks.Goals as goal

pub returns : goal.returns
returns g c =
    let rest = c.args.rest.now in
    last_is g.row.N rest c.to_be_bytes.result c.put.new.out c.put-2.new.out c.requires (ap length c.to_be_bytes.ensures) c.put.ensures c.put-2.ensures
    ∙ ap (λ z. rest ++ 0x80 ∷ (replicate (g.row.N - 9 - length rest) 0 ++ z)) (c.to_be_bytes.ensures ∙ eight_is c.args.bits)
