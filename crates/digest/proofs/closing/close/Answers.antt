use Rattle.std.proofs.Common.{◌∙◌, ap, arith}
use Rattle.compression.specs.Sha256.{output}
use Rattle.digest.proofs.Messages.{one_block, two_blocks, closes}
use Rattle.digest.proofs.closing.close.Goals as goal
use Rattle.digest.proofs.closing.close.Goals.{then-left-lt56, else-left-lt56}

pub returns : goal.returns
returns c = λ first n count whole state.
    let rest = c.args.rest.now in
    let left = c.as_chunks.result.1.now in
    c.to_bytes.ensures
    ∙ elim c.if-left-lt56.branch [
      | then-left-lt56 w ↦
          ap output w.last-is
          ∙ closes first rest left _ n 64 _ _ _ _ whole state (omega arith) c.as_chunks.ensures.back
          (one_block _ (omega arith)) w.last_blocks.ensures c.process-whole.ensures w.process-last.ensures
      | else-left-lt56 w ↦
          ap output w.last-is
          ∙ closes first rest left _ n 128 _ _ _ _ whole state (omega arith) c.as_chunks.ensures.back
          (two_blocks _ (omega arith) (omega arith)) w.last_blocks-else-left-lt56.ensures c.process-whole.ensures w.process-last-else-left-lt56.ensures
    ]
