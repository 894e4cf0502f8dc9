use Rattle.std.proofs.Common.{◌∙◌, rules}
use Rattle.compression.proofs.Steps.{compressed_is}
use Rattle.compression.proofs.blocks.compress.Goals as goal

pub returns : goal.returns
returns c =
    c.add.ensures
    ∙ compressed_is c.args.block.now _ _ _ _ c.args.s _ _ _ _ (search rules) c.first_words.ensures
    c.sixteen_rounds.ensures.words c.sixteen_rounds-2.ensures.words c.sixteen_rounds-3.ensures.words
    c.sixteen_rounds.ensures.state c.sixteen_rounds-2.ensures.state c.sixteen_rounds-3.ensures.state
    c.sixteen_rounds-4.ensures.state
