use Rattle.std.proofs.Common.{◌/◌, length, ◌∙◌, rules}
use Rattle.std.proofs.lemmas.Iterator.{YieldsList-from_slice}
use Rattle.std.proofs.lemmas.Iterator.Consumers.{fold_from_yields_List}
use Rattle.std.specs.Simd.{first_chunks}
use Rattle.compression.specs.Sha256.{compressed}
use Rattle.compression.proofs.Steps.{folded}
use Rattle.compression.proofs.blocks.process.Goals as goal

pub returns : goal.returns
returns c =
    let m = c.args.bytes.now in
    let blocks = first_chunks 64 (length m / 64) m in
    fold_from_yields_List _ compressed c.args.start c.fold.result c.fold.ensures.ran (YieldsList-from_slice blocks cc) (λ a x b q k. search rules)
    ∙ folded m (length m / 64) c.args.start
