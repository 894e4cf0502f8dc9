use Rattle.std.proofs.Common.{[], ◌∷◌, flat_map, w32, refl, ap, ◌∙◌}
use Rattle.std.specs.Int.{to_be_bytes}
use Rattle.digest.proofs.Arrays.{mapped}
use Rattle.digest.proofs.Messages.{output_is}
use Rattle.digest.proofs.closing.to_bytes.Goals as goal

pub returns : goal.returns
returns c =
    let s = c.args.s in
    let words = s.a ∷ s.b ∷ s.c ∷ s.d ∷ s.e ∷ s.f ∷ s.g ∷ s.h ∷ [] in
    let same = mapped _ _ (to_be_bytes w32) (λ x y q k. (cc, refl)) words c.map-words.result 8 refl c.map-words.ensures.items in
    c.copy_from_slice.ensures.after ∙ c.as_flattened.ensures.value ∙ ap (flat_map (λ x. x)) same ∙ output_is s
