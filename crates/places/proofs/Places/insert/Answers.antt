use Rattle.std.proofs.Common.{rules, ap, ◌∙◌}
use Rattle.places.specs.Places.{at}
use Rattle.places.proofs.Changed.{wider, put}
use Rattle.places.proofs.Places.insert.Goals as goal
use Rattle.places.proofs.Places.insert.Goals.{then-len-place+in_ok-resize, else-len-place}

pub returns-clause-places : goal.returns-clause-places
returns-clause-places g c =
    rw c.from-place.ensures
    (put c.args.self.now c.if-len-place.self-inside.items.items c.args.number c.args.item (search rules)
    (elim c.if-len-place.branch [
      | then-len-place+in_ok-resize w ↦
          λ k. ap (λ s. at s.items.items k) w.self-inside-is ∙ wider _ _ _ _ (search rules) w.in_ok-resize.ensures.items k ∙ ap (λ ps. at ps k) c.self.view_is
      | else-len-place w ↦ λ k. ap (λ s. at s.items.items k) w.self-inside-is ∙ ap (λ ps. at ps k) c.self.view_is
    ]))
