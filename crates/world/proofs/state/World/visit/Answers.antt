use Rattle.std.proofs.Common.{rules, refl}
use Rattle.model.proofs.Tables.{same_state}
use Rattle.world.proofs.state.World.visit.Goals as goal

pub returns : goal.returns
returns c = record {
  known = search rules;
  says = search rules;
  state = same_state refl refl (λ q. search rules) (λ q. search rules);
  there = search rules;
}
