use Rattle.std.proofs.Common.{rules}
use Rattle.model.specs.declared.Holder.TheVariants.{Card, Lock}
use Rattle.model.proofs.Tables.{same_state}
use Rattle.world.proofs.Roster.{one_card, one_lock, whole}
use Rattle.world.proofs.state.World.new.Goals as goal
use Rattle.world.proofs.state.World.new.Goals.{in-Card+in_ok-insert-in-Card, in-Lock+in_ok-insert-in-Lock}

pub loop-holder-preserved : goal.loop-holder-preserved
loop-holder-preserved c =
    elim c.match-holder.branch [
      | in-Card+in_ok-insert-in-Card w ↦
          rw (w.cards-is, w.locks-is)
          (one_card _ _ _ _ _ _ _ c.loop-holder-test.true w.in-Card.is (search rules) c.loop-holder.invariant.0, search rules, search rules)
      | in-Lock+in_ok-insert-in-Lock w ↦
          rw (w.cards-is, w.locks-is)
          (one_lock _ _ _ _ _ _ _ c.loop-holder-test.true w.in-Lock.is (search rules) c.loop-holder.invariant.0, search rules, search rules)
    ]

pub returns : goal.returns
returns c =
    let s = c.loop-holder.invariant.0 in
    record {
      state = same_state (search rules) (search rules) (λ k. (s (Card k)).1) (λ l. (s (Lock l)).1);
      there = λ h. let w = whole c.args.holders.now c.loop-holder.holder-index h c.loop-holder-test.false c.loop-holder.auto.holder-index-end in (λ t. w.0 ((s h).0.0 t), λ p. (s h).0.1 (w.1 p));
    }
