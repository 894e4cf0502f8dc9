use Rattle.std.proofs.Common.{arith}
use Rattle.spread.proofs.Runs.{goes_on, never_stays, ends}
use Rattle.spread.proofs.run.Goals as goal

pub unreachable-requires : goal.unreachable-requires
unreachable-requires c =
    never_stays c.args.world.now c.args.events.now c.loop-event.event-index c.loop-event.world _ c.loop-event.invariant.0 c.loop-event-test.true _ c.in_default-step.field-0 c.step.new.self c.in_default-step.ensures

pub loop-event-preserved : goal.loop-event-preserved
loop-event-preserved c =
    (goes_on c.args.world.now c.args.events.now c.loop-event.event-index c.loop-event.world _ c.loop-event.invariant.0 c.loop-event-test.true _ c.in-Ok.answer c.step.new.self c.in-Ok.ensures _ c.push_reserved.ensures.items, omega (arith, c.loop-event.invariant.1, c.push_reserved.ensures.capacity))

pub returns : goal.returns
returns c =
    ends c.args.world.now c.args.events.now c.loop-event.event-index c.loop-event.world _ c.loop-event-test.false (omega arith) c.loop-event.invariant.0
