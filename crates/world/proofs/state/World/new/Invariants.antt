use Rattle.std.proofs.Common.{◌≤◌, length}
use Rattle.world.specs.World.{list_in}
use Rattle.world.proofs.Roster.{SetUp}
use Rattle.world.proofs.state.World.new.Given as goal

abbrev pub invariant-loop-holder : goal.invariant-loop-holder
invariant-loop-holder l = SetUp l.holders l.holder-index (list_in l.cards l.locks) × (length l.cards ≤ 65536) × (length l.locks ≤ 65536)
