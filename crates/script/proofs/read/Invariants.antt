use Rattle.std.specs.Iterator.Adapters.{enumerate_count, enumerate_source}
use Rattle.std.specs.Slice.Iter.{split_inclusive_rest}
use Rattle.script.proofs.Turns.{SoFar}
use Rattle.script.proofs.read.Given as goal

abbrev pub invariant-loop-above : goal.invariant-loop-above
invariant-loop-above l =
    (goal.iterator-loop-above).can_next l.above-iterator × (goal.iterator-loop-above).is_finite l.above-iterator
    × SoFar l.text (enumerate_count l.above-iterator) l.script (split_inclusive_rest (enumerate_source l.above-iterator))
