use Rattle.std.proofs.Common.{◌≡◌, ◌^◌, ◌<◌, drop}
use Rattle.words.specs.Words.{read_on}
use Rattle.words.proofs.words.number_of.Given as goal

-- the digits that are left go on from the value
abbrev pub invariant-loop-digit : goal.invariant-loop-digit
invariant-loop-digit l = (l.value < 2 ^ 32) × (read_on l.value (drop l.digit-index l.word) ≡ read_on 0 l.word)
