use Rattle.std.proofs.Common.{rules, ◌≡◌, ◌≤◌, ◌^◌, ◌*◌, ◌+◌, ◌-◌, get_or, refl, ◌∙◌, arith}
use Rattle.words.proofs.Numbers.{numeral_digit, read_more, too_large, read_all}
use Rattle.words.proofs.words.number_of.Goals as goal

pub overflow_sub-digit : goal.overflow_sub-digit
overflow_sub-digit c = (numeral_digit _ _ (search rules) c.loop-digit-test.true).0

pub returns-in_err-checked_mul : goal.returns-in_err-checked_mul
returns-in_err-checked_mul c =
    let more = read_more c.loop-digit.value c.args.word.now c.loop-digit.digit-index _ c.loop-digit-test.true refl ∙ c.loop-digit.invariant.1 in
    let large : 2 ^ 32 ≤ 10 * c.loop-digit.value = search rules in
    search rules ∙ too_large c.args.word.now _ _ more (omega (arith, large))

pub returns-in_err-value : goal.returns-in_err-value
returns-in_err-value c =
    let more = read_more c.loop-digit.value c.args.word.now c.loop-digit.digit-index _ c.loop-digit-test.true refl ∙ c.loop-digit.invariant.1 in
    let large : 2 ^ 32 ≤ 10 * c.loop-digit.value + (get_or c.args.word.now c.loop-digit.digit-index 0 - 48) = search rules in
    search rules ∙ too_large c.args.word.now _ _ more large

pub loop-digit-preserved : goal.loop-digit-preserved
loop-digit-preserved c =
    let value : c.in_ok-value.value ≡ 10 * c.loop-digit.value + (get_or c.args.word.now c.loop-digit.digit-index 0 - 48) = search rules in
    (search rules, rw value (read_more c.loop-digit.value c.args.word.now c.loop-digit.digit-index _ c.loop-digit-test.true refl ∙ c.loop-digit.invariant.1))

pub returns : goal.returns
returns c = read_all c.args.word.now c.loop-digit.value c.loop-digit.digit-index (search rules) c.loop-digit-test.false c.loop-digit.invariant.1 c.loop-digit.invariant.0
