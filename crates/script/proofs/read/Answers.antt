use Rattle.std.proofs.Common.{◌≡◌, ◌-◌, ◌+◌, ◌<◌, length, get_or, sym, ap, ◌∙◌, arith, rules, Ok, Err, None, Some}
use Rattle.std.specs.Iterator.Adapters.{enumerate_source}
use Rattle.std.proofs.lemmas.Result.{err_from_is_err_and}
use borrow.Author.Tests.{tests}
use Rattle.words.specs.declared.wrong.Wrong.TheVariants.{NoNewline, Empty}
use Rattle.script.specs.declared.ScriptError.TheVariants.{Faulty}
use Rattle.script.specs.Scripts.{fault_at}
use Rattle.script.proofs.Rows.{row_of, line_of, row_cut_off}
use Rattle.script.proofs.Turns.{wrong_line, no_command, one_command, no_newline, all_read, nothing_read}
use Rattle.script.proofs.Says.{script_law}
use Rattle.script.proofs.read.Goals as goal
use Rattle.script.proofs.read.Goals.{in_default-via-then-row-lt1, in_default-via-else-row-lt1+in_default-1}

pub returns-in_default : goal.returns-in_default
returns-in_default c =
    let step = c.in-Some.ensures.steps in
    let row = row_of _ (enumerate_source c.loop-above.above-iterator) (enumerate_source c.next.new.self) c.in-Some.row step.0 (λ f a r g k. search (rules, tests)) in
    let other : get_or c.in-Some.row.now (length c.in-Some.row.now - 1) 0 ≡ 10 → ⊥ =
    elim c.in_default.branch [
      | in_default-via-then-row-lt1 w ↦ let short : length c.in-Some.row.now < 1 = search rules in absurd (omega (arith, row.long, row.filled))
      | in_default-via-else-row-lt1+in_default-1 w ↦ search rules
    ] in
    let value = no_newline c.loop-above.invariant.2 row.filled (row_cut_off row other) ∙ ap (λ n. Err (fault_at (n + 1) NoNewline)) (sym step.1) in
    let is : c.into.result ≡ Faulty (fault_at (c.in-Some.above + 1) NoNewline) = search rules in
    rw is (record { value = value; law = script_law c.args.text.now (Err (Faulty (fault_at _ _))) value })

pub returns-in_err-said : goal.returns-in_err-said
returns-in_err-said c =
    let step = c.in-Some.ensures.steps in
    let next = line_of _ (enumerate_source c.loop-above.above-iterator) (enumerate_source c.next.new.self) c.in-Some.row step.0 (λ f a r g k. search (rules, tests)) (search rules) in
    let p = err_from_is_err_and c.from_residual.result c.from_residual.ensures.1 in
    let wrong : c.command_on.result ≡ Err c.in_err-said.field-0.0.wrong = search rules in
    let line : c.in_err-said.field-0.0.line ≡ c.in-Some.above + 1 = search rules in
    let value = wrong_line c.loop-above.invariant.2 _ _ c.in_err-said.field-0.0.wrong next (sym c.command_on.ensures ∙ wrong) ∙ ap (λ n. Err (fault_at n c.in_err-said.field-0.0.wrong)) (ap (λ n. n + 1) (sym step.1) ∙ sym line) in
    rw (p.1, p.2) (record { value = value; law = script_law c.args.text.now (Err (Faulty _)) value })

pub loop-above-preserved : goal.loop-above-preserved
loop-above-preserved c =
    let step = c.in-Some.ensures.steps in
    let next = line_of _ (enumerate_source c.loop-above.above-iterator) (enumerate_source c.next.new.self) c.in-Some.row step.0 (λ f a r g k. search (rules, tests)) (search rules) in
    let heard : c.command_on.result ≡ Ok None = search rules in
    (search rules, search rules, rw step.2 (no_command c.loop-above.invariant.2 _ _ next (sym c.command_on.ensures ∙ heard)))

pub loop-above-preserved-in-Continue-branch-2 : goal.loop-above-preserved-in-Continue-branch-2
loop-above-preserved-in-Continue-branch-2 c =
    let step = c.in-Some.ensures.steps in
    let next = line_of _ (enumerate_source c.loop-above.above-iterator) (enumerate_source c.next.new.self) c.in-Some.row step.0 (λ f a r g k. search (rules, tests)) (search rules) in
    let heard : c.command_on.result ≡ Ok (Some c.in-Some-said.command) = search rules in
    (search rules, search rules, rw (step.2, c.in_ok-add.ensures) (one_command c.loop-above.invariant.2 _ _ _ next (sym c.command_on.ensures ∙ heard)))

pub returns-then-is_empty : goal.returns-then-is_empty
returns-then-is_empty c =
    let none : length c.loop-above.script ≡ 0 = search (rules, tests) in
    let value = nothing_read c.loop-above.invariant.2 c.in-None.ensures.steps.0.0 none in
    let is : c.into-then-is_empty.result ≡ Faulty (fault_at 1 Empty) = search rules in
    rw is (record { value = value; law = script_law c.args.text.now (Err (Faulty (fault_at 1 Empty))) value })

pub returns : goal.returns
returns c =
    let some : 0 < length c.loop-above.script = search (rules, tests) in
    let value = all_read c.loop-above.invariant.2 c.in-None.ensures.steps.0.0 some in
    record { value = value; law = script_law c.args.text.now (Ok c.loop-above.script) value }
