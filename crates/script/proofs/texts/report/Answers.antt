use Rattle.std.proofs.Common.{string_bytes, sym, ap, ◌∙◌}
use Rattle.std.specs.Slice.Iter.{iter_rest}
use Rattle.script.specs.Texts.{report_text}
use Rattle.script.proofs.Reported.{not_asked, taken, turn, lines_all}
use Rattle.script.proofs.texts.report.Goals as goal
use Rattle.script.proofs.texts.report.Goals.{in-None, in-Some}

pub loop-command-preserved : goal.loop-command-preserved
loop-command-preserved c =
    turn (report_text c.args.commands.now c.args.answers.now) (string_bytes c.loop-command.text) (string_bytes c.writeln.new.self) c.args.commands.now (iter_rest c.loop-command.rest) (iter_rest c.match-event.rest)
    c.loop-command.command-index _ c.match-event.answer c.loop-command-test.true c.loop-command.invariant
    (elim c.match-event.branch [
      | in-None w ↦ let p = not_asked _ (iter_rest c.loop-command.rest) (sym c.event.ensures ∙ w.in-None.is) in (w.answer-is ∙ p.0, ap iter_rest w.rest-is ∙ p.1)
      | in-Some w ↦
          let p = taken _ _ _ _ _ (sym c.event.ensures ∙ w.in-Some.is) w.next.ensures.steps in
          (w.answer-is ∙ w.copied-answer.ensures ∙ p.0, ap iter_rest w.rest-is ∙ p.1)
    ])
    c.in_ok-writeln.ensures.bytes

pub returns : goal.returns
returns c =
    lines_all (report_text c.args.commands.now c.args.answers.now) (string_bytes c.loop-command.text) c.args.commands.now (iter_rest c.loop-command.rest) c.loop-command.command-index c.loop-command-test.false c.loop-command.invariant
