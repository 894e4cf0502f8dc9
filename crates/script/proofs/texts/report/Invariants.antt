use Rattle.std.proofs.Common.{◌≡◌, ◌++◌, drop, string_bytes}
use Rattle.std.specs.Slice.Iter.{iter_rest}
use Rattle.script.specs.Texts.{report_text}
use Rattle.script.proofs.texts.report.Given as goal

-- what is written, and then the lines of the commands that are left, is the whole report
abbrev pub invariant-loop-command : goal.invariant-loop-command
invariant-loop-command l = string_bytes l.text ++ report_text (drop l.command-index l.commands) (iter_rest l.rest) ≡ report_text l.commands l.answers
