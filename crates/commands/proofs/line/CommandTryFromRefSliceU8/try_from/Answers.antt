use Rattle.std.proofs.Common.{◌≡◌, Ok, rules}
use Rattle.words.specs.Words.{words_of}
use Rattle.commands.specs.Commands.{parsed}
use Rattle.commands.proofs.Spelt.{read_law}
use Rattle.commands.proofs.line.CommandTryFromRefSliceU8.try_from.Goals as goal

pub returns : goal.returns
returns c =
    let value : Ok c.in_ok-command.command ≡ parsed (words_of c.args.line.now) = search rules in
    (value, read_law _ _ value)
