-- The texts that a valley prints. Assumes nothing.
use Rattle.std.specs.Prelude.{ℕ, List, [], ◌∷◌, ◌++◌, Some, None, codes, decimal, Option}
use Rattle.std.specs.List.{flat_map}
use Rattle.faults.specs.Numbers.{fault_number}
use Rattle.faults.specs.declared.VisitEnd.TheVariants.{Opened, Refused as TurnedAway}
use Rattle.commands.specs.Plays.{event_of}
use Rattle.commands.specs.Commands.{written}
use Rattle.commands.specs.declared.command.Command.{Command}
use Rattle.model.specs.declared.Event.{Event}
use Rattle.model.specs.declared.Answer.{Answer}
use Rattle.model.specs.declared.Answer.TheVariants.{Today, Barring, Given, Refused, Decided, BrokenOff, NoList}

-- what came of an event, or that a card or a lock is set up
abbrev pub outcome_text : Option Answer → List ℕ
outcome_text None = codes "ready"
outcome_text (Some Today) = codes "today"
outcome_text (Some (Barring n)) = codes "barring " ++ decimal n
outcome_text (Some (Given t)) = codes "list " ++ decimal t
outcome_text (Some (Refused f)) = codes "refused " ++ decimal (fault_number f)
outcome_text (Some (Decided Opened)) = codes "opened"
outcome_text (Some (Decided (TurnedAway f))) = codes "turned away " ++ decimal (fault_number f)
outcome_text (Some BrokenOff) = codes "broken off"
outcome_text (Some NoList) = codes "no list"

-- the answer to a command that plays an event is the next one, and set-up has none
abbrev pub answered : Option Event → List Answer → Option Answer
answered None xs = None
answered (Some e) [] = None
answered (Some e) (a ∷ xs) = Some a

abbrev pub unanswered : Option Event → List Answer → List Answer
unanswered None xs = xs
unanswered (Some e) [] = []
unanswered (Some e) (a ∷ xs) = xs

-- a line for each command: as it is written, and what came of it
abbrev pub line_text : Command → Option Answer → List ℕ
line_text k a = written k ++ (codes ": " ++ (outcome_text a ++ codes "\n"))

unfoldable pub report_text : List Command → List Answer → List ℕ
report_text [] xs = []
report_text (k ∷ ks) xs = line_text k (answered (event_of k) xs) ++ report_text ks (unanswered (event_of k) xs)

abbrev pub one : ℕ → List ℕ
one c = codes " " ++ decimal c

abbrev pub bars_text : List ℕ → List ℕ
bars_text [] = codes " none"
bars_text (c ∷ cs) = flat_map one (c ∷ cs)

-- what a lock has
abbrev pub lock_text : ℕ → ℕ → List ℕ → List ℕ
lock_text l t cs = codes "lock " ++ (decimal l ++ (codes ": list " ++ (decimal t ++ (codes ", bars" ++ bars_text cs))))
