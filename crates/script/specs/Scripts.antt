-- What a whole script says. Assumes nothing.
use Rattle.std.specs.Prelude.{◌≡◌, ℕ, ◌+◌, ◌<◌, List, [], ◌∷◌, ◌++◌, map, length, Ok, Err, Result, ◌≢◌}
use Rattle.std.specs.Option.{option_to_list}
use Rattle.std.specs.List.{AllByRecursion}
use Rattle.commands.specs.declared.command.Command.{Command}
use Rattle.words.specs.declared.wrong.Wrong.{Wrong}
use Rattle.words.specs.declared.wrong.Wrong.TheVariants.{NoNewline, Empty}
use Rattle.script.specs.declared.LineFault.{LineFault}
use Rattle.script.specs.declared.Script.{Script}
use Rattle.script.specs.declared.ScriptError.{ScriptError}
use Rattle.script.specs.declared.ScriptError.TheVariants.{Faulty, NoMemory}
use Rattle.words.specs.Lines.{pieces, bare_of}
use Rattle.script.specs.Setup.{holders_of, command_on, Ready, InOrder}
use Rattle.commands.specs.Commands.{Lawful, written}

-- ---- what is read, line by line

abbrev pub fault_at : ℕ → Wrong → LineFault
fault_at n w = record { line = n; wrong = w }

-- what stands after the last newline has to be nothing, and a script has to have a command
abbrev pub at_end : ℕ → List Command → List ℕ → Result (List Command) LineFault
at_end n [] [] = Err (fault_at 1 Empty)
at_end n (k ∷ ks) [] = Ok (k ∷ ks)
at_end n ks (b ∷ bs) = Err (fault_at n NoNewline)

-- from the line n on, after the commands ks
unfoldable pub script_from : ℕ → List Command → List (List ℕ) → Result (List Command) LineFault
script_from n ks [] = at_end n ks []
script_from n ks (l ∷ []) = at_end n ks l
script_from n ks (l ∷ m ∷ ls) =
    elim (command_on (holders_of ks) l) [
      | Ok o ↦ script_from (n + 1) (ks ++ option_to_list o) (m ∷ ls)
      | Err w ↦ Err (fault_at n w)
    ]

abbrev pub script_of : List ℕ → Result (List Command) LineFault
script_of text = script_from 1 [] (pieces 10 text)

-- ---- what `read` answers

abbrev pub Is : Result (List Command) LineFault → Result Script ScriptError → Type 0
Is x (Ok ks) = x ≡ Ok ks
Is x (Err (Faulty f)) = x ≡ Err f
Is x (Err NoMemory) = Unit {0}

-- ---- the law of a script: it says these commands, and a refused one says none

-- the lines that say something
abbrev pub filled : List (List ℕ) → List (List ℕ)
filled [] = []
filled ([] ∷ ls) = filled ls
filled ((b ∷ bs) ∷ ls) = (b ∷ bs) ∷ filled ls

-- the lines, each with its newline, say the commands ks as they are written, each lawful and ready after those above it
pub record Sound (rows : List (List ℕ)) (ks : List Command) : Type 0 where
  pub same : filled (map bare_of rows) ≡ map written ks
  pub lawful : AllByRecursion Lawful ks
  pub ready : InOrder [] ks

-- the whole text does: nothing stands after its last newline, and there is a command
pub record Says (text : List ℕ) (ks : List Command) : Type 0 where
  pub rows : List (List ℕ)
  pub whole : pieces 10 text ≡ rows ++ [] ∷ []
  pub sound : Sound rows ks
  pub some : 0 < length ks

-- a line says something, and it is no command that may stand after the commands ks
abbrev pub NoCommand : List Command → List ℕ → Type 0
NoCommand ks t = (t ≢ []) × ((k : Command) → Lawful k → Ready ks k → written k ≢ t)

-- what is wrong after the commands ks, with the rest of the text from its n-th line on
abbrev pub Stops : ℕ → List Command → List (List ℕ) → LineFault → Type 0
Stops n ks [] f = ⊥
Stops n ks (l ∷ []) f = at_end n ks l ≡ Err f
Stops n ks (l ∷ m ∷ ls) f = (f.line ≡ n) × (command_on (holders_of ks) l ≡ Err f.wrong) × NoCommand ks (bare_of l)

-- the lines above the fault are in order
pub record FirstFault (text : List ℕ) (f : LineFault) : Type 0 where
  pub rows : List (List ℕ)
  pub rest : List (List ℕ)
  pub commands : List Command
  pub whole : pieces 10 text ≡ rows ++ rest
  pub sound : Sound rows commands
  pub stops : Stops (1 + length rows) commands rest f

abbrev pub ScriptLaw : List ℕ → Result Script ScriptError → Type 0
ScriptLaw text (Ok ks) = Says text ks
ScriptLaw text (Err (Faulty f)) = FirstFault text f × ((ks : List Command) → Says text ks → ⊥)
ScriptLaw text (Err NoMemory) = Unit {0}
