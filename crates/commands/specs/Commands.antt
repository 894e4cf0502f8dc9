-- The commands that a line writes. Assumes nothing.
use Rattle.std.specs.Prelude.{◌≡◌, ℕ, ◌^◌, ◌<◌, ◌≤◌, cond, List, [], ◌∷◌, ◌++◌, Some, None, Ok, Err, codes, decimal, Option, Result, ◌≢◌}
use Rattle.std.specs.Str.{bytes_eq}
use Rattle.commands.specs.declared.command.Command.{Command}
use Rattle.commands.specs.declared.command.Command.TheVariants.{Lock, Card, Day, Bar, Desk, Visit, Thief}
use Rattle.words.specs.declared.wrong.Wrong.{Wrong}
use Rattle.words.specs.declared.wrong.Wrong.TheVariants.{UnknownCommand, MissingWord, UnexpectedWord}
use Rattle.words.specs.Words.{Reading, then, id_from, number_from, option_from}

-- ---- a command as it is written

abbrev pub optional : List ℕ → Option ℕ → List ℕ
optional key None = []
optional key (Some n) = key ++ decimal n

abbrev pub written : Command → List ℕ
written (Lock l) = codes "lock " ++ decimal l
written (Card c) = codes "card " ++ decimal c
written (Day d) = codes "day " ++ decimal d
written (Bar c) = codes "bar " ++ decimal c
written (Desk c) = codes "desk " ++ decimal c
written (Visit c l) = codes "visit " ++ (decimal c ++ (codes " " ++ decimal l))
written (Thief c l s g) = codes "thief " ++ (decimal c ++ (codes " " ++ (decimal l ++ (optional (codes " says ") s ++ optional (codes " gives ") g))))

-- ---- and when it is lawful

-- of a card or a lock
abbrev pub Id : ℕ → Type 0
Id n = (1 ≤ n) × (n < 65536)

abbrev pub Number : ℕ → Type 0
Number n = n < 2 ^ 32

abbrev pub Perhaps : Option ℕ → Type 0
Perhaps None = Unit {0}
Perhaps (Some n) = Number n

abbrev pub Lawful : Command → Type 0
Lawful (Lock l) = Id l
Lawful (Card c) = Id c
Lawful (Day d) = Number d
Lawful (Bar c) = Id c
Lawful (Desk c) = Id c
Lawful (Visit c l) = Id c × Id l
Lawful (Thief c l s g) = Id c × Id l × Perhaps s × Perhaps g

-- ---- how it is read: from the words that are left

-- the command that is made of what was read
abbrev pub making : {X : Type 0} → (X → Command) → Reading X → Reading Command
making make r = then r (λ x rest. Ok (make x, rest))

abbrev pub visit_from : List (List ℕ) → Reading Command
visit_from ws = then (id_from ws) (λ c xs. making (λ l. Visit c l) (id_from xs))

abbrev pub thief_from : List (List ℕ) → Reading Command
thief_from ws =
    then (id_from ws) (λ c xs. then (id_from xs) (λ l ys. then (option_from (codes "says") ys) (λ s zs. making (λ g. Thief c l s g) (option_from (codes "gives") zs))))

-- the command named w, from the words after its name
abbrev pub command_from : List ℕ → List (List ℕ) → Reading Command
command_from w ws =
    cond (bytes_eq w (codes "lock")) (making (λ l. Lock l) (id_from ws))
    (cond (bytes_eq w (codes "card")) (making (λ c. Card c) (id_from ws))
    (cond (bytes_eq w (codes "day")) (making (λ d. Day d) (number_from ws))
    (cond (bytes_eq w (codes "bar")) (making (λ c. Bar c) (id_from ws))
    (cond (bytes_eq w (codes "desk")) (making (λ c. Desk c) (id_from ws))
    (cond (bytes_eq w (codes "visit")) (visit_from ws)
    (cond (bytes_eq w (codes "thief")) (thief_from ws) (Err UnknownCommand)))))))

abbrev pub ended : Command → List (List ℕ) → Result Command Wrong
ended k [] = Ok k
ended k (w ∷ ws) = Err UnexpectedWord

abbrev pub parsed : List (List ℕ) → Result Command Wrong
parsed [] = Err MissingWord
parsed (w ∷ ws) = then (command_from w ws) ended

-- ---- the law of a line: its command is the lawful one that is written so, and a refused line is none

abbrev pub Read : List ℕ → Result Command Wrong → Type 0
Read bs (Ok k) = Lawful k × (written k ≡ bs)
Read bs (Err _) = (k : Command) → Lawful k → written k ≢ bs
