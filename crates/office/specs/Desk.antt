-- What the desk answers, and what it has then, by its day and the row of all cards that it barred, the first first. Assumes nothing.
use Rattle.std.specs.Prelude.{ℕ, Bool, cond, ◌&&◌, List, [], ◌∷◌, ◌++◌, length, is_ok, Ok, Err, Result, nat_le, nat_lt}
use Rattle.faults.specs.declared.Fault.{Fault}
use Rattle.faults.specs.declared.Fault.TheVariants.{OutOfRange, ListFull, BarredAlready}
use Rattle.lists.specs.Listed.{listed}

-- what the desk has: its day, and the row of all cards that it barred
pub record Books : Type 0 where
  pub day : ℕ
  pub barred : List ℕ

-- a new desk: day 0, nobody barred
abbrev pub fresh : Books
fresh = record { day = 0; barred = [] }

-- an earlier day than today is refused
abbrev pub day_answer : ℕ → ℕ → Result (Unit {0}) Fault
day_answer d today = cond (nat_lt d today) (Err OutOfRange) (Ok tt)

abbrev pub day_after : ℕ → ℕ → ℕ
day_after d today = cond (nat_lt d today) today d

-- A list has at most 1,024 barrings, and a card is barred once only. The answer is the barring's number: how many there were before.
unfoldable pub bar_answer : ℕ → List ℕ → Result ℕ Fault
bar_answer c bars = cond (nat_lt (length bars) 1024) (cond (listed c bars) (Err BarredAlready) (Ok (length bars))) (Err ListFull)

-- what is refused changes nothing
unfoldable pub barred_after : ℕ → List ℕ → List ℕ
barred_after c bars = cond (is_ok (bar_answer c bars)) (bars ++ (c ∷ [])) bars

-- the desk signed a list with this number
unfoldable pub signed : ℕ → List ℕ → Bool
signed t bars = nat_lt 0 t && nat_le t (length bars)
