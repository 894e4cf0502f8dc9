-- What each event brings about, and what a row of events leaves. Assumes nothing.
use Rattle.std.specs.Prelude.{ℕ, Bool, true, cond, List, [], ◌∷◌, ◌++◌, reverse, length, take, Some, None, Ok, Err, Option, Result, ◌==◌}
use Rattle.faults.specs.declared.Fault.{Fault}
use Rattle.office.specs.Desk.{day_answer, day_after, bar_answer, barred_after, signed}
use Rattle.visits.specs.Exchange.{newer, heard, comes, decision}
use Rattle.model.specs.declared.Event.{Event}
use Rattle.model.specs.declared.Event.TheVariants.{Day, Bar, AtDesk, Visit, Adversary}
use Rattle.model.specs.declared.Answer.{Answer}
use Rattle.model.specs.declared.Answer.TheVariants.{Today, Barring, Given, Decided, BrokenOff, NoList}
use Rattle.model.specs.declared.Holder.{Holder}
use Rattle.model.specs.declared.Holder.TheVariants.{Card, Lock}

-- The desk's day; all cards that it barred, the first first: a barring's number is its place; and for each card and lock the number of its list. The list with number n is the first n barrings.
pub record State : Type 0 where
  pub day : ℕ
  pub barred : List ℕ
  pub card : ℕ → ℕ
  pub lock : ℕ → ℕ

-- nobody is barred, and nobody has a list
abbrev pub start : State
start = record { day = 0; barred = []; card = λ c. 0; lock = λ l. 0 }

-- a table with one place changed
abbrev pub put : ℕ → ℕ → (ℕ → ℕ) → ℕ → ℕ
put i x f j = cond (j == i) x (f j)

-- the number of a holder's list
abbrev pub number : Holder → State → ℕ
number (Card c) s = s.card c
number (Lock l) s = s.lock l

-- an adversary can give only what the desk signed
abbrev pub has : Option ℕ → State → Bool
has None s = true
has (Some t) s = signed t s.barred

-- the lock's list after it heard an adversary
abbrev pub after_hearing : ℕ → ℕ → Option ℕ → State → ℕ
after_hearing l says gives s = cond (has gives s) (heard (s.lock l) says gives) (s.lock l)

abbrev pub step : Event → State → State
step (Day d) s = record { day = day_after d s.day; barred = s.barred; card = s.card; lock = s.lock }
step (Bar c) s = record { day = s.day; barred = barred_after c s.barred; card = s.card; lock = s.lock }
step (AtDesk c) s = record { day = s.day; barred = s.barred; card = put c (length s.barred) s.card; lock = s.lock }
step (Visit c l) s = record {
  day = s.day;
  barred = s.barred;
  card = put c (newer (s.card c) (s.lock l)) s.card;
  lock = put l (newer (s.card c) (s.lock l)) s.lock;
}
step (Adversary c l says gives) s = record { day = s.day; barred = s.barred; card = s.card; lock = put l (after_hearing l says gives s) s.lock }

-- what the desk says to a day and to a barring
abbrev pub of_day : Result (Unit {0}) Fault → Answer
of_day (Ok _) = Today
of_day (Err f) = Answer.Refused f

abbrev pub of_barring : Result ℕ Fault → Answer
of_barring (Ok r) = Barring r
of_barring (Err f) = Answer.Refused f

abbrev pub answer : Event → State → Answer
answer (Day d) s = of_day (day_answer d s.day)
answer (Bar c) s = of_barring (bar_answer c s.barred)
answer (AtDesk c) s = Given (length s.barred)
answer (Visit c l) s = Decided (decision c (take (newer (s.card c) (s.lock l)) s.barred))
answer (Adversary c l says gives) s =
    cond (has gives s) (cond (comes (s.lock l) says gives) (Decided (decision c (take (after_hearing l says gives s) s.barred))) BrokenOff) NoList

-- events, the latest first
unfoldable pub after : List Event → State
after [] = start
after (e ∷ es) = step e (after es)

-- all events before place i of a row, the latest first, where some came before the row
abbrev pub before : List Event → ℕ → List Event → List Event
before past i events = reverse (take i events) ++ past
