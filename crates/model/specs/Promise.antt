-- What is promised of every run. Each is a type; a proof of the type is the theorem. Assumes nothing.
use Rattle.std.specs.Prelude.{◌≡◌, ℕ, ◌<◌, ◌≤◌, true, ◌⊎◌, ◌↔◌, List, ◌∷◌, ◌++◌, length, Option}
use Rattle.faults.specs.declared.Fault.{Fault}
use Rattle.faults.specs.declared.VisitEnd.{VisitEnd}
use Rattle.faults.specs.Numbers.{fault_number, end_number}
use Rattle.visits.specs.Exchange.{comes}
use Rattle.model.specs.declared.Event.{Event}
use Rattle.model.specs.declared.Event.TheVariants.{Bar, AtDesk, Visit, Adversary}
use Rattle.model.specs.declared.Answer.{Answer}
use Rattle.model.specs.declared.Answer.TheVariants.{Today, Barring, Given, Decided, BrokenOff, NoList}
use Rattle.model.specs.declared.Holder.{Holder}
use Rattle.model.specs.declared.Holder.TheVariants.{Lock}
use Rattle.model.specs.Run.{State, number, has, answer, after}
use Rattle.model.specs.Informed.{BarringOf, Informed}

-- In the state s, the event is a visit that comes to the decision of lock l on card c: an honest card's always; an adversary's if it has what it gives, and gives a list where the lock awaits one.
pub data Shows (s : State) : Event → ℕ → ℕ → Type 0 where
  honest : (c l : ℕ) → Shows s (Visit c l) c l
  adversary : (c l says : ℕ) (gives : Option ℕ) → has gives s ≡ true → comes (s.lock l) says gives ≡ true → Shows s (Adversary c l says gives) c l

-- a lock's answer, by the number of the visit's end: 0 for opened, 6 for turned away as barred
abbrev pub Ends : ℕ → Answer → Type 0
Ends n a = (v : VisitEnd) × (a ≡ Decided v) × (end_number v ≡ n)

abbrev pub Opens : Answer → Type 0
Opens = Ends 0

abbrev pub TurnsAway : Answer → Type 0
TurnsAway = Ends 6

-- word of a barring of card c can have come to lock l
abbrev pub KnowsBarred : List Event → ℕ → ℕ → Type 0
KnowsBarred es c l = (r : ℕ) × BarringOf r c es × Informed r es (Lock l)

-- the answers to what is refused, and to a visit that comes to no decision
abbrev pub Unmoved : Answer → Type 0
Unmoved (Answer.Refused f) = Unit {0}
Unmoved BrokenOff = Unit {0}
Unmoved NoList = Unit {0}
Unmoved Today = ⊥
Unmoved (Barring r) = ⊥
Unmoved (Given t) = ⊥
Unmoved (Decided v) = ⊥

-- THE PROMISE on one event e after the events es, the latest first, that was answered with a.
pub record Promise (es : List Event) (e : Event) (a : Answer) : Type 0 where
  -- a visit that comes to the lock's decision ends in one of two ways
  pub either : (c l : ℕ) → Shows (after es) e c l → TurnsAway a ⊎ Opens a
  -- whoever shows a card, it is turned away as barred exactly if word of its barring can have come to the lock
  pub turned_away : (c l : ℕ) → Shows (after es) e c l → (TurnsAway a ↔ KnowsBarred (e ∷ es) c l)
  -- and every other card is let in
  pub let_in : (c l : ℕ) → Shows (after es) e c l → (Opens a ↔ (KnowsBarred (e ∷ es) c l → ⊥))
  -- a card that was never barred is let in everywhere
  pub never_barred : (c l : ℕ) → Shows (after es) e c l → ((r : ℕ) → BarringOf r c es → ⊥) → Opens a
  -- one visit is enough: once a card that was at the desk since a barring has been at a lock, the barred card is turned away there for ever
  pub one_visit : (before between later : List Event) (d l c r : ℕ) → es ≡ later ++ (Visit d l ∷ between ++ (AtDesk d ∷ before)) →
      BarringOf r c before → Shows (after es) e c l → TurnsAway a
  -- a list's number says exactly of which barrings its holder can have been informed
  pub exact : (r : ℕ) (h : Holder) → ((r < number h (after (e ∷ es))) ↔ Informed r (e ∷ es) h)
  -- nothing is forgotten: no holder's number falls, and the barrings stay as they were made
  pub kept : (h : Holder) → number h (after es) ≤ number h (after (e ∷ es))
  pub made : (r c : ℕ) → BarringOf r c es → BarringOf r c (e ∷ es)
  -- what is refused or broken off changes nothing
  pub unchanged : Unmoved a → after (e ∷ es) ≡ after es

-- 1. Every event of every run keeps the promise.
abbrev pub Main : Type 0
Main = (es : List Event) (e : Event) → Promise es e (answer e (after es))

-- 2. A card is barred once only: no card has two barrings, and a second barring is refused, as barred already (10), or because the list is full (9).
abbrev pub Once : Type 0
Once =
    (es : List Event) (c q r : ℕ) →
    (BarringOf q c es → BarringOf r c es → q ≡ r) ×
    (BarringOf r c es → (f : Fault) × (answer (Bar c) (after es) ≡ Answer.Refused f) × ((fault_number f ≡ 10) ⊎ ((fault_number f ≡ 9) × (length (after es).barred ≡ 1024))))

-- 3. Barrings are numbered from 0 on, and come about only by a barring that the desk accepted: number r is of card c exactly if some event was to bar c, and was answered with r.
abbrev pub Numbered : Type 0
Numbered =
    (es : List Event) (r c : ℕ) →
    (BarringOf r c es ↔ ((later : List Event) × (earlier : List Event) × (es ≡ later ++ (Bar c ∷ earlier)) × (answer (Bar c) (after earlier) ≡ Barring r)))
