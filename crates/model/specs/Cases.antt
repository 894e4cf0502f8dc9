-- Worked cases: events in the order in which they happen, how each visit ended (0 opened, 6 turned away as barred), and the number of the list that somebody has at the end. Assumes nothing.
use Rattle.std.specs.Prelude.{◌≡◌, ℕ, List, [], ◌∷◌, ◌++◌, map, reverse, Some, None}
use Rattle.faults.specs.Numbers.{end_number}
use Rattle.model.specs.declared.Event.{Event}
use Rattle.model.specs.declared.Event.TheVariants.{Bar, AtDesk, Visit, Adversary}
use Rattle.model.specs.declared.Answer.{Answer}
use Rattle.model.specs.declared.Answer.TheVariants.{Today, Barring, Given, Decided, BrokenOff, NoList}
use Rattle.model.specs.declared.Holder.{Holder}
use Rattle.model.specs.declared.Holder.TheVariants.{Card, Lock}
use Rattle.model.specs.Run.{number, answer, after}

pub record Case : Type 0 where
  pub events : List Event
  pub ends : List ℕ
  pub holder : Holder
  pub list : ℕ

-- the number of a visit's end before those of later visits; other answers have none
abbrev pub end_before : Answer → List ℕ → List ℕ
end_before (Decided v) later = end_number v ∷ later
end_before Today later = later
end_before (Barring r) later = later
end_before (Given t) later = later
end_before (Answer.Refused f) later = later
end_before BrokenOff later = later
end_before NoList later = later

-- of events, the latest first, the visits' ends in order, before those of later visits
abbrev pub visit_ends : List Event → List ℕ → List ℕ
visit_ends [] later = later
visit_ends (e ∷ es) later = visit_ends es (end_before (answer e (after es)) later)

abbrev pub got : Case → List ℕ × ℕ
got k = (visit_ends (reverse k.events) [], number k.holder (after (reverse k.events)))

abbrev pub wanted : Case → List ℕ × ℕ
wanted k = (k.ends, k.list)

-- an adversary shows card 7 at a lock, says that it has no list, and takes nothing
abbrev pub shows_7 : ℕ → Event
shows_7 l = Adversary 7 l 0 None

-- card 7 is barred, and card 1 carries the word from the desk to lock 5
abbrev pub informed_5 : List Event
informed_5 = Bar 7 ∷ AtDesk 1 ∷ Visit 1 5 ∷ []

-- A lock that an informed card visited turns the barred card away.
abbrev pub one_lock : Case
one_lock = record { events = informed_5 ++ (shows_7 5 ∷ []); ends = 0 ∷ 6 ∷ []; holder = Lock 5; list = 1 }

-- A second card carries the word on from lock 5 to lock 6, and lock 6 turns the barred card away; lock 8, which nobody visited, opens.
abbrev pub next_lock : Case
next_lock = record {
  events = informed_5 ++ (shows_7 5 ∷ Visit 2 5 ∷ Visit 2 6 ∷ shows_7 6 ∷ shows_7 8 ∷ []);
  ends = 0 ∷ 6 ∷ 0 ∷ 0 ∷ 6 ∷ 0 ∷ [];
  holder = Lock 6;
  list = 1;
}

-- A card that was at the desk before the barring carries no word of it.
abbrev pub too_early : Case
too_early = record { events = AtDesk 1 ∷ Bar 7 ∷ Visit 1 5 ∷ shows_7 5 ∷ []; ends = 0 ∷ 0 ∷ []; holder = Lock 5; list = 0 }

-- An adversary's card takes nothing from the lock.
abbrev pub takes_nothing : Case
takes_nothing = record { events = informed_5 ++ (shows_7 5 ∷ []); ends = 0 ∷ 6 ∷ []; holder = Card 7; list = 0 }

-- In an honest hand the barred card carries its own barring: lock 6 learns it from the card that it turns away.
abbrev pub own_barring : Case
own_barring = record { events = informed_5 ++ (Visit 7 5 ∷ Visit 7 6 ∷ []); ends = 0 ∷ 6 ∷ 6 ∷ []; holder = Lock 6; list = 1 }

-- A lock with list 4 and a card with list 3: the card gets list 4.
abbrev pub card_gets : Case
card_gets = record {
  events = Bar 11 ∷ Bar 12 ∷ Bar 13 ∷ AtDesk 2 ∷ Bar 14 ∷ AtDesk 1 ∷ Visit 1 6 ∷ Visit 2 6 ∷ [];
  ends = 0 ∷ 0 ∷ [];
  holder = Card 2;
  list = 4;
}

-- An adversary that gives list 1 as what it is informs the lock of barring 0, and of no other.
abbrev pub old_list : Case
old_list = record { events = Bar 7 ∷ Bar 11 ∷ Adversary 7 5 1 (Some 1) ∷ Adversary 11 5 0 None ∷ []; ends = 6 ∷ 0 ∷ []; holder = Lock 5; list = 1 }

-- One that says 2 and gives list 1 is not believed, and the lock decides with what it has; one that gives nothing where the lock awaits a list gets no decision; nor does one that gives a list that was never signed.
abbrev pub liars : Case
liars = record {
  events = Bar 7 ∷ Bar 11 ∷ Adversary 7 5 2 (Some 1) ∷ Adversary 7 5 2 None ∷ Adversary 7 5 3 (Some 3) ∷ [];
  ends = 0 ∷ [];
  holder = Lock 5;
  list = 0;
}

-- A card is barred once only, so that its second barring makes no list.
abbrev pub barred_twice : Case
barred_twice = record { events = Bar 7 ∷ Bar 7 ∷ AtDesk 1 ∷ []; ends = []; holder = Card 1; list = 1 }

abbrev pub cases : List Case
cases = one_lock ∷ next_lock ∷ too_early ∷ takes_nothing ∷ own_barring ∷ card_gets ∷ old_list ∷ liars ∷ barred_twice ∷ []

abbrev pub AsWorked : Type 0
AsWorked = map got cases ≡ map wanted cases
