-- What a world is, the model's state that it stands for, and what set-up and a step give. Assumes nothing.
use Rattle.std.specs.Prelude.{◌≡◌, ◌↔◌, ℕ, Bool, List, Contains, IsTrue, is_some, unwrap_or, Some, None, Ok, Err, Option, Result}
use Rattle.places.specs.Places.{at}
use Rattle.model.specs.declared.Event.{Event}
use Rattle.model.specs.declared.Answer.{Answer}
use Rattle.model.specs.declared.Holder.{Holder}
use Rattle.model.specs.declared.Holder.TheVariants.{Card, Lock}
use Rattle.model.specs.Run.{State, start, step, answer}
use Rattle.world.specs.declared.state.World.{World}
use Rattle.world.specs.Roster.{missing}

-- the number of the list of a card or a lock, if it is set up
abbrev pub list_in : List (Option ℕ) → List (Option ℕ) → Holder → Option ℕ
list_in cards locks (Card c) = at cards c
list_in cards locks (Lock l) = at locks l

abbrev pub list_of : World → Holder → Option ℕ
list_of w h = list_in w.cards w.locks h

-- who is not set up has no list
abbrev pub state_of : World → State
state_of w = record { day = w.desk.day; barred = w.desk.barred; card = λ c. unwrap_or (list_of w (Card c)) 0; lock = λ l. unwrap_or (list_of w (Lock l)) 0 }

abbrev pub roster : World → Holder → Bool
roster w h = is_some (list_of w h)

-- a new world
pub record Fresh (holders : List Holder) (w : World) : Type 0 where
  pub state : state_of w ≡ start
  pub there : (h : Holder) → IsTrue (roster w h) ↔ Contains holders h

-- an event that goes: its answer and what it leaves are the model's
pub record Moves (w : World) (e : Event) (a : Answer) (v : World) : Type 0 where
  pub known : missing (roster w) e ≡ None
  pub says : a ≡ answer e (state_of w)
  pub state : state_of v ≡ step e (state_of w)
  pub there : (h : Holder) → roster v h ≡ roster w h

-- an event that names somebody unknown changes nothing
pub record Stays (w : World) (e : Event) (who : Holder) (v : World) : Type 0 where
  pub unknown : missing (roster w) e ≡ Some who
  pub same : v ≡ w

abbrev pub Steps : World → Event → Result Answer Holder → World → Type 0
Steps w e (Ok a) v = Moves w e a v
Steps w e (Err who) v = Stays w e who v
