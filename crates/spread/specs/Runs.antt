-- What a run of events gives. Assumes nothing.
use Rattle.std.specs.Prelude.{◌≡◌, ℕ, ◌<◌, ◌≤◌, Bool, List, ◌++◌, reverse, length, Some, None, Ok, Err, vec_items, vec_capacity, Option, Result, Vec, slice_index_or}
use Rattle.std.specs.declared.alloc.Global.{Global}
use Rattle.model.specs.declared.Event.{Event}
use Rattle.model.specs.declared.Answer.{Answer}
use Rattle.model.specs.declared.Holder.{Holder}
use Rattle.model.specs.Run.{answer, after, before}
use Rattle.model.specs.Promise.{Promise}
use Rattle.world.specs.declared.state.World.{World}
use Rattle.world.specs.Roster.{missing}
use Rattle.world.specs.World.{state_of, roster}
use Rattle.spread.specs.declared.RunError.{RunError}
use Rattle.spread.specs.declared.RunError.TheVariants.{NoRoom, Unknown}

-- the first n events name nobody unknown
abbrev pub AllKnown : (Holder → Bool) → List Event → ℕ → Type 0
AllKnown there events n = (k : ℕ) (e : Event) → k < n → missing there (slice_index_or events k e) ≡ None

-- nobody unknown is named, or this event is the first that names one
abbrev pub FirstUnknown : (Holder → Bool) → List Event → Option (ℕ × Holder) → Type 0
FirstUnknown there events None = AllKnown there events (length events)
FirstUnknown there events (Some p) = (p.0 < length events) × ((e : Event) → missing there (slice_index_or events p.0 e) ≡ Some p.1) × AllKnown there events p.0

-- A RUN of events, in order, after whatever happened before: each event has the model's answer, the world is left as the model's state, and what is promised of every run holds at each event.
pub record History (past events : List Event) (v : World) (answers : List Answer) : Type 0 where
  pub state : state_of v ≡ after (reverse events ++ past)
  pub says : (i : ℕ) (e : Event) (d : Answer) → i < length events → slice_index_or answers i d ≡ answer (slice_index_or events i e) (after (before past i events))
  pub promised : (i : ℕ) (e : Event) (d : Answer) → i < length events → Promise (before past i events) (slice_index_or events i e) (slice_index_or answers i d)

pub record Played (w : World) (events : List Event) (v : World) (answers : List Answer) : Type 0 where
  pub known : AllKnown (roster w) events (length events)
  pub there : (h : Holder) → roster v h ≡ roster w h
  pub count : length answers ≡ length events
  pub history : (past : List Event) → state_of w ≡ after past → History past events v answers

-- nothing was played: the world and the answers are as they were
pub record Unplayed (w v : World) (old new : Vec Answer Global) : Type 0 where
  pub world : v ≡ w
  pub answers : new ≡ old

abbrev pub Ran : World → List Event → Vec Answer Global → Result (Unit {0}) RunError → World → Vec Answer Global → Type 0
Ran w events old (Ok _) v new = Played w events v (vec_items new)
Ran w events old (Err NoRoom) v new = (vec_capacity old < length events) × Unplayed w v old new
Ran w events old (Err (Unknown at who)) v new = (length events ≤ vec_capacity old) × FirstUnknown (roster w) events (Some (at, who)) × Unplayed w v old new
