-- Who is set up, by number. Assumes nothing.
use Rattle.std.specs.Prelude.{◌≡◌, Bool, List, is_some}
use Rattle.places.specs.Places.{at}
use Rattle.model.specs.declared.Holder.{Holder}
use Rattle.model.specs.declared.Holder.TheVariants.{Card, Lock}
use Rattle.script.specs.declared.roster.Roster.{Roster}
use Rattle.script.specs.Setup.{has}

abbrev pub marked : Roster → Holder → Bool
marked r (Card c) = is_some (at r.cards c)
marked r (Lock l) = is_some (at r.locks l)

-- just these are set up
abbrev pub Lists : Roster → List Holder → Type 0
Lists r hs = (h : Holder) → marked r h ≡ has h hs
