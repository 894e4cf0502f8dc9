-- How word of a revocation spreads. Assumes nothing.
use Rattle.std.specs.Prelude.{◌≡◌, ℕ, ◌<◌, true, List, ◌∷◌, length, Some, slice_index}
use Rattle.office.specs.Desk.{signed}
use Rattle.model.specs.declared.Event.{Event}
use Rattle.model.specs.declared.Event.TheVariants.{AtDesk, Visit, Adversary}
use Rattle.model.specs.declared.Holder.{Holder}
use Rattle.model.specs.declared.Holder.TheVariants.{Card, Lock}
use Rattle.model.specs.Run.{after}

-- the desk has made a barring with this number
abbrev pub Made : ℕ → List Event → Type 0
Made r es = r < length (after es).barred

-- and it was of this card
abbrev pub BarringOf : ℕ → ℕ → List Event → Type 0
BarringOf r c es = Made r es × (slice_index (after es).barred r ≡ c)

-- The propagation of barring number r by events, the latest first: who can have been informed of it. A card that was at the desk after the barring was made; a lock that an informed card visits; a card
-- that visits an informed lock; a lock to which an adversary gave, as what it is, a signed list that has the barring; and whoever was informed before. What a holder's list is plays no part.
pub data Informed (r : ℕ) : List Event → Holder → Type 0 where
  at_desk : {es : List Event} (c : ℕ) → Made r es → Informed r (AtDesk c ∷ es) (Card c)
  card_to_lock : {es : List Event} (c l : ℕ) → Informed r es (Card c) → Informed r (Visit c l ∷ es) (Lock l)
  lock_to_card : {es : List Event} (c l : ℕ) → Informed r es (Lock l) → Informed r (Visit c l ∷ es) (Card c)
  adversary_to_lock : {es : List Event} (c l t : ℕ) → signed t (after es).barred ≡ true → r < t → Informed r (Adversary c l t (Some t) ∷ es) (Lock l)
  stays : {es : List Event} {h : Holder} (e : Event) → Informed r es h → Informed r (e ∷ es) h
