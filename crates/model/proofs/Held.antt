-- A holder's number never falls, and says exactly of which barrings its holder can have been informed. Assumes nothing.
use Rattle.std.proofs.Common.{◌≡◌, ℕ, ◌<◌, ◌≤◌, true, List, [], ◌∷◌, length, Some, Option, sym, ap, ◌∙◌, inl, inr, le_refl, not-suc-le-zero, arith}
use Rattle.std.proofs.lemmas.List.{length_push}
use Rattle.office.specs.Desk.{barred_after, signed}
use Rattle.office.proofs.Bars.{bar_is, signed_is}
use Rattle.visits.specs.Exchange.{newer}
use Rattle.model.specs.declared.Event.{Event}
use Rattle.model.specs.declared.Event.TheVariants.{Day, Bar, AtDesk, Visit, Adversary}
use Rattle.model.specs.declared.Holder.{Holder}
use Rattle.model.specs.declared.Holder.TheVariants.{Card, Lock}
use Rattle.model.specs.Run.{State, put, number, has, after_hearing, step, after}
use Rattle.model.specs.Informed.{Informed, at_desk, card_to_lock, lock_to_card, adversary_to_lock, stays}
use Rattle.model.proofs.Tables.{newer_is, below_newer, newer_first, newer_second, put_is, put_same, put_rises, hearing_is, hearing_takes}

-- the row of barrings grows or stays
pub grows : (c : ℕ) (bars : List ℕ) → length bars ≤ length (barred_after c bars)
grows c bars =
    elim (bar_is c bars) [
      | inl p ↦ omega (arith, ap length p.2)
      | inr p ↦ omega (arith, ap length p.3, length_push bars c)
    ]

-- a number is at most that of the desk's newest list
abbrev pub Sound : State → Type 0
Sound s = (h : Holder) → number h s ≤ length s.barred

-- what an adversary has is at most the newest list
given_short : (says : ℕ) (gives : Option ℕ) (s : State) → has gives s ≡ true → gives ≡ Some says → says ≤ length s.barred
given_short says gives s t e =
    let u : signed says s.barred ≡ true = sym (ap (λ (o : Option ℕ). has o s) e) ∙ t in (signed_is says s.barred u).1

hearing_short : (l says : ℕ) (gives : Option ℕ) (s : State) → Sound s → after_hearing l says gives s ≤ length s.barred
hearing_short l says gives s o =
    elim (hearing_is l says gives s) [
      | inl p ↦ omega (arith, p, o (Lock l))
      | inr p ↦ omega (arith, p.3, given_short says gives s p.0 p.1)
    ]

hearing_rises : (l says : ℕ) (gives : Option ℕ) (s : State) → s.lock l ≤ after_hearing l says gives s
hearing_rises l says gives s =
    elim (hearing_is l says gives s) [ inl p ↦ omega (arith, p) | inr p ↦ omega (arith, p.2, p.3) ]

put_short : (i x : ℕ) (f : ℕ → ℕ) (n : ℕ) → x ≤ n → (j : ℕ) → f j ≤ n → put i x f j ≤ n
put_short i x f n h j k = elim (put_is i x f j) [ inl p ↦ omega (arith, p.1) | inr p ↦ omega (arith, p.1) ]

pub sound_step : (e : Event) (s : State) → Sound s → Sound (step e s)
sound_step (Day d) s o (Card c) = o (Card c)
sound_step (Day d) s o (Lock l) = o (Lock l)
sound_step (Bar d) s o (Card c) = omega (arith, o (Card c), grows d s.barred)
sound_step (Bar d) s o (Lock l) = omega (arith, o (Lock l), grows d s.barred)
sound_step (AtDesk d) s o (Card c) = put_short d (length s.barred) s.card (length s.barred) (le_refl _) c (o (Card c))
sound_step (AtDesk d) s o (Lock l) = o (Lock l)
sound_step (Visit d k) s o (Card c) =
    put_short d (newer (s.card d) (s.lock k)) s.card (length s.barred) (omega (arith, newer_is (s.card d) (s.lock k), o (Card d), o (Lock k))) c (o (Card c))
sound_step (Visit d k) s o (Lock l) =
    put_short k (newer (s.card d) (s.lock k)) s.lock (length s.barred) (omega (arith, newer_is (s.card d) (s.lock k), o (Card d), o (Lock k))) l (o (Lock l))
sound_step (Adversary d k says gives) s o (Card c) = o (Card c)
sound_step (Adversary d k says gives) s o (Lock l) =
    put_short k (after_hearing k says gives s) s.lock (length s.barred) (hearing_short k says gives s o) l (o (Lock l))

pub sound : (es : List Event) → Sound (after es)
unfolding after
sound [] (Card c) = le_refl 0
sound [] (Lock l) = le_refl 0
sound (e ∷ es) h = sound_step e (after es) (sound es) h

-- no number falls
pub rises : (e : Event) (s : State) → Sound s → (h : Holder) → number h s ≤ number h (step e s)
rises (Day d) s o (Card c) = le_refl _
rises (Day d) s o (Lock l) = le_refl _
rises (Bar d) s o (Card c) = le_refl _
rises (Bar d) s o (Lock l) = le_refl _
rises (AtDesk d) s o (Card c) = put_rises d (length s.barred) s.card (o (Card d)) c
rises (AtDesk d) s o (Lock l) = le_refl _
rises (Visit d k) s o (Card c) = put_rises d (newer (s.card d) (s.lock k)) s.card (newer_first (s.card d) (s.lock k)) c
rises (Visit d k) s o (Lock l) = put_rises k (newer (s.card d) (s.lock k)) s.lock (newer_second (s.card d) (s.lock k)) l
rises (Adversary d k says gives) s o (Card c) = le_refl _
rises (Adversary d k says gives) s o (Lock l) = put_rises k (after_hearing k says gives s) s.lock (hearing_rises k says gives s) l

pub kept : (es : List Event) (e : Event) (h : Holder) → number h (after es) ≤ number h (after (e ∷ es))
unfolding after
kept es e h = rises e (after es) (sound es) h

-- of what a holder was informed, its number counts
pub counted : {r : ℕ} {es : List Event} {h : Holder} → Informed r es h → r < number h (after es)
unfolding after
counted (at_desk {es = es} c lt) = omega (arith, lt, put_same c (length (after es).barred) (after es).card)
counted (card_to_lock {es = es} c l t) =
    let m : ℕ = newer ((after es).card c) ((after es).lock l) in
    omega (arith, counted t, newer_first ((after es).card c) ((after es).lock l), put_same l m (after es).lock)
counted (lock_to_card {es = es} c l t) =
    let m : ℕ = newer ((after es).card c) ((after es).lock l) in
    omega (arith, counted t, newer_second ((after es).card c) ((after es).lock l), put_same c m (after es).card)
counted (adversary_to_lock {es = es} c l t signs lt) =
    let m : ℕ = after_hearing l t (Some t) (after es) in
    omega (arith, lt, hearing_takes l t (after es) signs, put_same l m (after es).lock)
counted (stays {es = es} {h = h} e t) = omega (arith, counted t, rises e (after es) (sound es) h)

-- of what the number counts, its holder was informed: the events that can have brought it
card_at_desk : (r d c : ℕ) (es : List Event) → (r < (after es).card c → Informed r es (Card c)) →
    r < put d (length (after es).barred) (after es).card c → Informed r (AtDesk d ∷ es) (Card c)
card_at_desk r d c es ih lt =
    elim (put_is d (length (after es).barred) (after es).card c) [
      | inl p ↦ rw p.0 (at_desk {es = es} d (omega (arith, p.1)))
      | inr p ↦ stays (AtDesk d) (ih (omega (arith, p.1)))
    ]

card_at_lock : (r d k c : ℕ) (es : List Event) → ((h : Holder) → r < number h (after es) → Informed r es h) →
    r < put d (newer ((after es).card d) ((after es).lock k)) (after es).card c → Informed r (Visit d k ∷ es) (Card c)
card_at_lock r d k c es ih lt =
    elim (put_is d (newer ((after es).card d) ((after es).lock k)) (after es).card c) [
      | inl p ↦ rw p.0 (elim (below_newer r ((after es).card d) ((after es).lock k) (omega (arith, p.1))) [
        | inl a ↦ stays (Visit d k) (ih (Card d) a)
        | inr b ↦ lock_to_card d k (ih (Lock k) b)
      ])
      | inr p ↦ stays (Visit d k) (ih (Card c) (omega (arith, p.1)))
    ]

lock_at_card : (r d k l : ℕ) (es : List Event) → ((h : Holder) → r < number h (after es) → Informed r es h) →
    r < put k (newer ((after es).card d) ((after es).lock k)) (after es).lock l → Informed r (Visit d k ∷ es) (Lock l)
lock_at_card r d k l es ih lt =
    elim (put_is k (newer ((after es).card d) ((after es).lock k)) (after es).lock l) [
      | inl p ↦ rw p.0 (elim (below_newer r ((after es).card d) ((after es).lock k) (omega (arith, p.1))) [
        | inl a ↦ card_to_lock d k (ih (Card d) a)
        | inr b ↦ stays (Visit d k) (ih (Lock k) b)
      ])
      | inr p ↦ stays (Visit d k) (ih (Lock l) (omega (arith, p.1)))
    ]

-- the list that an adversary gave as what it is
from_adversary : (r d k says : ℕ) (gives : Option ℕ) (es : List Event) → has gives (after es) ≡ true → gives ≡ Some says → r < says →
    Informed r (Adversary d k says gives ∷ es) (Lock k)
from_adversary r d k says gives es t e lt =
    let u : signed says (after es).barred ≡ true = sym (ap (λ (o : Option ℕ). has o (after es)) e) ∙ t in
    rw e (adversary_to_lock d k says u lt)

lock_at_adversary : (r d k says : ℕ) (gives : Option ℕ) (l : ℕ) (es : List Event) → ((h : Holder) → r < number h (after es) → Informed r es h) →
    r < put k (after_hearing k says gives (after es)) (after es).lock l → Informed r (Adversary d k says gives ∷ es) (Lock l)
lock_at_adversary r d k says gives l es ih lt =
    elim (put_is k (after_hearing k says gives (after es)) (after es).lock l) [
      | inl p ↦ rw p.0 (elim (hearing_is k says gives (after es)) [
        | inl a ↦ stays (Adversary d k says gives) (ih (Lock k) (omega (arith, p.1, a)))
        | inr b ↦ from_adversary r d k says gives es b.0 b.1 (omega (arith, p.1, b.3))
      ])
      | inr p ↦ stays (Adversary d k says gives) (ih (Lock l) (omega (arith, p.1)))
    ]

pub told : (r : ℕ) (es : List Event) (h : Holder) → r < number h (after es) → Informed r es h
unfolding after
told r [] (Card c) lt = absurd (not-suc-le-zero lt)
told r [] (Lock l) lt = absurd (not-suc-le-zero lt)
told r (Day d ∷ es) (Card c) lt = stays (Day d) (told r es (Card c) lt)
told r (Day d ∷ es) (Lock l) lt = stays (Day d) (told r es (Lock l) lt)
told r (Bar d ∷ es) (Card c) lt = stays (Bar d) (told r es (Card c) lt)
told r (Bar d ∷ es) (Lock l) lt = stays (Bar d) (told r es (Lock l) lt)
told r (AtDesk d ∷ es) (Card c) lt = card_at_desk r d c es (told r es (Card c)) lt
told r (AtDesk d ∷ es) (Lock l) lt = stays (AtDesk d) (told r es (Lock l) lt)
told r (Visit d k ∷ es) (Card c) lt = card_at_lock r d k c es (told r es) lt
told r (Visit d k ∷ es) (Lock l) lt = lock_at_card r d k l es (told r es) lt
told r (Adversary d k says gives ∷ es) (Card c) lt = stays (Adversary d k says gives) (told r es (Card c) lt)
told r (Adversary d k says gives ∷ es) (Lock l) lt = lock_at_adversary r d k says gives l es (told r es) lt
