-- The row of barrings: it only grows, no card stands in it twice, and what is on a list with number n is a barring below n. Assumes nothing.
use Rattle.std.proofs.Common.{◌≡◌, ℕ, ◌<◌, ◌≤◌, true, false, ◌⊎◌, List, [], ◌∷◌, ◌++◌, length, get_or, take, sym, ◌∙◌, inl, inr, not-suc-le-zero, arith}
use Rattle.std.proofs.lemmas.List.{length_push, length-take, get_or-take, get_or_append_left, get_or_push}
use Rattle.std.proofs.lemmas.Bool.{cases_lt, both_ways}
use Rattle.lists.specs.Listed.{listed}
use Rattle.lists.proofs.Places.{stands, finds}
use Rattle.office.specs.Desk.{barred_after}
use Rattle.office.proofs.Bars.{bar_is}
use Rattle.model.specs.declared.Event.{Event}
use Rattle.model.specs.declared.Event.TheVariants.{Day, Bar, AtDesk, Visit, Adversary}
use Rattle.model.specs.Run.{after}
use Rattle.model.specs.Informed.{BarringOf}

-- card c stands at place r of a row
abbrev pub At : ℕ → ℕ → List ℕ → Type 0
At r c bars = (r < length bars) × (get_or bars r 0 ≡ c)

pub at_more : (d : ℕ) (bars : List ℕ) (r c : ℕ) → At r c bars → At r c (barred_after d bars)
at_more d bars r c p =
    elim (bar_is d bars) [
      | inl q ↦ rw q.2 p
      | inr q ↦ rw q.3 (omega (arith, p.0, length_push bars d), get_or_append_left bars (d ∷ []) 0 r p.0 ∙ p.1)
    ]

-- what is in the row after a barring was there, or is the new one, at the next place
pub at_less : (d : ℕ) (bars : List ℕ) (r c : ℕ) → At r c (bars ++ (d ∷ [])) → At r c bars ⊎ ((r ≡ length bars) × (c ≡ d))
at_less d bars r c p =
    elim (cases_lt r (length bars)) [
      | inl lt ↦ inl (lt, sym (get_or_append_left bars (d ∷ []) 0 r lt) ∙ p.1)
      | inr le ↦ let e : length bars ≡ r = omega (arith, p.0, length_push bars d) in inr (sym e, sym p.1 ∙ get_or_push bars d 0 r e)
    ]

pub row_stays : (es : List Event) (e : Event) (r c : ℕ) → BarringOf r c es → BarringOf r c (e ∷ es)
unfolding after
row_stays es (Day d) r c p = p
row_stays es (Bar d) r c p = at_more d (after es).barred r c p
row_stays es (AtDesk d) r c p = p
row_stays es (Visit d l) r c p = p
row_stays es (Adversary d l says gives) r c p = p

pub row_stays_over : (later es : List Event) (r c : ℕ) → BarringOf r c es → BarringOf r c (later ++ es)
row_stays_over [] es r c p = p
row_stays_over (e ∷ later) es r c p = row_stays (later ++ es) e r c (row_stays_over later es r c p)

-- a card that stands on the list with number n is of a barring below n, and the other way round
pub on_list : (c n : ℕ) (bars : List ℕ) → listed c (take n bars) ≡ true → (r : ℕ) × At r c bars × (r < n)
on_list c n bars t =
    let w = stands c (take n bars) t in
    let short : w.0 < n = omega (arith, w.1, length-take n bars) in
    let long : w.0 < length bars = omega (arith, w.1, length-take n bars) in
    (w.0, (long, sym (get_or-take n bars w.0 0 short) ∙ w.2), short)

pub list_has : (c n : ℕ) (bars : List ℕ) (r : ℕ) → At r c bars → r < n → listed c (take n bars) ≡ true
list_has c n bars r p lt =
    finds c (take n bars) r (omega (arith, p.0, length-take n bars)) (get_or-take n bars r 0 lt ∙ p.1)

-- no card stands twice in the row
abbrev Apart : List ℕ → Type 0
Apart bars = (c q r : ℕ) → At q c bars → At r c bars → q ≡ r

apart_more : (d : ℕ) (bars : List ℕ) → Apart bars → listed d bars ≡ false → Apart (bars ++ (d ∷ []))
apart_more d bars apart f c q r p s =
    elim (at_less d bars q c p) [
      | inl a ↦ elim (at_less d bars r c s) [
        | inl b ↦ apart c q r a b
        | inr b ↦ absurd (both_ways (listed d bars) f (finds d bars q a.0 (a.1 ∙ b.1)))
      ]
      | inr a ↦ elim (at_less d bars r c s) [
        | inl b ↦ absurd (both_ways (listed d bars) f (finds d bars r b.0 (b.1 ∙ a.1)))
        | inr b ↦ a.0 ∙ sym b.0
      ]
    ]

apart_bar : (d : ℕ) (bars : List ℕ) → Apart bars → Apart (barred_after d bars)
apart_bar d bars apart =
    elim (bar_is d bars) [
      | inl p ↦ rw p.2 apart
      | inr p ↦ rw p.3 (apart_more d bars apart p.1)
    ]

pub row_apart : (es : List Event) → Apart (after es).barred
unfolding after
row_apart [] = λ c q r p s. absurd (not-suc-le-zero p.0)
row_apart (Day d ∷ es) = row_apart es
row_apart (Bar d ∷ es) = apart_bar d (after es).barred (row_apart es)
row_apart (AtDesk d ∷ es) = row_apart es
row_apart (Visit d l ∷ es) = row_apart es
row_apart (Adversary d l says gives ∷ es) = row_apart es

-- and it has at most 1,024
short_bar : (d : ℕ) (bars : List ℕ) → length bars ≤ 1024 → length (barred_after d bars) ≤ 1024
short_bar d bars h =
    elim (bar_is d bars) [
      | inl p ↦ rw p.2 h
      | inr p ↦ rw p.3 (omega (arith, p.0, length_push bars d))
    ]

pub row_short : (es : List Event) → length (after es).barred ≤ 1024
unfolding after
row_short [] = omega arith
row_short (Day d ∷ es) = row_short es
row_short (Bar d ∷ es) = short_bar d (after es).barred (row_short es)
row_short (AtDesk d ∷ es) = row_short es
row_short (Visit d l ∷ es) = row_short es
row_short (Adversary d l says gives ∷ es) = row_short es
