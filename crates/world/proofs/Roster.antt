-- Setting up one card or lock after the other. Assumes nothing.
use Rattle.std.proofs.Common.{◌≡◌, ◌≢◌, ℕ, ◌+◌, ◌<◌, ◌≤◌, ◌↔◌, ◌⊎◌, IsTrue, Contains, List, length, get_or, is_some, unwrap_or, Some, Option, refl, sym, ap, ◌∙◌, inl, inr, arith}
use Rattle.std.proofs.lemmas.Bool.{cases_lt, cases_eq}
use Rattle.std.proofs.lemmas.List.{get_or_default}
use Rattle.model.specs.declared.Holder.{Holder}
use Rattle.model.specs.declared.Holder.TheVariants.{Card, Lock}
use Rattle.places.specs.Places.{Put}
use Rattle.places.proofs.Changed.{put_there, put_elsewhere}
use Rattle.world.specs.World.{list_in}

-- it is one of the first i
abbrev pub Among : List Holder → ℕ → Holder → Type 0
Among holders i h = (k : ℕ) × (k < i) × (get_or holders k h ≡ h)

-- the first i are there, nobody else is, and nobody has a list
abbrev pub SetUp : List Holder → ℕ → (Holder → Option ℕ) → Type 0
SetUp holders i list = (h : Holder) → (IsTrue (is_some (list h)) ↔ Among holders i h) × (unwrap_or (list h) 0 ≡ 0)

number : Holder → ℕ
number (Card c) = c
number (Lock l) = l

same_or_not : (g h : Holder) → (g ≡ h) ⊎ (g ≢ h)
unfolding number
same_or_not (Card c) (Card d) = elim (cases_eq c d) [ inl e ↦ inl (ap Card e) | inr n ↦ inr (λ e. n (ap number e)) ]
same_or_not (Lock c) (Lock d) = elim (cases_eq c d) [ inl e ↦ inl (ap Lock e) | inr n ↦ inr (λ e. n (ap number e)) ]
same_or_not (Card c) (Lock d) = inr (λ e. cc)
same_or_not (Lock c) (Card d) = inr (λ e. cc)

-- the next one is set up, with no list, and all others stay as they were
one_more : (holders : List Holder) (i : ℕ) (x d : Holder) (list more : Holder → Option ℕ) → i < length holders → get_or holders i d ≡ x →
    more x ≡ Some 0 → ((h : Holder) → h ≢ x → more h ≡ list h) → SetUp holders i list → SetUp holders (i + 1) more
one_more holders i x d list more lt is new others s h =
    elim (same_or_not h x) [
      | inl e ↦ rw e (rw new ((λ _. (i, omega arith, get_or_default holders i x d lt ∙ is), λ _. refl), refl))
      | inr n ↦ rw (others h n) (
        (
          λ t. let w = (s h).0.0 t in (w.0, omega (arith, w.1), w.2),
          λ w. elim (cases_lt w.0 i) [
            | inl below ↦ (s h).0.1 (w.0, below, w.2)
            | inr le ↦ let same : w.0 ≡ i = omega (arith, w.1, le) in absurd (n (sym (rw same at w.2) ∙ get_or_default holders i h d lt ∙ is))
          ],
        ),
        (s h).1,
      )
    ]

-- a card alone, and a lock alone
pub one_card : (holders : List Holder) (i n : ℕ) (d : Holder) (cards more locks : List (Option ℕ)) → i < length holders → get_or holders i d ≡ Card n →
    Put cards n 0 more → SetUp holders i (list_in cards locks) → SetUp holders (i + 1) (list_in more locks)
one_card holders i n d cards more locks lt is put s = one_more holders i (Card n) d (list_in cards locks) (list_in more locks) lt is (put_there cards more n 0 put) apart s where
  apart : (h : Holder) → h ≢ Card n → list_in more locks h ≡ list_in cards locks h
  apart (Card q) ne = put_elsewhere cards more n 0 put q (λ e. ne (ap Card e))
  apart (Lock l) ne = refl

pub one_lock : (holders : List Holder) (i n : ℕ) (d : Holder) (cards locks more : List (Option ℕ)) → i < length holders → get_or holders i d ≡ Lock n →
    Put locks n 0 more → SetUp holders i (list_in cards locks) → SetUp holders (i + 1) (list_in cards more)
one_lock holders i n d cards locks more lt is put s = one_more holders i (Lock n) d (list_in cards locks) (list_in cards more) lt is (put_there locks more n 0 put) apart s where
  apart : (h : Holder) → h ≢ Lock n → list_in cards more h ≡ list_in cards locks h
  apart (Card c) ne = refl
  apart (Lock q) ne = put_elsewhere locks more n 0 put q (λ e. ne (ap Lock e))

-- all of them are set up
pub whole : (holders : List Holder) (i : ℕ) (h : Holder) → length holders ≤ i → i ≤ length holders → Among holders i h ↔ Contains holders h
whole holders i h le ge = (λ w. (w.0, omega (arith, w.1), w.2), λ w. (w.0, omega (arith, w.1), w.2))
