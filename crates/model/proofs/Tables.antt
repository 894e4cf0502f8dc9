-- What `newer`, `put` and `after_hearing` give, case by case; when two states are one. Assumes nothing.
use Rattle.std.proofs.Common.{◌≡◌, ℕ, ◌<◌, ◌≤◌, true, eqb, ltb, ◌⊎◌, Some, Option, refl, ◌∙◌, inl, inr, le_refl, arith}
use Rattle.std.proofs.lemmas.Bool.{cond-true, cond-false, cases_Bool, cases_lt, ltb-true, ltb-false, eqb-true, eqb-false, eq-eqb}
use Rattle.visits.specs.Exchange.{newer, heard}
use Rattle.visits.proofs.Heard.{heard_is, taken, not_awaited}
use Rattle.office.specs.Desk.{signed}
use Rattle.model.specs.Run.{State, put, has, after_hearing}

pub newer_is : (a e : ℕ) → ((a < e) × (newer a e ≡ e)) ⊎ ((e ≤ a) × (newer a e ≡ a))
newer_is a e =
    elim (cases_Bool (ltb a e)) [
      | inl t ↦ inl (ltb-true a e t, cond-true (ltb a e) e a t)
      | inr f ↦ inr (ltb-false a e f, cond-false (ltb a e) e a f)
    ]

pub below_newer : (r a e : ℕ) → r < newer a e → (r < a) ⊎ (r < e)
below_newer r a e h = elim (newer_is a e) [ inl p ↦ inr (omega (arith, p.1)) | inr p ↦ inl (omega (arith, p.1)) ]

pub newer_first : (a e : ℕ) → a ≤ newer a e
newer_first a e = omega (arith, newer_is a e)

pub newer_second : (a e : ℕ) → e ≤ newer a e
newer_second a e = omega (arith, newer_is a e)

pub put_is : (i x : ℕ) (f : ℕ → ℕ) (j : ℕ) → ((j ≡ i) × (put i x f j ≡ x)) ⊎ ((j ≡ i → ⊥) × (put i x f j ≡ f j))
put_is i x f j =
    elim (cases_Bool (eqb j i)) [
      | inl t ↦ inl (eqb-true j i t, cond-true (eqb j i) x (f j) t)
      | inr n ↦ inr (eqb-false j i n, cond-false (eqb j i) x (f j) n)
    ]

pub put_same : (i x : ℕ) (f : ℕ → ℕ) → put i x f i ≡ x
put_same i x f = cond-true (eqb i i) x (f i) (eq-eqb i i refl)

-- what is put where it was changes nothing
pub put_again : (i x : ℕ) (f : ℕ → ℕ) → x ≡ f i → (j : ℕ) → put i x f j ≡ f j
put_again i x f e j = elim (put_is i x f j) [ inl p ↦ rw p.0 (put_same i x f ∙ e) | inr p ↦ p.1 ]

-- a table whose one place rises falls nowhere
pub put_rises : (i x : ℕ) (f : ℕ → ℕ) → f i ≤ x → (j : ℕ) → f j ≤ put i x f j
put_rises i x f h j = elim (put_is i x f j) [ inl p ↦ rw (p.1, p.0) h | inr p ↦ rw p.1 (le_refl _) ]

-- a lock that heard an adversary has what it had, or a higher list that the adversary had and gave as what it is
pub hearing_is : (l says : ℕ) (gives : Option ℕ) (s : State) →
    (after_hearing l says gives s ≡ s.lock l) ⊎
    ((has gives s ≡ true) × (gives ≡ Some says) × (s.lock l < says) × (after_hearing l says gives s ≡ says))
hearing_is l says gives s =
    elim (cases_Bool (has gives s)) [
      | inl t ↦ let e = cond-true (has gives s) (heard (s.lock l) says gives) (s.lock l) t in
          elim (heard_is (s.lock l) says gives) [ inl p ↦ inl (e ∙ p) | inr p ↦ inr (t, p.0, p.1, e ∙ p.2) ]
      | inr f ↦ inl (cond-false (has gives s) (heard (s.lock l) says gives) (s.lock l) f)
    ]

-- who gives a signed list as what it is leaves the lock with that list or a newer one
pub hearing_takes : (l t : ℕ) (s : State) → signed t s.barred ≡ true → t ≤ after_hearing l t (Some t) s
hearing_takes l t s signs =
    let e = cond-true (signed t s.barred) (heard (s.lock l) t (Some t)) (s.lock l) signs in
    elim (cases_lt (s.lock l) t) [
      | inl lt ↦ omega (arith, e, (taken (s.lock l) t t lt refl).1)
      | inr le ↦ omega (arith, e, (not_awaited (s.lock l) t (Some t) le).1)
    ]

-- two states that agree in every part are one
pub same_state : {s t : State} → s.day ≡ t.day → s.barred ≡ t.barred → ((c : ℕ) → s.card c ≡ t.card c) → ((l : ℕ) → s.lock l ≡ t.lock l) → s ≡ t
same_state o p q r = λ i. record { day = o i; barred = p i; card = λ c. q c i; lock = λ l. r l i }
