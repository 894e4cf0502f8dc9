-- What a lock does with what it hears, case by case. Assumes nothing.
use Rattle.std.proofs.Common.{◌≡◌, ℕ, ◌<◌, ◌≤◌, true, false, ◌&&◌, eqb, ltb, ◌⊎◌, List, Some, None, Option, refl, ap, ◌∙◌, inl, inr}
use Rattle.std.proofs.lemmas.Bool.{lt-ltb, le-ltb, le-leb, eq-eqb, cond-true, cond-false, cases_Bool, and_parts, and_left, and_from, ltb-true, eqb-true, both_ways}
use Rattle.faults.specs.declared.Fault.TheVariants.{Barred}
use Rattle.faults.specs.declared.VisitEnd.TheVariants.{Opened, Refused}
use Rattle.lists.specs.Listed.{listed}
use Rattle.visits.specs.Exchange.{heard, comes, decision}

-- no higher number is said: no list is awaited
pub not_awaited : (n says : ℕ) (gives : Option ℕ) → says ≤ n → (comes n says gives ≡ true) × (heard n says gives ≡ n)
unfolding comes heard
not_awaited n says None le = (le-leb says n le, refl)
not_awaited n says (Some t) le = (refl, cond-false _ t n (and_left _ _ (le-ltb n says le)))

pub taken : (n says t : ℕ) → n < says → t ≡ says → (comes n says (Some t) ≡ true) × (heard n says (Some t) ≡ t)
unfolding comes heard
taken n says t lt e = (refl, cond-true _ t n (and_from _ _ (lt-ltb n says lt) (eq-eqb t says e)))

-- where the visit comes to no decision, the lock has what it had
pub undecided : (n says : ℕ) (gives : Option ℕ) → comes n says gives ≡ false → heard n says gives ≡ n
unfolding comes heard
undecided n says None f = refl
undecided n says (Some t) f = absurd (both_ways true f refl)

-- the lock has what it had, or a newer list that was given with its own number said
pub heard_is : (n says : ℕ) (gives : Option ℕ) → (heard n says gives ≡ n) ⊎ ((gives ≡ Some says) × (n < says) × (heard n says gives ≡ says))
unfolding heard
heard_is n says None = inl refl
heard_is n says (Some t) =
    elim (cases_Bool (ltb n says && eqb t says)) [
      | inl p ↦ let q = and_parts (ltb n says) (eqb t says) p in let e = eqb-true t says q.1 in inr (ap Some e, ltb-true n says q.0, cond-true _ t n p ∙ e)
      | inr p ↦ inl (cond-false _ t n p)
    ]

pub refuses : (c : ℕ) (bars : List ℕ) → listed c bars ≡ true → decision c bars ≡ Refused Barred
unfolding decision
refuses c bars t = cond-true _ (Refused Barred) Opened t

pub opens : (c : ℕ) (bars : List ℕ) → listed c bars ≡ false → decision c bars ≡ Opened
unfolding decision
opens c bars f = cond-false _ (Refused Barred) Opened f
