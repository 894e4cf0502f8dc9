-- `listed` says whether a card stands at some place. Assumes nothing.
use Rattle.std.proofs.Common.{◌≡◌, ℕ, suc, ◌<◌, true, false, eqb, List, [], ◌∷◌, length, get_or, Decides, sym, refl, inl, inr, arith}
use Rattle.std.proofs.lemmas.Bool.{both_ways, or_cases, eqb-true, eq-eqb, cases_Bool}
use Rattle.std.proofs.lemmas.List.Folds.{list_any_at}
use Rattle.lists.specs.Listed.{listed, Stands}

pub stands : (c : ℕ) (xs : List ℕ) → listed c xs ≡ true → Stands c xs
unfolding listed
stands c [] t = absurd (both_ways false refl t)
stands c (x ∷ xs) t =
    elim (or_cases (eqb c x) (listed c xs) t) [
      | inl p ↦ (0, omega arith, sym (eqb-true c x p))
      | inr p ↦ let w = stands c xs p in (suc w.0, omega (arith, w.1), w.2)
    ]

pub finds : (c : ℕ) (xs : List ℕ) (r : ℕ) → r < length xs → get_or xs r 0 ≡ c → listed c xs ≡ true
unfolding listed
finds c xs r lt e = list_any_at (λ x. eqb c x) xs r 0 lt (eq-eqb c _ (sym e))

pub tells : (c : ℕ) (xs : List ℕ) → Decides (listed c xs) (Stands c xs)
tells c xs = (stands c xs, λ w. finds c xs w.0 w.1 w.2)

-- a list on which the card stands at no place
pub absent : (c : ℕ) (xs : List ℕ) → ((r : ℕ) → r < length xs → get_or xs r 0 ≡ c → ⊥) → listed c xs ≡ false
absent c xs none =
    elim (cases_Bool (listed c xs)) [
      | inl t ↦ let w = stands c xs t in absurd (none w.0 w.1 w.2)
      | inr f ↦ f
    ]
