-- One place changed. Assumes nothing.
use Rattle.std.proofs.Common.{◌≡◌, ◌≢◌, ℕ, ◌-◌, ◌<◌, ◌≤◌, cond, eqb, List, ◌++◌, length, take, get_or, set, replicate, Some, None, Option, sym, refl, ap, ◌∙◌, inl, inr, arith}
use Rattle.std.proofs.lemmas.Bool.{cases_eq, cases_lt, cond-true, cond-false, eq-eqb, ne_eqb}
use Rattle.std.proofs.lemmas.List.{get_or-set_same, get_or-set_other, get_or_append_left, get_or-append_right, get_or-replicate, get_or_past, length-replicate, take_all}
use Rattle.places.specs.Places.{at, Put}

nothing : {X : Type 0} (m j : ℕ) → ◌≡◌ {A = Option X} (get_or (replicate m None) j None) None
nothing {X = X} m j =
    elim (cases_lt j m) [
      | inl lt ↦ get_or-replicate m j None None lt
      | inr le ↦ get_or_past (replicate m None) j None (omega (arith, length-replicate {A = Option X} m))
    ]

-- more places with nothing on them
pub wider : {X : Type 0} (places wide : List (Option X)) (n m : ℕ) → length places ≤ n → wide ≡ take n places ++ replicate m None → (k : ℕ) → at wide k ≡ at places k
wider places wide n m le is k =
    ap (λ ps. at ps k) (is ∙ ap (λ ps. ps ++ replicate m None) (take_all n places le))
    ∙ elim (cases_lt k (length places)) [
      | inl lt ↦ get_or_append_left places (replicate m None) None k lt
      | inr le ↦
          get_or-append_right places (replicate m None) (length places) k None refl le
          ∙ nothing m (k - length places)
          ∙ sym (get_or_past places k None le)
    ]

-- x is put at n
pub put : {X : Type 0} (old wide : List (Option X)) (n : ℕ) (x : X) → n < length wide → ((k : ℕ) → at wide k ≡ at old k) → (k : ℕ) →
    at (set wide n (Some x)) k ≡ cond (eqb k n) (Some x) (at old k)
put old wide n x lt same k =
    elim (cases_eq k n) [
      | inl e ↦ rw e (get_or-set_same wide n (Some x) None lt ∙ sym (cond-true (eqb n n) (Some x) _ (eq-eqb n n refl)))
      | inr ne ↦ get_or-set_other wide n k (Some x) None ne ∙ same k ∙ sym (cond-false (eqb k n) (Some x) _ (ne_eqb k n ne))
    ]

-- what was put stands there, and all else as it did
pub put_there : {X : Type 0} (old new : List (Option X)) (n : ℕ) (x : X) → Put old n x new → at new n ≡ Some x
put_there old new n x p = p n ∙ cond-true (eqb n n) _ _ (eq-eqb n n refl)

pub put_elsewhere : {X : Type 0} (old new : List (Option X)) (n : ℕ) (x : X) → Put old n x new → (k : ℕ) → k ≢ n → at new k ≡ at old k
put_elsewhere old new n x p k ne = p k ∙ cond-false (eqb k n) _ _ (ne_eqb k n ne)
