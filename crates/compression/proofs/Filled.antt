-- An array that is made by calls of a function that does not change, one for each place.
use Rattle.std.proofs.Common.{◌≡◌, ℕ, zero, suc, ◌+◌, ◌<◌, List, get_or, sym, ap, ◌∙◌, subst, add-zero, zero-add, arith}
use Rattle.std.specs.Array.{IsFromFnResultFrom, IsFromFnResult}
use Rattle.std.specs.Fn.{Called}
use denote.Param.Members.{Mut}

module _ {F B : Type 0} (g : Mut F (ℕ × Unit {0}) B) (f : F) (v : ℕ → B) (top : ℕ)
    (same : (i : ℕ) (y : B) (q : F) → i < top → Called g f (i, tt) y q → (y ≡ v i) × (q ≡ f)) where
  from_place : (ys : List B) (i n k : ℕ) (d : B) → i + n ≡ top → k < n → IsFromFnResultFrom g f ys i n → get_or ys (i + k) d ≡ v (i + k)
  from_place ys i zero k d e h c = absurd (omega arith)
  from_place ys i (suc n) zero d e h (q, y, at, call, rest) =
      rw add-zero (at.1 d ∙ (same i y q (omega arith) call).0)
  from_place ys i (suc n) (suc k) d e h (q, y, at, call, rest) =
      let j : i + suc k ≡ i + 1 + k = omega arith in
      let unchanged = (same i y q (omega arith) call).1 in
      ap (λ m. get_or ys m d) j
      ∙ from_place ys (i + 1) n k d (omega arith) (omega arith) (subst (λ p. IsFromFnResultFrom g p ys (i + 1) n) unchanged rest)
      ∙ ap v (sym j)

  -- each element is what the function gives at its place
  pub filled : (ys : List B) → IsFromFnResult g f ys top → (k : ℕ) (d : B) → k < top → get_or ys k d ≡ v k
  filled ys made k d h =
      let z = zero-add k in
      ap (λ m. get_or ys m d) (sym z) ∙ from_place ys 0 top k d (zero-add top) h made.each ∙ ap v z
