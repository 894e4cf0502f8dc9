-- An array that is made of another by calls of a function that does not change, one for each element.
use Rattle.std.proofs.Common.{◌≡◌, ℕ, zero, suc, ◌+◌, List, ◌∷◌, map, length, drop, sym, ap, ◌∙◌, subst, ap₂, add-one, arith}
use Rattle.std.proofs.Math.Seq.{drop-cons}
use Rattle.std.proofs.lemmas.List.{drop_all}
use Rattle.std.specs.Array.{MapsFrom, IsMapOf}
use Rattle.std.specs.Fn.{Called}
use denote.Param.Members.{Mut}

module _ {F A B : Type 0} (g : Mut F (A × Unit {0}) B) (f : F) (v : A → B)
    (same : (x : A) (y : B) (q : F) → Called g f (x, tt) y q → (y ≡ v x) × (q ≡ f)) where
  from_place : (xs : List A) (ys : List B) (i n : ℕ) → length xs ≡ i + n → length ys ≡ i + n → MapsFrom g f xs ys i n
      → drop i ys ≡ map v (drop i xs)
  from_place xs ys i zero h l m =
      drop_all i ys (omega arith) ∙ ap (map v) (sym (drop_all i xs (omega arith)))
  from_place xs ys i (suc n) h l (q, x, y, at_x, at_y, call, rest) =
      let one = same x y q call in
      let more : drop (suc i) ys ≡ map v (drop (suc i) xs) =
      rw (← add-one) (from_place xs ys (i + 1) n (omega arith) (omega arith) (subst (λ p. MapsFrom g p xs ys (i + 1) n) one.1 rest)) in
      drop-cons ys i y (omega arith) ∙ ap₂ ◌∷◌ (at_y.1 y ∙ one.0 ∙ ap v (sym (at_x.1 x))) more
      ∙ ap (map v) (sym (drop-cons xs i x (omega arith)))

  -- each element is what the function gives of the one at its place
  pub mapped : (xs : List A) (ys : List B) (n : ℕ) → length xs ≡ n → IsMapOf g f xs ys n → ys ≡ map v xs
  mapped xs ys n h made = from_place xs ys 0 n (omega arith) (omega (arith, made.long)) made.each
