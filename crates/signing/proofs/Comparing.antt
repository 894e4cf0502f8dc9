-- Byte strings that are compared by what differs in any of their bytes.
use Rattle.std.proofs.Common.{◌≡◌, ℕ, Bool, false, eqb, List, [], ◌∷◌, length, fold, Decides, sym, refl, ap, ◌∙◌, ap₂, arith}
use lib.Bits.{bit_or, bit_xor, or_add_and, xor_add_and, and_le_l, and_le_r, xor_self}
use Rattle.std.specs.List.{zip}
use Rattle.std.proofs.lemmas.Bool.{eqb-true, eq-eqb, both_ways}
use Rattle.std.proofs.lemmas.Slice.Eq.{bytes_eq-Decides}
use Rattle.std.proofs.lemmas.Bool.Decides.{same_from_decides}
use Rattle.std.specs.Str.{bytes_eq}

-- an `or` is 0 where both are
or_none : (a b : ℕ) → bit_or a b ≡ 0 → (a ≡ 0) × (b ≡ 0)
or_none a b e =
    let s = or_add_and a b in
    let l = and_le_l a b in
    let r = and_le_r a b in
    (omega arith, omega arith)

-- an `xor` is 0 where both are the same
xor_none : (a b : ℕ) → bit_xor a b ≡ 0 → a ≡ b
xor_none a b e =
    let s = xor_add_and a b in
    let l = and_le_l a b in
    let r = and_le_r a b in
    omega arith

-- what differs so far, and in one pair of bytes more
abbrev pub differs : ℕ → ℕ × ℕ → ℕ
differs d p = bit_or d (bit_xor p.0 p.1)

same_if_none : (d : ℕ) (xs ys : List ℕ) → length xs ≡ length ys → fold differs d (zip xs ys) ≡ 0 → (d ≡ 0) × (xs ≡ ys)
same_if_none d [] [] l e = (e, refl)
same_if_none d [] (y ∷ ys) l e = absurd (omega arith)
same_if_none d (x ∷ xs) [] l e = absurd (omega arith)
same_if_none d (x ∷ xs) (y ∷ ys) l e =
    let rest = same_if_none (differs d (x, y)) xs ys (omega arith) e in
    let both = or_none d (bit_xor x y) rest.0 in
    (both.0, ap₂ ◌∷◌ (xor_none x y both.1) rest.1)

none_if_same : (xs : List ℕ) → fold differs 0 (zip xs xs) ≡ 0
none_if_same [] = refl
none_if_same (x ∷ xs) =
    ap (λ z. fold differs (bit_or 0 z) (zip xs xs)) (xor_self x) ∙ none_if_same xs

-- the answers of the comparison: none where the lengths differ, else by the difference
other_lengths : (xs ys : List ℕ) → (length xs ≡ length ys → ⊥) → Decides false (xs ≡ ys)
other_lengths xs ys h = (λ e. absurd (both_ways false refl e), λ e. absurd (h (ap length e)))

by_difference : (d : ℕ) (xs ys : List ℕ) → length xs ≡ length ys → d ≡ fold differs 0 (zip xs ys) → Decides (eqb d 0) (xs ≡ ys)
by_difference d xs ys l h =
    (λ e. (same_if_none 0 xs ys l (sym h ∙ eqb-true d 0 e)).1, λ e. eq-eqb d 0 (h ∙ ap (λ z. fold differs 0 (zip xs z)) (sym e) ∙ none_if_same xs))

-- both clauses
pub record Told (r : Bool) (xs ys : List ℕ) : Type 0 where
  pub value : r ≡ bytes_eq xs ys
  pub equal : Decides r (xs ≡ ys)

told : (r : Bool) (xs ys : List ℕ) → Decides r (xs ≡ ys) → Told r xs ys
told r xs ys d = record { value = same_from_decides r (bytes_eq xs ys) d (bytes_eq-Decides xs ys); equal = d }

pub told_apart : (xs ys : List ℕ) → (length xs ≡ length ys → ⊥) → Told false xs ys
told_apart xs ys h = told false xs ys (other_lengths xs ys h)

pub told_by : (d : ℕ) (xs ys : List ℕ) → length xs ≡ length ys → d ≡ fold differs 0 (zip xs ys) → Told (eqb d 0) xs ys
told_by d xs ys l h = told (eqb d 0) xs ys (by_difference d xs ys l h)
