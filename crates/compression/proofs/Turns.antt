-- The rounds, sixteen at a time.
use Rattle.std.proofs.Common.{◌≡◌, ℕ, zero, suc, ◌+◌, ◌≤◌, List, [], ◌∷◌, ◌++◌, length, get_or, sym, refl, ap, ◌∙◌, ap₂, append_assoc, add-zero, add-suc, arith}
use Rattle.std.proofs.lemmas.List.{length-append, get_or_append_left, get_or-append-add}
use Rattle.compression.specs.declared.state.State.{State}
use Rattle.compression.specs.Parts.{rounds_from}
use Rattle.compression.specs.Sha256.{round_constants, round, rounds}

-- a round with a constant that is known by its place
pub turn : (s r : State) (t k w : ℕ) → k ≡ get_or round_constants t 0 → r ≡ round s k w → r ≡ round s (get_or round_constants t 0) w
turn s r t k w e f = f ∙ ap (λ j. round s j w) e

module _ (t : ℕ) (s s0 s1 s2 s3 s4 s5 s6 s7 s8 s9 s10 s11 s12 s13 s14 s15 : State) (w0 w1 w2 w3 w4 w5 w6 w7 w8 w9 w10 w11 w12 w13 w14 w15 : ℕ) where
  pub sixteen_turns : s0 ≡ round s (get_or round_constants t 0) w0 → s1 ≡ round s0 (get_or round_constants (t + 1) 0) w1 → s2 ≡ round s1 (get_or round_constants (t + 2) 0) w2
      → s3 ≡ round s2 (get_or round_constants (t + 3) 0) w3 → s4 ≡ round s3 (get_or round_constants (t + 4) 0) w4 → s5 ≡ round s4 (get_or round_constants (t + 5) 0) w5
      → s6 ≡ round s5 (get_or round_constants (t + 6) 0) w6 → s7 ≡ round s6 (get_or round_constants (t + 7) 0) w7 → s8 ≡ round s7 (get_or round_constants (t + 8) 0) w8
      → s9 ≡ round s8 (get_or round_constants (t + 9) 0) w9 → s10 ≡ round s9 (get_or round_constants (t + 10) 0) w10 → s11 ≡ round s10 (get_or round_constants (t + 11) 0) w11
      → s12 ≡ round s11 (get_or round_constants (t + 12) 0) w12 → s13 ≡ round s12 (get_or round_constants (t + 13) 0) w13 → s14 ≡ round s13 (get_or round_constants (t + 14) 0) w14
      → s15 ≡ round s14 (get_or round_constants (t + 15) 0) w15
      → s15 ≡ rounds_from t (w0 ∷ w1 ∷ w2 ∷ w3 ∷ w4 ∷ w5 ∷ w6 ∷ w7 ∷ w8 ∷ w9 ∷ w10 ∷ w11 ∷ w12 ∷ w13 ∷ w14 ∷ w15 ∷ []) 16 s
  unfolding rounds_from
  sixteen_turns e0 e1 e2 e3 e4 e5 e6 e7 e8 e9 e10 e11 e12 e13 e14 e15 = let z : t + 0 ≡ t = add-zero t in cc

-- rounds with the words of one list, and then with those of another
front : (x y : List ℕ) (t : ℕ) (s : State) → t ≤ length x → rounds (x ++ y) t s ≡ rounds x t s
unfolding rounds
front x y zero s h = refl
front x y (suc t) s h = ap₂ (λ u w. round u (get_or round_constants t 0) w) (front x y t s (omega arith)) (get_or_append_left x y 0 t h)

pub more_turns : (x y : List ℕ) (n : ℕ) (s : State) → rounds (x ++ y) (length x + n) s ≡ rounds_from (length x) y n (rounds x (length x) s)
unfolding rounds rounds_from
more_turns x y zero s = rw add-zero (front x y (length x) s (omega arith))
more_turns x y (suc n) s =
    rw add-suc (ap₂ (λ u w. round u (get_or round_constants (length x + n) 0) w) (more_turns x y n s) (get_or-append-add x y n 0))

-- all sixty-four
pub all_turns : (w0 w1 w2 w3 : List ℕ) (s s0 s1 s2 s3 : State) → length w0 ≡ 16 → length w1 ≡ 16 → length w2 ≡ 16
    → s0 ≡ rounds_from 0 w0 16 s → s1 ≡ rounds_from 16 w1 16 s0 → s2 ≡ rounds_from 32 w2 16 s1 → s3 ≡ rounds_from 48 w3 16 s2
    → s3 ≡ rounds (w0 ++ (w1 ++ (w2 ++ w3))) 64 s
unfolding rounds
all_turns w0 w1 w2 w3 s s0 s1 s2 s3 h0 h1 h2 e0 e1 e2 e3 =
    let x1 = w0 ++ w1 in
    let x2 = x1 ++ w2 in
    let l1 : length x1 ≡ 32 = length-append w0 w1 ∙ omega arith in
    let l2 : length x2 ≡ 48 = length-append x1 w2 ∙ omega arith in
    let same : w0 ++ (w1 ++ (w2 ++ w3)) ≡ x2 ++ w3 =
    sym (append_assoc w0 w1 (w2 ++ w3)) ∙ sym (append_assoc x1 w2 w3) in
    let k1 : length w0 + 16 ≡ length x1 = omega arith in
    let k2 : length x1 + 16 ≡ length x2 = omega arith in
    let k3 : length x2 + 16 ≡ 64 = omega arith in
    let f0 : s0 ≡ rounds w0 (length w0) s = e0 ∙ sym (more_turns [] w0 16 s) ∙ ap (λ k. rounds w0 k s) (sym h0) in
    let f1 : s1 ≡ rounds x1 (length x1) s =
    e1 ∙ ap₂ (λ k u. rounds_from k w1 16 u) (sym h0) f0 ∙ sym (more_turns w0 w1 16 s) ∙ ap (λ k. rounds x1 k s) k1 in
    let f2 : s2 ≡ rounds x2 (length x2) s =
    e2 ∙ ap₂ (λ k u. rounds_from k w2 16 u) (sym l1) f1 ∙ sym (more_turns x1 w2 16 s) ∙ ap (λ k. rounds x2 k s) k2 in
    e3 ∙ ap₂ (λ k u. rounds_from k w3 16 u) (sym l2) f2 ∙ sym (more_turns x2 w3 16 s) ∙ ap₂ (λ v k. rounds v k s) (sym same) k3
