-- The schedule, sixteen words at a time.
use Rattle.std.proofs.Common.{◌≡◌, ℕ, zero, suc, ◌+◌, ◌*◌, ◌^◌, ◌<◌, ◌≤◌, List, [], ◌∷◌, ◌++◌, length, get_or, take, drop, w32, sym, refl, ap, ◌∙◌, ap₂, append_assoc, add-zero, add-suc, mul-zero, mul-suc, arith}
use Rattle.std.proofs.Math.Seq.{take-suc}
use Rattle.std.proofs.lemmas.List.{length-append, length-drop, drop-drop, get_or-take, get_or-drop, get_or-append-add, take-append-le, take-append-drop, take_all, drop_more, drop_all}
use Rattle.std.specs.Int.{from_be_bytes}
use Rattle.std.specs.Simd.{first_chunks}
use Rattle.compression.specs.Parts.{following}
use Rattle.compression.specs.Sha256.{word, words, next_word, extended}

-- a chunk of a list stands where the chunks before it end
get_or-first_chunks : (n k t : ℕ) (xs : List ℕ) → t < k → get_or (first_chunks n k xs) t [] ≡ take n (drop (n * t) xs)
get_or-first_chunks n zero t xs h = absurd (omega arith)
get_or-first_chunks n (suc k) zero xs h = simp mul-zero
get_or-first_chunks n (suc k) (suc t) xs h =
    let i : n * suc t ≡ n + n * t = omega (arith, mul-suc n t) in
    get_or-first_chunks n k t (drop n xs) (omega arith) ∙ ap (take n) (drop-drop (n * t) n xs ∙ ap (λ j. drop j xs) (sym i))

-- the chunk of four bytes at t is word t
pub word_of_chunk : (block : List ℕ) (fours : List (List ℕ)) (n t : ℕ) → t < n → fours ≡ first_chunks 4 n block
    → from_be_bytes w32 (get_or fours t []) ≡ word block t
unfolding word
word_of_chunk block fours n t h e =
    let at : (j : ℕ) → j < 4 → get_or (get_or fours t []) j 0 ≡ get_or block (4 * t + j) 0 =
    λ j k.
    ap (λ v. get_or v j 0) (ap (λ v. get_or v t []) e ∙ get_or-first_chunks 4 n t block h)
    ∙ get_or-take 4 (drop (4 * t) block) j 0 k ∙ get_or-drop (4 * t) block j 0 in
    let e0 : get_or (get_or fours t []) 0 0 ≡ get_or block (4 * t) 0 = at 0 (omega arith) ∙ ap (λ j. get_or block j 0) (add-zero (4 * t)) in
    ap₂ ◌+◌
    (ap₂ ◌+◌ (ap₂ ◌+◌ (ap (λ z. z * 2 ^ 24) e0) (ap (λ z. z * 2 ^ 16) (at 1 (omega arith)))) (ap (λ z. z * 2 ^ 8) (at 2 (omega arith))))
    (at 3 (omega arith))

words_so_far : (block ws : List ℕ) (n : ℕ) → n ≤ length ws → ((t : ℕ) → t < n → get_or ws t 0 ≡ word block t) → take n ws ≡ words block n
unfolding words
words_so_far block ws zero h each = refl
words_so_far block ws (suc n) h each =
    take-suc ws n 0 (omega arith)
    ∙ ap₂ (λ v w. v ++ w ∷ []) (words_so_far block ws n (omega arith) (λ t l. each t (omega arith))) (each n (omega arith))

pub words_are : (block ws : List ℕ) → length ws ≡ 16 → ((t : ℕ) → t < 16 → get_or ws t 0 ≡ word block t) → ws ≡ words block 16
words_are block ws h each = sym (take_all 16 ws (omega arith)) ∙ words_so_far block ws 16 (omega arith) each

-- a list by its elements
abbrev from : List ℕ → ℕ → ℕ → List ℕ
from w i zero = []
from w i (suc n) = get_or w i 0 ∷ from w (i + 1) n

from_is : (w : List ℕ) (i n : ℕ) → length w ≡ i + n → drop i w ≡ from w i n
from_is w i zero h = drop_all i w (omega arith)
from_is w i (suc n) h = drop_more w i 0 (omega arith) ∙ ap (λ z. get_or w i 0 ∷ z) (from_is w (i + 1) n (omega arith))

pub sixteen : (w : List ℕ) → length w ≡ 16 → w ≡ from w 0 16
sixteen w h = from_is w 0 16 h

-- sixteen words by the four rules for each: `b` are those before, `n` the new ones
module _ (b0 b1 b2 b3 b4 b5 b6 b7 b8 b9 b10 b11 b12 b13 b14 b15 : ℕ) (n0 n1 n2 n3 n4 n5 n6 n7 n8 n9 n10 n11 n12 n13 n14 n15 : ℕ) where
  abbrev before : List ℕ
  before = b0 ∷ b1 ∷ b2 ∷ b3 ∷ b4 ∷ b5 ∷ b6 ∷ b7 ∷ b8 ∷ b9 ∷ b10 ∷ b11 ∷ b12 ∷ b13 ∷ b14 ∷ b15 ∷ []

  abbrev new : List ℕ
  new = n0 ∷ n1 ∷ n2 ∷ n3 ∷ n4 ∷ n5 ∷ n6 ∷ n7 ∷ n8 ∷ n9 ∷ n10 ∷ n11 ∷ n12 ∷ n13 ∷ n14 ∷ n15 ∷ []

  pub written : n0 ≡ next_word b14 b9 b1 b0 → n1 ≡ next_word b15 b10 b2 b1 → n2 ≡ next_word n0 b11 b3 b2 → n3 ≡ next_word n1 b12 b4 b3
      → n4 ≡ next_word n2 b13 b5 b4 → n5 ≡ next_word n3 b14 b6 b5 → n6 ≡ next_word n4 b15 b7 b6 → n7 ≡ next_word n5 n0 b8 b7
      → n8 ≡ next_word n6 n1 b9 b8 → n9 ≡ next_word n7 n2 b10 b9 → n10 ≡ next_word n8 n3 b11 b10 → n11 ≡ next_word n9 n4 b12 b11
      → n12 ≡ next_word n10 n5 b13 b12 → n13 ≡ next_word n11 n6 b14 b13 → n14 ≡ next_word n12 n7 b15 b14 → n15 ≡ next_word n13 n8 n0 b15
      → new ≡ following before
  unfolding extended
  written e0 e1 e2 e3 e4 e5 e6 e7 e8 e9 e10 e11 e12 e13 e14 e15 = cc

-- what is added stands after what was there, and depends on the last sixteen words only
pub extended_more : (w p v : List ℕ) (n : ℕ) → extended w (length p) ≡ p ++ v → extended w (length p + n) ≡ p ++ extended v n
unfolding extended
extended_more w p v zero e = rw add-zero e
extended_more w p v (suc n) e =
    let a = length p in
    let x = extended v n in
    let same : extended w (a + n) ≡ p ++ x = extended_more w p v n e in
    let at : (k : ℕ) → get_or (p ++ x) (a + n + k) 0 ≡ get_or x (n + k) 0 =
    λ k. let i : a + n + k ≡ a + (n + k) = omega arith in ap (λ j. get_or (p ++ x) j 0) i ∙ get_or-append-add p x (n + k) 0 in
    let e14 = at 14 in
    let e9 = at 9 in
    let e1 = at 1 in
    let e0 : get_or (p ++ x) (a + n) 0 ≡ get_or x n 0 = get_or-append-add p x n 0 in
    let new = next_word (get_or x (n + 14) 0) (get_or x (n + 9) 0) (get_or x (n + 1) 0) (get_or x n 0) in
    let one : extended w (a + suc n) ≡ (p ++ x) ++ new ∷ [] = ap (extended w) (add-suc a n) ∙ cc in
    one ∙ append_assoc p x (new ∷ [])

length-extended : (w : List ℕ) (n : ℕ) → length (extended w n) ≡ length w + n
unfolding extended
length-extended w zero = sym (add-zero (length w))
length-extended w (suc n) = length-append (extended w n) _ ∙ omega (arith, length-extended w n)

starts : (w : List ℕ) (n : ℕ) → take (length w) (extended w n) ≡ w
unfolding extended
starts w zero = take_all (length w) w (omega arith)
starts w (suc n) = take-append-le (length w) (extended w n) _ (omega (arith, length-extended w n)) ∙ starts w n

pub by_sixteen : (w : List ℕ) → length w ≡ 16 → extended w 16 ≡ w ++ following w
by_sixteen w h =
    sym (take-append-drop 16 (extended w 16)) ∙ ap (λ z. z ++ following w) (ap (λ k. take k (extended w 16)) (sym h) ∙ starts w 16)

pub length-following : (w : List ℕ) → length w ≡ 16 → length (following w) ≡ 16
length-following w h = length-drop 16 (extended w 16) ∙ omega (arith, length-extended w 16)

-- the whole schedule
pub by_fours : (w0 w1 w2 w3 : List ℕ) → length w0 ≡ 16 → w1 ≡ following w0 → w2 ≡ following w1 → w3 ≡ following w2
    → extended w0 48 ≡ w0 ++ (w1 ++ (w2 ++ w3))
by_fours w0 w1 w2 w3 h e1 e2 e3 =
    let h1 : length w1 ≡ 16 = ap length e1 ∙ length-following w0 h in
    let h2 : length w2 ≡ 16 = ap length e2 ∙ length-following w1 h1 in
    let f0 : extended w0 16 ≡ w0 ++ w1 = by_sixteen w0 h ∙ ap (λ z. w0 ++ z) (sym e1) in
    let f1 : extended w1 16 ≡ w1 ++ w2 = by_sixteen w1 h1 ∙ ap (λ z. w1 ++ z) (sym e2) in
    let f2 : extended w2 16 ≡ w2 ++ w3 = by_sixteen w2 h2 ∙ ap (λ z. w2 ++ z) (sym e3) in
    let g1 : extended w1 32 ≡ w1 ++ (w2 ++ w3) =
    ap (λ k. extended w1 (k + 16)) (sym h1) ∙ extended_more w1 w1 w2 16 (ap (extended w1) h1 ∙ f1) ∙ ap (λ z. w1 ++ z) f2 in
    ap (λ k. extended w0 (k + 32)) (sym h) ∙ extended_more w0 w0 w1 32 (ap (extended w0) h ∙ f0) ∙ ap (λ z. w0 ++ z) g1
