-- Two forms of a function on words agree where they agree on every digit.
use Rattle.std.proofs.Common.{◌≡◌, ℕ, zero, suc, ◌+◌, ◌-◌, ◌/◌, ◌%◌, ◌^◌, ◌<◌, refl, pow-suc, arith}
use lib.Bits.{bit_and, bit_xor, and_shr, xor_shr, and_mod, xor_mod}

-- a fact about three digits, by its eight cases
module _ (P : ℕ → ℕ → ℕ → Type 0) where
  two : (Q : ℕ → Type 0) → Q 0 → Q 1 → (a : ℕ) → a < 2 → Q a
  two Q p q zero h = p
  two Q p q (suc zero) h = q
  two Q p q (suc (suc a)) h = absurd (omega arith)

  pub eight : P 0 0 0 → P 0 0 1 → P 0 1 0 → P 0 1 1 → P 1 0 0 → P 1 0 1 → P 1 1 0 → P 1 1 1
      → (a b c : ℕ) → a < 2 → b < 2 → c < 2 → P a b c
  eight p0 p1 p2 p3 p4 p5 p6 p7 a b c ha hb hc =
      two (λ x. P x b c)
      (two (λ y. P 0 y c) (two (P 0 0) p0 p1 c hc) (two (P 0 1) p2 p3 c hc) b hb)
      (two (λ y. P 1 y c) (two (P 1 0) p4 p5 c hc) (two (P 1 1) p6 p7 c hc) b hb)
      a ha

by_digits : (a b : ℕ) → a / 2 ≡ b / 2 → a % 2 ≡ b % 2 → a ≡ b
by_digits a b halves digits = omega arith

and_half : (a b : ℕ) → bit_and a b / 2 ≡ bit_and (a / 2) (b / 2)
and_half a b = and_shr a b 1

xor_half : (a b : ℕ) → bit_xor a b / 2 ≡ bit_xor (a / 2) (b / 2)
xor_half a b = xor_shr a b 1

and_digit : (a b : ℕ) → bit_and a b % 2 ≡ bit_and (a % 2) (b % 2)
and_digit a b = and_mod a b 1

xor_digit : (a b : ℕ) → bit_xor a b % 2 ≡ bit_xor (a % 2) (b % 2)
xor_digit a b = xor_mod a b 1

half_below : (w x : ℕ) → x < 2 ^ suc w → x / 2 < 2 ^ w
half_below w x h = omega (arith, pow-suc 2 w)

-- ---- the majority

abbrev by_pairs : ℕ → ℕ → ℕ → ℕ
by_pairs x y z = bit_xor (bit_xor (bit_and x y) (bit_and x z)) (bit_and y z)

abbrev by_changes : ℕ → ℕ → ℕ → ℕ
by_changes x y z = bit_xor (bit_and (bit_xor x y) (bit_xor y z)) y

pub majority_is : (w x y z : ℕ) → x < 2 ^ w → y < 2 ^ w → z < 2 ^ w → by_changes x y z ≡ by_pairs x y z
majority_is zero x y z hx hy hz =
    let x0 : x ≡ 0 = omega arith in
    let y0 : y ≡ 0 = omega arith in
    rw (x0, y0)
majority_is (suc w) x y z hx hy hz =
    let halves = majority_is w (x / 2) (y / 2) (z / 2) (half_below w x hx) (half_below w y hy) (half_below w z hz) in
    let digits =
    eight (λ a b c. by_changes a b c ≡ by_pairs a b c) refl refl refl refl refl refl refl refl
    (x % 2) (y % 2) (z % 2) (omega arith) (omega arith) (omega arith) in
    by_digits _ _ (simp (xor_half, and_half) halves) (simp (xor_digit, and_digit) digits)

-- ---- the choice, where n is the complement of x

abbrev by_both : ℕ → ℕ → ℕ → ℕ → ℕ
by_both x n y z = bit_xor (bit_and x y) (bit_and n z)

abbrev by_change : ℕ → ℕ → ℕ → ℕ
by_change x y z = bit_xor z (bit_and x (bit_xor y z))

pub choice_is : (w x n y z : ℕ) → x + n + 1 ≡ 2 ^ w → z < 2 ^ w → by_change x y z ≡ by_both x n y z
choice_is zero x n y z e hz =
    let x0 : x ≡ 0 = omega arith in
    let n0 : n ≡ 0 = omega arith in
    let z0 : z ≡ 0 = omega arith in
    rw (x0, n0, z0)
choice_is (suc w) x n y z e hz =
    let rest : x / 2 + n / 2 + 1 ≡ 2 ^ w = omega (arith, pow-suc 2 w) in
    let other : n % 2 ≡ 1 - x % 2 = omega (arith, pow-suc 2 w) in
    let halves = choice_is w (x / 2) (n / 2) (y / 2) (z / 2) rest (half_below w z hz) in
    let digits =
    eight (λ a b c. by_change a b c ≡ by_both a (1 - a) b c) refl refl refl refl refl refl refl refl
    (x % 2) (y % 2) (z % 2) (omega arith) (omega arith) (omega arith) in
    by_digits _ _ (simp (xor_half, and_half) halves) (simp (xor_digit, and_digit) (rw other digits))
