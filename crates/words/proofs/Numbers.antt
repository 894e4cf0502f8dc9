-- Numbers in decimal digits. Assumes nothing.
use Rattle.std.proofs.Common.{◌≡◌, ℕ, ◌+◌, ◌-◌, ◌*◌, ◌^◌, ◌<◌, ◌≤◌, true, false, cond, not, ◌&&◌, eqb, ltb, List, [], ◌∷◌, length, get_or, drop, Some, None, decimal, sym, ap, ◌∙◌, inl, inr, arith, rules}
use Rattle.std.specs.Int.{IsInRange}
use Rattle.std.specs.Str.{all_ascii_digits}
use Rattle.std.proofs.lemmas.Str.Parse.{IsNumeralModel, numerals_by_fold, digit_at, not_in_digits}
use Rattle.std.proofs.lemmas.List.{at_drop_more, at_drop_all}
use Rattle.std.proofs.lemmas.Bool.{and_parts, and_cases, and_left, and_right, and_from, not-true, not_from_false, cond-true, cond-false, cases_Bool, cases_order, le-ltb, lt-ltb, ltb-true, ltb-false, eqb-false, ne_eqb}
use Rattle.std.proofs.lemmas.Fmt.{decimal-digits_value, decimal_digit, decimal_nonempty, first_decimal, digits_decimal, digits_value-decimal}
use Rattle.words.specs.Words.{is_numeral, read_on, number_of}

pub own : IsNumeralModel (λ ds. all_ascii_digits ds ≡ true) (read_on 0)
unfolding read_on
own = numerals_by_fold _ (search rules) read_on (search rules)

pub numeral_digits : (w : List ℕ) → is_numeral w ≡ true → all_ascii_digits w ≡ true
numeral_digits w e = (and_parts (not (ltb 1 (length w) && eqb (get_or w 0 0) 48)) (all_ascii_digits w) (and_parts (ltb 0 (length w)) _ e).1).1

pub numeral_digit : (w : List ℕ) (i : ℕ) → is_numeral w ≡ true → i < length w → IsInRange 48 57 (get_or w i 0)
numeral_digit w i e h = digit_at w i (own.to w (numeral_digits w e)) h

pub not_numeral : (w : List ℕ) → is_numeral w ≡ false → None ≡ number_of w
unfolding number_of
not_numeral w e = sym (ap (λ b. cond (b && ltb (read_on 0 w) (2 ^ 32)) (Some (read_on 0 w)) None) e)

-- a number only grows as it is read
grows : (n : ℕ) (ds : List ℕ) → n ≤ read_on n ds
unfolding read_on
grows n [] = omega arith
grows n (d ∷ ds) = omega (arith, grows (10 * n + (d - 48)) ds)

-- one digit more
pub read_more : (n : ℕ) (w : List ℕ) (i d : ℕ) → i < length w → d ≡ get_or w i 0 - 48 → read_on (10 * n + d) (drop (i + 1) w) ≡ read_on n (drop i w)
unfolding read_on
read_more n w i d h e = ap (λ x. read_on (10 * n + x) (drop (i + 1) w)) e ∙ sym (at_drop_more (read_on n) w i 0 h)

-- what is read is too large already
pub too_large : (w : List ℕ) (n : ℕ) (ds : List ℕ) → read_on n ds ≡ read_on 0 w → 2 ^ 32 ≤ n → None ≡ number_of w
unfolding number_of
too_large w n ds e h = sym (cond-false _ _ _ (and_right (is_numeral w) _ (le-ltb (read_on 0 w) (2 ^ 32) (omega (arith, grows n ds)))))

-- all of it is read
pub read_all : (w : List ℕ) (n i : ℕ) → is_numeral w ≡ true → length w ≤ i → read_on n (drop i w) ≡ read_on 0 w → n < 2 ^ 32 → Some n ≡ number_of w
unfolding number_of read_on
read_all w n i t le e h =
    let is : n ≡ read_on 0 w = sym (at_drop_all (read_on n) w i le) ∙ e in
    ap (λ m. Some m) is ∙ sym (cond-true _ _ _ (and_from _ _ t (lt-ltb (read_on 0 w) (2 ^ 32) (omega arith))))

-- ---- a word is the number n exactly if n is written so

numeral_parts : (w : List ℕ) → is_numeral w ≡ true → (all_ascii_digits w ≡ true) × (0 < length w) × (get_or w 0 0 ≡ 48 → length w ≡ 1)
numeral_parts w e =
    let some = and_parts (ltb 0 (length w)) _ e in
    let rest = and_parts (not (ltb 1 (length w) && eqb (get_or w 0 0) 48)) (all_ascii_digits w) some.1 in
    let long = ltb-true 0 (length w) some.0 in
    let lead = and_cases (ltb 1 (length w)) (eqb (get_or w 0 0) 48) (not-true _ rest.0) in (
      rest.1,
      long,
      λ z. elim lead [
        | inl short ↦ omega (arith, ltb-false 1 (length w) short)
        | inr other ↦ absurd (eqb-false (get_or w 0 0) 48 other z)
      ],
    )

pub number_read : (w : List ℕ) (n : ℕ) → number_of w ≡ Some n → (n < 2 ^ 32) × (decimal n ≡ w)
unfolding number_of
number_read w n e =
    elim (cases_Bool (is_numeral w && ltb (read_on 0 w) (2 ^ 32))) [
      | inl t ↦
          let both = and_parts (is_numeral w) _ t in
          let parts = numeral_parts w both.0 in
          let small = ltb-true (read_on 0 w) (2 ^ 32) both.1 in
          let is : read_on 0 w ≡ n = cc (cond-true _ (Some (read_on 0 w)) None t) in
          (omega arith, ap decimal (sym is) ∙ decimal-digits_value own w parts.0 parts.1 parts.2 (omega arith))
      | inr f ↦ let z : ◌≡◌ {A = ℕ} 0 1 = cc (cond-false _ (Some (read_on 0 w)) None f) in absurd (omega arith)
    ]

no_leading : (n : ℕ) → n < 2 ^ 32 → (ltb 1 (length (decimal n)) && eqb (get_or (decimal n) 0 0) 48) ≡ false
no_leading n h =
    elim (cases_order n 0) [
      | inl none ↦ let one : length (decimal n) ≡ 1 = ap length (decimal_digit n (omega arith)) in and_left _ _ (le-ltb 1 (length (decimal n)) (omega arith))
      | inr other ↦ and_right _ _ (ne_eqb (get_or (decimal n) 0 0) 48 (λ e. let first = first_decimal n (omega arith) (omega arith) in omega arith))
    ]

pub number_written : (n : ℕ) → n < 2 ^ 32 → number_of (decimal n) ≡ Some n
unfolding number_of
number_written n h =
    let numeral : is_numeral (decimal n) ≡ true = and_from _ _ (lt-ltb 0 _ (decimal_nonempty n (omega arith))) (and_from _ _ (not_from_false _ (no_leading n h)) (digits_decimal own n (omega arith))) in
    let value = digits_value-decimal own n (omega arith) in
    cond-true _ _ _ (and_from _ _ numeral (lt-ltb (read_on 0 (decimal n)) (2 ^ 32) (omega arith))) ∙ ap (λ m. Some m) value

pub no_space : (n : ℕ) → n < 2 ^ 32 → (k : ℕ) → k < length (decimal n) → get_or (decimal n) k 0 ≡ 32 → ⊥
no_space n h = not_in_digits own (decimal n) 32 (digits_decimal own n (omega arith)) (λ d. omega arith)
