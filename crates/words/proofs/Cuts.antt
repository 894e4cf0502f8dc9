-- Text cut at a byte, and blanks taken away, step by step. Assumes nothing.
use Rattle.std.proofs.Common.{◌≡◌, ℕ, inl, inr, zero, suc, ◌+◌, ◌-◌, ◌<◌, ◌≤◌, true, false, cond, eqb, List, [], ◌∷◌, ◌++◌, reverse, length, get_or, take, drop, sym, refl, ap, ◌∙◌, not-suc-le-zero, add-one, arith, length-drop}
use mathlib.Core.List.{reverse-append, reverse-reverse}
use Rattle.std.proofs.lemmas.Bool.{eq-eqb, ne_eqb, cond-true, cond-false, cond_both, cases_lt}
use Rattle.std.proofs.lemmas.List.{take_all, take_more, take_rest}
use Rattle.words.specs.Lines.{pieces, on_first, is_blank, without_front, without_back}

pub pieces_none : (c : ℕ) (xs : List ℕ) → ((k : ℕ) → k < length xs → get_or xs k 0 ≡ c → ⊥) → pieces c xs ≡ xs ∷ []
unfolding pieces
pieces_none c [] none = refl
pieces_none c (x ∷ xs) none =
    cond-false (eqb x c) _ _ (ne_eqb x c (none 0 (omega arith))) ∙ ap (on_first x) (pieces_none c xs (λ k h. none (suc k) (omega arith)))

pub pieces_found : (c : ℕ) (xs : List ℕ) (i : ℕ) → i < length xs → get_or xs i 0 ≡ c → ((k : ℕ) → k < i → get_or xs k 0 ≡ c → ⊥) → pieces c xs ≡ take i xs ∷ pieces c (drop (suc i) xs)
unfolding pieces
pieces_found c [] i h e none = absurd (not-suc-le-zero h)
pieces_found c (x ∷ xs) zero h e none = cond-true (eqb x c) _ _ (eq-eqb x c e)
pieces_found c (x ∷ xs) (suc i) h e none =
    cond-false (eqb x c) _ _ (ne_eqb x c (none 0 (omega arith))) ∙ ap (on_first x) (pieces_found c xs i (omega arith) e (λ k l. none (suc k) (omega arith)))

-- the same as the code has it
pub cut_found : (c : ℕ) (xs : List ℕ) (i : ℕ) → i < length xs → get_or xs i 0 ≡ c → ((k : ℕ) → k < i → get_or xs k 0 ≡ c → ⊥) → (pieces c xs ≡ take i xs ∷ pieces c (take (length xs - (i + 1)) (drop (i + 1) xs))) × (length (take (length xs - (i + 1)) (drop (i + 1) xs)) < length xs)
cut_found c xs i h e none =
    rw (take_rest xs (i + 1), length-drop (i + 1) xs, add-one i)
    (pieces_found c xs i h e none, omega arith)

-- ---- the blanks at the front are those before the first byte that is none

pub front_blank : (xs : List ℕ) → ((k : ℕ) → k < length xs → is_blank (get_or xs k 0) ≡ true) → [] ≡ without_front xs
unfolding without_front
front_blank [] blank = refl
front_blank (x ∷ xs) blank =
    front_blank xs (λ k h. blank (suc k) (omega arith)) ∙ sym (cond-true _ _ _ (blank 0 (omega arith)))

pub front_from : (xs : List ℕ) (i : ℕ) → i < length xs → is_blank (get_or xs i 0) ≡ false → ((k : ℕ) → k < i → is_blank (get_or xs k 0) ≡ true) → drop i xs ≡ without_front xs
unfolding without_front
front_from [] i h said blank = absurd (not-suc-le-zero h)
front_from (x ∷ xs) zero h said blank = sym (cond-false _ _ _ said)
front_from (x ∷ xs) (suc i) h said blank =
    front_from xs i (omega arith) said (λ k l. blank (suc k) (omega arith)) ∙ sym (cond-true _ _ _ (blank 0 (omega arith)))

-- ---- and those at the back follow the last

back_snoc : (ys : List ℕ) (y : ℕ) → without_back (ys ++ y ∷ []) ≡ reverse (cond (is_blank y) (without_front (reverse ys)) (y ∷ reverse ys))
unfolding without_front
back_snoc ys y = ap (λ l. reverse (without_front l)) (reverse-append ys (y ∷ []))

back_more : (xs : List ℕ) (i : ℕ) → i < length xs → is_blank (get_or xs i 0) ≡ true → without_back (take (i + 1) xs) ≡ without_back (take i xs)
back_more xs i h b = ap without_back (take_more xs i 0 h) ∙ back_snoc (take i xs) _ ∙ ap reverse (cond-true _ _ _ b)

back_done : (xs : List ℕ) (i : ℕ) → i < length xs → is_blank (get_or xs i 0) ≡ false → without_back (take (i + 1) xs) ≡ take (i + 1) xs
back_done xs i h b =
    let more = take_more xs i 0 h in
    ap without_back more ∙ back_snoc (take i xs) _ ∙ ap reverse (cond-false _ _ _ b ∙ sym (reverse-append (take i xs) (get_or xs i 0 ∷ []))) ∙ reverse-reverse _ ∙ sym more

-- the first n bytes, of which those from low on are blank
back_blanks : (xs : List ℕ) (low n : ℕ) → low ≤ n → n ≤ length xs → ((k : ℕ) → low ≤ k → k < n → is_blank (get_or xs k 0) ≡ true) → without_back (take n xs) ≡ without_back (take low xs)
back_blanks xs low zero h le blank = let is : zero ≡ low = omega arith in ap (λ n. without_back (take n xs)) is
back_blanks xs low (suc n) h le blank =
    elim (cases_lt n low) [
      | inl last ↦ let is : suc n ≡ low = omega arith in ap (λ m. without_back (take m xs)) is
      | inr below ↦ rw (← add-one n) (back_more xs n (omega arith) (blank n below (omega arith)) ∙ back_blanks xs low n below (omega arith) (λ k l m. blank k l (omega arith)))
    ]

pub back_blank : (xs : List ℕ) → ((k : ℕ) → k < length xs → is_blank (get_or xs k 0) ≡ true) → [] ≡ without_back xs
unfolding without_front
back_blank xs blank =
    sym (ap without_back (sym (take_all _ xs (omega arith))) ∙ back_blanks xs 0 (length xs) (omega arith) (omega arith) (λ k l m. blank k m))

pub back_to : (xs : List ℕ) (i : ℕ) → i < length xs → is_blank (get_or xs i 0) ≡ false → ((k : ℕ) → i < k → k < length xs → is_blank (get_or xs k 0) ≡ true) → take (i + 1) xs ≡ without_back xs
back_to xs i h said blank =
    sym (ap without_back (sym (take_all _ xs (omega arith))) ∙ back_blanks xs (i + 1) (length xs) (omega arith) (omega arith) (λ k l m. blank k (omega arith) m) ∙ back_done xs i h said)

on_first_some : (b : ℕ) (ps : List (List ℕ)) → on_first b ps ≡ [] → ⊥
on_first_some b [] e = let z : ◌≡◌ {A = ℕ} 0 1 = cc in omega arith
on_first_some b (p ∷ ps) e = let z : ◌≡◌ {A = ℕ} 0 1 = cc in omega arith

pub pieces_some : (c : ℕ) (xs : List ℕ) → pieces c xs ≡ [] → ⊥
unfolding pieces
pieces_some c [] e = let z : ◌≡◌ {A = ℕ} 0 1 = cc in omega arith
pieces_some c (x ∷ xs) e =
    cond_both (eqb x c) _ _ (λ ps. ps ≡ [] → ⊥) (λ _ f. let z : ◌≡◌ {A = ℕ} 0 1 = cc in omega arith) (λ _ f. on_first_some x (pieces c xs) f) e
