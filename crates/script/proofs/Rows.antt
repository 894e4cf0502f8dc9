-- A text, row by row: each up to its newline and with it. Assumes nothing.
use Rattle.std.proofs.Common.{◌≡◌, ℕ, suc, ◌+◌, ◌-◌, ◌<◌, min, Bool, ◌==◌, Bor, List, [], ◌∷◌, ◌++◌, length, get_or, take, drop, inl, inr, sym, ap, ◌∙◌, arith}
use denote.Param.Members.{Mut}
use Rattle.std.specs.List.{IsFirstMatchOrLen}
use Rattle.std.specs.Fn.{Called, ComputesKey}
use Rattle.std.specs.declared.slice.SplitInclusive.{SplitInclusive}
use Rattle.std.specs.Slice.Iter.{split_inclusive_rest, split_inclusive_callee}
use Rattle.std.proofs.lemmas.List.Sorted.{answers_always}
use Rattle.std.proofs.Math.Seq.{drop-append_seam}
use Rattle.std.proofs.lemmas.Bool.{cases_lt, eqb-true, eqb-false}
use Rattle.std.proofs.lemmas.List.{take-append-le, get_or_append_left}
use Rattle.words.specs.Lines.{pieces}
use Rattle.words.proofs.Cuts.{pieces_found, pieces_none}

-- a row comes off the front of the rest
pub record Row (row rest after : List ℕ) : Type 0 where
  pub parts : rest ≡ row ++ after
  pub place : ℕ
  pub long : length row ≡ min (place + 1) (length rest)
  pub first : IsFirstMatchOrLen (λ b. b == 10) rest place
  pub filled : 0 < length rest

module _ {row rest after : List ℕ} (h : Row row rest after) where
  none_before : (k : ℕ) → k < h.place → get_or rest k 0 ≡ 10 → ⊥
  none_before k l = eqb-false (get_or rest k 0) 10 (h.first.0 k 0 (omega arith) l)

  newline_at : h.place < length rest → get_or rest h.place 0 ≡ 10
  newline_at l = eqb-true (get_or rest h.place 0) 10 (h.first.1 l 0)

  last_of : get_or rest (length row - 1) 0 ≡ get_or row (length row - 1) 0
  last_of =
      ap (λ r. get_or r (length row - 1) 0) h.parts ∙ get_or_append_left row after 0 (length row - 1) (omega (arith, h.long, h.filled))

  pub row_ended : get_or row (length row - 1) 0 ≡ 10 → pieces 10 rest ≡ take (length row - 1) row ∷ pieces 10 after
  row_ended newline =
      elim (cases_lt h.place (length rest)) [
        | inl within ↦
            let long : length row ≡ suc h.place = omega (arith, h.long) in
            let place : h.place ≡ length row - 1 = omega arith in
            let front : take h.place rest ≡ take (length row - 1) row = ap (take h.place) h.parts ∙ take-append-le h.place row after (omega arith) ∙ ap (λ i. take i row) place in
            let back : drop (suc h.place) rest ≡ after = (λ i. drop (sym long i) (h.parts i)) ∙ drop-append_seam row after in
            pieces_found 10 rest h.place within (newline_at within) none_before ∙ (λ i. front i ∷ pieces 10 (back i))
        | inr beyond ↦ absurd (none_before (length row - 1) (omega (arith, h.long, h.filled)) (last_of ∙ newline))
      ]

  pub row_cut_off : (get_or row (length row - 1) 0 ≡ 10 → ⊥) → pieces 10 rest ≡ rest ∷ []
  row_cut_off other =
      elim (cases_lt h.place (length rest)) [
        | inl within ↦
            let place : length row - 1 ≡ h.place = omega (arith, h.long) in
            absurd (other (sym last_of ∙ ap (λ i. get_or rest i 0) place ∙ newline_at within))
        | inr beyond ↦ pieces_none 10 rest (λ k l. none_before k (omega arith))
      ]

-- ---- `split_inclusive` at newlines gives rows

abbrev Step : {F : Type 0} → Mut F (Bor ℕ × Unit {0}) Bool → SplitInclusive ℕ F → SplitInclusive ℕ F → List ℕ → Type 0
Step g s t row =
    (split_inclusive_rest s ≡ row ++ split_inclusive_rest t) × ((i : ℕ) × (length row ≡ min (i + 1) (length (split_inclusive_rest s))) × ((p : ℕ → Bool) → ComputesKey g p (split_inclusive_callee s) → ComputesKey g p (split_inclusive_callee t) × IsFirstMatchOrLen p (split_inclusive_rest s) i)) × (0 < length (split_inclusive_rest s))

-- the closure asks whether a byte is a newline
abbrev Asks : {F : Type 0} → Mut F (Bor ℕ × Unit {0}) Bool → Type 0
Asks {F} g = (f : F) (a : Bor ℕ × Unit {0}) (r : Bool) (f' : F) → Called g f a r f' → r ≡ (a.0.now == 10)

module _ {F : Type 0} (g : Mut F (Bor ℕ × Unit {0}) Bool) (s t : SplitInclusive ℕ F) (row : Bor (List ℕ)) (step : Step g s t row.now) (asks : Asks g) where
  pub row_of : Row row.now (split_inclusive_rest s) (split_inclusive_rest t)
  row_of = record {
    parts = step.0;
    place = step.1.0;
    long = step.1.1;
    first = (step.1.2 (λ b. b == 10) (answers_always g (λ a r. r ≡ (a.0.now == 10)) (split_inclusive_callee s) asks)).1;
    filled = step.2;
  }

  pub line_of : get_or row.now (length row.now - 1) 0 ≡ 10 → pieces 10 (split_inclusive_rest s) ≡ take (length row.now - 1) row.now ∷ pieces 10 (split_inclusive_rest t)
  line_of newline = row_ended row_of newline
