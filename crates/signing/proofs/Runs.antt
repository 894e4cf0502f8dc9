-- Byte strings that carry their signature, in runs without forgery.
use Rattle.std.proofs.Common.{◌≡◌, ℕ, ◌+◌, ◌-◌, ◌<◌, ◌≤◌, Bool, true, false, not, ◌&&◌, List, [], ◌∷◌, ◌++◌, length, get_or, take, drop, sym, refl, ap, ◌∙◌, ap₂, append_assoc, arith, le-ltb, lt-ltb}
use borrow.Rule.Slice.PartMut.{put_mid}
use Rattle.std.proofs.lemmas.List.{length-append, length-take-le, take_at, drop_at}
use Rattle.std.proofs.lemmas.Bool.{both_ways}
use Rattle.digest.proofs.Messages.{put_is}
use Rattle.signing.specs.Signed.{body, ending, carries, SignedBefore, Scheme}
use Rattle.signing.specs.Unforged.{Use, Signs, Checks, Unforged}

module _ (accepts : List ℕ → List ℕ → Bool) where
  -- ---- one byte string

  pub too_short : (bytes : List ℕ) → length bytes < 64 → false ≡ carries accepts bytes
  unfolding carries
  too_short bytes h = sym (ap (λ b. not b && accepts (body bytes) (ending bytes)) (lt-ltb (length bytes) 64 h))

  pub long_enough : (bytes : List ℕ) → 64 ≤ length bytes → accepts (body bytes) (ending bytes) ≡ carries accepts bytes
  unfolding carries
  long_enough bytes h = sym (ap (λ b. not b && accepts (body bytes) (ending bytes)) (le-ltb (length bytes) 64 h))

  pub before : (bytes : List ℕ) (r : Bool) → r ≡ accepts (body bytes) (ending bytes) → SignedBefore accepts bytes r
  before bytes r e = λ past later unforged accepted. unforged past later (body bytes) (ending bytes) refl (sym e ∙ accepted)

  pub never : (bytes : List ℕ) → SignedBefore accepts bytes false
  never bytes = λ past later unforged accepted. absurd (both_ways false refl accepted)

  -- ---- the scheme

  module _ (signature : List ℕ → List ℕ) (honest : (m : List ℕ) → accepts m (signature m) ≡ true) (sized : (m : List ℕ) → length (signature m) ≡ 64) where
    carried : (m : List ℕ) → carries accepts (m ++ signature m) ≡ true
    carried m =
        let all = m ++ signature m in
        let size = sized m in
        let l : length all ≡ length m + 64 = length-append m (signature m) ∙ omega arith in
        let n : length m ≡ length all - 64 = omega arith in
        sym (long_enough all (omega arith)) ∙ ap₂ accepts (take_at m (signature m) (length all - 64) n) (drop_at m (signature m) (length all - 64) n)
        ∙ honest m

    guessed : (m : List ℕ) → Unforged accepts (Checks m (signature m) ∷ []) → ⊥
    guessed m unforged =
        let s = unforged [] [] m (signature m) refl (honest m) in
        let l = ap length s.2 in
        let a = length-append s.0 (Signs m ∷ s.1) in
        omega arith

    abbrev is_signing : Use → Bool
    is_signing (Signs m) = true
    is_signing (Checks m s) = false

    abbrev message_of : Use → List ℕ
    message_of (Signs m) = m
    message_of (Checks m s) = m

    abbrev at : ℕ → List Use → Use
    at i uses = get_or uses i (Signs [])

    signed : (m : List ℕ) → Unforged accepts (Signs m ∷ Checks m (signature m) ∷ [])
    signed m [] later m' s e accepted = absurd (both_ways false refl (sym (ap (λ u. is_signing (at 0 u)) e)))
    signed m (x ∷ []) later m' s e accepted =
        let same : m ≡ m' = ap (λ u. message_of (at 1 u)) e in
        let first : Signs m ≡ x = ap (at 0) e in
        ([], [], ap (λ u. u ∷ []) (sym first ∙ ap Signs same))
    signed m (x ∷ (y ∷ past)) later m' s e accepted =
        let l = ap length e in
        let a = length-append past (Checks m' s ∷ later) in
        absurd (omega arith)

    pub scheme : Scheme accepts signature
    scheme = record { carried = carried; guessed = guessed; signed = signed }

    -- the signature of the first n bytes is written after them
    module _ (n : ℕ) (old : List ℕ) where
      pub sealed : (sig copied : List ℕ) → copied ≡ sig → sig ≡ signature (take (n - 0) old)
          → put_mid n (n + 64 - n) old copied ≡ take n old ++ (signature (take n old) ++ drop (n + 64) old)
      sealed sig copied ec es =
          let i : n - 0 ≡ n = omega arith in
          let s = signature (take n old) in
          let size = sized (take n old) in
          ap (λ k. put_mid n (n + k - n) old copied) (sym size) ∙ put_is n old copied s (ec ∙ es ∙ ap (λ j. signature (take j old)) i)
          ∙ ap (λ k. take n old ++ (s ++ drop (n + k) old)) size

      pub accepted : (new : List ℕ) → n + 64 ≤ length old → new ≡ take n old ++ (signature (take n old) ++ drop (n + 64) old)
          → carries accepts (take (n + 64) new) ≡ true
      accepted new h e =
          let m = take n old in
          let both = m ++ signature m in
          let size = sized m in
          let l : length m ≡ n = length-take-le n old (omega arith) in
          let lb : length both ≡ n + 64 = length-append m (signature m) ∙ omega arith in
          ap (carries accepts)
          (ap (take (n + 64)) (e ∙ sym (append_assoc m (signature m) (drop (n + 64) old))) ∙ take_at both (drop (n + 64) old) (n + 64) lb)
          ∙ carried m
