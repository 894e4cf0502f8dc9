-- What the padding of a message is.
use Rattle.std.proofs.Common.{◌≡◌, ℕ, zero, suc, ◌+◌, ◌%◌, ◌≤◌, List, length, refl, ap, ◌∙◌, arith}
use Rattle.std.proofs.lemmas.List.{length-append, length-replicate}
use Rattle.compression.specs.Laws.{Padding}
use Rattle.compression.specs.Sha256.{bytes, zeros, padding, padded}

pub length-bytes : (k n : ℕ) → length (bytes k n) ≡ k
unfolding bytes
length-bytes zero n = refl
length-bytes (suc k) n = ap suc (length-bytes k n)

pub length-padding : (n : ℕ) → length (padding n) ≡ 1 + zeros n + 8
unfolding padding
length-padding n = simp (length-append, length-replicate, length-bytes) (omega arith)

fewest : (n k : ℕ) → (n + 1 + k + 8) % 64 ≡ 0 → zeros n ≤ k
unfolding zeros
fewest n k h = omega arith

whole : (n : ℕ) → (n + (1 + zeros n + 8)) % 64 ≡ 0
unfolding zeros
whole n = omega arith

pub padding_is : (m : List ℕ) → Padding m
unfolding padded padding
padding_is m =
    let n = length m in
    record {
      parts = refl;
      whole = ap (λ k. k % 64) (length-append m (padding n) ∙ ap (λ k. n + k) (length-padding n)) ∙ whole n;
      fewest = fewest n;
    }
