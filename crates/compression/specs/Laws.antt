-- What the constants of SHA-256 are, and what its padding does. Assumes nothing.
use Rattle.std.specs.Prelude.{◌≡◌, ℕ, zero, suc, ◌+◌, ◌*◌, ◌%◌, ◌^◌, ◌<◌, ◌≤◌, Bool, true, false, cond, not, ◌&&◌, List, [], ◌∷◌, ◌++◌, length, replicate, ◌==◌, slice_index}
use Rattle.compression.specs.declared.state.State.{State}
use Rattle.compression.specs.Sha256.{round_constants, initial_hash, bytes, zeros, padded}

-- ---- the constants come from prime numbers

-- no number from 2 to d + 1 divides n
unfoldable pub undivided : ℕ → ℕ → Bool
undivided n zero = true
undivided n (suc d) = not (n % (2 + d) == 0) && undivided n d

unfoldable pub is_prime : ℕ → Bool
is_prime zero = false
is_prime (suc zero) = false
is_prime (suc (suc d)) = undivided (suc (suc d)) d

-- the prime numbers below n
unfoldable pub primes : ℕ → List ℕ
primes zero = []
primes (suc n) = primes n ++ cond (is_prime n) (n ∷ []) []

-- x is the first 32 bits of the fractional part of the e-th root of p: with some whole part, it is the root to 32 places, cut off
abbrev pub Fraction : ℕ → ℕ → ℕ → Type 0
Fraction e p x =
    (whole : ℕ) × (x < 2 ^ 32) × ((whole * 2 ^ 32 + x) ^ e ≤ p * 2 ^ (32 * e)) × (p * 2 ^ (32 * e) < (whole * 2 ^ 32 + x + 1) ^ e)

-- the words of a state
abbrev pub words_of : State → List ℕ
words_of s = s.a ∷ s.b ∷ s.c ∷ s.d ∷ s.e ∷ s.f ∷ s.g ∷ s.h ∷ []

-- the round constants are those of the cube roots of the first 64 primes, the first state that of the square roots of the first eight
pub record Constants : Type 0 where
  pub sixty_four : length (primes 312) ≡ 64
  pub rounds : (t : ℕ) → t < 64 → Fraction 3 (slice_index (primes 312) t) (slice_index round_constants t)
  pub state : (t : ℕ) → t < 8 → Fraction 2 (slice_index (primes 312) t) (slice_index (words_of initial_hash) t)

-- ---- the padding

-- A padded message is the message, a byte with the bit 1 in front, bytes 0, and the length in bits in eight bytes; it is whole blocks, and no
-- fewer bytes 0 would do.
pub record Padding (m : List ℕ) : Type 0 where
  pub parts : padded m ≡ m ++ 0x80 ∷ (replicate (zeros (length m)) 0 ++ bytes 8 (8 * length m))
  pub whole : length (padded m) % 64 ≡ 0
  pub fewest : (k : ℕ) → (length m + 1 + k + 8) % 64 ≡ 0 → zeros (length m) ≤ k
