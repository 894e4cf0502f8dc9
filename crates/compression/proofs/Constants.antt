-- The table of constants, by one test over the whole of it.
use Rattle.std.proofs.Common.{◌≡◌, ℕ, zero, suc, ◌+◌, ◌*◌, ◌^◌, ◌<◌, Bool, true, false, cond, ◌&&◌, ltb, leb, List, [], ◌∷◌, length, get_or, refl, arith}
use Rattle.std.proofs.lemmas.Bool.{and_parts, both_ways, ltb-true, leb-true}
use Rattle.compression.specs.Laws.{undivided, is_prime, primes, Fraction, words_of, Constants}
use Rattle.compression.specs.Sha256.{round_constants, initial_hash}

-- how many numbers from 1 to n have an e-th power of at most p
wholes : ℕ → ℕ → ℕ → ℕ
wholes e p zero = 0
wholes e p (suc n) = cond (leb (suc n ^ e) p) 1 0 + wholes e p n

-- at one entry: with the root's whole part, which is below 20
fits : ℕ → ℕ → ℕ → ℕ → Bool
fits e p x whole =
    ltb x (2 ^ 32) && (leb ((whole * 2 ^ 32 + x) ^ e) (p * 2 ^ (32 * e)) && ltb (p * 2 ^ (32 * e)) ((whole * 2 ^ 32 + x + 1) ^ e))

all_fit : ℕ → List ℕ → List ℕ → Bool
all_fit e ps [] = true
all_fit e [] (x ∷ xs) = false
all_fit e (p ∷ ps) (x ∷ xs) = fits e p x (wholes e p 20) && all_fit e ps xs

fraction : (e p x whole : ℕ) → fits e p x whole ≡ true → Fraction e p x
unfolding fits
fraction e p x whole t =
    let a = and_parts _ _ t in
    let b = and_parts _ _ a.1 in
    (whole, ltb-true _ _ a.0, leb-true _ _ b.0, ltb-true _ _ b.1)

each : (e : ℕ) (ps xs : List ℕ) → all_fit e ps xs ≡ true → (t : ℕ) → t < length xs → Fraction e (get_or ps t 0) (get_or xs t 0)
unfolding all_fit
each e ps [] h t l = absurd (omega arith)
each e [] (x ∷ xs) h t l = absurd (both_ways false refl h)
each e (p ∷ ps) (x ∷ xs) h zero l = fraction e p x (wholes e p 20) (and_parts _ _ h).0
each e (p ∷ ps) (x ∷ xs) h (suc t) l = each e ps xs (and_parts _ _ h).1 t (omega arith)

cube_roots : all_fit 3 (primes 312) round_constants ≡ true
unfolding all_fit fits wholes primes is_prime undivided round_constants
cube_roots = refl

square_roots : all_fit 2 (primes 312) (words_of initial_hash) ≡ true
unfolding all_fit fits wholes primes is_prime undivided initial_hash
square_roots = refl

sixty_four : length (primes 312) ≡ 64
unfolding primes is_prime undivided
sixty_four = refl

length-round_constants : length round_constants ≡ 64
unfolding round_constants
length-round_constants = refl

pub constants : Constants
constants = record {
  sixty_four = sixty_four;
  rounds = λ t l. each 3 (primes 312) round_constants cube_roots t (omega (arith, length-round_constants));
  state = λ t l. each 2 (primes 312) (words_of initial_hash) square_roots t l;
}
