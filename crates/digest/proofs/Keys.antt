-- The block of a key, and what is hashed after it.
use Rattle.std.proofs.Common.{◌≡◌, ℕ, ◌+◌, ◌-◌, ◌^◌, ◌<◌, ◌≤◌, cond, List, ◌++◌, map, length, take, drop, replicate, Ok, Err, Result, sym, ap, ◌∙◌, subst, append_assoc, arith, le-ltb, lt-ltb}
use lib.Bits.{bit_xor}
use Rattle.std.proofs.lemmas.List.{length-append, drop-replicate}
use Rattle.compression.specs.declared.state.State.{State}
use Rattle.compression.specs.Sha256.{initial_hash, processed, digest}
use Rattle.digest.specs.declared.hasher.Hasher.{Hasher}
use Rattle.digest.specs.declared.incremental.TooLong.{TooLong}
use Rattle.digest.specs.Hmac.{filled, key_block, masked, ipad}
use Rattle.digest.specs.Keyed.{Keyed}
use Rattle.digest.specs.Taken.{Took, Updated}
use Rattle.digest.specs.Lengths.{length-masked}

-- a key written over zeros
filled_is : (k new : List ℕ) → new ≡ take 0 (replicate 64 0) ++ (k ++ drop (0 + length k) (replicate 64 0)) → new ≡ filled k
unfolding filled
filled_is k new e =
    let i : 64 - (0 + length k) ≡ 64 - length k = omega arith in
    e ∙ ap (λ v. k ++ v) (drop-replicate (0 + length k) 64 0 ∙ ap (λ n. replicate n 0) i)

pub long_key : (k d new : List ℕ) → 64 < length k → d ≡ digest k
    → new ≡ take 0 (replicate 64 0) ++ (d ++ drop (0 + length d) (replicate 64 0)) → new ≡ key_block k
unfolding key_block
long_key k d new h ed e =
    filled_is d new e ∙ ap filled ed ∙ ap (λ b. cond b (filled (digest k)) (filled k)) (sym (lt-ltb 64 (length k) h))

pub short_key : (k new : List ℕ) → length k ≤ 64
    → new ≡ take 0 (replicate 64 0) ++ (k ++ drop (0 + length k) (replicate 64 0)) → new ≡ key_block k
unfolding key_block
short_key k new h e = filled_is k new e ∙ ap (λ b. cond b (filled (digest k)) (filled k)) (sym (le-ltb 64 (length k) h))

pub masked_is : (pad : ℕ) (k block m : List ℕ) → block ≡ key_block k → m ≡ map (λ b. bit_xor b pad) block → m ≡ masked pad k
unfolding masked
masked_is pad k block m eb em = em ∙ ap (map (λ b. bit_xor b pad)) eb

-- the state after the key's block
pub after_key : (pad : ℕ) (k block : List ℕ) (s : State) → block ≡ key_block k → s ≡ processed (map (λ b. bit_xor b pad) block) 1 initial_hash
    → s ≡ processed (masked pad k) 1 initial_hash
unfolding masked
after_key pad k block s eb e = e ∙ ap (λ v. processed (map (λ b. bit_xor b pad) v) 1 initial_hash) eb

-- how much the inner hasher has taken, the key's block and then the message with its part
inner_length : (k m part : List ℕ) → length ((masked ipad k ++ m) ++ part) ≡ 64 + length (m ++ part)
inner_length k m part =
    ap length (append_assoc (masked ipad k) m part) ∙ length-append (masked ipad k) (m ++ part)
    ∙ ap (λ n. n + length (m ++ part)) (length-masked ipad k)

-- an update of the inner hasher
pub updates : (k part : List ℕ) (g h : Hasher) (outer : State) (r : Result Unit TooLong) → Updated Took (2 ^ 61) g part r h
    → Updated (Keyed k) (2 ^ 61 - 64) (record { inner = g; outer = outer }) part r (record { inner = h; outer = outer })
updates k part g h outer (Ok _) e = λ m t.
    let u = e (masked ipad k ++ m) t.inside in
    let few = u.0 in (
      omega (arith, inner_length k m part),
      record { inside = subst (Took h) (append_assoc (masked ipad k) m part) u.1; outside = t.outside },
    )
updates k part g h outer (Err _) e = (
  ap (λ i. record { inner = i; outer = outer }) e.0,
  λ m t. let many = e.1 (masked ipad k ++ m) t.inside in omega (arith, inner_length k m part),
)
