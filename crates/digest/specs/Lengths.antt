-- How long what a message comes to is, and how long a message can be that is taken in parts.
use Rattle.std.specs.Prelude.{◌≡◌, ℕ, ◌-◌, ◌^◌, ◌<◌, ◌≤◌, List, ◌++◌, length}
use Rattle.std.proofs.Common.{ltb, arith}
use Rattle.std.proofs.lemmas.List.{length-append, length-map, length-replicate}
use Rattle.std.proofs.lemmas.Bool.{cond_both, ltb-false}
use Rattle.compression.specs.Sha256.{output, digest}
use Rattle.compression.proofs.Padded.{length-bytes}
use Rattle.digest.specs.declared.hasher.Hasher.{Hasher}
use Rattle.digest.specs.declared.hmac.Hmac.{Hmac}
use Rattle.digest.specs.Hmac.{filled, key_block, masked, ipad}
use Rattle.digest.specs.Keyed.{Keyed}
use Rattle.digest.specs.Taken.{Took}

-- a digest has 32 bytes
pub length-digest : (m : List ℕ) → length (digest m) ≡ 32
unfolding digest output
length-digest m = simp (length-append, length-bytes)

length-filled : (k : List ℕ) → length k ≤ 64 → length (filled k) ≡ 64
unfolding filled
length-filled k h = simp (length-append, length-replicate) (omega arith)

length-key_block : (k : List ℕ) → length (key_block k) ≡ 64
unfolding key_block
length-key_block k =
    cond_both (ltb 64 (length k)) (filled (digest k)) (filled k) (λ v. length v ≡ 64)
    (λ _. length-filled (digest k) (omega (arith, length-digest k))) (λ e. length-filled k (ltb-false 64 (length k) e))

pub length-masked : (pad : ℕ) (k : List ℕ) → length (masked pad k) ≡ 64
unfolding masked
length-masked pad k = simp length-map (length-key_block k)

-- what is taken is below its limit
pub length-taken : (h : Hasher) (m : List ℕ) → Took h m → length m < 2 ^ 61
length-taken h m t = omega (arith, t.long, h.short)

pub length-keyed : (k : List ℕ) (h : Hmac) (m : List ℕ) → Keyed k h m → length m < 2 ^ 61 - 64
length-keyed k h m t = omega (arith, length-taken h.inner (masked ipad k ++ m) t.inside, length-append (masked ipad k) m, length-masked ipad k)
