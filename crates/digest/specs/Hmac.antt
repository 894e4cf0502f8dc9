-- HMAC as RFC 2104 defines it, over SHA-256, whose blocks have 64 bytes. Assumes nothing.
use Rattle.std.specs.Prelude.{ℕ, ◌-◌, cond, List, ◌++◌, map, length, replicate, bit_xor, nat_lt}
use Rattle.compression.specs.Sha256.{digest}

-- bytes 0 after a key, up to a block
unfoldable pub filled : List ℕ → List ℕ
filled k = k ++ replicate (64 - length k) 0

-- a key that is longer than a block is hashed first
unfoldable pub key_block : List ℕ → List ℕ
key_block k = cond (nat_lt 64 (length k)) (filled (digest k)) (filled k)

-- the key's block, each byte XORed with a pad
unfoldable pub masked : ℕ → List ℕ → List ℕ
masked pad k = map (λ b. bit_xor b pad) (key_block k)

abbrev pub ipad : ℕ
ipad = 0x36

abbrev pub opad : ℕ
opad = 0x5c

unfoldable pub hmac : List ℕ → List ℕ → List ℕ
hmac k m = digest (masked opad k ++ digest (masked ipad k ++ m))
