-- SHA-256 as RFC 6234 defines it, in the RFC's order and with its names in small letters, to be held beside it; its constants K are
-- `round_constants`, its H(0) is `initial_hash`, and NOT is `bit_not`. Assumes nothing.
--
-- A byte is a number below 2 ^ 8 and a word one below 2 ^ 32 (section 2). A message is a list of bytes.
use Rattle.std.specs.Prelude.{ℕ, zero, suc, ◌+◌, ◌-◌, ◌*◌, ◌/◌, ◌%◌, ◌^◌, List, [], ◌∷◌, ◌++◌, length, take, drop, replicate, bit_and, bit_or, bit_xor, slice_index}
use Rattle.compression.specs.declared.state.State.{State}

-- ---- section 2, words as bytes, the highest first

-- word t of a block
unfoldable pub word : List ℕ → ℕ → ℕ
word block t =
    slice_index block (4 * t) * 2 ^ 24 + slice_index block (4 * t + 1) * 2 ^ 16 + slice_index block (4 * t + 2) * 2 ^ 8 + slice_index block (4 * t + 3)

-- the last k bytes of a number
unfoldable pub bytes : ℕ → ℕ → List ℕ
bytes zero n = []
bytes (suc k) n = n / 256 ^ k % 256 ∷ bytes k n

-- ---- section 3, operations on words

unfoldable pub add : ℕ → ℕ → ℕ
add x y = (x + y) % 2 ^ 32

unfoldable pub bit_not : ℕ → ℕ
bit_not x = 2 ^ 32 - 1 - x

unfoldable pub shr : ℕ → ℕ → ℕ
shr n x = x / 2 ^ n

unfoldable pub rotr : ℕ → ℕ → ℕ
rotr n x = bit_or (x / 2 ^ n) (x * 2 ^ (32 - n) % 2 ^ 32)

-- ---- section 4.1, padding: a bit 1, the fewest bits 0 that leave eight bytes of a block, and the length in bits in these

-- how many bytes 0 there are after n bytes of a message
unfoldable pub zeros : ℕ → ℕ
zeros n = (119 - n % 64) % 64

-- The RFC has messages of less than 2 ^ 64 bits. Of a longer one's length the eight bytes would have the lowest 64 bits.
unfoldable pub padding : ℕ → List ℕ
padding n = 0x80 ∷ (replicate (zeros n) 0 ++ bytes 8 (8 * n))

unfoldable pub padded : List ℕ → List ℕ
padded m = m ++ padding (length m)

-- ---- section 5.1, functions and constants

unfoldable pub ch : ℕ → ℕ → ℕ → ℕ
ch x y z = bit_xor (bit_and x y) (bit_and (bit_not x) z)

unfoldable pub maj : ℕ → ℕ → ℕ → ℕ
maj x y z = bit_xor (bit_xor (bit_and x y) (bit_and x z)) (bit_and y z)

unfoldable pub bsig0 : ℕ → ℕ
bsig0 x = bit_xor (bit_xor (rotr 2 x) (rotr 13 x)) (rotr 22 x)

unfoldable pub bsig1 : ℕ → ℕ
bsig1 x = bit_xor (bit_xor (rotr 6 x) (rotr 11 x)) (rotr 25 x)

unfoldable pub ssig0 : ℕ → ℕ
ssig0 x = bit_xor (bit_xor (rotr 7 x) (rotr 18 x)) (shr 3 x)

unfoldable pub ssig1 : ℕ → ℕ
ssig1 x = bit_xor (bit_xor (rotr 17 x) (rotr 19 x)) (shr 10 x)

unfoldable pub round_constants : List ℕ
round_constants =
    0x428a_2f98 ∷ 0x7137_4491 ∷ 0xb5c0_fbcf ∷ 0xe9b5_dba5 ∷
    0x3956_c25b ∷ 0x59f1_11f1 ∷ 0x923f_82a4 ∷ 0xab1c_5ed5 ∷
    0xd807_aa98 ∷ 0x1283_5b01 ∷ 0x2431_85be ∷ 0x550c_7dc3 ∷
    0x72be_5d74 ∷ 0x80de_b1fe ∷ 0x9bdc_06a7 ∷ 0xc19b_f174 ∷
    0xe49b_69c1 ∷ 0xefbe_4786 ∷ 0x0fc1_9dc6 ∷ 0x240c_a1cc ∷
    0x2de9_2c6f ∷ 0x4a74_84aa ∷ 0x5cb0_a9dc ∷ 0x76f9_88da ∷
    0x983e_5152 ∷ 0xa831_c66d ∷ 0xb003_27c8 ∷ 0xbf59_7fc7 ∷
    0xc6e0_0bf3 ∷ 0xd5a7_9147 ∷ 0x06ca_6351 ∷ 0x1429_2967 ∷
    0x27b7_0a85 ∷ 0x2e1b_2138 ∷ 0x4d2c_6dfc ∷ 0x5338_0d13 ∷
    0x650a_7354 ∷ 0x766a_0abb ∷ 0x81c2_c92e ∷ 0x9272_2c85 ∷
    0xa2bf_e8a1 ∷ 0xa81a_664b ∷ 0xc24b_8b70 ∷ 0xc76c_51a3 ∷
    0xd192_e819 ∷ 0xd699_0624 ∷ 0xf40e_3585 ∷ 0x106a_a070 ∷
    0x19a4_c116 ∷ 0x1e37_6c08 ∷ 0x2748_774c ∷ 0x34b0_bcb5 ∷
    0x391c_0cb3 ∷ 0x4ed8_aa4a ∷ 0x5b9c_ca4f ∷ 0x682e_6ff3 ∷
    0x748f_82ee ∷ 0x78a5_636f ∷ 0x84c8_7814 ∷ 0x8cc7_0208 ∷
    0x90be_fffa ∷ 0xa450_6ceb ∷ 0xbef9_a3f7 ∷ 0xc671_78f2 ∷ []

-- ---- section 6.1, the state before the first block

unfoldable pub initial_hash : State
initial_hash = record {
  a = 0x6a09_e667;
  b = 0xbb67_ae85;
  c = 0x3c6e_f372;
  d = 0xa54f_f53a;
  e = 0x510e_527f;
  f = 0x9b05_688c;
  g = 0x1f83_d9ab;
  h = 0x5be0_cd19;
}

-- ---- section 6.2, one block after the other: the state is the RFC's H(i), and within a block its working variables a to h

-- step 1: the schedule W, which begins with the sixteen words of the block
unfoldable pub words : List ℕ → ℕ → List ℕ
words block zero = []
words block (suc t) = words block t ++ word block t ∷ []

-- a word by those 2, 7, 15 and 16 places before it
unfoldable pub next_word : ℕ → ℕ → ℕ → ℕ → ℕ
next_word w2 w7 w15 w16 = add (add (add (ssig1 w2) w7) (ssig0 w15)) w16

-- n words more. The word after these is W_t with t = n + 16, so those 2, 7, 15 and 16 places before it are at n + 14, n + 9, n + 1 and n.
unfoldable pub extended : List ℕ → ℕ → List ℕ
extended w zero = w
extended w (suc n) =
    extended w n
    ++ next_word (slice_index (extended w n) (n + 14)) (slice_index (extended w n) (n + 9)) (slice_index (extended w n) (n + 1)) (slice_index (extended w n) n)
    ∷ []

unfoldable pub schedule : List ℕ → List ℕ
schedule block = extended (words block 16) 48

-- steps 2 and 3: the working variables begin as the state; one round with K_t and W_t
unfoldable pub t1 : State → ℕ → ℕ → ℕ
t1 s k w = add (add (add (add s.h (bsig1 s.e)) (ch s.e s.f s.g)) k) w

unfoldable pub t2 : State → ℕ
t2 s = add (bsig0 s.a) (maj s.a s.b s.c)

unfoldable pub round : State → ℕ → ℕ → State
round s k w = record {
  a = add (t1 s k w) (t2 s);
  b = s.a;
  c = s.b;
  d = s.c;
  e = add s.d (t1 s k w);
  f = s.e;
  g = s.f;
  h = s.g;
}

-- the rounds before the round t
unfoldable pub rounds : List ℕ → ℕ → State → State
rounds w zero s = s
rounds w (suc t) s = round (rounds w t s) (slice_index round_constants t) (slice_index w t)

-- step 4
unfoldable pub sum : State → State → State
sum s t = record {
  a = add s.a t.a;
  b = add s.b t.b;
  c = add s.c t.c;
  d = add s.d t.d;
  e = add s.e t.e;
  f = add s.f t.f;
  g = add s.g t.g;
  h = add s.h t.h;
}

unfoldable pub compressed : State → List ℕ → State
compressed s block = sum s (rounds (schedule block) 64 s)

-- the state after the first n blocks of a list of bytes
unfoldable pub processed : List ℕ → ℕ → State → State
processed m zero s = s
processed m (suc n) s = compressed (processed m n s) (take 64 (drop (64 * n) m))

-- the digest: the words of the state after the last block
unfoldable pub output : State → List ℕ
output s =
    bytes 4 s.a ++ (bytes 4 s.b ++ (bytes 4 s.c ++ (bytes 4 s.d
    ++ (bytes 4 s.e ++ (bytes 4 s.f ++ (bytes 4 s.g ++ bytes 4 s.h))))))

unfoldable pub digest : List ℕ → List ℕ
digest m = output (processed (padded m) (length (padded m) / 64) initial_hash)
