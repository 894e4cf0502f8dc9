-- The blocks of lists that are joined, and the last blocks as the padding has them.
use Rattle.std.proofs.Common.{◌≡◌, ℕ, zero, suc, ◌+◌, ◌-◌, ◌*◌, ◌/◌, ◌%◌, ◌^◌, ◌<◌, ◌≤◌, List, [], ◌∷◌, ◌++◌, map, flat_map, length, take, drop, set, replicate, w32, sym, refl, ap, ◌∙◌, ap₂, append_assoc, append-nil, add-zero, add-suc, div-one, arith}
use borrow.Rule.Slice.PartMut.{put_mid}
use Rattle.std.specs.Int.{to_be_bytes}
use Rattle.std.proofs.lemmas.List.{length-append, length-take, length-drop, length-replicate, take-append-le, drop-append-le, drop-drop, drop_all, drop_at, set_at, take-append-drop, take-replicate, drop-replicate}
use Rattle.compression.specs.declared.state.State.{State}
use Rattle.compression.specs.Sha256.{initial_hash, bytes, zeros, padding, padded, compressed, processed, output, digest}

-- ---- blocks of lists that are joined

-- blocks that lie in the first
pub front : (x y : List ℕ) (n : ℕ) (s : State) → 64 * n ≤ length x → processed (x ++ y) n s ≡ processed x n s
unfolding processed
front x y zero s h = refl
front x y (suc n) s h =
    let i : 64 * n ≤ length x = omega arith in
    let j : 64 ≤ length (drop (64 * n) x) = simp length-drop (omega arith) in
    ap₂ compressed (front x y n s i)
    (ap (take 64) (drop-append-le (64 * n) x y i) ∙ take-append-le 64 (drop (64 * n) x) y j)

-- blocks of the second, after the first, which is n blocks
pub back : (x y : List ℕ) (n k : ℕ) (s : State) → length x ≡ 64 * n → processed (x ++ y) (n + k) s ≡ processed y k (processed x n s)
unfolding processed
back x y n zero s h = rw add-zero (front x y n s (omega arith))
back x y n (suc k) s h =
    let i : 64 * (n + k) ≡ 64 * n + 64 * k = omega arith in
    let e : drop (64 * (n + k)) (x ++ y) ≡ drop (64 * k) y =
    ap (λ j. drop j (x ++ y)) i ∙ sym (drop-drop (64 * k) (64 * n) (x ++ y)) ∙ ap (drop (64 * k)) (drop_at x y (64 * n) h) in
    rw add-suc (ap₂ compressed (back x y n k s h) (ap (take 64) e))

-- ---- writes

pub put_is : (at : ℕ) (xs ys zs : List ℕ) → ys ≡ zs
    → put_mid at (at + length zs - at) xs ys ≡ take at xs ++ (zs ++ drop (at + length zs) xs)
put_is at xs ys zs e =
    let k : at + length zs - at ≡ length zs = omega arith in
    ap₂ (λ u v. take at xs ++ (u ++ v)) e (ap (λ j. drop j (drop at xs)) k ∙ drop-drop (length zs) at xs)

-- n zeros, over which are written `bs` at the end, `rest` at the start, and the byte 0x80 after it
pub last_is : (n : ℕ) (rest bs b1 b2 : List ℕ) → length rest + 9 ≤ n → length bs ≡ 8
    → b1 ≡ take (n - 8) (replicate n 0) ++ (bs ++ drop (n - 8 + length bs) (replicate n 0))
    → b2 ≡ rest ++ drop (0 + length rest) b1
    → set b2 (length rest) 0x80 ≡ rest ++ 0x80 ∷ (replicate (n - 9 - length rest) 0 ++ bs)
last_is n rest bs b1 b2 h l e f =
    let k = length rest in
    let m = n - 9 - k in
    let zs : List ℕ = replicate (n - 8) 0 in
    let e1 : b1 ≡ zs ++ bs =
    e ∙ ap₂ (λ v w. v ++ (bs ++ w)) (take-replicate (n - 8) n 0 (omega arith)) (drop_all (n - 8 + length bs) (replicate n 0) (simp length-replicate (omega arith)))
    ∙ ap (λ w. zs ++ w) (append-nil bs) in
    let left : n - 8 - (0 + k) ≡ suc m = omega arith in
    let e2 : drop (0 + k) b1 ≡ 0 ∷ (replicate m 0 ++ bs) =
    ap (drop (0 + k)) e1 ∙ drop-append-le (0 + k) zs bs (simp length-replicate (omega arith))
    ∙ ap (λ v. v ++ bs) (drop-replicate (0 + k) (n - 8) 0 ∙ ap (λ j. replicate j 0) left) in
    ap (λ z. set z k 0x80) (f ∙ ap (λ z. rest ++ z) e2) ∙ set_at rest 0 (replicate m 0 ++ bs) 0x80 k refl

-- ---- the end of a message

-- as `to_be_bytes` has them
abbrev pub four : ℕ → List ℕ
four n = n / 2 ^ 24 % 256 ∷ n / 2 ^ 16 % 256 ∷ n / 2 ^ 8 % 256 ∷ n % 256 ∷ []

abbrev pub eight : ℕ → List ℕ
eight n = n / 2 ^ 56 % 256 ∷ n / 2 ^ 48 % 256 ∷ n / 2 ^ 40 % 256 ∷ n / 2 ^ 32 % 256 ∷ four n

four_is : (n : ℕ) → four n ≡ bytes 4 n
unfolding bytes
four_is n = rw (div-one n)

pub eight_is : (n : ℕ) → eight n ≡ bytes 8 n
unfolding bytes
eight_is n = rw (div-one n)

pub output_is : (s : State)
    → flat_map (λ x. x) (map (to_be_bytes w32) (s.a ∷ s.b ∷ s.c ∷ s.d ∷ s.e ∷ s.f ∷ s.g ∷ s.h ∷ [])) ≡ output s
unfolding output
output_is s =
    ap₂ ◌++◌ (four_is s.a) (ap₂ ◌++◌ (four_is s.b) (ap₂ ◌++◌ (four_is s.c) (ap₂ ◌++◌ (four_is s.d)
    (ap₂ ◌++◌ (four_is s.e) (ap₂ ◌++◌ (four_is s.f) (ap₂ ◌++◌ (four_is s.g) (append-nil (four s.h) ∙ four_is s.h)))))))

-- eight bytes hold the lowest 64 bits
eight_of : (n : ℕ) → bytes 8 (n % 2 ^ 64) ≡ bytes 8 n
eight_of n =
    let b7 : n % 2 ^ 64 / 2 ^ 56 % 256 ≡ n / 2 ^ 56 % 256 = omega arith in
    let b6 : n % 2 ^ 64 / 2 ^ 48 % 256 ≡ n / 2 ^ 48 % 256 = omega arith in
    let b5 : n % 2 ^ 64 / 2 ^ 40 % 256 ≡ n / 2 ^ 40 % 256 = omega arith in
    let b4 : n % 2 ^ 64 / 2 ^ 32 % 256 ≡ n / 2 ^ 32 % 256 = omega arith in
    let b3 : n % 2 ^ 64 / 2 ^ 24 % 256 ≡ n / 2 ^ 24 % 256 = omega arith in
    let b2 : n % 2 ^ 64 / 2 ^ 16 % 256 ≡ n / 2 ^ 16 % 256 = omega arith in
    let b1 : n % 2 ^ 64 / 2 ^ 8 % 256 ≡ n / 2 ^ 8 % 256 = omega arith in
    let b0 : n % 2 ^ 64 % 256 ≡ n % 256 = omega arith in
    let same : eight (n % 2 ^ 64) ≡ eight n = cc in
    sym (eight_is (n % 2 ^ 64)) ∙ same ∙ eight_is n

zeros_of_rest : (n : ℕ) → zeros (n % 64) ≡ zeros n
unfolding zeros
zeros_of_rest n = omega arith

-- whether the padding of the last n bytes comes to the end of their block, or of the next
pub one_block : (n : ℕ) → n < 56 → 64 ≡ n + 1 + zeros n + 8
unfolding zeros
one_block n h = omega arith

pub two_blocks : (n : ℕ) → 56 ≤ n → n < 64 → 128 ≡ n + 1 + zeros n + 8
unfolding zeros
two_blocks n h l = omega arith

-- `first` is a blocks; of `rest` the whole blocks are processed where they stand, and what is left stands in `last` with the padding
pub closes : (first rest left last : List ℕ) (a end bits : ℕ) (s s1 s2 : State)
    → length first ≡ 64 * a → s ≡ processed first a initial_hash
    → bits ≡ 8 * (length first + length rest) % 2 ^ 64
    → left ≡ drop (length rest / 64 * 64) rest
    → end ≡ length left + 1 + zeros (length left) + 8
    → last ≡ left ++ 0x80 ∷ (replicate (end - 9 - length left) 0 ++ bytes 8 bits)
    → s1 ≡ processed rest (length rest / 64) s
    → s2 ≡ processed last (length last / 64) s1
    → output s2 ≡ digest (first ++ rest)
unfolding digest padded padding
closes first rest left last a end bits s s1 s2 h es eb er ee el e1 e2 =
    let n = length (first ++ rest) in
    let b = length rest / 64 in
    let w = b * 64 in
    let x = first ++ take w rest in
    let y = left ++ padding n in
    let ln : n ≡ length first + length rest = length-append first rest in
    let lt : length (take w rest) ≡ 64 * b = simp length-take (omega arith) in
    let ll : length left ≡ length rest % 64 = ap length er ∙ length-drop w rest ∙ omega arith in
    let lx : length x ≡ 64 * (a + b) = length-append first (take w rest) ∙ omega arith in
    let left_over : length left ≡ n % 64 = omega arith in
    let zs : zeros (length left) ≡ zeros n = ap zeros left_over ∙ zeros_of_rest n in
    let zk : end - 9 - length left ≡ zeros n = omega arith in
    let ey : last ≡ y =
    el ∙ ap₂ (λ k v. left ++ 0x80 ∷ (replicate k 0 ++ v)) zk (ap (bytes 8) (eb ∙ ap (λ k. 8 * k % 2 ^ 64) (sym ln)) ∙ eight_of (8 * n)) in
    let whole : take w rest ++ left ≡ rest = ap (λ v. take w rest ++ v) er ∙ take-append-drop w rest in
    let f1 : s1 ≡ processed (take w rest) b s =
    e1 ∙ ap (λ v. processed v b s) (sym whole) ∙ front (take w rest) left b s (omega arith) in
    let f2 : s2 ≡ processed y (length y / 64) s1 = e2 ∙ ap (λ v. processed v (length v / 64) s1) ey in
    let g1 : processed x (a + b) initial_hash ≡ s1 = back first (take w rest) a b initial_hash h ∙ ap (processed (take w rest) b) (sym es) ∙ sym f1 in
    let g2 : processed (x ++ y) (a + b + length y / 64) initial_hash ≡ s2 =
    back x y (a + b) (length y / 64) initial_hash lx ∙ ap (processed y (length y / 64)) g1 ∙ sym f2 in
    let joined : x ++ y ≡ (first ++ rest) ++ padding n =
    append_assoc first (take w rest) y
    ∙ ap (λ v. first ++ v) (sym (append_assoc (take w rest) left (padding n)) ∙ ap (λ v. v ++ padding n) whole)
    ∙ sym (append_assoc first rest (padding n)) in
    let count : a + b + length y / 64 ≡ length ((first ++ rest) ++ padding n) / 64 =
    omega (arith, sym (ap length joined), length-append x y) in
    ap output (sym g2 ∙ ap₂ (λ v k. processed v k initial_hash) joined count)
