-- What a hasher has taken, part by part.
use Rattle.std.proofs.Common.{◌≡◌, ℕ, ◌+◌, ◌-◌, ◌*◌, ◌/◌, ◌%◌, ◌<◌, ◌≤◌, List, ◌++◌, length, take, drop, sym, ap, ◌∙◌, subst, ap₂, append_assoc, arith}
use Rattle.std.proofs.lemmas.List.{length-append, length-take, length-drop, drop-append-le, take_at, take_all, take-append-drop, drop_at, drop_all, drop-drop}
use Rattle.compression.specs.declared.state.State.{State}
use Rattle.compression.specs.Sha256.{initial_hash, processed}
use Rattle.digest.specs.Taken.{After}
use Rattle.digest.proofs.Messages.{front, back}

-- a write over what is pending, at the end of the rest
pub written : (u : ℕ) (old new part : List ℕ) → u ≤ length old → new ≡ take u old ++ (part ++ drop (u + length part) old)
    → take (u + length part) new ≡ take u old ++ part
written u old new part h e =
    let l : length (take u old ++ part) ≡ u + length part = simp (length-append, length-take) (omega arith) in
    ap (take (u + length part)) (e ∙ sym (append_assoc (take u old) part (drop (u + length part) old)))
    ∙ take_at (take u old ++ part) (drop (u + length part) old) (u + length part) l

-- the whole blocks of what was taken
pub blocks_of : (m : List ℕ) → processed m (length m / 64) initial_hash ≡ processed (take (64 * (length m / 64)) m) (length m / 64) initial_hash
blocks_of m =
    let q = length m / 64 in
    let l : length (take (64 * q) m) ≡ 64 * q = simp length-take (omega arith) in
    ap (λ v. processed v q initial_hash) (sym (take-append-drop (64 * q) m)) ∙ front (take (64 * q) m) (drop (64 * q) m) q initial_hash (omega arith)

-- the write at the place that the count gives
placed : (n : ℕ) (old new m part : List ℕ) → n ≡ length m
    → new ≡ take (n % 64) old ++ (part ++ drop (n % 64 + length part) old)
    → new ≡ take (length m % 64) old ++ (part ++ drop (length m % 64 + length part) old)
placed n old new m part h e = e ∙ ap (λ k. take (k % 64) old ++ (part ++ drop (k % 64 + length part) old)) h

-- a part that does not come to the end of a block
pub kept : (s : State) (n : ℕ) (old new m part : List ℕ) → length old ≡ 64 → n % 64 + length part < 64 → After m s old n
    → new ≡ take (n % 64) old ++ (part ++ drop (n % 64 + length part) old)
    → After (m ++ part) s new (n + length part)
kept s n old new m part lo h t e =
    let q = length m / 64 in
    let u = length m % 64 in
    let hm = t.long in
    let l : length (m ++ part) ≡ length m + length part = length-append m part in
    let eq : length (m ++ part) / 64 ≡ q = omega arith in
    let eu : length (m ++ part) % 64 ≡ u + length part = omega arith in
    let now_is = written u old new part (omega arith) (placed n old new m part hm e) in
    record {
      long = omega arith;
      whole = t.whole ∙ sym (front m part q initial_hash (omega arith)) ∙ ap (λ k. processed (m ++ part) k initial_hash) (sym eq);
      rest =
          ap (λ k. take k new) eu ∙ now_is ∙ ap (λ v. v ++ part) t.rest ∙ sym (drop-append-le (64 * q) m part (omega arith))
          ∙ ap (λ k. drop (64 * k) (m ++ part)) (sym eq);
    }

-- a part that comes just to the end of a block
pub completed : (s s1 : State) (n : ℕ) (old new m part : List ℕ) → length old ≡ 64 → n % 64 + length part ≡ 64 → After m s old n
    → new ≡ take (n % 64) old ++ (part ++ drop (n % 64 + length part) old)
    → s1 ≡ processed new (length new / 64) s
    → After (m ++ part) s1 new (n + length part)
completed s s1 n old new m part lo h t e es =
    let q = length m / 64 in
    let u = length m % 64 in
    let hm = t.long in
    let x = take (64 * q) m in
    let y = drop (64 * q) m ++ part in
    let l : length (m ++ part) ≡ length m + length part = length-append m part in
    let ly : length y ≡ 64 = simp (length-append, length-drop) (omega arith) in
    let lx : length x ≡ 64 * q = simp length-take (omega arith) in
    let eq : length (m ++ part) / 64 ≡ q + 1 = omega arith in
    let eu : length (m ++ part) % 64 ≡ 0 = omega arith in
    let ln : length new ≡ 64 = ap length e ∙ simp (length-append, length-take, length-drop) (omega arith) in
    let now_is = written u old new part (omega arith) (placed n old new m part hm e) in
    let ey : new ≡ y = sym (take_all (u + length part) new (omega arith)) ∙ now_is ∙ ap (λ v. v ++ part) t.rest in
    let exy : x ++ y ≡ m ++ part =
    sym (append_assoc x (drop (64 * q) m) part) ∙ ap (λ v. v ++ part) (take-append-drop (64 * q) m) in
    let ex = blocks_of m in
    let one : length new / 64 ≡ 1 = omega arith in
    record {
      long = omega arith;
      whole =
          es ∙ ap₂ (λ v k. processed v k s) ey one ∙ ap (processed y 1) (t.whole ∙ ex) ∙ sym (back x y q 1 initial_hash lx)
          ∙ ap₂ (λ v k. processed v k initial_hash) exy (sym eq);
      rest = ap (λ k. take k new) eu ∙ sym (drop_all (64 * (length (m ++ part) / 64)) (m ++ part) (omega arith));
    }

-- a part that begins with a block: `left` are the bytes after its whole blocks
pub processes : (s s1 : State) (n : ℕ) (old new m part left : List ℕ) → length old ≡ 64 → n % 64 ≡ 0 → After m s old n
    → left ≡ drop (length part / 64 * 64) part
    → new ≡ take 0 old ++ (left ++ drop (0 + length left) old)
    → s1 ≡ processed part (length part / 64) s
    → After (m ++ part) s1 new (n + length part)
processes s s1 n old new m part left lo h t er e es =
    let q = length m / 64 in
    let k = length part / 64 in
    let w = k * 64 in
    let hm = t.long in
    let l : length (m ++ part) ≡ length m + length part = length-append m part in
    let lm : length m ≡ 64 * q = omega arith in
    let lr : length left ≡ length part % 64 = ap length er ∙ length-drop w part ∙ omega arith in
    let eq : length (m ++ part) / 64 ≡ q + k = omega arith in
    let eu : length (m ++ part) % 64 ≡ 0 + length left = omega arith in
    let i : 64 * (q + k) ≡ 64 * q + w = omega arith in
    let ed : drop (64 * (q + k)) (m ++ part) ≡ left =
    ap (λ j. drop j (m ++ part)) i ∙ sym (drop-drop w (64 * q) (m ++ part)) ∙ ap (drop w) (drop_at m part (64 * q) lm) ∙ sym er in
    record {
      long = omega arith;
      whole = es ∙ ap (processed part k) t.whole ∙ sym (back m part q k initial_hash lm) ∙ ap (λ j. processed (m ++ part) j initial_hash) (sym eq);
      rest =
          ap (λ j. take j new) eu ∙ written 0 old new left (omega arith) e ∙ sym ed ∙ ap (λ j. drop (64 * j) (m ++ part)) (sym eq);
    }

-- a part whose first bytes come just to the end of a block, and the rest of it
pub taken : (s s1 s2 : State) (n used : ℕ) (old full new m part end rest left : List ℕ) → length old ≡ 64 → used ≡ n % 64
    → end ≡ take (64 - used) part → rest ≡ drop (64 - used) part → length end ≡ 64 - used
    → After m s old n
    → full ≡ take used old ++ (end ++ drop (used + length end) old)
    → s1 ≡ processed full (length full / 64) s
    → left ≡ drop (length rest / 64 * 64) rest
    → new ≡ take 0 full ++ (left ++ drop (0 + length left) full)
    → s2 ≡ processed rest (length rest / 64) s1
    → After (m ++ part) s2 new (n + length part)
taken s s1 s2 n used old full new m part end rest left lo eu ee er le t ef es el en es2 =
    let lf : length full ≡ 64 = ap length ef ∙ simp (length-append, length-take, length-drop) (omega arith) in
    let one = completed s s1 n old full m end lo (omega arith) t (ef ∙ ap (λ k. take k old ++ (end ++ drop (k + length end) old)) eu) es in
    let both = processes s1 s2 (n + length end) full new (m ++ end) rest left lf (omega arith) one el en es2 in
    let ep : end ++ rest ≡ part = ap₂ ◌++◌ ee er ∙ take-append-drop (64 - used) part in
    let lp = ap length ep in
    let l = length-append end rest in
    let count : n + length end + length rest ≡ n + length part = omega arith in
    let whole : (m ++ end) ++ rest ≡ m ++ part = append_assoc m end rest ∙ ap (λ v. m ++ v) ep in
    subst (λ v. After v s2 new (n + length part)) whole (subst (λ k. After ((m ++ end) ++ rest) s2 new k) count both)
