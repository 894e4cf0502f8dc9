-- One block, and the blocks of a message.
use Rattle.std.proofs.Common.{◌≡◌, ℕ, zero, suc, ◌+◌, ◌*◌, List, length, take, drop, fold, sym, refl, ap, ◌∙◌, ap₂, arith}
use Rattle.std.proofs.lemmas.List.{drop-drop}
use Rattle.std.specs.Simd.{first_chunks}
use Rattle.compression.specs.declared.state.State.{State}
use Rattle.compression.specs.Parts.{following, rounds_from}
use Rattle.compression.specs.Sha256.{words, schedule, sum, compressed, processed}
use Rattle.compression.proofs.Schedules.{by_fours, length-following}
use Rattle.compression.proofs.Turns.{all_turns}

pub compressed_is : (block w0 w1 w2 w3 : List ℕ) (s s0 s1 s2 s3 : State) → length w0 ≡ 16 → w0 ≡ words block 16
    → w1 ≡ following w0 → w2 ≡ following w1 → w3 ≡ following w2
    → s0 ≡ rounds_from 0 w0 16 s → s1 ≡ rounds_from 16 w1 16 s0 → s2 ≡ rounds_from 32 w2 16 s1 → s3 ≡ rounds_from 48 w3 16 s2
    → sum s s3 ≡ compressed s block
unfolding compressed schedule
compressed_is block w0 w1 w2 w3 s s0 s1 s2 s3 h e0 e1 e2 e3 f0 f1 f2 f3 =
    let h1 : length w1 ≡ 16 = ap length e1 ∙ length-following w0 h in
    let h2 : length w2 ≡ 16 = ap length e2 ∙ length-following w1 h1 in
    let turns = all_turns w0 w1 w2 w3 s s0 s1 s2 s3 h h1 h2 f0 f1 f2 f3 in
    let all = by_fours w0 w1 w2 w3 h e1 e2 e3 in
    cc

-- the blocks one after the other, from the first on
first_block : (m : List ℕ) (n : ℕ) (s : State) → processed m (suc n) s ≡ processed (drop 64 m) n (compressed s (take 64 m))
unfolding processed
first_block m zero s = refl
first_block m (suc n) s =
    let i : 64 * suc n ≡ 64 + 64 * n = omega arith in
    ap₂ compressed (first_block m n s) (ap (take 64) (ap (λ k. drop k m) i ∙ sym (drop-drop (64 * n) 64 m)))

pub folded : (m : List ℕ) (n : ℕ) (s : State) → fold compressed s (first_chunks 64 n m) ≡ processed m n s
unfolding processed
folded m zero s = refl
folded m (suc n) s = folded (drop 64 m) n (compressed s (take 64 m)) ∙ sym (first_block m n s)
