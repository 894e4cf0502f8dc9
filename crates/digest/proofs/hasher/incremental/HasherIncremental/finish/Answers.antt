use Rattle.std.proofs.Common.{◌≡◌, ◌*◌, ◌/◌, ◌%◌, ◌++◌, length, take, ap, ◌∙◌, arith}
use Rattle.std.proofs.lemmas.List.{length-take, take-append-drop}
use Rattle.compression.specs.Sha256.{digest}
use Rattle.digest.proofs.Parts.{blocks_of}
use Rattle.digest.proofs.hasher.incremental.HasherIncremental.finish.Goals as goal

pub returns : goal.returns
returns c = λ m t.
    let q = length m / 64 in
    let first = take (64 * q) m in
    let long = t.long in
    let i : c.used-used.result ≡ length m % 64 = omega arith in
    let l : length first ≡ 64 * q = simp length-take (omega arith) in
    c.close.ensures first q (omega arith) l (t.whole ∙ blocks_of m)
    ∙ ap (λ v. digest (first ++ v)) (ap (λ k. take k c.args.self.pending) i ∙ t.rest) ∙ ap digest (take-append-drop (64 * q) m)
