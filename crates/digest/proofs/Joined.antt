-- Parts that are taken one after the other.
use Rattle.std.proofs.Common.{ℕ, ◌<◌, ◌≤◌, List, ◌++◌, length, get_or, take, Bor, Ok, Err, Result, arith}
use Rattle.std.specs.Result.{IsErr}
use Rattle.std.proofs.lemmas.Bool.{false≢true}
use Rattle.std.proofs.lemmas.List.{length-append}
use Rattle.std.proofs.lemmas.List.Folds.{length-flat_map-take}
use Rattle.digest.specs.declared.incremental.TooLong.{TooLong}
use Rattle.digest.specs.Taken.{joined, InParts}

module _ {H : Type 0} (Holds : H → List ℕ → Type 0) (g : H) (parts : List (Bor (List ℕ))) where
  -- begun as g, it has taken the first i parts
  abbrev pub SoFar : ℕ → H → Type 0
  SoFar i h = (m : List ℕ) → Holds g m → Holds h (m ++ joined (take i parts))

  -- the next part is refused
  pub refused : (value : List ℕ → List ℕ) (limit i : ℕ) (d : Bor (List ℕ)) (h : H) (r : Result (List ℕ) TooLong) → IsErr r → i < length parts
      → SoFar i h → ((m : List ℕ) → Holds h m → limit ≤ length (m ++ (get_or parts i d).now)) → InParts Holds value limit g parts r
  refused value limit i d h (Ok x) e l so_far many = absurd (false≢true e)
  refused value limit i d h (Err x) e l so_far many = λ m t.
      let before = m ++ joined (take i parts) in
      let part = (get_or parts i d).now in
      omega (
        arith,
        many before (so_far m t),
        length-append before part,
        length-append m (joined (take i parts)),
        length-append m (joined parts),
        length-flat_map-take (λ (p : Bor (List ℕ)). p.now) parts i d l,
      )
