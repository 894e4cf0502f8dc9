-- How long the stand-in's signatures are.
use Rattle.std.specs.Prelude.{◌≡◌, ℕ, ◌+◌, List, length}
use Rattle.std.proofs.Common.{ap₂, ◌∙◌}
use Rattle.std.proofs.lemmas.List.{length-append}
use Rattle.digest.specs.Lengths.{length-digest}
use Rattle.digest.specs.Hmac.{hmac}
use Rattle.signing.specs.StandIn.{half, stand_in}

length-half : (key : List ℕ) (domain : ℕ) (m : List ℕ) → length (half key domain m) ≡ 32
unfolding half hmac
length-half key domain m = length-digest _

pub length-stand_in : (key m : List ℕ) → length (stand_in key m) ≡ 64
unfolding stand_in
length-stand_in key m = length-append (half key 1 m) (half key 2 m) ∙ ap₂ ◌+◌ (length-half key 1 m) (length-half key 2 m)
