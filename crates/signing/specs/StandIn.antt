-- The stand-in for a signature: two tags of 32 bytes, each under the key with a domain byte of its own after it. Assumes nothing.
use Rattle.std.specs.Prelude.{ℕ, List, [], ◌∷◌, ◌++◌}
use Rattle.digest.specs.Hmac.{hmac}

unfoldable pub half : List ℕ → ℕ → List ℕ → List ℕ
half key domain m = hmac (key ++ domain ∷ []) m

unfoldable pub stand_in : List ℕ → List ℕ → List ℕ
stand_in key m = half key 1 m ++ half key 2 m
