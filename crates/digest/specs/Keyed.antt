-- What an HMAC that takes its message in parts has taken. Assumes nothing.
use Rattle.std.specs.Prelude.{◌≡◌, ℕ, List, ◌++◌}
use Rattle.compression.specs.Sha256.{initial_hash, processed}
use Rattle.digest.specs.declared.hmac.Hmac.{Hmac}
use Rattle.digest.specs.Hmac.{masked, ipad, opad}
use Rattle.digest.specs.Taken.{Took}

-- Under the key k it has taken the message m: the inner hasher has the key's block and m, the outer state the key's block alone.
pub record Keyed (k : List ℕ) (h : Hmac) (m : List ℕ) : Type 0 where
  pub inside : Took h.inner (masked ipad k ++ m)
  pub outside : h.outer ≡ processed (masked opad k) 1 initial_hash
