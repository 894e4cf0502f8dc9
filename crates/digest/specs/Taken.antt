-- What a hasher has taken. Assumes nothing.
use Rattle.std.specs.Prelude.{◌≡◌, ℕ, ◌*◌, ◌/◌, ◌%◌, ◌<◌, ◌≤◌, List, ◌++◌, flat_map, length, take, drop, Ok, Err, Result}
use denote.Ref.{Bor}
use Rattle.compression.specs.declared.state.State.{State}
use Rattle.compression.specs.Sha256.{initial_hash, processed}
use Rattle.digest.specs.declared.hasher.Hasher.{Hasher}
use Rattle.digest.specs.declared.incremental.TooLong.{TooLong}

-- After the message m: the state is that after the whole blocks of m, and the bytes after these are pending.
pub record After (m : List ℕ) (state : State) (pending : List ℕ) (count : ℕ) : Type 0 where
  pub long : count ≡ length m
  pub whole : state ≡ processed m (length m / 64) initial_hash
  pub rest : take (length m % 64) pending ≡ drop (64 * (length m / 64)) m

-- the hasher has taken the message m
abbrev pub Took : Hasher → List ℕ → Type 0
Took h m = After m h.state h.pending h.count

-- From g to h a part more: whatever message g had taken, h has taken that and then the part.
abbrev pub Takes : Hasher → List ℕ → Hasher → Type 0
Takes g part h = (m : List ℕ) → Took g m → Took h (m ++ part)

-- An update by a part, of something that holds a message of less than `limit` bytes: it is refused exactly if the message would get longer,
-- and then nothing changes.
abbrev pub Updated : {H : Type 0} (Holds : H → List ℕ → Type 0) (limit : ℕ) → H → List ℕ → Result Unit TooLong → H → Type 0
Updated Holds limit g part (Ok _) h = (m : List ℕ) → Holds g m → (length (m ++ part) < limit) × Holds h (m ++ part)
Updated Holds limit g part (Err _) h = (h ≡ g) × ((m : List ℕ) → Holds g m → limit ≤ length (m ++ part))

-- the message of which these are the parts
abbrev pub joined : List (Bor (List ℕ)) → List ℕ
joined parts = flat_map (λ p. p.now) parts

-- The parts after what was taken before: all of it comes to r, or they are refused, exactly if the message would get too long.
abbrev pub InParts : {H : Type 0} (Holds : H → List ℕ → Type 0) (value : List ℕ → List ℕ) (limit : ℕ) → H → List (Bor (List ℕ))
    → Result (List ℕ) TooLong → Type 0
InParts Holds value limit g parts (Ok r) = (m : List ℕ) → Holds g m → (length (m ++ joined parts) < limit) × (r ≡ value (m ++ joined parts))
InParts Holds value limit g parts (Err _) = (m : List ℕ) → Holds g m → limit ≤ length (m ++ joined parts)
