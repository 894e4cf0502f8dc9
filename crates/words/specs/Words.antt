-- The words of a line, and the numbers that they write. Assumes nothing.
use Rattle.std.specs.Prelude.{ℕ, ◌+◌, ◌-◌, ◌*◌, ◌^◌, Bool, cond, not, ◌&&◌, List, [], ◌∷◌, length, Some, None, Ok, Err, Option, Result, ◌==◌, nat_le, nat_lt, slice_index}
use Rattle.std.specs.Str.{all_ascii_digits, bytes_eq}
use Rattle.words.specs.declared.words.Words.{Words}
use Rattle.words.specs.declared.wrong.Wrong.{Wrong}
use Rattle.words.specs.declared.wrong.Wrong.TheVariants.{MissingWord, NotAnId, NotANumber}
use Rattle.words.specs.Lines.{pieces}

-- decimal digits without a leading zero
abbrev pub is_numeral : List ℕ → Bool
is_numeral w = nat_lt 0 (length w) && (not (nat_lt 1 (length w) && slice_index w 0 == 48) && all_ascii_digits w)

unfoldable pub read_on : ℕ → List ℕ → ℕ
read_on n [] = n
read_on n (d ∷ ds) = read_on (10 * n + (d - 48)) ds

unfoldable pub number_of : List ℕ → Option ℕ
number_of w = cond (is_numeral w && nat_lt (read_on 0 w) (2 ^ 32)) (Some (read_on 0 w)) None

abbrev pub in_range : Option ℕ → Option ℕ
in_range None = None
in_range (Some n) = cond (nat_le 1 n && nat_lt n 65536) (Some n) None

abbrev pub id_of : List ℕ → Option ℕ
id_of w = in_range (number_of w)

abbrev pub words_of : List ℕ → List (List ℕ)
words_of bs = pieces 32 bs

-- the words that are left of a line
abbrev pub left : Words → List (List ℕ)
left w = elim w.rest [ None ↦ [] | Some x ↦ words_of x.now ]

-- what was read, and the words that are left then
abbrev pub Reading : Type 0 → Type 0
Reading X = Result (X × List (List ℕ)) Wrong

abbrev pub with : {X : Type 0} → Result X Wrong → List (List ℕ) → Reading X
with (Ok x) ws = Ok (x, ws)
with (Err e) ws = Err e

abbrev pub then : {X Y : Type 0} → Reading X → (X → List (List ℕ) → Result Y Wrong) → Result Y Wrong
then (Ok p) f = f p.0 p.1
then (Err e) f = Err e

abbrev pub or_wrong : Option ℕ → Wrong → List (List ℕ) → Reading ℕ
or_wrong None e ws = Err e
or_wrong (Some n) e ws = Ok (n, ws)

abbrev pub id_from : List (List ℕ) → Reading ℕ
id_from [] = Err MissingWord
id_from (w ∷ ws) = or_wrong (id_of w) NotAnId ws

abbrev pub number_from : List (List ℕ) → Reading ℕ
number_from [] = Err MissingWord
number_from (w ∷ ws) = or_wrong (number_of w) NotANumber ws

-- the word `key` and a number, or nothing
abbrev pub option_from : List ℕ → List (List ℕ) → Reading (Option ℕ)
option_from key [] = Ok (None, [])
option_from key (w ∷ ws) = cond (bytes_eq w key) (then (number_from ws) (λ n rest. Ok (Some n, rest))) (Ok (None, w ∷ ws))
