-- How a text is cut into lines and a line into words, and what a line says. Assumes nothing.
use Rattle.std.specs.Prelude.{ℕ, Bool, cond, ◌||◌, List, [], ◌∷◌, reverse, ◌==◌}

abbrev pub on_first : ℕ → List (List ℕ) → List (List ℕ)
on_first b [] = (b ∷ []) ∷ []
on_first b (p ∷ ps) = (b ∷ p) ∷ ps

-- the pieces of a text between the bytes c: one more than there are such bytes
unfoldable pub pieces : ℕ → List ℕ → List (List ℕ)
pieces c [] = [] ∷ []
pieces c (b ∷ bs) = cond (b == c) ([] ∷ pieces c bs) (on_first b (pieces c bs))

abbrev pub first_piece : List (List ℕ) → List ℕ
first_piece [] = []
first_piece (p ∷ ps) = p

-- a space, a tab or a carriage return
abbrev pub is_blank : ℕ → Bool
is_blank b = b == 32 || (b == 9 || b == 13)

unfoldable pub without_front : List ℕ → List ℕ
without_front [] = []
without_front (b ∷ bs) = cond (is_blank b) (without_front bs) (b ∷ bs)

abbrev pub without_back : List ℕ → List ℕ
without_back bs = reverse (without_front (reverse bs))

-- a line up to its `#`, without the blanks at both ends
abbrev pub bare_of : List ℕ → List ℕ
bare_of l = without_back (without_front (first_piece (pieces 35 l)))
