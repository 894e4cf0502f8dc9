-- A line is read as a command exactly if it is the command as it is written. Assumes nothing.
use Rattle.std.proofs.Common.{◌≡◌, ℕ, suc, ◌^◌, ◌<◌, cond, ◌&&◌, eqb, ltb, leb, List, [], ◌∷◌, ◌++◌, length, get_or, Some, None, Ok, Err, codes, decimal, Option, Result, sym, refl, ap, ◌∙◌, subst, inl, inr, append_assoc, append-nil, arith}
use Rattle.std.specs.Str.{bytes_eq}
use Rattle.std.proofs.lemmas.Slice.Eq.{bytes_eq-Decides}
use Rattle.std.proofs.lemmas.Bool.{and_parts, and_from, cond-true, cond-false, cases_Bool, lt-ltb, le-leb, ltb-true, leb-true, eqb-true, ne_eqb}
use Rattle.commands.specs.declared.command.Command.{Command}
use Rattle.commands.specs.declared.command.Command.TheVariants.{Lock, Card, Day, Bar, Desk, Visit, Thief}
use Rattle.words.specs.declared.wrong.Wrong.{Wrong}
use Rattle.words.specs.declared.wrong.Wrong.TheVariants.{NotAnId, NotANumber}
use Rattle.words.specs.Lines.{pieces, on_first}
use Rattle.words.specs.Words.{number_of, in_range, id_of, words_of, Reading, then, or_wrong, id_from, number_from, option_from}
use Rattle.commands.specs.Commands.{written, Id, Perhaps, Lawful, making, visit_from, thief_from, command_from, ended, parsed, Read}
use Rattle.words.proofs.Cuts.{pieces_none, pieces_some}
use Rattle.words.proofs.Numbers.{number_read, number_written, no_space}

-- ---- words, and the spaces between them

abbrev spaced : List (List ℕ) → List ℕ
spaced [] = []
spaced (w ∷ []) = w
spaced (w ∷ x ∷ ws) = w ++ 32 ∷ spaced (x ∷ ws)

spaced-on_first : (b : ℕ) (ps : List (List ℕ)) → spaced (on_first b ps) ≡ b ∷ spaced ps
spaced-on_first b [] = refl
spaced-on_first b (p ∷ []) = refl
spaced-on_first b (p ∷ q ∷ ps) = refl

spaced-empty : (ps : List (List ℕ)) → (ps ≡ [] → ⊥) → spaced ([] ∷ ps) ≡ 32 ∷ spaced ps
spaced-empty [] some = absurd (some refl)
spaced-empty (p ∷ ps) some = refl

spaced-pieces : (xs : List ℕ) → spaced (pieces 32 xs) ≡ xs
unfolding pieces
spaced-pieces [] = refl
spaced-pieces (x ∷ xs) =
    elim (cases_Bool (eqb x 32)) [
      | inl t ↦ ap spaced (cond-true _ _ _ t) ∙ spaced-empty (pieces 32 xs) (pieces_some 32 xs) ∙ (λ i. sym (eqb-true x 32 t) i ∷ spaced-pieces xs i)
      | inr f ↦ ap spaced (cond-false _ _ _ f) ∙ spaced-on_first x (pieces 32 xs) ∙ ap (λ l. x ∷ l) (spaced-pieces xs)
    ]

word_then : (w rest : List ℕ) → ((k : ℕ) → k < length w → get_or w k 0 ≡ 32 → ⊥) → pieces 32 (w ++ 32 ∷ rest) ≡ w ∷ pieces 32 rest
unfolding pieces
word_then [] rest none = refl
word_then (b ∷ bs) rest none =
    cond-false (eqb b 32) _ _ (ne_eqb b 32 (none 0 (omega arith))) ∙ ap (on_first b) (word_then bs rest (λ k h. none (suc k) (omega arith)))

-- ---- the words of a command

option_words : List ℕ → Option ℕ → List (List ℕ)
option_words key None = []
option_words key (Some n) = key ∷ decimal n ∷ []

spelt : Command → List (List ℕ)
spelt (Lock l) = codes "lock" ∷ decimal l ∷ []
spelt (Card c) = codes "card" ∷ decimal c ∷ []
spelt (Day d) = codes "day" ∷ decimal d ∷ []
spelt (Bar c) = codes "bar" ∷ decimal c ∷ []
spelt (Desk c) = codes "desk" ∷ decimal c ∷ []
spelt (Visit c l) = codes "visit" ∷ decimal c ∷ decimal l ∷ []
spelt (Thief c l s g) = codes "thief" ∷ decimal c ∷ decimal l ∷ (option_words (codes "says") s ++ option_words (codes "gives") g)

last_word : (n : ℕ) → n < 2 ^ 32 → pieces 32 (decimal n) ≡ decimal n ∷ []
last_word n h = pieces_none 32 (decimal n) (no_space n h)

next_word : (n : ℕ) (rest : List ℕ) → n < 2 ^ 32 → pieces 32 (decimal n ++ 32 ∷ rest) ≡ decimal n ∷ pieces 32 rest
next_word n rest h = word_then (decimal n) rest (no_space n h)

words_written : (k : Command) → Lawful k → pieces 32 (written k) ≡ spelt k
unfolding pieces spelt option_words
words_written (Lock l) h = ap (λ ps. codes "lock" ∷ ps) (last_word l (omega arith))
words_written (Card c) h = ap (λ ps. codes "card" ∷ ps) (last_word c (omega arith))
words_written (Day d) h = ap (λ ps. codes "day" ∷ ps) (last_word d h)
words_written (Bar c) h = ap (λ ps. codes "bar" ∷ ps) (last_word c (omega arith))
words_written (Desk c) h = ap (λ ps. codes "desk" ∷ ps) (last_word c (omega arith))
words_written (Visit c l) h =
    ap (λ ps. codes "visit" ∷ ps) (next_word c (decimal l) (omega arith) ∙ ap (λ ps. decimal c ∷ ps) (last_word l (omega arith)))
words_written (Thief c l None None) h =
    ap (λ ps. codes "thief" ∷ ps) (next_word c _ (omega arith) ∙ ap (λ ps. decimal c ∷ ps) (ap (pieces 32) (append-nil (decimal l)) ∙ last_word l (omega arith)))
words_written (Thief c l (Some s) None) h =
    ap (λ ps. codes "thief" ∷ ps) (next_word c _ (omega arith) ∙ ap (λ ps. decimal c ∷ ps) (next_word l _ (omega arith)
    ∙ ap (λ ps. decimal l ∷ codes "says" ∷ ps) (ap (pieces 32) (append-nil (decimal s)) ∙ last_word s h.2)))
words_written (Thief c l None (Some g)) h =
    ap (λ ps. codes "thief" ∷ ps) (next_word c _ (omega arith) ∙ ap (λ ps. decimal c ∷ ps) (next_word l _ (omega arith)
    ∙ ap (λ ps. decimal l ∷ codes "gives" ∷ ps) (last_word g h.3)))
words_written (Thief c l (Some s) (Some g)) h =
    ap (λ ps. codes "thief" ∷ ps) (next_word c _ (omega arith) ∙ ap (λ ps. decimal c ∷ ps) (next_word l _ (omega arith)
    ∙ ap (λ ps. decimal l ∷ codes "says" ∷ ps) (next_word s _ h.2 ∙ ap (λ ps. decimal s ∷ codes "gives" ∷ ps) (last_word g h.3))))

-- ---- a command that is written is read

id_written : (n : ℕ) → Id n → id_of (decimal n) ≡ Some n
id_written n h =
    ap in_range (number_written n (omega arith)) ∙ cond-true _ _ _ (and_from _ _ (le-leb 1 n h.0) (lt-ltb n 65536 h.1))

id_from-decimal : (n : ℕ) (ws : List (List ℕ)) → Id n → id_from (decimal n ∷ ws) ≡ Ok (n, ws)
id_from-decimal n ws h = ap (λ o. or_wrong o NotAnId ws) (id_written n h)

number_from-decimal : (n : ℕ) (ws : List (List ℕ)) → n < 2 ^ 32 → number_from (decimal n ∷ ws) ≡ Ok (n, ws)
number_from-decimal n ws h = ap (λ o. or_wrong o NotANumber ws) (number_written n h)

abbrev and_end : Reading Command → Result Command Wrong
and_end r = then r ended

options_read : (c l : ℕ) (s g : Option ℕ) → Perhaps s → Perhaps g → and_end (then (option_from (codes "says") (option_words (codes "says") s ++ option_words (codes "gives") g)) (λ s zs. then (option_from (codes "gives") zs) (λ g rest. Ok (Thief c l s g, rest)))) ≡ Ok (Thief c l s g)
unfolding option_words
options_read c l None None hs hg = refl
options_read c l (Some s) None hs hg =
    ap (λ r. and_end (then (then r (λ n rest. Ok (Some n, rest))) (λ s zs. then (option_from (codes "gives") zs) (λ g rest. Ok (Thief c l s g, rest))))) (number_from-decimal s [] hs)
options_read c l None (Some g) hs hg =
    ap (λ r. and_end (then (then r (λ n rest. Ok (Some n, rest))) (λ g rest. Ok (Thief c l None g, rest)))) (number_from-decimal g [] hg)
options_read c l (Some s) (Some g) hs hg =
    ap (λ r. and_end (then (then r (λ n rest. Ok (Some n, rest))) (λ s zs. then (option_from (codes "gives") zs) (λ g rest. Ok (Thief c l s g, rest))))) (number_from-decimal s (codes "gives" ∷ decimal g ∷ []) hs)
    ∙ ap (λ r. and_end (then (then r (λ n rest. Ok (Some n, rest))) (λ g rest. Ok (Thief c l (Some s) g, rest)))) (number_from-decimal g [] hg)

words_read : (k : Command) → Lawful k → parsed (spelt k) ≡ Ok k
unfolding spelt option_words
words_read (Lock l) h = ap (λ r. and_end (then r (λ l rest. Ok (Lock l, rest)))) (id_from-decimal l [] h)
words_read (Card c) h = ap (λ r. and_end (then r (λ c rest. Ok (Card c, rest)))) (id_from-decimal c [] h)
words_read (Day d) h = ap (λ r. and_end (then r (λ d rest. Ok (Day d, rest)))) (number_from-decimal d [] h)
words_read (Bar c) h = ap (λ r. and_end (then r (λ c rest. Ok (Bar c, rest)))) (id_from-decimal c [] h)
words_read (Desk c) h = ap (λ r. and_end (then r (λ c rest. Ok (Desk c, rest)))) (id_from-decimal c [] h)
words_read (Visit c l) h =
    ap (λ r. and_end (then r (λ c xs. then (id_from xs) (λ l rest. Ok (Visit c l, rest))))) (id_from-decimal c (decimal l ∷ []) h.0)
    ∙ ap (λ r. and_end (then r (λ l rest. Ok (Visit c l, rest)))) (id_from-decimal l [] h.1)
words_read (Thief c l s g) h =
    ap (λ r. and_end (then r (λ c xs. then (id_from xs) (λ l ys. then (option_from (codes "says") ys) (λ s zs. then (option_from (codes "gives") zs) (λ g rest. Ok (Thief c l s g, rest))))))) (id_from-decimal c _ h.0)
    ∙ ap (λ r. and_end (then r (λ l ys. then (option_from (codes "says") ys) (λ s zs. then (option_from (codes "gives") zs) (λ g rest. Ok (Thief c l s g, rest)))))) (id_from-decimal l _ h.1)
    ∙ options_read c l s g h.2 h.3

-- ---- what is read was written

never : {X : Type 0} → ◌≡◌ {A = ℕ} 0 1 → X
never e = absurd (omega arith)

then_ok : {X Y : Type 0} (r : Reading X) (f : X → List (List ℕ) → Result Y Wrong) (y : Y) → then r f ≡ Ok y → (p : X × List (List ℕ)) × (r ≡ Ok p) × (f p.0 p.1 ≡ Ok y)
then_ok (Ok p) f y e = (p, refl, e)
then_ok (Err w) f y e = let z : ◌≡◌ {A = ℕ} 0 1 = cc in never z

or_wrong_ok : (o : Option ℕ) (w : Wrong) (ws : List (List ℕ)) (n : ℕ) (rest : List (List ℕ)) → or_wrong o w ws ≡ Ok (n, rest) → (o ≡ Some n) × (ws ≡ rest)
or_wrong_ok None w ws n rest e = let z : ◌≡◌ {A = ℕ} 0 1 = cc in never z
or_wrong_ok (Some m) w ws n rest e =
    let p : ◌≡◌ {A = ℕ × List (List ℕ)} (m, ws) (n, rest) = cc in (ap (λ q. Some q.0) p, ap (λ q. q.1) p)

in_range_ok : (o : Option ℕ) (n : ℕ) → in_range o ≡ Some n → (o ≡ Some n) × Id n
in_range_ok None n e = let z : ◌≡◌ {A = ℕ} 0 1 = cc in never z
in_range_ok (Some m) n e =
    elim (cases_Bool (leb 1 m && ltb m 65536)) [
      | inl t ↦
          let both = and_parts (leb 1 m) _ t in
          let same : m ≡ n = cc (cond-true _ (Some m) None t) in
          (ap (λ x. Some x) same, (omega (arith, leb-true 1 m both.0), omega (arith, ltb-true m 65536 both.1)))
      | inr f ↦ let z : ◌≡◌ {A = ℕ} 0 1 = cc (cond-false _ (Some m) None f) in never z
    ]

id_ok : (ws : List (List ℕ)) (n : ℕ) (rest : List (List ℕ)) → id_from ws ≡ Ok (n, rest) → Id n × (ws ≡ decimal n ∷ rest)
id_ok [] n rest e = let z : ◌≡◌ {A = ℕ} 0 1 = cc in never z
id_ok (w ∷ ws) n rest e =
    let p = or_wrong_ok (id_of w) NotAnId ws n rest e in
    let q = in_range_ok (number_of w) n p.0 in
    (q.1, (λ i. sym (number_read w n q.0).1 i ∷ p.1 i))

number_ok : (ws : List (List ℕ)) (n : ℕ) (rest : List (List ℕ)) → number_from ws ≡ Ok (n, rest) → (n < 2 ^ 32) × (ws ≡ decimal n ∷ rest)
number_ok [] n rest e = let z : ◌≡◌ {A = ℕ} 0 1 = cc in never z
number_ok (w ∷ ws) n rest e =
    let p = or_wrong_ok (number_of w) NotANumber ws n rest e in
    let q = number_read w n p.0 in
    (q.0, (λ i. sym q.1 i ∷ p.1 i))

pair_ok : {X Y : Type 0} (a c : X) (b d : Y) → ◌≡◌ {A = Result (X × Y) Wrong} (Ok (a, b)) (Ok (c, d)) → (a ≡ c) × (b ≡ d)
pair_ok {X} {Y} a c b d e = let p : ◌≡◌ {A = X × Y} (a, b) (c, d) = cc in (ap (λ q. q.0) p, ap (λ q. q.1) p)

option_ok : (key : List ℕ) (ws : List (List ℕ)) (o : Option ℕ) (rest : List (List ℕ)) → option_from key ws ≡ Ok (o, rest) → Perhaps o × (ws ≡ option_words key o ++ rest)
unfolding option_words
option_ok key [] o rest e =
    let r = pair_ok None o [] rest e in (subst Perhaps r.0 tt, (λ i. option_words key (r.0 i) ++ r.1 i))
option_ok key (w ∷ ws) o rest e =
    elim (cases_Bool (bytes_eq w key)) [
      | inl t ↦
          let p = then_ok (number_from ws) (λ n rest. Ok (Some n, rest)) (o, rest) (sym (cond-true _ _ _ t) ∙ e) in
          let q = number_ok ws p.0.0 p.0.1 p.1 in
          let r = pair_ok (Some p.0.0) o p.0.1 rest p.2 in
          (subst Perhaps r.0 q.0, (λ i. (bytes_eq-Decides w key).0 t i ∷ q.1 i) ∙ (λ i. option_words key (r.0 i) ++ r.1 i))
      | inr f ↦
          let r = pair_ok None o (w ∷ ws) rest (sym (cond-false _ _ _ f) ∙ e) in
          (subst Perhaps r.0 tt, (λ i. option_words key (r.0 i) ++ r.1 i))
    ]

-- a command is read by its own name
by_name : {P : Type 0} (w key : List ℕ) (named other : Reading Command) (p : Command × List (List ℕ)) → cond (bytes_eq w key) named other ≡ Ok p → (w ≡ key → named ≡ Ok p → P) → (other ≡ Ok p → P) → P
by_name w key named other p e here there =
    elim (cases_Bool (bytes_eq w key)) [
      | inl t ↦ here ((bytes_eq-Decides w key).0 t) (sym (cond-true _ named other t) ∙ e)
      | inr f ↦ there (sym (cond-false _ named other f) ∙ e)
    ]

made_so : (ws : List (List ℕ)) (h : Command) (front : List (List ℕ)) (k : Command) (rest : List (List ℕ)) → Lawful h → ws ≡ spelt h ++ front → ◌≡◌ {A = Reading Command} (Ok (h, front)) (Ok (k, rest)) → Lawful k × (ws ≡ spelt k ++ rest)
made_so ws h front k rest law is e =
    let r = pair_ok h k front rest e in (subst Lawful r.0 law, is ∙ (λ i. spelt (r.0 i) ++ r.1 i))

thief_words : (c l : ℕ) (s g : Option ℕ) (ws xs ys zs rest : List (List ℕ)) → ws ≡ decimal c ∷ xs → xs ≡ decimal l ∷ ys → ys ≡ option_words (codes "says") s ++ zs → zs ≡ option_words (codes "gives") g ++ rest → codes "thief" ∷ ws ≡ spelt (Thief c l s g) ++ rest
unfolding spelt
thief_words c l s g ws xs ys zs rest p q r t =
    ap (λ x. codes "thief" ∷ x) (p ∙ ap (λ x. decimal c ∷ x) (q ∙ ap (λ x. decimal l ∷ x) (r ∙ ap (λ x. option_words (codes "says") s ++ x) t ∙ sym (append_assoc (option_words (codes "says") s) (option_words (codes "gives") g) rest))))

-- a name and a card's or a lock's number
id_words : (name : List ℕ) (make : ℕ → Command) → ((n : ℕ) → Id n → Lawful (make n)) → ((n : ℕ) → name ∷ decimal n ∷ [] ≡ spelt (make n)) → (ws : List (List ℕ)) (k : Command) (rest : List (List ℕ)) → making make (id_from ws) ≡ Ok (k, rest) → Lawful k × (name ∷ ws ≡ spelt k ++ rest)
id_words name make law is ws k rest e =
    let p = then_ok (id_from ws) (λ n rest. Ok (make n, rest)) (k, rest) e in
    let q = id_ok ws p.0.0 p.0.1 p.1 in
    made_so _ (make p.0.0) p.0.1 k rest (law p.0.0 q.0) (ap (λ x. name ∷ x) q.1 ∙ ap (λ x. x ++ p.0.1) (is p.0.0)) p.2

day_words : (ws : List (List ℕ)) (k : Command) (rest : List (List ℕ)) → making (λ d. Day d) (number_from ws) ≡ Ok (k, rest) → Lawful k × (codes "day" ∷ ws ≡ spelt k ++ rest)
unfolding spelt
day_words ws k rest e =
    let p = then_ok (number_from ws) (λ d rest. Ok (Day d, rest)) (k, rest) e in
    let q = number_ok ws p.0.0 p.0.1 p.1 in
    made_so _ (Day p.0.0) p.0.1 k rest q.0 (ap (λ x. codes "day" ∷ x) q.1) p.2

visit_words : (ws : List (List ℕ)) (k : Command) (rest : List (List ℕ)) → visit_from ws ≡ Ok (k, rest) → Lawful k × (codes "visit" ∷ ws ≡ spelt k ++ rest)
unfolding spelt
visit_words ws k rest e =
    let p = then_ok (id_from ws) (λ c xs. then (id_from xs) (λ l rest. Ok (Visit c l, rest))) (k, rest) e in
    let q = id_ok ws p.0.0 p.0.1 p.1 in
    let s = then_ok (id_from p.0.1) (λ l rest. Ok (Visit p.0.0 l, rest)) (k, rest) p.2 in
    let t = id_ok p.0.1 s.0.0 s.0.1 s.1 in
    made_so _ (Visit p.0.0 s.0.0) s.0.1 k rest (q.0, t.0) (ap (λ x. codes "visit" ∷ x) (q.1 ∙ ap (λ x. decimal p.0.0 ∷ x) t.1)) s.2

thief_read : (ws : List (List ℕ)) (k : Command) (rest : List (List ℕ)) → thief_from ws ≡ Ok (k, rest) → Lawful k × (codes "thief" ∷ ws ≡ spelt k ++ rest)
unfolding spelt option_words
thief_read ws k rest e =
    let p = then_ok (id_from ws) (λ c xs. then (id_from xs) (λ l ys. then (option_from (codes "says") ys) (λ s zs. then (option_from (codes "gives") zs) (λ g rest. Ok (Thief c l s g, rest))))) (k, rest) e in
    let c = p.0.0 in
    let q = id_ok ws c p.0.1 p.1 in
    let s = then_ok (id_from p.0.1) (λ l ys. then (option_from (codes "says") ys) (λ s zs. then (option_from (codes "gives") zs) (λ g rest. Ok (Thief c l s g, rest)))) (k, rest) p.2 in
    let l = s.0.0 in
    let t = id_ok p.0.1 l s.0.1 s.1 in
    let u = then_ok (option_from (codes "says") s.0.1) (λ s zs. then (option_from (codes "gives") zs) (λ g rest. Ok (Thief c l s g, rest))) (k, rest) s.2 in
    let says = u.0.0 in
    let v = option_ok (codes "says") s.0.1 says u.0.1 u.1 in
    let x = then_ok (option_from (codes "gives") u.0.1) (λ g rest. Ok (Thief c l says g, rest)) (k, rest) u.2 in
    let gives = x.0.0 in
    let y = option_ok (codes "gives") u.0.1 gives x.0.1 x.1 in
    made_so _ (Thief c l says gives) x.0.1 k rest (q.0, t.0, v.0, y.0) (thief_words c l says gives ws p.0.1 s.0.1 u.0.1 x.0.1 q.1 t.1 v.1 y.1) x.2

command_ok : (w : List ℕ) (ws : List (List ℕ)) (k : Command) (rest : List (List ℕ)) → command_from w ws ≡ Ok (k, rest) → Lawful k × (w ∷ ws ≡ spelt k ++ rest)
unfolding spelt
command_ok w ws k rest e =
    let named = λ (name : List ℕ) (is : w ≡ name) (p : Lawful k × (name ∷ ws ≡ spelt k ++ rest)). let q : Lawful k × (w ∷ ws ≡ spelt k ++ rest) = (p.0, ap (λ x. x ∷ ws) is ∙ p.1) in q in
    by_name w (codes "lock") _ _ (k, rest) e (λ is f. named _ is (id_words (codes "lock") (λ n. Lock n) (λ n h. h) (λ n. refl) ws k rest f))
    (λ e. by_name w (codes "card") _ _ (k, rest) e (λ is f. named _ is (id_words (codes "card") (λ n. Card n) (λ n h. h) (λ n. refl) ws k rest f))
    (λ e. by_name w (codes "day") _ _ (k, rest) e (λ is f. named _ is (day_words ws k rest f))
    (λ e. by_name w (codes "bar") _ _ (k, rest) e (λ is f. named _ is (id_words (codes "bar") (λ n. Bar n) (λ n h. h) (λ n. refl) ws k rest f))
    (λ e. by_name w (codes "desk") _ _ (k, rest) e (λ is f. named _ is (id_words (codes "desk") (λ n. Desk n) (λ n h. h) (λ n. refl) ws k rest f))
    (λ e. by_name w (codes "visit") _ _ (k, rest) e (λ is f. named _ is (visit_words ws k rest f))
    (λ e. by_name w (codes "thief") _ _ (k, rest) e (λ is f. named _ is (thief_read ws k rest f))
    (λ e. let z : ◌≡◌ {A = ℕ} 0 1 = cc in never z)))))))

ended_ok : (h k : Command) (ws : List (List ℕ)) → ended h ws ≡ Ok k → (h ≡ k) × (ws ≡ [])
ended_ok h k [] e = (cc, refl)
ended_ok h k (w ∷ ws) e = let z : ◌≡◌ {A = ℕ} 0 1 = cc in never z

words_ok : (ws : List (List ℕ)) (k : Command) → parsed ws ≡ Ok k → Lawful k × (ws ≡ spelt k)
words_ok [] k e = let z : ◌≡◌ {A = ℕ} 0 1 = cc in never z
words_ok (w ∷ ws) k e =
    let p = then_ok (command_from w ws) ended k e in
    let q = ended_ok p.0.0 k p.0.1 p.2 in
    let r = command_ok w ws p.0.0 p.0.1 p.1 in
    (subst Lawful q.0 r.0, r.1 ∙ (λ i. spelt (q.0 i) ++ q.1 i) ∙ append-nil (spelt k))

-- ---- the law

pub read_written : (bs : List ℕ) (k : Command) → Lawful k → written k ≡ bs → parsed (words_of bs) ≡ Ok k
read_written bs k law same = ap (λ l. parsed (pieces 32 l)) (sym same) ∙ ap parsed (words_written k law) ∙ words_read k law

no_other : (bs : List ℕ) (w : Wrong) → Err w ≡ parsed (words_of bs) → (k : Command) → Lawful k → written k ≡ bs → ⊥
no_other bs w e k law same = let z : ◌≡◌ {A = ℕ} 0 1 = cc (read_written bs k law same) in omega arith

pub read_law : (bs : List ℕ) (r : Result Command Wrong) → r ≡ parsed (words_of bs) → Read bs r
read_law bs (Ok k) e =
    let d = words_ok (words_of bs) k (sym e) in
    (d.0, sym (spaced-pieces (written k)) ∙ ap spaced (words_written k d.0 ∙ sym d.1) ∙ spaced-pieces bs)
read_law bs (Err w) e = no_other bs w e
