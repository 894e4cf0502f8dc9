-- A report, line by line. Assumes nothing.
use Rattle.std.proofs.Common.{◌≡◌, ℕ, ◌+◌, ◌<◌, ◌≤◌, List, [], ◌∷◌, ◌++◌, length, get_or, drop, Some, None, Bor, Iter, codes, Option, sym, refl, ap, ◌∙◌, append_assoc, append-nil, arith}
use Rattle.std.proofs.lemmas.List.{at_drop_more, drop_all}
use Rattle.std.specs.Option.{option_copied}
use Rattle.std.specs.Slice.Iter.{iter_rest, iter_steps}
use Rattle.model.specs.declared.Event.{Event}
use Rattle.model.specs.declared.Answer.{Answer}
use Rattle.commands.specs.Plays.{event_of}
use Rattle.commands.specs.Commands.{written}
use Rattle.commands.specs.declared.command.Command.{Command}
use Rattle.script.specs.Texts.{outcome_text, answered, unanswered, line_text, report_text}

-- set-up takes no answer
pub not_asked : (o : Option Event) (xs : List Answer) → o ≡ None → (None ≡ answered o xs) × (xs ≡ unanswered o xs)
not_asked o xs e = (ap (λ p. answered p xs) (sym e), ap (λ p. unanswered p xs) (sym e))

none_left : (e : Event) (xs : List Answer) → length xs ≡ 0 → (None ≡ answered (Some e) xs) × (xs ≡ unanswered (Some e) xs)
none_left e [] none = (refl, refl)
none_left e (x ∷ xs) none = absurd (omega arith)

-- an event takes the next answer
asked : (e : Event) (s t : Iter Answer) (r : Option (Bor Answer)) → iter_steps s r t → (option_copied r ≡ answered (Some e) (iter_rest s)) × (iter_rest t ≡ unanswered (Some e) (iter_rest s))
asked e s t None h = let p = none_left e (iter_rest s) h.0 in (p.0, ap iter_rest h.1 ∙ p.1)
asked e s t (Some x) h = (ap (answered (Some e)) (sym h), ap (unanswered (Some e)) (sym h))

pub taken : (o : Option Event) (e : Event) (s t : Iter Answer) (r : Option (Bor Answer)) → o ≡ Some e → iter_steps s r t → (option_copied r ≡ answered o (iter_rest s)) × (iter_rest t ≡ unanswered o (iter_rest s))
taken o e s t r is h =
    let p = asked e s t r h in (p.0 ∙ ap (λ q. answered q (iter_rest s)) (sym is), p.1 ∙ ap (λ q. unanswered q (iter_rest s)) (sym is))

-- one line more is written
pub line_more : (whole bytes more : List ℕ) (ks : List Command) (xs : List Answer) (i : ℕ) (d : Command) → i < length ks → bytes ++ report_text (drop i ks) xs ≡ whole →
    more ≡ bytes ++ line_text (get_or ks i d) (answered (event_of (get_or ks i d)) xs) → more ++ report_text (drop (i + 1) ks) (unanswered (event_of (get_or ks i d)) xs) ≡ whole
unfolding report_text
line_more whole bytes more ks xs i d lt inv is =
    let k : Command = get_or ks i d in
    ap (λ (b : List ℕ). b ++ report_text (drop (i + 1) ks) (unanswered (event_of k) xs)) is ∙
    append_assoc bytes (line_text k (answered (event_of k) xs)) (report_text (drop (i + 1) ks) (unanswered (event_of k) xs)) ∙
    ap (λ (b : List ℕ). bytes ++ b) (sym (at_drop_more (λ (l : List Command). report_text l xs) ks i d lt)) ∙ inv

-- the same, by what was asked for and written in one turn
pub turn : (whole bytes more : List ℕ) (ks : List Command) (xs left : List Answer) (i : ℕ) (d : Command) (a : Option Answer) → i < length ks → bytes ++ report_text (drop i ks) xs ≡ whole →
    (a ≡ answered (event_of (get_or ks i d)) xs) × (left ≡ unanswered (event_of (get_or ks i d)) xs) →
    more ≡ bytes ++ (written (get_or ks i d) ++ (codes ": " ++ (outcome_text a ++ codes "\n"))) → more ++ report_text (drop (i + 1) ks) left ≡ whole
turn whole bytes more ks xs left i d a lt inv is wrote =
    rw is.1 (line_more whole bytes more ks xs i d lt inv (wrote ∙ ap (λ (o : Option Answer). bytes ++ line_text (get_or ks i d) o) is.0))

-- every line is written
pub lines_all : (whole bytes : List ℕ) (ks : List Command) (xs : List Answer) (i : ℕ) → length ks ≤ i → bytes ++ report_text (drop i ks) xs ≡ whole → bytes ≡ whole
unfolding report_text
lines_all whole bytes ks xs i le inv = sym (append-nil bytes) ∙ ap (λ (l : List Command). bytes ++ report_text l xs) (sym (drop_all i ks le)) ∙ inv
