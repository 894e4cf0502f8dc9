-- What one turn of `read` keeps. Assumes nothing.
use Rattle.std.proofs.Common.{◌≡◌, ℕ, ◌+◌, ◌<◌, List, [], ◌∷◌, ◌++◌, length, Some, None, Ok, Err, Option, Result, sym, refl, ap, ◌∙◌, append-nil, arith}
use Rattle.std.specs.List.{flat_map}
use Rattle.std.specs.Option.{option_to_list}
use Rattle.std.proofs.lemmas.List.{flat_map_more}
use Rattle.commands.specs.declared.command.Command.{Command}
use Rattle.words.specs.declared.wrong.Wrong.{Wrong}
use Rattle.words.specs.declared.wrong.Wrong.TheVariants.{NoNewline, Empty}
use Rattle.script.specs.declared.LineFault.{LineFault}
use Rattle.words.specs.Lines.{pieces}
use Rattle.script.specs.Setup.{holders_of, command_on}
use Rattle.script.specs.Scripts.{fault_at, script_from, script_of}
use Rattle.words.proofs.Cuts.{pieces_some}

-- what follows from the commands follows from one more
pub one_more : {X : Type 0} (f : Command → Option X) (ks js : List Command) (k : Command) (o : Option X) (xs ys : List X) → js ≡ ks ++ k ∷ [] → o ≡ f k → xs ≡ flat_map (λ j. option_to_list (f j)) ks → ys ≡ xs ++ option_to_list o → ys ≡ flat_map (λ j. option_to_list (f j)) js
one_more f ks js k o xs ys more is follow e =
    e ∙ (λ i. follow i ++ option_to_list (is i)) ∙ flat_map_more (λ j. option_to_list (f j)) [] ks k ∙ ap (flat_map (λ j. option_to_list (f j))) (sym more)

-- after n lines, which say the commands ks, rest is left of the text
pub record SoFar (text : List ℕ) (n : ℕ) (ks : List Command) (rest : List ℕ) : Type 0 where
  pub same : script_from (n + 1) ks (pieces 10 rest) ≡ script_of text

-- a line that is followed by another piece
abbrev pub go_on : (r : Result (Option Command) Wrong) (n : ℕ) (ks : List Command) (ls : List (List ℕ)) → Result (List Command) LineFault
go_on r n ks ls = elim r [ Ok o ↦ script_from (n + 1) (ks ++ option_to_list o) ls | Err w ↦ Err (fault_at n w) ]

pub line_then : (n : ℕ) (ks : List Command) (l : List ℕ) (ls : List (List ℕ)) → (ls ≡ [] → ⊥) → script_from n ks (l ∷ ls) ≡ go_on (command_on (holders_of ks) l) n ks ls
unfolding script_from
line_then n ks l [] some = absurd (some refl)
line_then n ks l (m ∷ ls) some = refl

cut_off : (n : ℕ) (ks : List Command) (l : List ℕ) → 0 < length l → script_from n ks (l ∷ []) ≡ Err (fault_at n NoNewline)
unfolding script_from
cut_off n ks [] some = absurd (omega arith)
cut_off n [] (b ∷ bs) some = refl
cut_off n (k ∷ ks) (b ∷ bs) some = refl

finished : (n : ℕ) (ks : List Command) (l : List ℕ) → length l ≡ 0 → 0 < length ks → script_from n ks (pieces 10 l) ≡ Ok ks
unfolding script_from pieces
finished n [] l none some = absurd (omega arith)
finished n (k ∷ ks) [] none some = refl
finished n (k ∷ ks) (b ∷ bs) none some = absurd (omega arith)

unfilled : (n : ℕ) (ks : List Command) (l : List ℕ) → length l ≡ 0 → length ks ≡ 0 → script_from n ks (pieces 10 l) ≡ Err (fault_at 1 Empty)
unfolding script_from pieces
unfilled n [] [] none zeros = refl
unfilled n [] (b ∷ bs) none zeros = absurd (omega arith)
unfilled n (k ∷ ks) l none zeros = absurd (omega arith)

module _ {text : List ℕ} {n : ℕ} {ks : List Command} {rest : List ℕ} (h : SoFar text n ks rest) where
  turn : (l after : List ℕ) (r : Result (Option Command) Wrong) → pieces 10 rest ≡ l ∷ pieces 10 after → command_on (holders_of ks) l ≡ r → script_of text ≡ go_on r (n + 1) ks (pieces 10 after)
  turn l after r next is =
      sym h.same ∙ ap (script_from (n + 1) ks) next ∙ line_then (n + 1) ks l (pieces 10 after) (pieces_some 10 after)
      ∙ ap (λ x. go_on x (n + 1) ks (pieces 10 after)) is

  pub wrong_line : (l after : List ℕ) (w : Wrong) → pieces 10 rest ≡ l ∷ pieces 10 after → command_on (holders_of ks) l ≡ Err w → script_of text ≡ Err (fault_at (n + 1) w)
  wrong_line l after w next is = turn l after (Err w) next is

  pub no_command : (l after : List ℕ) → pieces 10 rest ≡ l ∷ pieces 10 after → command_on (holders_of ks) l ≡ Ok None → SoFar text (n + 1) ks after
  no_command l after next is = record { same = ap (λ x. script_from (n + 1 + 1) x (pieces 10 after)) (sym (append-nil ks)) ∙ sym (turn l after (Ok None) next is) }

  pub one_command : (l after : List ℕ) (k : Command) → pieces 10 rest ≡ l ∷ pieces 10 after → command_on (holders_of ks) l ≡ Ok (Some k) → SoFar text (n + 1) (ks ++ k ∷ []) after
  one_command l after k next is = record { same = sym (turn l after (Ok (Some k)) next is) }

  pub no_newline : 0 < length rest → pieces 10 rest ≡ rest ∷ [] → script_of text ≡ Err (fault_at (n + 1) NoNewline)
  no_newline some last = sym h.same ∙ ap (script_from (n + 1) ks) last ∙ cut_off (n + 1) ks rest some

  pub all_read : length rest ≡ 0 → 0 < length ks → script_of text ≡ Ok ks
  all_read none some = sym h.same ∙ finished (n + 1) ks rest none some

  pub nothing_read : length rest ≡ 0 → length ks ≡ 0 → script_of text ≡ Err (fault_at 1 Empty)
  nothing_read none zeros = sym h.same ∙ unfilled (n + 1) ks rest none zeros
