-- A script is read as some commands exactly if it says them. Assumes nothing.
use Rattle.std.proofs.Common.{◌≡◌, ℕ, ◌+◌, ◌<◌, Bool, true, false, cond, List, [], ◌∷◌, ◌++◌, map, length, Some, None, Ok, Err, Option, ◌⊎◌, Result, sym, refl, ap, ◌∙◌, subst, inl, inr, append_assoc, append-nil, add-zero, arith, length-append}
use Rattle.std.specs.List.{AllByRecursion}
use Rattle.std.proofs.lemmas.Bool.{or_cases, or_left, or_right, eqb-true, eq-eqb, cond-true, cond-false, both_ways}
use Rattle.commands.specs.declared.command.Command.{Command}
use Rattle.commands.specs.declared.command.Command.TheVariants.{Lock, Card, Day, Bar, Desk, Visit, Thief}
use Rattle.words.specs.declared.wrong.Wrong.{Wrong}
use Rattle.words.specs.declared.wrong.Wrong.TheVariants.{NoSuchCard, NoSuchLock, SetUpAlready}
use Rattle.script.specs.declared.LineFault.{LineFault}
use Rattle.script.specs.declared.Script.{Script}
use Rattle.script.specs.declared.ScriptError.{ScriptError}
use Rattle.script.specs.declared.ScriptError.TheVariants.{Faulty, NoMemory}
use Rattle.words.specs.Lines.{pieces, bare_of}
use Rattle.words.specs.Words.{words_of}
use Rattle.commands.specs.Commands.{Lawful, written, parsed}
use Rattle.commands.specs.Plays.{set_up_by}
use Rattle.model.specs.declared.Holder.{Holder}
use Rattle.model.specs.declared.Holder.TheVariants.{Card as CardHolder, Lock as LockHolder}
use Rattle.std.specs.Option.{option_to_list}
use Rattle.script.specs.Setup.{holders_of, same, has, known, when_ok, checked, command_in, command_on, Above, Ready, InOrder}
use Rattle.script.specs.Scripts.{fault_at, at_end, script_from, script_of, Is, filled, Says, NoCommand, Stops, FirstFault, ScriptLaw}
use Rattle.words.proofs.Cuts.{pieces_some}
use Rattle.commands.proofs.Spelt.{read_law, read_written}
use Rattle.script.proofs.Turns.{go_on, line_then}

never : {X : Type 0} → ◌≡◌ {A = ℕ} 0 1 → X
never e = absurd (omega arith)

-- ---- a card or a lock is on the list of those set up exactly if the command stands above

abbrev setting : Holder → Command
setting (CardHolder c) = Card c
setting (LockHolder l) = Lock l

sets : (k : Command) (h : Holder) → set_up_by k ≡ Some h → setting h ≡ k
sets (Lock l) (CardHolder c) e = let z : ◌≡◌ {A = ℕ} 0 1 = cc in never z
sets (Lock l) (LockHolder m) e = cc
sets (Card b) (CardHolder c) e = cc
sets (Card b) (LockHolder l) e = let z : ◌≡◌ {A = ℕ} 0 1 = cc in never z
sets (Day d) h e = let z : ◌≡◌ {A = ℕ} 0 1 = cc in never z
sets (Bar c) h e = let z : ◌≡◌ {A = ℕ} 0 1 = cc in never z
sets (Desk c) h e = let z : ◌≡◌ {A = ℕ} 0 1 = cc in never z
sets (Visit c l) h e = let z : ◌≡◌ {A = ℕ} 0 1 = cc in never z
sets (Thief c l s g) h e = let z : ◌≡◌ {A = ℕ} 0 1 = cc in never z

same_is : (g h : Holder) → same g h ≡ true → g ≡ h
same_is (CardHolder a) (CardHolder b) e = ap (λ n. CardHolder n) (eqb-true a b e)
same_is (CardHolder a) (LockHolder b) e = absurd (both_ways false refl e)
same_is (LockHolder a) (CardHolder b) e = absurd (both_ways false refl e)
same_is (LockHolder a) (LockHolder b) e = ap (λ n. LockHolder n) (eqb-true a b e)

same_self : (h : Holder) → same h h ≡ true
same_self (CardHolder a) = eq-eqb a a refl
same_self (LockHolder a) = eq-eqb a a refl

has_first : (h : Holder) (o : Option Holder) (hs : List Holder) → has h (option_to_list o ++ hs) ≡ true → (o ≡ Some h) ⊎ (has h hs ≡ true)
has_first h None hs e = inr e
has_first h (Some g) hs e =
    elim (or_cases (same g h) (has h hs) e) [ inl t ↦ inl (ap (λ x. Some x) (same_is g h t)) | inr t ↦ inr t ]

first_has : (h : Holder) (o : Option Holder) (hs : List Holder) → o ≡ Some h → has h (option_to_list o ++ hs) ≡ true
first_has h None hs e = let z : ◌≡◌ {A = ℕ} 0 1 = cc in never z
first_has h (Some g) hs e = let is : g ≡ h = cc in or_left _ _ (ap (λ x. same x h) is ∙ same_self h)

rest_has : (h : Holder) (o : Option Holder) (hs : List Holder) → has h hs ≡ true → has h (option_to_list o ++ hs) ≡ true
rest_has h None hs e = e
rest_has h (Some g) hs e = or_right (same g h) _ e

has_above : (h : Holder) (ks : List Command) → has h (holders_of ks) ≡ true → Above (setting h) ks
has_above h [] e = absurd (both_ways false refl e)
has_above h (k ∷ ks) e =
    elim (has_first h (set_up_by k) (holders_of ks) e) [ inl is ↦ inl (sets k h is) | inr more ↦ inr (has_above h ks more) ]

sets_up : (h : Holder) → set_up_by (setting h) ≡ Some h
sets_up (CardHolder c) = refl
sets_up (LockHolder l) = refl

above_has : (h : Holder) (ks : List Command) → Above (setting h) ks → has h (holders_of ks) ≡ true
above_has h [] a = absurd a
above_has h (k ∷ ks) (inl e) = first_has h (set_up_by k) (holders_of ks) (ap set_up_by (sym e) ∙ sets_up h)
above_has h (k ∷ ks) (inr a) = rest_has h (set_up_by k) (holders_of ks) (above_has h ks a)

-- ---- `checked` passes exactly what is ready

abbrev Passed : Type 0
Passed = Result (Unit {0}) Wrong

new_ok : (w : Wrong) (b : Bool) → ◌≡◌ {A = Passed} (cond b (Err w) (Ok tt)) (Ok tt) → b ≡ false
new_ok w true e = let z : ◌≡◌ {A = ℕ} 0 1 = cc in never z
new_ok w false e = refl

known_ok : (w : Wrong) (b : Bool) → ◌≡◌ {A = Passed} (cond b (Ok tt) (Err w)) (Ok tt) → b ≡ true
known_ok w true e = refl
known_ok w false e = let z : ◌≡◌ {A = ℕ} 0 1 = cc in never z

both_ok : (w v : Wrong) (a b : Bool) → ◌≡◌ {A = Passed} (when_ok {X = Unit {0}} (cond a (Ok tt) (Err w)) (λ _. cond b (Ok tt) (Err v))) (Ok tt) → (a ≡ true) × (b ≡ true)
both_ok w v true b e = (refl, known_ok v b e)
both_ok w v false b e = let z : ◌≡◌ {A = ℕ} 0 1 = cc in never z

not_has : (b : Bool) {A : Type 0} → b ≡ false → (A → b ≡ true) → A → ⊥
not_has b f h a = both_ways b f (h a)

checked_ready : (above : List Command) (k : Command) → checked (holders_of above) k ≡ Ok tt → Ready above k
checked_ready above (Lock l) e = not_has _ (new_ok SetUpAlready _ e) (above_has (LockHolder l) above)
checked_ready above (Card c) e = not_has _ (new_ok SetUpAlready _ e) (above_has (CardHolder c) above)
checked_ready above (Day d) e = tt
checked_ready above (Bar c) e = has_above (CardHolder c) above (known_ok (NoSuchCard c) _ e)
checked_ready above (Desk c) e = has_above (CardHolder c) above (known_ok (NoSuchCard c) _ e)
checked_ready above (Visit c l) e = let p = both_ok (NoSuchCard c) (NoSuchLock l) (has (CardHolder c) (holders_of above)) (has (LockHolder l) (holders_of above)) e in (has_above (CardHolder c) above p.0, has_above (LockHolder l) above p.1)
checked_ready above (Thief c l s g) e = let p = both_ok (NoSuchCard c) (NoSuchLock l) (has (CardHolder c) (holders_of above)) (has (LockHolder l) (holders_of above)) e in (has_above (CardHolder c) above p.0, has_above (LockHolder l) above p.1)

absent : (b : Bool) {A : Type 0} → (b ≡ true → A) → (A → ⊥) → b ≡ false
absent true h none = absurd (none (h refl))
absent false h none = refl

ready_checked : (above : List Command) (k : Command) → Ready above k → checked (holders_of above) k ≡ Ok tt
ready_checked above (Lock l) r = cond-false _ _ _ (absent _ (has_above (LockHolder l) above) r)
ready_checked above (Card c) r = cond-false _ _ _ (absent _ (has_above (CardHolder c) above) r)
ready_checked above (Day d) r = refl
ready_checked above (Bar c) r = cond-true _ _ _ (above_has (CardHolder c) above r)
ready_checked above (Desk c) r = cond-true _ _ _ (above_has (CardHolder c) above r)
ready_checked above (Visit c l) r = ap (λ b. when_ok (cond b (Ok tt) (Err (NoSuchCard c))) (λ _. known (holders_of above) (LockHolder l))) (above_has (CardHolder c) above r.0) ∙ cond-true _ _ _ (above_has (LockHolder l) above r.1)
ready_checked above (Thief c l s g) r = ap (λ b. when_ok (cond b (Ok tt) (Err (NoSuchCard c))) (λ _. known (holders_of above) (LockHolder l))) (above_has (CardHolder c) above r.0) ∙ cond-true _ _ _ (above_has (LockHolder l) above r.1)

-- ---- what a line says

abbrev Heard : Type 0
Heard = Result (Option Command) Wrong

check_parts : (p : Passed) (k : Command) (o : Option Command) → ◌≡◌ {A = Heard} (when_ok p (λ _. Ok (Some k))) (Ok o) → (o ≡ Some k) × (p ≡ Ok tt)
check_parts (Ok u) k o e = (cc, refl)
check_parts (Err w) k o e = let z : ◌≡◌ {A = ℕ} 0 1 = cc in never z

heard_parts : (r : Result Command Wrong) (f : Command → Passed) (o : Option Command) → ◌≡◌ {A = Heard} (when_ok r (λ k. when_ok (f k) (λ _. Ok (Some k)))) (Ok o) → (k : Command) × (o ≡ Some k) × (r ≡ Ok k) × (f k ≡ Ok tt)
heard_parts (Ok k) f o e = let p = check_parts (f k) k o e in (k, p.0, refl, p.1)
heard_parts (Err w) f o e = let z : ◌≡◌ {A = ℕ} 0 1 = cc in never z

said_none : (hs : List Holder) (t : List ℕ) → command_in hs t ≡ Ok None → t ≡ []
said_none hs [] e = refl
said_none hs (b ∷ bs) e =
    let p = heard_parts (parsed (words_of (b ∷ bs))) (checked hs) None e in let z : ◌≡◌ {A = ℕ} 0 1 = cc p.1 in never z

pub record Said (hs : List Holder) (t : List ℕ) (k : Command) : Type 0 where
  pub filled : t ≡ [] → ⊥
  pub lawful : Lawful k
  pub same : written k ≡ t
  pub passed : checked hs k ≡ Ok tt

said_some : (hs : List Holder) (t : List ℕ) (k : Command) → command_in hs t ≡ Ok (Some k) → Said hs t k
said_some hs [] k e = let p : ◌≡◌ {A = Option Command} None (Some k) = cc in let z : ◌≡◌ {A = ℕ} 0 1 = cc in never z
said_some hs (b ∷ bs) k e =
    let p = heard_parts (parsed (words_of (b ∷ bs))) (checked hs) (Some k) e in
    let same : p.0 ≡ k = cc p.1 in
    let law = read_law (b ∷ bs) (Ok p.0) (sym p.2) in
    record {
      filled = λ n. let z : ◌≡◌ {A = ℕ} 0 1 = cc in omega arith;
      lawful = subst Lawful same law.0;
      same = ap written (sym same) ∙ law.1;
      passed = ap (checked hs) (sym same) ∙ p.3;
    }

filled_some : (t : List ℕ) (ts : List (List ℕ)) → (t ≡ [] → ⊥) → filled (t ∷ ts) ≡ t ∷ filled ts
filled_some [] ts some = absurd (some refl)
filled_some (b ∷ bs) ts some = refl

-- ---- what is read is said

pub record Found (above : List Command) (ls : List (List ℕ)) (all : List Command) : Type 0 where
  pub rows : List (List ℕ)
  pub ks : List Command
  pub whole : ls ≡ rows ++ [] ∷ []
  pub sum : all ≡ above ++ ks
  pub same : filled (map bare_of rows) ≡ map written ks
  pub lawful : AllByRecursion Lawful ks
  pub ready : InOrder above ks
  pub some : 0 < length all

at_end_found : (n : ℕ) (above : List Command) (l : List ℕ) (all : List Command) → at_end n above l ≡ Ok all → Found above (l ∷ []) all
at_end_found n [] [] all e = let z : ◌≡◌ {A = ℕ} 0 1 = cc in never z
at_end_found n (k ∷ ks) [] all e =
    let same : k ∷ ks ≡ all = cc in
    record { rows = []; ks = []; whole = refl; sum = sym same ∙ sym (append-nil _); same = refl; lawful = tt; ready = tt; some = omega (arith, ap length same) }
at_end_found n above (b ∷ bs) all e = let z : ◌≡◌ {A = ℕ} 0 1 = cc in never z

line_read : (n : ℕ) (above : List Command) (l : List ℕ) (rest : List (List ℕ)) (all : List Command) (r : Heard) → command_on (holders_of above) l ≡ r → go_on r n above rest ≡ Ok all → ((more : List Command) → script_from (n + 1) more rest ≡ Ok all → Found more rest all) → Found above (l ∷ rest) all
line_read n above l rest all (Err w) is e go = let z : ◌≡◌ {A = ℕ} 0 1 = cc in never z
line_read n above l rest all (Ok None) is e go =
    let h = go above (ap (λ ks. script_from (n + 1) ks rest) (sym (append-nil above)) ∙ e) in
    let bare = said_none (holders_of above) (bare_of l) is in
    record {
      rows = l ∷ h.rows;
      ks = h.ks;
      whole = ap (λ x. l ∷ x) h.whole;
      sum = h.sum;
      same = ap (λ t. filled (t ∷ map bare_of h.rows)) bare ∙ h.same;
      lawful = h.lawful;
      ready = h.ready;
      some = h.some;
    }
line_read n above l rest all (Ok (Some k)) is e go =
    let h = go (above ++ k ∷ []) e in
    let said = said_some (holders_of above) (bare_of l) k is in
    record {
      rows = l ∷ h.rows;
      ks = k ∷ h.ks;
      whole = ap (λ x. l ∷ x) h.whole;
      sum = h.sum ∙ append_assoc above (k ∷ []) h.ks;
      same = filled_some (bare_of l) (map bare_of h.rows) said.filled ∙ (λ i. sym said.same i ∷ h.same i);
      lawful = (said.lawful, h.lawful);
      ready = (checked_ready above k said.passed, h.ready);
      some = h.some;
    }

found : (n : ℕ) (above : List Command) (ls : List (List ℕ)) (all : List Command) → script_from n above ls ≡ Ok all → (ls ≡ [] → ⊥) → Found above ls all
unfolding script_from
found n above [] all e some = absurd (some refl)
found n above (l ∷ []) all e some = at_end_found n above l all e
found n above (l ∷ m ∷ ls) all e some =
    line_read n above l (m ∷ ls) all (command_on (holders_of above) l) refl e (λ more f. found (n + 1) more (m ∷ ls) all f (λ z. let y : ◌≡◌ {A = ℕ} 0 1 = cc in omega arith))

-- ---- what is said is read

ends : (n : ℕ) (ks : List Command) → 0 < length ks → script_from n ks ([] ∷ []) ≡ Ok ks
unfolding script_from
ends n [] some = absurd (omega arith)
ends n (k ∷ ks) some = refl

snoc_some : {X : Type 0} (xs : List X) (x : X) → xs ++ x ∷ [] ≡ [] → ⊥
snoc_some xs x e = let z : length xs + 1 ≡ 0 = sym (length-append xs (x ∷ [])) ∙ ap length e in omega arith

hear : (hs : List Holder) (t : List ℕ) (k : Command) → (t ≡ [] → ⊥) → Lawful k → written k ≡ t → checked hs k ≡ Ok tt → command_in hs t ≡ Ok (Some k)
hear hs [] k some law same ok = absurd (some refl)
hear hs (b ∷ bs) k some law same ok =
    ap (λ r. when_ok r (λ j. when_ok (checked hs j) (λ _. Ok (Some j)))) (read_written (b ∷ bs) k law same) ∙ ap (λ p. when_ok p (λ _. Ok (Some k))) ok

abbrev Rest : ℕ → List (List ℕ) → Type 0
Rest n rows =
    (above ks : List Command) → filled (map bare_of rows) ≡ map written ks → AllByRecursion Lawful ks → InOrder above ks → 0 < length (above ++ ks) → script_from n above (rows ++ [] ∷ []) ≡ Ok (above ++ ks)

one_line : (n : ℕ) (above : List Command) (l : List ℕ) (rows : List (List ℕ)) (ks : List Command) (t : List ℕ) → bare_of l ≡ t → filled (t ∷ map bare_of rows) ≡ map written ks → AllByRecursion Lawful ks → InOrder above ks → 0 < length (above ++ ks) → Rest (n + 1) rows → script_from n above (l ∷ (rows ++ [] ∷ [])) ≡ Ok (above ++ ks)
one_line n above l rows ks [] is same law ready some go =
    line_then n above l (rows ++ [] ∷ []) (snoc_some rows [])
    ∙ ap (λ t. go_on (command_in (holders_of above) t) n above (rows ++ [] ∷ [])) is
    ∙ ap (λ x. script_from (n + 1) x (rows ++ [] ∷ [])) (append-nil above)
    ∙ go above ks same law ready some
one_line n above l rows [] (b ∷ bs) is same law ready some go = let z : ◌≡◌ {A = ℕ} 0 1 = cc in never z
one_line n above l rows (k ∷ ks) (b ∷ bs) is same law ready some go =
    let head : b ∷ bs ≡ written k = cc in
    let tail : filled (map bare_of rows) ≡ map written ks = cc in
    let heard = hear (holders_of above) (b ∷ bs) k (λ z. let y : ◌≡◌ {A = ℕ} 0 1 = cc in omega arith) law.0 (sym head) (ready_checked above k ready.0) in
    let join = append_assoc above (k ∷ []) ks in
    line_then n above l (rows ++ [] ∷ []) (snoc_some rows [])
    ∙ ap (λ t. go_on (command_in (holders_of above) t) n above (rows ++ [] ∷ [])) is
    ∙ ap (λ r. go_on r n above (rows ++ [] ∷ [])) heard
    ∙ go (above ++ k ∷ []) ks tail law.1 ready.1 (omega (arith, ap length join))
    ∙ ap (λ x. Ok x) join

read_all : (n : ℕ) (rows : List (List ℕ)) → Rest n rows
read_all n [] above [] same law ready some = ends n above (omega (arith, ap length (append-nil above))) ∙ ap (λ x. Ok x) (sym (append-nil above))
read_all n [] above (k ∷ ks) same law ready some = let z : ◌≡◌ {A = ℕ} 0 1 = cc in never z
read_all n (l ∷ rows) above ks same law ready some = one_line n above l rows ks (bare_of l) refl same law ready some (read_all (n + 1) rows)

-- ---- a fault is the first

pub record Broken (n : ℕ) (above : List Command) (ls : List (List ℕ)) (f : LineFault) : Type 0 where
  pub rows : List (List ℕ)
  pub rest : List (List ℕ)
  pub ks : List Command
  pub whole : ls ≡ rows ++ rest
  pub same : filled (map bare_of rows) ≡ map written ks
  pub lawful : AllByRecursion Lawful ks
  pub ready : InOrder above ks
  pub stops : Stops (n + length rows) (above ++ ks) rest f

here : (n : ℕ) (above : List Command) (ls : List (List ℕ)) (f : LineFault) → Stops n above ls f → Broken n above ls f
here n above ls f stops = record {
  rows = [];
  rest = ls;
  ks = [];
  whole = refl;
  same = refl;
  lawful = tt;
  ready = tt;
  stops = subst (λ m. Stops m (above ++ []) ls f) (sym (add-zero n)) (subst (λ ks. Stops n ks ls f) (sym (append-nil above)) stops);
}

unwritten : (ks : List Command) (t : List ℕ) (w : Wrong) → command_in (holders_of ks) t ≡ Err w → (k : Command) → Lawful k → Ready ks k → written k ≡ t → ⊥
unwritten ks [] w e k law ready same = let z : ◌≡◌ {A = ℕ} 0 1 = cc in omega arith
unwritten ks (b ∷ bs) w e k law ready same =
    let heard = hear (holders_of ks) (b ∷ bs) k (λ n. let y : ◌≡◌ {A = ℕ} 0 1 = cc in omega arith) law same (ready_checked ks k ready) in
    let z : ◌≡◌ {A = ℕ} 0 1 = cc in
    omega arith

unheard : (ks : List Command) (t : List ℕ) (w : Wrong) → command_in (holders_of ks) t ≡ Err w → NoCommand ks t
unheard ks t w e = (
  λ none. let z : ◌≡◌ {A = ℕ} 0 1 = cc (ap (command_in (holders_of ks)) none) in omega arith,
  λ k law ready same. unwritten ks t w e k law ready same,
)

line_broken : (n : ℕ) (above : List Command) (l m : List ℕ) (ls : List (List ℕ)) (f : LineFault) (r : Heard) → command_on (holders_of above) l ≡ r → go_on r n above (m ∷ ls) ≡ Err f → ((more : List Command) → script_from (n + 1) more (m ∷ ls) ≡ Err f → Broken (n + 1) more (m ∷ ls) f) → Broken n above (l ∷ m ∷ ls) f
line_broken n above l m ls f (Err w) is e go =
    let same : fault_at n w ≡ f = cc in here n above (l ∷ m ∷ ls) f (sym (ap (λ x. x.line) same), is ∙ ap (λ x. Err x.wrong) same, unheard above (bare_of l) w is)
line_broken n above l m ls f (Ok None) is e go =
    let h = go above (ap (λ ks. script_from (n + 1) ks (m ∷ ls)) (sym (append-nil above)) ∙ e) in
    let bare = said_none (holders_of above) (bare_of l) is in
    let next : n + 1 + length h.rows ≡ n + length (l ∷ h.rows) = omega arith in
    record {
      rows = l ∷ h.rows;
      rest = h.rest;
      ks = h.ks;
      whole = ap (λ x. l ∷ x) h.whole;
      same = ap (λ t. filled (t ∷ map bare_of h.rows)) bare ∙ h.same;
      lawful = h.lawful;
      ready = h.ready;
      stops = subst (λ i. Stops i (above ++ h.ks) h.rest f) next h.stops;
    }
line_broken n above l m ls f (Ok (Some k)) is e go =
    let h = go (above ++ k ∷ []) e in
    let said = said_some (holders_of above) (bare_of l) k is in
    let next : n + 1 + length h.rows ≡ n + length (l ∷ h.rows) = omega arith in
    record {
      rows = l ∷ h.rows;
      rest = h.rest;
      ks = k ∷ h.ks;
      whole = ap (λ x. l ∷ x) h.whole;
      same = filled_some (bare_of l) (map bare_of h.rows) said.filled ∙ (λ i. sym said.same i ∷ h.same i);
      lawful = (said.lawful, h.lawful);
      ready = (checked_ready above k said.passed, h.ready);
      stops = subst (λ i. Stops i (above ++ k ∷ h.ks) h.rest f) next (subst (λ ks. Stops (n + 1 + length h.rows) ks h.rest f) (append_assoc above (k ∷ []) h.ks) h.stops);
    }

broken : (n : ℕ) (above : List Command) (ls : List (List ℕ)) (f : LineFault) → script_from n above ls ≡ Err f → (ls ≡ [] → ⊥) → Broken n above ls f
unfolding script_from
broken n above [] f e some = absurd (some refl)
broken n above (l ∷ []) f e some = here n above (l ∷ []) f e
broken n above (l ∷ m ∷ ls) f e some =
    line_broken n above l m ls f (command_on (holders_of above) l) refl e (λ more g. broken (n + 1) more (m ∷ ls) f g (λ z. let y : ◌≡◌ {A = ℕ} 0 1 = cc in omega arith))

first_fault : (text : List ℕ) (f : LineFault) → script_of text ≡ Err f → FirstFault text f
first_fault text f e =
    let b = broken 1 [] (pieces 10 text) f e (pieces_some 10 text) in
    record {
      rows = b.rows;
      rest = b.rest;
      commands = b.ks;
      whole = b.whole;
      sound = record { same = b.same; lawful = b.lawful; ready = b.ready };
      stops = b.stops;
    }

-- ---- the law

says_none : (text : List ℕ) (f : LineFault) → script_of text ≡ Err f → (ks : List Command) → Says text ks → ⊥
says_none text f e ks says =
    let sound = says.sound in
    let read : script_of text ≡ Ok ks = ap (script_from 1 []) says.whole ∙ read_all 1 says.rows [] ks sound.same sound.lawful sound.ready says.some in
    let z : ◌≡◌ {A = ℕ} 0 1 = cc in
    omega arith

pub script_law : (text : List ℕ) (r : Result Script ScriptError) → Is (script_of text) r → ScriptLaw text r
script_law text (Ok ks) h =
    let f = found 1 [] (pieces 10 text) ks h (pieces_some 10 text) in
    record {
      rows = f.rows;
      whole = f.whole;
      sound = record {
        same = f.same ∙ ap (map written) (sym f.sum);
        lawful = subst (AllByRecursion Lawful) (sym f.sum) f.lawful;
        ready = subst (InOrder []) (sym f.sum) f.ready;
      };
      some = f.some;
    }
script_law text (Err (Faulty f)) h = (first_fault text f h, says_none text f h)
script_law text (Err NoMemory) h = tt
