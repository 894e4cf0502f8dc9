-- A run, event by event, is the model's. Assumes nothing.
use Rattle.std.proofs.Common.{◌≡◌, ℕ, ◌+◌, ◌<◌, ◌≤◌, Bool, List, [], ◌∷◌, ◌++◌, reverse, length, get_or, take, Some, None, Option, sym, refl, ap, ◌∙◌, subst, inl, inr, not-suc-le-zero, arith}
use mathlib.Core.List.{reverse-append}
use Rattle.std.proofs.lemmas.List.{take_more, take_all, length_push, get_or_push, get_or_append_left, get_or_default}
use Rattle.std.proofs.lemmas.Bool.{cases_lt}
use Rattle.model.specs.declared.Event.{Event}
use Rattle.model.specs.declared.Event.TheVariants.{Day, Bar, AtDesk, Visit, Adversary}
use Rattle.model.specs.declared.Answer.{Answer}
use Rattle.model.specs.declared.Holder.{Holder}
use Rattle.model.specs.declared.Holder.TheVariants.{Card, Lock}
use Rattle.model.specs.Run.{step, answer, after, before}
use Rattle.model.specs.Promise.{Promise}
use Rattle.model.proofs.Promised.{main}
use Rattle.world.specs.declared.state.World.{World}
use Rattle.world.specs.Roster.{missing, unless}
use Rattle.world.specs.World.{state_of, roster, Moves, Stays}
use Rattle.spread.specs.Runs.{AllKnown, FirstUnknown, Played}

-- who is missing depends only on the roster
unless_same : (f g : Holder → Bool) (h : Holder) (n m : Option Holder) → f h ≡ g h → n ≡ m → unless f h n ≡ unless g h m
unless_same f g h n m e p = rw (e, p) refl

pub same_missing : (f g : Holder → Bool) → ((h : Holder) → f h ≡ g h) → (e : Event) → missing f e ≡ missing g e
same_missing f g same (Day d) = refl
same_missing f g same (Bar c) = unless_same f g (Card c) None None (same (Card c)) refl
same_missing f g same (AtDesk c) = unless_same f g (Card c) None None (same (Card c)) refl
same_missing f g same (Visit c l) = unless_same f g (Card c) _ _ (same (Card c)) (unless_same f g (Lock l) None None (same (Lock l)) refl)
same_missing f g same (Adversary c l says gives) = unless_same f g (Card c) _ _ (same (Card c)) (unless_same f g (Lock l) None None (same (Lock l)) refl)

-- how far a run has come: i events are played, after whatever happened before
pub record SoFar (first : World) (events : List Event) (i : ℕ) (w : World) (answers : List Answer) : Type 0 where
  pub known : AllKnown (roster first) events (length events)
  pub there : (h : Holder) → roster w h ≡ roster first h
  pub count : length answers ≡ i
  pub state : (past : List Event) → state_of first ≡ after past → state_of w ≡ after (before past i events)
  pub says : (past : List Event) → state_of first ≡ after past →
      (k : ℕ) (e : Event) (d : Answer) → k < i → get_or answers k d ≡ answer (get_or events k e) (after (before past k events))

pub begins : (first : World) (events : List Event) (answers : List Answer) → FirstUnknown (roster first) events None → answers ≡ [] → SoFar first events 0 first answers
begins first events answers k e = record {
  known = k;
  there = λ h. refl;
  count = ap length e;
  state = λ past is. is;
  says = λ past is k e d lt. absurd (not-suc-le-zero lt);
}

before_more : (past events : List Event) (i : ℕ) (e : Event) → i < length events → before past (i + 1) events ≡ get_or events i e ∷ before past i events
before_more past events i e lt = ap (λ (es : List Event). reverse es ++ past) (take_more events i e lt) ∙ ap (λ (es : List Event). es ++ past) (reverse-append (take i events) (get_or events i e ∷ []))

-- the answers so far and one more
next_says : (answers : List Answer) (i : ℕ) (a : Answer) (says : ℕ → Answer → Type 0) → length answers ≡ i → ((k : ℕ) (d : Answer) → k < i → says k (get_or answers k d)) → says i a →
    (k : ℕ) (d : Answer) → k < i + 1 → says k (get_or (answers ++ (a ∷ [])) k d)
next_says answers i a says count so_far now k d below =
    elim (cases_lt k i) [
      | inl h ↦ rw (get_or_append_left answers (a ∷ []) d k (omega (arith, count))) (so_far k d h)
      | inr h ↦ let same : k ≡ i = omega arith in rw (same, get_or_push answers a d i count) now
    ]

pub goes_on : (first : World) (events : List Event) (i : ℕ) (w : World) (answers : List Answer) → SoFar first events i w answers → i < length events →
    (e : Event) (a : Answer) (v : World) → Moves w (get_or events i e) a v → (more : List Answer) → more ≡ answers ++ (a ∷ []) → SoFar first events (i + 1) v more
unfolding after
goes_on first events i w answers s lt e a v m more is = record {
  known = s.known;
  there = λ h. m.there h ∙ s.there h;
  count = omega (arith, s.count, ap length is, length_push answers a);
  state = λ past was. m.state ∙ ap (step (get_or events i e)) (s.state past was) ∙ ap after (sym (before_more past events i e lt));
  says = λ past was k x d below.
      rw is (next_says answers i a (λ j y. y ≡ answer (get_or events j x) (after (before past j events))) s.count (λ j y h. s.says past was j x y h)
      (m.says ∙ ap (answer (get_or events i e)) (s.state past was) ∙ ap (λ (y : Event). answer y (after (before past i events))) (get_or_default events i e x lt)) k d below);
}

-- no event of a run fails
pub never_stays : (first : World) (events : List Event) (i : ℕ) (w : World) (answers : List Answer) → SoFar first events i w answers → i < length events →
    (e : Event) (who : Holder) (v : World) → Stays w (get_or events i e) who v → ⊥
never_stays first events i w answers s lt e who v m =
    let p : Some who ≡ None = sym m.unknown ∙ same_missing (roster w) (roster first) s.there (get_or events i e) ∙ s.known i e lt in
    let z : ◌≡◌ {A = ℕ} 0 1 = cc in omega arith

pub ends : (first : World) (events : List Event) (i : ℕ) (w : World) (answers : List Answer) → length events ≤ i → i ≤ length events → SoFar first events i w answers → Played first events w answers
ends first events i w answers le ge s =
    let whole : i ≡ length events = omega arith in
    record {
      known = s.known;
      there = s.there;
      count = s.count ∙ whole;
      history = λ past is. record {
        state = s.state past is ∙ ap (λ (es : List Event). after (reverse es ++ past)) (take_all i events le);
        says = λ k e d lt. s.says past is k e d (omega (arith, lt));
        promised = λ k e d lt. subst (Promise (before past k events) (get_or events k e)) (sym (s.says past is k e d (omega (arith, lt)))) (main (before past k events) (get_or events k e));
      };
    }
