-- The proofs of the types of specs/Promise.antt. Assumes nothing.
use Rattle.std.proofs.Common.{◌≡◌, ℕ, true, false, ltb, ◌⊎◌, ◌↔◌, List, [], ◌∷◌, ◌++◌, length, take, Ok, Err, Option, Result, sym, refl, ap, ◌∙◌, subst, inl, inr, not-suc-le-zero, arith}
use Rattle.std.proofs.lemmas.Bool.{cases_Bool, cases_lt, both_ways, cond-true, cond-false}
use Rattle.std.proofs.lemmas.List.{length_push, get_or_push}
use Rattle.faults.specs.declared.Fault.{Fault}
use Rattle.faults.specs.declared.Fault.TheVariants.{OutOfRange, Barred, ListFull, BarredAlready}
use Rattle.faults.specs.declared.VisitEnd.{VisitEnd}
use Rattle.faults.specs.declared.VisitEnd.TheVariants.{Opened, Refused}
use Rattle.faults.specs.Numbers.{fault_number, end_number}
use Rattle.lists.specs.Listed.{listed}
use Rattle.lists.proofs.Places.{finds}
use Rattle.office.specs.Desk.{day_after, bar_answer, barred_after}
use Rattle.office.proofs.Bars.{bar_is, full, twice}
use Rattle.visits.specs.Exchange.{newer, heard, comes, decision}
use Rattle.visits.proofs.Heard.{refuses, opens, undecided as heard_nothing}
use Rattle.model.specs.declared.Event.{Event}
use Rattle.model.specs.declared.Event.TheVariants.{Day, Bar, AtDesk, Visit, Adversary}
use Rattle.model.specs.declared.Answer.{Answer}
use Rattle.model.specs.declared.Answer.TheVariants.{Barring, Decided, BrokenOff, NoList}
use Rattle.model.specs.declared.Holder.{Holder}
use Rattle.model.specs.declared.Holder.TheVariants.{Lock}
use Rattle.model.specs.Run.{State, number, has, after_hearing, of_day, of_barring, answer, after}
use Rattle.model.specs.Informed.{BarringOf, Informed, at_desk, card_to_lock, stays}
use Rattle.model.specs.Promise.{Shows, honest, adversary, Ends, Opens, TurnsAway, KnowsBarred, Unmoved, Main, Once, Numbered}
use Rattle.model.proofs.Tables.{put_same, put_again, same_state}
use Rattle.model.proofs.Held.{kept, counted, told}
use Rattle.model.proofs.Rows.{At, at_less, row_stays, row_stays_over, on_list, list_has, row_apart, row_short}

-- a decision has one of the two numbers
same_end : (v w : VisitEnd) → Decided v ≡ Decided w → v ≡ w
same_end v w e = cc

ends_unique : (m n : ℕ) (a : Answer) → Ends m a → Ends n a → m ≡ n
ends_unique m n a p q = sym p.2 ∙ ap end_number (same_end p.0 q.0 (sym p.1 ∙ q.1)) ∙ q.2

-- what the lock decides, by whether the card stands on the list
bars : (c : ℕ) (xs : List ℕ) (a : Answer) → a ≡ Decided (decision c xs) → listed c xs ≡ true → TurnsAway a
bars c xs a e t = (Refused Barred, e ∙ ap Decided (refuses c xs t), refl)

lets : (c : ℕ) (xs : List ℕ) (a : Answer) → a ≡ Decided (decision c xs) → listed c xs ≡ false → Opens a
lets c xs a e f = (Opened, e ∙ ap Decided (opens c xs f), refl)

barred_only : (c : ℕ) (xs : List ℕ) (a : Answer) → a ≡ Decided (decision c xs) → TurnsAway a → listed c xs ≡ true
barred_only c xs a e p =
    elim (cases_Bool (listed c xs)) [
      | inl t ↦ t
      | inr f ↦ let z = ends_unique 6 0 a p (lets c xs a e f) in absurd (omega (arith, z))
    ]

open_only : (c : ℕ) (xs : List ℕ) (a : Answer) → a ≡ Decided (decision c xs) → Opens a → listed c xs ≡ false
open_only c xs a e p =
    elim (cases_Bool (listed c xs)) [
      | inl t ↦ let z = ends_unique 0 6 a p (bars c xs a e t) in absurd (omega (arith, z))
      | inr f ↦ f
    ]

-- a visit that comes to the decision is decided by the lock's list as it is then
decided_by : (es : List Event) {e : Event} {c l : ℕ} → Shows (after es) e c l →
    answer e (after es) ≡ Decided (decision c (take (number (Lock l) (after (e ∷ es))) (after (e ∷ es)).barred))
unfolding after
decided_by es (honest c l) =
    ap (λ (n : ℕ). Decided (decision c (take n (after es).barred))) (sym (put_same l (newer ((after es).card c) ((after es).lock l)) (after es).lock))
decided_by es (adversary c l says gives t u) =
    cond-true (has gives (after es)) _ NoList t ∙ cond-true (comes ((after es).lock l) says gives) _ BrokenOff u ∙
    ap (λ (n : ℕ). Decided (decision c (take n (after es).barred))) (sym (put_same l (after_hearing l says gives (after es)) (after es).lock))

-- the lock knows the card to be barred exactly if the card stands on its list
knows : (es : List Event) (c l : ℕ) → listed c (take (number (Lock l) (after es)) (after es).barred) ≡ true → KnowsBarred es c l
knows es c l t = let w = on_list c (number (Lock l) (after es)) (after es).barred t in (w.0, w.1, told w.0 es (Lock l) w.2)

known : (es : List Event) (c l : ℕ) → KnowsBarred es c l → listed c (take (number (Lock l) (after es)) (after es).barred) ≡ true
known es c l k = list_has c (number (Lock l) (after es)) (after es).barred k.0 k.1 (counted k.2)

unknown : (es : List Event) (c l : ℕ) → (KnowsBarred es c l → ⊥) → listed c (take (number (Lock l) (after es)) (after es).barred) ≡ false
unknown es c l none =
    elim (cases_Bool (listed c (take (number (Lock l) (after es)) (after es).barred))) [ inl t ↦ absurd (none (knows es c l t)) | inr f ↦ f ]

-- a visit makes no barring
same_row : (es : List Event) {e : Event} {c l : ℕ} → Shows (after es) e c l → (after (e ∷ es)).barred ≡ (after es).barred
unfolding after
same_row es (honest c l) = refl
same_row es (adversary c l says gives t u) = refl

module _ (es : List Event) (e : Event) where
  list_at : ℕ → List ℕ
  list_at l = take (number (Lock l) (after (e ∷ es))) (after (e ∷ es)).barred

  either : (c l : ℕ) → Shows (after es) e c l → TurnsAway (answer e (after es)) ⊎ Opens (answer e (after es))
  unfolding list_at
  either c l sh =
      elim (cases_Bool (listed c (list_at l))) [
        | inl t ↦ inl (bars c (list_at l) _ (decided_by es sh) t)
        | inr f ↦ inr (lets c (list_at l) _ (decided_by es sh) f)
      ]

  turned_away : (c l : ℕ) → Shows (after es) e c l → (TurnsAway (answer e (after es)) ↔ KnowsBarred (e ∷ es) c l)
  unfolding list_at
  turned_away c l sh =
      (λ p. knows (e ∷ es) c l (barred_only c (list_at l) _ (decided_by es sh) p), λ k. bars c (list_at l) _ (decided_by es sh) (known (e ∷ es) c l k))

  let_in : (c l : ℕ) → Shows (after es) e c l → (Opens (answer e (after es)) ↔ (KnowsBarred (e ∷ es) c l → ⊥))
  unfolding list_at
  let_in c l sh =
      (λ p k. both_ways _ (open_only c (list_at l) _ (decided_by es sh) p) (known (e ∷ es) c l k), λ none. lets c (list_at l) _ (decided_by es sh) (unknown (e ∷ es) c l none))

  never_barred : (c l : ℕ) → Shows (after es) e c l → ((r : ℕ) → BarringOf r c es → ⊥) → Opens (answer e (after es))
  never_barred c l sh none = (let_in c l sh).1 (λ k. none k.0 (subst (At k.0 c) (same_row es sh) k.1))

-- who was informed stays so over many events
stays_over : (later : List Event) {es : List Event} {r : ℕ} {h : Holder} → Informed r es h → Informed r (later ++ es) h
stays_over [] i = i
stays_over (e ∷ later) i = stays e (stays_over later i)

-- a card that was at the desk since the barring informed the lock for ever
one_visit : (before between later : List Event) (d l c r : ℕ) (e : Event) → BarringOf r c before →
    Shows (after (later ++ (Visit d l ∷ between ++ (AtDesk d ∷ before)))) e c l →
    TurnsAway (answer e (after (later ++ (Visit d l ∷ between ++ (AtDesk d ∷ before)))))
one_visit before between later d l c r e of sh =
    let seen : List Event = later ++ (Visit d l ∷ between ++ (AtDesk d ∷ before)) in
    let word : Informed r seen (Lock l) = stays_over later (card_to_lock d l (stays_over between (at_desk d of.0))) in
    let row : BarringOf r c seen = row_stays_over later _ r c (row_stays (between ++ (AtDesk d ∷ before)) (Visit d l) r c (row_stays_over between _ r c (row_stays before (AtDesk d) r c of))) in
    (turned_away seen e c l sh).1 (r, row_stays seen e r c row, stays e word)

one_visit_at : (es before between later : List Event) (d l c r : ℕ) (e : Event) → es ≡ later ++ (Visit d l ∷ between ++ (AtDesk d ∷ before)) →
    BarringOf r c before → Shows (after es) e c l → TurnsAway (answer e (after es))
one_visit_at es before between later d l c r e is of sh =
    subst (λ (x : List Event). TurnsAway (answer e (after x))) (sym is) (one_visit before between later d l c r e of (subst (λ (x : List Event). Shows (after x) e c l) is sh))

-- the answers of one kind are not of another
not_refused : (r : ℕ) (f : Fault) (a : Answer) → a ≡ Barring r → a ≡ Answer.Refused f → ⊥
not_refused r f a p q = let z : ◌≡◌ {A = ℕ} 0 1 = cc in omega arith

-- a lock that came to no decision has what it had
heard_none : (s : State) (c l says : ℕ) (gives : Option ℕ) → Unmoved (answer (Adversary c l says gives) s) → after_hearing l says gives s ≡ s.lock l
heard_none s c l says gives un =
    elim (cases_Bool (has gives s)) [
      | inl t ↦ elim (cases_Bool (comes (s.lock l) says gives)) [
        | inl u ↦ absurd (subst Unmoved (cond-true (has gives s) _ NoList t ∙ cond-true (comes (s.lock l) says gives) _ BrokenOff u) un)
        | inr f ↦ cond-true (has gives s) _ (s.lock l) t ∙ heard_nothing (s.lock l) says gives f
      ]
      | inr f ↦ cond-false (has gives s) (heard (s.lock l) says gives) (s.lock l) f
    ]

-- the desk's answer to a barring
answered : (c : ℕ) (s : State) (x : Result ℕ Fault) → bar_answer c s.barred ≡ x → answer (Bar c) s ≡ of_barring x
answered c s x e = ap of_barring e

second : (es : List Event) (c r : ℕ) → BarringOf r c es →
    (f : Fault) × (answer (Bar c) (after es) ≡ Answer.Refused f) × ((fault_number f ≡ 10) ⊎ ((fault_number f ≡ 9) × (length (after es).barred ≡ 1024)))
second es c r p =
    elim (cases_lt (length (after es).barred) 1024) [
      | inl lt ↦ (BarredAlready, answered c (after es) _ (twice c (after es).barred lt (finds c (after es).barred r p.0 p.1)).0, inl refl)
      | inr le ↦ (ListFull, answered c (after es) _ (full c (after es).barred le).0, inr (refl, omega (arith, row_short es)))
    ]

refused_row : (s : State) (c : ℕ) → Unmoved (answer (Bar c) s) → barred_after c s.barred ≡ s.barred
refused_row s c un =
    elim (bar_is c s.barred) [
      | inl p ↦ p.2
      | inr p ↦ absurd (subst Unmoved (answered c s _ p.2) un)
    ]

refused_day : (s : State) (d : ℕ) → Unmoved (answer (Day d) s) → day_after d s.day ≡ s.day
refused_day s d un =
    elim (cases_Bool (ltb d s.day)) [
      | inl t ↦ cond-true (ltb d s.day) s.day d t
      | inr f ↦ absurd (subst Unmoved (ap of_day (cond-false (ltb d s.day) (Err OutOfRange) (Ok tt) f)) un)
    ]

unchanged : (es : List Event) (e : Event) → Unmoved (answer e (after es)) → after (e ∷ es) ≡ after es
unfolding after
unchanged es (Day d) un = same_state (refused_day (after es) d un) refl (λ c. refl) (λ l. refl)
unchanged es (Bar c) un = same_state refl (refused_row (after es) c un) (λ c. refl) (λ l. refl)
unchanged es (AtDesk c) un = absurd un
unchanged es (Visit c l) un = absurd un
unchanged es (Adversary c l says gives) un =
    same_state refl refl (λ c. refl) (put_again l (after_hearing l says gives (after es)) (after es).lock (heard_none (after es) c l says gives un))

pub main : Main
main es e = record {
  either = either es e;
  turned_away = turned_away es e;
  let_in = let_in es e;
  never_barred = never_barred es e;
  one_visit = λ before between later d l c r. one_visit_at es before between later d l c r e;
  exact = λ r h. (told r (e ∷ es) h, λ i. counted i);
  kept = kept es e;
  made = row_stays es e;
  unchanged = unchanged es e;
}

pub once_only : Once
once_only es c q r = (row_apart es c q r, second es c r)

-- where a barring comes from
abbrev Came : List Event → ℕ → ℕ → Type 0
Came es r c = (later : List Event) × (earlier : List Event) × (es ≡ later ++ (Bar c ∷ earlier)) × (answer (Bar c) (after earlier) ≡ Barring r)

came_later : (e : Event) (es : List Event) (r c : ℕ) → Came es r c → Came (e ∷ es) r c
came_later e es r c w = (e ∷ w.0, w.1, ap {B = List Event} (λ l. e ∷ l) w.2, w.3)

came_now : (es : List Event) (d r c : ℕ) → (At r c (after es).barred → Came es r c) → At r c (barred_after d (after es).barred) → Came (Bar d ∷ es) r c
came_now es d r c ih p =
    elim (bar_is d (after es).barred) [
      | inl q ↦ came_later (Bar d) es r c (ih (subst (At r c) q.2 p))
      | inr q ↦ elim (at_less d (after es).barred r c (subst (At r c) q.3 p)) [
        | inl a ↦ came_later (Bar d) es r c (ih a)
        | inr a ↦ ([], es, ap (λ (x : ℕ). Bar x ∷ es) (sym a.1), rw a.1 (answered d (after es) _ q.2 ∙ ap Barring (sym a.0)))
      ]
    ]

came : (es : List Event) (r c : ℕ) → BarringOf r c es → Came es r c
unfolding after
came [] r c p = absurd (not-suc-le-zero p.0)
came (Day d ∷ es) r c p = came_later (Day d) es r c (came es r c p)
came (Bar d ∷ es) r c p = came_now es d r c (came es r c) p
came (AtDesk d ∷ es) r c p = came_later (AtDesk d) es r c (came es r c p)
came (Visit d l ∷ es) r c p = came_later (Visit d l) es r c (came es r c p)
came (Adversary d l says gives ∷ es) r c p = came_later (Adversary d l says gives) es r c (came es r c p)

same_number : (q r : ℕ) → Barring q ≡ Barring r → q ≡ r
same_number q r e = cc

made_then : (es : List Event) (r c : ℕ) → answer (Bar c) (after es) ≡ Barring r → BarringOf r c (Bar c ∷ es)
unfolding after
made_then es r c e =
    elim (bar_is c (after es).barred) [
      | inl p ↦ absurd (not_refused r p.0 _ e (answered c (after es) _ p.1))
      | inr p ↦ let n : length (after es).barred ≡ r = same_number _ r (sym (answered c (after es) _ p.2) ∙ e) in
          rw p.3 (omega (arith, n, length_push (after es).barred c), get_or_push (after es).barred c 0 r n)
    ]

pub numbered : Numbered
numbered es r c =
    (came es r c, λ w. subst (λ (l : List Event). BarringOf r c l) (sym w.2) (row_stays_over w.0 _ r c (made_then w.1 r c w.3)))
