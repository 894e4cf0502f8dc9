-- What the desk answers to a barring, case by case. Assumes nothing.
use Rattle.std.proofs.Common.{◌≡◌, ℕ, ◌<◌, ◌≤◌, true, false, ltb, leb, ◌⊎◌, List, [], ◌∷◌, ◌++◌, length, Ok, Err, inl, inr}
use Rattle.std.proofs.lemmas.Bool.{lt-ltb, le-ltb, cases_lt, cases_Bool, and_parts, ltb-true, leb-true}
use Rattle.faults.specs.declared.Fault.{Fault}
use Rattle.faults.specs.declared.Fault.TheVariants.{ListFull, BarredAlready}
use Rattle.lists.specs.Listed.{listed}
use Rattle.office.specs.Desk.{bar_answer, barred_after, signed}

pub full : (c : ℕ) (bars : List ℕ) → 1024 ≤ length bars → (bar_answer c bars ≡ Err ListFull) × (barred_after c bars ≡ bars)
unfolding bar_answer barred_after
full c bars le = let e = le-ltb (length bars) 1024 le in (rw e, rw e)

pub twice : (c : ℕ) (bars : List ℕ) → length bars < 1024 → listed c bars ≡ true → (bar_answer c bars ≡ Err BarredAlready) × (barred_after c bars ≡ bars)
unfolding bar_answer barred_after
twice c bars lt t = let e = lt-ltb (length bars) 1024 lt in (rw (e, t), rw (e, t))

pub once : (c : ℕ) (bars : List ℕ) → length bars < 1024 → listed c bars ≡ false →
    (bar_answer c bars ≡ Ok (length bars)) × (barred_after c bars ≡ bars ++ (c ∷ []))
unfolding bar_answer barred_after
once c bars lt f = let e = lt-ltb (length bars) 1024 lt in (rw (e, f), rw (e, f))

-- a barring is refused, and nothing changes; or the card, which stood nowhere yet, is the next in the row
pub bar_is : (c : ℕ) (bars : List ℕ) →
    ((f : Fault) × (bar_answer c bars ≡ Err f) × (barred_after c bars ≡ bars)) ⊎
    ((length bars < 1024) × (listed c bars ≡ false) × (bar_answer c bars ≡ Ok (length bars)) × (barred_after c bars ≡ bars ++ (c ∷ [])))
bar_is c bars =
    elim (cases_lt (length bars) 1024) [
      | inl lt ↦ elim (cases_Bool (listed c bars)) [
        | inl t ↦ let p = twice c bars lt t in inl (BarredAlready, p.0, p.1)
        | inr f ↦ let p = once c bars lt f in inr (lt, f, p.0, p.1)
      ]
      | inr le ↦ let p = full c bars le in inl (ListFull, p.0, p.1)
    ]

pub signed_is : (t : ℕ) (bars : List ℕ) → signed t bars ≡ true → (0 < t) × (t ≤ length bars)
unfolding signed
signed_is t bars h = let p = and_parts (ltb 0 t) (leb t (length bars)) h in (ltb-true 0 t p.0, leb-true t (length bars) p.1)
