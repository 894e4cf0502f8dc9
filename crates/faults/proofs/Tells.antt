-- The cause that a number tells. Assumes nothing.
use mathlib.Core.Path.{◌≡◌, refl, sym, ap, ◌∙◌}
use mathlib.Core.Bool.{cond}
use Prim.Native.Nat.{ℕ, ◌≤◌}
use lib.Dec.{eqb, lit≤}
use Rattle.faults.specs.declared.Fault.{Fault}
use Rattle.faults.specs.declared.Fault.TheVariants.{UnknownForm, OutOfRange, WrongSignature, OtherGroup, RunOut, Barred, NotAwaited, OlderList, ListFull, BarredAlready}
use Rattle.faults.specs.Numbers.{fault_number, NumbersTell}

abbrev cause : ℕ → Fault
cause n =
    cond (eqb n 1) UnknownForm (cond (eqb n 2) OutOfRange (cond (eqb n 3) WrongSignature (cond (eqb n 4) OtherGroup (cond (eqb n 5) RunOut (cond (eqb n 6) Barred (cond (eqb n 7) NotAwaited (cond (eqb n 8) OlderList (cond (eqb n 9) ListFull BarredAlready))))))))

back : (f : Fault) → cause (fault_number f) ≡ f
back UnknownForm = refl
back OutOfRange = refl
back WrongSignature = refl
back OtherGroup = refl
back RunOut = refl
back Barred = refl
back NotAwaited = refl
back OlderList = refl
back ListFull = refl
back BarredAlready = refl

within : (f : Fault) → (1 ≤ fault_number f) × (fault_number f ≤ 10)
within UnknownForm = (lit≤ tt, lit≤ tt)
within OutOfRange = (lit≤ tt, lit≤ tt)
within WrongSignature = (lit≤ tt, lit≤ tt)
within OtherGroup = (lit≤ tt, lit≤ tt)
within RunOut = (lit≤ tt, lit≤ tt)
within Barred = (lit≤ tt, lit≤ tt)
within NotAwaited = (lit≤ tt, lit≤ tt)
within OlderList = (lit≤ tt, lit≤ tt)
within ListFull = (lit≤ tt, lit≤ tt)
within BarredAlready = (lit≤ tt, lit≤ tt)

pub tells : NumbersTell
tells = (λ f g e. sym (back f) ∙ ap cause e ∙ back g, within)
