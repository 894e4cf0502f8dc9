-- The number of each cause, and of each end of a visit. Assumes nothing.
use Rattle.std.specs.Prelude.{◌≡◌, ℕ, ◌≤◌}
use Rattle.faults.specs.declared.Fault.{Fault}
use Rattle.faults.specs.declared.Fault.TheVariants.{UnknownForm, OutOfRange, WrongSignature, OtherGroup, RunOut, Barred, NotAwaited, OlderList, ListFull, BarredAlready}
use Rattle.faults.specs.declared.VisitEnd.{VisitEnd}
use Rattle.faults.specs.declared.VisitEnd.TheVariants.{Opened, Refused}

abbrev pub fault_number : Fault → ℕ
fault_number UnknownForm = 1
fault_number OutOfRange = 2
fault_number WrongSignature = 3
fault_number OtherGroup = 4
fault_number RunOut = 5
fault_number Barred = 6
fault_number NotAwaited = 7
fault_number OlderList = 8
fault_number ListFull = 9
fault_number BarredAlready = 10

-- an opened door has the number 0, which is no fault's
abbrev pub end_number : VisitEnd → ℕ
end_number Opened = 0
end_number (Refused f) = fault_number f

-- a number tells the cause: no two causes share one, and none has that of an opened door
abbrev pub NumbersTell : Type 0
NumbersTell = ((f g : Fault) → fault_number f ≡ fault_number g → f ≡ g) × ((f : Fault) → (1 ≤ fault_number f) × (fault_number f ≤ 10))
