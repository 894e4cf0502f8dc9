-- Whom an event names that is not there. Assumes nothing.
use Rattle.std.specs.Prelude.{Bool, cond, Some, None, Option}
use Rattle.model.specs.declared.Event.{Event}
use Rattle.model.specs.declared.Event.TheVariants.{Day, Bar, AtDesk, Visit, Adversary}
use Rattle.model.specs.declared.Holder.{Holder}
use Rattle.model.specs.declared.Holder.TheVariants.{Card, Lock}

abbrev pub unless : (Holder → Bool) → Holder → Option Holder → Option Holder
unless there h next = cond (there h) next (Some h)

-- the first of an event's card and lock that is not there
abbrev pub missing : (Holder → Bool) → Event → Option Holder
missing there (Day d) = None
missing there (Bar c) = unless there (Card c) None
missing there (AtDesk c) = unless there (Card c) None
missing there (Visit c l) = unless there (Card c) (unless there (Lock l) None)
missing there (Adversary c l says gives) = unless there (Card c) (unless there (Lock l) None)
