-- What a command sets up, or plays. Assumes nothing.
use Rattle.std.specs.Prelude.{Some, None, Option}
use Rattle.std.specs.Option.{unwrap_or}
use Rattle.model.specs.declared.Event.{Event}
use Rattle.model.specs.declared.Event.TheVariants.{Day as OnDay, Bar as BarCard, AtDesk, Visit as HonestVisit, Adversary}
use Rattle.model.specs.declared.Holder.{Holder}
use Rattle.model.specs.declared.Holder.TheVariants.{Card as CardHolder, Lock as LockHolder}
use Rattle.commands.specs.declared.command.Command.{Command}
use Rattle.commands.specs.declared.command.Command.TheVariants.{Lock, Card, Day, Bar, Desk, Visit, Thief}

-- the card or the lock that a command sets up
abbrev pub set_up_by : Command → Option Holder
set_up_by (Lock l) = Some (LockHolder l)
set_up_by (Card c) = Some (CardHolder c)
set_up_by (Day d) = None
set_up_by (Bar c) = None
set_up_by (Desk c) = None
set_up_by (Visit c l) = None
set_up_by (Thief c l s g) = None

-- a thief that says nothing of a list says 0
abbrev pub event_of : Command → Option Event
event_of (Lock l) = None
event_of (Card c) = None
event_of (Day d) = Some (OnDay d)
event_of (Bar c) = Some (BarCard c)
event_of (Desk c) = Some (AtDesk c)
event_of (Visit c l) = Some (HonestVisit c l)
event_of (Thief c l s g) = Some (Adversary c l (unwrap_or s 0) g)
