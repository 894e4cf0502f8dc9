-- What commands set up, and when a command may stand on a line. Assumes nothing.
use Rattle.std.specs.Prelude.{◌≡◌, ℕ, Bool, false, cond, ◌⊎◌, List, [], ◌∷◌, ◌++◌, Some, None, Ok, Err, Option, Result, ◌==◌}
use Rattle.std.specs.List.{flat_map, list_any}
use Rattle.std.specs.Option.{option_to_list}
use Rattle.model.specs.declared.Event.{Event}
use Rattle.model.specs.declared.Holder.{Holder}
use Rattle.model.specs.declared.Holder.TheVariants.{Card as CardHolder, Lock as LockHolder}
use Rattle.commands.specs.declared.command.Command.{Command}
use Rattle.commands.specs.declared.command.Command.TheVariants.{Lock, Card, Day, Bar, Desk, Visit, Thief}
use Rattle.words.specs.declared.wrong.Wrong.{Wrong}
use Rattle.words.specs.declared.wrong.Wrong.TheVariants.{NoSuchCard, NoSuchLock, SetUpAlready}
use Rattle.commands.specs.Plays.{set_up_by, event_of}
use Rattle.words.specs.Lines.{bare_of}
use Rattle.words.specs.Words.{words_of}
use Rattle.commands.specs.Commands.{parsed}

-- ---- the cards and the locks that commands set up, and the events that they play, in order

abbrev pub holders_of : List Command → List Holder
holders_of ks = flat_map (λ k. option_to_list (set_up_by k)) ks

abbrev pub events_of : List Command → List Event
events_of ks = flat_map (λ k. option_to_list (event_of k)) ks

-- ---- what may come after the cards and the locks that are set up

abbrev pub same : Holder → Holder → Bool
same (CardHolder a) (CardHolder b) = a == b
same (CardHolder a) (LockHolder b) = false
same (LockHolder a) (CardHolder b) = false
same (LockHolder a) (LockHolder b) = a == b

abbrev pub has : Holder → List Holder → Bool
has h hs = list_any (λ g. same g h) hs

abbrev pub is_new : List Holder → Holder → Result (Unit {0}) Wrong
is_new hs h = cond (has h hs) (Err SetUpAlready) (Ok tt)

abbrev pub not_set_up : Holder → Wrong
not_set_up (CardHolder c) = NoSuchCard c
not_set_up (LockHolder l) = NoSuchLock l

abbrev pub known : List Holder → Holder → Result (Unit {0}) Wrong
known hs h = cond (has h hs) (Ok tt) (Err (not_set_up h))

abbrev pub when_ok : {X Y : Type 0} → Result X Wrong → (X → Result Y Wrong) → Result Y Wrong
when_ok (Ok x) f = f x
when_ok (Err w) f = Err w

abbrev pub known_both : List Holder → ℕ → ℕ → Result (Unit {0}) Wrong
known_both hs c l = when_ok (known hs (CardHolder c)) (λ _. known hs (LockHolder l))

abbrev pub checked : List Holder → Command → Result (Unit {0}) Wrong
checked hs (Lock l) = is_new hs (LockHolder l)
checked hs (Card c) = is_new hs (CardHolder c)
checked hs (Day d) = Ok tt
checked hs (Bar c) = known hs (CardHolder c)
checked hs (Desk c) = known hs (CardHolder c)
checked hs (Visit c l) = known_both hs c l
checked hs (Thief c l s g) = known_both hs c l

abbrev pub command_in : List Holder → List ℕ → Result (Option Command) Wrong
command_in hs [] = Ok None
command_in hs (b ∷ bs) = when_ok (parsed (words_of (b ∷ bs))) (λ k. when_ok (checked hs k) (λ _. Ok (Some k)))

abbrev pub command_on : List Holder → List ℕ → Result (Option Command) Wrong
command_on hs l = command_in hs (bare_of l)

-- ---- the same in words of the script: a card or a lock is set up once, and above the commands that name it

abbrev pub Above : Command → List Command → Type 0
Above k [] = ⊥
Above k (j ∷ js) = (k ≡ j) ⊎ Above k js

abbrev pub Ready : List Command → Command → Type 0
Ready above (Lock l) = Above (Lock l) above → ⊥
Ready above (Card c) = Above (Card c) above → ⊥
Ready above (Day d) = Unit {0}
Ready above (Bar c) = Above (Card c) above
Ready above (Desk c) = Above (Card c) above
Ready above (Visit c l) = Above (Card c) above × Above (Lock l) above
Ready above (Thief c l s g) = Above (Card c) above × Above (Lock l) above

-- each command is ready after those above it
abbrev pub InOrder : List Command → List Command → Type 0
InOrder above [] = Unit {0}
InOrder above (k ∷ ks) = Ready above k × InOrder (above ++ k ∷ []) ks
