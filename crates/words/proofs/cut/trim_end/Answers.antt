use Rattle.std.proofs.Common.{◌≡◌, ℕ, ◌<◌, true, false, length, get_or, rules}
use Rattle.words.specs.Lines.{is_blank}
use Rattle.words.proofs.Cuts.{back_to}
use Rattle.words.proofs.cut.trim_end.Goals as goal

pub returns-in-Some : goal.returns-in-Some
returns-in-Some c =
    let within : c.in-Some.last < length c.args.text.now = search rules in
    let said : is_blank (get_or c.args.text.now c.in-Some.last 0) ≡ false = search rules in
    let blank : (k : ℕ) → c.in-Some.last < k → k < length c.args.text.now → is_blank (get_or c.args.text.now k 0) ≡ true = search rules in
    back_to _ _ within said blank
