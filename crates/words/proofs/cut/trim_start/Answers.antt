use Rattle.std.proofs.Common.{◌≡◌, ℕ, ◌<◌, true, false, length, get_or, ◌∙◌, rules}
use Rattle.std.proofs.lemmas.List.{take_rest}
use Rattle.words.specs.Lines.{is_blank}
use Rattle.words.proofs.Cuts.{front_from}
use Rattle.words.proofs.cut.trim_start.Goals as goal

pub returns-in-Some : goal.returns-in-Some
returns-in-Some c =
    let within : c.in-Some.first < length c.args.text.now = search rules in
    let said : is_blank (get_or c.args.text.now c.in-Some.first 0) ≡ false = search rules in
    let blank : (k : ℕ) → k < c.in-Some.first → is_blank (get_or c.args.text.now k 0) ≡ true = search rules in
    take_rest c.args.text.now c.in-Some.first ∙ front_from _ _ within said blank
