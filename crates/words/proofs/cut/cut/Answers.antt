use Rattle.std.proofs.Common.{◌≡◌, ◌≢◌, ℕ, ◌<◌, length, get_or, rules}
use Rattle.words.proofs.Cuts.{cut_found}
use Rattle.words.proofs.cut.cut.Goals as goal

pub returns-in-Some : goal.returns-in-Some
returns-in-Some c =
    let within : c.in-Some.i < length c.args.text.now = search rules in
    let found : get_or c.args.text.now c.in-Some.i 0 ≡ c.args.at = search rules in
    let none : (k : ℕ) → k < c.in-Some.i → get_or c.args.text.now k 0 ≢ c.args.at = search rules in
    cut_found _ _ _ within found none
