use Rattle.std.proofs.Common.{ℕ, ◌<◌, ◌/◌, [], length, get_or, w32, ◌∙◌, rules, arith}
use Rattle.std.specs.Int.{from_be_bytes}
use Rattle.compression.proofs.Filled.{filled}
use Rattle.compression.proofs.Schedules.{word_of_chunk, words_are}
use Rattle.compression.proofs.schedule.first_words.Goals as goal

pub returns : goal.returns
returns c =
    let fours = c.as_chunks.result.0.now in
    let items = c.from_fn.ensures.items in
    let enough : (t : ℕ) → t < 16 → t < length c.args.block.now / 4 = λ t h. omega arith in
    words_are c.args.block.now c.from_fn.result items.long
    (λ t h. filled _ _ (λ i. from_be_bytes w32 (get_or fours i [])) 16 (λ i y q l k. search rules) c.from_fn.result items t 0 h
    ∙ word_of_chunk c.args.block.now fours _ t (enough t h) c.as_chunks.ensures.front)
