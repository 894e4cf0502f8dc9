use Rattle.std.proofs.Common.{◌≡◌, ◌<◌, bit_xor, map, length, get_or, sym, ◌∙◌, arith, rules}
use Rattle.std.proofs.lemmas.List.{ext_get_or, get_or-map, length-map}
use Rattle.compression.proofs.Filled.{filled}
use Rattle.digest.proofs.hmac.mask.Goals as goal

pub returns : goal.returns
returns c =
    let block = c.args.block in
    let long : length c.args.block ≡ 64 = search rules in
    let items = c.from_fn.ensures.items in
    let as_long : length (map (λ b. bit_xor b c.args.pad) block) ≡ 64 = simp length-map long in
    ext_get_or 0 c.from_fn.result (map (λ b. bit_xor b c.args.pad) block) (items.long ∙ sym as_long)
    (λ i h.
    let within : i < 64 = omega (arith, items.long) in
    filled _ _ (λ i. bit_xor (get_or block i 0) c.args.pad) 64 (λ i y q l k. search rules) c.from_fn.result items i 0 within
    ∙ sym (get_or-map (λ b. bit_xor b c.args.pad) block i 0 0 (omega (arith, long))))
