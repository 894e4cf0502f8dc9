use Rattle.std.proofs.Common.{◌≡◌, length, sym, ap, ◌∙◌, rules}
use Rattle.compression.specs.Parts.{following, rounds_from}
use Rattle.compression.proofs.Schedules.{sixteen, written}
use Rattle.compression.proofs.Turns.{turn, sixteen_turns}
use Rattle.compression.proofs.rounds.sixteen_rounds.Goals as goal

pub returns : goal.returns
returns g c =
    let w = c.args.w.now in
    let long : length w ≡ 16 = search rules in
    let out = sym (sixteen w long) in
    record {
      state =
          sixteen_turns g.row.T c.args.s _ _ _ _ _ _ _ _ _ _ _ _ _ _ _ _ _ _ _ _ _ _ _ _ _ _ _ _ _ _ _ _
          (turn _ _ _ _ _ c.round_constant.ensures c.step-w0.ensures.state) (turn _ _ _ _ _ c.round_constant-2.ensures c.step-w1.ensures.state) (turn _ _ _ _ _ c.round_constant-3.ensures c.step-w2.ensures.state) (turn _ _ _ _ _ c.round_constant-4.ensures c.step-w3.ensures.state)
          (turn _ _ _ _ _ c.round_constant-5.ensures c.step-w4.ensures.state) (turn _ _ _ _ _ c.round_constant-6.ensures c.step-w5.ensures.state) (turn _ _ _ _ _ c.round_constant-7.ensures c.step-w6.ensures.state) (turn _ _ _ _ _ c.round_constant-8.ensures c.step-w7.ensures.state)
          (turn _ _ _ _ _ c.round_constant-9.ensures c.step-w8.ensures.state) (turn _ _ _ _ _ c.round_constant-10.ensures c.step-w9.ensures.state) (turn _ _ _ _ _ c.round_constant-11.ensures c.step-w10.ensures.state) (turn _ _ _ _ _ c.round_constant-12.ensures c.step-w11.ensures.state)
          (turn _ _ _ _ _ c.round_constant-13.ensures c.step-w12.ensures.state) (turn _ _ _ _ _ c.round_constant-14.ensures c.step-w13.ensures.state) (turn _ _ _ _ _ c.round_constant-15.ensures c.step-w14.ensures.state) (turn _ _ _ _ _ c.round_constant-16.ensures c.step-w15.ensures.state)
          ∙ ap (λ v. rounds_from g.row.T v 16 c.args.s) out;
      words =
          written _ _ _ _ _ _ _ _ _ _ _ _ _ _ _ _ _ _ _ _ _ _ _ _ _ _ _ _ _ _ _ _
          c.step-w0.ensures.word c.step-w1.ensures.word c.step-w2.ensures.word c.step-w3.ensures.word
          c.step-w4.ensures.word c.step-w5.ensures.word c.step-w6.ensures.word c.step-w7.ensures.word
          c.step-w8.ensures.word c.step-w9.ensures.word c.step-w10.ensures.word c.step-w11.ensures.word
          c.step-w12.ensures.word c.step-w13.ensures.word c.step-w14.ensures.word c.step-w15.ensures.word
          ∙ ap following out;
    }
