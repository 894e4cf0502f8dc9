use Rattle.std.proofs.Common.{◌+◌, ◌++◌, length, take, drop, ap, ◌∙◌, rules, arith}
use Rattle.digest.proofs.Parts.{kept, processes, taken}
use Rattle.digest.proofs.hasher.Hasher.take.Goals as goal

pub returns-then-used-eq0 : goal.returns-then-used-eq0
returns-then-used-eq0 c = λ m t.
    let self = c.args.self.now in
    processes self.state c.process-self.result self.count self.pending c.put.new.out m c.args.part.now c.as_chunks.result.1.now (search rules) (search rules) t
    c.as_chunks.ensures.back c.put.ensures c.process-self.ensures

pub returns-in-Some : goal.returns-in-Some
returns-in-Some c = λ m t.
    let self = c.args.self.now in
    let split = c.in-Some.ensures.cases in
    taken self.state c.process.result c.process-self-in-Some.result self.count c.used-used.result self.pending c.put-in-Some.new.out c.put-in-Some-2.new.out
    m c.args.part.now c.in-Some.end.now c.in-Some.rest.now c.as_chunks-in-Some.result.1.now (search rules) c.used-used.ensures
    split.1 split.2 split.3 t c.put-in-Some.ensures c.process.ensures c.as_chunks-in-Some.ensures.back c.put-in-Some-2.ensures c.process-self-in-Some.ensures

pub returns-in_default : goal.returns-in_default
returns-in_default c = λ m t.
    let self = c.args.self.now in
    let old = self.pending in
    let part = c.args.part.now in
    let short = c.in_default.ensures.cases in
    let used = c.used-used.ensures in
    kept self.state self.count old c.put-in_default.new.out m part (search rules) (omega arith) t
    (c.put-in_default.ensures ∙ ap (λ k. take k old ++ (part ++ drop (k + length part) old)) used)
