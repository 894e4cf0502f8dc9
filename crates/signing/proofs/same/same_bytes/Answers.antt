use Rattle.std.proofs.Common.{rules}
use Rattle.std.proofs.lemmas.Iterator.{YieldsList-from_slice, YieldsList-from_zip}
use Rattle.std.proofs.lemmas.Iterator.Consumers.{fold_from_yields_List}
use Rattle.signing.proofs.Comparing.{differs, told_apart, told_by}
use Rattle.signing.proofs.same.same_bytes.Goals as goal

pub returns : goal.returns
returns c =
    let a = c.args.a.now in
    let b = c.args.b.now in
    let by_fold =
    fold_from_yields_List _ differs 0 c.fold.result c.fold.ensures.ran (YieldsList-from_zip (YieldsList-from_slice a cc) (YieldsList-from_slice b cc))
    (λ d x e q k. search rules) in
    let t = told_by c.fold.result a b c.if-a-b.false by_fold in
    record { value = t.value; equal = t.equal }

pub returns-then-a-b : goal.returns-then-a-b
returns-then-a-b c =
    let t = told_apart c.args.a.now c.args.b.now c.if-a-b.true in
    record { value = t.value; equal = t.equal }
