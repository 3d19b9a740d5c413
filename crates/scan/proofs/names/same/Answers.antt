use mathlib.Core.Path.{refl, sym, ◌∙◌}
use native.Mathlib.Omega.{arith}
use Rattle.scan.proofs.Naming.{itself, same_agree, agree_lengths, agree_off, agree_on, agree_out}
use Rattle.scan.proofs.names.same.Goals as goal

pub returns-then-a-b : goal.returns-then-a-b
returns-then-a-b c =
    sym (same_agree _ _ ∙ agree_lengths itself c.args.a.now c.args.b.now c.if-a-b.true)

pub loop-i-init : goal.loop-i-init
loop-i-init c =
    refl

pub returns-then-a-i : goal.returns-then-a-i
returns-then-a-i c =
    sym (same_agree _ _ ∙ (c.loop-i.invariant ∙ agree_off itself c.args.a.now c.args.b.now _ (omega arith) (omega arith)
    c.if-a-i.true))

pub loop-i-preserved : goal.loop-i-preserved
loop-i-preserved c =
    c.loop-i.invariant ∙ agree_on itself c.args.a.now c.args.b.now _ (omega arith) (omega arith) c.if-a-i.false

pub returns : goal.returns
returns c =
    sym (same_agree _ _ ∙ (c.loop-i.invariant ∙ agree_out itself c.args.a.now c.args.b.now _ (omega arith) (omega arith)))
