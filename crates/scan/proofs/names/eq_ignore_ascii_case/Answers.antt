use mathlib.Core.Path.{refl, sym, ◌∙◌}
use native.Mathlib.Omega.{arith}
use Rattle.scan.specs.Names.{lower}
use Rattle.scan.proofs.Naming.{folded_agree, agree_lengths, agree_off, agree_on, agree_out}
use Rattle.scan.proofs.names.eq_ignore_ascii_case.Goals as goal

pub returns-then-a-b : goal.returns-then-a-b
returns-then-a-b c =
    sym (folded_agree _ _ ∙ agree_lengths lower c.args.a.now c.args.b.now c.if-a-b.true)

pub loop-i-init : goal.loop-i-init
loop-i-init c =
    refl

pub returns-then-to_ascii_lowercase : goal.returns-then-to_ascii_lowercase
returns-then-to_ascii_lowercase c =
    sym (folded_agree _ _ ∙ (c.loop-i.invariant ∙ agree_off lower c.args.a.now c.args.b.now _ (omega arith) (omega arith)
    (λ e. c.if-to_ascii_lowercase.true (c.to_ascii_lowercase.ensures ∙ (e ∙ sym c.to_ascii_lowercase-in-loop-i.ensures)))))

pub loop-i-preserved : goal.loop-i-preserved
loop-i-preserved c =
    c.loop-i.invariant ∙ agree_on lower c.args.a.now c.args.b.now _ (omega arith) (omega arith)
    (sym c.to_ascii_lowercase.ensures ∙ (c.if-to_ascii_lowercase.false ∙ c.to_ascii_lowercase-in-loop-i.ensures))

pub returns : goal.returns
returns c =
    sym (folded_agree _ _ ∙ (c.loop-i.invariant ∙ agree_out lower c.args.a.now c.args.b.now _ (omega arith) (omega arith)))
