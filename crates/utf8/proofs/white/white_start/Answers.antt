use mathlib.Core.Path.{◌≡◌, refl, sym, ◌∙◌}
use native.Mathlib.Omega.{arith}
use borrow.Author.Rules.{rules}
use Rattle.utf8.specs.Steps.{white_back, white_start}
use Rattle.utf8.proofs.WhiteLaws.{white_back-here, white_back-on, white_back-zero}
use Rattle.utf8.proofs.white.white_start.Goals as goal

pub loop-i-init : goal.loop-i-init
unfolding white_back white_start
loop-i-init c =
    (search rules, refl)

pub returns-then-width-eq0 : goal.returns-then-width-eq0
returns-then-width-eq0 c =
    (sym (c.loop-i.invariant.1 ∙ white_back-here c.args.src.now _ (sym c.white_before-width.ensures.is ∙ c.if-width-eq0.true)), search rules)

pub loop-i-preserved : goal.loop-i-preserved
loop-i-preserved c =
    let e = c.white_before-width.ensures.is in
    (search rules, c.loop-i.invariant.1 ∙ (white_back-on c.args.src.now _ (λ z. c.if-width-eq0.false (e ∙ z)) ∙ rw e))

pub returns : goal.returns
returns c =
    let z : c.loop-i.i ≡ 0 = omega arith in
    (sym (c.loop-i.invariant.1 ∙ white_back-zero c.args.src.now _ z), search rules)
