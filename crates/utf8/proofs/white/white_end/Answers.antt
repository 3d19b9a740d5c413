use mathlib.Core.Path.{sym, ◌∙◌}
use native.Mathlib.Omega.{arith}
use borrow.Author.Rules.{rules}
use Rattle.utf8.proofs.WhiteLaws.{white_end-here, white_end-on, white_end-out}
use Rattle.utf8.proofs.white.white_end.Goals as goal

pub returns-then-width-eq0 : goal.returns-then-width-eq0
returns-then-width-eq0 c =
    record {
      is = sym (c.loop-i.invariant.2 ∙ white_end-here c.args.src.now _ c.loop-i-test.true (sym
          c.white_at-width.ensures.is ∙ c.if-width-eq0.true));
      after = search rules;
      within_text = search rules;
      stops =
          λ h. sym c.white_at-width.ensures.is ∙ c.if-width-eq0.true;
    }

pub loop-i-preserved : goal.loop-i-preserved
loop-i-preserved c =
    let e = c.white_at-width.ensures.is in (
      search rules,
      search rules,
      c.loop-i.invariant.2 ∙ (white_end-on c.args.src.now _ c.loop-i-test.true (λ z. c.if-width-eq0.false (e
          ∙ z)) ∙ rw e),
    )

pub returns : goal.returns
returns c =
    record {
      is = sym (c.loop-i.invariant.2 ∙ white_end-out c.args.src.now _
          c.loop-i-test.false);
      after = search rules;
      within_text = search rules;
      stops = λ h. absurd (omega arith);
    }
