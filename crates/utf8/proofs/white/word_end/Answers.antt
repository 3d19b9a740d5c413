use mathlib.Core.Path.{◌≡◌, sym, ◌∙◌}
use native.Mathlib.Omega.{arith}
use lib.ListN.{length}
use borrow.Author.Rules.{rules}
use Rattle.utf8.proofs.WhiteLaws.{word_end-here, word_end-on, word_end-out}
use Rattle.utf8.proofs.white.word_end.Goals as goal

pub returns-then-white_at-ne0 : goal.returns-then-white_at-ne0
returns-then-white_at-ne0 c = (
  sym (c.loop-i.invariant ∙ word_end-here c.args.src.now c.loop-i.i c.loop-i-test.true
      (λ z. omega arith)),
  search rules,
  search rules,
)

pub loop-i-preserved : goal.loop-i-preserved
loop-i-preserved c =
    c.loop-i.invariant ∙ word_end-on c.args.src.now c.loop-i.i c.loop-i-test.true (omega arith)

pub returns : goal.returns
returns c =
    let end : c.loop-i.i ≡ length c.args.src.now = omega arith in
    (sym (rw end at c.loop-i.invariant ∙ word_end-out c.args.src.now _ (omega arith)), search rules, search rules)
