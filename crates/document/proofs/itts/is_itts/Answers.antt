use mathlib.Core.Path.{sym, ◌∙◌}
use borrow.Author.Tests.{le-leb}
use native.Mathlib.Omega.{arith}
use Rattle.scan.specs.Part.{string_at}
use Rattle.xml.proofs.PassForests.{string_long}
use Rattle.document.proofs.IttsLaws.{name_itts, value-itts}
use borrow.Author.Rules.{rules}
use Rattle.document.proofs.itts.is_itts.Goals as goal

pub returns-then-itts_from-x : goal.returns-then-itts_from-x
returns-then-itts_from-x c =
    let n = c.requires.named c.args.i (omega arith) (omega arith) in
    let g = rw (c.itts_from.ensures, c.extra_at-x.ensures) at c.if-itts_from-x.true in
    rw (c.itts_from.ensures, c.extra_at-x.ensures) (le-leb _ _ g ∙ sym (name_itts _ _ _ _ n g))

pub overflow_add-from : goal.overflow_add-from
overflow_add-from c =
    let h = rw (← c.extra_at-x.ensures) at (c.requires.within
    c.args.i (omega arith) (omega arith)) in
    search (rules, h)

pub slice_bounds-find_seq-end : goal.slice_bounds-find_seq-end
slice_bounds-find_seq-end c =
    let h = rw (← c.extra_at-x.ensures) at (c.requires.within
    c.args.i (omega arith) (omega arith)) in
    search (rules, h)

pub returns-else-itts_from-x : goal.returns-else-itts_from-x
unfolding string_at
returns-else-itts_from-x c =
    let n = c.requires.named
    c.args.i (omega arith) (omega arith) in
    let w = c.requires.within
    c.args.i (omega arith) (omega arith) in
    let g = rw (
      c.itts_from.ensures,
      c.extra_at-x.ensures,
    ) at c.if-itts_from-x.false in
    let f = rw c.extra_at-x.ensures at c.find_seq.ensures in
    rw c.extra_at-x.ensures (sym (value-itts _ _ _ _ n g _ _ f (sym (string_long _ _ _ w))))
