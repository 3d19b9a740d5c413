use borrow.Author.Tests.{eq-eqb, ne_eqb}
use Rattle.document.specs.Roots.{lang_text}
use Rattle.document.proofs.root.put_lang.Goals as goal

-- src/root.rt:56:9
pub span_attr-requires : goal.span_attr-requires
span_attr-requires c =
    let e = eq-eqb _ _ (rw c.get.ensures at c.if-get-eq1.true) in
    rw
    (c.get-place.ensures, c.get-len.ensures)
    (c.requires.1 e)

-- src/root.rt:56:9
pub returns-then-get-eq1 : goal.returns-then-get-eq1
unfolding lang_text
returns-then-get-eq1 c =
    let e = eq-eqb _ _ (rw c.get.ensures at
    c.if-get-eq1.true) in
    rw e (rw (c.get-place.ensures, c.get-len.ensures) at
    c.span_attr.ensures)

-- src/root.rt:46:1
pub returns : goal.returns
unfolding lang_text
returns c =
    let e = ne_eqb _ _ (rw c.get.ensures at
    c.if-get-eq1.false) in
    rw e c.put.ensures
