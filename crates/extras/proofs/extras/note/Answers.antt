-- `note` writes an entry where there is none.
use borrow.Author.Tests.{eq-eqb, ne_eqb}
use borrow.Author.Rules.{rules}
use Rattle.extras.proofs.extras.note.Goals as goal

pub offset_bounds-rows-i : goal.offset_bounds-rows-i
offset_bounds-rows-i c =
    let h = rw c.in-Some.is at c.requires in search (rules, h)

pub bounds-rows-i : goal.bounds-rows-i
bounds-rows-i c =
    let h = rw c.in-Some.is at c.requires in search (rules, h)

pub offset_bounds-rows-i-then-rows-i-eq0 : goal.offset_bounds-rows-i-then-rows-i-eq0
offset_bounds-rows-i-then-rows-i-eq0 c =
    let h = rw c.in-Some.is at c.requires in search (rules, h)

pub bounds-rows-i-then-rows-i-eq0 : goal.bounds-rows-i-then-rows-i-eq0
bounds-rows-i-then-rows-i-eq0 c =
    let h = rw c.in-Some.is at c.requires in search (rules, h)

pub returns-then-rows-i-eq0 : goal.returns-then-rows-i-eq0
returns-then-rows-i-eq0 c =
    rw (c.in-Some.is, eq-eqb _ _ c.if-rows-i-eq0.true)

pub returns-else-rows-i-eq0 : goal.returns-else-rows-i-eq0
returns-else-rows-i-eq0 c =
    rw (c.in-Some.is, ne_eqb _ _ c.if-rows-i-eq0.false)
