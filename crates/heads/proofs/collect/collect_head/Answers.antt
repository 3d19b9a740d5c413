-- `collect_head`, by whether there is a head.
use native.Mathlib.Omega.{arith}
use Rattle.meaning.specs.Words.{ascii}
use Rattle.heads.proofs.Finding.{found_first, first-row, head_inside, head_found, head_nothing}
use Rattle.heads.proofs.collect.collect_head.Goals as goal

pub element_at-e-requires : goal.element_at-e-requires
element_at-e-requires c =
    let w = rw c.in-Some.is at c.find_element.ensures in
    first-row (found_first (ascii "head") c.requires.children _ w)

pub overflow_add-k : goal.overflow_add-k
overflow_add-k c =
    let w = rw c.in-Some.is at c.find_element.ensures in
    omega (arith, first-row (found_first (ascii "head") c.requires.children _ w))

pub collect_inside-requires : goal.collect_inside-requires
collect_inside-requires c =
    let w = rw c.in-Some.is at c.find_element.ensures in
    head_inside c.requires _ c.element_at-e.result c.element_at-e.ensures w

pub returns-in_default : goal.returns-in_default
returns-in_default c =
    head_nothing (rw c.in_default.is at c.find_element.ensures)

pub returns : goal.returns
returns c =
    let w = rw c.in-Some.is at c.find_element.ensures in
    head_found _ _ c.element_at-e.result c.element_at-e.ensures w c.collect_inside.result c.collect_inside.ensures
