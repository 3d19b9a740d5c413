-- `find_regions`, by whether there is a layout.
use native.Mathlib.Omega.{arith}
use Rattle.meaning.specs.Words.{ascii}
use Rattle.heads.proofs.Finding.{found_first, first-row, regions_inside, regions_found, regions_nothing}
use Rattle.heads.proofs.collect.find_regions.Goals as goal

pub element_at-e-requires : goal.element_at-e-requires
element_at-e-requires c =
    let w = rw c.in-Some.is at c.find_element.ensures in
    first-row (found_first (ascii "layout") c.requires.children _ w)

pub overflow_add-k : goal.overflow_add-k
overflow_add-k c =
    let w = rw c.in-Some.is at c.find_element.ensures in
    omega (arith, first-row (found_first (ascii "layout") c.requires.children _ w))

pub collect_regions-requires : goal.collect_regions-requires
collect_regions-requires c =
    let w = rw c.in-Some.is at c.find_element.ensures in
    regions_inside c.requires _ c.element_at-e.result c.element_at-e.ensures w

pub returns-in_default : goal.returns-in_default
returns-in_default c =
    regions_nothing (rw c.in_default.is at c.find_element.ensures)

pub returns : goal.returns
returns c =
    let w = rw c.in-Some.is at c.find_element.ensures in
    regions_found _ _ _ c.element_at-e.result c.element_at-e.ensures w c.collect_regions.result c.collect_regions.ensures
