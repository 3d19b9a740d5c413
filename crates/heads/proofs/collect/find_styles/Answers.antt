-- `find_styles`, by whether there is a styling.
use native.Mathlib.Omega.{arith}
use Rattle.meaning.specs.Words.{ascii}
use Rattle.heads.proofs.Finding.{found_first, first-row, styles_inside, styles_found, styles_nothing}
use Rattle.heads.proofs.collect.find_styles.Goals as goal

pub element_at-e-requires : goal.element_at-e-requires
element_at-e-requires c =
    let w = rw c.in-Some.is at c.find_element.ensures in
    first-row (found_first (ascii "styling") c.requires.children _ w)

pub overflow_add-k : goal.overflow_add-k
overflow_add-k c =
    let w = rw c.in-Some.is at c.find_element.ensures in
    omega (arith, first-row (found_first (ascii "styling") c.requires.children _ w))

pub collect_styles-requires : goal.collect_styles-requires
collect_styles-requires c =
    let w = rw c.in-Some.is at c.find_element.ensures in
    styles_inside c.requires _ c.element_at-e.result c.element_at-e.ensures w

pub returns-in_default : goal.returns-in_default
returns-in_default c =
    styles_nothing (rw c.in_default.is at c.find_element.ensures)

pub returns : goal.returns
returns c =
    let w = rw c.in-Some.is at c.find_element.ensures in
    styles_found _ _ _ _ c.element_at-e.result c.element_at-e.ensures w c.collect_styles.result c.collect_styles.ensures
