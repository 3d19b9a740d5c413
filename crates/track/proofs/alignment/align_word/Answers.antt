-- `align_word`: one word after the other.
use mathlib.Core.Path.{sym, ◌∙◌}
use Rattle.track.proofs.alignment.align_word.Goals as goal

pub returns-then-eq_ignore_ascii_case : goal.returns-then-eq_ignore_ascii_case
returns-then-eq_ignore_ascii_case c =
    let a = sym c.eq_ignore_ascii_case.ensures ∙ c.if-eq_ignore_ascii_case.true in rw a

pub returns-then-eq_ignore_ascii_case-2 : goal.returns-then-eq_ignore_ascii_case-2
returns-then-eq_ignore_ascii_case-2 c =
    let a = sym c.eq_ignore_ascii_case.ensures ∙ c.if-eq_ignore_ascii_case.false in
    let b = sym c.eq_ignore_ascii_case-2.ensures ∙ c.if-eq_ignore_ascii_case-2.true in
    rw (a, b)

pub returns-then-eq_ignore_ascii_case-3 : goal.returns-then-eq_ignore_ascii_case-3
returns-then-eq_ignore_ascii_case-3 c =
    let a = sym c.eq_ignore_ascii_case.ensures ∙ c.if-eq_ignore_ascii_case.false in
    let b = sym c.eq_ignore_ascii_case-2.ensures ∙ c.if-eq_ignore_ascii_case-2.false in
    let d = sym c.eq_ignore_ascii_case-3.ensures ∙ c.if-eq_ignore_ascii_case-3.true in
    rw (a, b, d)

pub returns-then-eq_ignore_ascii_case-4 : goal.returns-then-eq_ignore_ascii_case-4
returns-then-eq_ignore_ascii_case-4 c =
    let a = sym c.eq_ignore_ascii_case.ensures ∙ c.if-eq_ignore_ascii_case.false in
    let b = sym c.eq_ignore_ascii_case-2.ensures ∙ c.if-eq_ignore_ascii_case-2.false in
    let d = sym c.eq_ignore_ascii_case-3.ensures ∙ c.if-eq_ignore_ascii_case-3.false in
    let e = sym c.eq_ignore_ascii_case-4.ensures ∙ c.if-eq_ignore_ascii_case-4.true in
    rw (a, b, d, e)

pub returns : goal.returns
returns c =
    let a = sym c.eq_ignore_ascii_case.ensures ∙ c.if-eq_ignore_ascii_case.false in
    let b = sym c.eq_ignore_ascii_case-2.ensures ∙ c.if-eq_ignore_ascii_case-2.false in
    let d = sym c.eq_ignore_ascii_case-3.ensures ∙ c.if-eq_ignore_ascii_case-3.false in
    let e = sym c.eq_ignore_ascii_case-4.ensures ∙ c.if-eq_ignore_ascii_case-4.false in
    rw (a, b, d, e)
