-- `check_text` meets its contract. Assumes nothing.
use mathlib.Core.Path.{sym, ◌∙◌}
use borrow.Author.Tests.{le-leb, lt-leb}
use Rattle.queries.specs.Steps.{check_rest, check_text}
use Rattle.queries.proofs.Promising.{is-broken, is-utf8}
use Rattle.queries.proofs.check.check_text.Goals as goal

pub returns-then-is_short : goal.returns-then-is_short
unfolding check_text
returns-then-is_short c =
    let q = sym c.is_short.ensures ∙ c.if-is_short.true in c.refused.ensures ∙ rw q

pub returns-then-text-gt-BYTES : goal.returns-then-text-gt-BYTES
unfolding check_text check_rest
returns-then-text-gt-BYTES c =
    let q = sym c.is_short.ensures ∙ c.if-is_short.false in
    c.refused-then-text-gt-BYTES.ensures ∙ rw (q, lt-leb _ 65536 c.if-text-gt-BYTES.true)

pub returns-then-utf8_end-text : goal.returns-then-utf8_end-text
unfolding check_text check_rest
returns-then-utf8_end-text c =
    let q = sym c.is_short.ensures ∙ c.if-is_short.false in
    c.refused-then-utf8_end-text.ensures ∙ rw (q, le-leb _ 65536 c.if-text-gt-BYTES.false, is-broken _ _ c.utf8_end.ensures c.if-utf8_end-text.true)

pub returns : goal.returns
unfolding check_text check_rest
returns c =
    let q = sym c.is_short.ensures ∙ c.if-is_short.false in
    rw (q, le-leb _ 65536 c.if-text-gt-BYTES.false, is-utf8 _ _ c.utf8_end.ensures c.if-utf8_end-text.false)
