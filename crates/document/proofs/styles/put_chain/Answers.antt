-- `put_chain` meets its contract.
use Rattle.writer.proofs.Chaining.{writes_none}
use mathlib.Core.Path.{sym, ◌∙◌}
use native.Mathlib.Omega.{arith}
use Rattle.track.specs.Tables.{cell}
use Rattle.scan.specs.Part.{string_at}
use Rattle.records.proofs.FoundRows.{with_first}
use Rattle.document.specs.Styles.{chain_text}
use borrow.Author.Rules.{rules}
use Rattle.document.proofs.styles.put_chain.Goals as goal

pub overflow_mul-j : goal.overflow_mul-j
unfolding string_at cell
overflow_mul-j c =
    let h = sym c.find_chain.ensures ∙ c.in-Some.is in
    let b = (with_first _ _ _ 27 _ 3 _ h).within in
    let p = c.requires.0.rows in
    search (rules, b, p)

pub overflow_add-j : goal.overflow_add-j
unfolding string_at cell
overflow_add-j c =
    let h = sym c.find_chain.ensures ∙ c.in-Some.is in
    let b = (with_first _ _ _ 27 _ 3 _ h).within in
    let p = c.requires.0.rows in
    search (rules, b, p)

pub get-place-requires : goal.get-place-requires
unfolding string_at cell
get-place-requires c =
    let h = sym c.find_chain.ensures ∙ c.in-Some.is in
    let b = (with_first _ _ _ 27 _ 3 _ h).within in
    let p = c.requires.0.rows in
    omega (arith, b, p)

pub overflow_mul-j-in-Some : goal.overflow_mul-j-in-Some
unfolding string_at cell
overflow_mul-j-in-Some c =
    let h = sym c.find_chain.ensures ∙ c.in-Some.is in
    let b = (with_first _ _ _ 27 _ 3 _ h).within in
    let p = c.requires.0.rows in
    search (rules, b, p)

pub overflow_add-j-in-Some : goal.overflow_add-j-in-Some
unfolding string_at cell
overflow_add-j-in-Some c =
    let h = sym c.find_chain.ensures ∙ c.in-Some.is in
    let b = (with_first _ _ _ 27 _ 3 _ h).within in
    let p = c.requires.0.rows in
    search (rules, b, p)

pub get-len-requires : goal.get-len-requires
unfolding string_at cell
get-len-requires c =
    let h = sym c.find_chain.ensures ∙ c.in-Some.is in
    let b = (with_first _ _ _ 27 _ 3 _ h).within in
    let p = c.requires.0.rows in
    omega (arith, b, p)

pub span_attr-requires : goal.span_attr-requires
unfolding string_at cell
span_attr-requires c =
    let h = sym c.find_chain.ensures ∙ c.in-Some.is in
    let b = (with_first _ _ _ 27 _ 3 _ h).within in
    let p = c.requires.0.rows in
    rw
    (c.get-place.ensures, c.get-len.ensures)
    (c.requires.1 _ (omega (arith, b)))

pub returns-in-None : goal.returns-in-None
unfolding chain_text string_at cell
returns-in-None c =
    let h = sym c.find_chain.ensures ∙ c.in-None.is in
    rw h (writes_none _)

pub returns-in-Some : goal.returns-in-Some
unfolding chain_text string_at cell
returns-in-Some c =
    let h = sym c.find_chain.ensures ∙ c.in-Some.is in
    rw h (rw (c.get-place.ensures, c.get-len.ensures) at
    c.span_attr.ensures)
