use mathlib.Core.Path.{sym, ◌∙◌}
use native.Mathlib.Omega.{arith}
use Rattle.track.specs.Tables.{cell}
use Rattle.writer.proofs.Chaining.{writes_none}
use Rattle.document.specs.Styles.{kept_text}
use Rattle.document.proofs.StyleLaws.{row_within}
use Rattle.scan.specs.Part.{string_at}
use borrow.Author.Rules.{rules}
use Rattle.document.proofs.styles.put_kept.Goals as goal

-- src/styles.rt:114:43
pub overflow_mul-j : goal.overflow_mul-j
unfolding string_at
overflow_mul-j c =
    let b = row_within _ _ _ _ _ _ (sym c.find_extras.ensures ∙ c.in-Some.is) in
    let p = c.requires.0.rows in
    search (rules, b, p)

-- src/styles.rt:114:43
pub overflow_add-j : goal.overflow_add-j
unfolding string_at
overflow_add-j c =
    let b = row_within _ _ _ _ _ _ (sym c.find_extras.ensures ∙ c.in-Some.is) in
    let p = c.requires.0.rows in
    search (rules, b, p)

-- src/styles.rt:114:17
pub get-first-requires : goal.get-first-requires
unfolding string_at
get-first-requires c =
    let b = row_within _ _ _ _ _ _ (sym c.find_extras.ensures ∙ c.in-Some.is) in
    omega (arith, b, c.requires.0.rows)

-- src/styles.rt:115:43
pub overflow_mul-j-in-Some : goal.overflow_mul-j-in-Some
unfolding string_at
overflow_mul-j-in-Some c =
    let b = row_within _ _ _ _ _ _ (sym c.find_extras.ensures ∙ c.in-Some.is) in
    let p = c.requires.0.rows in
    search (rules, b, p)

-- src/styles.rt:115:43
pub overflow_add-j-in-Some : goal.overflow_add-j-in-Some
unfolding string_at
overflow_add-j-in-Some c =
    let b = row_within _ _ _ _ _ _ (sym c.find_extras.ensures ∙ c.in-Some.is) in
    let p = c.requires.0.rows in
    search (rules, b, p)

-- src/styles.rt:115:17
pub get-count-requires : goal.get-count-requires
unfolding string_at
get-count-requires c =
    let b = row_within _ _ _ _ _ _ (sym c.find_extras.ensures ∙ c.in-Some.is) in
    omega (arith, b, c.requires.0.rows)

-- src/styles.rt:116:13
pub write_extras-requires : goal.write_extras-requires
unfolding string_at cell
write_extras-requires c =
    let b = row_within _ _ _ _ _ _ (sym c.find_extras.ensures ∙ c.in-Some.is) in
    rw
    (c.get-first.ensures, c.get-count.ensures) (c.requires.1 _ b)

-- src/styles.rt:92:1
pub returns-in-None : goal.returns-in-None
unfolding kept_text string_at
returns-in-None c =
    let h = sym c.find_extras.ensures ∙ c.in-None.is in
    rw h (writes_none _)

-- src/styles.rt:92:1
pub returns-in-Some : goal.returns-in-Some
unfolding kept_text string_at cell
returns-in-Some c =
    let h = sym c.find_extras.ensures ∙ c.in-Some.is in
    rw h (rw (c.get-first.ensures, c.get-count.ensures) at
    c.write_extras.ensures)
