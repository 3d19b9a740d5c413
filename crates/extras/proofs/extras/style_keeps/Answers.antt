-- `style_keeps`: any name but that of number 33, or that one with its word.
use mathlib.Core.Path.{sym, ◌∙◌}
use borrow.Author.Tests.{ne_eqb}
use Rattle.extras.proofs.Keeping.{is-align, no_align}
use Rattle.extras.proofs.extras.style_keeps.Goals as goal

pub returns-then-i-ne-TEXT_ALIGN : goal.returns-then-i-ne-TEXT_ALIGN
returns-then-i-ne-TEXT_ALIGN c =
    rw (ne_eqb _ _ c.if-i-ne-TEXT_ALIGN.true) (sym (no_align _ _ c.requires c.if-i-ne-TEXT_ALIGN.true))

pub returns-else-i-ne-TEXT_ALIGN : goal.returns-else-i-ne-TEXT_ALIGN
returns-else-i-ne-TEXT_ALIGN c =
    c.is_trimmed.ensures ∙ sym (is-align _ _ c.if-i-ne-TEXT_ALIGN.false)
