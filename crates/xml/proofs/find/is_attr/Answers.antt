-- `is_attr` compares the name in the strings, unless it has another length.
use mathlib.Core.Path.{sym, ◌∙◌}
use Rattle.scan.specs.Part.{string_at}
use Rattle.xml.proofs.AttrRows.{name_apart, name_same}
use Rattle.xml.proofs.find.is_attr.Goals as goal

pub returns-then-len-name : goal.returns-then-len-name
returns-then-len-name c =
    sym (name_apart c.args.attrs.now c.args.strings.now c.args.k c.args.name.now c.requires (λ e. c.if-len-name.true (c.get-len.ensures ∙ e)))

pub returns-then-same : goal.returns-then-same
unfolding string_at
returns-then-same c =
    c.if-same.true ∙ sym (name_same _ _ (rw (← c.get-len.ensures, ← c.get-start.ensures) (sym c.same.ensures ∙ c.if-same.true)))

pub returns-else-same : goal.returns-else-same
unfolding string_at
returns-else-same c =
    c.eq_ignore_ascii_case.ensures ∙ rw (c.get-len.ensures, c.get-start.ensures)
