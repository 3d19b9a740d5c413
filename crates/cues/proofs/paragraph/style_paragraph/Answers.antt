use Rattle.cues.proofs.Paragraphs.{styled-some, styled-none}
use Rattle.meaning.specs.Kinds.{attrs_in}
use mathlib.Core.Path.{sym, ◌∙◌}
use Rattle.cues.proofs.paragraph.style_paragraph.Goals as goal

pub returns-then-p_has_modelled_inline_style : goal.returns-then-p_has_modelled_inline_style
returns-then-p_has_modelled_inline_style c =
    λ l o ctx.
    styled-some ctx c.args.place c.args.first c.args.end (attrs_in c.args.attrs.now.strings.now l) c.args.segments.now
    (sym (c.p_has_modelled_inline_style.ensures l o) ∙ c.if-p_has_modelled_inline_style.true) c.wrap_paragraph.new.segments
    c.wrap_paragraph.result (c.wrap_paragraph.ensures l o)

pub returns : goal.returns
returns c =
    λ l o ctx.
    styled-none ctx c.args.place c.args.first c.args.end (attrs_in c.args.attrs.now.strings.now l) c.args.segments.now
    (sym (c.p_has_modelled_inline_style.ensures l o) ∙ c.if-p_has_modelled_inline_style.false) c.requires.1
