use Rattle.cues.proofs.Paragraphs.{wrap-dressed}
use Rattle.meaning.specs.Kinds.{attrs_in}
use Rattle.styling.specs.Posts.{wrappers_in}
use Rattle.cues.proofs.paragraph.wrap_paragraph.Goals as goal

pub returns : goal.returns
returns c =
    λ l o.
    let e = c.in_ok-w.ensures.of_rows l o in
    let fits = c.in_ok-w.ensures.family_fits in
    rw c.ok_or.ensures.value
    (wrap-dressed (attrs_in c.args.attrs.now.strings.now l) (wrappers_in c.args.attrs.now.strings.now c.in_ok-w.w) c.args.place c.args.first c.args.end c.args.segments.now
    c.put_paragraph.new.segments c.put_paragraph.result e
    (rw (c.around.ensures.1 c.args.attrs.now.strings.now fits) at c.put_paragraph.ensures))
