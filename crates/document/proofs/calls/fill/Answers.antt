use mathlib.Core.Path.{sym}
use lib.Seq.{length-take-le}
use Rattle.writer.proofs.CallLaws.{fit_bytes, fit_full}
use Rattle.document.proofs.calls.fill.Goals as goal

-- src/calls.rt:106:9
pub slice_bounds-document_text-end-2 : goal.slice_bounds-document_text-end-2
slice_bounds-document_text-end-2 c =
    sym (length-take-le _ _ c.limit-end.ensures.within)

-- src/calls.rt:65:1
pub returns-in-Some : goal.returns-in-Some
returns-in-Some c =
    fit_bytes _ _ _ c.requires.1 c.limit-end.ensures _ _
    (rw c.in-Some.is at c.document_text.ensures)

-- src/calls.rt:65:1
pub returns-in-None : goal.returns-in-None
returns-in-None c =
    let p = rw c.in-None.is at
    c.document_text.ensures in
    fit_full _ _ _ c.requires.1
    c.limit-end.ensures _ _ _ c.refused.ensures p
    c.clear_bytes.ensures
