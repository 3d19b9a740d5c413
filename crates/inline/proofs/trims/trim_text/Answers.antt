-- `trim_text` meets its contract: by the two tests. Assumes nothing.
use mathlib.Core.Path.{sym, ◌∙◌}
use Rattle.inline.proofs.TrimLaws.{text-none, text-kept, text-space}
use Rattle.inline.proofs.trims.trim_text.Goals as goal

pub returns-then-len-eq0 : goal.returns-then-len-eq0
returns-then-len-eq0 c =
    text-none _ _ _ _ _ (sym c.get-len.ensures ∙ c.if-len-eq0.true)

pub returns-then-texts-last-ne32 : goal.returns-then-texts-last-ne32
returns-then-texts-last-ne32 c =
    let e = c.get-len.ensures in
    text-kept _ _ _ _ _ (λ h. c.if-len-eq0.false (e ∙ h)) (λ h. c.if-texts-last-ne32.true (rw (c.get.ensures, e) h))

pub returns : goal.returns
returns c =
    let e = c.get-len.ensures in
    let f = c.get.ensures in
    rw (f, e) (text-space _ _ _ _ _ (λ h. c.if-len-eq0.false (e ∙ h)) (rw (f, e) at c.if-texts-last-ne32.false))
