-- `lang_of` meets its contract.
use Rattle.whole.proofs.Contents.{lang_found, lang_none}
use Rattle.whole.proofs.lang_of.Goals as goal

pub returns-in_err-h : goal.returns-in_err-h
returns-in_err-h c =
    rw c.from_residual.ensures (λ l o. lang_none c.args.attrs.now.strings.now _ (c.in_err-h.ensures.of_rows l o))

pub returns : goal.returns
returns c =
    λ l o. lang_found c.args.attrs.now.strings.now _ c.in_ok-h.h c.in_ok-h.ensures.found_fits (c.in_ok-h.ensures.of_rows l o)
