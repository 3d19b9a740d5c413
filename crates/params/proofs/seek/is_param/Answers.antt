-- `is_param`: one prefix or the other.
use mathlib.Core.Path.{◌≡◌, ◌∙◌}
use mathlib.Core.Bool.{true, false}
use Rattle.grammar.specs.Scan.{prefix}
use Rattle.meaning.specs.Words.{ascii}
use Rattle.params.proofs.Seeking.{begins}
use Rattle.params.proofs.seek.is_param.Goals as goal

pub returns-then-starts_with : goal.returns-then-starts_with
returns-then-starts_with c =
    let e : prefix (ascii "ttp:") c.args.name.now ≡ true = begins _ _ _ c.starts_with.ensures ∙ c.if-starts_with.true in
    rw e c.if-starts_with.true

pub returns-else-starts_with : goal.returns-else-starts_with
returns-else-starts_with c =
    let e : prefix (ascii "ttp:") c.args.name.now ≡ false = begins _ _ _ c.starts_with.ensures ∙ c.if-starts_with.false in
    rw (e, begins _ _ _ c.starts_with-else-starts_with.ensures)
