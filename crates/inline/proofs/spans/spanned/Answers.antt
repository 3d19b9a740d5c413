-- `spanned` meets its contract: by the two tests. Assumes nothing.
use mathlib.Core.Path.{◌≡◌, ap, ◌∙◌}
use mathlib.Core.List.{[], ◌∷◌}
use native.Mathlib.Omega.{arith}
use lib.ListN.{length}
use Rattle.inline.proofs.Wrapping.{many_all}
use Rattle.inline.specs.Wraps.{wrappers_from}
use Rattle.inline.proofs.Spanning.{only-font, spanning-one, spanning-some, spanning-none}
use Rattle.inline.proofs.spans.spanned.Goals as goal
use Rattle.inline.proofs.spans.spanned.Goals.{then-one-via-then-one, then-one-via-else-one+then-many-ne0}

pub returns-then-one : goal.returns-then-one
returns-then-one c =
    elim c.then-one.branch [
      | then-one-via-then-one w ↦ rw w.if-one.true (spanning-one (wrappers_from c.args.w), c.requires)
      | then-one-via-else-one+then-many-ne0 w ↦
          (spanning-some c.args.one (wrappers_from c.args.w) (λ e. omega (arith, e, many_all c.args.w, w.many.ensures.0, w.if-many-ne0.true)), c.requires)
    ]

pub returns : goal.returns
returns c =
    let none : length (wrappers_from c.args.w) ≡ 0 = omega (arith, many_all c.args.w, c.many.ensures.0) in
    rw c.if-one.false (
      only-font c.bare_font.result c.args.w.color ∙ ap (λ x. x ∷ []) c.bare_font.ensures.0
          ∙ spanning-none (wrappers_from c.args.w) none,
      c.bare_font.ensures.1,
    )
