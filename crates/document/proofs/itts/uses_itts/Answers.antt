use mathlib.Core.Path.{refl, sym, ◌∙◌}
use mathlib.Core.Bool.{true≢false}
use Rattle.document.specs.Roots.{itts_text}
use Rattle.document.proofs.itts.uses_itts.Goals as goal
use Rattle.document.proofs.itts.uses_itts.Goals.{then-any_itts, else-any_itts}

pub returns-then-any_itts-2 : goal.returns-then-any_itts-2
unfolding itts_text
returns-then-any_itts-2 c =
    let t = c.if-any_itts-2.true in
    elim c.if-any_itts.branch [
      | then-any_itts w ↦ let a = rw c.get-n.ensures at (sym c.any_itts.ensures ∙ w.if-any_itts.true) in rw (t, a) refl
      | else-any_itts w ↦
          let a = rw c.get-n.ensures at (sym c.any_itts.ensures ∙ w.if-any_itts.false) in
          let b = rw c.get-m.ensures at (sym w.any_itts-else-any_itts.ensures ∙ (sym w.value-is ∙ t)) in
          rw (t, a, b) refl
    ]

pub returns-else-any_itts-2 : goal.returns-else-any_itts-2
unfolding itts_text
returns-else-any_itts-2 c =
    let f = c.if-any_itts-2.false in
    elim c.if-any_itts.branch [
      | then-any_itts w ↦ absurd (true≢false (sym w.if-any_itts.true ∙ (sym w.value-is ∙ f)))
      | else-any_itts w ↦
          let a = rw c.get-n.ensures at (sym c.any_itts.ensures ∙ w.if-any_itts.false) in
          let b = rw c.get-m.ensures at (sym w.any_itts-else-any_itts.ensures ∙ (sym w.value-is ∙ f)) in
          let d = rw c.get-k.ensures at c.any_itts-else-any_itts-2.ensures in
          rw (a, b) d
    ]
