use mathlib.Core.Path.{◌≡◌, sym, ◌∙◌}
use mathlib.Core.Bool.{true, false}
use native.Mathlib.Omega.{arith}
use borrow.Author.Tests.{eqb-true, eqb-false, eq-eqb}
use Rattle.cues.proofs.Paragraphs.{never, bare-none, bare-more, bare-other, bare-read}
use Rattle.cues.proofs.paragraph.is_bare.Goals as goal
use Rattle.cues.proofs.paragraph.is_bare.Goals.{then-first-end, else-first-end, then-get-end, else-get-end}

pub returns-then-segments-at-eq-FONT-clause-tells_bare : goal.returns-then-segments-at-eq-FONT-clause-tells_bare
returns-then-segments-at-eq-FONT-clause-tells_bare c =
    λ pre rest f l e n. elim c.if-get-end.branch [
      | then-get-end w ↦ elim c.if-first-end.branch [
        | then-first-end v ↦
            let many = eqb-true _ _ (sym v.value-is ∙ w.if-get-end.true) in
            let font = eqb-true _ _ (sym w.value-is ∙ c.if-segments-at-eq-FONT.true) in
            bare-read c.args.segments.now pre rest f c.args.first c.args.end l e n (omega (arith, n, c.requires.0, v.if-first-end.true))
            (omega (arith, n, many, v.get.ensures)) font
        | else-first-end v ↦ never (rw (eq-eqb _ _ v.if-first-end.false) at (sym v.value-is ∙ w.if-get-end.true))
      ]
      | else-get-end w ↦ let z : false ≡ true = cc in never z
    ]

pub returns-else-segments-at-eq-FONT-clause-tells_bare : goal.returns-else-segments-at-eq-FONT-clause-tells_bare
returns-else-segments-at-eq-FONT-clause-tells_bare c =
    λ pre rest f l e n. rw c.if-segments-at-eq-FONT.false (elim c.if-get-end.branch [
      | then-get-end w ↦
          bare-other c.args.segments.now pre rest f c.args.first c.args.end l e n
          (eqb-false _ _ (sym w.value-is ∙ c.if-segments-at-eq-FONT.false))
      | else-get-end w ↦ elim c.if-first-end.branch [
        | then-first-end v ↦
            let other = eqb-false _ _ (sym v.value-is ∙ w.if-get-end.false) in
            bare-more c.args.segments.now pre rest f c.args.first c.args.end l e n (omega (arith, n, c.requires.0, v.if-first-end.true))
            (λ g. omega (arith, g, n, other, v.get.ensures))
        | else-first-end v ↦ bare-none f (omega (arith, n, v.if-first-end.false))
      ]
    ])
