-- `is_marked` meets its contract: the marks of a size have the bits of its f32.
use mathlib.Core.Path.{sym, ◌∙◌}
use native.Mathlib.Omega.{arith}
use borrow.Author.Tests.{leb-true}
use Rattle.track.proofs.Packed.{marked-bits}
use Rattle.track.proofs.marks.is_marked.Goals as goal
use Rattle.track.proofs.marks.is_marked.Goals.{then-sign-le2, else-sign-le2}

pub returns-then-is_spelling : goal.returns-then-is_spelling
returns-then-is_spelling c =
    rw c.spelled_bits.ensures (elim c.if-sign-le2.branch [
      | then-sign-le2 w ↦
          let s = sym w.is_spelling.ensures ∙ sym w.value-is ∙ c.if-is_spelling.true in
          sym (marked-bits c.args.marks c.args.bits c.if-sign-eq0.false w.if-sign-le2.true s)
      | else-sign-le2 w ↦ absurd (omega (arith, leb-true _ 2 (sym w.value-is ∙ c.if-is_spelling.true)))
    ])
