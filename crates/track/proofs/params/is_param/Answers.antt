-- `is_param` meets its contract: a name is one where the run of its bytes is all of it.
use Prim.Native.Nat.{◌*◌}
use mathlib.Core.Path.{sym, ◌∙◌}
use native.Mathlib.Nat.{add-zero}
use Rattle.track.specs.Tables.{cell}
use Rattle.track.specs.Meaning.{is_param}
use Rattle.track.proofs.Spans.{every-is}
use Rattle.track.proofs.params.is_param.Goals as goal
use Rattle.track.proofs.params.is_param.Goals.{then-is_span, else-is_span}

pub returns-then-is_span-2 : goal.returns-then-is_span-2
unfolding is_param cell
returns-then-is_span-2 c =
    elim c.if-is_span.branch [
      | then-is_span w ↦
          let h = sym c.is_span.ensures ∙ w.if-is_span.true in
          let k = sym w.is_span-then-is_span.ensures ∙ sym w.value-is ∙ c.if-is_span-2.true in
          rw (add-zero (c.args.i * 4), ← c.get-name.ensures, ← c.get-len.ensures, h, ← c.get-value.ensures, ← w.get.ensures, k)
          (every-is _ c.args.t.now.strings.now c.get-name.result c.get-len.result _ h c.over.ensures)
      | else-is_span w ↦ cc
    ]
