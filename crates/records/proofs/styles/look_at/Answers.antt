use native.Mathlib.Nat.{add_assoc}
use Rattle.track.specs.Tables.{look_at}
use Rattle.records.proofs.styles.look_at.Goals as goal

-- src/styles.rt:50:1
pub returns : goal.returns
unfolding look_at
returns c =
    rw (
      c.color_at.ensures,
      c.color_at-2.ensures,
      c.optional_at.ensures,
      c.align_at.ensures,
      c.size_at.ensures,
    ) (simp add_assoc)
