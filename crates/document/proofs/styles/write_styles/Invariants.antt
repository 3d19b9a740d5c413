use Rattle.std.specs.Prelude.{ℕ}
use Rattle.track.specs.Handed.{lists}
use Rattle.track.specs.Tables.{rows_from}
use Rattle.track.specs.Meaning.{style_in}
use Rattle.written.specs.Written.{style_text}
use Rattle.writer.specs.Rows.{line_of}
use Rattle.writer.proofs.Rowing.{Rowed}
use Rattle.document.proofs.styles.write_styles.Given as goal

abbrev pub invariant-loop-i : goal.invariant-loop-i
invariant-loop-i l = let T = lists l.t in
    Rowed (line_of (λ (j : ℕ). style_text (rows_from (style_in T) l.n 0) (style_in T j))) 0 l.n l.initial.out l.i l.out
