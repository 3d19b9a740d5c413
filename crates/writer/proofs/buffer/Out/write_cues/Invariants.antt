-- `write_cues` meets its contract.
use Rattle.std.specs.Prelude.{ℕ}
use Rattle.writer.proofs.Rowing.{Rowed}
use Rattle.writer.specs.Rows.{line_of}
use Rattle.track.specs.Handed.{lists}
use Rattle.track.specs.Meaning.{cue_in}
use Rattle.written.specs.Written.{cue_text}
use Rattle.writer.proofs.buffer.Out.write_cues.Given as goal

abbrev pub invariant-loop-i : goal.invariant-loop-i
invariant-loop-i l = Rowed (line_of (λ (j : ℕ). cue_text (cue_in (lists l.t) j))) 0 l.n l.initial.self l.i l.self
