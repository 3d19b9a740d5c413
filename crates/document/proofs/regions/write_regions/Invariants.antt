-- `write_regions` meets its contract.
use Rattle.std.specs.Prelude.{ℕ}
use Rattle.writer.proofs.Rowing.{Rowed}
use Rattle.writer.specs.Rows.{line_of}
use Rattle.track.specs.Handed.{lists}
use Rattle.track.specs.Meaning.{region_in}
use Rattle.written.specs.Written.{region_text}
use Rattle.document.proofs.regions.write_regions.Given as goal

abbrev pub invariant-loop-i : goal.invariant-loop-i
invariant-loop-i l = Rowed (line_of
    (λ (j : ℕ). region_text (region_in (lists l.t) j))) 0 l.n l.initial.out l.i l.out
