-- `utf8::next_sequence` meets its contract: the two commonest rows by their bytes, the others as `sequence_at` answers. Assumes nothing.
use native.Mathlib.Omega.{arith}
use native.Mathlib.Nat.{add-zero}
use Rattle.utf8.proofs.Utf8Laws.{tail-byte, sequence-two, sequence-three}
use Rattle.scan.proofs.Splits.{whole_part}
use Rattle.utf8.proofs.utf8.next_sequence.Goals as goal

pub returns-then-third-le191 : goal.returns-then-third-le191
returns-then-third-le191 c =
    let s = c.args.src.now in
    let p = c.args.pos in
    let lead = simp add-zero at (tail-byte s p 0 (omega arith)) in
    let second = tail-byte s p 1 (omega arith) in
    let third = tail-byte s p 2 (omega arith) in
    sequence-three s p (omega arith) (omega arith) (omega arith) (omega arith) (omega arith) (omega arith) (omega arith)

pub returns-then-lead-le223 : goal.returns-then-lead-le223
returns-then-lead-le223 c =
    let s = c.args.src.now in
    let p = c.args.pos in
    let lead = simp add-zero at (tail-byte s p 0 (omega arith)) in
    let second = tail-byte s p 1 (omega arith) in
    sequence-two s p (omega arith) (omega arith) (omega arith) (omega arith) (omega arith)

pub returns : goal.returns
returns c =
    rw (whole_part c.args.src.now) at c.sequence_at.ensures
