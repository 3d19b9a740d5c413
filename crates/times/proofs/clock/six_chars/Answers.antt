use mathlib.Core.Path.{◌≡◌}
use mathlib.Core.Bool.{false, ◌&&◌}
use native.Mathlib.Omega.{arith}
use lib.Dec.{leb}
use lib.ListN.{length, get_or}
use Rattle.times.proofs.Fractions.{SixOn, low_starts, high_starts, six_start, six_same, six_next, six_here, six_out, six_on, six_past}
use Rattle.times.proofs.clock.six_chars.Goals as goal
use Rattle.times.proofs.clock.six_chars.Goals.{In_default, Joined-text-i-lt128, in-128-to-191, in_default+else-chars-eq6, in_default-via-then-text-i-lt128, in_default-via-else-text-i-lt128+else-this-lt192}

-- the byte at the place starts a character
starts : (c : In_default)
    → (leb 0x80 (get_or c.args.text.now c.loop-i.i 0) && leb
    (get_or c.args.text.now c.loop-i.i 0) 0xBF) ≡ false
starts c =
    let b = get_or c.args.text.now c.loop-i.i 0 in
    elim c.in_default.branch [
      | in_default-via-then-text-i-lt128 w ↦ low_starts b (omega arith)
      | in_default-via-else-text-i-lt128+else-this-lt192 w ↦ high_starts b (omega arith)
    ]

-- it is counted, or goes on with the character before it
passed : (c : Joined-text-i-lt128)
    → SixOn c.args.text.now c.if-text-i-lt128.chars c.loop-i.i
passed c =
    let b = get_or c.args.text.now c.loop-i.i 0 in
    elim c.if-text-i-lt128.branch [
      | in-128-to-191 w ↦ rw w.chars-is (six_same _ _ _ c.loop-i.invariant c.loop-i-test.true (omega arith) (omega arith))
      | in_default+else-chars-eq6 w ↦
          let first : (leb 0x80 b && leb b 0xBF) ≡ false = elim w.in_default.branch [
            | in_default-via-then-text-i-lt128 w' ↦ low_starts b (omega arith)
            | in_default-via-else-text-i-lt128+else-this-lt192 w' ↦ high_starts b (omega arith)
          ] in
          rw w.chars-is (six_next _ _ _ c.loop-i.invariant c.loop-i-test.true first (omega (arith, c.loop-i.invariant.few, w.if-chars-eq6.false)))
    ]

pub loop-i-init : goal.loop-i-init
loop-i-init c =
    six_start _

pub returns-then-chars-eq6 : goal.returns-then-chars-eq6
returns-then-chars-eq6 c =
    six_here _ _ _ c.loop-i.invariant c.loop-i-test.true (starts (goal.at.returns-then-chars-eq6 c).In_default) c.if-chars-eq6.true

pub returns-then-i-eq6 : goal.returns-then-i-eq6
returns-then-i-eq6 c =
    six_past _ _ _ (passed (goal.at.returns-then-i-eq6 c).Joined-text-i-lt128) c.if-i-eq6.true

pub loop-i-preserved : goal.loop-i-preserved
loop-i-preserved c =
    six_on _ _ _ (passed (goal.at.loop-i-preserved c).Joined-text-i-lt128) c.if-i-eq6.false

pub returns : goal.returns
returns c =
    let e : c.loop-i.i ≡ length c.args.text.now = omega arith in rw (← e) (six_out _ _ _ c.loop-i.invariant c.loop-i-test.false)
