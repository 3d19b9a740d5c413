use Prim.Native.Nat.{ℕ, ◌+◌, ◌<◌}
use mathlib.Core.Path.{◌≡◌, refl, ap}
use mathlib.Core.Bool.{not}
use mathlib.Core.List.{List}
use native.Mathlib.Omega.{arith}
use borrow.Author.Tests.{eq-eqb, ne_eqb}
use lib.ListN.{length, get_or}
use Rattle.scan.specs.Bytes.{other}
use Rattle.scan.specs.Posts.{Skips}
use Rattle.scan.proofs.Runs.{skips_one, ends-skipped, ends_on}
use Rattle.scan.proofs.bytes.find_byte.Goals as goal

-- what is skipped after each of the four tests of a turn
module _ (b : ℕ) (s : List ℕ) (p i : ℕ) (k : Skips (other b) s p i) (h : i + 3 < length s) (e : get_or s i 0 ≡ b → ⊥) where
  second : Skips (other b) s p (i + 1)
  second = skips_one (other b) s p i (i + 1) refl (omega arith) k (ap not (ne_eqb _ _ e))

  module _ (f : get_or s (i + 1) 0 ≡ b → ⊥) where
    third : Skips (other b) s p (i + 2)
    third = skips_one (other b) s p (i + 1) (i + 2) (omega arith) (omega arith) second (ap not (ne_eqb _ _ f))

    module _ (g : get_or s (i + 2) 0 ≡ b → ⊥) where
      fourth : Skips (other b) s p (i + 3)
      fourth = skips_one (other b) s p (i + 2) (i + 3) (omega arith) (omega arith) third (ap not (ne_eqb _ _ g))

      four : (get_or s (i + 3) 0 ≡ b → ⊥) → Skips (other b) s p (i + 4)
      four d = skips_one (other b) s p (i + 3) (i + 4) (omega arith) (omega arith) fourth (ap not (ne_eqb _ _ d))

pub loop-i-init : goal.loop-i-init
loop-i-init c =
    record { after = omega arith; within = omega arith; same = refl }

pub returns-then-src-i : goal.returns-then-src-i
returns-then-src-i c =
    ends-skipped _ c.args.src.now _ _ c.loop-i.invariant (omega arith) (ap not (eq-eqb _ _ c.if-src-i.true))

pub returns-then-src-i-2 : goal.returns-then-src-i-2
returns-then-src-i-2 c =
    ends-skipped _ c.args.src.now _ _ (second _ _ _ _ c.loop-i.invariant (omega arith) c.if-src-i.false) (omega arith)
    (ap not (eq-eqb _ _ c.if-src-i-2.true))

pub returns-then-src-i-3 : goal.returns-then-src-i-3
returns-then-src-i-3 c =
    ends-skipped _ c.args.src.now _ _ (third _ _ _ _ c.loop-i.invariant (omega arith) c.if-src-i.false c.if-src-i-2.false) (omega arith)
    (ap not (eq-eqb _ _ c.if-src-i-3.true))

pub returns-then-src-i-4 : goal.returns-then-src-i-4
returns-then-src-i-4 c =
    ends-skipped _ c.args.src.now _ _ (fourth _ _ _ _ c.loop-i.invariant (omega arith) c.if-src-i.false c.if-src-i-2.false
    c.if-src-i-3.false) (omega arith)
    (ap not (eq-eqb _ _ c.if-src-i-4.true))

pub loop-i-preserved : goal.loop-i-preserved
loop-i-preserved c =
    four _ _ _ _ c.loop-i.invariant (omega arith) c.if-src-i.false c.if-src-i-2.false c.if-src-i-3.false c.if-src-i-4.false

pub returns : goal.returns
returns c =
    ends_on _ c.args.src.now _ _ c.loop-i.invariant _ c.find_each.ensures
