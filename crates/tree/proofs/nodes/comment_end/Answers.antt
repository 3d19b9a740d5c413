use Rattle.std.proofs.Common.{ℕ, List, ◌+◌, ◌<◌, ◌≡◌, sym, ◌∙◌, false, length, arith}
use Rattle.scan.specs.Marks.{starts_at, seek}
use Rattle.scan.proofs.Splits.{whole_part}
use Rattle.tree.specs.Read.{comment_end}
use Rattle.tree.proofs.Comments.{end_start, end_on, end_got, end_passed}
use Rattle.tree.proofs.nodes.comment_end.Goals as goal

-- where each test of the turn fails the search goes on
module _ (s : List ℕ) (p i : ℕ) (w : seek comment_end s p ≡ seek comment_end s i) where
  one : i < length s → starts_at s i comment_end ≡ false → seek comment_end s p ≡ seek comment_end s (i + 1)
  one h e = end_on s p i w (i + 1) h e (omega arith)

  two : i + 1 < length s → starts_at s i comment_end ≡ false → starts_at s (i + 1) comment_end ≡ false
      → seek comment_end s p ≡ seek comment_end s (i + 2)
  two h e f = end_on s p (i + 1) (one (omega arith) e) (i + 2) h f (omega arith)

  three : i + 2 < length s → starts_at s i comment_end ≡ false → starts_at s (i + 1) comment_end ≡ false → starts_at s (i + 2) comment_end ≡ false
      → seek comment_end s p ≡ seek comment_end s (i + 3)
  three h e f g = end_on s p (i + 2) (two (omega arith) e f) (i + 3) h g (omega arith)

  four : i + 3 < length s → starts_at s i comment_end ≡ false → starts_at s (i + 1) comment_end ≡ false → starts_at s (i + 2) comment_end ≡ false
      → starts_at s (i + 3) comment_end ≡ false → seek comment_end s p ≡ seek comment_end s (i + 4)
  four h e f g d = end_on s p (i + 3) (three (omega arith) e f g) (i + 4) h d (omega arith)

pub returns-then-src-pos-lt23 : goal.returns-then-src-pos-lt23
returns-then-src-pos-lt23 c =
    rw (whole_part c.args.src.now) at c.find_past.ensures

pub loop-i-init : goal.loop-i-init
loop-i-init c =
    (omega arith, omega arith, end_start c.args.src.now c.args.pos c.requires)

pub returns-then-closes : goal.returns-then-closes
returns-then-closes c =
    end_got c.args.src.now c.args.pos c.loop-i.i c.loop-i.invariant.2 _ (omega arith) (omega arith) (sym c.closes.ensures ∙ c.if-closes.true)
    (omega arith)

pub returns-then-closes-2 : goal.returns-then-closes-2
returns-then-closes-2 c =
    end_got c.args.src.now c.args.pos (c.loop-i.i + 1) (one c.args.src.now c.args.pos c.loop-i.i c.loop-i.invariant.2 (omega arith) (sym c.closes.ensures ∙ c.if-closes.false)) _ (omega arith) (omega arith)
    (sym c.closes-in-loop-i.ensures ∙ c.if-closes-2.true) (omega arith)

pub returns-then-closes-3 : goal.returns-then-closes-3
returns-then-closes-3 c =
    end_got c.args.src.now c.args.pos (c.loop-i.i + 2) (two c.args.src.now c.args.pos c.loop-i.i c.loop-i.invariant.2 (omega arith) (sym c.closes.ensures ∙ c.if-closes.false) (sym c.closes-in-loop-i.ensures ∙ c.if-closes-2.false)) _ (omega arith) (omega arith)
    (sym c.closes-in-loop-i-2.ensures ∙ c.if-closes-3.true) (omega arith)

pub returns-then-closes-4 : goal.returns-then-closes-4
returns-then-closes-4 c =
    end_got c.args.src.now c.args.pos (c.loop-i.i + 3) (three c.args.src.now c.args.pos c.loop-i.i c.loop-i.invariant.2 (omega arith) (sym c.closes.ensures ∙ c.if-closes.false) (sym c.closes-in-loop-i.ensures ∙ c.if-closes-2.false) (sym c.closes-in-loop-i-2.ensures ∙ c.if-closes-3.false)) _ (omega arith) (omega arith)
    (sym c.closes-in-loop-i-3.ensures ∙ c.if-closes-4.true) (omega arith)

pub loop-i-preserved : goal.loop-i-preserved
loop-i-preserved c =
    (omega arith, omega arith, four c.args.src.now c.args.pos c.loop-i.i c.loop-i.invariant.2 (omega arith) (sym c.closes.ensures ∙ c.if-closes.false) (sym c.closes-in-loop-i.ensures ∙ c.if-closes-2.false) (sym c.closes-in-loop-i-2.ensures ∙ c.if-closes-3.false) (sym c.closes-in-loop-i-3.ensures ∙ c.if-closes-4.false))

pub returns : goal.returns
returns c =
    end_passed c.args.src.now c.args.pos c.loop-i.i c.loop-i.invariant.2 c.find_past-2.result (omega arith)
    (rw (whole_part c.args.src.now) at c.find_past-2.ensures)
