-- `stands_at` compares the part that is as long as the word.
use Prim.Native.Nat.{◌+◌, ◌-◌}
use mathlib.Core.Path.{◌≡◌, sym, ◌∙◌}
use native.Mathlib.Omega.{arith}
use borrow.Author.Tests.{lt-leb}
use lib.ListN.{length, drop, length-drop}
use Rattle.styling.proofs.Folding.{word-short, word-whole}
use Rattle.styling.proofs.words.stands_at.Goals as goal

pub returns-then-word-value : goal.returns-then-word-value
returns-then-word-value c =
    let v = c.args.value.now in
    let w = c.args.word.now in
    let i = c.args.i in
    let z : i + length w - i ≡ length w = omega arith in
    rw z at c.eq_ignore_ascii_case.ensures ∙ sym (word-whole w (drop i v) c.requires.1 (omega (arith, length-drop i v)))

pub returns-else-word-value : goal.returns-else-word-value
returns-else-word-value c =
    let v = c.args.value.now in
    let i = c.args.i in
    rw (word-short c.args.word.now (drop i v) (omega (arith, length-drop i v))) (lt-leb _ _ c.if-word-value.false)
