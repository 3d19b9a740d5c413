-- `open_segment` meets its contract.
use Rattle.scan.specs.Part.{string_at}
use Rattle.writer.specs.Spans.{open_text}
use Rattle.writer.proofs.Chaining.{writes_none, writes_stop, writes_then}
use Prim.Native.Nat.{◌+◌, ◌≤◌}
use native.Mathlib.Omega.{arith}
use lib.ListN.{length}
use borrow.Author.Rules.{rules}
use Rattle.writer.proofs.buffer.Out.open_segment.Goals as goal

pub overflow_add-end : goal.overflow_add-end
overflow_add-end c =
    let h : c.in-Text.x.place + c.in-Text.x.len ≤ length c.args.texts.now = rw
    c.in-Text.is at c.requires in
    search (rules, h)

pub slice_bounds-put_text-end : goal.slice_bounds-put_text-end
slice_bounds-put_text-end c =
    let h : c.in-Text.x.place + c.in-Text.x.len ≤ length c.args.texts.now = rw c.in-Text.is at c.requires in
    omega (arith, h)

pub open_font-requires : goal.open_font-requires
open_font-requires c =
    rw c.in-Font.is at c.requires

pub returns-in-Text : goal.returns-in-Text
unfolding open_text string_at
returns-in-Text c =
    rw c.in-Text.is c.put_text.ensures

pub returns-in-Break : goal.returns-in-Break
unfolding open_text
returns-in-Break c =
    rw c.in-Break.is c.put.ensures

pub returns-in-Timestamp : goal.returns-in-Timestamp
unfolding open_text
returns-in-Timestamp c =
    rw c.in-Timestamp.is (writes_none _)

pub returns-in-Bold : goal.returns-in-Bold
unfolding open_text
returns-in-Bold c =
    rw c.in-Bold.is c.put-in-Bold.ensures

pub returns-in-Italic : goal.returns-in-Italic
unfolding open_text
returns-in-Italic c =
    rw c.in-Italic.is c.put-in-Italic.ensures

pub returns-in-Underline : goal.returns-in-Underline
unfolding open_text
returns-in-Underline c =
    rw c.in-Underline.is c.put-in-Underline.ensures

pub returns-in-Strike : goal.returns-in-Strike
unfolding open_text
returns-in-Strike c =
    rw c.in-Strike.is c.put-in-Strike.ensures

pub returns-in_err-rgb_attr-in-Color : goal.returns-in_err-rgb_attr-in-Color
unfolding open_text
returns-in_err-rgb_attr-in-Color c =
    rw (c.in-Color.is, c.from_residual.ensures) (writes_stop _ c.in_err-rgb_attr-in-Color.ensures)

pub returns-in_ok-rgb_attr-in-Color : goal.returns-in_ok-rgb_attr-in-Color
unfolding open_text
returns-in_ok-rgb_attr-in-Color c =
    rw c.in-Color.is (writes_then c.in_ok-rgb_attr-in-Color.ensures c.put-in-Color.ensures)

pub returns-in-Font : goal.returns-in-Font
unfolding open_text
returns-in-Font c =
    rw c.in-Font.is c.open_font.ensures
