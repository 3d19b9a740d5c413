-- `put_cells` meets its contract: by cases of the segment, the kind's row and the cells over it. Assumes nothing.
use Prim.Native.Nat.{ℕ, ◌/◌, ◌%◌}
use mathlib.Core.Path.{refl, sym, ap, ◌∙◌}
use mathlib.Core.List.{[], ◌∷◌, append-nil}
use native.Mathlib.Omega.{arith}
use native.Mathlib.Numerals.{add-two, add-three, add-four}
use lib.ListN.{length-set}
use borrow.Author.Rules.{rules}
use Rattle.track.specs.Layout.{span_cells, halves, time_bits, font_cells, segment_cells}
use Rattle.records.proofs.Parts.{same_time}
use Rattle.records.proofs.Storing.{font-wide}
use Rattle.records.proofs.Overwrites.{two_stored, kind_over}
use Rattle.records.proofs.segments.put_cells.Goals as goal

pub put_span-requires : goal.put_span-requires
put_span-requires c = (
  search rules,
  rw c.in-Text.is at
      c.requires.2,
)

pub bounds-segments-at-in-Timestamp : goal.bounds-segments-at-in-Timestamp
bounds-segments-at-in-Timestamp c =
    simp length-set (omega arith)

pub bounds-segments-at-in-Color-2 : goal.bounds-segments-at-in-Color-2
bounds-segments-at-in-Color-2 c =
    simp length-set (omega arith)

pub bounds-segments-at-in-Color-3 : goal.bounds-segments-at-in-Color-3
bounds-segments-at-in-Color-3 c =
    simp length-set (omega arith)

pub put_font-requires : goal.put_font-requires
put_font-requires c = (
  search rules,
  rw c.in-Font.is at
      c.requires.2,
)

pub returns-in-Break : goal.returns-in-Break
unfolding segment_cells
returns-in-Break c =
    rw c.in-Break.is c.put_kind-in-Break.ensures

pub returns-in-Bold : goal.returns-in-Bold
unfolding segment_cells
returns-in-Bold c =
    rw c.in-Bold.is c.put_kind-in-Bold.ensures

pub returns-in-Italic : goal.returns-in-Italic
unfolding segment_cells
returns-in-Italic c =
    rw c.in-Italic.is c.put_kind-in-Italic.ensures

pub returns-in-Underline : goal.returns-in-Underline
unfolding segment_cells
returns-in-Underline c =
    rw c.in-Underline.is c.put_kind-in-Underline.ensures

pub returns-in-Strike : goal.returns-in-Strike
unfolding segment_cells
returns-in-Strike c =
    rw c.in-Strike.is c.put_kind-in-Strike.ensures

pub returns-in-Text : goal.returns-in-Text
unfolding segment_cells
returns-in-Text c =
    rw c.in-Text.is
    (kind_over (0 ∷ 0 ∷ []) (span_cells c.in-Text.x) (0 ∷ 0 ∷ []) c.args.segments.now _ _ c.args.at 1 c.args.rows
    c.put_kind.ensures c.put_span.ensures refl)

pub returns-in-Timestamp : goal.returns-in-Timestamp
unfolding segment_cells
returns-in-Timestamp c =
    let bits = c.time_bits-bits.ensures ∙ ap time_bits (same_time c.in-Timestamp.t c.in-Timestamp.known_told-in-Timestamp-1-own.given.0.1) in
    rw c.in-Timestamp.is
    (kind_over (0 ∷ 0 ∷ []) (halves (time_bits c.in-Timestamp.t)) (0 ∷ 0 ∷ []) c.args.segments.now _ _ c.args.at 3 c.args.rows
    c.put_kind-in-Timestamp.ensures
    (two_stored c.put_kind-in-Timestamp.new.segments c.args.at (ap (λ (b : ℕ). b % 4294967296) bits)
    (ap (λ (b : ℕ). b / 4294967296) bits)) refl)

pub returns-in-Color : goal.returns-in-Color
unfolding segment_cells
returns-in-Color c =
    rw c.in-Color.is
    (kind_over (0 ∷ 0 ∷ 0 ∷ []) (c.in-Color.c.r ∷ c.in-Color.c.g ∷ c.in-Color.c.b ∷ []) (0 ∷ []) c.args.segments.now _ _ c.args.at 8 c.args.rows
    c.put_kind-in-Color.ensures
    (simp (add-two, add-three, add-four)) refl)

pub returns-in-Font : goal.returns-in-Font
unfolding segment_cells
returns-in-Font c =
    rw (c.in-Font.is, ← (append-nil (font_cells c.in-Font.x)))
    (kind_over (0 ∷ 0 ∷ 0 ∷ 0 ∷ []) (font_cells c.in-Font.x) [] c.args.segments.now _ _ c.args.at 9 c.args.rows
    c.put_kind-in-Font.ensures c.put_font.ensures
    (sym (font-wide c.in-Font.x)))
