-- The alignment that a word of `tts:textAlign` is, in any letter case (TTML 2, 10.2; the Rust's `parse_text_align`). An unknown word, `start` and
-- `justify` are `Start`. Definitions alone.
use Rattle.std.specs.Prelude.{ℕ, cond, List}
use Rattle.scan.specs.Names.{same_folded}
use Rattle.scan.specs.Text.{ascii}
use Rattle.track.specs.declared.values.Align.{Align}

abbrev pub align_word : List ℕ → Align
align_word w =
    cond (same_folded w (ascii "end")) Align.End
    (cond (same_folded w (ascii "center")) Align.Center
    (cond (same_folded w (ascii "left")) Align.Left
    (cond (same_folded w (ascii "right")) Align.Right Align.Start)))
