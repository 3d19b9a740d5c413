-- The text that segments show (the Rust's way of writing them, without tags): texts one after the other, a break as a line feed. Definitions
-- alone. y are the bytes of the texts.
use Rattle.std.specs.Prelude.{ℕ, zero, suc, ◌+◌, Bool, true, cond, List, [], ◌∷◌, ◌++◌, eqb, leb}
use Rattle.track.specs.declared.strings.Span.{Span}
use Rattle.track.specs.declared.segments.Segment.{Segment}
use Rattle.track.specs.Track.{Segments}
use Rattle.track.specs.Track as track
use Rattle.track.specs.Tables.{cell, segment_at}
use Rattle.track.specs.Meaning.{bytes_at}

unfoldable pub plain_text : List ℕ → Segments Span → List ℕ
plain_text y track.done = []
plain_text y (track.text s x) = bytes_at y s ++ plain_text y x
plain_text y (track.break x) = 10 ∷ plain_text y x
plain_text y (track.timestamp t x) = plain_text y x
plain_text y (track.wrap w c x) = plain_text y c ++ plain_text y x

-- the same of a track's own segments
unfoldable pub text_of : Segments (List ℕ) → List ℕ
text_of track.done = []
text_of (track.text s x) = s ++ text_of x
text_of (track.break x) = 10 ∷ text_of x
text_of (track.timestamp t x) = text_of x
text_of (track.wrap w c x) = text_of c ++ text_of x

-- ---- the same by the rows of a table of segments, t, whatever stands in it
-- of one segment, without its children
unfoldable pub own_text : List ℕ → Segment → List ℕ
own_text y (Segment.Text s) = bytes_at y s
own_text y Segment.Break = 10 ∷ []
own_text y (Segment.Timestamp t) = []
own_text y Segment.Bold = []
own_text y Segment.Italic = []
own_text y Segment.Underline = []
own_text y Segment.Strike = []
own_text y (Segment.Color c) = []
own_text y (Segment.Font x) = []

-- the text of row i by itself; what stands inside a wrapper has rows of its own, after it
abbrev pub row_text : (y t : List ℕ) → ℕ → List ℕ
row_text y t i = own_text y (segment_at t i)

-- of n rows from row i on, one after the other
unfoldable pub rows_text : (y t : List ℕ) → (n i : ℕ) → List ℕ
unfolding own_text segment_at
rows_text y t zero i = []
rows_text y t (suc n) i = row_text y t i ++ rows_text y t n (i + 1)

-- row i, if it is a text, has its bytes within the 65,536 of the table of texts
unfoldable pub row_within_of : (t : List ℕ) → ℕ → Bool
unfolding cell
row_within_of t i = cond (eqb (cell 6 t i 0) 1) (leb (cell 6 t i 2 + cell 6 t i 3) 65536) true
