-- The tables that hold a track, and what their cells say (docs/TABLES.md has the same for callers). Whether the cells say anything is
-- `Meaning`. Definitions alone.
use Prim.Native.Nat.{ℕ, zero, suc, ◌+◌, ◌-◌, ◌*◌, ◌/◌, ◌%◌, ◌≤◌}
use Rattle.std.specs.Prelude.{false, List, [], ◌∷◌, length, get_or, ltb, ℤ, pos, negsuc, Float}
use Rattle.std.proofs.Math.Bool.{cond, not}
use Rattle.std.proofs.Math.Option.{none, some}
use Rattle.std.proofs.Math.Dec.{eqb}
use Rattle.std.specs.Float.{fin}
use Rattle.colors.specs.declared.read.Rgba.{Rgba}
use Rattle.decimals.specs.declared.size.Size.{Size}
use Rattle.decimals.specs.Size.{spelled_value}
use Rattle.track.specs.declared.strings.Span.{Span}
use Rattle.track.specs.declared.segments.Font.{Font}
use Rattle.track.specs.declared.segments.Segment.{Segment}
use Rattle.track.specs.declared.values.Param.{Param}
use Rattle.track.specs.declared.values.Extra.{Extra}
use Rattle.track.specs.declared.values.Rows.{Rows}
use Rattle.track.specs.declared.values.Align.{Align}
use Rattle.track.specs.declared.values.Look.{Look}
use Rattle.track.specs.declared.values.Style.{Style}
use Rattle.track.specs.declared.values.Region.{Region}
use Rattle.track.specs.declared.values.Cue.{Cue}
use Rattle.track.specs.Track.{Wrapper, Segments}
use Rattle.track.specs.Track as track

pub record Tables : Type 0 where
  pub head : List ℕ
  pub params : List ℕ
  pub styles : List ℕ
  pub regions : List ℕ
  pub cues : List ℕ
  pub times : List ℤ
  pub segments : List ℕ
  pub sizes : List Float
  pub extras : List ℕ
  pub strings : List ℕ
  pub texts : List ℕ

abbrev pub tables :
    (head params styles regions cues : List ℕ) (times : List ℤ) (segments : List ℕ) (sizes : List Float)
    (extras strings texts : List ℕ) → Tables
tables h p s r c m g f e z y = record {
  head = h;
  params = p;
  styles = s;
  regions = r;
  cues = c;
  times = m;
  segments = g;
  sizes = f;
  extras = e;
  strings = z;
  texts = y;
}

-- how long each is
pub record Lengths : Type 0 where
  pub head : ℕ
  pub params : ℕ
  pub styles : ℕ
  pub regions : ℕ
  pub cues : ℕ
  pub times : ℕ
  pub segments : ℕ
  pub sizes : ℕ
  pub extras : ℕ
  pub strings : ℕ
  pub texts : ℕ

abbrev pub lengths : Tables → Lengths
lengths T = record {
  head = length T.head;
  params = length T.params;
  styles = length T.styles;
  regions = length T.regions;
  cues = length T.cues;
  times = length T.times;
  segments = length T.segments;
  sizes = length T.sizes;
  extras = length T.extras;
  strings = length T.strings;
  texts = length T.texts;
}

-- the fixed lengths: document 01's limits, each times the cells of a row; and a byte for each byte of a text
pub record LongEnough (n : Lengths) : Type 0 where
  pub head : 10 ≤ n.head
  pub params : 256 ≤ n.params
  pub styles : 6912 ≤ n.styles
  pub regions : 1024 ≤ n.regions
  pub cues : 22528 ≤ n.cues
  pub times : 4096 ≤ n.times
  pub segments : 98304 ≤ n.segments
  pub sizes : 256 ≤ n.sizes
  pub extras : 24576 ≤ n.extras
  pub strings : 65536 ≤ n.strings
  pub texts : 65536 ≤ n.texts

-- cell j of row i in a table of rows of w cells
unfoldable pub cell : ℕ → List ℕ → ℕ → ℕ → ℕ
cell w t i j = get_or t (i * w + j) 0

abbrev pub span : ℕ → ℕ → Span
span p n = record { place = p; len = n }

abbrev pub rows_of : ℕ → ℕ → Rows
rows_of i n = record { first = i; count = n }

-- what stands in n rows from row i on
unfoldable pub rows_from : {A : Type 0} → (ℕ → A) → ℕ → ℕ → List A
rows_from f zero i = []
rows_from f (suc n) i = f i ∷ rows_from f n (i + 1)

-- a string that is there where the flag is 1
unfoldable pub optional : ℕ → ℕ → ℕ → Span
optional c p n = cond (eqb c 1) (span p n) (span 0 0)

-- ---- head: 0 counts of parameters, styles, regions, cues and segments; 5 xml:lang (present, place, length); 8 how many bytes of the strings
-- and of the texts are used
module _ (t : List ℕ) where
  abbrev pub param_count : ℕ
  param_count = get_or t 0 0

  abbrev pub style_count : ℕ
  style_count = get_or t 1 0

  abbrev pub region_count : ℕ
  region_count = get_or t 2 0

  abbrev pub cue_count : ℕ
  cue_count = get_or t 3 0

  abbrev pub segment_count : ℕ
  segment_count = get_or t 4 0

  abbrev pub strings_used : ℕ
  strings_used = get_or t 8 0

  abbrev pub texts_used : ℕ
  texts_used = get_or t 9 0

-- ---- extras: 0 number of the name in its list, 1 value (place, length)
unfoldable pub extra_at : List ℕ → ℕ → Extra
unfolding cell
extra_at t i = record { number = cell 3 t i 0; value = span (cell 3 t i 1) (cell 3 t i 2) }

-- ---- params: 0 name, 2 value (place, length each)
unfoldable pub param_at : List ℕ → ℕ → Param
unfolding cell
param_at t i = record { name = span (cell 4 t i 0) (cell 4 t i 1); value = span (cell 4 t i 2) (cell 4 t i 3) }

-- ---- styles: 0 name, 2 chain, 4 colour (present, red, green, blue, alpha), 9 background, 14 family (present, place, length), 17 size (sign,
-- digits, scale; its f32 is cell i of `sizes`), 20 bold, italic, underline, strike, 24 align, 25 extras (first row, number of rows)
unfoldable pub color_at : List ℕ → ℕ → Rgba
color_at t i =
    cond (eqb (get_or t i 0) 1) (record { r = get_or t (i + 1) 0; g = get_or t (i + 2) 0; b = get_or t (i + 3) 0; a = get_or t (i + 4) 0 })
    (record { r = 0; g = 0; b = 0; a = 0 })

-- the sign is 0 where there is no size, 1, or 2 with a minus
abbrev pub zero_float : Float
zero_float = fin false 0 (pos 0)

abbrev pub size_cell : List Float → ℕ → Float
size_cell t i = get_or t i zero_float

unfoldable pub size_at : ℕ → ℕ → ℕ → Float → Size
size_at sign digits scale value =
    cond (eqb sign 0) (record { value = zero_float; negative = false; digits = 0; scale = 0 })
    (record { value = value; negative = eqb sign 2; digits = digits; scale = scale })

unfoldable pub align_at : ℕ → Align
align_at c = cond (eqb c 1) Align.Center (cond (eqb c 2) Align.End (cond (eqb c 3) Align.Left (cond (eqb c 4) Align.Right Align.Start)))

unfoldable pub look_at : List ℕ → Float → ℕ → Look
unfolding optional color_at size_at align_at
look_at t v i = record {
  has_color = eqb (get_or t (i + 4) 0) 1;
  color = color_at t (i + 4);
  has_back = eqb (get_or t (i + 9) 0) 1;
  back = color_at t (i + 9);
  has_family = eqb (get_or t (i + 14) 0) 1;
  family = optional (get_or t (i + 14) 0) (get_or t (i + 15) 0) (get_or t (i + 16) 0);
  has_size = not (eqb (get_or t (i + 17) 0) 0);
  size = size_at (get_or t (i + 17) 0) (get_or t (i + 18) 0) (get_or t (i + 19) 0) v;
  bold = eqb (get_or t (i + 20) 0) 1;
  italic = eqb (get_or t (i + 21) 0) 1;
  underline = eqb (get_or t (i + 22) 0) 1;
  strike = eqb (get_or t (i + 23) 0) 1;
  align = align_at (get_or t (i + 24) 0);
}

unfoldable pub style_at : (styles : List ℕ) (sizes : List Float) → ℕ → Style
unfolding cell look_at
style_at t f i =
    let c = cell 27 t i in
    record {
      name = span (c 0) (c 1);
      chain = span (c 2) (c 3);
      look = look_at t (size_cell f i) (i * 27);
      extras = rows_of (c 25) (c 26);
    }

-- ---- regions: 0 id, 2 extras (first row, number of rows)
unfoldable pub region_at : List ℕ → ℕ → Region
unfolding cell
region_at t i = record { id = span (cell 4 t i 0) (cell 4 t i 1); extras = rows_of (cell 4 t i 2) (cell 4 t i 3) }

-- ---- segments: 0 kind, 1 rows of its subtree, itself included; then, by its kind
--     1 text: 2 place, 3 length, in `texts`     2 break     3 timestamp: 2 and 3 its time, the low 32 bits first
--     4 bold     5 italic     6 underline     7 strike     8 colour: 2 red, 3 green, 4 blue
--     9 font: 2 family's place, 3 its length, 4 marks, 5 the bits of its size's f32
-- (an unknown kind is no segment: `Meaning`)
-- an i64 by its 64 bits, two's complement
unfoldable pub time_from : ℕ → ℤ
time_from b = cond (ltb b 9223372036854775808) (pos b) (negsuc (18446744073709551615 - b))

-- marks of a font: bit 0 has it a family, bits 1 and 2 the sign of its size, 3 to 6 the scale, from 7 on the digits
abbrev pub family_mark : ℕ → ℕ
family_mark m = m % 2

abbrev pub sign_mark : ℕ → ℕ
sign_mark m = m / 2 % 4

abbrev pub scale_mark : ℕ → ℕ
scale_mark m = m / 8 % 16

abbrev pub digits_mark : ℕ → ℕ
digits_mark m = m / 128

-- The f32 is the one that is spelled; that its bits stand in cell 5 is a part of `Meaning`.
unfoldable pub marked_size : ℕ → Size
unfolding size_at spelled_value
marked_size m =
    size_at (sign_mark m) (digits_mark m) (scale_mark m) (spelled_value (eqb (sign_mark m) 2) (digits_mark m) (scale_mark m))

module _ (t : List ℕ) where
  unfoldable pub font_at : ℕ → Font
  unfolding cell optional marked_size
  font_at i =
      let c = cell 6 t i in
      record {
        has_family = eqb (family_mark (c 4)) 1;
        family = optional (family_mark (c 4)) (c 2) (c 3);
        has_size = not (eqb (sign_mark (c 4)) 0);
        size = marked_size (c 4);
      }

  unfoldable pub segment_at : ℕ → Segment
  unfolding cell time_from font_at
  segment_at i =
      let c = cell 6 t i in
      cond (eqb (c 0) 1) (Segment.Text (span (c 2) (c 3)))
      (cond (eqb (c 0) 2) Segment.Break
      (cond (eqb (c 0) 3) (Segment.Timestamp (time_from (c 2 + c 3 * 4294967296)))
      (cond (eqb (c 0) 4) Segment.Bold
      (cond (eqb (c 0) 5) Segment.Italic
      (cond (eqb (c 0) 6) Segment.Underline
      (cond (eqb (c 0) 7) Segment.Strike
      (cond (eqb (c 0) 8) (Segment.Color (record { r = c 2; g = c 3; b = c 4 }))
      (Segment.Font (font_at i)))))))))

-- the wrapper of a font
abbrev pub font_of : Font → Wrapper Span
font_of x = track.font (cond x.has_family (some x.family) none) (cond x.has_size (some x.size) none)

-- a segment with its children and its later siblings
abbrev pub followed_by : Segment → Segments Span → Segments Span → Segments Span
followed_by (Segment.Text s) c x = track.text s x
followed_by Segment.Break c x = track.break x
followed_by (Segment.Timestamp t) c x = track.timestamp t x
followed_by Segment.Bold c x = track.wrap track.bold c x
followed_by Segment.Italic c x = track.wrap track.italic c x
followed_by Segment.Underline c x = track.wrap track.underline c x
followed_by Segment.Strike c x = track.wrap track.strike c x
followed_by (Segment.Color y) c x = track.wrap (track.color y) c x
followed_by (Segment.Font y) c x = track.wrap (font_of y) c x

module _ (t : List ℕ) where
  abbrev pub rows_at : ℕ → ℕ
  rows_at i = cell 6 t i 1

  -- the segments in n rows from row i on, of which the first k are passed over; `kids m j` are those in m rows from row j on
  unfoldable pub siblings_at : (ℕ → ℕ → Segments Span) → (n k i : ℕ) → Segments Span
  unfolding cell segment_at
  siblings_at kids zero k i = track.done
  siblings_at kids (suc n) (suc k) i = siblings_at kids n k (i + 1)
  siblings_at kids (suc n) zero i = followed_by (segment_at t i) (kids (rows_at i - 1) (i + 1)) (siblings_at kids n (rows_at i - 1) (i + 1))

  -- the same, nested at most d
  unfoldable pub segments_at : (d n i : ℕ) → Segments Span
  unfolding siblings_at
  segments_at zero n i = track.done
  segments_at (suc d) n i = siblings_at (segments_at d) n 0 i

-- ---- cues: 0 style (present, place, length), 3 region (present, place, length), 6 preserve, 7 segments (first row, number of rows), 9 extras
-- (first row, number of rows); begin and end are cells 2 i and 2 i + 1 of `times`
unfoldable pub cue_at : List ℕ → List ℤ → ℕ → Cue
unfolding cell optional
cue_at t m i =
    let c = cell 11 t i in
    record {
      start = get_or m (i * 2) (pos 0);
      end = get_or m (i * 2 + 1) (pos 0);
      has_style = eqb (c 0) 1;
      style = optional (c 0) (c 1) (c 2);
      has_region = eqb (c 3) 1;
      region = optional (c 3) (c 4) (c 5);
      preserve = eqb (c 6) 1;
      segments = rows_of (c 7) (c 8);
      extras = rows_of (c 9) (c 10);
    }
