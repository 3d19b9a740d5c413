-- How a track stands in its tables: every cell. Definitions alone.
-- A placed track has rows by value, each string by its place and length in `strings` or `texts`.
use Rattle.std.specs.Prelude.{ℕ, ◌+◌, ◌-◌, ◌*◌, ◌/◌, ◌%◌, Bool, true, false, cond, List, [], ◌∷◌, ◌++◌, length, replicate, ℤ, pos, negsuc, Float}
use Rattle.std.proofs.Math.Option.{Option, none, some}
use Rattle.std.proofs.lemmas.List.Edits.{sets}
use Rattle.colors.specs.declared.read.Rgba.{Rgba}
use Rattle.decimals.specs.declared.size.Size.{Size}
use Rattle.decimals.specs.Size.{spelled_bits}
use Rattle.track.specs.declared.strings.Span.{Span}
use Rattle.track.specs.declared.segments.Font.{Font}
use Rattle.track.specs.declared.segments.Segment.{Segment}
use Rattle.track.specs.declared.values.Param.{Param}
use Rattle.track.specs.declared.values.Extra.{Extra}
use Rattle.track.specs.declared.values.Rows.{Rows}
use Rattle.track.specs.declared.values.Align.{Align}
use Rattle.track.specs.declared.values.Look.{Look}
use Rattle.track.specs.declared.values.Style.{Style}
use Rattle.track.specs.declared.values.Region.{Region}
use Rattle.track.specs.declared.values.Cue.{Cue}
use Rattle.track.specs.Track.{Wrapper, Segments, segment_rows}
use Rattle.track.specs.Track as track
use Rattle.track.specs.Tables.{Tables, Lengths, zero_float}

-- ---- cells of a row
abbrev pub flag : Bool → ℕ
flag b = cond b 1 0

abbrev pub span_cells : Span → List ℕ
span_cells x = x.place ∷ x.len ∷ []

abbrev pub rows_cells : Rows → List ℕ
rows_cells x = x.first ∷ x.count ∷ []

-- a string that may be absent
abbrev pub optional_cells : Bool → Span → List ℕ
optional_cells b x = cond b (1 ∷ span_cells x) (0 ∷ 0 ∷ 0 ∷ [])

unfoldable pub color_cells : Bool → Rgba → List ℕ
color_cells b c = cond b (1 ∷ c.r ∷ c.g ∷ c.b ∷ c.a ∷ []) (0 ∷ 0 ∷ 0 ∷ 0 ∷ 0 ∷ [])

unfoldable pub size_cells : Bool → Size → List ℕ
size_cells b s = cond b (cond s.negative 2 1 ∷ s.digits ∷ s.scale ∷ []) (0 ∷ 0 ∷ 0 ∷ [])

unfoldable pub align_cell : Align → ℕ
align_cell Align.Start = 0
align_cell Align.Center = 1
align_cell Align.End = 2
align_cell Align.Left = 3
align_cell Align.Right = 4

unfoldable pub param_cells : Param → List ℕ
param_cells x = span_cells x.name ++ span_cells x.value

unfoldable pub extra_cells : Extra → List ℕ
extra_cells x = x.number ∷ span_cells x.value

unfoldable pub flag_cells : Look → List ℕ
unfolding align_cell
flag_cells x = flag x.bold ∷ flag x.italic ∷ flag x.underline ∷ flag x.strike ∷ align_cell x.align ∷ []

unfoldable pub look_cells : Look → List ℕ
unfolding color_cells size_cells flag_cells
look_cells x =
    color_cells x.has_color x.color ++ color_cells x.has_back x.back ++ optional_cells x.has_family x.family
    ++ size_cells x.has_size x.size ++ flag_cells x

unfoldable pub style_cells : Style → List ℕ
unfolding look_cells
style_cells x = span_cells x.name ++ span_cells x.chain ++ look_cells x.look ++ rows_cells x.extras

-- the f32 of a size; 0 where there is none
abbrev pub size_value : Bool → Size → Float
size_value b s = cond b s.value zero_float

unfoldable pub region_cells : Region → List ℕ
region_cells x = span_cells x.id ++ rows_cells x.extras

unfoldable pub cue_cells : Cue → List ℕ
cue_cells x =
    optional_cells x.has_style x.style ++ optional_cells x.has_region x.region
    ++ (flag x.preserve ∷ rows_cells x.segments) ++ rows_cells x.extras

-- ---- cells of a segment that has n rows
-- the 64 bits of an i64, two's complement; the low half, then the high one
unfoldable pub time_bits : ℤ → ℕ
time_bits (pos n) = n
time_bits (negsuc n) = 18446744073709551615 - n

abbrev pub halves : ℕ → List ℕ
halves b = b % 4294967296 ∷ b / 4294967296 ∷ []

-- The sign of a size, its scale and its digits as bits. A size has at most six digits and a scale of at most 10, so that none is cut.
unfoldable pub size_marks : Bool → Size → ℕ
size_marks b s = cond b (cond s.negative 2 1 * 2 + s.scale % 16 * 8 + s.digits % 33554432 * 128) 0

unfoldable pub size_bits : Bool → Size → ℕ
size_bits b s = cond b (spelled_bits s.negative s.digits s.scale) 0

unfoldable pub font_cells : Font → List ℕ
unfolding size_marks size_bits
font_cells x =
    cond x.has_family (span_cells x.family) (0 ∷ 0 ∷ [])
    ++ ((flag x.has_family + size_marks x.has_size x.size) ∷ size_bits x.has_size x.size ∷ [])

unfoldable pub segment_cells : Segment → ℕ → List ℕ
unfolding time_bits font_cells
segment_cells (Segment.Text s) n = 1 ∷ n ∷ s.place ∷ s.len ∷ 0 ∷ 0 ∷ []
segment_cells Segment.Break n = 2 ∷ n ∷ 0 ∷ 0 ∷ 0 ∷ 0 ∷ []
segment_cells (Segment.Timestamp t) n = 3 ∷ n ∷ (halves (time_bits t) ++ (0 ∷ 0 ∷ []))
segment_cells Segment.Bold n = 4 ∷ n ∷ 0 ∷ 0 ∷ 0 ∷ 0 ∷ []
segment_cells Segment.Italic n = 5 ∷ n ∷ 0 ∷ 0 ∷ 0 ∷ 0 ∷ []
segment_cells Segment.Underline n = 6 ∷ n ∷ 0 ∷ 0 ∷ 0 ∷ 0 ∷ []
segment_cells Segment.Strike n = 7 ∷ n ∷ 0 ∷ 0 ∷ 0 ∷ 0 ∷ []
segment_cells (Segment.Color c) n = 8 ∷ n ∷ c.r ∷ c.g ∷ c.b ∷ 0 ∷ []
segment_cells (Segment.Font x) n = 9 ∷ n ∷ font_cells x

-- ---- segments in preorder
abbrev pub is_some : {A : Type 0} → Option A → Bool
is_some none = false
is_some (some x) = true

abbrev pub span_or : Option Span → Span
span_or none = record { place = 0; len = 0 }
span_or (some x) = x

abbrev pub size_or : Option Size → Size
size_or none = record { value = zero_float; negative = false; digits = 0; scale = 0 }
size_or (some x) = x

-- a wrapper as a segment without its children
unfoldable pub wrapper_of : Wrapper Span → Segment
wrapper_of track.bold = Segment.Bold
wrapper_of track.italic = Segment.Italic
wrapper_of track.underline = Segment.Underline
wrapper_of track.strike = Segment.Strike
wrapper_of (track.color c) = Segment.Color c
wrapper_of (track.font a s) = Segment.Font (record {
  has_family = is_some a;
  family = span_or a;
  has_size = is_some s;
  size = size_or s;
})

-- each segment without its children, with its number of rows
pub record Sized : Type 0 where
  pub segment : Segment
  pub rows : ℕ

unfoldable pub preorder : Segments Span → List Sized
unfolding segment_rows wrapper_of
preorder track.done = []
preorder (track.text s x) = record { segment = Segment.Text s; rows = 1 } ∷ preorder x
preorder (track.break x) = record { segment = Segment.Break; rows = 1 } ∷ preorder x
preorder (track.timestamp t x) = record { segment = Segment.Timestamp t; rows = 1 } ∷ preorder x
preorder (track.wrap w c x) = record { segment = wrapper_of w; rows = 1 + segment_rows c } ∷ (preorder c ++ preorder x)

-- ---- lists of rows
unfoldable pub joined_cells : {A : Type 0} → (A → List ℕ) → List A → List ℕ
joined_cells f [] = []
joined_cells f (x ∷ l) = f x ++ joined_cells f l

unfoldable pub each : {A B : Type 0} → (A → B) → List A → List B
each f [] = []
each f (x ∷ l) = f x ∷ each f l

-- cells and zeros, n in all
abbrev pub filled : ℕ → List ℕ → List ℕ
filled n l = l ++ replicate (n - length l) 0

abbrev pub filled_times : ℕ → List ℤ → List ℤ
filled_times n l = l ++ replicate (n - length l) (pos 0)

abbrev pub filled_sizes : ℕ → List Float → List Float
filled_sizes n l = l ++ replicate (n - length l) zero_float

-- ---- placed tracks
pub record PlacedStyle : Type 0 where
  pub style : Style
  pub extras : List Extra

pub record PlacedRegion : Type 0 where
  pub region : Region
  pub extras : List Extra

pub record PlacedCue : Type 0 where
  pub cue : Cue
  pub extras : List Extra
  pub segments : Segments Span

pub record Placed : Type 0 where
  pub has_lang : Bool
  pub lang : Span
  pub params : List Param
  pub styles : List PlacedStyle
  pub regions : List PlacedRegion
  pub cues : List PlacedCue

-- extras, each list in the rows from its first on
unfoldable pub lay_extras : List ℕ → Rows → List Extra → List ℕ
unfolding joined_cells extra_cells
lay_extras t x l = sets t (x.first * 3) (joined_cells extra_cells l)

unfoldable pub style_extras : List ℕ → List PlacedStyle → List ℕ
unfolding lay_extras
style_extras t [] = t
style_extras t (x ∷ l) = style_extras (lay_extras t x.style.extras x.extras) l

unfoldable pub region_extras : List ℕ → List PlacedRegion → List ℕ
unfolding lay_extras
region_extras t [] = t
region_extras t (x ∷ l) = region_extras (lay_extras t x.region.extras x.extras) l

unfoldable pub cue_extras : List ℕ → List PlacedCue → List ℕ
unfolding lay_extras
cue_extras t [] = t
cue_extras t (x ∷ l) = cue_extras (lay_extras t x.cue.extras x.extras) l

-- all segments, one cue after the other
unfoldable pub all_segments : List PlacedCue → List Sized
unfolding preorder
all_segments [] = []
all_segments (x ∷ l) = preorder x.segments ++ all_segments l

abbrev pub style_size : PlacedStyle → Float
style_size x = size_value x.style.look.has_size x.style.look.size

abbrev pub cue_times : List PlacedCue → List ℤ
cue_times [] = []
cue_times (x ∷ l) = x.cue.start ∷ x.cue.end ∷ cue_times l

-- counts, xml:lang, and how many bytes of the byte tables are used
unfoldable pub head_cells : Placed → (u v : ℕ) → List ℕ
unfolding all_segments
head_cells k u v =
    length k.params ∷ length k.styles ∷ length k.regions ∷ length k.cues ∷ length (all_segments k.cues)
    ∷ (optional_cells k.has_lang k.lang ++ (u ∷ v ∷ []))

-- the tables, so long each; z and y are the byte tables, of which u and v bytes are used
unfoldable pub layout : Lengths → Placed → (z y : List ℕ) (u v : ℕ) → Tables
unfolding joined_cells each all_segments head_cells param_cells style_cells region_cells cue_cells segment_cells style_extras
    region_extras cue_extras
layout n k z y u v =
    let g = all_segments k.cues in
    record {
      head = filled n.head (head_cells k u v);
      params = filled n.params (joined_cells param_cells k.params);
      styles = filled n.styles (joined_cells (λ x. style_cells x.style) k.styles);
      regions = filled n.regions (joined_cells (λ x. region_cells x.region) k.regions);
      cues = filled n.cues (joined_cells (λ x. cue_cells x.cue) k.cues);
      times = filled_times n.times (cue_times k.cues);
      segments = filled n.segments (joined_cells (λ x. segment_cells x.segment x.rows) g);
      sizes = filled_sizes n.sizes (each style_size k.styles);
      extras = cue_extras (region_extras (style_extras (replicate n.extras 0) k.styles) k.regions) k.cues;
      strings = z;
      texts = y;
    }
