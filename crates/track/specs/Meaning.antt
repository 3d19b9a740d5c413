-- What tables mean: a track, or none (document 01, number 17). Definitions alone.
use Prim.Native.Nat.{ℕ, zero, suc, ◌+◌, ◌-◌, ◌*◌}
use Rattle.std.specs.Prelude.{Bool, true, ◌&&◌, ◌||◌, List, length, get_or, take, Float}
use Rattle.std.proofs.Math.Bool.{cond}
use Rattle.std.proofs.Math.Option.{Option, none, some}
use Rattle.std.proofs.Math.Dec.{eqb, leb, ltb}
use Rattle.scan.specs.Part.{string_at}
use Rattle.scan.specs.Bytes.{attr_name_byte}
use Rattle.scan.specs.Every.{every}
use Rattle.utf8.specs.Utf8.{boundary, utf8_end}
use Rattle.decimals.specs.Size.{is_size, is_spelling, spelled_bits}
use Rattle.track.specs.declared.values.Extra.{Extra}
use Rattle.track.specs.declared.values.Rows.{Rows}
use Rattle.track.specs.Track.{Bytes, Style, Region, Cue, Track}
use Rattle.track.specs.Tables.{Tables, cell, span, rows_from, size_cell, extra_at, param_at, style_at, region_at, segments_at, cue_at}
use Rattle.track.specs.Tables.{family_mark, sign_mark, scale_mark, digits_mark}
use Rattle.track.specs.Tables.{param_count, style_count, region_count, cue_count, segment_count, strings_used, texts_used}
use Rattle.track.specs.Layout.{Placed, PlacedStyle, PlacedRegion, PlacedCue}
use Rattle.track.specs.Shown.{shown_style, shown_region, shown_cue, shown}
unfoldable pub use Rattle.track.specs.Shown.{bytes_at, given, look_in_of}

-- ---- cells
unfoldable pub is_flag : ℕ → Bool
is_flag c = leb c 1

-- A string is within the used bytes z, which are UTF-8, and begins and ends between characters, so it is UTF-8 too.
unfoldable pub is_span : List ℕ → ℕ → ℕ → Bool
is_span z p n = leb (p + n) (length z) && boundary z p && boundary z (p + n)

-- a string that may be absent: flag, place, length
unfoldable pub is_optional : List ℕ → ℕ → ℕ → ℕ → Bool
unfolding is_span
is_optional z c p n = eqb c 0 || eqb c 1 && is_span z p n

unfoldable pub is_byte : ℕ → Bool
is_byte c = ltb c 256

-- three of them
unfoldable pub are_three : List ℕ → ℕ → Bool
unfolding is_byte
are_three t i = is_byte (get_or t i 0) && is_byte (get_or t (i + 1) 0) && is_byte (get_or t (i + 2) 0)

-- flag, red, green, blue, alpha, from cell i on
unfoldable pub is_color : List ℕ → ℕ → Bool
unfolding are_three is_byte
is_color t i = eqb (get_or t i 0) 0 || eqb (get_or t i 0) 1 && are_three t (i + 1) && is_byte (get_or t (i + 4) 0)

-- "a size spelling past the digit limits or not what `{}` prints for its f32"
unfoldable pub is_size_at : ℕ → ℕ → ℕ → Float → Bool
is_size_at sign digits scale value =
    eqb sign 0 || leb sign 2 && is_size (record { value = value; negative = eqb sign 2; digits = digits; scale = scale })

-- the same of a font's marks, with the bits of the f32
unfoldable pub is_marked : (marks bits : ℕ) → Bool
unfolding spelled_bits
is_marked m bits =
    eqb (sign_mark m) 0
    || (leb (sign_mark m) 2
    && is_spelling (digits_mark m) (scale_mark m)
    && eqb bits (spelled_bits (eqb (sign_mark m) 2) (digits_mark m) (scale_mark m)))

-- ---- extras: names of a list of `most`, in its order, none twice: each number is at least `least`
unfoldable pub is_extra : List ℕ → List ℕ → (most least i : ℕ) → Bool
unfolding cell is_span
is_extra t z most least i = leb least (cell 3 t i 0) && ltb (cell 3 t i 0) most && is_span z (cell 3 t i 1) (cell 3 t i 2)

unfoldable pub are_extras : List ℕ → List ℕ → (most least n i : ℕ) → Bool
unfolding is_extra
are_extras t z most least zero i = true
are_extras t z most least (suc n) i = is_extra t z most least i && are_extras t z most (cell 3 t i 0 + 1) n (i + 1)

-- n of them from row `first` on, within the table's 8,192 rows
unfoldable pub has_extras : List ℕ → List ℕ → (most first n : ℕ) → Bool
unfolding are_extras
has_extras t z most first n = leb (first + n) 8192 && are_extras t z most 0 n first

-- ---- rows
-- "a parameter name with blank, `=`, `>` or `/`": such bytes end an attribute's name
unfoldable pub is_param : List ℕ → List ℕ → ℕ → Bool
unfolding cell is_span
is_param t z i =
    let c = cell 4 t i in
    is_span z (c 0) (c 1) && is_span z (c 2) (c 3) && every attr_name_byte (string_at z (c 0) (c 1))

-- a style's row, from cell i on
unfoldable pub style_strings : List ℕ → List ℕ → ℕ → Bool
unfolding is_span is_optional
style_strings t z i =
    is_span z (get_or t i 0) (get_or t (i + 1) 0) && is_span z (get_or t (i + 2) 0) (get_or t (i + 3) 0)
    && is_optional z (get_or t (i + 14) 0) (get_or t (i + 15) 0) (get_or t (i + 16) 0)

unfoldable pub style_values : List ℕ → Float → ℕ → Bool
unfolding is_color is_size_at
style_values t v i = is_color t (i + 4) && is_color t (i + 9) && is_size_at (get_or t (i + 17) 0) (get_or t (i + 18) 0) (get_or t (i + 19) 0) v

unfoldable pub style_flags : List ℕ → ℕ → Bool
unfolding is_flag
style_flags t i =
    is_flag (get_or t (i + 20) 0) && is_flag (get_or t (i + 21) 0) && is_flag (get_or t (i + 22) 0) && is_flag (get_or t (i + 23) 0)
    && leb (get_or t (i + 24) 0) 4

unfoldable pub is_style : (styles : List ℕ) (sizes : List Float) (extras strings : List ℕ) → ℕ → Bool
unfolding style_strings style_values style_flags has_extras
is_style t f e z i =
    style_strings t z (i * 27) && style_values t (size_cell f i) (i * 27) && style_flags t (i * 27)
    && has_extras e z 46 (get_or t (i * 27 + 25) 0) (get_or t (i * 27 + 26) 0)

unfoldable pub is_region : (regions extras strings : List ℕ) → ℕ → Bool
unfolding cell is_span has_extras
is_region t e z i = is_span z (cell 4 t i 0) (cell 4 t i 1) && has_extras e z 53 (cell 4 t i 2) (cell 4 t i 3)

-- ---- segments; z are the used strings, y the used texts
module _ (t z y : List ℕ) where
  unfoldable pub is_font : ℕ → Bool
  unfolding cell is_optional is_marked
  is_font i =
      let c = cell 6 t i in
      is_optional z (family_mark (c 4)) (c 2) (c 3) && is_marked (c 4) (c 5)

  -- row i by itself: a known kind with its data; a text, break or timestamp has no rows but its own
  unfoldable pub is_segment : ℕ → Bool
  unfolding cell is_span are_three is_font
  is_segment i =
      let c = cell 6 t i in
      cond (eqb (c 0) 1) (eqb (c 1) 1 && is_span y (c 2) (c 3))
      (cond (eqb (c 0) 2) (eqb (c 1) 1)
      (cond (eqb (c 0) 3) (eqb (c 1) 1)
      (cond (eqb (c 0) 8) (are_three t (i * 6 + 2))
      (cond (eqb (c 0) 9) (is_font i)
      (leb 4 (c 0) && leb (c 0) 7)))))

  -- n rows from row i on, of which the first k are passed over, are segments, one after the other; `kids m j` says it of the m rows from row
  -- j on that stand inside one
  unfoldable pub are_siblings : (ℕ → ℕ → Bool) → (n k i : ℕ) → Bool
  unfolding cell is_segment
  are_siblings kids zero k i = eqb k 0
  are_siblings kids (suc n) (suc k) i = are_siblings kids n k (i + 1)
  are_siblings kids (suc n) zero i =
      let m = cell 6 t i 1 in
      is_segment i && ltb 0 m && leb m (suc n) && kids (m - 1) (i + 1) && are_siblings kids n (m - 1) (i + 1)

  -- the same, nested at most d
  unfoldable pub are_segments : (d n i : ℕ) → Bool
  unfolding are_siblings
  are_segments zero n i = eqb n 0
  are_segments (suc d) n i = are_siblings (are_segments d) n 0 i

-- ---- cues
-- the strings, the flag and the extras of a cue
unfoldable pub cue_values : (cues extras strings : List ℕ) → ℕ → Bool
unfolding cell is_flag is_optional has_extras
cue_values t e z i =
    let c = cell 11 t i in
    is_optional z (c 0) (c 1) (c 2) && is_optional z (c 3) (c 4) (c 5) && is_flag (c 6) && has_extras e z 47 (c 9) (c 10)

module _ (t e g z y : List ℕ) (most : ℕ) where
  -- a cue whose segments begin at row `from`, where there are `most` in all; t are the cues, e the extras, g the segments
  unfoldable pub is_cue : (from i : ℕ) → Bool
  unfolding cell cue_values are_segments
  is_cue from i =
      let c = cell 11 t i in
      cue_values t e z i && eqb (c 7) from && leb (from + c 8) most && are_segments g z y 512 (c 8) from

  -- n cues from row i on, the segments of each standing after those of the one before, and none after the last
  unfoldable pub are_cues : (from n i : ℕ) → Bool
  unfolding is_cue
  are_cues from zero i = eqb from most
  are_cues from (suc n) i = is_cue from i && are_cues (from + cell 11 t i 8) n (i + 1)

-- ---- the whole
-- n rows from row i on pass the test
unfoldable pub all_rows : (ℕ → Bool) → ℕ → ℕ → Bool
all_rows p zero i = true
all_rows p (suc n) i = p i && all_rows p n (i + 1)

-- "styles, regions 256; parameters 64; cues 2,048; segments 16,384"; the byte tables have 65,536 cells
unfoldable pub within_limits : List ℕ → Bool
within_limits t =
    leb (param_count t) 64 && leb (style_count t) 256 && leb (region_count t) 256 && leb (cue_count t) 2048 && leb (segment_count t) 16384
    && leb (strings_used t) 65536 && leb (texts_used t) 65536

-- the used bytes of a table are UTF-8
unfoldable pub is_utf8 : List ℕ → Bool
is_utf8 z = eqb (utf8_end z) (length z)

-- the used bytes z of the strings and y of the texts; xml:lang
unfoldable pub bytes_mean : List ℕ → List ℕ → List ℕ → Bool
unfolding is_utf8 is_optional
bytes_mean t z y = is_utf8 z && is_utf8 y && is_optional z (get_or t 5 0) (get_or t 6 0) (get_or t 7 0)

-- parameters, styles and regions
unfoldable pub rows_mean : (head params styles regions : List ℕ) (sizes : List Float) (extras z : List ℕ) → Bool
unfolding is_param is_style is_region all_rows
rows_mean t p s r f e z =
    all_rows (is_param p z) (param_count t) 0 && all_rows (is_style s f e z) (style_count t) 0 && all_rows (is_region r e z) (region_count t) 0

unfoldable pub is_track : Tables → Bool
unfolding within_limits bytes_mean rows_mean are_cues
is_track T =
    let t = T.head in
    let z = take (strings_used t) T.strings in
    let y = take (texts_used t) T.texts in
    within_limits t && bytes_mean t z y && rows_mean t T.params T.styles T.regions T.sizes T.extras z
    && are_cues T.cues T.extras T.segments z y (segment_count t) 0 (cue_count t) 0

-- ---- the track
-- the placed track: what the rows say
module _ (T : Tables) where
  abbrev pub extras_at : Rows → List Extra
  extras_at x = rows_from (extra_at T.extras) x.count x.first

  unfoldable pub placed_style : ℕ → PlacedStyle
  unfolding style_at extra_at rows_from
  placed_style i = let x = style_at T.styles T.sizes i in record { style = x; extras = extras_at x.extras }

  unfoldable pub placed_region : ℕ → PlacedRegion
  unfolding region_at extra_at rows_from
  placed_region i = let x = region_at T.regions i in record { region = x; extras = extras_at x.extras }

  unfoldable pub placed_cue : ℕ → PlacedCue
  unfolding cue_at segments_at extra_at rows_from
  placed_cue i =
      let x = cue_at T.cues T.times i in
      record {
        cue = x;
        extras = extras_at x.extras;
        segments = segments_at T.segments 512 x.segments.count x.segments.first;
      }

  unfoldable pub placed_in : Placed
  unfolding rows_from param_at placed_style placed_region placed_cue
  placed_in = record {
    has_lang = eqb (get_or T.head 5 0) 1;
    lang = span (get_or T.head 6 0) (get_or T.head 7 0);
    params = rows_from (param_at T.params) (param_count T.head) 0;
    styles = rows_from placed_style (style_count T.head) 0;
    regions = rows_from placed_region (region_count T.head) 0;
    cues = rows_from placed_cue (cue_count T.head) 0;
  }

  -- a style, a region, a cue by itself
  unfoldable pub style_in : ℕ → Style Bytes
  unfolding placed_style shown_style
  style_in i = shown_style T.strings (placed_style i)

  unfoldable pub region_in : ℕ → Region Bytes
  unfolding placed_region shown_region
  region_in i = shown_region T.strings (placed_region i)

  unfoldable pub cue_in : ℕ → Cue Bytes
  unfolding placed_cue shown_cue
  cue_in i = shown_cue T.strings T.texts (placed_cue i)

  unfoldable pub track_at : Track Bytes
  unfolding placed_in shown
  track_at = shown placed_in T.strings T.texts

-- what the tables mean: the track that they hold, or none
unfoldable pub track_in : Tables → Option (Track Bytes)
unfolding is_track track_at
track_in T = cond (is_track T) (some (track_at T)) none
