-- Where what is asked stands in the tables: the strings that are resolved, and what a region says itself, in cells. Definitions alone.
--     r are the regions, e the extras, z the strings
use Rattle.std.specs.Prelude as rust
use Rattle.std.specs.Prelude.{Some, None, ℕ, ◌≤◌, ◌<◌, ◌≡◌, cond, List, [], length}
use Rattle.std.proofs.Math.Option.{Option, none, some}
use Rattle.track.specs.declared.strings.Span.{Span}
use Rattle.track.specs.declared.values.Look as values
use Rattle.track.specs.declared.values.Cue.{Cue}
use Rattle.track.specs.Track.{Bytes, Look, Extra}
use Rattle.track.specs.Tables.{Tables, span, rows_from, style_count, region_count, cue_count, extra_at, region_at, cue_at}
use Rattle.track.specs.Layout.{each, is_some}
use Rattle.track.specs.Shown.{bytes_at, shown_extra}
use Rattle.records.specs.Find.{first_row}
use Rattle.styles.specs.Own.{Read, is, next, value_of, own_values}
use Rattle.styles.specs.Cells.{no_color, no_size_of, blank_look}
use Rattle.styles.specs.Places.{row, WalkedAt, start_at, Resolves}
use Rattle.queries.specs.declared.region.Part.{Part}

-- ---- a region
-- what is there, or what stands in the cells where nothing is
abbrev pub or_zero : {A : Type 0} → A → Option A → A
or_zero empty none = empty
or_zero empty (some x) = x

-- what a style says in cells; the family by its place
abbrev pub cells_of : Look Bytes → Option Span → values.Look
cells_of x family = record {
  has_color = is_some x.color;
  color = or_zero no_color x.color;
  has_back = is_some x.back;
  back = or_zero no_color x.back;
  has_family = is_some family;
  family = or_zero (span 0 0) family;
  has_size = is_some x.size;
  size = or_zero no_size_of x.size;
  bold = x.bold;
  italic = x.italic;
  underline = x.underline;
  strike = x.strike;
  align = x.align;
}

-- the kept attributes in `many` rows from row `first` on: their values as bytes, and where these stand
abbrev pub extras_of : (e z : List ℕ) → (first many : ℕ) → List (Extra Bytes)
extras_of e z first many = each (shown_extra z) (rows_from (extra_at e) many first)

abbrev pub extras_at : (e : List ℕ) → (first many : ℕ) → List (Extra Span)
extras_at e first many = rows_from (λ i. record { number = (extra_at e i).number; value = (extra_at e i).value }) many first

unfoldable pub blank_part : Part
unfolding blank_look
blank_part = record { look = blank_look; chain = span 0 0 }

-- what the first region of this id says itself, and where its chain stands; nothing where there is none
abbrev pub part_of : (r e z : List ℕ) → rust.Option ℕ → Read Part
part_of r e z (Some i) =
    let x = (region_at r i).extras in
    next (own_values (extras_of e z x.first x.count)) λ own.
    is (record {
      look = cells_of own (value_of "tts:fontFamily" (extras_at e x.first x.count));
      chain = or_zero (span 0 0) (value_of "style" (extras_at e x.first x.count));
    })
part_of r e z None = is blank_part

unfoldable pub part_at : (r e z : List ℕ) → ℕ → Bytes → Read Part
unfolding first_row region_at extra_at rows_from each shown_extra own_values value_of blank_part
part_at r e z n id = part_of r e z (first_row r z id 4 n 0)

-- ---- the three queries: v is what is known at the end of the walk
module _ (text : Bytes) (T : Tables) where
  -- two values where they stand, and a look between them
  abbrev pub PlacedValues : (source : ℕ) → (one two : Span) → values.Look → WalkedAt → Type 0
  PlacedValues source one two look v =
      Resolves text T.styles T.sizes T.strings (style_count T.head) (row source one) (row 1 two) look v

  -- what a region says, and a value after it
  pub record PlacedPart (part : Read Part) (two : Span) (v : WalkedAt) : Type 0 where
    pub region : Part
    pub said : part ≡ is region
    pub resolved : PlacedValues 1 region.chain two region.look v

module _ (T : Tables) where
  abbrev pub region_named : Bytes → Read Part
  region_named id = part_at T.regions T.extras T.strings (region_count T.head) id

  abbrev pub region_of : Cue → Read Part
  region_of c = cond c.has_region (region_named (bytes_at T.strings c.region)) (is blank_part)

-- the value is the text
abbrev pub PlacedValue : Bytes → Tables → WalkedAt → Type 0
PlacedValue value T v = PlacedValues value T 0 (span 0 (length value)) (span 0 0) blank_look v

abbrev pub PlacedRegion : Bytes → Tables → WalkedAt → Type 0
PlacedRegion id T v = PlacedPart id T (region_named T id) (span 0 0) v

pub data PlacedCue (T : Tables) (i : ℕ) (v : WalkedAt) : Type 0 where
  past : cue_count T.head ≤ i → v ≡ start_at → PlacedCue T i v
  there : i < cue_count T.head → PlacedPart [] T (region_of T (cue_at T.cues T.times i)) (cue_at T.cues T.times i).style v
      → PlacedCue T i v
