-- When a placed track fits its tables (`Layout`). Definitions alone.
use Rattle.std.specs.Prelude.{ℕ, ◌+◌, ◌≤◌, ◌<◌, max, ◌≡◌, Bool, true, List, [], ◌∷◌, ◌++◌, ◌⊎◌, length, take, ℤ, pos, negsuc}
use Rattle.std.proofs.Math.Option.{Option, none, some}
use Rattle.scan.specs.Part.{string_at}
use Rattle.scan.specs.Bytes.{attr_name_byte}
use Rattle.scan.specs.Every.{every}
use Rattle.colors.specs.declared.read.Rgba.{Rgba}
use Rattle.decimals.specs.declared.size.Size.{Size}
use Rattle.decimals.specs.Size.{is_size}
use Rattle.track.specs.declared.strings.Span.{Span}
use Rattle.track.specs.declared.values.Param.{Param}
use Rattle.track.specs.declared.values.Extra.{Extra}
use Rattle.track.specs.declared.values.Rows.{Rows}
use Rattle.track.specs.Track.{Wrapper, Segments, segment_rows}
use Rattle.track.specs.Track as track
use Rattle.track.specs.Meaning.{is_span, is_utf8}
use Rattle.track.specs.Layout.{Placed, PlacedStyle, PlacedRegion, PlacedCue, each, all_segments}

-- ---- when it fits: z are the used bytes of the strings, y those of the texts
abbrev pub All : {A : Type 0} → (A → Type 0) → List A → Type 0
All P [] = Unit {0}
All P (x ∷ l) = P x × All P l

abbrev pub Within : List ℕ → Span → Type 0
Within z x = is_span z x.place x.len ≡ true

-- what may be absent fits where it is there
abbrev pub WithinIf : List ℕ → Bool → Span → Type 0
WithinIf z b x = b ≡ true → Within z x

abbrev pub ColorIf : Bool → Rgba → Type 0
ColorIf b c = b ≡ true → (c.r < 256) × (c.g < 256) × (c.b < 256) × (c.a < 256)

abbrev pub SizeIf : Bool → Size → Type 0
SizeIf b s = b ≡ true → is_size s ≡ true

-- extras: their numbers rise, from `least` on and below `most`
abbrev pub Rising : List ℕ → (most least : ℕ) → List Extra → Type 0
Rising z most least [] = Unit {0}
Rising z most least (x ∷ l) = (least ≤ x.number) × (x.number < most) × Within z x.value × Rising z most (x.number + 1) l

-- and the rows where they stand are as many, and within the table
pub record ExtrasFit (z : List ℕ) (most : ℕ) (x : Rows) (l : List Extra) : Type 0 where
  pub many : x.count ≡ length l
  pub room : x.first + x.count ≤ 8192
  pub rising : Rising z most 0 l

pub record ParamFits (z : List ℕ) (x : Param) : Type 0 where
  pub name : Within z x.name
  pub value : Within z x.value
  pub letters : every attr_name_byte (string_at z x.name.place x.name.len) ≡ true

pub record StyleFits (z : List ℕ) (x : PlacedStyle) : Type 0 where
  pub name : Within z x.style.name
  pub chain : Within z x.style.chain
  pub color : ColorIf x.style.look.has_color x.style.look.color
  pub back : ColorIf x.style.look.has_back x.style.look.back
  pub family : WithinIf z x.style.look.has_family x.style.look.family
  pub size : SizeIf x.style.look.has_size x.style.look.size
  pub extras : ExtrasFit z 46 x.style.extras x.extras

pub record RegionFits (z : List ℕ) (x : PlacedRegion) : Type 0 where
  pub id : Within z x.region.id
  pub extras : ExtrasFit z 53 x.region.extras x.extras

-- how deep segments are nested: 1 where no wrapper has any inside
unfoldable pub depth : {S : Type 0} → Segments S → ℕ
depth track.done = 0
depth (track.text s x) = max 1 (depth x)
depth (track.break x) = max 1 (depth x)
depth (track.timestamp t x) = max 1 (depth x)
depth (track.wrap w c x) = max (1 + depth c) (depth x)

abbrev pub FamilyFits : List ℕ → Option Span → Type 0
FamilyFits z none = Unit {0}
FamilyFits z (some x) = Within z x

abbrev pub SizeFits : Option Size → Type 0
SizeFits none = Unit {0}
SizeFits (some s) = is_size s ≡ true

abbrev pub WrapperFits : List ℕ → Wrapper Span → Type 0
WrapperFits z track.bold = Unit {0}
WrapperFits z track.italic = Unit {0}
WrapperFits z track.underline = Unit {0}
WrapperFits z track.strike = Unit {0}
WrapperFits z (track.color c) = (c.r < 256) × (c.g < 256) × (c.b < 256)
WrapperFits z (track.font a s) = FamilyFits z a × SizeFits s

-- a time is an i64
abbrev pub TimeFits : ℤ → Type 0
TimeFits (pos n) = n < 9223372036854775808
TimeFits (negsuc n) = n < 9223372036854775808

abbrev pub SegmentsFit : (z y : List ℕ) → Segments Span → Type 0
SegmentsFit z y track.done = Unit {0}
SegmentsFit z y (track.text s x) = Within y s × SegmentsFit z y x
SegmentsFit z y (track.break x) = SegmentsFit z y x
SegmentsFit z y (track.timestamp t x) = TimeFits t × SegmentsFit z y x
SegmentsFit z y (track.wrap w c x) = WrapperFits z w × SegmentsFit z y c × SegmentsFit z y x

pub record CueFits (z y : List ℕ) (x : PlacedCue) : Type 0 where
  pub style : WithinIf z x.cue.has_style x.cue.style
  pub region : WithinIf z x.cue.has_region x.cue.region
  pub extras : ExtrasFit z 47 x.cue.extras x.extras
  pub segments : SegmentsFit z y x.segments
  pub nested : depth x.segments ≤ 512

-- the segments of each cue stand after those of the one before, from row `from` on
abbrev pub InTurn : ℕ → List PlacedCue → Type 0
InTurn from [] = Unit {0}
InTurn from (x ∷ l) =
    (x.cue.segments.first ≡ from) × (x.cue.segments.count ≡ segment_rows x.segments) × InTurn (from + segment_rows x.segments) l

-- rows of extras, of all elements: no two overlap, and where there are none nothing does
pub record Laid : Type 0 where
  pub rows : Rows
  pub extras : List Extra

unfoldable pub laid_style : PlacedStyle → Laid
laid_style x = record { rows = x.style.extras; extras = x.extras }

unfoldable pub laid_region : PlacedRegion → Laid
laid_region x = record { rows = x.region.extras; extras = x.extras }

unfoldable pub laid_cue : PlacedCue → Laid
laid_cue x = record { rows = x.cue.extras; extras = x.extras }

unfoldable pub laid : Placed → List Laid
unfolding each laid_style laid_region laid_cue
laid k = each laid_style k.styles ++ (each laid_region k.regions ++ each laid_cue k.cues)

abbrev pub Apart : Rows → Rows → Type 0
Apart x y = 0 < x.count → 0 < y.count → (x.first + x.count ≤ y.first) ⊎ (y.first + y.count ≤ x.first)

abbrev pub AllApart : List Laid → Type 0
AllApart [] = Unit {0}
AllApart (x ∷ l) = All (λ y. Apart x.rows y.rows) l × AllApart l

-- u bytes of z and v bytes of y are used
pub record Fits (k : Placed) (z y : List ℕ) (u v : ℕ) : Type 0 where
  pub few_params : length k.params ≤ 64
  pub few_styles : length k.styles ≤ 256
  pub few_regions : length k.regions ≤ 256
  pub few_cues : length k.cues ≤ 2048
  pub few_segments : length (all_segments k.cues) ≤ 16384
  pub few_strings : u ≤ 65536
  pub few_texts : v ≤ 65536
  pub all_strings : u ≤ length z
  pub all_texts : v ≤ length y
  pub strings : is_utf8 (take u z) ≡ true
  pub texts : is_utf8 (take v y) ≡ true
  pub lang : WithinIf (take u z) k.has_lang k.lang
  pub params : All (ParamFits (take u z)) k.params
  pub styles : All (StyleFits (take u z)) k.styles
  pub regions : All (RegionFits (take u z)) k.regions
  pub cues : All (CueFits (take u z) (take v y)) k.cues
  pub in_turn : InTurn 0 k.cues
  pub apart : AllApart (laid k)
