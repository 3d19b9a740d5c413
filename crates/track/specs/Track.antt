-- The track as data (document 01, "What must change shape"). Definitions alone.
-- The Rust keeps parameters, chains, extras and regions as metadata under made-up keys; here each has a list of its own. Outline, shadow and
-- their colours are never read or written, and are left out.
use Rattle.std.specs.Prelude.{ℕ, ◌+◌, Bool, true, List, [], ◌∷◌, ℤ}
use Rattle.std.proofs.Math.Bool.{false}
use Rattle.std.proofs.Math.Option.{Option, none, some}
use Rattle.colors.specs.declared.read.Rgba.{Rgba}
use Rattle.decimals.specs.declared.size.Size.{Size}
use Rattle.track.specs.declared.segments.Rgb.{Rgb}
use Rattle.track.specs.declared.values.Align.{Align}

abbrev pub Bytes : Type 0
Bytes = List ℕ

-- In what follows S stands for a string: its bytes, or where they stand.

-- an attribute that is kept as it was: the number of its name in its list, and its decoded value
pub record Extra (S : Type 0) : Type 0 where
  pub number : ℕ
  pub value : S

-- a parameter of tt: its name without the prefix, and its value
pub record Param (S : Type 0) : Type 0 where
  pub name : S
  pub value : S

-- what a style says (the Rust's `SubtitleStyle` without its name)
pub record Look (S : Type 0) : Type 0 where
  pub color : Option Rgba
  pub back : Option Rgba
  pub family : Option S
  pub size : Option Size
  pub bold : Bool
  pub italic : Bool
  pub underline : Bool
  pub strike : Bool
  pub align : Align

-- a named style; `chain` is its own style attribute, where it has one that is not empty
pub record Style (S : Type 0) : Type 0 where
  pub name : S
  pub chain : Option S
  pub look : Look S
  pub extras : List (Extra S)

pub record Region (S : Type 0) : Type 0 where
  pub id : S
  pub extras : List (Extra S)

-- "A segment is text, a break, a timestamp, or a wrapper with its data."
pub data Wrapper (S : Type 0) : Type 0 where
  bold italic underline strike : Wrapper S
  color : Rgb → Wrapper S
  font : (family : Option S) (size : Option Size) → Wrapper S

-- siblings: none; or a segment and its later siblings
pub data Segments (S : Type 0) : Type 0 where
  done : Segments S
  text : S → Segments S → Segments S
  break : Segments S → Segments S
  timestamp : ℤ → Segments S → Segments S
  wrap : Wrapper S → (children : Segments S) → Segments S → Segments S

-- times in microseconds
pub record Cue (S : Type 0) : Type 0 where
  pub start : ℤ
  pub end : ℤ
  pub style : Option S
  pub region : Option S
  pub preserve : Bool
  pub extras : List (Extra S)
  pub segments : Segments S

pub record Track (S : Type 0) : Type 0 where
  pub lang : Option S
  pub params : List (Param S)
  pub styles : List (Style S)
  pub regions : List (Region S)
  pub cues : List (Cue S)

-- ---- segments
module _ {S : Type 0} where
  unfoldable pub no_segments : Segments S → Bool
  no_segments done = true
  no_segments (text s x) = false
  no_segments (break x) = false
  no_segments (timestamp t x) = false
  no_segments (wrap w c x) = false

  -- exactly one, whatever stands inside it
  unfoldable pub one_segment : Segments S → Bool
  unfolding no_segments
  one_segment done = false
  one_segment (text s x) = no_segments x
  one_segment (break x) = no_segments x
  one_segment (timestamp t x) = no_segments x
  one_segment (wrap w c x) = no_segments x

  -- how many, with all that stand inside
  unfoldable pub segment_rows : Segments S → ℕ
  segment_rows done = 0
  segment_rows (text s x) = 1 + segment_rows x
  segment_rows (break x) = 1 + segment_rows x
  segment_rows (timestamp t x) = 1 + segment_rows x
  segment_rows (wrap w c x) = 1 + segment_rows c + segment_rows x

  -- "a font without family and size"
  unfoldable pub is_bare_font : Wrapper S → Bool
  is_bare_font bold = false
  is_bare_font italic = false
  is_bare_font underline = false
  is_bare_font strike = false
  is_bare_font (color c) = false
  is_bare_font (font none none) = true
  is_bare_font (font none (some s)) = false
  is_bare_font (font (some a) s) = false

  -- the second after the first
  unfoldable pub joined : Segments S → Segments S → Segments S
  joined done g = g
  joined (text s x) g = text s (joined x g)
  joined (break x) g = break (joined x g)
  joined (timestamp t x) g = timestamp t (joined x g)
  joined (wrap w c x) g = wrap w c (joined x g)

  -- wrappers around them, the first outermost
  unfoldable pub wrapped : List (Wrapper S) → Segments S → Segments S
  wrapped [] f = f
  wrapped (x ∷ l) f = wrap x (wrapped l f) done
