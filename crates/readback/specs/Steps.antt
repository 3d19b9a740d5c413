-- The read-back said of definitions alone (`ReadsBack`), and what is known of a track that was checked: the way to what `ttml/specs/Demands` says of
-- the calls. It need not be believed.
use Rattle.std.specs.Prelude.{ℕ, ◌+◌, ◌^◌, ◌≤◌, ◌<◌, ◌≡◌, Bool, true, false, cond, ◌&&◌, List, [], ◌∷◌, eqb, length}
use Rattle.std.proofs.Math.Option.{none}
use Rattle.std.specs.Int.Signed.{mag}
use Rattle.track.specs.Track.{Bytes, Wrapper, Segments, Cue, Extra, Track}
use Rattle.track.specs.Track as track
use Rattle.track.specs.Layout.{each}
use Rattle.track.specs.Placing.{SizeFits, All}
use Rattle.track.specs.Plain.{is_plain_cue, is_plain_track}
use Rattle.grammar.specs.Grammar.{Document}
use Rattle.meaning.specs.Answers.{is, refused}
use Rattle.meaning.specs.Space.{white}
use Rattle.meaning.specs.Steps.{parsed}
use Rattle.written.specs.Written.{written_of}
use Rattle.readback.specs.Back.{back_time, cue_back}
use Rattle.written.specs.Shape.{NamesFit, tree_of}

-- ---- a single cue has no region, mode or extras
unfoldable pub back_single : Cue Bytes → Cue Bytes
back_single x = record {
  start = back_time x.start;
  end = back_time x.end;
  style = x.style;
  region = none;
  preserve = false;
  extras = [];
  segments = x.segments;
}

-- A single cue is read in collapse mode. A text is tight if its white space is single spaces, each between two visible bytes; `visible` says
-- that a visible byte stands before. Such a text is read as it is, wherever it stands.
unfoldable pub tight_from : (visible : Bool) → Bytes → Bool
tight_from visible [] = visible
tight_from visible (b ∷ s) = cond (white b) (visible && eqb b 32 && tight_from false s) (tight_from true s)

abbrev pub Tight : Bytes → Type 0
Tight s = tight_from false s ≡ true

-- ---- what a checked track has (document 01, number 17)
-- extras: "in their listed order", none twice, of 47 names
abbrev pub Rising : (least : ℕ) → List (Extra Bytes) → Type 0
Rising least [] = Unit {0}
Rising least (x ∷ l) = (least ≤ x.number) × (x.number < 47) × Rising (x.number + 1) l

-- channels are bytes, sizes are sizes
abbrev pub WrapperChecked : Wrapper Bytes → Type 0
WrapperChecked track.bold = Unit {0}
WrapperChecked track.italic = Unit {0}
WrapperChecked track.underline = Unit {0}
WrapperChecked track.strike = Unit {0}
WrapperChecked (track.color c) = (c.r < 256) × (c.g < 256) × (c.b < 256)
WrapperChecked (track.font a s) = SizeFits s

abbrev pub SegmentsChecked : Segments Bytes → Type 0
SegmentsChecked track.done = Unit {0}
SegmentsChecked (track.text s x) = SegmentsChecked x
SegmentsChecked (track.break x) = SegmentsChecked x
SegmentsChecked (track.timestamp t x) = SegmentsChecked x
SegmentsChecked (track.wrap w c x) = WrapperChecked w × SegmentsChecked c × SegmentsChecked x

-- times are i64
pub record CueChecked (x : Cue Bytes) : Type 0 where
  pub start : mag x.start < 2 ^ 63
  pub end : mag x.end < 2 ^ 63
  pub extras : Rising 0 x.extras
  pub segments : SegmentsChecked x.segments

-- every cue is plain, and was checked
abbrev pub CuesPlain : List (Cue Bytes) → Type 0
CuesPlain [] = Unit {0}
CuesPlain (x ∷ l) = (is_plain_cue x ≡ true) × CueChecked x × CuesPlain l

-- ---- the demand on a plain track (document 01)
-- "neither its writing nor its written text meets a number"
pub record MeetsNone (t : Track Bytes) : Type 0 where
  -- 17, of what the cues and the parameters say: "extras out of their listed order or twice […], a size spelling past the digit limits or not
  -- what `{}` prints for its f32, or a parameter name with blank, `=`, `>` or `/`"
  pub cues : All CueChecked t.cues
  pub names : NamesFit t
  -- 18, where enough is lent
  pub short : length (written_of t) ≤ 65536
  pub read : (number place : ℕ) → parsed (written_of t) ≡ refused number place → ⊥

-- "A plain track: every cue preserves space; no strike, no timestamp; no empty text, no two texts adjacent; a font without family and size
-- never has exactly one child and is never a cue's only segment; neither its writing nor its written text meets a number."
pub record Plain (t : Track Bytes) : Type 0 where
  pub shape : is_plain_track t ≡ true
  pub unmet : MeetsNone t

-- "For every plain track […] the grammar derives the written text, and reading it back gives as many cues in the same order, each with the
-- same style, region and segments as the cue handed in, and with its start and end, each raised to 0 if negative and then rounded down to
-- whole milliseconds."
pub record ReadsBack (t : Track Bytes) : Type 0 where
  pub derived : Document (written_of t) (tree_of t)
  pub given : Track Bytes
  pub read : parsed (written_of t) ≡ is given
  pub cues : given.cues ≡ each cue_back t.cues
