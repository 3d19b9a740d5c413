-- The cases that document 01 marks [P], all of them in one table. Definitions alone; proofs/Marked has one proof of the whole table.
use Rattle.std.specs.Prelude.{Result, Ok, Err, ⊤, ◌≡◌, true, false, List, [], ◌∷◌, ◌++◌, ◌⊎◌, ℤ, pos, negsuc}
use Rattle.std.proofs.Math.Option.{none, some}
use Rattle.std.specs.Float.{binary64}
use Rattle.std.specs.Float.Ieee.{of_int, le}
use Rattle.scan.specs.Text.{ascii}
use Rattle.entities.specs.Decode.{decoded}
use Rattle.times.specs.declared.offset.TimingCtx.{TimingCtx}
use Rattle.times.specs.Expressions.{float, time_in}
use Rattle.times.specs.Written.{clock_text}
use Rattle.track.specs.Track.{Bytes, Track, done}
use Rattle.track.specs.Meaning.{track_in}
use Rattle.grammar.specs.Tree.{Forest, text, element, more}
use Rattle.grammar.specs.Tree as trees
use Rattle.grammar.specs.Demand.{Derives, decode_forest}
use Rattle.promised.specs.Promise.{Tables, LongEnough, Parsed}
use Rattle.times.specs.declared.offset.TimeError.{TimeError}
use Rattle.tree.specs.declared.answers.Refusal.{Refusal}

-- a document without rates, and one with a frame rate
abbrev pub no_rates : TimingCtx
no_rates = record { frame_rate = float 0; has_frame_rate = false; tick_rate = float 0; has_tick_rate = false }

abbrev pub frame_rate_of : ℤ → TimingCtx
frame_rate_of z = record { frame_rate = of_int binary64 z; has_frame_rate = true; tick_rate = float 0; has_tick_rate = false }

-- no frame rate, or one at or below 0
abbrev pub NoFrames : TimingCtx → Type 0
NoFrames ctx = (ctx.has_frame_rate ≡ false) ⊎ (le ctx.frame_rate (float 0) ≡ true)

-- a track of one cue, from start to end, without content
abbrev pub one_cue : (start end : ℤ) → Track Bytes
one_cue a b = record {
  lang = none;
  params = [];
  styles = [];
  regions = [];
  cues = record { start = a; end = b; style = none; region = none; preserve = false; extras = []; segments = done } ∷ [];
}

-- no node
abbrev pub empty : Forest
empty = trees.none

-- an element without attributes
abbrev pub plain : Bytes → Forest → Forest → Forest
plain name content after = more (element name [] content) after

-- a text and its tree; a text and what is read for it, entities read; a time's text and what it says; a text that is no time wherever there are no
-- frames; a time and how it is written; a film and its track
pub data Case : Type 0 where
  tree : Bytes → Forest → Case
  entities : (s read : Bytes) → Case
  time : Bytes → TimingCtx → Result ℤ TimeError → Case
  frameless : Bytes → Case
  written : ℤ → Bytes → Case
  film : Bytes → Track Bytes → Case

-- what each says: the grammar derives the tree, whose texts have no entities; `parse`, lent tables that are long enough, leaves the film's track; the
-- others by the definitions of the readers and the writer
unfoldable pub Holds : Case → Type 0
Holds (tree s f) = Derives s f × (decode_forest decoded f ≡ f)
Holds (entities s read) = decoded s ≡ read
Holds (time s ctx t) = time_in s ctx ≡ t
Holds (frameless s) = (ctx : TimingCtx) → NoFrames ctx → time_in s ctx ≡ Err TimeError.Invalid
Holds (written z s) = clock_text z ≡ s
Holds (film s t) =
    (lent left : Tables) (answer : Result ⊤ Refusal) → LongEnough lent → Parsed s lent answer left
    → (answer ≡ (Ok tt)) × (track_in left.track ≡ some t)

abbrev pub All : List Case → Type 0
All [] = Unit {0}
All (c ∷ l) = Holds c × All l

abbrev pub marked : List Case
marked =
    -- "A comment directly before `</` […]: d holds one p; the second p is d's sibling."
    tree (ascii "<d><p>a<!--c--></p><p>b</p></d>")
    (plain (ascii "d") (plain (ascii "p") (more (text (ascii "a")) empty) empty) (plain (ascii "p") (more (text (ascii "b")) empty) empty))
    ∷ entities (ascii "&#+65;") (ascii "A")
    ∷ entities (ascii "&AMP;") (ascii "&AMP;")
    -- "`00:05` is hours and minutes"
    ∷ time (ascii "00:05") no_rates (Ok (pos 300000000))
    ∷ time (ascii "00:00:01.1234567") no_rates (Ok (pos 1123456))
    ∷ time (ascii "00:00:01.+5") no_rates (Ok (pos 1050000))
    ∷ time (ascii "00:00:01.5" ++ (0xC3 ∷ 0xA9 ∷ [])) no_rates (Ok (pos 1000000))  -- é
    -- "`-1s` is -1,000,000: a begin below zero moves a cue before its container"
    ∷ time (ascii "-1s") no_rates (Ok (negsuc 999999))
    ∷ film (ascii "<tt><body><div begin=\"3s\"><p begin=\"-5s\" dur=\"1s\"/></div></body></tt>") (one_cue (negsuc 1999999) (negsuc 999999))
    -- "`5f` is no time without frameRate or with one at or below 0; at 25 it is 200,000"
    ∷ frameless (ascii "5f")
    ∷ time (ascii "5f") (frame_rate_of (pos 25)) (Ok (pos 200000))
    -- "Written"
    ∷ written (negsuc 0) (ascii "00:00:00.000")
    ∷ written (pos 1999) (ascii "00:00:00.001")
    ∷ written (pos 9223372036854775807) (ascii "2562047788:00:54.775")
    ∷ []
