-- What writing a track and reading what was written promises. Definitions alone.
use Rattle.std.specs.Prelude.{Result, Ok, Err, ⊤, ◌≡◌, true, List, ℕ, ◌<◌, ◌^◌, get_or, take, ℤ, pos}
use Rattle.std.specs.Int.Signed.{mag}
use Rattle.std.proofs.Math.Option.{Option, none, some}
use Rattle.grammar.specs.Tree.{Forest}
use Rattle.grammar.specs.Grammar.{Document}
use Rattle.tree.specs.declared.answers.Refusal.{Refusal}
use Rattle.track.specs.Track.{Bytes, Track}
use Rattle.track.specs.Tables as track
use Rattle.track.specs.Meaning.{track_in}
use Rattle.track.specs.Layout.{each}
use Rattle.track.specs.Plain.{is_plain_track}
use Rattle.readback.specs.Back.{cue_back}
use Rattle.promised.specs.Promise.{Tables, AllZero, Parsed}
use Rattle.writer.specs.Promise.{Promise, whole_text}
use Rattle.ttml.specs.declared.back.NotBack.{NotBack}

-- "Reading back is `parse` on what `write` made": n bytes stand in `written`, and `left` is what `parse` leaves
pub record Back (t : Track Bytes) (n : ℕ) (written : Bytes) (left : Tables) : Type 0 where
  -- "the grammar derives the written text"
  pub tree : Forest
  pub derived : Document (take n written) tree
  -- "and reading it back gives as many cues in the same order, each with the same style, region and segments as the cue handed in, and with its
  -- start and end, each raised to 0 if negative and then rounded down to whole milliseconds" (`cue_back`)
  pub given : Track Bytes
  pub means : track_in left.track ≡ some given
  pub cues : given.cues ≡ each cue_back t.cues

-- the cells are i64
abbrev pub Signed : List ℤ → Type 0
Signed times = (i : ℕ) → mag (get_or times i (pos 0)) < 2 ^ 63

-- ---- the answer
-- how many bytes are written, where any are
abbrev pub bytes_of : Result ℕ NotBack → Option ℕ
bytes_of (Ok n) = some n
bytes_of (Err (NotBack.Unread n r)) = some n
bytes_of (Err (NotBack.Unwritten r)) = none

-- "An answer has number and byte place": those of reading, or of writing where nothing is written; none is met, here 0
abbrev pub number_of : Result ℕ NotBack → ℕ
number_of (Ok n) = 0
number_of (Err (NotBack.Unread n r)) = r.number
number_of (Err (NotBack.Unwritten r)) = r.number

abbrev pub place_of : Result ℕ NotBack → ℕ
place_of (Ok n) = 0
place_of (Err (NotBack.Unread n r)) = r.place
place_of (Err (NotBack.Unwritten r)) = r.place

-- a track, or a number with its place
abbrev pub refusal_of : Result ℕ NotBack → Refusal
refusal_of answer = record { number = number_of answer; place = place_of answer }

abbrev pub met_by : Result ℕ NotBack → Result ⊤ Refusal
met_by (Ok n) = Ok tt
met_by (Err (NotBack.Unread n r)) = Err r
met_by (Err (NotBack.Unwritten r)) = Err r

-- ---- the promise
-- so many bytes are written as `write` does it, and read as `parse` does it; or none are, with this number and place, and every cell is zero
abbrev pub Went : (T : track.Tables) (out : Bytes) (lent : Tables) → Result ℕ NotBack → (bytes : Option ℕ) → (written : Bytes)
    (left : Tables) → Type 0
Went T out lent answer (some n) written left =
    Promise whole_text T out (Ok n) written × Parsed (take n written) lent (met_by answer) left
Went T out lent answer none written left =
    Promise whole_text T out (Err (refusal_of answer)) written × AllZero lent left

pub record Returned (T : track.Tables) (out : Bytes) (lent : Tables) (answer : Result ℕ NotBack) (written : Bytes) (left : Tables) : Type 0 where
  pub went : Went T out lent answer (bytes_of answer) written left
  -- a plain track, where no number is met, comes back
  pub comes : (n : ℕ) → bytes_of answer ≡ some n → met_by answer ≡ (Ok tt) → (t : Track Bytes) → track_in T ≡ some t
      → is_plain_track t ≡ true → Back t n written left
