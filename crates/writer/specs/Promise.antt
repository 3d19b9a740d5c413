-- What the calls that write bytes from a handed track promise, in the words of document 01: of the tables and the bytes that are lent, what is left
-- in these, and the answer. Definitions alone. Nothing here says how the program writes.
use Rattle.std.specs.Prelude.{None, Result, Ok, Err, ℕ, zero, suc, ◌-◌, ◌≡◌, Bool, cond, ◌&&◌, List, [], ◌∷◌, ◌++◌, length, replicate, leb}
use Rattle.std.proofs.Math.Option.{Option, none, some}
use Rattle.scan.specs.Posts.{written_number}
use Rattle.track.specs.Track.{Bytes, Cue, Track}
use Rattle.track.specs.Tables.{Tables, lengths, LongEnough}
use Rattle.track.specs.Meaning.{track_in}
use Rattle.written.specs.Written.{written_of, cue_written}
use Rattle.tree.specs.declared.answers.Refusal.{Refusal}

-- ---- the answer
-- "An answer has number and byte place (0 if none is named, or if a track was handed)": a text has no number, here 0; only 21 and 23 name a cue
unfoldable pub number_of : Result ℕ Refusal → ℕ
number_of (Ok n) = 0
number_of (Err r) = r.number

unfoldable pub place_of : Result ℕ Refusal → ℕ
place_of (Ok n) = 0
place_of (Err r) = r.place

-- how many bytes are written
unfoldable pub bytes_of : Result ℕ Refusal → Option ℕ
bytes_of (Ok n) = some n
bytes_of (Err r) = none

-- ---- what comes of a call: a text, or a number that is met, with its place
pub data Outcome : Type 0 where
  gives : Bytes → Outcome
  meets : (number place : ℕ) → Outcome

-- ---- what is asked for, of a track, whatever is lent
-- the whole track; or one of its cues by itself: "a cue index past the end" has none
abbrev pub whole_text : Track Bytes → Outcome
whole_text t = gives (written_of t)

unfoldable pub cue_numbered : ℕ → List (Cue Bytes) → Outcome
unfolding cue_written
cue_numbered i [] = meets 17 0
cue_numbered zero (x ∷ l) = gives (cue_written x)
cue_numbered (suc i) (x ∷ l) = cue_numbered i l

abbrev pub cue_number : ℕ → Track Bytes → Outcome
cue_number i t = cue_numbered i t.cues

-- ---- what is lent
-- "18. Output exceeds the lent length or 65,536.", the number of what is not written whole
unfoldable pub fits : ℕ → Bytes → Bool
fits lent w = leb (length w) lent && leb (length w) 65536

unfoldable pub within : ℕ → Outcome → Outcome
unfolding fits
within lent (gives w) = cond (fits lent w) (gives w) (meets (written_number None) 0)
within lent (meets n p) = meets n p

-- of the tables T, where so many bytes are lent: "1. A lent table is shorter than its fixed length.", "17. A handed track has […]", where they
-- mean none, or else what comes of what is asked for; "18 is last"
pub data Comes (asked : Track Bytes → Outcome) (T : Tables) (lent : ℕ) : Outcome → Type 0 where
  short_table : ¬ LongEnough (lengths T) → Comes asked T lent (meets 1 0)
  no_track : LongEnough (lengths T) → track_in T ≡ none → Comes asked T lent (meets 17 0)
  of_track : (t : Track Bytes) → LongEnough (lengths T) → track_in T ≡ some t → Comes asked T lent (within lent (asked t))

unfoldable pub number_in : Outcome → ℕ
number_in (gives w) = 0
number_in (meets n p) = n

unfoldable pub place_in : Outcome → ℕ
place_in (gives w) = 0
place_in (meets n p) = p

unfoldable pub count_in : Outcome → Option ℕ
count_in (gives w) = some (length w)
count_in (meets n p) = none

unfoldable pub text_in_of : Outcome → Bytes
text_in_of (gives w) = w
text_in_of (meets n p) = []

-- ---- the promise: one for every call that writes a text; `may` are the outcomes that its input allows
pub record Answers (may : Outcome → Type 0) (lent : List ℕ) (answer : Result ℕ Refusal) (left : List ℕ) : Type 0 where
  pub outcome : Outcome
  pub comes : may outcome
  -- "the number, the place"
  pub number : number_of answer ≡ number_in outcome
  pub place : place_of answer ≡ place_in outcome
  -- the text's length, where there is a text
  pub count : bytes_of answer ≡ count_in outcome
  -- "every cell of every table afterwards": the text; "unused cells are zero", after a refusal all of them
  pub bytes : left ≡ text_in_of outcome ++ replicate (length lent - length (text_in_of outcome)) 0

-- of what is asked for, of a handed track
abbrev pub Promise : (asked : Track Bytes → Outcome) (T : Tables) (lent : List ℕ) → Result ℕ Refusal → (left : List ℕ) → Type 0
Promise asked T lent answer left = Answers (Comes asked T (length lent)) lent answer left
