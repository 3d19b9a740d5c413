-- What the call for a cue's text promises: of the tables, the cue's number and the bytes that are lent, what is left in these, and the answer.
-- It holds of any tables; of a track that passes the check the text is that of the cue (`proofs/Theorem`). Definitions alone.
use Rattle.std.specs.Prelude.{Result, ℕ, ◌+◌, ◌≤◌, ◌<◌, ◌≡◌, true, List, length}
use Rattle.track.specs.Track.{Bytes}
use Rattle.track.specs.Tables.{cell, cue_count}
use Rattle.track.specs.Tables as track
use Rattle.track.specs.Meaning.{all_rows}
use Rattle.walk.specs.Text.{rows_text, row_within_of}
use Rattle.writer.specs.Promise.{Outcome, gives, meets, within, Answers}
use Rattle.tree.specs.declared.answers.Refusal.{Refusal}

-- ---- the tables that it looks at
pub record Tables : Type 0 where
  pub head : List ℕ
  pub cues : List ℕ
  pub segments : List ℕ
  pub texts : List ℕ

abbrev pub tables : (head cues segments texts : List ℕ) → Tables
tables h c g y = record { head = h; cues = c; segments = g; texts = y }

-- those of a track
abbrev pub of_track_of : track.Tables → Tables
of_track_of T = tables T.head T.cues T.segments T.texts

-- the fixed lengths: 10 cells; 2,048 cues of 11 cells; 16,384 segments of 6; 65,536 bytes
pub record LongEnough (T : Tables) : Type 0 where
  pub of_head : 10 ≤ length T.head
  pub of_cues : 22528 ≤ length T.cues
  pub of_segments : 98304 ≤ length T.segments
  pub of_texts : 65536 ≤ length T.texts

-- ---- the cue
module _ (T : Tables) (i : ℕ) where
  -- its rows among the segments: the first, and how many
  abbrev pub first_row : ℕ
  first_row = cell 11 T.cues i 7

  abbrev pub row_count : ℕ
  row_count = cell 11 T.cues i 8

  -- "17. A handed track has an index past its table": the cue's, its rows', its texts'. Nothing else of the track is looked at.
  pub record HasCue : Type 0 where
    pub counted : i < cue_count T.head
    pub row : i < 2048
    pub rows : first_row + row_count ≤ 16384
    pub within-texts : all_rows (row_within_of T.segments) row_count first_row ≡ true

  -- what it says: its texts one after the other, a line feed for each break
  abbrev pub says : Bytes
  says = rows_text T.texts T.segments row_count first_row

-- ---- what comes of the call where so many bytes are lent: "1. A lent table is shorter than its fixed length.", 17, the text, or "18. Output
-- exceeds the lent length or 65,536."
pub data Comes (T : Tables) (i lent : ℕ) : Outcome → Type 0 where
  short_table : ¬ LongEnough T → Comes T i lent (meets 1 0)
  no_cue : LongEnough T → ¬ HasCue T i → Comes T i lent (meets 17 0)
  of_cue : LongEnough T → HasCue T i → Comes T i lent (within lent (gives (says T i)))

-- ---- the promise
abbrev pub PlainText : (T : Tables) (i : ℕ) (lent : List ℕ) → Result ℕ Refusal → (left : List ℕ) → Type 0
PlainText T i lent answer left = Answers (Comes T i (length lent)) lent answer left
