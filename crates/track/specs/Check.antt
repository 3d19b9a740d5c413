-- What `check_track` promises: of the tables, and of the answer. Definitions alone.
use Rattle.std.specs.Prelude.{Result, Ok, Err, ⊤, ℕ, ◌<◌, ◌≡◌, ◌↔◌}
use Rattle.std.proofs.Math.Option.{none, some}
use Rattle.track.specs.Track.{Bytes}
use Rattle.track.specs.Track as track
use Rattle.track.specs.Tables.{Tables, lengths, LongEnough}
use Rattle.track.specs.Meaning.{track_in}
use Rattle.tree.specs.declared.answers.Refusal.{Refusal}
-- the same as a test of the lengths, and as the answer that the tests give (`proofs/Exactly`: it keeps the promise, and nothing else does)
unfoldable pub use Rattle.track.specs.Steps.{rows_full, rest_full, is_full, refused_as_of, check_of}

-- ---- the answer: a track has no number, here 0
unfoldable pub number_of : Result ⊤ Refusal → ℕ
number_of (Ok tt) = 0
number_of (Err r) = r.number

unfoldable pub place_of : Result ⊤ Refusal → ℕ
place_of (Ok tt) = 0
place_of (Err r) = r.place

abbrev pub Says : Result ⊤ Refusal → (number place : ℕ) → Type 0
Says answer n p = (number_of answer ≡ n) × (place_of answer ≡ p)

-- ---- what is turned away; "for a handed track 17 comes after" 1, and its place is 0
pub data TurnsAway (T : Tables) : (number place : ℕ) → Type 0 where
  -- "1. A lent table is shorter than its fixed length."
  short_table : ¬ LongEnough (lengths T) → TurnsAway T 1 0
  -- "17. A handed track has …": the tables mean none
  no_track : LongEnough (lengths T) → track_in T ≡ none → TurnsAway T 17 0

-- ---- the promise
pub record Checked (T : Tables) (answer : Result ⊤ Refusal) : Type 0 where
  -- it answers without a number exactly if the tables are long enough and mean a track
  pub taken : (answer ≡ (Ok tt)) ↔ (LongEnough (lengths T) × ((t : track.Track Bytes) × (track_in T ≡ some t)))
  -- and else with that number and place, and with no other
  pub refused : (n p : ℕ) → 0 < n → Says answer n p ↔ TurnsAway T n p
