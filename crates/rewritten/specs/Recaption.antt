-- What reading a text and writing it anew promises. Definitions alone.
use Rattle.std.specs.Prelude.{ℕ, Result, Ok, Err, ⊤, ◌≡◌, length, replicate}
use Rattle.track.specs.Track.{Bytes}
use Rattle.track.specs.Tables as track
use Rattle.promised.specs.Promise.{Tables, Parsed}
use Rattle.writer.specs.Promise.{Promise, whole_text}
use Rattle.tree.specs.declared.answers.Refusal.{Refusal}

-- after the text was read: its track is written; or the answer is the reader's number and place, and nothing is written
abbrev pub ThenWritten : Result ⊤ Refusal → (T : track.Tables) (out : Bytes) → Result ℕ Refusal → (written : Bytes) → Type 0
ThenWritten (Ok tt) T out answer written = Promise whole_text T out answer written
ThenWritten (Err r) T out answer written = (answer ≡ Err r) × (written ≡ replicate (length out) 0)

pub record Recaptioned (text : Bytes) (lent : Tables) (out : Bytes) (answer : Result ℕ Refusal) (left : Tables) (written : Bytes) : Type 0 where
  pub reading : Result ⊤ Refusal
  pub read : Parsed text lent reading left
  pub writes : ThenWritten reading left.track out answer written
