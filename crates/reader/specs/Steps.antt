-- What the readers of whole texts ask and ensure. This file need not be believed: `parse` and `bytes_to_cue` promise what is left in the end.
--     t, u are the tables of nodes and attributes; z are the strings, as many bytes as the text has
use Rattle.std.specs.Prelude.{Result, Ok, Err, ⊤, ℕ, ◌≡◌, List, take}
use Rattle.track.specs.Track.{Track}
use Rattle.track.specs.Tables.{Tables}
use Rattle.xml.specs.Promise as xml
use Rattle.xml.specs.Reading.{Placed}
use Rattle.meaning.specs.Answers as meaning
use Rattle.meaning.specs.Nodes.{Nodes}
use Rattle.meaning.specs.Kinds.{nodes_in}
use Rattle.laid.specs.Laid.{whole, single}
use Rattle.promised.specs.Promise as promise
use Rattle.blank.specs.Steps.{Ends}
use Rattle.cues.specs.Elements.{Tree}
use Rattle.whole.specs.Steps.{Outcome, Asks}
use Rattle.reader.specs.declared.text.Wanted.{Wanted}
use Rattle.tree.specs.declared.answers.Refusal.{Refusal}

-- ---- what is read

unfoldable pub meant_by : Wanted → Nodes Placed → meaning.Answer (Track Placed)
meant_by Wanted.Track f = whole f
meant_by Wanted.Cue f = single f

-- ---- a tree

-- the tree of a text of so many bytes, and nothing else
pub record AsksTree (t u z : List ℕ) (n m len : ℕ) (T : Tables) : Type 0 where
  pub ends : Ends t u z n m len
  pub asks : Asks t u (take len z) n T

-- the tree stays as it was, or every cell is zero
abbrev pub Kept : (T T' : xml.Tables) → Result ⊤ Refusal → Type 0
Kept T T' (Ok tt) = T' ≡ T
Kept T T' (Err q) = xml.AllZero T T'

pub record TreePost (meant : Nodes Placed → meaning.Answer (Track Placed)) (n len : ℕ) (T T' : promise.Tables) (r : Result ⊤ Refusal) : Type 0 where
  pub kept : Kept (promise.tree_tables T) (promise.tree_tables T') r
  pub means : (x : Tree T.nodes T.attrs (take len T.track.strings) n)
      → Outcome (meant (nodes_in (take len T.track.strings) x.forest)) (take len T.track.strings) T.track T'.track r
