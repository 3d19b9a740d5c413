-- What `parse` and `bytes_to_cue` promise, in the words of document 01: of the text, the tables that are lent and what is left in them, and the
-- answer. Definitions alone. Nothing here says how the program reads.
use Rattle.std.specs.Prelude.{Result, Ok, Err, ⊤, ℕ, ◌<◌, ◌≡◌, ◌↔◌, List, length, replicate, ℤ, pos, Float}
use Rattle.grammar.specs.Tree.{Forest}
use Rattle.grammar.specs.Limits as count
use Rattle.grammar.specs.Grammar.{Document}
use Rattle.track.specs.Track.{Track}
use Rattle.track.specs.Tables.{Lengths, lengths, zero_float}
use Rattle.track.specs.Tables as track
use Rattle.xml.specs.Reading.{Placed}
use Rattle.xml.specs.Where.{document_placed}
use Rattle.xml.specs.Promise as xml
use Rattle.meaning.specs.Answers.{is, refused}
use Rattle.meaning.specs.Answers as meaning
use Rattle.meaning.specs.Nodes.{Nodes}
use Rattle.meaning.specs.Texts.{nodes_read}
use Rattle.laid.specs.Laid.{track_tables, whole, single}
use Rattle.tree.specs.declared.answers.Refusal.{Refusal}
use Rattle.tree.specs.Answers.{tree_with}

-- ---- the answer
-- "An answer has number and byte place (0 if none is named […])": a track has no number, here 0
unfoldable pub number_of : Result ⊤ Refusal → ℕ
number_of (Ok tt) = 0
number_of (Err r) = r.number

unfoldable pub place_of : Result ⊤ Refusal → ℕ
place_of (Ok tt) = 0
place_of (Err r) = r.place

abbrev pub Says : Result ⊤ Refusal → (number place : ℕ) → Type 0
Says answer n p = (number_of answer ≡ n) × (place_of answer ≡ p)

-- ---- the tables: those of the tree reader, and those of a track. One of them, of strings, is in both.
pub record Tables : Type 0 where
  pub nodes : List ℕ
  pub attrs : List ℕ
  pub track : track.Tables

abbrev pub tables : (nodes attrs head params styles regions cues : List ℕ) (times : List ℤ) (segments : List ℕ) (sizes : List Float)
    (extras strings texts : List ℕ) → Tables
tables n a h p s r c m g f e z y = record { nodes = n; attrs = a; track = track.tables h p s r c m g f e z y }

abbrev pub tree_tables : Tables → xml.Tables
tree_tables T = xml.tables T.nodes T.attrs T.track.strings

-- the thirteen fixed lengths
pub record LongEnough (lent : Tables) : Type 0 where
  pub of_tree : xml.LongEnough (tree_tables lent)
  pub of_track : track.LongEnough (lengths lent.track)

-- every cell is zero
unfoldable pub zeros : Lengths → track.Tables
zeros n =
    track.tables (replicate n.head 0) (replicate n.params 0) (replicate n.styles 0) (replicate n.regions 0) (replicate n.cues 0)
    (replicate n.times (pos 0)) (replicate n.segments 0) (replicate n.sizes zero_float) (replicate n.extras 0)
    (replicate n.strings 0) (replicate n.texts 0)

pub record AllZero (lent left : Tables) : Type 0 where
  pub of_tree : xml.AllZero (tree_tables lent) (tree_tables left)
  pub of_track : left.track ≡ zeros (lengths lent.track)

-- ---- what the text's tree means: `meant` is `whole` for `parse`, and `single` for `bytes_to_cue`

-- the derived tree, each string with its entities read and with the place where it stands in the text
abbrev pub nodes_of : {text : List ℕ} {f : Forest} → Document text f → Nodes Placed
nodes_of {text} d = nodes_read text (document_placed length d)

module _ (meant : Nodes Placed → meaning.Answer (Track Placed)) (text : List ℕ) (lent : Tables) where
  -- none of the numbers 1 to 16 is met: the grammar derives the tree f within the limits, and that means the track t
  pub record Takes (f : Forest) (t : Track Placed) : Type 0 where
    pub long_enough : LongEnough lent
    pub tree : xml.Takes text (tree_tables lent) f
    pub means : meant (nodes_of tree.derives.derived) ≡ is t

  -- "Order: 1, 2, 3, then 4 to 11, 12, 13 to 16"
  pub data TurnsAway : (number place : ℕ) → Type 0 where
    -- "1. A lent table is shorter than its fixed length."
    short_table : ¬ LongEnough lent → TurnsAway 1 0
    -- 2 to 11: the tree reader turns the text away
    no_tree : {n p : ℕ} → LongEnough lent → xml.TurnsAway text (tree_tables lent) n p → TurnsAway n p
    -- 12, and "Of 13 to 16 the first met in the Rust's evaluation": the derived tree means no track
    no_track : {n p : ℕ} {f : Forest} → LongEnough lent → (d : xml.Takes text (tree_tables lent) f)
        → meant (nodes_of d.derives.derived) ≡ refused n p → TurnsAway n p

  -- ---- the promise
  pub record Promise (answer : Result ⊤ Refusal) (left : Tables) : Type 0 where
    -- it answers without a number exactly if the text's tree means a track
    pub taken : (answer ≡ (Ok tt)) ↔ ((f : Forest) × (t : Track Placed) × Takes f t)
    -- then the tree stands in its tables as `parse_xml` leaves it, and the track in the others, its strings being parts of the tree's
    pub tree : (f : Forest) (t : Track Placed) → Takes f t
        → xml.Parsed text (tree_tables lent) (tree_with (count.nodes f) (count.attrs f)) (tree_tables left)
    pub track : (f : Forest) (t : Track Placed) → Takes f t
        → left.track ≡ track_tables (lengths lent.track) left.track.strings (length text) t
    -- "Limits and what is turned away": with that number and that place, and with no other
    pub refused : (n p : ℕ) → 0 < n → Says answer n p ↔ TurnsAway n p
    -- "unused cells are zero": after a refusal every cell is
    pub cleared : 0 < number_of answer → AllZero lent left

-- `parse`: a track
abbrev pub Parsed : (text : List ℕ) (lent : Tables) → Result ⊤ Refusal → (left : Tables) → Type 0
Parsed text lent answer left = Promise whole text lent answer left

-- `bytes_to_cue`: a track of one cue and nothing else
abbrev pub CueParsed : (text : List ℕ) (lent : Tables) → Result ⊤ Refusal → (left : Tables) → Type 0
CueParsed text lent answer left = Promise single text lent answer left
