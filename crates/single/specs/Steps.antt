-- What the reader of a single cue asks and ensures. This file need not be believed: `bytes_to_cue` promises what is left in the end.
--     t, u are the tables of nodes and attributes; z are the strings, as many bytes as the text has
use Rattle.std.specs.Prelude.{Result, Ok, Err, ⊤, ℕ, ◌≤◌, ◌≡◌, false, List, [], ◌∷◌, ℤ, pos, length}
use Rattle.std.proofs.Math.Option.{none}
use Rattle.std.proofs.lemmas.List.Edits.{sets}
use Rattle.track.specs.declared.strings.Span.{Span}
use Rattle.track.specs.declared.values.Cue as declared
use Rattle.track.specs.Track.{Segments, Cue}
use Rattle.track.specs.Tables.{Tables, tables, lengths}
use Rattle.track.specs.Layout.{is_some, span_or, cue_cells}
use Rattle.records.specs.declared.head.Head.{Head}
use Rattle.records.specs.Posts.{head_row}
use Rattle.xml.specs.Reading.{Placed}
use Rattle.meaning.specs.Words.{ascii}
use Rattle.meaning.specs.Answers.{is, ◌>>=◌}
use Rattle.meaning.specs.Answers as meaning
use Rattle.meaning.specs.Nodes.{Attr, Element, valued}
use Rattle.meaning.specs.Kinds.{with_places, nodes_in}
use Rattle.meaning.specs.Space.{collapse, space_of}
use Rattle.meaning.specs.Tracks.{option_by}
use Rattle.meaning.specs.Inline.{content_of}
use Rattle.meaning.specs.Meaning.{timing, cue_of}
use Rattle.laid.specs.Laid.{alone}
use Rattle.styling.specs.Posts.{turned}
use Rattle.inline.specs.Stood.{span_in}
use Rattle.intervals.specs.declared.Interval.{Interval}
use Rattle.cues.specs.Elements.{Tree, Elem, element_in}
use Rattle.promised.proofs.Promises.{RestZero, RestLaid}
use Rattle.tree.specs.declared.answers.Refusal.{Refusal}

-- ---- the tables

-- those of a track that hold a single cue
abbrev pub cue_rest : (head cues : List ℕ) (times : List ℤ) (segments texts : List ℕ) → Tables
cue_rest h c m g y = tables h [] [] [] c m g [] [] [] y

-- the strings are no longer than a text, and the tables are blank and long enough for a cue
pub record CueReady (z : List ℕ) (T : Tables) : Type 0 where
  pub short : length z ≤ 65536
  pub zero : RestZero (lengths T) T
  pub head : 10 ≤ length T.head
  pub cues : 22528 ≤ length T.cues
  pub times : 4096 ≤ length T.times
  pub segments : 98304 ≤ length T.segments
  pub texts : 65536 ≤ length T.texts

-- m is what is read: the cue, which has no extras, stands in the tables alone; or it is that number at that place, and they are blank
module _ (m : meaning.Answer (Cue Placed)) (z : List ℕ) (T T' : Tables) where
  pub record CueLaid : Type 0 where
    pub cue : Cue Placed
    pub means : m ≡ is cue
    pub plain : cue.extras ≡ []
    pub laid : RestLaid (lengths T) (length z) (alone cue) T'

  abbrev pub CueOutcome : Result ⊤ Refusal → Type 0
  CueOutcome (Ok tt) = CueLaid
  CueOutcome (Err q) = (m ≡ turned q) × RestZero (lengths T) T'

-- ---- a tree

pub record CueAsks (t u z : List ℕ) (n : ℕ) (T : Tables) : Type 0 where
  pub ready : CueReady z T
  pub tree : Tree t u z n

abbrev pub CuePost : (t u z : List ℕ) (n : ℕ) (T T' : Tables) → Result ⊤ Refusal → Type 0
CuePost t u z n T T' r = (x : Tree t u z n) → CueOutcome (cue_of with_places (nodes_in z x.forest)) z T T' r

-- ---- a p that is a single cue

pub record ElementAsks (t u z : List ℕ) (k : ℕ) (T : Tables) : Type 0 where
  pub ready : CueReady z T
  pub element : Elem t u z k

abbrev pub ElementPost : (Element Placed → meaning.Answer (Cue Placed)) → (t u z : List ℕ) (k : ℕ) (T T' : Tables) → Result ⊤ Refusal → Type 0
ElementPost meant t u z k T T' r = (x : Elem t u z k) → CueOutcome (meant (element_in x)) z T T' r

-- `cue_in` when its times are known, and its segments
abbrev pub cue_with : Interval → List (Attr Placed) → Segments Placed → Cue Placed
cue_with when l f = record {
  start = when.start;
  end = when.end;
  style = valued with_places (ascii "style") l;
  region = none;
  preserve = false;
  extras = [];
  segments = f;
}

abbrev pub timed_cue : Interval → Element Placed → meaning.Answer (Cue Placed)
timed_cue when p =
    content_of with_places (timing none none) (pos 0) (space_of with_places collapse p.attrs) 0 p.content >>= λ f. is (cue_with when p.attrs f)

-- its row, where so many rows of segments stand, and the head of a track of it alone, where so many bytes are used
abbrev pub no_span_of : Span
no_span_of = record { place = 0; len = 0 }

abbrev pub alone_row : Interval → (rows : ℕ) → List (Attr Placed) → declared.Cue
alone_row when rows l = record {
  start = when.start;
  end = when.end;
  has_style = is_some (valued with_places (ascii "style") l);
  style = span_or (option_by span_in (valued with_places (ascii "style") l));
  has_region = false;
  region = no_span_of;
  preserve = false;
  segments = record { first = 0; count = rows };
  extras = record { first = 0; count = 0 };
}

abbrev pub alone_head : (rows used : ℕ) → Head
alone_head rows used = record {
  params = 0;
  styles = 0;
  regions = 0;
  cues = 1;
  segments = rows;
  has_lang = false;
  lang = no_span_of;
  strings = used;
  texts = used;
}

pub record AloneAsks (z : List ℕ) (rows : ℕ) (head cues : List ℕ) (times : List ℤ) : Type 0 where
  pub short : length z ≤ 65536
  pub few : rows ≤ 16384
  pub in_head : 10 ≤ length head
  pub in-cues : 22528 ≤ length cues
  pub in_times : 4096 ≤ length times

pub record Alone (z : List ℕ) (when : Interval) (rows : ℕ) (l : List (Attr Placed)) (h h' c c' : List ℕ) (m m' : List ℤ) : Type 0 where
  pub in_head : h' ≡ sets h 0 (head_row (alone_head rows (length z)))
  pub in-cues : c' ≡ sets c 0 (cue_cells (alone_row when rows l))
  pub in_times : m' ≡ sets m 0 (when.start ∷ when.end ∷ [])
