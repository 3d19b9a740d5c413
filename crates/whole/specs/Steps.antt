-- What the reader of tt asks and ensures. This file need not be believed: `parse` promises what is left in the end.
--     t, u are the tables of nodes and attributes; z are the strings, as many bytes as the text has
use Rattle.std.specs.Option.{unwrap_or}
use Rattle.std.specs.Option as has
use Rattle.std.specs.Prelude.{Option, Result, Ok, Err, ⊤, ℕ, ◌+◌, ◌≤◌, ◌≡◌, List, length, replicate}
use Rattle.std.proofs.lemmas.List.Edits.{sets}
use Rattle.times.specs.declared.offset.TimingCtx.{TimingCtx}
use Rattle.track.specs.declared.strings.Span.{Span}
use Rattle.track.specs.Track.{Param, Style, Region, Cue, Track}
use Rattle.track.specs.Tables.{Tables, Lengths, lengths}
use Rattle.track.specs.Layout.{is_some, span_or, each, filled, filled_sizes, joined_cells, head_cells, style_cells, region_cells, style_size}
use Rattle.track.specs.Layout as placing
use Rattle.records.specs.declared.head.Head.{Head}
use Rattle.records.specs.Posts.{head_row}
use Rattle.xml.specs.Reading.{Placed}
use Rattle.meaning.specs.Words.{ascii}
use Rattle.meaning.specs.Answers.{is, ◌>>=◌}
use Rattle.meaning.specs.Answers as meaning
use Rattle.meaning.specs.Nodes.{Attr, Nodes, Element, first_element}
use Rattle.meaning.specs.Kinds.{with_places, nodes_in}
use Rattle.meaning.specs.Space.{collapse, space_of}
use Rattle.meaning.specs.Tracks.{option_by}
use Rattle.meaning.specs.Meaning.{lang_of, body_of}
use Rattle.laid.specs.Laid.{laid_of, laid_styles, laid_regions, style_extras, region_extras}
use Rattle.styling.specs.Posts.{turned}
use Rattle.inline.specs.Stood.{span_in}
use Rattle.heads.specs.declared.collect.Heads.{Heads}
use Rattle.heads.specs.Steps.{styles_in, regions_in, inside_head}
use Rattle.cues.specs.declared.lines.Line.{Line}
use Rattle.cues.specs.Elements.{Tree, Elem, element_in}
use Rattle.cues.specs.Steps.{nowhere, CueTables, five, Base, Lined}
use Rattle.promised.proofs.Promises.{RestLong, RestZero, RestLaid}
use Rattle.tree.specs.declared.answers.Refusal.{Refusal}

-- ---- the tables

-- those of a track that hold cues
abbrev pub in_cues : Tables → CueTables
in_cues T = five T.cues T.times T.segments T.extras T.texts

-- what they are before the first cue, after these styles and regions
abbrev pub head_base : Lengths → List (Style Placed) → List (Region Placed) → Base
head_base n styles regions = record {
  lengths = n;
  extras = placing.region_extras (placing.style_extras (replicate n.extras 0) (laid_styles 0 styles)) (laid_regions (style_extras styles) regions);
  rows = style_extras styles + region_extras regions;
}

-- the strings are no longer than a text, and the tables are blank and long enough for a track
pub record Ready (z : List ℕ) (T : Tables) : Type 0 where
  pub short : length z ≤ 65536
  pub zero : RestZero (lengths T) T
  pub long : RestLong (lengths T)

-- m is what is read: the track stands in the tables; or it is that number at that place, and they are blank
module _ (m : meaning.Answer (Track Placed)) (z : List ℕ) (T T' : Tables) where
  pub record Laid : Type 0 where
    pub track : Track Placed
    pub means : m ≡ is track
    pub laid : RestLaid (lengths T) (length z) track T'

  abbrev pub Outcome : Result ⊤ Refusal → Type 0
  Outcome (Ok tt) = Laid
  Outcome (Err q) = (m ≡ turned q) × RestZero (lengths T) T'

-- ---- a tree

pub record Asks (t u z : List ℕ) (n : ℕ) (T : Tables) : Type 0 where
  pub ready : Ready z T
  pub tree : Tree t u z n

abbrev pub Post : (Nodes Placed → meaning.Answer (Track Placed)) → (t u z : List ℕ) (n : ℕ) (T T' : Tables) → Result ⊤ Refusal → Type 0
Post meant t u z n T T' r = (x : Tree t u z n) → Outcome (meant (nodes_in z x.forest)) z T T' r

-- ---- tt

-- its language, as the head has it
pub record LangIs (z : List ℕ) (l : List (Attr Placed)) (r : Option Span) : Type 0 where
  pub has : has.is_some r ≡ is_some (lang_of with_places l)
  pub span : unwrap_or r nowhere ≡ span_or (option_by span_in (lang_of with_places l))
  pub within : (unwrap_or r nowhere).place + (unwrap_or r nowhere).len ≤ length z

-- the head of a track of so many parameters, styles and regions, cues and segments
abbrev pub whole_head : (z : List ℕ) (count : ℕ) → Heads → Line → List (Attr Placed) → Head
whole_head z count heads line l = record {
  params = count;
  styles = heads.styles;
  regions = heads.regions;
  cues = line.cues;
  segments = line.rows;
  has_lang = is_some (lang_of with_places l);
  lang = span_or (option_by span_in (lang_of with_places l));
  strings = length z;
  texts = length z;
}

pub record HeadAsks (z : List ℕ) (count : ℕ) (heads : Heads) (line : Line) (head : List ℕ) : Type 0 where
  pub short : length z ≤ 65536
  pub few : count ≤ 64
  pub few_styles : heads.styles ≤ 256
  pub few_regions : heads.regions ≤ 256
  pub few_cues : line.cues ≤ 2048
  pub few_rows : line.rows ≤ 16384
  pub in_head : 10 ≤ length head

pub record HeadPut (z : List ℕ) (count : ℕ) (heads : Heads) (line : Line) (l : List (Attr Placed)) (h h' : List ℕ) : Type 0 where
  pub in_head : h' ≡ sets h 0 (head_row (whole_head z count heads line l))

-- `track_in` when its parameters and its rates are known
abbrev pub track_of_parts : List (Attr Placed) → List (Param Placed) → List (Style Placed) → List (Region Placed) → List (Cue Placed) → Track Placed
track_of_parts l params styles regions cues = record {
  lang = lang_of with_places l;
  params = params;
  styles = styles;
  regions = regions;
  cues = cues;
}

abbrev pub content_means : List (Param Placed) → TimingCtx → Element Placed → meaning.Answer (Track Placed)
content_means params ctx tt =
    styles_in (inside_head tt.content) >>= λ styles. regions_in (inside_head tt.content) >>= λ regions.
    body_of with_places ctx (space_of with_places collapse tt.attrs) (first_element with_places (ascii "body") tt.content) >>= λ cues.
    is (track_of_parts tt.attrs params styles regions cues)

pub record ContentAsks (t u z : List ℕ) (k count : ℕ) (T : Tables) : Type 0 where
  pub ready : Ready z T
  pub element : Elem t u z k
  pub few : count ≤ 64

-- m is what the content of tt means, of these parameters: all but they stand in the tables; or all but they are blank
module _ (m : meaning.Answer (Track Placed)) (params : List (Param Placed)) (z : List ℕ) (T T' : Tables) where
  pub record ContentLaid : Type 0 where
    pub track : Track Placed
    pub means : m ≡ is track
    pub same : track.params ≡ params
    pub head : T'.head ≡ filled (length T.head) (head_cells (laid_of track) (length z) (length z))
    pub styles : T'.styles ≡ filled (length T.styles) (joined_cells (λ x. style_cells x.style) (laid_styles 0 track.styles))
    pub regions : T'.regions
        ≡ filled (length T.regions) (joined_cells (λ x. region_cells x.region) (laid_regions (style_extras track.styles) track.regions))
    pub sizes : T'.sizes ≡ filled_sizes (length T.sizes) (each style_size (laid_styles 0 track.styles))
    pub hi : ℕ
    pub line : Line
    pub cues : Lined (head_base (lengths T) track.styles track.regions) hi track.cues line (in_cues T')

  abbrev pub ContentOutcome : Result ⊤ Refusal → Type 0
  ContentOutcome (Ok tt) = ContentLaid
  ContentOutcome (Err q) = (m ≡ turned q) × (T.params ≡ replicate (length T.params) 0 → RestZero (lengths T) T')

abbrev pub ContentPost : (t u z : List ℕ) (k count : ℕ) → TimingCtx → (T T' : Tables) → Result ⊤ Refusal → Type 0
ContentPost t u z k count ctx T T' r =
    (x : Elem t u z k) (params : List (Param Placed)) → length params ≡ count
    → ContentOutcome (content_means params ctx (element_in x)) params z T T' r

pub record TrackAsks (t u z : List ℕ) (k : ℕ) (T : Tables) : Type 0 where
  pub ready : Ready z T
  pub element : Elem t u z k

abbrev pub TrackPost : (Element Placed → meaning.Answer (Track Placed)) → (t u z : List ℕ) (k : ℕ) (T T' : Tables) → Result ⊤ Refusal → Type 0
TrackPost meant t u z k T T' r = (x : Elem t u z k) → Outcome (meant (element_in x)) z T T' r
