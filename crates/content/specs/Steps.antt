-- What the readers of a cue's inline content ask and ensure. This file need not be believed: `parse` promises what is left in the end.
--     t, u are the tables of nodes and attributes, z the strings; s is the table of segments, y the texts
use Rattle.std.specs.Prelude as rust
use Rattle.std.specs.Prelude.{Some, None, Result, Ok, Err}
use Rattle.std.specs.Prelude.{ℕ, ◌+◌, ◌-◌, ◌*◌, ◌≤◌, ◌<◌, ◌^◌, ◌≡◌, Bool, true, false, cond, List, [], length, get_or, eqb, ℤ}
use Rattle.std.proofs.Math.Option.{Option, none, some}
use Rattle.scan.specs.Part.{string_at}
use Rattle.times.specs.declared.offset.TimingCtx.{TimingCtx}
use Rattle.tree.specs.Trees.{Forest, size, spans, InOrder}
use Rattle.track.specs.declared.strings.Span.{Span}
use Rattle.track.specs.Track.{Wrapper, Segments, segment_rows, joined}
use Rattle.track.specs.Track as track
use Rattle.track.specs.Layout.{each}
use Rattle.records.specs.Siblings.{Stands, later}
use Rattle.xml.specs.Find.{Holds, is_element}
use Rattle.xml.specs.Reading.{Placed}
use Rattle.meaning.specs.Answers.{Answer, is, refused}
use Rattle.meaning.specs.Words.{ascii}
use Rattle.meaning.specs.Kinds.{with_places, nodes_in}
use Rattle.meaning.specs.Space.{Before, last_of, after, text_in_of, ended}
use Rattle.meaning.specs.Timing.{sum}
use Rattle.meaning.specs.Tracks.{wrapper_by}
use Rattle.meaning.specs.Inline.{text_segment, span_of, segments_in, content_of}
use Rattle.styling.specs.declared.space.WsMode.{WsMode}
use Rattle.styling.specs.Posts.{space_in}
use Rattle.inline.specs.declared.collapse.Collapsed.{Collapsed}
use Rattle.inline.specs.Texts.{edge, Written}
use Rattle.inline.specs.Wraps.{stamped_if}
use Rattle.inline.specs.Stood.{span_in, spans_in, Laid, Trims}
use Rattle.content.specs.declared.collect.Run.{Run}
use Rattle.tree.specs.declared.answers.Refusal.{Refusal}

-- ---- tables

-- the table of segments is long enough
abbrev pub Wide : List ℕ → Type 0
Wide s = 98304 ≤ length s

-- so are the texts, and the strings are no longer than a text
pub record Roomy (z s y : List ℕ) : Type 0 where
  pub wide : Wide s
  pub texts : length z ≤ length y
  pub small : length z < 2 ^ 32

-- A list of siblings: what stands before its rows; what stood from its first row on; what its texts are laid over, which is blank from lo on;
-- where its strings end.
pub record Frame : Type 0 where
  pub pre : List ℕ
  pub rest : List ℕ
  pub base : List ℕ
  pub lo : ℕ
  pub limit : ℕ

-- the segments f of the list stand in rows `first` up to n, and their texts end at hi or before
pub record Standing (w : Frame) (hi first n : ℕ) (f : Segments Placed) (s y : List ℕ) : Type 0 where
  pub rows : Stands w.pre (later (n - first) w.rest) first n (spans_in f) s
  pub texts : Laid f [] w.base y w.lo hi

-- ---- leaves

abbrev pub added_in : rust.Option ℕ → (boundary : Bool) (place : ℕ) → Result Run Refusal
added_in (Some m) b p = Ok (record { rows = m; boundary = b })
added_in None b p = Err (record { number = 13; place = p })

-- the place of node k; the string of a text or a section
unfoldable pub node_place : List ℕ → ℕ → ℕ
node_place t k = cond (eqb (get_or t (k * 6) 0) 3) (get_or t (k * 6 + 2) 0 - 9) (get_or t (k * 6 + 2) 0)

abbrev pub text_at : (t z : List ℕ) → ℕ → Placed
text_at t z k = record { place = get_or t (k * 6 + 2) 0; bytes = string_at z (get_or t (k * 6 + 2) 0) (get_or t (k * 6 + 3) 0) }

-- The rows `first` up to n, whatever segments stand there with their texts up to hi, are now these changed by φ, with texts up to hi'; or there
-- would be more than 16,384 rows, which is number 13.
abbrev pub Given : (place first n hi hi' : ℕ) → Bool → (Segments Placed → Segments Placed) → (s y s' y' : List ℕ) → Result Run Refusal → Type 0
Given place first n hi hi' flag φ s y s' y' (Ok r) =
    (r.rows ≤ 16384) × (r.boundary ≡ flag)
    × ((w : Frame) (f : Segments Placed) → Standing w hi first n f s y → Standing w hi' first r.rows (φ f) s' y')
Given place first n hi hi' flag φ s y s' y' (Err q) =
    (q.number ≡ 13) × (q.place ≡ place)
    × ((w : Frame) (f : Segments Placed) → Standing w hi first n f s y → 16384 < first + segment_rows (φ f))

-- a text in its mode is written at its place
abbrev pub Writes : Placed → Bool → WsMode → (y y' : List ℕ) → Collapsed → Type 0
Writes x boundary ws y y' r =
    (before : Before) → boundary ≡ edge before → Written (text_in_of with_places (space_in ws) before x).bytes x.bytes before x.place y y' r

abbrev pub TextGiven : (t z : List ℕ) (k : ℕ) → WsMode → Run → (s y s' y' : List ℕ) → Result Run Refusal → Type 0
TextGiven t z k ws run s y s' y' r =
    (first hi : ℕ) (before : Before) → hi ≤ get_or t (k * 6 + 2) 0 → run.boundary ≡ edge before
    → Given (node_place t k) first run.rows hi (get_or t (k * 6 + 2) 0 + get_or t (k * 6 + 3) 0) (edge (last_of before (text_at t z k).bytes))
    (λ f. joined f (text_segment with_places (text_in_of with_places (space_in ws) before (text_at t z k)))) s y s' y' r

-- in collapse mode the rows `first` up to n are trimmed
abbrev pub Ends : WsMode → (first n : ℕ) → (t y t' y' : List ℕ) → Type 0
Ends WsMode.Collapse first n t y t' y' = (b : Bool) × Trims first n t y t' y' b
Ends WsMode.Preserve first n t y t' y' = (t' ≡ t) × (y' ≡ y)

abbrev pub BreakGiven : (place first n : ℕ) → WsMode → (s y s' y' : List ℕ) → Result Run Refusal → Type 0
BreakGiven place first n ws s y s' y' r =
    (hi : ℕ) → Given place first n hi hi true (λ f. joined (ended with_places (space_in ws) f) (track.break track.done)) s y s' y' r

-- the wrappers of an element, by places and lengths
abbrev pub wrappers_by : List (Wrapper Placed) → List (Wrapper Span)
wrappers_by l = each (wrapper_by span_in) l

-- a span whose content stands in the rows `first` up to n; its wrappers may be refused
abbrev pub SpanGiven : Answer (List (Wrapper Placed)) → (place first n : ℕ) → Bool → (stamp : Bool) → ℤ → (s y s' : List ℕ)
    → Result Run Refusal → Type 0
SpanGiven (is ws) place first n flag stamp time s y s' r =
    (hi : ℕ) → Given place first n hi hi flag (λ c. stamped_if stamp time (span_of ws c)) s y s' y r
SpanGiven (refused i p) place first n flag stamp time s y s' r = r ≡ Err (record { number = i; place = p })

-- when a span begins, if its begin is a time
abbrev pub beginning : Answer ℤ → Result (rust.Option ℤ) Refusal
beginning (is z) = Ok (Some z)
beginning (refused i p) = Err (record { number = i; place = p })

abbrev pub begin_from : (place : ℕ) → ℤ → Answer (Option ℤ) → Result (rust.Option ℤ) Refusal
begin_from place base (is (some z)) = beginning (sum place base z)
begin_from place base (is none) = Ok None
begin_from place base (refused i p) = Err (record { number = i; place = p })

-- ---- nodes

-- The nodes `forest` stand in the rows `from` up to `end`, after `before`. Their earlier siblings gave what stands in rows `first` up to n.
pub record Entry (w : Frame) (t u z : List ℕ) (from end first n : ℕ) (boundary : Bool) (s y : List ℕ) : Type 0 where
  pub own : ℕ
  pub forest : Forest
  pub holds : Holds t u z from own forest
  pub rows : from + size forest ≡ end
  pub hi : ℕ
  pub placed : InOrder hi (spans forest) w.limit
  pub earlier : Segments Placed
  pub standing : Standing w hi first n earlier s y
  pub before : Before
  pub flag : boundary ≡ edge before

module _ {w : Frame} {t u z : List ℕ} {from end first n : ℕ} {boundary : Bool} {s y : List ℕ}
    (x : Entry w t u z from end first n boundary s y) where
  -- what the nodes mean, after what their earlier siblings gave; and what stands directly before whatever follows them
  abbrev pub meant : ℤ → TimingCtx → WsMode → Answer (Segments Placed)
  meant base ctx ws = segments_in with_places ctx base (space_in ws) x.before first x.earlier (nodes_in z x.forest)

  abbrev pub behind : Before
  behind = after with_places x.before (nodes_in z x.forest)

module _ (w : Frame) (t u z : List ℕ) (next end first : ℕ) (base : ℤ) (ctx : TimingCtx) (ws : WsMode) (s y : List ℕ)
    (m : Answer (Segments Placed)) (v : Before) where
  -- the nodes up to row `next` are read: m and v are what the nodes from there on say
  pub record Came (r : Run) : Type 0 where
    pub few : r.rows ≤ 16384
    pub to : Entry w t u z next end first r.rows r.boundary s y
    pub means : m ≡ meant to base ctx ws
    pub same : v ≡ behind to

  abbrev pub Outcome : Result Run Refusal → Type 0
  Outcome (Ok r) = Came r
  Outcome (Err q) = m ≡ refused q.number q.place

-- ---- a node in row k

pub record AsksNode (t u z : List ℕ) (k first : ℕ) (run : Run) (s y : List ℕ) : Type 0 where
  pub roomy : Roomy z s y
  pub few : run.rows ≤ 16384
  pub frame : Frame
  pub end : ℕ
  pub entry : Entry frame t u z k end first run.rows run.boundary s y
  pub some : k < end

abbrev pub NodePost : (t u z : List ℕ) (k first : ℕ) (run : Run) (base : ℤ) (ctx : TimingCtx) (ws : WsMode) (s y s' y' : List ℕ)
    → Result Run Refusal → Type 0
NodePost t u z k first run base ctx ws s y s' y' r =
    (w : Frame) (end : ℕ) (x : Entry w t u z k end first run.rows run.boundary s y) → k < end
    → Outcome w t u z (get_or t (k * 6 + 1) 0) end first base ctx ws s' y' (meant x base ctx ws) (behind x) r

-- which is a span
pub record AsksSpan (t u z : List ℕ) (k : ℕ) (run : Run) (s y : List ℕ) : Type 0 where
  pub first : ℕ
  pub node : AsksNode t u z k first run s y
  pub no_break : is_element t z (ascii "br") k ≡ false
  pub a_span : is_element t z (ascii "span") k ≡ true

abbrev pub SpanPost : (t u z : List ℕ) (k : ℕ) (run : Run) (base : ℤ) (ctx : TimingCtx) (ws : WsMode) (s y s' y' : List ℕ)
    → Result Run Refusal → Type 0
SpanPost t u z k run base ctx ws s y s' y' r = (first : ℕ) → NodePost t u z k first run base ctx ws s y s' y' r

-- ---- the siblings in rows `from` up to `end`, a list of their own

pub record Asks (t u z : List ℕ) (from end : ℕ) (run : Run) (s y : List ℕ) : Type 0 where
  pub roomy : Roomy z s y
  pub few : run.rows ≤ 16384
  pub frame : Frame
  pub entry : Entry frame t u z from end run.rows run.rows run.boundary s y

abbrev pub Post : (t u z : List ℕ) (from end : ℕ) (run : Run) (base : ℤ) (ctx : TimingCtx) (ws : WsMode) (s y s' y' : List ℕ)
    → Result Run Refusal → Type 0
Post t u z from end run base ctx ws s y s' y' r =
    (w : Frame) (x : Entry w t u z from end run.rows run.rows run.boundary s y)
    → Outcome w t u z end end run.rows base ctx ws s' y' (meant x base ctx ws) (behind x) r

-- ---- the content of a p or of a single cue

-- it stands in the rows `from` up to `end`; no segments stand from row `row` on
pub record Content (w : Frame) (t u z : List ℕ) (from end row : ℕ) (s y : List ℕ) : Type 0 where
  pub own : ℕ
  pub forest : Forest
  pub holds : Holds t u z from own forest
  pub rows : from + size forest ≡ end
  pub placed : InOrder w.lo (spans forest) w.limit
  pub standing : Standing w w.lo row row track.done s y

pub record AsksContent (t u z : List ℕ) (from end row : ℕ) (s y : List ℕ) : Type 0 where
  pub roomy : Roomy z s y
  pub few : row ≤ 16384
  pub frame : Frame
  pub content : Content frame t u z from end row s y

module _ (w : Frame) (row : ℕ) (s y : List ℕ) (m : Answer (Segments Placed)) where
  -- the segments that it gives stand up to the row that r says
  pub record Left (r : Run) : Type 0 where
    pub few : r.rows ≤ 16384
    pub segments : Segments Placed
    pub means : m ≡ is segments
    pub hi : ℕ
    pub below : hi ≤ w.limit
    pub standing : Standing w hi row r.rows segments s y

  abbrev pub ContentOutcome : Result Run Refusal → Type 0
  ContentOutcome (Ok r) = Left r
  ContentOutcome (Err q) = m ≡ refused q.number q.place

abbrev pub ContentPost : (t u z : List ℕ) (from end row : ℕ) (base : ℤ) (ctx : TimingCtx) (ws : WsMode) (s y s' y' : List ℕ)
    → Result Run Refusal → Type 0
ContentPost t u z from end row base ctx ws s y s' y' r =
    (w : Frame) (x : Content w t u z from end row s y)
    → ContentOutcome w row s' y' (content_of with_places ctx base (space_in ws) row (nodes_in z x.forest)) r
