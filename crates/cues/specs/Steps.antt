-- What the readers of cues ask and ensure. This file need not be believed: `parse` promises what is left in the end.
use Rattle.std.specs.Prelude.{Option, Some, None, Result, Ok, Err}
use Rattle.std.specs.Prelude.{ℕ, ◌+◌, ◌-◌, ◌*◌, ◌≤◌, ◌<◌, ◌^◌, ◌≡◌, Bool, false, cond, ◌&&◌, List, [], ◌∷◌, ◌++◌, ℤ, pos, length, replicate}
use Rattle.std.specs.Option.{unwrap_or}
use Rattle.std.specs.Option as has
use Rattle.std.proofs.lemmas.List.Edits.{sets}
use Rattle.scan.specs.Part.{string_at}
use Rattle.times.specs.declared.offset.TimingCtx.{TimingCtx}
use Rattle.track.specs.declared.strings.Span.{Span}
use Rattle.track.specs.declared.values.Cue as declared
use Rattle.tree.specs.Trees.{Forest, size, attrs_of, spans, InOrder}
use Rattle.tree.specs.Trees as placed
use Rattle.track.specs.Track.{Wrapper, Segments, Cue, no_segments, segment_rows, is_bare_font}
use Rattle.track.specs.Track as track
use Rattle.track.specs.Tables.{Lengths}
use Rattle.track.specs.Layout.{preorder, is_some, span_or, PlacedCue, filled, filled_times, joined_cells, cue_cells, cue_times, all_segments}
use Rattle.track.specs.Layout as placing
use Rattle.records.specs.Siblings.{Stands, cells_of, later}
use Rattle.xml.specs.declared.find.Element.{Element}
use Rattle.xml.specs.Find.{Holds}
use Rattle.xml.specs.Reading.{Placed, lay}
use Rattle.meaning.specs.Answers.{Answer, is, ◌>>=◌}
use Rattle.meaning.specs.Words.{ascii}
use Rattle.meaning.specs.Nodes.{Attr, Nodes, first_element, valued}
use Rattle.meaning.specs.Kinds.{with_places, attrs_in, nodes_in}
use Rattle.meaning.specs.Space.{space_of, is_preserve}
use Rattle.meaning.specs.Tracks.{option_by}
use Rattle.meaning.specs.Timing.{is_seq}
use Rattle.meaning.specs.Styling.{wrappers_of, inline_extras}
use Rattle.meaning.specs.Inline.{content_of, paragraph_of, counted}
use Rattle.meaning.specs.Cues.{a_div, a_p, unknown, made_in, timed_of, styled, p_of, div_of, cues_in}
use Rattle.meaning.specs.Cues as meaning
use Rattle.meaning.specs.Meaning.{body_of}
use Rattle.laid.specs.Laid.{laid_cues, cue_extras, cue_texts}
use Rattle.styling.specs.declared.space.WsMode.{WsMode}
use Rattle.styling.specs.Posts.{HasRows, OfRows, turned, space_in}
use Rattle.extras.specs.Kept.{placed_cells, rows_from}
use Rattle.extras.specs.Counts.{attrs_named}
use Rattle.inline.specs.Stood.{span_in, spans_in, texts_in, InTurn, Laid}
use Rattle.content.specs.Steps.{Roomy, Frame, Content, AsksContent}
use Rattle.intervals.specs.declared.Interval.{Interval}
use Rattle.intervals.specs.Steps.{end_from}
use Rattle.cues.specs.declared.lines.Line.{Line}
use Rattle.tree.specs.declared.answers.Refusal.{Refusal}

-- ---- what a p's attributes put around its rows

-- it is a bare font, which dissolves
abbrev pub is_bare : Segments Span → Bool
is_bare track.done = false
is_bare (track.text s x) = false
is_bare (track.break x) = false
is_bare (track.timestamp z x) = false
is_bare (track.wrap w c x) = is_bare_font w && no_segments x

-- r says whether the rows `first` up to `end`, whatever segments stand there, are one
abbrev pub TellsBare : List ℕ → (first end : ℕ) → Bool → Type 0
TellsBare t first end r =
    (pre rest : List ℕ) (f : Segments Span) → length pre ≡ first * 6 → t ≡ pre ++ (cells_of (preorder f) ++ rest) → end ≡ first + segment_rows f
    → r ≡ is_bare f

-- k cleared rows, and then x
abbrev pub cleared : ℕ → List ℕ → List ℕ
cleared k x = replicate (k * 6) 0 ++ x

-- what stands after row m, where x stood after row `end`
abbrev pub onward : (end m : ℕ) → List ℕ → List ℕ
onward end m x = later (m - end) (cleared (end - m) x)

-- The rows `first` up to `end` of the table t, whatever segments stand there, are now a p around these, up to row m; or there would be more
-- than 16,384 rows.
abbrev pub Paragraphed : (first end : ℕ) → List (Wrapper Span) → (t t' : List ℕ) → Option ℕ → Type 0
Paragraphed first end ws t t' (Some m) =
    (m ≤ 16384)
    × ((pre rest : List ℕ) (f : Segments Span) → Stands pre rest first end f t → Stands pre (onward end m rest) first m (paragraph_of ws f) t')
Paragraphed first end ws t t' None =
    (pre rest : List ℕ) (f : Segments Span) → Stands pre rest first end f t → 16384 < first + segment_rows (paragraph_of ws f)

-- m is what a p's attributes make of its content f, which stood in the rows `first` up to `end`: it stands in these up to n, its texts the same
pub record Dressed (m : Answer (Segments Placed)) (first end n : ℕ) (f : Segments Placed) (pre rest s' : List ℕ) : Type 0 where
  pub few : n ≤ 16384
  pub segments : Segments Placed
  pub means : m ≡ is segments
  pub same : texts_in segments ≡ texts_in f
  pub rows : Stands pre (onward end n rest) first n (spans_in segments) s'

abbrev pub StyledGiven : (Segments Placed → Answer (Segments Placed)) → (first end : ℕ) → (s s' : List ℕ) → Result ℕ Refusal → Type 0
StyledGiven m first end s s' (Ok n) =
    (pre rest : List ℕ) (f : Segments Placed) → Stands pre rest first end (spans_in f) s → Dressed (m f) first end n f pre rest s'
StyledGiven m first end s s' (Err q) =
    (pre rest : List ℕ) (f : Segments Placed) → Stands pre rest first end (spans_in f) s → m f ≡ turned q

-- `styled`, where an attribute is one that segments show
abbrev pub dressing : (place made : ℕ) → List (Attr Placed) → Segments Placed → Answer (Segments Placed)
dressing place made l f = wrappers_of with_places l >>= λ ws. counted place made (paragraph_of ws f)

-- ---- values

-- where there is none
abbrev pub nowhere : Span
nowhere = record { place = 0; len = 0 }

-- the value of the first attribute of this name, as a cue's row has it
pub record PartIs (z name : List ℕ) (l : List (Attr Placed)) (r : Option Span) : Type 0 where
  pub has : has.is_some r ≡ is_some (valued with_places name l)
  pub span : unwrap_or r nowhere ≡ span_or (option_by span_in (valued with_places name l))
  pub within : (unwrap_or r nowhere).place + (unwrap_or r nowhere).len ≤ length z

-- ---- the tables that cues stand in

pub record CueTables : Type 0 where
  pub cues : List ℕ
  pub times : List ℤ
  pub segments : List ℕ
  pub extras : List ℕ
  pub texts : List ℕ

abbrev pub five : (cues : List ℕ) (times : List ℤ) (segments extras texts : List ℕ) → CueTables
five c m g e y = record { cues = c; times = m; segments = g; extras = e; texts = y }

-- they are long enough, and the strings are no longer than a text
pub record Spacious (z : List ℕ) (T : CueTables) : Type 0 where
  pub roomy : Roomy z T.segments T.texts
  pub cues : 22528 ≤ length T.cues
  pub times : 4096 ≤ length T.times
  pub extras : 24576 ≤ length T.extras

-- What they are before the first cue: so long each; the extras of styles and regions, so many.
pub record Base : Type 0 where
  pub lengths : Lengths
  pub extras : List ℕ
  pub rows : ℕ

-- the rows of cues
abbrev pub rows_of : Base → List (Cue Placed) → List PlacedCue
rows_of b l = laid_cues b.rows 0 l

-- the cues l stand in the tables, with their texts up to hi, and nothing else does; `line` counts them
pub record Lined (b : Base) (hi : ℕ) (l : List (Cue Placed)) (line : Line) (T : CueTables) : Type 0 where
  pub many : line.cues ≡ length l
  pub made : line.rows ≡ made_in l
  pub kept : line.extras ≡ b.rows + cue_extras l
  pub few_cues : length l ≤ 2048
  pub few_rows : made_in l ≤ 16384
  pub in-cues : T.cues ≡ filled b.lengths.cues (joined_cells (λ x. cue_cells x.cue) (rows_of b l))
  pub in_times : T.times ≡ filled_times b.lengths.times (cue_times (rows_of b l))
  pub in_cells : T.segments ≡ filled b.lengths.segments (cells_of (all_segments (rows_of b l)))
  pub in_extras : T.extras ≡ placing.cue_extras b.extras (rows_of b l)
  pub in_texts : T.texts ≡ lay (replicate b.lengths.texts 0) (cue_texts l)
  pub order : InTurn 0 (cue_texts l) hi
  pub room : hi ≤ b.lengths.texts

-- ---- a p, whose element e is in row k

-- the segments that its content and its attributes give, where `made` rows stand before and it begins at `start`
abbrev pub segments_of_p : TimingCtx → WsMode → (place made : ℕ) → (start : ℤ) → List (Attr Placed) → Nodes Placed → Answer (Segments Placed)
segments_of_p ctx ws place made start l c = content_of with_places ctx start (space_in ws) made c >>= styled with_places ctx place made l

-- its content can be read, into the rows from `first` on
pub record AsksSegments (t u z : List ℕ) (k : ℕ) (e : Element) (first : ℕ) (s y : List ℕ) : Type 0 where
  pub row : k * 6 + 6 ≤ length t
  pub attrs : HasRows u z e.first e.many
  pub content : AsksContent t u z (k + 1) e.end first s y

-- m is what its segments are
module _ (w : Frame) (first : ℕ) (s y : List ℕ) (m : Answer (Segments Placed)) where
  -- they stand up to row n, their texts up to hi; its content alone stood up to row `end`
  pub record Segmented (n : ℕ) : Type 0 where
    pub few : n ≤ 16384
    pub segments : Segments Placed
    pub means : m ≡ is segments
    pub end : ℕ
    pub after : first ≤ end
    pub most : end ≤ 16384
    pub rows : Stands w.pre (onward end n (later (end - first) w.rest)) first n (spans_in segments) s
    pub hi : ℕ
    pub below : hi ≤ w.limit
    pub texts : Laid segments [] w.base y w.lo hi

  abbrev pub SegmentsOutcome : Result ℕ Refusal → Type 0
  SegmentsOutcome (Ok n) = Segmented n
  SegmentsOutcome (Err q) = m ≡ turned q

abbrev pub SegmentsPost : (t u z : List ℕ) (k : ℕ) (e : Element) (start : ℤ) → TimingCtx → WsMode → (first : ℕ) (s y s' y' : List ℕ)
    → Result ℕ Refusal → Type 0
SegmentsPost t u z k e start ctx ws first s y s' y' r =
    (w : Frame) (x : Content w t u z (k + 1) e.end first s y)
    → OfRows u z e.first e.many (λ l. SegmentsOutcome w first s' y' (segments_of_p ctx ws e.place first start l (nodes_in z x.forest)) r)

-- the row of its cue, whose segments stand up to row `rows`
abbrev pub cue_row : Interval → WsMode → Line → (rows : ℕ) → List (Attr Placed) → declared.Cue
cue_row when ws line rows l = record {
  start = when.start;
  end = when.end;
  has_style = is_some (valued with_places (ascii "style") l);
  style = span_or (option_by span_in (valued with_places (ascii "style") l));
  has_region = is_some (valued with_places (ascii "region") l);
  region = span_or (option_by span_in (valued with_places (ascii "region") l));
  preserve = is_preserve (space_in ws);
  segments = record { first = line.rows; count = rows - line.rows };
  extras = rows_from line.extras (length (inline_extras with_places l));
}

-- there is room for it and for its extras
pub record AsksCue (z : List ℕ) (many : ℕ) (line : Line) (rows : ℕ) (cues : List ℕ) (times : List ℤ) (extras : List ℕ) : Type 0 where
  pub small : length z < 2 ^ 32
  pub after : line.rows ≤ rows
  pub few : rows ≤ 16384
  pub kept : line.extras + many ≤ 8192
  pub in-cues : 22528 ≤ length cues
  pub in_times : 4096 ≤ length times
  pub in_extras : 24576 ≤ length extras

-- the tables of cues, times and extras, with its cue and its extras; or there are 2,048 cues already
module _ (place many : ℕ) (when : Interval) (ws : WsMode) (line : Line) (rows : ℕ) (c c' : List ℕ) (m m' : List ℤ) (x x' : List ℕ)
    (l : List (Attr Placed)) where
  pub record CueAdded (r : Line) : Type 0 where
    pub few : line.cues < 2048
    pub kept : length (inline_extras with_places l) ≤ many
    pub is : r ≡ record {
      cues = line.cues + 1;
      rows = rows;
      extras = line.extras + length (inline_extras with_places l);
      end = when.end;
    }
    pub in-cues : c' ≡ sets c (line.cues * 11) (cue_cells (cue_row when ws line rows l))
    pub in_times : m' ≡ sets m (line.cues * 2) (when.start ∷ when.end ∷ [])
    pub in_extras : x' ≡ sets x (line.extras * 3) (placed_cells (inline_extras with_places l))

  abbrev pub CueOutcome : Result Line Refusal → Type 0
  CueOutcome (Ok r) = CueAdded r
  CueOutcome (Err q) = (2048 ≤ line.cues) × (q ≡ record { number = 13; place = place })

-- ---- timed elements

-- The element in row k with all that stands in it, after the cues `earlier`. Its strings end at `limit` or before.
pub record Child (b : Base) (limit : ℕ) (t u z : List ℕ) (k : ℕ) (line : Line) (T : CueTables) : Type 0 where
  pub own : ℕ
  pub place : ℕ
  pub len : ℕ
  pub attrs : List placed.Attr
  pub content : Forest
  pub holds : Holds t u z k own (placed.elem place len attrs content placed.nil)
  pub hi : ℕ
  pub placed : InOrder hi (spans (placed.elem place len attrs content placed.nil)) limit
  pub earlier : List (Cue Placed)
  pub standing : Lined b hi earlier line T
  pub room : line.extras + (length attrs + length (attrs_of content)) ≤ 8192

-- Siblings in rows `from` up to `end`.
pub record Children (b : Base) (limit : ℕ) (t u z : List ℕ) (from end : ℕ) (line : Line) (T : CueTables) : Type 0 where
  pub own : ℕ
  pub forest : Forest
  pub holds : Holds t u z from own forest
  pub rows : from + size forest ≡ end
  pub hi : ℕ
  pub placed : InOrder hi (spans forest) limit
  pub earlier : List (Cue Placed)
  pub standing : Lined b hi earlier line T
  pub room : line.extras + length (attrs_of forest) ≤ 8192

pub record AsksChild (t u z : List ℕ) (k : ℕ) (line : Line) (T : CueTables) : Type 0 where
  pub spacious : Spacious z T
  pub base : Base
  pub limit : ℕ
  pub child : Child base limit t u z k line T

pub record AsksCues (t u z : List ℕ) (from end : ℕ) (line : Line) (T : CueTables) : Type 0 where
  pub spacious : Spacious z T
  pub base : Base
  pub limit : ℕ
  pub children : Children base limit t u z from end line T

-- m is what elements of `many` attributes mean, whose strings end at `limit` or before
module _ (b : Base) (limit : ℕ) (line : Line) (many : ℕ) (T' : CueTables) (m : Answer (meaning.Line Placed)) where
  -- all cues up to and with theirs stand in the tables
  pub record Came (r : Line) : Type 0 where
    pub cues : List (Cue Placed)
    pub means : m ≡ is (record { cues = cues; end = r.end })
    pub hi : ℕ
    pub below : hi ≤ limit
    pub standing : Lined b hi cues r T'
    pub few : r.extras ≤ line.extras + many

  abbrev pub Outcome : Result Line Refusal → Type 0
  Outcome (Ok r) = Came r
  Outcome (Err q) = m ≡ turned q

-- what the element in row k means, m by its place, name, attributes and content
abbrev pub ChildPost : ((cues : List (Cue Placed)) (at : ℕ) (name : Placed) → List (Attr Placed) → Nodes Placed → Answer (meaning.Line Placed))
    → (t u z : List ℕ) (k : ℕ) (line : Line) (T T' : CueTables) → Result Line Refusal → Type 0
ChildPost m t u z k line T T' r =
    (b : Base) (limit : ℕ) (x : Child b limit t u z k line T)
    → Outcome b limit line (length x.attrs + length (attrs_of x.content)) T'
    (m x.earlier x.place (record { place = x.place + 1; bytes = string_at z (x.place + 1) x.len }) (attrs_in z x.attrs)
    (nodes_in z x.content)) r

abbrev pub ParagraphPost : (t u z : List ℕ) (k : ℕ) (reference : ℤ) → TimingCtx → WsMode → (line : Line) (T T' : CueTables)
    → Result Line Refusal → Type 0
ParagraphPost t u z k reference ctx ws line T T' r =
    ChildPost (λ cues at name l c. p_of with_places ctx reference (space_in ws) cues at l c) t u z k line T T' r

-- the children of a container of which `begin` is known
abbrev pub within : TimingCtx → WsMode → (begin : ℤ) → List (Cue Placed) → List (Attr Placed) → Nodes Placed → Answer (meaning.Line Placed)
within ctx ws begin cues l c = cues_in with_places ctx (is_seq with_places l) (space_of with_places (space_in ws) l) begin begin begin cues c

abbrev pub ContainerPost : (t u z : List ℕ) (k : ℕ) (begin : ℤ) → TimingCtx → WsMode → (line : Line) (T T' : CueTables) → Result Line Refusal → Type 0
ContainerPost t u z k begin ctx ws line T T' r = ChildPost (λ cues at name l c. within ctx ws begin cues l c) t u z k line T T' r

abbrev pub div_in : TimingCtx → WsMode → (reference : ℤ) → List (Cue Placed) → ℕ → List (Attr Placed) → Nodes Placed → Answer (meaning.Line Placed)
div_in ctx ws reference cues at l c = div_of with_places ctx reference at l (λ start. within ctx ws start cues l c)

abbrev pub DivPost : (t u z : List ℕ) (k : ℕ) (reference : ℤ) → TimingCtx → WsMode → (line : Line) (T T' : CueTables) → Result Line Refusal → Type 0
DivPost t u z k reference ctx ws line T T' r = ChildPost (λ cues at name l c. div_in ctx ws reference cues at l c) t u z k line T T' r

-- with its children's line known
abbrev pub Closes : TimingCtx → (place : ℕ) → (start : ℤ) → (inner : Line) → List (Attr Placed) → Result Line Refusal → Type 0
Closes ctx place start inner l (Ok r) =
    (end_from ctx place start inner.end l ≡ is r.end) × (r.cues ≡ inner.cues) × (r.rows ≡ inner.rows) × (r.extras ≡ inner.extras)
Closes ctx place start inner l (Err q) = end_from ctx place start inner.end l ≡ turned q

-- an element of a container: `cues_in` says this of each
abbrev pub child_in : TimingCtx → (seq : Bool) → WsMode → (reference : ℤ) → List (Cue Placed) → ℕ → Placed → List (Attr Placed) → Nodes Placed
    → Answer (meaning.Line Placed)
child_in ctx seq ws reference cues at n l c = elim (timed_of with_places n) [
  | a_div ↦ div_in ctx ws reference cues at l c
  | a_p ↦ p_of with_places ctx reference (space_in ws) cues at l c
  | unknown ↦ cues_in with_places ctx seq (space_of with_places (space_in ws) l) reference reference reference cues c
]

abbrev pub ElementPost : (t u z : List ℕ) (k : ℕ) (seq : Bool) (reference : ℤ) → TimingCtx → WsMode → (line : Line) (T T' : CueTables)
    → Result Line Refusal → Type 0
ElementPost t u z k seq reference ctx ws line T T' r = ChildPost (child_in ctx seq ws reference) t u z k line T T' r

-- what the next child counts from
abbrev pub following : Bool → (begin end : ℤ) → ℤ
following seq begin end = cond seq end begin

abbrev pub CuesPost : (t u z : List ℕ) (from end : ℕ) (seq : Bool) (begin : ℤ) → TimingCtx → WsMode → (line : Line) (T T' : CueTables)
    → Result Line Refusal → Type 0
CuesPost t u z from end seq begin ctx ws line T T' r =
    (b : Base) (limit : ℕ) (x : Children b limit t u z from end line T)
    → Outcome b limit line (length (attrs_of x.forest)) T'
    (cues_in with_places ctx seq (space_in ws) begin begin begin x.earlier (nodes_in z x.forest)) r

-- ---- the body: its siblings stand in rows `from` up to `end`; no cue stands in the tables

abbrev pub no_line : ℕ → Line
no_line rows = record { cues = 0; rows = 0; extras = rows; end = pos 0 }

pub record Bodies (b : Base) (limit : ℕ) (t u z : List ℕ) (from end rows : ℕ) (T : CueTables) : Type 0 where
  pub own : ℕ
  pub forest : Forest
  pub holds : Holds t u z from own forest
  pub size : from + size forest ≡ end
  pub placed : InOrder 0 (spans forest) limit
  pub within : limit ≤ b.lengths.texts
  pub standing : Lined b 0 [] (no_line rows) T
  pub room : rows + attrs_named z (ascii "body") forest ≤ 8192

pub record AsksBody (t u z : List ℕ) (from end rows : ℕ) (T : CueTables) : Type 0 where
  pub spacious : Spacious z T
  pub base : Base
  pub limit : ℕ
  pub bodies : Bodies base limit t u z from end rows T

-- m is what the body means
module _ (b : Base) (limit : ℕ) (T' : CueTables) (m : Answer (List (Cue Placed))) where
  pub record Bodied (r : Line) : Type 0 where
    pub cues : List (Cue Placed)
    pub means : m ≡ is cues
    pub hi : ℕ
    pub below : hi ≤ limit
    pub standing : Lined b hi cues r T'

  abbrev pub BodyOutcome : Result Line Refusal → Type 0
  BodyOutcome (Ok r) = Bodied r
  BodyOutcome (Err q) = m ≡ turned q

abbrev pub BodyPost : (t u z : List ℕ) (from end : ℕ) → TimingCtx → WsMode → (rows : ℕ) (T T' : CueTables) → Result Line Refusal → Type 0
BodyPost t u z from end ctx ws rows T T' r =
    (b : Base) (limit : ℕ) (x : Bodies b limit t u z from end rows T)
    → BodyOutcome b limit T' (body_of with_places ctx (space_in ws) (first_element with_places (ascii "body") (nodes_in z x.forest))) r
