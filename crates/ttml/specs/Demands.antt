-- The customer's demands, as statements about the calls that a user has, in Rattle and in C, each sentence of document 01, or of a change request
-- in document 02, beside its statement. Definitions alone; proofs/Demands proves every one of them.
--
-- What is said of a call is said of every outcome that its promise holds of: a text or a track, the tables that are lent, the answer, and the
-- tables that are left. That the running call has such an outcome, whatever it is given, is what its contract says and the checker has proved:
--     the tree reader    `parse_xml`           xml.Parsed text lent answer left
--     the reader         `parse`               Parsed text lent answer left
--     the single cue     `bytes_to_cue`        CueParsed text lent answer left
--     the writer         `write`               Promise whole_text T out answer left
--     one cue written    `cue_to_bytes`        Promise (cue_number i) T out answer left
--     what a cue says    `plain_text`          PlainText T i out answer left
--     the check          `check_track`         Checked T answer
--     the three queries                        ReferencedStyle, RegionStyle, EffectiveStyle
--     read and written   `recaption`           Recaptioned text lent out answer left written
--     written and read   `read_back`           Returned T out lent answer written left
--     each in C          `pg_…`                Tells, ReadInC, AnswersInC of the above: 64 bits, counts, 27 cells and a float
-- None of them asks anything of its caller.
use Rattle.queries.specs.Reply.{Reply}
use Rattle.std.specs.Prelude.{ℤ, Result, Ok, Err, ⊤, ℕ, ◌-◌, ◌≤◌, ◌<◌, ◌≡◌, true, ◌↔◌, List, [], ◌∷◌, ◌++◌, length, take, replicate, Float}
use Rattle.std.proofs.Math.Option.{none, some}
use Rattle.utf8.specs.Utf8.{Utf8}
use Rattle.utf8.specs.White.{trimmed, words}
use Rattle.entities.specs.Decode.{decoded}
use Rattle.grammar.specs.Tree.{Forest}
use Rattle.grammar.specs.Demand.{Derives, NoTwo, decode_forest}
use Rattle.tree.specs.Trees as placed
use Rattle.tree.specs.Answers.{Says}
use Rattle.derivation.specs.Strings.{tree_in}
use Rattle.times.specs.declared.offset.TimingCtx.{TimingCtx}
use Rattle.times.specs.Expressions.{`h`, `m`, `s`, `ms`, `f`, `t`, Way, clock, offset, first_of, time_in, TimeBy, in_rusts_order}
use Rattle.track.specs.Track.{Bytes, Style, Cue, Track}
use Rattle.track.specs.Tables as track
use Rattle.track.specs.Meaning.{track_in}
use Rattle.track.specs.Check.{Checked}
use Rattle.track.specs.Check as check
use Rattle.track.specs.Plain.{is_plain_track}
use Rattle.records.specs.Find.{find_style}
use Rattle.xml.specs.Promise as xml
use Rattle.meaning.specs.Answers.{is}
use Rattle.meaning.specs.Kinds.{bare, nodes_of}
use Rattle.meaning.specs.Meaning.{track_of, cue_of}
use Rattle.laid.specs.Laid.{alone, whole, single}
use Rattle.written.specs.Written.{written_of, cue_written}
use Rattle.promised.specs.Promise.{Tables, LongEnough, AllZero, Parsed, CueParsed, number_of}
use Rattle.promised.specs.Promise as reading
use Rattle.writer.specs.Promise.{Promise, whole_text, cue_number}
use Rattle.writer.specs.Promise as writing
use Rattle.walk.specs.Text.{text_of}
use Rattle.spoken.specs.Promise.{PlainText, of_track_of}
use Rattle.spoken.specs.Promise as spoken
use Rattle.styles.specs.Own as styles
use Rattle.styles.specs.Queries.{region_style, effective_style, nth}
use Rattle.styles.specs.Reaches.{Reaches, Exactly}
use Rattle.styles.specs.Resolve.{Resolution}
use Rattle.styles.specs.Listing.{InOrder}
use Rattle.styles.specs.Ids.{ids_in}
use Rattle.queries.specs.Promise.{ReferencedStyle, RegionStyle, EffectiveStyle, Askable, TooMany, ByRegion, ByCue, region_names, cue_names}
use Rattle.queries.specs.Promise.{style_in, count_of}
use Rattle.queries.specs.Promise as query
use Rattle.told.specs.Told.{Tells, check_told, read_told, written_told}
use Rattle.told.specs.Trees.{ReadInC}
use Rattle.told.specs.Queries.{AnswersInC}
use Rattle.rewritten.specs.Recaption.{Recaptioned}
use Rattle.ttml.specs.ReadBack.{Back, Signed, Returned}
use Rattle.times.specs.declared.offset.TimeError.{TimeError}
use Rattle.tree.specs.declared.answers.Refusal.{Refusal}
use Rattle.tree.specs.declared.answers.TreeSize.{TreeSize}

-- ---- 1. "for each public call, the number, the place and every cell of every table afterwards follow from the input by its promise"

-- two outcomes that a promise holds of are the same
abbrev pub Determined : {Answer Left : Type 0} → (Answer → Left → Type 0) → Type 0
Determined {Answer} {Left} promise = (x y : Answer) (a b : Left) → promise x a → promise y b → (x ≡ y) × (a ≡ b)

-- the same where two things are left
abbrev pub DeterminedBoth : {Answer One Two : Type 0} → (Answer → One → Two → Type 0) → Type 0
DeterminedBoth {Answer} {One} {Two} promise =
    (x y : Answer) (a b : One) (c d : Two) → promise x a c → promise y b d → (x ≡ y) × (a ≡ b) × (c ≡ d)

-- a query in C: its 64 bits, the ids, and the 27 cells and the float of its answer
abbrev pub QueryInC : (Reply → List ℕ → Type 0) → (lent : List ℕ) → Type 0
QueryInC promise lent =
    (out : List ℕ) (size : List Float)
    → DeterminedBoth (λ (r : ℕ) left (told : List ℕ × List Float). AnswersInC promise lent left out told.0 size told.1 r)

pub record Demand1 : Type 0 where
  pub tree-reader : (text : Bytes) (lent : xml.Tables) → Determined (xml.Parsed text lent)
  pub parse : (text : Bytes) (lent : Tables) → Determined (Parsed text lent)
  pub bytes_to_cue : (text : Bytes) (lent : Tables) → Determined (CueParsed text lent)
  pub write : (T : track.Tables) (out : Bytes) → Determined (Promise whole_text T out)
  pub cue_to_bytes : (i : ℕ) (T : track.Tables) (out : Bytes) → Determined (Promise (cue_number i) T out)
  pub plain-text : (T : spoken.Tables) (i : ℕ) (out : Bytes) → Determined (PlainText T i out)
  pub check_track : (T : track.Tables) (x y : Result ⊤ Refusal) → Checked T x → Checked T y → x ≡ y
  pub resolve-referenced_style : (value : Bytes) (T : track.Tables) (lent : List ℕ) → Determined (ReferencedStyle value T lent)
  pub region-style : (id : Bytes) (T : track.Tables) (lent : List ℕ) → Determined (RegionStyle id T lent)
  pub effective_style_for_cue_index : (T : track.Tables) (i : ℕ) (lent : List ℕ) → Determined (EffectiveStyle T i lent)
  pub recaption : (text : Bytes) (lent : Tables) (out : Bytes) → DeterminedBoth (Recaptioned text lent out)
  pub read_back : (T : track.Tables) (out : Bytes) (lent : Tables) → DeterminedBoth (Returned T out lent)
  -- the calls in C
  pub pg_parse_xml : (text : Bytes) (lent : xml.Tables) (counts : List ℕ)
      → DeterminedBoth (λ (r : ℕ) left counted. ReadInC text lent counts left counted r)
  pub pg_parse : (text : Bytes) (lent : Tables) → Determined (λ (r : ℕ) left. Tells read_told (λ a. Parsed text lent a left) r)
  pub pg_bytes_to_cue : (text : Bytes) (lent : Tables) → Determined (λ (r : ℕ) left. Tells read_told (λ a. CueParsed text lent a left) r)
  pub pg_write : (T : track.Tables) (out : Bytes) → Determined (λ (r : ℕ) left. Tells written_told (λ a. Promise whole_text T out a left) r)
  pub pg_cue_to_bytes : (i : ℕ) (T : track.Tables) (out : Bytes)
      → Determined (λ (r : ℕ) left. Tells written_told (λ a. Promise (cue_number i) T out a left) r)
  pub pg_plain_text : (T : spoken.Tables) (i : ℕ) (out : Bytes) → Determined (λ (r : ℕ) left. Tells written_told (λ a. PlainText T i out a left) r)
  pub pg_check_track : (T : track.Tables) (r s : ℕ) → Tells check_told (Checked T) r → Tells check_told (Checked T) s → r ≡ s
  pub pg_resolve_referenced_style : (value : Bytes) (T : track.Tables) (lent : List ℕ) → QueryInC (ReferencedStyle value T lent) lent
  pub pg_region_style : (id : Bytes) (T : track.Tables) (lent : List ℕ) → QueryInC (RegionStyle id T lent) lent
  pub pg_effective_style_for_cue_index : (T : track.Tables) (i : ℕ) (lent : List ℕ) → QueryInC (EffectiveStyle T i lent) lent

-- ---- 2. "Say of each result which definition it equals"

-- a text that has its tree, which means what it does
abbrev pub means_track : Forest → Track Bytes → Type 0
means_track f t = track_of bare (nodes_of (decode_forest decoded f)) ≡ is t

abbrev pub means_cue : Forest → Cue Bytes → Type 0
means_cue f c = cue_of bare (nodes_of (decode_forest decoded f)) ≡ is c

-- a text w that is asked for has room in the bytes that are lent; and it is left in them, with zeros behind it
abbrev pub HasRoom : (w out : Bytes) → Type 0
HasRoom w out = (length w ≤ length out) × (length w ≤ 65536)

abbrev pub Leaves : (w out : Bytes) → Result ℕ Refusal → (left : Bytes) → Type 0
Leaves w out answer left = (answer ≡ Ok (length w)) × (left ≡ w ++ replicate (length out - length w) 0)

pub record Demand2 : Type 0 where
  -- `parse` gives the track that the derived tree means, and no other: it calls no film malformed, nor gives an empty track for one that has
  -- cues. What it leaves passes `check_track`.
  pub parse_gives : (text : Bytes) (lent left : Tables) (answer : Result ⊤ Refusal) (f : Forest) (t : Track Bytes) → LongEnough lent → Utf8 text
      → Derives text f → means_track f t → Parsed text lent answer left
      → (answer ≡ (Ok tt)) × (track_in left.track ≡ some t) × Checked left.track (Ok tt)
  -- and takes nothing else
  pub parse_only : (text : Bytes) (lent left : Tables) → Parsed text lent (Ok tt) left
      → (f : Forest) × (t : Track Bytes) × Derives text f × means_track f t × (track_in left.track ≡ some t)
  -- "Limits and what is turned away": with that number and place, and with no other
  pub parse_refuses : (text : Bytes) (lent left : Tables) (answer : Result ⊤ Refusal) (n p : ℕ) → Parsed text lent answer left → 0 < n
      → reading.Says answer n p ↔ reading.TurnsAway whole text lent n p
  -- "unused cells are zero": after a refusal all are
  pub parse_clears : (text : Bytes) (lent left : Tables) (answer : Result ⊤ Refusal) → Parsed text lent answer left → 0 < number_of answer
      → AllZero lent left
  -- `bytes_to_cue` gives the cue that the derived tree means, as a track of one cue and nothing else; it takes nothing else
  pub cue_gives : (text : Bytes) (lent left : Tables) (answer : Result ⊤ Refusal) (f : Forest) (c : Cue Bytes) → LongEnough lent → Utf8 text
      → Derives text f → means_cue f c → CueParsed text lent answer left
      → (answer ≡ (Ok tt)) × (track_in left.track ≡ some (alone c)) × Checked left.track (Ok tt)
  pub cue_only : (text : Bytes) (lent left : Tables) → CueParsed text lent (Ok tt) left
      → (f : Forest) × (c : Cue Bytes) × Derives text f × means_cue f c × (track_in left.track ≡ some (alone c))
  pub cue_refuses : (text : Bytes) (lent left : Tables) (answer : Result ⊤ Refusal) (n p : ℕ) → CueParsed text lent answer left → 0 < n
      → reading.Says answer n p ↔ reading.TurnsAway single text lent n p
  pub cue_clears : (text : Bytes) (lent left : Tables) (answer : Result ⊤ Refusal) → CueParsed text lent answer left → 0 < number_of answer
      → AllZero lent left
  -- `write` leaves the text of the track, and nothing else: no blank output; "18" exactly where it does not fit
  pub write_gives : (T : track.Tables) (t : Track Bytes) (out left : Bytes) (answer : Result ℕ Refusal) → track.LongEnough (track.lengths T)
      → track_in T ≡ some t → HasRoom (written_of t) out → Promise whole_text T out answer left → Leaves (written_of t) out answer left
  pub write_full : (T : track.Tables) (t : Track Bytes) (out left : Bytes) (answer : Result ℕ Refusal) → track.LongEnough (track.lengths T)
      → track_in T ≡ some t → Promise whole_text T out answer left → (writing.number_of answer ≡ 18) ↔ (¬ HasRoom (written_of t) out)
  -- `cue_to_bytes` the same of the text of a cue; an index past the end meets 17
  pub cue-written : (i : ℕ) (T : track.Tables) (t : Track Bytes) (c : Cue Bytes) (out left : Bytes) (answer : Result ℕ Refusal)
      → track.LongEnough (track.lengths T) → track_in T ≡ some t → nth t.cues i ≡ some c → HasRoom (cue_written c) out
      → Promise (cue_number i) T out answer left → Leaves (cue_written c) out answer left
  pub cue_full : (i : ℕ) (T : track.Tables) (t : Track Bytes) (c : Cue Bytes) (out left : Bytes) (answer : Result ℕ Refusal)
      → track.LongEnough (track.lengths T) → track_in T ≡ some t → nth t.cues i ≡ some c → Promise (cue_number i) T out answer left
      → (writing.number_of answer ≡ 18) ↔ (¬ HasRoom (cue_written c) out)
  pub cue_past : (i : ℕ) (T : track.Tables) (t : Track Bytes) (out left : Bytes) (answer : Result ℕ Refusal) → track.LongEnough (track.lengths T)
      → track_in T ≡ some t → length t.cues ≤ i → Promise (cue_number i) T out answer left
      → (answer ≡ Err (record { number = 17; place = 0 })) × (left ≡ replicate (length out) 0)
  -- `plain_text` leaves what a cue says, and nothing else; "18" exactly where it does not fit; an index past the end meets 17
  pub text-gives : (i : ℕ) (T : track.Tables) (t : Track Bytes) (c : Cue Bytes) (out left : Bytes) (answer : Result ℕ Refusal)
      → track.LongEnough (track.lengths T) → track_in T ≡ some t → nth t.cues i ≡ some c → HasRoom (text_of c.segments) out
      → PlainText (of_track_of T) i out answer left → Leaves (text_of c.segments) out answer left
  pub text-full : (i : ℕ) (T : track.Tables) (t : Track Bytes) (c : Cue Bytes) (out left : Bytes) (answer : Result ℕ Refusal)
      → track.LongEnough (track.lengths T) → track_in T ≡ some t → nth t.cues i ≡ some c → PlainText (of_track_of T) i out answer left
      → (writing.number_of answer ≡ 18) ↔ (¬ HasRoom (text_of c.segments) out)
  pub text-past : (i : ℕ) (T : track.Tables) (t : Track Bytes) (out left : Bytes) (answer : Result ℕ Refusal) → track.LongEnough (track.lengths T)
      → track_in T ≡ some t → length t.cues ≤ i → PlainText (of_track_of T) i out answer left
      → (answer ≡ Err (record { number = 17; place = 0 })) × (left ≡ replicate (length out) 0)
  -- `check_track` takes exactly the tables that are long enough and mean a track; any other is 1 or 17, at place 0
  pub check_takes : (T : track.Tables) (answer : Result ⊤ Refusal) → Checked T answer
      → (answer ≡ (Ok tt)) ↔ (track.LongEnough (track.lengths T) × ((t : Track Bytes) × (track_in T ≡ some t)))
  pub check_refuses : (T : track.Tables) (answer : Result ⊤ Refusal) (n p : ℕ) → Checked T answer → 0 < n
      → check.Says answer n p ↔ check.TurnsAway T n p
  -- "`resolve_referenced_style` gives no style exactly if no id reachable through chains names one."
  pub resolver_follows : (value : Bytes) (T : track.Tables) (t : Track Bytes) (lent left : List ℕ) (answer : Reply) → track_in T ≡ some t
      → ReferencedStyle value T lent answer left → query.number_of answer ≡ 0
      → (style_in T.strings answer ≡ none) ↔ ((id : Bytes) → Reaches t.styles value id → find_style id t.styles ≡ none)
  -- "the ids reached, each once, […] and their count, equal to the number of distinct ids reachable"
  pub resolver_counts : (value : Bytes) (T : track.Tables) (t : Track Bytes) (lent left : List ℕ) (answer : Reply) → track_in T ≡ some t
      → ReferencedStyle value T lent answer left → query.number_of answer ≡ 0
      → Exactly (Reaches t.styles value) (ids_in value T.strings left (count_of answer))
  -- `region_style` and `effective_style_for_cue_index` give the style that the definition resolves, and exactly the ids reached; or 14 or 15
  pub region_gives : (id : Bytes) (T : track.Tables) (t : Track Bytes) (r : Resolution) (lent left : List ℕ) (answer : Reply) → track_in T ≡ some t
      → region_style t id ≡ styles.is r → RegionStyle id T lent answer left → query.number_of answer ≡ 0
      → (style_in T.strings answer ≡ r.style) × Exactly (ByRegion t id) (ids_in id T.strings left (count_of answer))
  pub effective_gives : (i : ℕ) (T : track.Tables) (t : Track Bytes) (r : Resolution) (lent left : List ℕ) (answer : Reply) → track_in T ≡ some t
      → effective_style t i ≡ styles.is r → EffectiveStyle T i lent answer left → query.number_of answer ≡ 0
      → (style_in T.strings answer ≡ r.style) × Exactly (ByCue t i) (ids_in [] T.strings left (count_of answer))
  pub region_refused : (id : Bytes) (T : track.Tables) (t : Track Bytes) (n : ℕ) (lent left : List ℕ) (answer : Reply) → Askable id T t
      → region_style t id ≡ styles.refused n → RegionStyle id T lent answer left → query.number_of answer ≡ n
  pub effective_refused : (i : ℕ) (T : track.Tables) (t : Track Bytes) (n : ℕ) (lent left : List ℕ) (answer : Reply) → Askable [] T t
      → effective_style t i ≡ styles.refused n → EffectiveStyle T i lent answer left → query.number_of answer ≡ n
  -- "18" exactly where the ids reached, whatever their order, are more than the rows that are lent, or than 65,536
  pub resolver_full : (value : Bytes) (T : track.Tables) (t : Track Bytes) (ids : List Bytes) (lent left : List ℕ) (answer : Reply)
      → Askable value T t → Exactly (Reaches t.styles value) ids → ReferencedStyle value T lent answer left
      → (query.number_of answer ≡ 18) ↔ TooMany lent ids
  pub region_full : (id : Bytes) (T : track.Tables) (t : Track Bytes) (r : Resolution) (ids : List Bytes) (lent left : List ℕ) (answer : Reply)
      → Askable id T t → region_style t id ≡ styles.is r → Exactly (ByRegion t id) ids → RegionStyle id T lent answer left
      → (query.number_of answer ≡ 18) ↔ TooMany lent ids
  pub effective_full : (i : ℕ) (T : track.Tables) (t : Track Bytes) (r : Resolution) (ids : List Bytes) (lent left : List ℕ) (answer : Reply)
      → Askable [] T t → effective_style t i ≡ styles.is r → Exactly (ByCue t i) ids → EffectiveStyle T i lent answer left
      → (query.number_of answer ≡ 18) ↔ TooMany lent ids

-- ---- 3. the grammar, and reading back

pub record Demand3 : Type 0 where
  -- "It is taken if the tree reader, lent tables that are long enough, answers without a number": exactly if the grammar derives a tree for it
  -- within the limits
  pub takes_exactly : (text : Bytes) (lent left : xml.Tables) (answer : Result TreeSize Refusal) → xml.LongEnough lent → Utf8 text
      → xml.Parsed text lent answer left → Says answer 0 0 ↔ ((f : Forest) × Derives text f)
  -- "The tree reader gives it with entities read where the Rust reads them."
  pub gives-that_tree : (text : Bytes) (lent left : xml.Tables) (answer : Result TreeSize Refusal) (f : Forest) → xml.LongEnough lent → Utf8 text
      → Derives text f → xml.Parsed text lent answer left
      → (g : placed.Forest) × (tree_in left.strings g ≡ decode_forest decoded f)
      × (left.nodes ≡ xml.then_zeros (placed.rows 0 0 g) (length lent.nodes))
      × (left.attrs ≡ xml.then_zeros (placed.attr_rows (placed.attrs_of g)) (length lent.attrs))
  -- "the tree reader meets none above 11"
  pub none-above_11 : (text : Bytes) (lent left : xml.Tables) (answer : Result TreeSize Refusal) (n p : ℕ) → xml.Parsed text lent answer left
      → Says answer n p → n ≤ 11
  -- no text has two trees
  pub no_two : NoTwo
  -- for every plain track: its writing meets no number, nor does its written text
  pub reads_back : (T : track.Tables) (t : Track Bytes) → Signed T.times → track_in T ≡ some t → is_plain_track t ≡ true
      → (out written : Bytes) (n : ℕ) → Promise whole_text T out (Ok n) written
      → (lent left : Tables) → Parsed (take n written) lent (Ok tt) left → Back t n written left

-- ---- the change requests of document 02

-- (d) Times in the standard's order. `time_in` is the time of a text for every call that reads one, `TimeBy` what a text is in one of the seven
-- ways: a time, or the number that it meets.
pub record RequestD : Type 0 where
  -- "put the steps in the order of the standard's own text": "clock time first, then offset time with the metrics h, m, s, ms, f, t"
  pub in_order : (text : Bytes) (ctx : TimingCtx) → time_in text ctx
      ≡ first_of (clock ∷ offset `h` ∷ offset `m` ∷ offset `s` ∷ offset `ms` ∷ offset `f` ∷ offset `t` ∷ []) (trimmed text) ctx
  -- a text has an answer exactly if it has that answer in one of the ways
  pub some_way : (text : Bytes) (ctx : TimingCtx) (t : Result ℤ TimeError)
      → ((time_in text ctx ≡ t) × ¬ (t ≡ (Err TimeError.Invalid))) ↔ ((way : Way) × TimeBy way text ctx t)
  -- "no text is a time in two of these seven ways"; nor does one meet a number in one way and have an answer in another
  pub no_two_ways : (text : Bytes) (ctx : TimingCtx) (v w : Way) (t u : Result ℤ TimeError) → TimeBy v text ctx t → TimeBy w text ctx u → v ≡ w
  -- "Every answer is as it was."
  pub as_before : (text : Bytes) (ctx : TimingCtx) → time_in text ctx ≡ in_rusts_order text ctx

-- (k) "Order of the ids reached"
pub record RequestK : Type 0 where
  -- "The ids reached are listed in the order of their first visit: an id, then its parents from left to right, each followed out fully." So are
  -- those in the table, from the ids that a value names on; from those that the region's chain names; and for a cue from those of its region,
  -- then those of its style.
  pub value-order : (value : Bytes) (T : track.Tables) (t : Track Bytes) (lent left : List ℕ) (answer : Reply) → track_in T ≡ some t
      → ReferencedStyle value T lent answer left → query.number_of answer ≡ 0
      → InOrder t.styles (words value) (ids_in value T.strings left (count_of answer))
  pub region_order : (id : Bytes) (T : track.Tables) (t : Track Bytes) (lent left : List ℕ) (answer : Reply) → track_in T ≡ some t
      → RegionStyle id T lent answer left → query.number_of answer ≡ 0
      → InOrder t.styles (region_names t (some id)) (ids_in id T.strings left (count_of answer))
  pub cue_order : (i : ℕ) (T : track.Tables) (t : Track Bytes) (lent left : List ℕ) (answer : Reply) → track_in T ≡ some t
      → EffectiveStyle T i lent answer left → query.number_of answer ≡ 0
      → InOrder t.styles (cue_names t (nth t.cues i)) (ids_in [] T.strings left (count_of answer))
  -- "The order is thus no longer the program's choice": no other list is in that order
  pub one_order : (styles : List (Style Bytes)) (ids l m : List Bytes) → InOrder styles ids l → InOrder styles ids m → l ≡ m
  -- "and the count is what it was": "equal to the number of distinct ids reachable"
  pub value-count : (value : Bytes) (T : track.Tables) (t : Track Bytes) (ids : List Bytes) (lent left : List ℕ) (answer : Reply)
      → track_in T ≡ some t → Exactly (Reaches t.styles value) ids → ReferencedStyle value T lent answer left → query.number_of answer ≡ 0
      → count_of answer ≡ length ids
  pub region-count : (id : Bytes) (T : track.Tables) (t : Track Bytes) (ids : List Bytes) (lent left : List ℕ) (answer : Reply)
      → track_in T ≡ some t → Exactly (ByRegion t id) ids → RegionStyle id T lent answer left → query.number_of answer ≡ 0
      → count_of answer ≡ length ids
  pub cue-count : (i : ℕ) (T : track.Tables) (t : Track Bytes) (ids : List Bytes) (lent left : List ℕ) (answer : Reply)
      → track_in T ≡ some t → Exactly (ByCue t i) ids → EffectiveStyle T i lent answer left → query.number_of answer ≡ 0
      → count_of answer ≡ length ids

-- ---- all of them
pub record Demands : Type 0 where
  pub first : Demand1
  pub second : Demand2
  pub third : Demand3
  pub request_d : RequestD
  pub request_k : RequestK
