-- What the three queries promise, in the words of document 01 and of document 02, (k): of the text asked for, the handed track, the table of
-- ids that is lent and what is left in it, and the answer. Definitions alone. Nothing here says how the program goes about it.
-- A row of the table of ids is four cells: 0 (the query's text) or 1 (the track's strings); place; length; 0.
use Rattle.queries.specs.Reply.{Reply}
use Rattle.std.specs.Prelude.{Ok, Err, ℕ, ◌-◌, ◌*◌, ◌≤◌, ◌<◌, ◌≡◌, cond, ◌↔◌, ◌⊎◌, List, [], ◌∷◌, ◌++◌, length, replicate}
use Rattle.std.proofs.Math.Option.{Option, none, some}
use Rattle.utf8.specs.Utf8.{Utf8}
use Rattle.utf8.specs.White.{words, trimmed, white_end}
use Rattle.track.specs.Track.{Bytes, Look, Region, Cue, Track}
use Rattle.track.specs.declared.strings.Span.{Span}
use Rattle.track.specs.Tables.{Tables, span, lengths, LongEnough}
use Rattle.track.specs.Meaning.{bytes_at, look_in_of, track_in}
use Rattle.records.specs.Find.{find_style, find_region}
use Rattle.styles.specs.Reaches.{chain_words, Reaches, Exactly}
use Rattle.styles.specs.Resolve.{Resolution, resolve}
use Rattle.styles.specs.Listing.{InOrder}
use Rattle.styles.specs.Own.{Read, is, refused, value_of}
use Rattle.styles.specs.Queries.{region_style, effective_style, nth}
use Rattle.styles.specs.Cells.{Tidy}
use Rattle.styles.specs.Ids.{Row, ids_in, RowWithin}
use Rattle.styles.specs.Places.{WalkedAt}
use Rattle.queries.specs.Places.{PlacedValue, PlacedRegion, PlacedCue}
use Rattle.queries.specs.declared.query.Resolved.{Resolved}

-- ---- the answer
-- "An answer has number and byte place": a style, or none, has no number, here 0
unfoldable pub number_of : Reply → ℕ
number_of (Ok (Resolved.Style a)) = 0
number_of (Ok (Resolved.NoStyle n)) = 0
number_of (Err r) = r.number

unfoldable pub place_of : Reply → ℕ
place_of (Ok (Resolved.Style a)) = 0
place_of (Ok (Resolved.NoStyle n)) = 0
place_of (Err r) = r.place

abbrev pub Says : Reply → (number place : ℕ) → Type 0
Says answer n p = (number_of answer ≡ n) × (place_of answer ≡ p)

-- how many ids
unfoldable pub count_of : Reply → ℕ
count_of (Ok (Resolved.Style a)) = a.ids
count_of (Ok (Resolved.NoStyle n)) = n
count_of (Err r) = 0

-- the style's name, as a part of the query's text, and what the style says, its family being a part of the strings
unfoldable pub name_in : Bytes → Reply → Option Bytes
name_in text (Ok (Resolved.Style a)) = some (bytes_at text a.name)
name_in text (Ok (Resolved.NoStyle n)) = none
name_in text (Err r) = none

unfoldable pub style_in : Bytes → Reply → Option (Look Bytes)
style_in strings (Ok (Resolved.Style a)) = some (look_in_of strings a.look)
style_in strings (Ok (Resolved.NoStyle n)) = none
style_in strings (Err r) = none

-- "unused cells are zero": of a style that is given, the parts that are absent are zero
abbrev pub AbsentZero : Reply → Type 0
AbsentZero (Ok (Resolved.Style a)) = Tidy a.look
AbsentZero (Ok (Resolved.NoStyle n)) = Unit {0}
AbsentZero (Err r) = Unit {0}

-- ---- what is asked of a track
-- the style and the ids, or 14 or 15
abbrev pub Asked : Type 0
Asked = Track Bytes → Read Resolution

-- which ids are named, from left to right: by the chain of a region, the first of its id; by a cue those of its region, then those of its style
abbrev pub chain_names : Option (Region Bytes) → List Bytes
chain_names none = []
chain_names (some g) = chain_words (value_of "style" g.extras)

abbrev pub region_names : Track Bytes → Option Bytes → List Bytes
region_names k none = []
region_names k (some id) = chain_names (find_region id k.regions)

abbrev pub cue_names : Track Bytes → Option (Cue Bytes) → List Bytes
cue_names k none = []
cue_names k (some c) = region_names k c.region ++ chain_words c.style

-- which ids are reached: through the chain of the first region of this id
pub data ByRegion (k : Track Bytes) (id : Bytes) (a : Bytes) : Type 0 where
  chained : {g : Region Bytes} {v : Bytes} → find_region id k.regions ≡ some g → value_of "style" g.extras ≡ some v
      → Reaches k.styles v a → ByRegion k id a

-- through the region of the cue, or through its own value
pub data ByCue (k : Track Bytes) (i : ℕ) (a : Bytes) : Type 0 where
  its_region : {c : Cue Bytes} {id : Bytes} → nth k.cues i ≡ some c → c.region ≡ some id → ByRegion k id a → ByCue k i a
  its_value : {c : Cue Bytes} {v : Bytes} → nth k.cues i ≡ some c → c.style ≡ some v → Reaches k.styles v a → ByCue k i a

-- where the text's part without white space at its ends stands
abbrev pub trimmed_at : Bytes → Span
trimmed_at text = span (white_end text 0) (length (trimmed text))

-- One of the three queries: the text that is handed; the name of the style, and where that stands in the text; what is asked of a track;
-- which ids it names and which it reaches; and the walk through the chains by places.
pub record Query : Type 1 where
  pub text : Bytes
  pub name : Bytes
  pub at : Span
  pub asks : Asked
  pub names : Track Bytes → List Bytes
  pub reaches : Track Bytes → Bytes → Type 0
  pub walks : Tables → WalkedAt → Type 0

abbrev pub of_value : Bytes → Query
of_value value = record {
  text = value;
  name = trimmed value;
  at = trimmed_at value;
  asks = λ k. is (resolve k.styles value);
  names = λ k. words value;
  reaches = λ k. Reaches k.styles value;
  walks = PlacedValue value;
}

abbrev pub of_region : Bytes → Query
of_region id = record {
  text = id;
  name = id;
  at = span 0 (length id);
  asks = λ k. region_style k id;
  names = λ k. region_names k (some id);
  reaches = λ k. ByRegion k id;
  walks = PlacedRegion id;
}

-- no text is asked for, and the style has no name
abbrev pub of_cue_of : ℕ → Query
of_cue_of i = record {
  text = [];
  name = [];
  at = span 0 0;
  asks = λ k. effective_style k i;
  names = λ k. cue_names k (nth k.cues i);
  reaches = λ k. ByCue k i;
  walks = λ T. PlacedCue T i;
}

-- ---- the table of ids: a row for each, then zeros
unfoldable pub id_cells : List Row → List ℕ
id_cells [] = []
id_cells (a ∷ l) = a.source ∷ a.place ∷ a.len ∷ 0 ∷ id_cells l

abbrev pub id_table : List Row → (lent : ℕ) → List ℕ
id_table l lent = id_cells l ++ replicate (lent - length l * 4) 0

-- the answer after a walk; `at` is the place of the style's name in the text
abbrev pub answer_at : Span → WalkedAt → Reply
answer_at at v =
    cond v.found (Ok (Resolved.Style (record { name = at; look = v.look; ids = length v.visited }))) (Ok (Resolved.NoStyle (length v.visited)))

-- more ids than rows are lent, or than 65,536
abbrev pub TooMany : (lent : List ℕ) → List Bytes → Type 0
TooMany lent ids = (length lent < length ids * 4) ⊎ (65536 < length ids)

-- none of the numbers 1, 2, 3 and 17 is met, and the tables mean the track k
pub record Askable (text : Bytes) (T : Tables) (k : Track Bytes) : Type 0 where
  pub long_enough : LongEnough (lengths T)
  pub short : length text ≤ 65536
  pub valid : Utf8 text
  pub means : track_in T ≡ some k

module _ (q : Query) (T : Tables) (lent : List ℕ) where
  -- ---- what is turned away
  -- "Order: 1, 2, 3 […]; for a handed track 17 comes after 3; 18 is last"; a region's own values come before 18. "place (0 […] if a track
  -- was handed)"
  pub data TurnsAway : (number place : ℕ) → Type 0 where
    -- "1. A lent table is shorter than its fixed length.": one of the track's, since the table of ids has none
    short_table : ¬ LongEnough (lengths T) → TurnsAway 1 0
    -- "2. The text is longer than 65,536 bytes."
    long_text : LongEnough (lengths T) → 65536 < length q.text → TurnsAway 2 0
    -- "3. It is not UTF-8"
    not_utf8 : LongEnough (lengths T) → length q.text ≤ 65536 → ¬ Utf8 q.text → TurnsAway 3 0
    -- "17. A handed track has […]": the tables mean none
    no_track : LongEnough (lengths T) → length q.text ≤ 65536 → Utf8 q.text → track_in T ≡ none → TurnsAway 17 0
    -- "14. A decimal […] parses in the Rust but breaks the digit limits": a size that the region says itself
    own-size : {k : Track Bytes} → Askable q.text T k → q.asks k ≡ refused 14 → TurnsAway 14 0
    -- "15. The Rust stops on a value: […] a colour is cut inside a character": a colour that the region says itself
    own-color : {k : Track Bytes} → Askable q.text T k → q.asks k ≡ refused 15 → TurnsAway 15 0
    -- "18. Output exceeds the lent length or 65,536."
    too_many : {k : Track Bytes} {r : Resolution} → Askable q.text T k → q.asks k ≡ is r → TooMany lent r.ids → TurnsAway 18 0

  -- ---- what is given
  -- none of the numbers is met, and r is what is asked of the track k
  pub record Takes (k : Track Bytes) (r : Resolution) : Type 0 where
    pub askable : Askable q.text T k
    pub asked : q.asks k ≡ is r
    pub rows : length r.ids * 4 ≤ length lent
    pub few : length r.ids ≤ 65536

  pub record Gives (k : Track Bytes) (r : Resolution) (answer : Reply) (left : List ℕ) : Type 0 where
    -- it is that style, or none; it has that name; "unused cells are zero"
    pub style : style_in T.strings answer ≡ r.style
    pub named : (b : Bytes) → name_in q.text answer ≡ some b → b ≡ q.name
    pub absent : AbsentZero answer
    -- the ids in the table are those of the definition, row by row
    pub ids : ids_in q.text T.strings left (count_of answer) ≡ r.ids
    -- "The ids reached are listed in the order of their first visit: an id, then its parents from left to right, each followed out fully."
    pub order : InOrder k.styles (q.names k) r.ids
    -- "each holds exactly the ids reachable, each once", "and their count, equal to the number of distinct ids reachable"
    pub reached : Exactly (q.reaches k) r.ids
    pub count : (l : List Bytes) → Exactly (q.reaches k) l → count_of answer ≡ length l
    -- the same walk by places: where name, family and ids stand, each id where it was met first
    pub walked : WalkedAt
    pub is-walk : q.walks T walked
    pub told : answer ≡ answer_at q.at walked
    -- every cell of the table: each row points into the query's text or the track's strings; "unused cells are zero"
    pub table : left ≡ id_table walked.visited (length lent)
    pub within : (i : ℕ) → i < count_of answer → RowWithin q.text T.strings left i

  -- ---- the promise
  pub record Queried (answer : Reply) (left : List ℕ) : Type 0 where
    -- it answers without a number exactly if none is met, and then gives what is asked
    pub taken : (number_of answer ≡ 0) ↔ ((k : Track Bytes) × (r : Resolution) × Takes k r)
    pub gives : (k : Track Bytes) (r : Resolution) → Takes k r → Gives k r answer left
    -- or else with that number and that place, and with no other
    pub refused : (n p : ℕ) → 0 < n → Says answer n p ↔ TurnsAway n p
    -- after a refusal every cell is zero
    pub cleared : 0 < number_of answer → left ≡ replicate (length lent) 0

-- "`resolve_referenced_style` gives no style exactly if no id reachable through chains names one."
pub record ReferencedStyle (value : Bytes) (T : Tables) (lent : List ℕ) (answer : Reply) (left : List ℕ) : Type 0 where
  pub queried : Queried (of_value value) T lent answer left
  pub no_style : number_of answer ≡ 0 → (k : Track Bytes) → track_in T ≡ some k
      → (style_in T.strings answer ≡ none) ↔ ((a : Bytes) → Reaches k.styles value a → find_style a k.styles ≡ none)

abbrev pub RegionStyle : Bytes → Tables → List ℕ → Reply → List ℕ → Type 0
RegionStyle id T lent answer left = Queried (of_region id) T lent answer left

-- "A cue index past the end gives no style."
abbrev pub EffectiveStyle : Tables → ℕ → List ℕ → Reply → List ℕ → Type 0
EffectiveStyle T i lent answer left = Queried (of_cue_of i) T lent answer left
