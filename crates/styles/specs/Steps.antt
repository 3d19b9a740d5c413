-- What the inner functions of the resolution ask and ensure; no part of what a reader of the promise must believe.
--     x is the query's text, s the styles' table, f the sizes, e the extras, z the strings, n the number of styles, t the rows of ids
use Rattle.std.specs.Prelude as rust
use Rattle.std.specs.Prelude.{Some, None, ℕ, ◌+◌, ◌*◌, ◌≤◌, ◌<◌, ◌≡◌, Bool, true, false, cond, ◌⊎◌, List, [], ◌++◌, length, get_or, Float}
use Rattle.std.proofs.Math.Option.{Option, none, some}
use Rattle.track.specs.declared.strings.Span.{Span}
use Rattle.track.specs.declared.values.Look as values
use Rattle.track.specs.Track.{Bytes, Look, Style}
use Rattle.track.specs.Tables.{Tables, rows_from}
use Rattle.track.specs.Meaning.{is_color, given, look_in_of, style_in}
use Rattle.records.specs.Find.{Named}
use Rattle.styles.specs.declared.apply.Walk.{Walk}
use Rattle.styles.specs.Values.{laid_over}
use Rattle.styles.specs.Resolve.{Walked, Resolution, walk, resolve}
use Rattle.styles.specs.Queries.{others, both, with_own}
use Rattle.styles.specs.Cells.{Tidy}
use Rattle.styles.specs.Ids.{source_of, Row, bytes_of, rows_in, ids_in, RowWithin, Held}
use Rattle.styles.specs.Places.{
  row,
  WalkedAt,
  meet_at,
  chain_at,
  own_at,
  laid_at,
  is_visited,
  Walks,
  forget,
  Joined,
  Resolves,
}

-- ---- what the tables mean
abbrev pub bare : List ℕ → List Float → List ℕ → List ℕ → Tables
bare s f e z = record {
  head = [];
  params = [];
  styles = s;
  regions = [];
  cues = [];
  times = [];
  segments = [];
  sizes = f;
  extras = e;
  strings = z;
  texts = [];
}

-- the track's styles; whatever their extras
abbrev pub styles_in : List ℕ → List Float → List ℕ → List ℕ → ℕ → List (Style Bytes)
styles_in s f e z n = rows_from (style_in (bare s f e z)) n 0

-- what is known on the way, with places and without
abbrev pub state_at : (t : List ℕ) → Walk → WalkedAt
state_at t w = record { visited = rows_in t w.count; found = w.found; look = w.look }

abbrev pub state_in : (x z t : List ℕ) → Walk → Walked
state_in x z t w = forget x z (state_at t w)

-- ---- what is asked
pub record Chained (s z : List ℕ) (n : ℕ) : Type 0 where
  pub named : Named s z 27 n
  pub chains : (i : ℕ) → i < n → get_or s (i * 27 + 2) 0 + get_or s (i * 27 + 3) 0 ≤ length z
  pub few : (i : ℕ) → i < n → get_or s (i * 27 + 2) 0 + get_or s (i * 27 + 3) 0 ≤ 65536

pub record Ready (s : List ℕ) (f : List Float) (z : List ℕ) (n : ℕ) : Type 0 where
  pub chained : Chained s z n
  pub sizes : n ≤ length f
  pub color : (i : ℕ) → i < n → is_color s (i * 27 + 4) ≡ true
  pub back : (i : ℕ) → i < n → is_color s (i * 27 + 9) ≡ true

-- an id of `len` bytes stands at a place of its source
pub record Stands (x z own : List ℕ) (source at len : ℕ) : Type 0 where
  pub known : source ≤ 1
  pub is : own ≡ source_of x z source
  pub within : at + len ≤ length own
  pub few : at + len ≤ 65536

-- ---- what is ensured
pub record ChainOf (s z : List ℕ) (n : ℕ) (name : Bytes) (r : Span) : Type 0 where
  pub within : r.place + r.len ≤ length z
  pub few : r.place + r.len ≤ 65536
  pub is : row 1 r ≡ chain_at s z n name

pub record OwnStyle (s : List ℕ) (f : List Float) (z : List ℕ) (n : ℕ) (name : Bytes) (w r : Walk) : Type 0 where
  pub count : r.count ≡ w.count
  pub tidy : Tidy w.look → Tidy r.look
  pub is : (t : List ℕ) → state_at t r ≡ own_at s f z n name (state_at t w)

-- rows were added, and all stand as they should; those behind them are as they were
pub record Grown (x z t t' heads : List ℕ) (n n' : ℕ) : Type 0 where
  pub more : n ≤ n'
  pub kept : length t' ≡ length t
  pub held : Held x z t' heads n'
  pub behind : (k : ℕ) → n' * 4 ≤ k → get_or t' k 0 ≡ get_or t k 0

-- more ids than rows, or than document 01's 65,536
abbrev pub Over : List ℕ → List Bytes → Type 0
Over t ids = (length t < length ids * 4) ⊎ (65536 < length ids)

-- an id is applied: it was visited before, or it was not
pub data Visits (x s : List ℕ) (f : List Float) (z : List ℕ) (n : ℕ) (a : Row) (w v : WalkedAt) : Type 0 where
  again : is_visited x z a w ≡ true → v ≡ w → Visits x s f z n a w v
  first : {m : WalkedAt} → is_visited x z a w ≡ false → Walks x s f z n (chain_at s z n (bytes_of x z a)) 0 (meet_at a w) m
      → v ≡ own_at s f z n (bytes_of x z a) m → Visits x s f z n a w v

-- `does` says what is done to what is known
pub record Applies (does : WalkedAt → WalkedAt → Type 0) (x z t t' heads : List ℕ) (w r : Walk) : Type 0 where
  pub grown : Grown x z t t' heads w.count r.count
  pub tidy : Tidy w.look → Tidy r.look
  pub is : does (state_at t w) (state_at t' r)

-- or the ids that are applied are more than there are rows for
module _ (x s : List ℕ) (f : List Float) (z : List ℕ) (n : ℕ) (ids : List Bytes) (t t' heads : List ℕ) (w : Walk) where
  pub record Overflows : Type 0 where
    pub kept : length t' ≡ length t
    pub over : (e : List ℕ) → Over t (walk (styles_in s f e z n) ids (state_in x z t w)).visited

  abbrev pub ApplyPost : (WalkedAt → WalkedAt → Type 0) → rust.Option Walk → Type 0
  ApplyPost does (Some r) = Applies does x z t t' heads w r
  ApplyPost does None = Overflows

-- ---- answers
abbrev pub style_of : List ℕ → Walk → Option (Look Bytes)
style_of z r = cond r.found (some (look_in_of z r.look)) none

-- n ids stand in t, and nothing else: each within its source, and marked by nothing
pub record Stood (x z t : List ℕ) (n : ℕ) : Type 0 where
  pub fits : n * 4 ≤ length t
  pub few : n ≤ 65536
  pub rows : (i : ℕ) → i < n → RowWithin x z t i
  pub marks : (i : ℕ) → i < n → get_or t (i * 4 + 3) 0 ≡ 0

-- what is laid over an answer
pub record LaysOver (below : Walk) (has : Bool) (above : values.Look) (r : Walk) : Type 0 where
  pub count : r.count ≡ below.count
  pub is : (z : List ℕ) → style_of z r ≡ laid_over (style_of z below) (given has (look_in_of z above))
  pub tidy : Tidy below.look → Tidy above → Tidy r.look
  pub placed : (t : List ℕ) → state_at t r ≡ laid_at (state_at t below) has above

-- two values, the second from where the first ended: the style of the first, and the ids of both in the order of their first visits
module _ (x s : List ℕ) (f : List Float) (z : List ℕ) (n : ℕ) (first second : Bytes) (t t' : List ℕ) where
  abbrev pub ids_of_both : List ℕ → List Bytes
  ids_of_both e =
      let a = (resolve (styles_in s f e z n) first).ids in
      a ++ others a (resolve (styles_in s f e z n) second).ids

  pub record PairsOver : Type 0 where
    pub kept : length t' ≡ length t
    pub over : (e : List ℕ) → Over t (ids_of_both e)

  -- `one` and `two` are where the values stand
  module _ (one two : Row) where
    pub record Pairs (r : Walk) : Type 0 where
      pub style : (e : List ℕ) → style_of z r ≡ (resolve (styles_in s f e z n) first).style
      pub ids : (e : List ℕ) → ids_in x z t' r.count ≡ ids_of_both e
      pub placed : Joined x s f z n one two (state_at t' r)
      pub tidy : Tidy r.look
      pub kept : length t' ≡ length t
      pub stood : Stood x z t' r.count
      pub behind : (k : ℕ) → r.count * 4 ≤ k → get_or t' k 0 ≡ get_or t k 0

    abbrev pub PairPost : rust.Option Walk → Type 0
    PairPost (Some r) = Pairs r
    PairPost None = PairsOver

  -- a value, over it a look, and over that the second value: it equals the definition, and every cell is known
  module _ (look : values.Look) where
    abbrev pub answer_of : List ℕ → Resolution
    answer_of e = both (with_own (resolve (styles_in s f e z n) first) (look_in_of z look)) (resolve (styles_in s f e z n) second)

    pub record AnswerOver : Type 0 where
      pub kept : length t' ≡ length t
      pub over : (e : List ℕ) → Over t (answer_of e).ids

    module _ (one two : Row) where
      pub record Answered (r : Walk) : Type 0 where
        pub style : (e : List ℕ) → style_of z r ≡ (answer_of e).style
        pub ids : (e : List ℕ) → ids_in x z t' r.count ≡ (answer_of e).ids
        pub placed : Resolves x s f z n one two look (state_at t' r)
        pub tidy : Tidy look → Tidy r.look
        pub kept : length t' ≡ length t
        pub stood : Stood x z t' r.count
        pub behind : (k : ℕ) → r.count * 4 ≤ k → get_or t' k 0 ≡ 0

      abbrev pub AnswerPost : rust.Option Walk → Type 0
      AnswerPost (Some r) = Answered r
      AnswerPost None = AnswerOver
