-- One cue more in the tables. Assumes nothing.
--     texts_same, made_more, kept_more, texts_more, rows_more, all_more     the texts, the counts and the rows of cues, and of one more
--     blank-later, blank-onward                                             cleared rows, after more rows or fewer
--     cue-row                                                               a p's row by value is that of the layout
--     lined_frame, wide_cells                                               where the next cue's segments begin, and their room
--     Next, lined_more                                                      the tables with the next cue
use Prim.Native.Nat.{ℕ, zero, suc, ◌+◌, ◌-◌, ◌*◌, ◌≤◌, ◌<◌}
use mathlib.Core.Path.{◌≡◌, refl, sym, ap, ◌∙◌}
use mathlib.Core.List.{List, [], ◌∷◌, ◌++◌, append_assoc, append-nil}
use native.Mathlib.Omega.{arith}
use native.Mathlib.Nat.{add-zero, sub-zero, zero-sub, suc-sub-suc}
use lib.IntN.{ℤ, pos}
use lib.ListN.{length, get_or, replicate, drop, length-append, length-replicate, replicate-append-replicate}
use lib.Seq.{sets}
use borrow.Author.Tests.{ne_eqb}
use Rattle.track.specs.declared.strings.Span.{Span}
use Rattle.track.specs.Track.{Segments, Cue, Extra, segment_rows}
use Rattle.track.specs.Track as track
use Rattle.track.specs.Layout.{PlacedCue, each, preorder, joined_cells, extra_cells, lay_extras, all_segments}
use Rattle.track.specs.Layout.{filled, filled_times, cue_cells, cue_times}
use Rattle.track.specs.Layout as placing
use Rattle.track.proofs.SegmentsLaid.{rows-many}
use Rattle.records.specs.Siblings.{row_cells, cells_of, Stands, later}
use Rattle.records.proofs.RowLaws.{joined-append, joined_length, row-added, cue_wide, segment_wide}
use Rattle.records.proofs.Beside.{times_length, times_added}
use Rattle.records.proofs.Standing.{stands_start}
use Rattle.xml.specs.Reading.{Placed, lay}
use Rattle.xml.proofs.Lays.{lay-length, lay-append, ordered_append}
use Rattle.meaning.specs.Words.{ascii}
use Rattle.meaning.specs.Nodes.{Attr, valued}
use Rattle.meaning.specs.Kinds.{with_places}
use Rattle.meaning.specs.Space.{is_preserve}
use Rattle.meaning.specs.Styling.{inline_extras}
use Rattle.meaning.specs.Cues.{made_in}
use Rattle.meaning.specs.Tracks.{segments_by}
use Rattle.laid.specs.Laid.{laid_extra, rows_after, laid_cue, laid_cues, total, cue_extras, cue_texts}
use Rattle.laid.specs.Laid as laid
use Rattle.styling.specs.declared.space.WsMode.{WsMode}
use Rattle.styling.specs.Posts.{space_in}
use Rattle.extras.specs.Kept.{placed_cells, rows_from}
use Rattle.inline.specs.Stood.{spans_in, texts_in, Blank, InTurn, Laid}
use Rattle.inline.proofs.TrimTexts.{lay-blank}
use Rattle.content.specs.Steps.{Frame, Standing}
use Rattle.content.proofs.Standings.{rows-spans, ordered_of, in_turn_of, laid-is, laid-order}
use Rattle.cues.specs.declared.lines.Line.{Line}
use Rattle.intervals.specs.declared.Interval.{Interval}
use Rattle.cues.specs.Steps.{onward, cue_row, CueTables, Spacious, Base, rows_of, Lined}

-- ---- cues, and one more

pub texts_same : (f : Segments Placed) → laid.texts_in f ≡ texts_in f
unfolding laid.texts_in texts_in
texts_same track.done = refl
texts_same (track.text s x) = rw (texts_same x)
texts_same (track.break x) = texts_same x
texts_same (track.timestamp z x) = texts_same x
texts_same (track.wrap w c x) = rw (texts_same c, texts_same x)

module _ (c : Cue Placed) where
  abbrev and_one : List (Cue Placed) → List (Cue Placed)
  and_one l = l ++ (c ∷ [])

  pub made_more : (l : List (Cue Placed)) → made_in (and_one l) ≡ made_in l + segment_rows c.segments
  unfolding made_in
  made_more [] = omega arith
  made_more (x ∷ l) = let e = made_more l in omega arith

  pub kept_more : (l : List (Cue Placed)) → cue_extras (and_one l) ≡ cue_extras l + length c.extras
  unfolding total
  kept_more [] = omega arith
  kept_more (x ∷ l) = let e = kept_more l in omega arith

  pub texts_more : (l : List (Cue Placed)) → cue_texts (and_one l) ≡ cue_texts l ++ texts_in c.segments
  unfolding cue_texts
  texts_more [] = append-nil (laid.texts_in c.segments) ∙ texts_same c.segments
  texts_more (x ∷ l) = rw (texts_more l) (sym (append_assoc (laid.texts_in x.segments) (cue_texts l) (texts_in c.segments)))

  pub rows_more : (n m : ℕ) (l : List (Cue Placed))
      → laid_cues n m (and_one l) ≡ laid_cues n m l ++ (laid_cue (n + cue_extras l) (m + made_in l) c ∷ [])
  unfolding laid_cues total made_in
  rows_more n m [] = rw (add-zero n, add-zero m)
  rows_more n m (x ∷ l) =
      let a : n + length x.extras + cue_extras l ≡ n + (length x.extras + cue_extras l) = omega arith in
      let b : m + segment_rows (spans_in x.segments) + made_in l ≡ m + (segment_rows x.segments + made_in l) =
      omega (arith, rows-spans x.segments) in
      rw (rows_more (n + length x.extras) (m + segment_rows (spans_in x.segments)) l, a, b)

pub all_more : (x : PlacedCue) (l : List PlacedCue) → all_segments (l ++ (x ∷ [])) ≡ all_segments l ++ preorder x.segments
unfolding all_segments
all_more x [] = append-nil (preorder x.segments)
all_more x (y ∷ l) = rw (all_more x l) (sym (append_assoc (preorder y.segments) (all_segments l) (preorder x.segments)))

extras_more : (x : PlacedCue) (t : List ℕ) (l : List PlacedCue)
    → placing.cue_extras t (l ++ (x ∷ [])) ≡ lay_extras (placing.cue_extras t l) x.cue.extras x.extras
unfolding placing.cue_extras
extras_more x t [] = refl
extras_more x t (y ∷ l) = extras_more x (lay_extras t y.cue.extras y.extras) l

-- ---- how many

rows_long : (n m : ℕ) (l : List (Cue Placed)) → length (laid_cues n m l) ≡ length l
unfolding laid_cues
rows_long n m [] = refl
rows_long n m (x ∷ l) = ap suc (rows_long (n + length x.extras) (m + segment_rows (spans_in x.segments)) l)

all_long : (n m : ℕ) (l : List (Cue Placed)) → length (all_segments (laid_cues n m l)) ≡ made_in l
unfolding laid_cues all_segments made_in laid_cue
all_long n m [] = refl
all_long n m (x ∷ l) =
    let g = spans_in x.segments in
    rw length-append
    (omega (arith, rows-many g, rows-spans x.segments, all_long (n + length x.extras) (m + segment_rows g) l))

-- ---- extras

extra-cells : (xs : List (Extra Placed)) → joined_cells extra_cells (each laid_extra xs) ≡ placed_cells xs
unfolding joined_cells extra_cells each laid_extra placed_cells
extra-cells [] = refl
extra-cells (x ∷ xs) = rw (extra-cells xs)

extras_laid : (n : ℕ) (t : List ℕ) (xs : List (Extra Placed)) → lay_extras t (rows_after n xs) (each laid_extra xs) ≡ sets t (n * 3) (placed_cells xs)
unfolding lay_extras rows_after joined_cells each placed_cells
extras_laid n t [] = refl
extras_laid n t (x ∷ xs) = ap (sets t (n * 3)) (extra-cells (x ∷ xs))

-- ---- cleared rows

drop_same : {A : Type 0} (k n : ℕ) (d : A) → drop k (replicate n d) ≡ replicate (n - k) d
drop_same zero n d = rw (sub-zero n)
drop_same (suc k) zero d = rw (zero-sub (suc k))
drop_same (suc k) (suc n) d = rw (suc-sub-suc n k) (drop_same k n d)

drop_both : {A : Type 0} (d : A) (i j k m : ℕ) → j + k - i ≡ m → drop i (replicate j d ++ replicate k d) ≡ replicate m d
drop_both d i j k m e = rw (replicate-append-replicate j k d, drop_same i (j + k) d, e)

-- nothing stands from row n on
abbrev pub blank_from : Base → ℕ → List ℕ
blank_from b n = replicate (b.lengths.segments - n * 6) 0

less_rows : (m first end : ℕ) → first ≤ end → m - first * 6 - (end - first) * 6 ≡ m - end * 6
less_rows m first end h = omega arith

onward-rows : (m first end n : ℕ) → 98304 ≤ first * 6 + (m - first * 6) → first ≤ end → end ≤ 16384 → first ≤ n
    → (end - n) * 6 + (m - end * 6) - (n - end) * 6 ≡ m - n * 6
onward-rows m first end n wide low most h = omega arith

module _ (b : Base) (first end : ℕ) (low : first ≤ end) (most : end ≤ 16384) where
  pub blank-later : later (end - first) (blank_from b first) ≡ blank_from b end
  blank-later =
      rw (drop_same {A = ℕ} ((end - first) * 6) (b.lengths.segments - first * 6) 0, less_rows b.lengths.segments first end low)

  pub blank-onward : (n : ℕ) → first ≤ n → 98304 ≤ first * 6 + (b.lengths.segments - first * 6) → onward end n (blank_from b end) ≡ blank_from b n
  blank-onward n h wide =
      drop_both {A = ℕ} 0 ((n - end) * 6) ((end - n) * 6) (b.lengths.segments - end * 6) (b.lengths.segments - n * 6)
      (onward-rows b.lengths.segments first end n wide low most h)

-- ---- a row

rows-from : {A : Type 0} (at : ℕ) (l : List A) → rows_from at (length l) ≡ rows_after at l
unfolding rows_after
rows-from at [] = refl
rows-from at (x ∷ l) = rw (ne_eqb (suc (length l)) 0 (λ e. omega arith))

-- the cue of a p with these segments
abbrev pub cue_with : Interval → WsMode → List (Attr Placed) → Segments Placed → Cue Placed
cue_with when ws l f = record {
  start = when.start;
  end = when.end;
  style = valued with_places (ascii "style") l;
  region = valued with_places (ascii "region") l;
  preserve = is_preserve (space_in ws);
  extras = inline_extras with_places l;
  segments = f;
}

pub cue-row : (when : Interval) (ws : WsMode) (line : Line) (rows : ℕ) (l : List (Attr Placed)) (f : Segments Placed)
    → rows ≡ line.rows + segment_rows (spans_in f) → cue_row when ws line rows l ≡ (laid_cue line.extras line.rows (cue_with when ws l f)).cue
unfolding laid_cue
cue-row when ws line rows l f e =
    let n : rows - line.rows ≡ segment_rows (spans_in f) = omega arith in
    rw (n, rows-from line.extras (inline_extras with_places l))

-- ---- the tables

-- what stands before the next cue's segments, after the cues l
abbrev pub before : Base → List (Cue Placed) → List ℕ
before b l = cells_of (all_segments (rows_of b l))

abbrev pub next_frame : Base → (limit hi : ℕ) → List (Cue Placed) → (y : List ℕ) → Frame
next_frame b limit hi l y = record { pre = before b l; rest = blank_from b (made_in l); base = y; lo = hi; limit = limit }

zeros-blank : (n i : ℕ) → get_or (replicate {A = ℕ} n 0) i 0 ≡ 0
zeros-blank zero i = refl
zeros-blank (suc n) zero = refl
zeros-blank (suc n) (suc i) = zeros-blank n i

module _ (b : Base) (l : List (Cue Placed)) where
  cells-long : length (before b l) ≡ made_in l * 6
  cells-long =
      joined_length row_cells 6 (λ y. segment_wide y.segment y.rows) (all_segments (rows_of b l)) ∙ rw (all_long b.rows 0 l)

module _ {b : Base} {hi : ℕ} {l : List (Cue Placed)} {line : Line} {T : CueTables} (h : Lined b hi l line T) where
  in_cells : T.segments ≡ before b l ++ blank_from b (made_in l)
  in_cells = h.in_cells ∙ rw (cells-long b l)

  texts_long : length T.texts ≡ b.lengths.texts
  texts_long =
      ap length h.in_texts ∙ lay-length (cue_texts l) (replicate b.lengths.texts 0) ∙ length-replicate {A = ℕ} b.lengths.texts 0

  texts_blank : Blank T.texts hi
  texts_blank =
      let n = b.lengths.texts in
      rw h.in_texts (lay-blank (cue_texts l) (replicate n 0) 0 hi (ordered_of (cue_texts l) 0 hi h.order) (λ i g. zeros-blank n i))

  -- none of the next cue's segments yet
  pub lined_frame : (limit : ℕ) → Standing (next_frame b limit hi l T.texts) hi line.rows line.rows track.done T.segments T.texts
  unfolding segments_by texts_in lay
  lined_frame limit =
      let e : line.rows - line.rows ≡ 0 = omega arith in
      let m : line.rows ≡ made_in l = h.made in
      record {
        rows = rw (e, m) (stands_start (before b l) (blank_from b (made_in l)) T.segments (made_in l) (cells-long b l) in_cells);
        texts = record { is = refl; order = omega arith; room = omega (arith, texts_long, h.room); blank = texts_blank };
      }

  pub wide_cells : (n : ℕ) → n ≤ length T.segments → n ≤ line.rows * 6 + (b.lengths.segments - line.rows * 6)
  wide_cells n g =
      let e = ap length in_cells ∙ length-append (before b l) (blank_from b (made_in l)) in
      let r = length-replicate {A = ℕ} (b.lengths.segments - made_in l * 6) 0 in
      let m : line.rows ≡ made_in l = h.made in
      rw m (omega (arith, cells-long b l))

-- ---- with the next cue

refilled : {A : Type 0} (d : A) (a v x : List A) (m n : ℕ) → x ≡ a ++ v → length x ≡ n
    → a ++ (v ++ replicate (m - n) d) ≡ x ++ replicate (m - length x) d
refilled d a v x m n e k = rw (k, e) (sym (append_assoc a v (replicate (m - n) d)))

abbrev cells_in : PlacedCue → List ℕ
cells_in x = cue_cells x.cue

module _ {b : Base} {hi : ℕ} {l : List (Cue Placed)} {line : Line} {T : CueTables} (h : Lined b hi l line T) (c : Cue Placed) where
  abbrev more : List (Cue Placed)
  more = l ++ (c ∷ [])

  -- its row, and its segments
  abbrev row : PlacedCue
  row = laid_cue line.extras line.rows c

  abbrev own : Segments Span
  own = spans_in c.segments

  rows_are : rows_of b more ≡ rows_of b l ++ (row ∷ [])
  rows_are =
      let k : line.extras ≡ b.rows + cue_extras l = h.kept in
      let m : line.rows ≡ 0 + made_in l = omega (arith, h.made) in
      rows_more c b.rows 0 l ∙ rw (k, m)

  segments_are : all_segments (rows_of b more) ≡ all_segments (rows_of b l) ++ preorder own
  unfolding laid_cue
  segments_are = rw rows_are (all_more row (rows_of b l))

  count_is : length (rows_of b l) ≡ line.cues
  count_is = rows_long b.rows 0 l ∙ sym h.many

  more-cues : line.cues < 2048 → 22528 ≤ length T.cues
      → sets T.cues (line.cues * 11) (cue_cells row.cue) ≡ filled b.lengths.cues (joined_cells cells_in (rows_of b more))
  more-cues few g =
      let rows = rows_of b l in
      let n : length rows ≡ line.cues = count_is in
      let cells = joined_cells cells_in rows in
      let k : length cells ≡ length rows * 11 = joined_length cells_in 11 (λ x. cue_wide x.cue) rows in
      let e = ap length h.in-cues ∙ length-append cells (replicate (b.lengths.cues - length cells) 0) in
      let r = length-replicate {A = ℕ} (b.lengths.cues - length cells) 0 in
      let room : length rows * 11 + 11 ≤ b.lengths.cues = omega arith in
      rw (rows_are, h.in-cues, ← n) (row-added cells_in 11 (λ x. cue_wide x.cue) b.lengths.cues rows row room)

  more-times : line.cues < 2048 → 4096 ≤ length T.times
      → sets T.times (line.cues * 2) (c.start ∷ c.end ∷ []) ≡ filled_times b.lengths.times (cue_times (rows_of b more))
  unfolding laid_cue
  more-times few g =
      let rows = rows_of b l in
      let n : length rows ≡ line.cues = count_is in
      let k = times_length rows in
      let e = ap length h.in_times ∙ length-append (cue_times rows) (replicate (b.lengths.times - length (cue_times rows)) (pos 0)) in
      let r = length-replicate (b.lengths.times - length (cue_times rows)) (pos 0) in
      let room : length rows * 2 + 2 ≤ b.lengths.times = omega arith in
      rw (rows_are, h.in_times, ← n) (times_added b.lengths.times rows row room)

  more-extras : sets T.extras (line.extras * 3) (placed_cells c.extras) ≡ placing.cue_extras b.extras (rows_of b more)
  unfolding laid_cue
  more-extras =
      let t = placing.cue_extras b.extras (rows_of b l) in
      rw (rows_are, h.in_extras) (sym (extras_more row b.extras (rows_of b l) ∙ extras_laid line.extras t c.extras))

  module _ (n : ℕ) (s' : List ℕ) (st : Stands (before b l) (blank_from b n) line.rows n own s') where
    made_is : made_in more ≡ n
    made_is = made_more c l ∙ omega (arith, st.count, h.made, rows-spans c.segments)

    more-cells : s' ≡ filled b.lengths.segments (before b more)
    more-cells =
        let x = before b more in
        let g = cells_of (preorder own) in
        let e : x ≡ before b l ++ g = ap cells_of segments_are ∙ joined-append row_cells (all_segments (rows_of b l)) (preorder own) in
        st.in_cells ∙ refilled 0 (before b l) g x b.lengths.segments (n * 6) e (cells-long b more ∙ rw made_is)

  module _ (hi' : ℕ) (y' : List ℕ) (la : Laid c.segments [] T.texts y' hi hi') where
    more-texts : y' ≡ lay (replicate b.lengths.texts 0) (cue_texts more)
    more-texts =
        let zeros : List ℕ = replicate b.lengths.texts 0 in
        laid-is la ∙ (rw (texts_more c l, lay-append (cue_texts l) (texts_in c.segments) zeros, ← h.in_texts))

    more-order : InTurn 0 (cue_texts more) hi'
    more-order =
        let g = texts_in c.segments in
        let o = ordered_append (cue_texts l) g 0 hi hi' (ordered_of (cue_texts l) 0 hi h.order) (ordered_of g hi hi' (laid-order la)) in
        rw (texts_more c l) (in_turn_of (cue_texts l ++ g) 0 hi' o)

  -- c stands after the others, its rows up to n and its texts up to hi'
  pub record Next (n hi' : ℕ) (T' : CueTables) : Type 0 where
    pub few : line.cues < 2048
    pub most : n ≤ 16384
    pub in-cues : T'.cues ≡ sets T.cues (line.cues * 11) (cue_cells row.cue)
    pub in_times : T'.times ≡ sets T.times (line.cues * 2) (c.start ∷ c.end ∷ [])
    pub in_rows : Stands (before b l) (blank_from b n) line.rows n own T'.segments
    pub in_extras : T'.extras ≡ sets T.extras (line.extras * 3) (placed_cells c.extras)
    pub in_texts : Laid c.segments [] T.texts T'.texts hi hi'

  pub lined_more : (z : List ℕ) → Spacious z T → (n hi' : ℕ) (T' : CueTables) → Next n hi' T' → (end : ℤ)
      → Lined b hi' more (record { cues = line.cues + 1; rows = n; extras = line.extras + length c.extras; end = end }) T'
  lined_more z s n hi' T' x end = record {
    many = rw length-append (omega (arith, h.many));
    made = sym (made_is n T'.segments x.in_rows);
    kept = rw (kept_more c l) (omega (arith, h.kept));
    few_cues = rw length-append (omega (arith, h.many, x.few));
    few_rows = rw (made_is n T'.segments x.in_rows) x.most;
    in-cues = x.in-cues ∙ more-cues x.few s.cues;
    in_times = x.in_times ∙ more-times x.few s.times;
    in_cells = more-cells n T'.segments x.in_rows;
    in_extras = x.in_extras ∙ more-extras;
    in_texts = more-texts hi' T'.texts x.in_texts;
    order = more-order hi' T'.texts x.in_texts;
    room = omega (arith, texts_long h, x.in_texts.room);
  }
