-- Cues are read back from their rows, each with its segments. Assumes nothing.
--     cues_read    the test and the value
use Prim.Native.Nat.{ℕ, ◌+◌, ◌*◌, ◌≤◌}
use mathlib.Core.Path.{◌≡◌, refl, ◌∙◌}
use mathlib.Core.Bool.{true}
use mathlib.Core.List.{List, [], ◌∷◌, ◌++◌}
use native.Mathlib.Omega.{arith}
use native.Mathlib.Nat.{add-zero}
use lib.ListN.{length, get_or, length-append}
use lib.IntN.{pos}
use borrow.Author.Tests.{le-leb, eq-eqb}
use Rattle.track.specs.declared.strings.Span.{Span}
use Rattle.track.specs.declared.values.Cue.{Cue}
use Rattle.track.specs.Track.{Segments, segment_rows}
use Rattle.track.specs.Tables.{Tables, cell, rows_from, cue_at, segments_at}
use Rattle.track.specs.Meaning.{cue_values, is_cue, are_cues, extras_at, cue_in}
use Rattle.track.specs.Layout.{joined_cells, each, flag, rows_cells, optional_cells, cue_cells, cue_times, all_segments, preorder, PlacedCue}
use Rattle.track.specs.Shown.{shown_cue}
use Rattle.track.specs.Placing.{All, CueFits, InTurn}
use Rattle.track.proofs.ReadBack.{Reads, reads_first, reads_rest}
use Rattle.track.proofs.ExtrasLaid.{cells_of, extras_read}
use Rattle.track.proofs.RowsLaid.{OptionalRead, optional-long, optional-read, flag_is, four, on}
use Rattle.track.proofs.SegmentsLaid.{Stand, stand_append, rows-many, segments_read}

cue_long : (x : Cue) → length (cue_cells x) ≡ 11
unfolding cue_cells
cue_long x = rw (length-append, length-append, length-append, optional-long x.has_style x.style, optional-long x.has_region x.region)

-- the parts of a cue's row
record Parts (t : List ℕ) (p : ℕ) (x : Cue) : Type 0 where
  pub style : Reads 0 t p (optional_cells x.has_style x.style)
  pub region : Reads 0 t (p + 3) (optional_cells x.has_region x.region)
  pub preserve : get_or t (p + 6) 0 ≡ flag x.preserve
  pub first : get_or t (p + 7) 0 ≡ x.segments.first
  pub count : get_or t (p + 8) 0 ≡ x.segments.count
  pub from : get_or t (p + 9) 0 ≡ x.extras.first
  pub many : get_or t (p + 10) 0 ≡ x.extras.count

parts : (t : List ℕ) (p : ℕ) (x : Cue) → Reads 0 t p (cue_cells x) → Parts t p x
unfolding cue_cells
parts t p x h =
    let q = four t p 3 3 3 (optional_cells x.has_style x.style) (optional_cells x.has_region x.region)
    (flag x.preserve ∷ rows_cells x.segments)
    (rows_cells x.extras) (optional-long x.has_style x.style) (optional-long x.has_region x.region) refl h in
    record {
      style = q.0;
      region = q.1;
      preserve = rw (on p 6 0 6 refl) at (q.2 0 (omega arith));
      first = rw (on p 6 1 7 refl) at (q.2 1 (omega arith));
      count = rw (on p 6 2 8 refl) at (q.2 2 (omega arith));
      from = rw (on p 9 0 9 refl) at (q.3 0 (omega arith));
      many = rw (on p 9 1 10 refl) at (q.3 1 (omega arith));
    }

module _ (T : Tables) (z y : List ℕ) (most : ℕ) where
  -- one cue, in row i; its segments begin at row `from`
  record Sits (from i : ℕ) (x : PlacedCue) : Type 0 where
    pub cells : Reads 0 T.cues (i * 11) (cue_cells x.cue)
    pub times : (get_or T.times (i * 2) (pos 0) ≡ x.cue.start) × (get_or T.times (i * 2 + 1) (pos 0) ≡ x.cue.end)
    pub extras : Reads 0 T.extras (x.cue.extras.first * 3) (cells_of x.extras)
    pub rows : Stand T.segments from (preorder x.segments)
    pub first : x.cue.segments.first ≡ from
    pub count : x.cue.segments.count ≡ segment_rows x.segments
    pub room : from + segment_rows x.segments ≤ most

  module _ (from i : ℕ) (x : PlacedCue) (s : Sits from i x) (f : CueFits z y x) where
    q : Parts T.cues (i * 11) x.cue
    q = parts T.cues (i * 11) x.cue s.cells

    q_style : OptionalRead T.cues (i * 11) T.strings z x.cue.has_style x.cue.style
    q_style = optional-read T.cues (i * 11) T.strings z x.cue.has_style x.cue.style q.style f.style

    q_region : OptionalRead T.cues (i * 11 + 3) T.strings z x.cue.has_region x.cue.region
    q_region = optional-read T.cues (i * 11 + 3) T.strings z x.cue.has_region x.cue.region q.region f.region

    values_fit : cue_values T.cues T.extras z i ≡ true
    unfolding cue_values cell
    values_fit =
        rw (
          add-zero (i * 11),
          q_style.fits,
          ← (on (i * 11) 3 1 4 refl),
          ← (on (i * 11) 3 2 5 refl),
          q_region.fits,
          q.preserve,
          (flag_is x.cue.preserve).0,
          q.from,
          q.many,
        )
        (extras_read T z 47 x.cue.extras x.extras f.extras s.extras).0

    rows_are : cell 11 T.cues i 8 ≡ segment_rows x.segments
    unfolding cell
    rows_are = q.count ∙ s.count

    cue_fits : is_cue T.cues T.extras T.segments z y most from i ≡ true
    unfolding is_cue cell
    cue_fits =
        rw (values_fit, q.first, s.first, eq-eqb from from refl, rows_are, le-leb (from + segment_rows x.segments) most s.room)
        (segments_read T.segments z y x.segments 512 from f.nested f.segments s.rows).0

    -- the cue, whatever reads its segments
    abbrev cue_with : (ℕ → ℕ → Segments Span) → PlacedCue
    cue_with g =
        let x = cue_at T.cues T.times i in
        record { cue = x; extras = extras_at T x.extras; segments = g x.segments.count x.segments.first }

    cue-with : (g : ℕ → ℕ → Segments Span) → g (segment_rows x.segments) from ≡ x.segments
        → shown_cue T.strings T.texts (cue_with g) ≡ shown_cue T.strings T.texts x
    unfolding cue_at cell shown_cue
    cue-with g e =
        rw (
          s.times.0,
          s.times.1,
          add-zero (i * 11),
          q_style.bytes,
          ← (on (i * 11) 3 1 4 refl),
          ← (on (i * 11) 3 2 5 refl),
          q_region.bytes,
          q.preserve,
          (flag_is x.cue.preserve).1,
          q.from,
          q.many,
          (extras_read T z 47 x.cue.extras x.extras f.extras s.extras).1,
          q.first,
          s.first,
          rows_are,
          e,
        )

    cue_means : cue_in T i ≡ shown_cue T.strings T.texts x
    unfolding cue_in
    cue_means =
        cue-with (segments_at T.segments 512)
        (segments_read T.segments z y x.segments 512 from f.nested f.segments s.rows).1

  pub cues_read :
      (l : List PlacedCue) (from i : ℕ) → Reads 0 T.cues (i * 11) (joined_cells (λ x. cue_cells x.cue) l)
      → Reads (pos 0) T.times (i * 2) (cue_times l)
      → All (λ x. Reads 0 T.extras (x.cue.extras.first * 3) (cells_of x.extras)) l
      → Stand T.segments from (all_segments l)
      → All (CueFits z y) l → InTurn from l → from + length (all_segments l) ≡ most
      → (are_cues T.cues T.extras T.segments z y most from (length l) i ≡ true)
      × (rows_from (cue_in T) (length l) i ≡ each (shown_cue T.strings T.texts) l)
  unfolding are_cues joined_cells rows_from each all_segments
  cues_read [] from i c t e g f n m = (eq-eqb from most (omega arith), refl)
  cues_read (x ∷ l) from i c t e g f n m =
      let w = segment_rows x.segments in
      let p = preorder x.segments in
      let r : length p ≡ w = rows-many x.segments in
      let o : length (p ++ all_segments l) ≡ length p + length (all_segments l) = length-append p (all_segments l) in
      let b = stand_append T.segments from (from + w) p (all_segments l) (omega arith) g in
      let a : length (cue_cells x.cue) ≡ 11 = cue_long x.cue in
      let v : (i + 1) * 2 ≡ i * 2 + 2 = omega arith in
      let s : Sits from i x = record {
        cells = reads_first 0 T.cues (i * 11) (cue_cells x.cue) _ c;
        times = (rw (add-zero (i * 2)) at (t 0 (omega arith)), t 1 (omega arith));
        extras = e.0;
        rows = b.0;
        first = n.0;
        count = n.1;
        room = omega arith;
      } in
      let q = cues_read l (from + w) (i + 1) (reads_rest 0 T.cues (i * 11) (cue_cells x.cue) _ c ((i + 1) * 11) (omega arith))
      (reads_rest (pos 0) T.times (i * 2) (x.cue.start ∷ x.cue.end ∷ []) (cue_times l) t ((i + 1) * 2) v) e.1 b.1 f.1 n.2
      (omega arith) in
      (rw (cue_fits from i x s f.0, rows_are from i x s f.0) q.0, rw (cue_means from i x s f.0, q.1))
