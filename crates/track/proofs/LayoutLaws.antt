-- A placed track that fits is what the tables mean in which it is laid out. Assumes nothing.
--     Holds, tested, means    tables that hold a placed track mean what it shows
--     layout-holds            those of the layout hold it
--     layout-means            so they mean it
--     layout-full, layout-checked    they are as long as they must be, and pass the check of a handed track
use Rattle.std.specs.Prelude.{Ok}
use Prim.Native.Nat.{ℕ, ◌+◌, ◌-◌, ◌*◌, ◌≤◌}
use mathlib.Core.Path.{◌≡◌, refl}
use mathlib.Core.Bool.{Bool, true, false}
use mathlib.Core.List.{List, [], ◌∷◌, ◌++◌}
use mathlib.Core.Option.{some}
use native.Mathlib.Omega.{arith}
use native.Mathlib.Nat.{add-zero, zero-add}
use lib.ListN.{length, get_or, take, replicate, length-append, length-replicate}
use lib.IntN.{pos}
use lib.Ieee.{Float}
use borrow.Author.Tests.{le-leb}
use Rattle.track.specs.declared.strings.Span.{Span}
use Rattle.track.specs.Tables.{Tables, Lengths, lengths, LongEnough, zero_float, size_cell, rows_from}
use Rattle.track.specs.Steps.{check_of}
use Rattle.track.specs.Meaning.{is_param, is_style, is_region, are_cues, all_rows, within_limits, bytes_mean, rows_mean, is_track, style_in}
use Rattle.track.specs.Meaning.{region_in, cue_in, track_at, track_in}
use Rattle.track.specs.Layout.{joined_cells, each, optional_cells, param_cells, style_cells, region_cells, cue_cells, cue_times, style_size}
use Rattle.track.specs.Layout.{all_segments, Placed, PlacedStyle, head_cells, layout}
use Rattle.track.specs.Placing.{All, ParamFits, StyleFits, RegionFits, CueFits, Fits, laid_style, laid_region, laid_cue, laid}
use Rattle.track.specs.Shown.{shown_param, shown_style, shown_region, shown_cue, shown}
use Rattle.track.proofs.Answers.{long_full}
use Rattle.track.proofs.Exactly.{check_track}
use Rattle.track.proofs.ShownLaws.{param_in, params_in, styles-in, regions-in, cues-in}
use Rattle.track.proofs.ReadBack.{Reads, AllAt, reads_here, reads_after, reads_rest, rows_at, at_both, rows-mean, all_append}
use Rattle.track.proofs.ReadBack.{all_each, all_join, each_all, all_both}
use Rattle.track.proofs.ExtrasLaid.{Sits, Stays, extras_laid_lem, laid-long, laid-extras}
use Rattle.track.proofs.RowsLaid.{OptionalRead, optional-read, param_read, region_read, style_read, style_long}
use Rattle.track.proofs.SegmentsLaid.{Stand, cells_in}
use Rattle.track.proofs.CuesLaid.{cues_read}

-- tables that hold a placed track; u and v bytes are used
pub record Holds (T : Tables) (k : Placed) (u v : ℕ) : Type 0 where
  pub many_params : get_or T.head 0 0 ≡ length k.params
  pub many_styles : get_or T.head 1 0 ≡ length k.styles
  pub many_regions : get_or T.head 2 0 ≡ length k.regions
  pub many_cues : get_or T.head 3 0 ≡ length k.cues
  pub many_segments : get_or T.head 4 0 ≡ length (all_segments k.cues)
  pub lang : Reads 0 T.head 5 (optional_cells k.has_lang k.lang)
  pub strings : get_or T.head 8 0 ≡ u
  pub texts : get_or T.head 9 0 ≡ v
  pub params : Reads 0 T.params 0 (joined_cells param_cells k.params)
  pub styles : Reads 0 T.styles 0 (joined_cells (λ x. style_cells x.style) k.styles)
  pub regions : Reads 0 T.regions 0 (joined_cells (λ x. region_cells x.region) k.regions)
  pub cues : Reads 0 T.cues 0 (joined_cells (λ x. cue_cells x.cue) k.cues)
  pub times : Reads (pos 0) T.times 0 (cue_times k.cues)
  pub segments : Stand T.segments 0 (all_segments k.cues)
  pub sizes : Reads zero_float T.sizes 0 (each style_size k.styles)
  pub extras : All (Stays T.extras) (laid k)

-- ---- what they mean
-- sizes of styles, one by one
sizes_at : (f : List Float) (l : List PlacedStyle) (i : ℕ) → Reads zero_float f i (each style_size l) → AllAt (λ i x. size_cell f i ≡ style_size x) i l
unfolding each
sizes_at f [] i h = tt
sizes_at f (x ∷ l) i h =
    (rw (add-zero i) at (h 0 (omega arith)), sizes_at f l (i + 1) (reads_rest zero_float f i (style_size x ∷ []) (each style_size l) h (i + 1) refl))

module _ (T : Tables) (k : Placed) (u v : ℕ) (h : Holds T k u v) (f : Fits k T.strings T.texts u v) where
  abbrev used_strings : List ℕ
  used_strings = take u T.strings

  abbrev used_texts : List ℕ
  used_texts = take v T.texts

  -- extras, element by element
  extras-of :
      All (λ x. Stays T.extras (laid_style x)) k.styles × All (λ x. Stays T.extras (laid_region x)) k.regions
      × All (λ x. Stays T.extras (laid_cue x)) k.cues
  unfolding laid
  extras-of =
      let a = all_append (Stays T.extras) (each laid_style k.styles) (each laid_region k.regions ++ each laid_cue k.cues) h.extras in
      let b = all_append (Stays T.extras) (each laid_region k.regions) (each laid_cue k.cues) a.1 in (
        all_each (Stays T.extras) laid_style k.styles a.0,
        all_each (Stays T.extras) laid_region k.regions b.0,
        all_each (Stays T.extras) laid_cue k.cues b.1,
      )

  params_read :
      (all_rows (is_param T.params used_strings) (length k.params) 0 ≡ true)
      × (rows_from (param_in T) (length k.params) 0 ≡ each (shown_param T.strings) k.params)
  unfolding param_cells
  params_read =
      rows-mean (λ i x. Reads 0 T.params (i * 4) (param_cells x)) (ParamFits used_strings) (is_param T.params used_strings) (param_in T)
      (shown_param T.strings)
      (param_read T used_strings) k.params 0 (rows_at 4 param_cells (λ x. refl) T.params k.params 0 h.params) f.params

  regions_read :
      (all_rows (is_region T.regions T.extras used_strings) (length k.regions) 0 ≡ true)
      × (rows_from (region_in T) (length k.regions) 0 ≡ each (shown_region T.strings) k.regions)
  unfolding region_cells laid_region
  regions_read =
      rows-mean (λ i x. Reads 0 T.regions (i * 4) (region_cells x.region)) (λ x. Stays T.extras (laid_region x) × RegionFits used_strings x)
      (is_region T.regions T.extras used_strings) (region_in T) (shown_region T.strings)
      (λ i x a b. region_read T used_strings i x a b.0 b.1) k.regions 0
      (rows_at 4 (λ x. region_cells x.region) (λ x. refl) T.regions k.regions 0 h.regions)
      (all_both (λ x. Stays T.extras (laid_region x)) (RegionFits used_strings) k.regions extras-of.1 f.regions)

  styles_read :
      (all_rows (is_style T.styles T.sizes T.extras used_strings) (length k.styles) 0 ≡ true)
      × (rows_from (style_in T) (length k.styles) 0 ≡ each (shown_style T.strings) k.styles)
  unfolding laid_style
  styles_read =
      let row : ℕ → PlacedStyle → Type 0 = λ i x. Reads 0 T.styles (i * 27) (style_cells x.style) in
      let size : ℕ → PlacedStyle → Type 0 = λ i x. size_cell T.sizes i ≡ style_size x in
      rows-mean (λ i x. row i x × size i x) (λ x. Stays T.extras (laid_style x) × StyleFits used_strings x)
      (is_style T.styles T.sizes T.extras used_strings) (style_in T) (shown_style T.strings)
      (λ i x a b. style_read T used_strings i x a.0 b.1 a.1 b.0) k.styles 0
      (at_both row size k.styles 0 (rows_at 27 (λ x. style_cells x.style) (λ x. style_long x.style) T.styles k.styles 0 h.styles)
      (sizes_at T.sizes k.styles 0 h.sizes))
      (all_both (λ x. Stays T.extras (laid_style x)) (StyleFits used_strings) k.styles extras-of.0 f.styles)

  cues_mean : (are_cues T.cues T.extras T.segments used_strings used_texts (length (all_segments k.cues)) 0 (length k.cues) 0 ≡ true)
      × (rows_from (cue_in T) (length k.cues) 0 ≡ each (shown_cue T.strings T.texts) k.cues)
  unfolding laid_cue
  cues_mean = cues_read T used_strings used_texts (length (all_segments k.cues)) k.cues 0 0 h.cues h.times extras-of.2 h.segments
      f.cues f.in_turn (zero-add _)

  lang_read : OptionalRead T.head 5 T.strings used_strings k.has_lang k.lang
  lang_read = optional-read T.head 5 T.strings used_strings k.has_lang k.lang h.lang f.lang

  limits : within_limits T.head ≡ true
  unfolding within_limits
  limits =
      rw (
        h.many_params,
        h.many_styles,
        h.many_regions,
        h.many_cues,
        h.many_segments,
        h.strings,
        h.texts,
        le-leb (length k.params) 64 f.few_params,
        le-leb (length k.styles) 256 f.few_styles,
        le-leb (length k.regions) 256 f.few_regions,
        le-leb (length k.cues) 2048 f.few_cues,
        le-leb (length (all_segments k.cues)) 16384 f.few_segments,
        le-leb u 65536 f.few_strings,
        le-leb v 65536 f.few_texts,
      )

  bytes-mean : bytes_mean T.head used_strings used_texts ≡ true
  unfolding bytes_mean
  bytes-mean = rw (f.strings, f.texts) lang_read.fits

  heads_mean : rows_mean T.head T.params T.styles T.regions T.sizes T.extras used_strings ≡ true
  unfolding rows_mean
  heads_mean = rw (h.many_params, h.many_styles, h.many_regions, params_read.0, styles_read.0, regions_read.0)

  pub tested : is_track T ≡ true
  unfolding is_track
  tested = rw (limits, h.strings, h.texts, bytes-mean, heads_mean, h.many_segments, h.many_cues, cues_mean.0)

  read : track_at T ≡ shown k T.strings T.texts
  unfolding track_at shown
  read =
      rw (
        lang_read.bare,
        params_in T,
        h.many_params,
        params_read.1,
        styles-in T,
        h.many_styles,
        styles_read.1,
        regions-in T,
        h.many_regions,
        regions_read.1,
        cues-in T,
        h.many_cues,
        cues_mean.1,
      )

  pub means : track_in T ≡ some (shown k T.strings T.texts)
  unfolding track_in
  means = rw (tested, read)

-- ---- the layout's tables
-- the head's last cells
used : (a b c d e u v : ℕ) (o : Bool) (x : Span) (w : List ℕ)
    → Reads 0 (a ∷ b ∷ c ∷ d ∷ e ∷ (optional_cells o x ++ (u ∷ v ∷ [])) ++ w) 5 (optional_cells o x)
    × (get_or (a ∷ b ∷ c ∷ d ∷ e ∷ (optional_cells o x ++ (u ∷ v ∷ [])) ++ w) 8 0 ≡ u)
    × (get_or (a ∷ b ∷ c ∷ d ∷ e ∷ (optional_cells o x ++ (u ∷ v ∷ [])) ++ w) 9 0 ≡ v)
used a b c d e u v true x w = (reads_after 0 (a ∷ b ∷ c ∷ d ∷ e ∷ []) (optional_cells true x) (u ∷ v ∷ w) 5 refl, refl, refl)
used a b c d e u v false x w = (reads_after 0 (a ∷ b ∷ c ∷ d ∷ e ∷ []) (optional_cells false x) (u ∷ v ∷ w) 5 refl, refl, refl)

-- rows as the elements say them
rows-sit : (k : Placed) (z y : List ℕ) (u v : ℕ) → Fits k z y u v → All Sits (laid k)
unfolding laid laid_style laid_region laid_cue
rows-sit k z y u v f =
    all_join Sits (each laid_style k.styles) (each laid_region k.regions ++ each laid_cue k.cues)
    (each_all Sits (StyleFits (take u z)) laid_style (λ x g. (g.extras.many, g.extras.room)) k.styles f.styles)
    (all_join Sits (each laid_region k.regions) (each laid_cue k.cues)
    (each_all Sits (RegionFits (take u z)) laid_region (λ x g. (g.extras.many, g.extras.room)) k.regions f.regions)
    (each_all Sits (CueFits (take u z) (take v y)) laid_cue (λ x g. (g.extras.many, g.extras.room)) k.cues f.cues))

pub layout-holds :
    (n : Lengths) (k : Placed) (z y : List ℕ) (u v : ℕ) → 24576 ≤ n.extras → Fits k z y u v → Holds (layout n k z y u v) k u v
unfolding layout head_cells
layout-holds n k z y u v l f =
    let g = all_segments k.cues in
    let h = head_cells k u v in
    let w = used (length k.params) (length k.styles) (length k.regions) (length k.cues) (length g) u v k.has_lang k.lang
    (replicate (n.head - length h) 0) in
    record {
      many_params = refl;
      many_styles = refl;
      many_regions = refl;
      many_cues = refl;
      many_segments = refl;
      lang = w.0;
      strings = w.1;
      texts = w.2;
      params = reads_here 0 (joined_cells param_cells k.params) _;
      styles = reads_here 0 (joined_cells (λ x. style_cells x.style) k.styles) _;
      regions = reads_here 0 (joined_cells (λ x. region_cells x.region) k.regions) _;
      cues = reads_here 0 (joined_cells (λ x. cue_cells x.cue) k.cues) _;
      times = reads_here (pos 0) (cue_times k.cues) _;
      segments = reads_here 0 (joined_cells cells_in g) _;
      sizes = reads_here zero_float (each style_size k.styles) _;
      extras = laid-extras k (replicate n.extras 0) (omega (arith, length-replicate {A = ℕ} n.extras 0)) (rows-sit k z y u v f) f.apart;
    }

pub layout-means :
    (n : Lengths) (k : Placed) (z y : List ℕ) (u v : ℕ) → 24576 ≤ n.extras → Fits k z y u v → track_in (layout n k z y u v) ≡ some (shown k z y)
unfolding layout
layout-means n k z y u v l f = means (layout n k z y u v) k u v (layout-holds n k z y u v l f) f

-- ---- the check of a handed track
filled-long : {A : Type 0} (d : A) (n : ℕ) (l : List A) → n ≤ length (l ++ replicate (n - length l) d)
filled-long d n l =
    let r = replicate (n - length l) d in
    omega (arith, length-append l r, length-replicate (n - length l) d)

-- where the lengths are long enough, the tables are
module _ (n : Lengths) (k : Placed) (z y : List ℕ) (u v : ℕ) (m : LongEnough n) (hz : n.strings ≤ length z) (hy : n.texts ≤ length y) where
  pub layout-long : LongEnough (lengths (layout n k z y u v))
  unfolding layout
  layout-long =
      let g = all_segments k.cues in
      let x : n.extras ≤ length (extras_laid_lem k (replicate n.extras 0)) =
      omega (arith, laid-long k (replicate n.extras 0), length-replicate {A = ℕ} n.extras 0) in
      record {
        head = omega (arith, m.head, filled-long 0 n.head (head_cells k u v));
        params = omega (arith, m.params, filled-long 0 n.params (joined_cells param_cells k.params));
        styles = omega (arith, m.styles, filled-long 0 n.styles (joined_cells (λ x. style_cells x.style) k.styles));
        regions = omega (arith, m.regions, filled-long 0 n.regions (joined_cells (λ x. region_cells x.region) k.regions));
        cues = omega (arith, m.cues, filled-long 0 n.cues (joined_cells (λ x. cue_cells x.cue) k.cues));
        times = omega (arith, m.times, filled-long (pos 0) n.times (cue_times k.cues));
        segments = omega (arith, m.segments, filled-long 0 n.segments (joined_cells cells_in g));
        sizes = omega (arith, m.sizes, filled-long zero_float n.sizes (each style_size k.styles));
        extras = omega (arith, m.extras, x);
        strings = omega (arith, m.strings, hz);
        texts = omega (arith, m.texts, hy);
      }

  pub layout-checked : Fits k z y u v → check_of (layout n k z y u v) ≡ Ok tt
  unfolding layout
  layout-checked f =
      let T = layout n k z y u v in
      check_track T (long_full T layout-long) (tested T k u v (layout-holds n k z y u v (omega (arith, m.extras)) f) f)
