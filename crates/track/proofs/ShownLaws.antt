-- The track that tables mean, row by row. Assumes nothing.
--     each_rows                                             what is made of rows one by one
--     extras_in_lem, param_in                                     extras, and a parameter, with their bytes
--     lang_in, params_in, styles-in, regions-in, cues-in    the parts of the track
use Prim.Native.Nat.{ℕ, zero, suc, ◌+◌}
use mathlib.Core.Path.{◌≡◌, refl}
use mathlib.Core.List.{List}
use lib.ListN.{get_or}
use lib.Dec.{eqb}
use Rattle.track.specs.Track.{Bytes, Extra, Param}
use Rattle.track.specs.Tables.{Tables, span, rows_from, extra_at, param_at, param_count, style_count, region_count, cue_count}
use Rattle.track.specs.Layout.{each}
use Rattle.track.specs.Shown.{bytes_at, given, shown_extra, shown_param, shown_style, shown_region, shown_cue}
use Rattle.track.specs.Meaning.{placed_style, placed_region, placed_cue, style_in, region_in, cue_in, track_at}

pub each_rows : {A B : Type 0} (f : A → B) (g : ℕ → A) (n i : ℕ) → each f (rows_from g n i) ≡ rows_from (λ j. f (g j)) n i
unfolding each rows_from
each_rows f g zero i = refl
each_rows f g (suc n) i = rw (each_rows f g n (i + 1))

-- n extras from row i on; e is their table, z the bytes of the strings
abbrev pub extras_in_lem : (e z : List ℕ) (n i : ℕ) → List (Extra Bytes)
extras_in_lem e z n i = each (shown_extra z) (rows_from (extra_at e) n i)

module _ (T : Tables) where
  unfoldable pub param_in : ℕ → Param Bytes
  unfolding param_at shown_param
  param_in i = shown_param T.strings (param_at T.params i)

  pub lang_in : (track_at T).lang ≡ given (eqb (get_or T.head 5 0) 1) (bytes_at T.strings (span (get_or T.head 6 0) (get_or T.head 7 0)))
  unfolding track_at
  lang_in = refl

  pub params_in : (track_at T).params ≡ rows_from param_in (param_count T.head) 0
  unfolding track_at param_in
  params_in = each_rows (shown_param T.strings) (param_at T.params) (param_count T.head) 0

  pub styles-in : (track_at T).styles ≡ rows_from (style_in T) (style_count T.head) 0
  unfolding track_at style_in
  styles-in = each_rows (shown_style T.strings) (placed_style T) (style_count T.head) 0

  pub regions-in : (track_at T).regions ≡ rows_from (region_in T) (region_count T.head) 0
  unfolding track_at region_in
  regions-in = each_rows (shown_region T.strings) (placed_region T) (region_count T.head) 0

  pub cues-in : (track_at T).cues ≡ rows_from (cue_in T) (cue_count T.head) 0
  unfolding track_at cue_in
  cues-in = each_rows (shown_cue T.strings T.texts) (placed_cue T) (cue_count T.head) 0
