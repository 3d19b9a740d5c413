-- What is known of tables that hold a track: each string and each row. Assumes nothing.
--     used_strings, used_texts                                  the used bytes
--     limits_ok, strings-ok, texts_ok                         the counts are within their limits, and the used bytes UTF-8
--     lang_ok, param_ok, style_ok, region_ok, cue_ok          xml:lang, and the rows of each table
--     all_row                                                 what the test of rows says of one
use Prim.Native.Nat.{ℕ, zero, suc, ◌+◌, ◌≤◌, ◌<◌}
use mathlib.Core.Path.{◌≡◌}
use mathlib.Core.Bool.{Bool, true}
use mathlib.Core.List.{List}
use native.Mathlib.Omega.{arith}
use native.Mathlib.Nat.{add-zero, zero-add}
use lib.ListN.{get_or, take}
use Rattle.scan.proofs.Every.{both}
use Rattle.track.specs.Tables.{Tables, cell, param_count, style_count, region_count, cue_count, segment_count, strings_used, texts_used}
use Rattle.track.specs.Meaning.{is_optional, is_param, is_style, is_region, is_cue, are_cues, all_rows, within_limits, is_utf8, bytes_mean, rows_mean}
use Rattle.track.specs.Meaning.{is_track}
use Rattle.track.proofs.StringLaws.{three, four}
use Rattle.track.proofs.CueRows.{cue-row}

pub all_row : (p : ℕ → Bool) (n i j : ℕ) → all_rows p n i ≡ true → j < n → p (i + j) ≡ true
unfolding all_rows
all_row p zero i j h l = absurd (omega arith)
all_row p (suc n) i zero h l = rw (add-zero i) (both {a = p i} {b = all_rows p n (i + 1)} h).0
all_row p (suc n) i (suc j) h l =
    let q : i + suc j ≡ i + 1 + j = omega arith in
    rw q (all_row p n (i + 1) j (both {a = p i} {b = all_rows p n (i + 1)} h).1 (omega arith))

module _ (T : Tables) where
  abbrev pub used_strings : List ℕ
  used_strings = take (strings_used T.head) T.strings

  abbrev pub used_texts : List ℕ
  used_texts = take (texts_used T.head) T.texts

  module _ (h : is_track T ≡ true) where
    parts : (within_limits T.head ≡ true) × (bytes_mean T.head used_strings used_texts ≡ true)
        × (rows_mean T.head T.params T.styles T.regions T.sizes T.extras used_strings ≡ true)
        × (are_cues T.cues T.extras T.segments used_strings used_texts (segment_count T.head) 0 (cue_count T.head) 0 ≡ true)
    unfolding is_track
    parts = four (within_limits T.head) (bytes_mean T.head used_strings used_texts)
        (rows_mean T.head T.params T.styles T.regions T.sizes T.extras used_strings)
        (are_cues T.cues T.extras T.segments used_strings used_texts (segment_count T.head) 0 (cue_count T.head) 0) h

    pub limits_ok : within_limits T.head ≡ true
    limits_ok = parts.0

    bytes : (is_utf8 used_strings ≡ true) × (is_utf8 used_texts ≡ true)
        × (is_optional used_strings (get_or T.head 5 0) (get_or T.head 6 0) (get_or T.head 7 0) ≡ true)
    unfolding bytes_mean
    bytes = three (is_utf8 used_strings) (is_utf8 used_texts) (is_optional used_strings (get_or T.head 5 0) (get_or T.head 6 0) (get_or T.head 7 0))
        parts.1

    pub strings-ok : is_utf8 used_strings ≡ true
    strings-ok = bytes.0

    pub texts_ok : is_utf8 used_texts ≡ true
    texts_ok = bytes.1

    pub lang_ok : is_optional used_strings (get_or T.head 5 0) (get_or T.head 6 0) (get_or T.head 7 0) ≡ true
    lang_ok = bytes.2

    rows : (all_rows (is_param T.params used_strings) (param_count T.head) 0 ≡ true)
        × (all_rows (is_style T.styles T.sizes T.extras used_strings) (style_count T.head) 0 ≡ true)
        × (all_rows (is_region T.regions T.extras used_strings) (region_count T.head) 0 ≡ true)
    unfolding rows_mean
    rows = three (all_rows (is_param T.params used_strings) (param_count T.head) 0)
        (all_rows (is_style T.styles T.sizes T.extras used_strings) (style_count T.head) 0)
        (all_rows (is_region T.regions T.extras used_strings) (region_count T.head) 0) parts.2

    module _ (i : ℕ) where
      pub param_ok : i < param_count T.head → is_param T.params used_strings i ≡ true
      param_ok l = rw (zero-add i) at (all_row (is_param T.params used_strings) (param_count T.head) 0 i rows.0 l)

      pub style_ok : i < style_count T.head → is_style T.styles T.sizes T.extras used_strings i ≡ true
      style_ok l = rw (zero-add i) at (all_row (is_style T.styles T.sizes T.extras used_strings) (style_count T.head) 0 i rows.1 l)

      pub region_ok : i < region_count T.head → is_region T.regions T.extras used_strings i ≡ true
      region_ok l = rw (zero-add i) at (all_row (is_region T.regions T.extras used_strings) (region_count T.head) 0 i rows.2 l)

      -- its segments begin where its cell 7 says, and are among all
      pub cue_ok : i < cue_count T.head
          → (is_cue T.cues T.extras T.segments used_strings used_texts (segment_count T.head) (cell 11 T.cues i 7) i ≡ true)
          × (cell 11 T.cues i 7 + cell 11 T.cues i 8 ≤ segment_count T.head)
      cue_ok l = rw (zero-add i) at (cue-row T.cues T.extras T.segments used_strings used_texts (segment_count T.head) 0
          (cue_count T.head) 0 i parts.3 l)
