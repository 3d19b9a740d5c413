-- The rows of a cue have the text of the track's own segments. Assumes nothing.
--     text-means        the text of the segments that the tables hold is that of the segments that they mean
--     text-used         it is the same of the used texts, for rows that are segments
--     cue_within        the rows of each cue of an accepted track, and their texts, are within their tables
--     cue-text          the text of its segments is that of the cue
--     cue_rows_used, cue_rows     and so is that of its rows
use Prim.Native.Nat.{ℕ, zero, suc, ◌+◌, ◌-◌, ◌≤◌, ◌<◌}
use mathlib.Core.Path.{◌≡◌, refl, sym, ◌∙◌}
use mathlib.Core.Bool.{true}
use mathlib.Core.List.{List}
use native.Mathlib.Omega.{arith}
use lib.ListN.{length, take, length-take}
use Rattle.track.specs.declared.strings.Span.{Span}
use Rattle.track.specs.declared.segments.Segment.{Segment}
use Rattle.track.specs.Track.{Segments}
use Rattle.track.specs.Track as track
use Rattle.track.specs.Tables.{Tables, cell, segment_at, segments_at, cue_at, cue_count, segment_count, texts_used}
use Rattle.track.specs.Meaning.{is_track, are_segments, all_rows, cue_in}
use Rattle.track.specs.Shown.{shown_segments}
use Rattle.track.proofs.Spans.{span-within}
use Rattle.track.proofs.StringLaws.{string_used}
use Rattle.track.proofs.SegmentLaws.{walk, Holds, segment_holds}
use Rattle.track.proofs.Answers.{limits_low}
use Rattle.track.proofs.Accepted.{used_strings, used_texts, limits_ok, cue_ok}
use Rattle.track.proofs.RowParts.{CueParts, cue_parts}
use Rattle.walk.specs.Text.{plain_text, text_of, own_text, rows_text, row_within_of}
use Rattle.walk.proofs.Walking.{text-none, text-step}
use Rattle.walk.proofs.Rows.{Flat, flat, text-row, all_within}

pub text-means : (T : Tables) (s : Segments Span) → plain_text T.texts s ≡ text_of (shown_segments T.strings T.texts s)
unfolding plain_text text_of shown_segments
text-means T track.done = refl
text-means T (track.text s x) = rw (text-means T x)
text-means T (track.break x) = rw (text-means T x)
text-means T (track.timestamp t x) = text-means T x
text-means T (track.wrap w c x) = rw (text-means T c, text-means T x)

-- ---- the used texts
own-used : (z y : List ℕ) (u m : ℕ) (s : Segment) → Holds z (take u y) m s → own_text (take u y) s ≡ own_text y s
unfolding own_text
own-used z y u m (Segment.Text s) h = string_used y u s.place s.len (span-within (take u y) s.place s.len h.1)
own-used z y u m Segment.Break h = refl
own-used z y u m (Segment.Timestamp t) h = refl
own-used z y u m Segment.Bold h = refl
own-used z y u m Segment.Italic h = refl
own-used z y u m Segment.Underline h = refl
own-used z y u m Segment.Strike h = refl
own-used z y u m (Segment.Color k) h = refl
own-used z y u m (Segment.Font k) h = refl

module _ (t z y : List ℕ) (u : ℕ) where
  abbrev Same : (d n i : ℕ) → Type 0
  Same d n i = are_segments t z (take u y) d n i ≡ true → plain_text (take u y) (segments_at t d n i) ≡ plain_text y (segments_at t d n i)

  none-same : (d i : ℕ) → Same d 0 i
  none-same d i e = text-none (take u y) t d i ∙ sym (text-none y t d i)

  -- some rows, where it holds of fewer
  some_same : (k : ℕ) → ((d n i : ℕ) → n ≤ k → Same d n i) → (d n i : ℕ) → n ≤ suc k → Same d n i
  some_same k rec d zero i h e = none-same d i e
  some_same k rec d (suc n) i h e =
      let w = walk t z (take u y) d (suc n) i e (omega arith) in
      let m = cell 6 t i 1 in
      let s = segment_at t i in
      let o : own_text (take u y) s ≡ own_text y s = own-used z y u m s (segment_holds t z (take u y) i w.is) in
      let a = rec (d - 1) (m - 1) (i + 1) (omega (arith, w.most)) w.inside in
      let b = rec d (suc n - m) (i + m) (omega (arith, w.least)) w.after in
      text-step t z (take u y) d (suc n) i w m refl s refl (take u y)
      ∙ rw (o, a, b) (sym (text-step t z (take u y) d (suc n) i w m refl s refl y))

  -- at most k rows
  same : (k d n i : ℕ) → n ≤ k → Same d n i
  same zero d zero i h e = none-same d i e
  same zero d (suc n) i h e = absurd (omega arith)
  same (suc k) d n i h e = some_same k (same k) d n i h e

  pub text-used : (d n i : ℕ) → are_segments t z (take u y) d n i ≡ true
      → plain_text (take u y) (segments_at t d n i) ≡ plain_text y (segments_at t d n i)
  text-used d n i e = same n d n i (omega arith) e

-- ---- an accepted track
module _ (T : Tables) (h : is_track T ≡ true) (i : ℕ) (l : i < cue_count T.head) where
  parts : CueParts T.cues T.extras T.segments (used_strings T) (used_texts T) (segment_count T.head) (cell 11 T.cues i 7) i
  parts = cue_parts T.cues T.extras T.segments (used_strings T) (used_texts T) (segment_count T.head) (cell 11 T.cues i 7) i
      (cue_ok T h i l).0

  flat_cue : Flat T.segments (used_strings T) (used_texts T) 512 (cell 11 T.cues i 8) (cell 11 T.cues i 7)
  flat_cue = flat T.segments (used_strings T) (used_texts T) 512 (cell 11 T.cues i 8) (cell 11 T.cues i 7) parts.segments

  few_texts : length (used_texts T) ≤ 65536
  few_texts = simp length-take (omega (arith, (limits_low T.head (limits_ok T h)).texts))

  pub cue_within :
      (cell 11 T.cues i 7 + cell 11 T.cues i 8 ≤ 16384)
      × (all_rows (row_within_of T.segments) (cell 11 T.cues i 8) (cell 11 T.cues i 7) ≡ true)
  cue_within = (
    omega (arith, (limits_low T.head (limits_ok T h)).segments, parts.within),
    all_within T.segments (cell 11 T.cues i 8) (cell 11 T.cues i 7)
        (λ j a b. text-row T.segments (used_texts T) j few_texts (flat_cue.rows j a b)),
  )

  pub cue-text :
      plain_text (used_texts T) (segments_at T.segments 512 (cell 11 T.cues i 8) (cell 11 T.cues i 7)) ≡ text_of (cue_in T i).segments
  unfolding cue_in cue_at
  cue-text =
      text-used T.segments (used_strings T) T.texts (texts_used T.head) 512 (cell 11 T.cues i 8) (cell 11 T.cues i 7) parts.segments
      ∙ text-means T _

  -- that of its rows too, in the used texts and in the whole table of them
  pub cue_rows_used : rows_text (used_texts T) T.segments (cell 11 T.cues i 8) (cell 11 T.cues i 7) ≡ text_of (cue_in T i).segments
  cue_rows_used = sym (flat_cue.text (used_texts T)) ∙ cue-text

  pub cue_rows : rows_text T.texts T.segments (cell 11 T.cues i 8) (cell 11 T.cues i 7) ≡ text_of (cue_in T i).segments
  unfolding cue_in cue_at
  cue_rows = sym (flat_cue.text T.texts) ∙ text-means T _
