-- The check of the whole, test by test. Assumes nothing.
--     RowsLong, rows_long, RestLong, rest-long     how long the tables are that pass
--     Limits, limits_low                           how large the counts are that pass
--     full-long, long_full                         tables as long as they must be
--     track_limits, track_bytes, track_rows, track_cues, track_is     tables that hold a track
use Prim.Native.Nat.{ℕ, ◌≤◌}
use mathlib.Core.Path.{◌≡◌}
use mathlib.Core.Bool.{Bool, true, false, ◌&&◌}
use mathlib.Core.List.{List}
use lib.ListN.{length, get_or, take}
use lib.Dec.{leb}
use borrow.Author.Tests.{leb-true, le-leb}
use Rattle.scan.proofs.Every.{both}
use Rattle.track.specs.Tables.{Tables, lengths, LongEnough, cue_count, segment_count, strings_used, texts_used}
use Rattle.track.specs.Meaning.{are_cues, within_limits, bytes_mean, rows_mean, is_track}
use Rattle.track.specs.Steps.{rows_full, rest_full, is_full}
use Rattle.track.proofs.StringLaws.{four}

-- ---- lengths and counts
pub record RowsLong (h p s r c g e : ℕ) : Type 0 where
  pub head : 10 ≤ h
  pub params : 256 ≤ p
  pub styles : 6912 ≤ s
  pub regions : 1024 ≤ r
  pub cues : 22528 ≤ c
  pub segments : 98304 ≤ g
  pub extras : 24576 ≤ e

pub rows_long : (h p s r c g e : ℕ) → rows_full h p s r c g e ≡ true → RowsLong h p s r c g e
unfolding rows_full
rows_long h p s r c g e w =
    let x = four (leb 10 h && leb 256 p && leb 6912 s && leb 1024 r) (leb 22528 c) (leb 98304 g) (leb 24576 e) w in
    let y = four (leb 10 h) (leb 256 p) (leb 6912 s) (leb 1024 r) x.0 in
    record {
      head = leb-true 10 h y.0;
      params = leb-true 256 p y.1;
      styles = leb-true 6912 s y.2;
      regions = leb-true 1024 r y.3;
      cues = leb-true 22528 c x.1;
      segments = leb-true 98304 g x.2;
      extras = leb-true 24576 e x.3;
    }

pub record RestLong (t f z y : ℕ) : Type 0 where
  pub times : 4096 ≤ t
  pub sizes : 256 ≤ f
  pub strings : 65536 ≤ z
  pub texts : 65536 ≤ y

pub rest-long : (t f z y : ℕ) → rest_full t f z y ≡ true → RestLong t f z y
unfolding rest_full
rest-long t f z y w =
    let x = four (leb 4096 t) (leb 256 f) (leb 65536 z) (leb 65536 y) w in
    record {
      times = leb-true 4096 t x.0;
      sizes = leb-true 256 f x.1;
      strings = leb-true 65536 z x.2;
      texts = leb-true 65536 y x.3;
    }

pub record Limits (t : List ℕ) : Type 0 where
  pub params : get_or t 0 0 ≤ 64
  pub styles : get_or t 1 0 ≤ 256
  pub regions : get_or t 2 0 ≤ 256
  pub cues : get_or t 3 0 ≤ 2048
  pub segments : get_or t 4 0 ≤ 16384
  pub strings : get_or t 8 0 ≤ 65536
  pub texts : get_or t 9 0 ≤ 65536

pub limits_low : (t : List ℕ) → within_limits t ≡ true → Limits t
unfolding within_limits
limits_low t w =
    let c : ℕ → ℕ = λ i. get_or t i 0 in
    let x = four (leb (c 0) 64 && leb (c 1) 256 && leb (c 2) 256 && leb (c 3) 2048) (leb (c 4) 16384) (leb (c 8) 65536) (leb (c 9) 65536) w in
    let y = four (leb (c 0) 64) (leb (c 1) 256) (leb (c 2) 256) (leb (c 3) 2048) x.0 in
    record {
      params = leb-true (c 0) 64 y.0;
      styles = leb-true (c 1) 256 y.1;
      regions = leb-true (c 2) 256 y.2;
      cues = leb-true (c 3) 2048 y.3;
      segments = leb-true (c 4) 16384 x.1;
      strings = leb-true (c 8) 65536 x.2;
      texts = leb-true (c 9) 65536 x.3;
    }

-- ---- the tests in their order
module _ (T : Tables) where
  abbrev rows_ok : Bool
  rows_ok = rows_full (length T.head) (length T.params) (length T.styles) (length T.regions) (length T.cues) (length T.segments)
      (length T.extras)

  abbrev rest_ok : Bool
  rest_ok = rest_full (length T.times) (length T.sizes) (length T.strings) (length T.texts)

  -- as the promise has it
  pub full-long : is_full T ≡ true → LongEnough (lengths T)
  unfolding is_full
  full-long e =
      let w = both {a = rows_ok} {b = rest_ok} e in
      let a = rows_long _ _ _ _ _ _ _ w.0 in
      let b = rest-long _ _ _ _ w.1 in
      record {
        head = a.head;
        params = a.params;
        styles = a.styles;
        regions = a.regions;
        cues = a.cues;
        times = b.times;
        segments = a.segments;
        sizes = b.sizes;
        extras = a.extras;
        strings = b.strings;
        texts = b.texts;
      }

  pub long_full : LongEnough (lengths T) → is_full T ≡ true
  unfolding is_full rows_full rest_full
  long_full m = rw (
    le-leb 10 _ m.head,
    le-leb 256 _ m.params,
    le-leb 6912 _ m.styles,
    le-leb 1024 _ m.regions,
    le-leb 22528 _ m.cues,
    le-leb 98304 _ m.segments,
    le-leb 24576 _ m.extras,
    le-leb 4096 _ m.times,
    le-leb 256 _ m.sizes,
    le-leb 65536 _ m.strings,
    le-leb 65536 _ m.texts,
  )

module _ (T : Tables) where
  abbrev z : List ℕ
  z = take (strings_used T.head) T.strings

  abbrev y : List ℕ
  y = take (texts_used T.head) T.texts

  abbrev rows_hold : Bool
  rows_hold = rows_mean T.head T.params T.styles T.regions T.sizes T.extras z

  abbrev cues_hold : Bool
  cues_hold = are_cues T.cues T.extras T.segments z y (segment_count T.head) 0 (cue_count T.head) 0

  pub track_limits : within_limits T.head ≡ false → is_track T ≡ false
  unfolding is_track
  track_limits e = rw e

  module _ (l : within_limits T.head ≡ true) where
    pub track_bytes : bytes_mean T.head z y ≡ false → is_track T ≡ false
    unfolding is_track
    track_bytes e = rw (l, e)

    module _ (b : bytes_mean T.head z y ≡ true) where
      pub track_rows : rows_hold ≡ false → is_track T ≡ false
      unfolding is_track
      track_rows e = rw (l, b, e)

      module _ (r : rows_hold ≡ true) where
        pub track_cues : cues_hold ≡ false → is_track T ≡ false
        unfolding is_track
        track_cues e = rw (l, b, r, e)

        pub track_is : cues_hold ≡ true → is_track T ≡ true
        unfolding is_track
        track_is e = rw (l, b, r, e)
