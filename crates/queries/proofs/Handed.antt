-- What is known of a handed track that was accepted. Assumes nothing.
--     Accepted                    the check's answer
--     Lengths, lengths            how long the tables are
--     ready, has_regions          the rows of styles and regions can be searched
--     cue_spans                   a cue's strings stand among the strings
use Prim.Native.Nat.{ℕ, ◌+◌, ◌-◌, ◌*◌, ◌≤◌, ◌<◌}
use mathlib.Core.Path.{◌≡◌}
use mathlib.Core.Bool.{Bool, true, ◌&&◌}
use native.Mathlib.Omega.{arith}
use native.Mathlib.Nat.{add-zero}
use lib.ListN.{length, get_or, length-take}
use lib.Dec.{eqb, leb}
use borrow.Author.Tests.{leb-true, eqb-true}
use Rattle.scan.proofs.Every.{by-test, both}
use Rattle.track.specs.Tables.{Tables, cell, span, optional, style_count, region_count, cue_count, segment_count, strings_used, cue_at}
use Rattle.track.specs.Meaning.{is_optional, has_extras, within_limits, is_track}
use Rattle.track.specs.Check.{is_full, rows_full, rest_full}
use Rattle.track.proofs.Spans.{span-within}
use Rattle.track.proofs.StringLaws.{three, four, given-span}
use Rattle.track.proofs.RowParts.{StyleParts, style_parts, RegionParts, region_parts, cue_parts, extras_within, extra_parts}
use Rattle.track.proofs.Accepted.{used_strings, used_texts, limits_ok, style_ok, region_ok, cue_ok}
use Rattle.styles.specs.Steps.{Ready}
use Rattle.queries.specs.Steps.{SpanIn, HasExtras, HasRegions}

pub record Accepted (T : Tables) : Type 0 where
  pub full : is_full T ≡ true
  pub is-track : is_track T ≡ true

pub record Lengths (T : Tables) : Type 0 where
  pub head : 10 ≤ length T.head
  pub styles : 6912 ≤ length T.styles
  pub regions : 1024 ≤ length T.regions
  pub cues : 22528 ≤ length T.cues
  pub times : 4096 ≤ length T.times
  pub sizes : 256 ≤ length T.sizes
  pub extras : 24576 ≤ length T.extras
  pub strings : 65536 ≤ length T.strings

five : (a b c d e : Bool) → a && b && c && d && e ≡ true → (a ≡ true) × (b ≡ true) × (c ≡ true) × (d ≡ true) × (e ≡ true)
five a b c d e h =
    let x = three (a && b && c) d e h in
    let y = three a b c x.0 in
    (y.0, y.1, y.2, x.1, x.2)

seven : (a b c d e f g : Bool) → a && b && c && d && e && f && g ≡ true
    → (a ≡ true) × (b ≡ true) × (c ≡ true) × (d ≡ true) × (e ≡ true) × (f ≡ true) × (g ≡ true)
seven a b c d e f g h =
    let x = three (a && b && c && d && e) f g h in
    let y = five a b c d e x.0 in
    (y.0, y.1, y.2, y.3, y.4, x.1, x.2)

module _ (T : Tables) where
  rows : Bool
  rows = rows_full (length T.head) (length T.params) (length T.styles) (length T.regions) (length T.cues) (length T.segments)
      (length T.extras)

  rest : Bool
  rest = rest_full (length T.times) (length T.sizes) (length T.strings) (length T.texts)

  pub lengths : is_full T ≡ true → Lengths T
  unfolding is_full rows_full rest_full rows rest
  lengths h =
      let p = both {a = rows} {b = rest} h in
      let a = seven (leb 10 (length T.head)) (leb 256 (length T.params)) (leb 6912 (length T.styles)) (leb 1024 (length T.regions))
      (leb 22528 (length T.cues)) (leb 98304 (length T.segments)) (leb 24576 (length T.extras)) p.0 in
      let b = four (leb 4096 (length T.times)) (leb 256 (length T.sizes)) (leb 65536 (length T.strings)) (leb 65536 (length T.texts))
      p.1 in
      record {
        head = leb-true _ _ a.0;
        styles = leb-true _ _ a.2;
        regions = leb-true _ _ a.3;
        cues = leb-true _ _ a.4;
        times = leb-true _ _ b.0;
        sizes = leb-true _ _ b.1;
        extras = leb-true _ _ a.6;
        strings = leb-true _ _ b.2;
      }

  module _ (ok : Accepted T) where
    abbrev len : Lengths T
    len = lengths ok.full

    record Counts : Type 0 where
      styles : style_count T.head ≤ 256
      regions : region_count T.head ≤ 256
      cues : cue_count T.head ≤ 2048
      strings : strings_used T.head ≤ 65536

    counts : Counts
    unfolding within_limits
    counts =
        let t = T.head in
        let a = seven (leb (get_or t 0 0) 64) (leb (get_or t 1 0) 256) (leb (get_or t 2 0) 256) (leb (get_or t 3 0) 2048) (leb (get_or t 4 0) 16384)
        (leb (get_or t 8 0) 65536) (leb (get_or t 9 0) 65536) (limits_ok T ok.is-track) in
        record { styles = leb-true _ _ a.1; regions = leb-true _ _ a.2; cues = leb-true _ _ a.3; strings = leb-true _ _ a.5 }

    pub cues_few : cue_count T.head ≤ 2048
    cues_few = counts.cues

    used : length (used_strings T) ≤ 65536
    used = omega (arith, length-take (strings_used T.head) T.strings, counts.strings)

    used_in : length (used_strings T) ≤ length T.strings
    used_in = omega (arith, length-take (strings_used T.head) T.strings)

    spanned : (p n : ℕ) → p + n ≤ length (used_strings T) → SpanIn T.strings (span p n)
    spanned p n h = record { within = omega (arith, used_in); few = omega (arith, used) }

    style_part : (i : ℕ) → i < style_count T.head → StyleParts T.styles T.sizes T.extras (used_strings T) i
    style_part i l = style_parts T.styles T.sizes T.extras (used_strings T) i (style_ok T ok.is-track i l)

    pub ready : Ready T.styles T.sizes T.strings (style_count T.head)
    unfolding cell
    ready = record {
      chained = record {
        named = record {
          two = omega arith;
          rows = omega (arith, len.styles, counts.styles);
          within = λ i l. rw (add-zero (i * 27)) at (spanned _ _ (span-within _ _ _ (style_part i l).name)).within;
        };
        chains = λ i l. (spanned _ _ (span-within _ _ _ (style_part i l).chain)).within;
        few = λ i l. (spanned _ _ (span-within _ _ _ (style_part i l).chain)).few;
      };
      sizes = omega (arith, len.sizes, counts.styles);
      color = λ i l. (style_part i l).color;
      back = λ i l. (style_part i l).back;
    }

    region_part : (i : ℕ) → i < region_count T.head → RegionParts T.regions T.extras (used_strings T) i
    region_part i l = region_parts T.regions T.extras (used_strings T) i (region_ok T ok.is-track i l)

    extras_in : (most first n : ℕ) → has_extras T.extras (used_strings T) most first n ≡ true → HasExtras T.extras T.strings first n
    unfolding cell
    extras_in most first n h =
        let few = extras_within T.extras (used_strings T) most first n h in
        record {
          rows = omega (arith, few, len.extras);
          small = few;
          values = λ i a b.
              let e : first + (i - first) ≡ i = omega arith in
              rw e at (spanned _ _ (span-within _ _ _ (extra_parts T.extras (used_strings T) most first n h (i - first) (omega arith)).value));
        }

    pub has_regions : HasRegions T.regions T.extras T.strings (region_count T.head)
    unfolding cell
    has_regions = record {
      named = record {
        two = omega arith;
        rows = omega (arith, len.regions, counts.regions);
        within = λ i l. rw (add-zero (i * 4)) at (spanned _ _ (span-within _ _ _ (region_part i l).id)).within;
      };
      extras = λ i l. extras_in 53 _ _ (region_part i l).extras;
    }

    optional-in : (c p n : ℕ) → is_optional (used_strings T) c p n ≡ true → SpanIn T.strings (optional c p n)
    unfolding optional
    optional-in c p n h =
        by-test (eqb c 1)
        (λ e.
        let q : is_optional (used_strings T) 1 p n ≡ true = rw (eqb-true c 1 e) at h in
        rw e (spanned p n (span-within _ _ _ (given-span (used_strings T) p n q))))
        (λ e. rw e (record { within = omega arith; few = omega arith }))

    pub cue_spans : (i : ℕ) → i < cue_count T.head
        → SpanIn T.strings (cue_at T.cues T.times i).style × SpanIn T.strings (cue_at T.cues T.times i).region
    unfolding cue_at
    cue_spans i l =
        let p = cue_parts T.cues T.extras T.segments (used_strings T) (used_texts T) (segment_count T.head) (cell 11 T.cues i 7) i
        (cue_ok T ok.is-track i l).0 in
        (optional-in _ _ _ p.style, optional-in _ _ _ p.region)
