-- Every string of a track that is accepted is UTF-8. Assumes nothing.
--     OfOption, Of, OfExtras, OfParam, OfStyle, OfRegion, OfWrapper, OfSegments, OfCue, OfTrack     what holds of every string
--     string_ok, optional-ok, chain_ok, extras_ok                  strings in cells that pass their tests
--     param_utf8, style_utf8, region_utf8, segments_utf8, cue_utf8     the rows of each table
--     track_utf8, accepted_utf8                                    the whole
use Prim.Native.Nat.{ℕ, zero, suc, ◌+◌, ◌-◌, ◌<◌}
use mathlib.Core.Path.{◌≡◌, sym, subst, ◌∙◌}
use mathlib.Core.Bool.{Bool, true, cond, ◌&&◌}
use mathlib.Core.List.{List, [], ◌∷◌}
use mathlib.Core.Option.{Option, none, some}
use native.Mathlib.Omega.{arith}
use lib.ListN.{get_or, take}
use lib.Dec.{eqb, leb, ltb}
use borrow.Author.Tests.{eqb-true}
use Rattle.scan.specs.Part.{string_at}
use Rattle.utf8.specs.Utf8.{Utf8}
use Rattle.scan.proofs.Every.{by-test, both}
use Rattle.track.specs.declared.strings.Span.{Span}
use Rattle.track.specs.declared.segments.Segment.{Segment}
use Rattle.track.specs.Track.{Bytes, Extra, Param, Style, Region, Wrapper, Segments, Cue, Track}
use Rattle.track.specs.Track as track
use Rattle.track.specs.Tables.{Tables, cell, span, rows_from, optional, extra_at, param_at, look_at, style_at, region_at, segment_at, followed_by}
use Rattle.track.specs.Tables.{siblings_at, segments_at, cue_at, param_count, style_count, region_count, cue_count, segment_count, strings_used}
use Rattle.track.specs.Tables.{texts_used}
use Rattle.track.specs.Meaning.{is_span, is_optional, are_extras, has_extras, is_param, is_style, is_region, is_segment, are_siblings, are_segments}
use Rattle.track.specs.Meaning.{is_cue, is_utf8, is_track, style_in, region_in, cue_in, track_at, track_in}
use Rattle.track.specs.Layout.{each}
use Rattle.track.specs.Shown.{bytes_at, given, look_in_of, shown_extra, shown_segments}
use Rattle.track.proofs.ShownLaws.{extras_in_lem, param_in, lang_in, params_in, styles-in, regions-in, cues-in}
use Rattle.track.proofs.Spans.{span-within}
use Rattle.track.proofs.StringLaws.{four, span-utf8, given-span, string_used}
use Rattle.track.proofs.RowParts.{param_parts, style_parts, region_parts, cue_parts, first-extra, extras_are}
use Rattle.track.proofs.SegmentLaws.{Holds, segment_holds}
use Rattle.track.proofs.Exactly.{track_some, track_none, no_some}
use Rattle.track.proofs.Accepted.{strings-ok, texts_ok, lang_ok, param_ok, style_ok, region_ok, cue_ok}

-- ---- what holds of every string
module _ {A : Type 0} (P : A → Type 0) where
  abbrev pub OfOption : Option A → Type 0
  OfOption none = Unit {0}
  OfOption (some a) = P a

  abbrev pub Of : List A → Type 0
  Of [] = Unit {0}
  Of (x ∷ l) = P x × Of l

module _ (P : List ℕ → Type 0) where
  abbrev pub OfParam : Param Bytes → Type 0
  OfParam x = P x.name × P x.value

  abbrev pub OfWrapper : Wrapper (List ℕ) → Type 0
  OfWrapper track.bold = Unit {0}
  OfWrapper track.italic = Unit {0}
  OfWrapper track.underline = Unit {0}
  OfWrapper track.strike = Unit {0}
  OfWrapper (track.color c) = Unit {0}
  OfWrapper (track.font a s) = OfOption P a

  abbrev pub OfSegments : Segments (List ℕ) → Type 0
  OfSegments track.done = Unit {0}
  OfSegments (track.text s x) = P s × OfSegments x
  OfSegments (track.break x) = OfSegments x
  OfSegments (track.timestamp u x) = OfSegments x
  OfSegments (track.wrap w c x) = OfWrapper w × OfSegments c × OfSegments x

  abbrev pub OfExtras : List (Extra Bytes) → Type 0
  OfExtras x = Of (λ (e : Extra Bytes). P e.value) x

  abbrev pub OfStyle : Style Bytes → Type 0
  OfStyle x = P x.name × OfOption P x.chain × OfOption P x.look.family × OfExtras x.extras

  abbrev pub OfRegion : Region Bytes → Type 0
  OfRegion x = P x.id × OfExtras x.extras

  abbrev pub OfCue : Cue Bytes → Type 0
  OfCue x = OfOption P x.style × OfOption P x.region × OfExtras x.extras × OfSegments x.segments

  abbrev pub OfTrack : Track Bytes → Type 0
  OfTrack x = OfOption P x.lang × Of OfParam x.params × Of OfStyle x.styles × Of OfRegion x.regions × Of OfCue x.cues

of_rows : {A : Type 0} (P : A → Type 0) (g : ℕ → A) (n i : ℕ) → ((j : ℕ) → j < i + n → P (g j)) → Of P (rows_from g n i)
unfolding rows_from
of_rows P g zero i h = tt
of_rows P g (suc n) i h = (h i (omega arith), of_rows P g n (i + 1) (λ j l. h j (omega arith)))

-- ---- strings; the first u bytes of s are used, and they are UTF-8
pub string_ok : (s : List ℕ) (u : ℕ) → is_utf8 (take u s) ≡ true → (p n : ℕ) → is_span (take u s) p n ≡ true → Utf8 (string_at s p n)
string_ok s u h p n e = rw (string_used s u p n (span-within (take u s) p n e)) at (span-utf8 (take u s) p n h e)

-- ---- rows; the first u bytes of the strings and v of the texts are used
module _ (T : Tables) (u : ℕ) (h : is_utf8 (take u T.strings) ≡ true) where
  abbrev s : List ℕ
  s = T.strings

  -- a string that is there where its flag is 1
  pub optional-ok : (c p n : ℕ) → is_optional (take u s) c p n ≡ true → OfOption Utf8 (given (eqb c 1) (bytes_at s (optional c p n)))
  unfolding optional
  optional-ok c p n e =
      by-test (eqb c 1) (λ q. rw q (string_ok s u h p n (given-span (take u s) p n (rw (eqb-true c 1 q) at e)))) (λ q. rw q tt)

  pub chain_ok : (p n : ℕ) → is_span (take u s) p n ≡ true → OfOption Utf8 (cond (eqb n 0) none (some (string_at s p n)))
  chain_ok p n e = by-test (eqb n 0) (λ q. rw q tt) (λ q. rw q (string_ok s u h p n e))

  extras-from : (most least n i : ℕ) → are_extras T.extras (take u s) most least n i ≡ true → OfExtras Utf8 (extras_in_lem T.extras s n i)
  unfolding rows_from extra_at each shown_extra
  extras-from most least zero i e = tt
  extras-from most least (suc n) i e =
      let t = T.extras in
      let a = first-extra t (take u s) most least n i e in
      (string_ok s u h (cell 3 t i 1) (cell 3 t i 2) a.0.value, extras-from most (cell 3 t i 0 + 1) n (i + 1) a.1)

  pub extras_ok : (most first n : ℕ) → has_extras T.extras (take u s) most first n ≡ true → OfExtras Utf8 (extras_in_lem T.extras s n first)
  extras_ok most first n e = extras-from most 0 n first (extras_are T.extras (take u s) most first n e)

  pub param_utf8 : (i : ℕ) → is_param T.params (take u s) i ≡ true → OfParam Utf8 (param_in T i)
  unfolding param_at param_in
  param_utf8 i e =
      let t = T.params in
      let a = param_parts t (take u s) i e in
      (string_ok s u h (cell 4 t i 0) (cell 4 t i 1) a.name, string_ok s u h (cell 4 t i 2) (cell 4 t i 3) a.value)

  pub style_utf8 : (i : ℕ) → is_style T.styles T.sizes T.extras (take u s) i ≡ true → OfStyle Utf8 (style_in T i)
  unfolding style_at style_in look_at look_in_of cell
  style_utf8 i w =
      let c : ℕ → ℕ = cell 27 T.styles i in
      let a = style_parts T.styles T.sizes T.extras (take u s) i w in (
        string_ok s u h (c 0) (c 1) a.name,
        chain_ok (c 2) (c 3) a.chain,
        optional-ok (c 14) (c 15) (c 16) a.family,
        extras_ok 46 (c 25) (c 26) a.extras,
      )

  pub region_utf8 : (i : ℕ) → is_region T.regions T.extras (take u s) i ≡ true → OfRegion Utf8 (region_in T i)
  unfolding region_at region_in
  region_utf8 i w =
      let t = T.regions in
      let a = region_parts t T.extras (take u s) i w in
      (string_ok s u h (cell 4 t i 0) (cell 4 t i 1) a.id, extras_ok 53 (cell 4 t i 2) (cell 4 t i 3) a.extras)

  module _ (v : ℕ) (g : is_utf8 (take v T.texts) ≡ true) where
    abbrev x : List ℕ
    x = T.texts

    abbrev Good : Segments Span → Type 0
    Good k = OfSegments Utf8 (shown_segments s x k)

    followed-utf8 : (k : Segment) (m : ℕ) → Holds (take u s) (take v x) m k → (c a : Segments Span) → Good c → Good a → Good (followed_by k c a)
    unfolding shown_segments
    followed-utf8 (Segment.Text w) m e c a p q = (string_ok x v g w.place w.len e.1, q)
    followed-utf8 Segment.Break m e c a p q = q
    followed-utf8 (Segment.Timestamp w) m e c a p q = q
    followed-utf8 Segment.Bold m e c a p q = (tt, p, q)
    followed-utf8 Segment.Italic m e c a p q = (tt, p, q)
    followed-utf8 Segment.Underline m e c a p q = (tt, p, q)
    followed-utf8 Segment.Strike m e c a p q = (tt, p, q)
    followed-utf8 (Segment.Color w) m e c a p q = (tt, p, q)
    followed-utf8 (Segment.Font w) m e c a p q = (
      by-test w.has_family (λ b. rw b (string_ok s u h w.family.place w.family.len (e.0 b)))
          (λ b. rw b tt),
      p,
      q,
    )

    abbrev t : List ℕ
    t = T.segments

    siblings_utf8 : (kids : ℕ → ℕ → Bool) (ks : ℕ → ℕ → Segments Span) → ((m j : ℕ) → kids m j ≡ true → Good (ks m j)) → (n k i : ℕ)
        → are_siblings t (take u s) (take v x) kids n k i ≡ true → Good (siblings_at t ks n k i)
    unfolding are_siblings siblings_at shown_segments
    siblings_utf8 kids ks w zero k i e = tt
    siblings_utf8 kids ks w (suc n) (suc k) i e = siblings_utf8 kids ks w n k (i + 1) e
    siblings_utf8 kids ks w (suc n) zero i e =
        let m = cell 6 t i 1 in
        let a = both {a = is_segment t (take u s) (take v x) i && ltb 0 m && leb m (suc n) && kids (m - 1) (i + 1)}
        {b = are_siblings t (take u s) (take v x) kids n (m - 1) (i + 1)} e in
        let b = four (is_segment t (take u s) (take v x) i) (ltb 0 m) (leb m (suc n)) (kids (m - 1) (i + 1)) a.0 in
        followed-utf8 (segment_at t i) m (segment_holds t (take u s) (take v x) i b.0) (ks (m - 1) (i + 1)) (siblings_at t ks n (m - 1) (i + 1))
        (w (m - 1) (i + 1) b.3) (siblings_utf8 kids ks w n (m - 1) (i + 1) a.1)

    pub segments_utf8 : (d n i : ℕ) → are_segments t (take u s) (take v x) d n i ≡ true → Good (segments_at t d n i)
    unfolding are_segments segments_at shown_segments
    segments_utf8 zero n i e = tt
    segments_utf8 (suc d) n i e = siblings_utf8 (are_segments t (take u s) (take v x) d) (segments_at t d) (segments_utf8 d) n 0 i e

    pub cue_utf8 : (most i : ℕ) → is_cue T.cues T.extras t (take u s) (take v x) most (cell 11 T.cues i 7) i ≡ true → OfCue Utf8 (cue_in T i)
    unfolding cue_at cue_in
    cue_utf8 most i e =
        let c : ℕ → ℕ = cell 11 T.cues i in
        let a = cue_parts T.cues T.extras t (take u s) (take v x) most (c 7) i e in (
          optional-ok (c 0) (c 1) (c 2) a.style,
          optional-ok (c 3) (c 4) (c 5) a.region,
          extras_ok 47 (c 9) (c 10) a.extras,
          segments_utf8 512 (c 8) (c 7) a.segments,
        )

-- ---- the whole
lang_utf8 : (T : Tables) (u : ℕ) → is_utf8 (take u T.strings) ≡ true → (c p n : ℕ) → is_optional (take u T.strings) c p n ≡ true
    → OfOption Utf8 (given (eqb c 1) (bytes_at T.strings (span p n)))
lang_utf8 T u h c p n e =
    by-test (eqb c 1) (λ q. rw q (string_ok T.strings u h p n (given-span (take u T.strings) p n (rw (eqb-true c 1 q) at e)))) (λ q. rw q tt)

pub track_utf8 : (T : Tables) → is_track T ≡ true → OfTrack Utf8 (track_at T)
track_utf8 T h =
    let t = T.head in
    let u = strings_used t in
    let a = strings-ok T h in
    let b = texts_ok T h in (
      rw (lang_in T) (lang_utf8 T u a (get_or t 5 0) (get_or t 6 0) (get_or t 7 0) (lang_ok T h)),
      rw (params_in T) (of_rows (OfParam Utf8) (param_in T) (param_count t) 0 (λ j l. param_utf8 T u a j (param_ok T h j (omega arith)))),
      rw (styles-in T) (of_rows (OfStyle Utf8) (style_in T) (style_count t) 0 (λ j l. style_utf8 T u a j (style_ok T h j (omega arith)))),
      rw (regions-in T) (of_rows (OfRegion Utf8) (region_in T) (region_count t) 0 (λ j l. region_utf8 T u a j (region_ok T h j (omega arith)))),
      rw (cues-in T)
          (of_rows (OfCue Utf8) (cue_in T) (cue_count t) 0 (λ j l. cue_utf8 T u a (texts_used t) b (segment_count t) j (cue_ok T h j (omega arith)).0)),
    )

pub accepted_utf8 : (T : Tables) (k : Track Bytes) → track_in T ≡ some k → OfTrack Utf8 k
accepted_utf8 T k w =
    by-test (is_track T)
    (λ e.
    let q = track_some T e in
    let z : track_at T ≡ k = cc in
    subst (OfTrack Utf8) z (track_utf8 T e))
    (λ e. no_some (sym (track_none T e) ∙ w))
