-- The three queries: what they resolve is what is asked. Assumes nothing.
--     asked                                       from what `resolve_over` and `finish` leave to the promise
--     value-asked, referenced                     a value
--     region_asked, region_refuses                a region
--     cue_asked, cue_refuses, cue_past            a cue
use Rattle.queries.specs.Reply.{Reply}
use Rattle.std.specs.Prelude as rust
use Rattle.std.specs.Prelude.{Some, None, Result, Ok, Err}
use Prim.Native.Nat.{ℕ, zero, suc, ◌+◌, ◌-◌, ◌*◌, ◌≤◌, ◌<◌}
use mathlib.Core.Path.{◌≡◌, refl, sym, ap, subst, ◌∙◌}
use mathlib.Core.Bool.{Bool, true, false, cond}
use mathlib.Core.Logic.{◌↔◌}
use mathlib.Core.List.{List, [], append-nil}
use mathlib.Core.Option.{Option, none, some}
use native.Mathlib.Omega.{arith}
use native.Mathlib.Nat.{zero-add, sub-zero, add-zero}
use lib.ListN.{length, get_or, replicate, length-replicate}
use lib.Seq.{take-length}
use lib.Dec.{eqb}
use Rattle.scan.specs.Part.{string_at}
use Rattle.utf8.specs.White.{trimmed, Trimmed}
use Rattle.scan.proofs.Every.{by-test}
use Rattle.track.specs.declared.strings.Span.{Span}
use Rattle.track.specs.declared.values.Look as values
use Rattle.track.specs.declared.values.Cue as placed
use Rattle.track.specs.Track.{Bytes, Look, Style, Region, Track}
use Rattle.track.specs.Tables.{Tables, cell, span, optional, rows_from, style_count, region_count, cue_count, cue_at}
use Rattle.track.specs.Meaning.{bytes_at, given, look_in_of, region_in, cue_in, track_at, track_in}
use Rattle.track.proofs.ShownLaws.{regions-in, cues-in}
use Rattle.records.specs.Find.{find_style, find_region}
use Rattle.styles.specs.Reaches.{Reaches}
use Rattle.styles.specs.Values.{laid_over}
use Rattle.styles.specs.Resolve.{Resolution, resolve}
use Rattle.styles.specs.Own.{is, next}
use Rattle.styles.specs.Queries.{
  nothing,
  resolve_optional,
  with_own,
  region_found,
  region_style,
  others,
  both,
  region_optional,
  effective_style,
  nth,
}
use Rattle.styles.specs.Cells.{blank_look, Tidy}
use Rattle.styles.specs.Ids.{Row, names_of, rows_in}
use Rattle.styles.specs.Places.{row, WalkedAt, start_at, Resolves}
use Rattle.styles.specs.Steps as styles
use Rattle.styles.specs.Steps.{styles_in, state_at, AnswerPost}
use Rattle.styles.proofs.Along.{over-kept, part_length}
use Rattle.styles.proofs.Answering.{resolve-nothing}
use Rattle.styles.proofs.Theorem.{resolve-answers}
use Rattle.styles.proofs.Tidying.{tidy_blank}
use Rattle.styles.proofs.Whole.{styles_whole}
use Rattle.queries.specs.declared.query.Resolved.{Resolved}
use Rattle.queries.specs.declared.region.Part.{Part}
use Rattle.queries.specs.Places.{past, there}
use Rattle.queries.specs.Promise.{
  number_of,
  style_in,
  trimmed_at,
  Query,
  of_value,
  of_region,
  of_cue_of,
  Takes,
  Queried,
  ReferencedStyle,
  RegionStyle,
  EffectiveStyle,
}
use Rattle.queries.specs.Steps.{regions_of, part_as, RegionPost, CueRegionPost, query_check, refused_as_of, FinishPost}
use Rattle.queries.proofs.Regions.{blank-unstyled}
use Rattle.queries.proofs.OwnNumbers.{region_refused, cue_refused}
use Rattle.queries.proofs.Reaching.{Reached, value-reached, region_reached, cue_reached}
use Rattle.queries.proofs.Promising.{zeros, valued-query, over-query, given-query}
use Rattle.styles.specs.declared.apply.Walk.{Walk}

-- ---- strings
pub whole : (x : List ℕ) → string_at x 0 (length x) ≡ x
unfolding string_at
whole x = rw (zero-add (length x), sub-zero (length x)) (take-length x)

pub no_bytes : (z : List ℕ) → string_at z 0 0 ≡ []
unfolding string_at
no_bytes z = refl

pub name_trimmed : (x : List ℕ) (a e : ℕ) → Trimmed x a e → string_at x a (e - a) ≡ trimmed x
unfolding string_at
name_trimmed x a e t = let q : a + (e - a) ≡ e = omega (arith, t.order) in rw q t.is

pub trimmed-at : (x : List ℕ) (a e : ℕ) → Trimmed x a e → span a (e - a) ≡ trimmed_at x
trimmed-at x a e t =
    let l : e - a ≡ length (trimmed x) = sym (part_length x a e t.order t.within_text) ∙ ap length t.is in
    rw (l, t.starts)

-- ---- what adds nothing
over_none : (x : Option (Look Bytes)) → laid_over x none ≡ x
over_none none = refl
over_none (some x) = refl

own-none : (z : List ℕ) (r : Resolution) → with_own r (look_in_of z blank_look) ≡ r
own-none z r = rw (blank-unstyled z, over_none r.style)

both-none : (styles : List (Style Bytes)) (r : Resolution) → both r (resolve styles []) ≡ r
unfolding others
both-none styles r = rw (resolve-nothing styles, over_none r.style, append-nil r.ids)

alone : (styles : List (Style Bytes)) (z : List ℕ) (look : values.Look) → look ≡ blank_look → (value : Bytes)
    → both (with_own (resolve styles value) (look_in_of z look)) (resolve styles []) ≡ resolve styles value
alone styles z look b value =
    ap (λ (l : values.Look). both (with_own (resolve styles value) (look_in_of z l)) (resolve styles [])) b
    ∙ (ap (λ (r : Resolution). both r (resolve styles [])) (own-none z (resolve styles value)) ∙ both-none styles (resolve styles value))

-- ---- from what is left to the promise
module _ (q : Query) (T : Tables) (lent : List ℕ) (h : query_check q.text T ≡ (Ok tt)) (first second : Bytes) (look : values.Look)
    (t₁ t₂ t₃ : List ℕ) (cleared : t₁ ≡ replicate (length lent) 0)
  where
    abbrev resolved : Resolution
    resolved = styles.answer_of q.text T.styles T.sizes T.strings (style_count T.head) first second t₁ t₂ look T.extras

    as_long : length t₁ ≡ length lent
    as_long = rw cleared (length-replicate {A = ℕ} (length lent) 0)

    pub asked : q.asks (track_at T) ≡ is resolved → Reached q (track_at T) resolved → Tidy look
        → bytes_at q.text q.at ≡ q.name → (one two : Row)
        → ((v : WalkedAt) → Resolves q.text T.styles T.sizes T.strings (style_count T.head) one two look v → q.walks T v)
        → (walked : rust.Option Walk) (answer : Reply)
        → AnswerPost q.text T.styles T.sizes T.strings (style_count T.head) first second t₁ t₂ look one two walked
        → FinishPost q.at walked t₂ t₃ answer → Queried q T lent answer t₃
    asked e x tidy n one two p (Some w) answer a f =
        rw (f.0, f.1)
        (given-query q T lent h resolved e x t₂ (a.kept ∙ as_long) w (a.style T.extras) (a.ids T.extras) (a.tidy tidy) a.stood
        a.behind (p (state_at t₂ w) a.placed) n)
    asked e x tidy n one two p None answer a f =
        rw f.0
        (over-query q T lent h resolved e (over-kept lent t₁ resolved.ids as_long (a.over T.extras)) t₃ (rw (a.kept ∙ as_long) at f.1))

-- ---- a value
module _ (value : Bytes) (T : Tables) (lent : List ℕ) where
  pub referenced : (answer : Reply) (left : List ℕ) → Queried (of_value value) T lent answer left → ReferencedStyle value T lent answer left
  referenced answer left q = record {
    queried = q;
    no_style = λ n k e. styled n k e (q.taken.0 n);
  }
    where
      styled : number_of answer ≡ 0 → (k : Track Bytes) → track_in T ≡ some k
          → ((k : Track Bytes) × (r : Resolution) × Takes (of_value value) T lent k r)
          → (style_in T.strings answer ≡ none) ↔ ((a : Bytes) → Reaches k.styles value a → find_style a k.styles ≡ none)
      styled n k e (j, r, t) =
          let u : some j ≡ some k = sym t.askable.means ∙ e in
          let v : j ≡ k = cc in
          let w : is (resolve j.styles value) ≡ is r = t.asked in
          let x : r ≡ resolve k.styles value = same v w in
          let s = (q.gives j r t).style ∙ ap (λ (y : Resolution). y.style) x in
          let a = (resolve-answers k.styles value).no_style in
          (λ y. a.0 (sym s ∙ y), λ y. s ∙ a.1 y)
        where
          same : {j k : Track Bytes} {r : Resolution} → j ≡ k → is (resolve j.styles value) ≡ is r → r ≡ resolve k.styles value
          same {j} {k} {r} v w = let x : r ≡ resolve j.styles value = cc in x ∙ ap (λ (y : Track Bytes). resolve y.styles value) v

  module _ (h : query_check value T ≡ (Ok tt)) (look : values.Look) (blank-look : look ≡ blank_look) (t₁ t₂ t₃ : List ℕ)
      (cleared : t₁ ≡ replicate (length lent) 0) where
    abbrev value-answer : Resolution
    value-answer =
        resolved (of_value value) T lent h value [] look t₁ t₂ t₃ cleared

    same_value : is (resolve (track_at T).styles value) ≡ is value-answer
    same_value =
        ap (λ (s : List (Style Bytes)). is (resolve s value)) (sym (styles_whole T))
        ∙ ap is (sym (alone (styles_in T.styles T.sizes T.extras T.strings (style_count T.head)) T.strings look blank-look value))

    pub value-asked : (b e : ℕ) → Trimmed value b e → (walked : rust.Option Walk) (answer : Reply)
        → AnswerPost value T.styles T.sizes T.strings (style_count T.head) value [] t₁ t₂ look (row 0 (span 0 (length value)))
        (row 1 (span 0 0)) walked
        → FinishPost (span b (e - b)) walked t₂ t₃ answer → ReferencedStyle value T lent answer t₃
    value-asked b e trim walked answer a f =
        let p : span b (e - b) ≡ trimmed_at value = trimmed-at value b e trim in
        let n : bytes_at value (span b (e - b)) ≡ trimmed value = name_trimmed value b e trim in
        referenced answer t₃
        (asked (of_value value) T lent h value [] look t₁ t₂ t₃ cleared same_value
        (value-reached (track_at T) value-answer value same_value) (rw blank-look tidy_blank)
        (ap (bytes_at value) (sym p) ∙ n) (row 0 (span 0 (length value))) (row 1 (span 0 0)) (λ v d. rw blank-look at d) walked answer a
        (subst (λ (s : Span). FinishPost s walked t₂ t₃ answer) p f))

-- ---- a region
regions_whole : (T : Tables) → regions_of T.regions T.extras T.strings (region_count T.head) ≡ (track_at T).regions
unfolding region_in
regions_whole T = sym (regions-in T)

module _ (id : Bytes) (T : Tables) (lent : List ℕ) (h : query_check id T ≡ (Ok tt)) where
  regions_are : (styles : List (Style Bytes))
      → region_found styles (find_region id (regions_of T.regions T.extras T.strings (region_count T.head)))
      ≡ region_found styles (find_region id (track_at T).regions)
  regions_are styles = ap (λ (l : List (Region Bytes)). region_found styles (find_region id l)) (regions_whole T)

  asks_region : (r : Result Part ℕ) → RegionPost T.regions T.extras T.strings (region_count T.head) id r
      → region_style (track_at T) id ≡ part_as T.strings (track_at T).styles r
  unfolding region_style
  asks_region r p = sym (p.is (track_at T).styles ∙ regions_are (track_at T).styles)

  pub region_refuses : (n : ℕ) → RegionPost T.regions T.extras T.strings (region_count T.head) id (Err n)
      → (left : List ℕ) → left ≡ replicate (length lent) 0 → RegionStyle id T lent (refused_as_of n) left
  region_refuses n p left z =
      let e = asks_region (Err n) p in
      valued-query (of_region id) T lent h n e (region_refused (track_at T) id e) left z

  module _ (x : Part) (p : RegionPost T.regions T.extras T.strings (region_count T.head) id (Ok x)) (t₁ t₂ t₃ : List ℕ)
      (cleared : t₁ ≡ replicate (length lent) 0) where
    abbrev answer_to : Resolution
    answer_to =
        resolved (of_region id) T lent h
        (bytes_at T.strings x.chain) [] x.look t₁ t₂ t₃ cleared

    same_region : region_style (track_at T) id ≡ is answer_to
    same_region =
        let S : List (Style Bytes) = styles_in T.styles T.sizes T.extras T.strings (style_count T.head) in
        asks_region (Ok x) p
        ∙ (ap (λ (s : List (Style Bytes)). part_as T.strings s (Ok x)) (sym (styles_whole T))
        ∙ ap is (sym (both-none S (with_own (resolve S (bytes_at T.strings x.chain)) (look_in_of T.strings x.look)))))

    pub region_asked : (walked : rust.Option Walk) (answer : Reply)
        → AnswerPost id T.styles T.sizes T.strings (style_count T.head) (bytes_at T.strings x.chain) [] t₁ t₂ x.look
        (row 1 x.chain) (row 1 (span 0 0)) walked
        → FinishPost (span 0 (length id)) walked t₂ t₃ answer → RegionStyle id T lent answer t₃
    region_asked walked answer a f =
        asked (of_region id) T lent h
        (bytes_at T.strings x.chain) [] x.look t₁ t₂ t₃ cleared same_region
        (region_reached (track_at T) answer_to id same_region) p.within.1 (whole id) (row 1 x.chain) (row 1 (span 0 0))
        (λ v d. record { region = x; said = p.placed; resolved = d }) walked answer a f

-- ---- a cue
nth-row : {A : Type 0} (f : ℕ → A) (n j i : ℕ) → i < n → nth (rows_from f n j) i ≡ some (f (j + i))
unfolding nth rows_from
nth-row f zero j i l = absurd (omega arith)
nth-row f (suc n) j zero l = rw (add-zero j)
nth-row f (suc n) j (suc i) l = let q : j + suc i ≡ j + 1 + i = omega arith in rw q (nth-row f n (j + 1) i (omega arith))

nth-first : {A : Type 0} (f : ℕ → A) (n i : ℕ) → i < n → nth (rows_from f n 0) i ≡ some (f i)
nth-first f n i l = rw (zero-add i) at (nth-row f n 0 i l)

nth_past : {A : Type 0} (f : ℕ → A) (n j i : ℕ) → n ≤ i → nth (rows_from f n j) i ≡ none
unfolding nth rows_from
nth_past f zero j i l = refl
nth_past f (suc n) j zero l = absurd (omega arith)
nth_past f (suc n) j (suc i) l = nth_past f n (j + 1) i (omega arith)

module _ (T : Tables) (i : ℕ) (lent : List ℕ) (h : query_check [] T ≡ (Ok tt)) where
  none-there : cue_count T.head ≤ i → effective_style (track_at T) i ≡ is nothing
  unfolding effective_style
  none-there l = rw (cues-in T, nth_past (cue_in T) (cue_count T.head) 0 i l)

  pub cue_past : cue_count T.head ≤ i → (left : List ℕ) → left ≡ replicate (length lent) 0 → EffectiveStyle T i lent (Ok (Resolved.NoStyle 0)) left
  unfolding nothing names_of rows_in rows_from string_at start_at
  cue_past l left z =
      given-query (of_cue_of i) T lent h nothing (none-there l)
      (cue_reached (track_at T) nothing i (none-there l)) left
      (rw z (length-replicate {A = ℕ} (length lent) 0)) (record { count = 0; found = false; look = blank_look }) refl refl tidy_blank
      (record { fits = omega arith; few = omega arith; rows = λ j b. absurd (omega arith); marks = λ j b. absurd (omega arith) })
      (λ c b. rw z (zeros (length lent) c)) (past l refl) refl

  module _ (l : i < cue_count T.head) where
    abbrev cue : placed.Cue
    cue = cue_at T.cues T.times i

    the_cue : nth (track_at T).cues i ≡ some (cue_in T i)
    the_cue = rw (cues-in T) (nth-first (cue_in T) (cue_count T.head) i l)

    -- its region
    region_given : (has : Bool) (v : Bytes) → region_optional (track_at T) (given has v) ≡ cond has (region_found (track_at T).styles (find_region v
        (track_at T).regions)) (is nothing)
    unfolding region_style
    region_given true v = refl
    region_given false v = refl

    regions_same : (v : Bytes) → find_region v (regions_of T.regions T.extras T.strings (region_count T.head)) ≡ find_region v (track_at T
        ).regions
    regions_same v = ap (find_region v) (regions_whole T)

    -- its own value
    own-given : (styles : List (Style Bytes)) → resolve_optional styles (given cue.has_style (bytes_at T.strings cue.style)) ≡ resolve
        styles (bytes_at T.strings cue.style)
    unfolding cue_at cell optional nothing
    own-given styles =
        by-test (eqb (get_or T.cues (i * 11 + 0) 0) 1) (λ e. rw e) (λ e. rw (e, no_bytes T.strings) (sym (resolve-nothing styles)))

    asks_cue : (r : Result Part ℕ) → CueRegionPost T.regions T.extras T.strings (region_count T.head) cue.has_region cue.region r
        → effective_style (track_at T) i ≡ next (part_as T.strings (track_at T).styles r)
        (λ s. is (both s (resolve (track_at T).styles (bytes_at T.strings cue.style))))
    unfolding effective_style cue_in
    asks_cue r p =
        rw (
          the_cue,
          region_given cue.has_region (bytes_at T.strings cue.region),
          ← (regions_same (bytes_at T.strings cue.region)),
          ← (p.is (track_at T).styles),
          own-given (track_at T).styles,
        )

    pub cue_refuses : (n : ℕ) → CueRegionPost T.regions T.extras T.strings (region_count T.head) cue.has_region cue.region
        (Err n)
        → (left : List ℕ) → left ≡ replicate (length lent) 0 → EffectiveStyle T i lent (refused_as_of n) left
    cue_refuses n p left z =
        let e = asks_cue (Err n) p in
        valued-query (of_cue_of i) T lent h n e (cue_refused (track_at T) i e) left z

    module _ (x : Part)
        (p : CueRegionPost T.regions T.extras T.strings (region_count T.head) cue.has_region cue.region (Ok x))
        (t₁ t₂ t₃ : List ℕ) (cleared : t₁ ≡ replicate (length lent) 0) where
      abbrev cue_answer : Resolution
      cue_answer = resolved (of_cue_of i) T lent h (bytes_at T.strings x.chain)
          (bytes_at T.strings cue.style) x.look t₁ t₂ t₃ cleared

      same_cue : effective_style (track_at T) i ≡ is cue_answer
      same_cue =
          asks_cue (Ok x) p
          ∙ ap (λ (s : List (Style Bytes)). next (part_as T.strings s (Ok x)) (λ r. is (both r (resolve s (bytes_at T.strings cue.style)))))
          (sym (styles_whole T))

      pub cue_asked : (walked : rust.Option Walk) (answer : Reply)
          → AnswerPost [] T.styles T.sizes T.strings (style_count T.head) (bytes_at T.strings x.chain) (bytes_at T.strings cue.style) t₁ t₂ x.look (row 1 x.chain) (row 1 cue.style) walked
          → FinishPost (span 0 0) walked t₂ t₃ answer → EffectiveStyle T i lent answer t₃
      cue_asked walked answer a f =
          asked (of_cue_of i) T lent h (bytes_at T.strings x.chain)
          (bytes_at T.strings cue.style) x.look t₁ t₂ t₃ cleared
          same_cue (cue_reached (track_at T) cue_answer i same_cue) p.within.1 (no_bytes []) (row 1 x.chain) (row 1 cue.style)
          (λ v d. there l (record { region = x; said = p.placed; resolved = d })) walked answer a f
