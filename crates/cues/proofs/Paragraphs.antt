-- A p around rows that stand. Assumes nothing.
--     bare-none, bare-more, bare-other, bare-read                  whether rows are a bare font, read from the first row
--     par_full, par_more, par_same, par_drop                       what `put_paragraph` ensures, by its ways
--     wrap-given, styled-some, styled-none                         what a p's attributes make of its content
use Rattle.std.specs.Prelude.{Option, Some, None, Result, Ok, Err}
use Rattle.std.specs.Option.{ok_or}
use Prim.Native.Nat.{ℕ, ◌+◌, ◌-◌, ◌*◌, ◌%◌, ◌≤◌, ◌<◌}
use mathlib.Core.Path.{◌≡◌, refl, sym, ◌∙◌}
use mathlib.Core.Bool.{Bool, true, false, cond, ◌&&◌, and-false}
use mathlib.Core.List.{List, [], ◌∷◌, ◌++◌, append_assoc, append-nil}
use mathlib.Core.Option.{none, some}
use native.Mathlib.Omega.{arith}
use native.Mathlib.Nat.{add-zero}
use lib.IntN.{pos}
use lib.Dec.{eqb}
use lib.ListN.{length, get_or}
use lib.Seq.{get_or-append-add}
use borrow.Author.Tests.{eq-eqb, ne_eqb, le-leb, lt-leb}
use Rattle.scan.proofs.Every.{both, by-test}
use Rattle.decimals.specs.declared.size.Size.{Size}
use Rattle.times.specs.declared.offset.TimingCtx.{TimingCtx}
use Rattle.track.specs.declared.strings.Span.{Span}
use Rattle.track.specs.Track.{Wrapper, Segments, no_segments, one_segment, segment_rows, is_bare_font, wrapped}
use Rattle.track.specs.Track as track
use Rattle.track.specs.Layout.{each, preorder, joined_cells, size_marks, font_cells, segment_cells, wrapper_of}
use Rattle.records.specs.Siblings.{row_cells, cells_of, Stands, later, Dropped}
use Rattle.records.proofs.SegmentRows.{rows-wrapped}
use Rattle.records.proofs.Standing.{stands_unwrap}
use Rattle.xml.specs.Reading.{Placed}
use Rattle.meaning.specs.Answers.{is}
use Rattle.meaning.specs.Nodes.{Attr}
use Rattle.meaning.specs.Kinds.{with_places}
use Rattle.meaning.specs.Tracks.{wrapper_by, segments_by}
use Rattle.meaning.specs.Styling.{is_modelled, wrappers_of}
use Rattle.meaning.specs.Inline.{span_of, paragraph_of, dissolved, counted}
use Rattle.meaning.specs.Cues.{styled}
use Rattle.inline.specs.Stood.{span_in, spans_in, texts_in}
use Rattle.inline.proofs.Spanning.{first_rows}
use Rattle.content.specs.Steps.{wrappers_by}
use Rattle.content.proofs.Standings.{rows-spans, spans-span, texts_stamped}
use Rattle.cues.specs.Steps.{is_bare, TellsBare, onward, Paragraphed, StyledGiven, dressing}
use Rattle.tree.specs.declared.answers.Refusal.{Refusal}

pub never : {A : Type 0} → false ≡ true → A
never e = absurd (let z : ◌≡◌ {A = ℕ} 0 1 = cc in omega arith)

-- ---- a wrapper's row

module _ (w : Wrapper Span) (n : ℕ) (l : List ℕ) where
  abbrev row : List ℕ
  row = segment_cells (wrapper_of w) n ++ l

-- a size has a sign, so that its marks are not zero
sign_some : (b : Bool) → 0 < cond b 2 1
sign_some true = omega arith
sign_some false = omega arith

marks_some : (family sign scale digits : ℕ) → 0 < sign → eqb (family + (sign * 2 + scale * 8 + digits * 128)) 0 ≡ false
marks_some family sign scale digits h = ne_eqb (family + (sign * 2 + scale * 8 + digits * 128)) 0 (λ e. omega arith)

sized : (family : ℕ) (s : Size) → eqb (family + size_marks true s) 0 ≡ false
unfolding size_marks
sized family s = marks_some family (cond s.negative 2 1) (s.scale % 16) (s.digits % 33554432) (sign_some s.negative)

row_read : (w : Wrapper Span) (n : ℕ) (l : List ℕ) → get_or (row w n l) 0 0 ≡ 9 → eqb (get_or (row w n l) 4 0) 0 ≡ is_bare_font w
unfolding segment_cells wrapper_of font_cells size_marks is_bare_font
row_read track.bold n l a = absurd (omega (arith, a))
row_read track.italic n l a = absurd (omega (arith, a))
row_read track.underline n l a = absurd (omega (arith, a))
row_read track.strike n l a = absurd (omega (arith, a))
row_read (track.color c) n l a = absurd (omega (arith, a))
row_read (track.font none none) n l a = refl
row_read (track.font none (some s)) n l a = sized 0 s
row_read (track.font (some x) none) n l a = refl
row_read (track.font (some x) (some s)) n l a = sized 1 s

row_other : (w : Wrapper Span) (n : ℕ) (l : List ℕ) → (get_or (row w n l) 0 0 ≡ 9 → ⊥) → is_bare_font w ≡ false
unfolding segment_cells wrapper_of font_cells is_bare_font
row_other track.bold n l h = refl
row_other track.italic n l h = refl
row_other track.underline n l h = refl
row_other track.strike n l h = refl
row_other (track.color c) n l h = refl
row_other (track.font none none) n l h = absurd (h refl)
row_other (track.font none (some s)) n l h = refl
row_other (track.font (some x) s) n l h = refl

-- ---- the first row of segments

abbrev cells : Segments Span → List ℕ → List ℕ
cells f rest = cells_of (preorder f) ++ rest

abbrev inner : Segments Span → Segments Span → List ℕ → List ℕ
inner c x rest = joined_cells row_cells (preorder c ++ preorder x) ++ rest

wrap-cells : (w : Wrapper Span) (c x : Segments Span) (rest : List ℕ) → cells (track.wrap w c x) rest ≡ row w (1 + segment_rows c) (inner c x rest)
unfolding preorder joined_cells
wrap-cells w c x rest = append_assoc (segment_cells (wrapper_of w) (1 + segment_rows c)) (joined_cells row_cells (preorder c ++ preorder x)) rest

first_read : (f : Segments Span) (rest : List ℕ) → one_segment f ≡ true → get_or (cells f rest) 0 0 ≡ 9 → eqb (get_or (cells f rest) 4 0) 0 ≡ is_bare f
unfolding preorder joined_cells segment_cells one_segment
first_read track.done rest o a = absurd (let z : ◌≡◌ {A = ℕ} 0 1 = cc in omega arith)
first_read (track.text s x) rest o a = absurd (omega (arith, a))
first_read (track.break x) rest o a = absurd (omega (arith, a))
first_read (track.timestamp z x) rest o a = absurd (omega (arith, a))
first_read (track.wrap w c x) rest o a =
    let n : ℕ = 1 + segment_rows c in
    let l : List ℕ = inner c x rest in
    rw (wrap-cells w c x rest, row_read w n l (rw (wrap-cells w c x rest) at a), o, and_right (is_bare_font w))
  where
    and_right : (b : Bool) → (b && true) ≡ b
    and_right true = refl
    and_right false = refl

first-other : (f : Segments Span) (rest : List ℕ) → (get_or (cells f rest) 0 0 ≡ 9 → ⊥) → false ≡ is_bare f
first-other track.done rest h = refl
first-other (track.text s x) rest h = refl
first-other (track.break x) rest h = refl
first-other (track.timestamp z x) rest h = refl
first-other (track.wrap w c x) rest h =
    rw (row_other w (1 + segment_rows c) (inner c x rest) (λ e. h (rw (wrap-cells w c x rest) e)))

not_one : (f : Segments Span) → one_segment f ≡ false → false ≡ is_bare f
unfolding one_segment
not_one track.done e = refl
not_one (track.text s x) e = refl
not_one (track.break x) e = refl
not_one (track.timestamp z x) e = refl
not_one (track.wrap w c x) e = rw e (sym (and-false (is_bare_font w)))

pub bare-none : (f : Segments Span) → segment_rows f ≡ 0 → false ≡ is_bare f
unfolding segment_rows
bare-none track.done h = refl
bare-none (track.text s x) h = refl
bare-none (track.break x) h = refl
bare-none (track.timestamp z x) h = refl
bare-none (track.wrap w c x) h = absurd (omega arith)

module _ (t pre rest : List ℕ) (f : Segments Span) (first end : ℕ) (l : length pre ≡ first * 6) (e : t ≡ pre ++ (cells_of (preorder f) ++ rest))
    (n : end ≡ first + segment_rows f) where
  cell : (j : ℕ) → get_or t (first * 6 + j) 0 ≡ get_or (cells f rest) j 0
  cell j = rw (e, ← l, get_or-append-add pre (cells f rest) j 0)

  cell-zero : get_or t (first * 6) 0 ≡ get_or (cells f rest) 0 0
  cell-zero = let k : first * 6 ≡ first * 6 + 0 = sym (add-zero (first * 6)) in rw k (cell 0)

  one_is : 0 < segment_rows f → eqb (get_or t (first * 6 + 1) 0) (segment_rows f) ≡ one_segment f
  one_is h = first_rows t pre rest f first end l e n h

  pub bare-more : 0 < segment_rows f → (get_or t (first * 6 + 1) 0 ≡ segment_rows f → ⊥) → false ≡ is_bare f
  bare-more h g = not_one f (sym (one_is h) ∙ ne_eqb (get_or t (first * 6 + 1) 0) (segment_rows f) g)

  pub bare-other : (get_or t (first * 6) 0 ≡ 9 → ⊥) → false ≡ is_bare f
  bare-other h = first-other f rest (λ g. h (cell-zero ∙ g))

  pub bare-read : 0 < segment_rows f → get_or t (first * 6 + 1) 0 ≡ segment_rows f → get_or t (first * 6) 0 ≡ 9
      → eqb (get_or t (first * 6 + 4) 0) 0 ≡ is_bare f
  bare-read h g a =
      let o : one_segment f ≡ true = sym (one_is h) ∙ rw g (same (segment_rows f)) in
      rw (cell 4) (first_read f rest o (sym cell-zero ∙ a))
    where
      same : (k : ℕ) → eqb k k ≡ true
      same k = eq-eqb k k refl

-- ---- a p

none-put : (ws : List (Wrapper Span)) (f : Segments Span) (first end : ℕ) → end ≡ first + segment_rows f → end ≡ first + segment_rows (wrapped ws f)
    → ws ≡ []
none-put [] f first end a b = refl
none-put (w ∷ ws) f first end a b = absurd (omega (arith, a, b, rows-wrapped (w ∷ ws) f))

onward-later : (end m : ℕ) (x : List ℕ) → end ≤ m → onward end m x ≡ later (m - end) x
onward-later end m x h = let e : end - m ≡ 0 = omega arith in rw e

no_more : (x : Segments Span) → no_segments x ≡ true → x ≡ track.done
unfolding no_segments
no_more track.done e = refl
no_more (track.text s x) e = absurd (let z : ◌≡◌ {A = ℕ} 0 1 = cc in omega arith)
no_more (track.break x) e = absurd (let z : ◌≡◌ {A = ℕ} 0 1 = cc in omega arith)
no_more (track.timestamp s x) e = absurd (let z : ◌≡◌ {A = ℕ} 0 1 = cc in omega arith)
no_more (track.wrap w c x) e = absurd (let z : ◌≡◌ {A = ℕ} 0 1 = cc in omega arith)

wrapped-none : (f : Segments Span) → wrapped [] f ≡ f
unfolding wrapped
wrapped-none f = refl

not_bare : (f : Segments Span) → is_bare f ≡ false → paragraph_of [] f ≡ f
unfolding paragraph_of
not_bare track.done e = refl
not_bare (track.text s x) e = refl
not_bare (track.break x) e = refl
not_bare (track.timestamp z x) e = refl
not_bare (track.wrap w c x) e = rw e

abbrev Puts : (first end m : ℕ) → List (Wrapper Span) → (t t' : List ℕ) → Type 0
Puts first end m ws t t' =
    (pre rest : List ℕ) (f : Segments Span) → Stands pre rest first end f t → Stands pre (later (m - end) rest) first m (wrapped ws f) t'

around : (w : Wrapper Span) (l : List (Wrapper Span)) (f : Segments Span) → paragraph_of (w ∷ l) f ≡ wrapped (w ∷ l) f
unfolding paragraph_of
around w l f = refl

full-of : (first end : ℕ) (l : List (Wrapper Span)) (f : Segments Span) → end ≤ 16384 → end ≡ first + segment_rows f
    → 16384 < first + segment_rows (wrapped l f) → 16384 < first + segment_rows (paragraph_of l f)
full-of first end [] f few e g = absurd (omega (arith, few, e, rw (wrapped-none f) at g))
full-of first end (w ∷ l) f few e g = rw (around w l f) g

more_of : (first end m : ℕ) (l : List (Wrapper Span)) (pre rest : List ℕ) (f : Segments Span) (t' : List ℕ) → end ≤ m → (m ≡ end → ⊥)
    → end ≡ first + segment_rows f → Stands pre (later (m - end) rest) first m (wrapped l f) t'
    → Stands pre (onward end m rest) first m (paragraph_of l f) t'
more_of first end m [] pre rest f t' h g e s = absurd (g (s.count ∙ rw (wrapped-none f) (sym e)))
more_of first end m (w ∷ l) pre rest f t' h g e s = rw (around w l f, onward-later end m rest h) s

-- what was put, where nothing was
put_none : (first end m : ℕ) (ws : List (Wrapper Span)) (pre rest : List ℕ) (f : Segments Span) (t t' : List ℕ) → m ≡ end
    → Stands pre rest first end f t → Stands pre (later (m - end) rest) first m (wrapped ws f) t' → (ws ≡ []) × Stands pre rest first end f t'
put_none first end m ws pre rest f t t' k s a =
    let e : ws ≡ [] = none-put ws f first end s.count (sym k ∙ a.count) in
    let z : end - end ≡ 0 = omega arith in
    (e, rw (e, wrapped-none f, k, z) at a)

unwrapped : (first end : ℕ) (pre rest : List ℕ) (f : Segments Span) (t t' : List ℕ) → Stands pre rest first end f t → is_bare f ≡ true
    → Dropped first end t t' → Stands pre (onward end (end - 1) rest) first (end - 1) (paragraph_of [] f) t'
unfolding paragraph_of segment_rows
unwrapped first end pre rest track.done t t' s b d = absurd (let z : ◌≡◌ {A = ℕ} 0 1 = cc in omega arith)
unwrapped first end pre rest (track.text x f) t t' s b d = absurd (let z : ◌≡◌ {A = ℕ} 0 1 = cc in omega arith)
unwrapped first end pre rest (track.break f) t t' s b d = absurd (let z : ◌≡◌ {A = ℕ} 0 1 = cc in omega arith)
unwrapped first end pre rest (track.timestamp x f) t t' s b d = absurd (let z : ◌≡◌ {A = ℕ} 0 1 = cc in omega arith)
unwrapped first end pre rest (track.wrap w c x) t t' s b d =
    let k : 0 < end = omega (arith, s.count) in
    let i : end - 1 - end ≡ 0 = omega arith in
    let j : end - (end - 1) ≡ 1 = omega (arith, k) in
    let o : x ≡ track.done = no_more x (both {a = is_bare_font w} b).1 in
    rw (b, i, j) (stands_unwrap pre rest first end w c t t' (rw o at s) d)

module _ (first end : ℕ) (ws : List (Wrapper Span)) (t t₁ : List ℕ) where
  pub par_full : end ≤ 16384
      → ((pre rest : List ℕ) (f : Segments Span) → Stands pre rest first end f t → 16384 < first + segment_rows (wrapped ws f))
      → Paragraphed first end ws t t₁ None
  par_full few h pre rest f s = full-of first end ws f few s.count (h pre rest f s)

  module _ (m : ℕ) (low : end ≤ m) (few : m ≤ 16384) (puts : Puts first end m ws t t₁) where
    pub par_more : (m ≡ end → ⊥) → Paragraphed first end ws t t₁ (Some m)
    par_more g = (few, λ pre rest f s. more_of first end m ws pre rest f t₁ low g s.count (puts pre rest f s))

    pub par_same : m ≡ end → TellsBare t₁ first end false → Paragraphed first end ws t t₁ (Some end)
    par_same k b = (
      omega (arith, k, few),
      λ pre rest f s.
          let a = put_none first end m ws pre rest f t t₁ k s (puts pre rest f s) in
          let n : is_bare f ≡ false = sym (b pre rest f a.1.before a.1.in_cells a.1.count) in
          let z : end - end ≡ 0 = omega arith in
          rw (a.0, not_bare f n, z) a.1,
    )

    pub par_drop : m ≡ end → TellsBare t₁ first end true → (t₂ : List ℕ) → Dropped first end t₁ t₂
        → Paragraphed first end ws t t₂ (Some (end - 1))
    par_drop k b t₂ d = (
      omega (arith, k, few),
      λ pre rest f s.
          let a = put_none first end m ws pre rest f t t₁ k s (puts pre rest f s) in
          let n : is_bare f ≡ true = sym (b pre rest f a.1.before a.1.in_cells a.1.count) in
          rw a.0 (unwrapped first end pre rest f t₁ t₂ a.1 n d),
    )

-- ---- by places and lengths

bare-by : (w : Wrapper Placed) → is_bare_font (wrapper_by span_in w) ≡ is_bare_font w
unfolding wrapper_by is_bare_font
bare-by track.bold = refl
bare-by track.italic = refl
bare-by track.underline = refl
bare-by track.strike = refl
bare-by (track.color c) = refl
bare-by (track.font none none) = refl
bare-by (track.font none (some s)) = refl
bare-by (track.font (some a) s) = refl

none-by : (x : Segments Placed) → no_segments (spans_in x) ≡ no_segments x
unfolding no_segments segments_by
none-by track.done = refl
none-by (track.text s x) = refl
none-by (track.break x) = refl
none-by (track.timestamp z x) = refl
none-by (track.wrap w c x) = refl

spans-dissolved : (f : Segments Placed) → dissolved (spans_in f) ≡ spans_in (dissolved f)
unfolding segments_by
spans-dissolved track.done = refl
spans-dissolved (track.text s x) = refl
spans-dissolved (track.break x) = refl
spans-dissolved (track.timestamp z x) = refl
spans-dissolved (track.wrap w c x) =
    by-test (is_bare_font w && no_segments x) (λ e. rw (bare-by w, none-by x, e)) (λ e. rw (bare-by w, none-by x, e))

spans-par : (l : List (Wrapper Placed)) (f : Segments Placed) → paragraph_of (wrappers_by l) (spans_in f) ≡ spans_in (paragraph_of l f)
unfolding paragraph_of span_of each
spans-par [] f = spans-dissolved f
spans-par (w ∷ l) f = spans-span (w ∷ l) f

no_texts : (x : Segments Placed) → no_segments x ≡ true → texts_in x ≡ []
unfolding no_segments texts_in
no_texts track.done e = refl
no_texts (track.text s x) e = never e
no_texts (track.break x) e = never e
no_texts (track.timestamp s x) e = never e
no_texts (track.wrap w c x) e = never e

texts_dissolved : (f : Segments Placed) → texts_in (dissolved f) ≡ texts_in f
unfolding texts_in
texts_dissolved track.done = refl
texts_dissolved (track.text s x) = refl
texts_dissolved (track.break x) = refl
texts_dissolved (track.timestamp z x) = refl
texts_dissolved (track.wrap w c x) =
    by-test (is_bare_font w && no_segments x)
    (λ e. rw (e, no_texts x (both {a = is_bare_font w} e).1) (sym (append-nil (texts_in c)))) (λ e. rw e)

texts_par : (l : List (Wrapper Placed)) (f : Segments Placed) → texts_in (paragraph_of l f) ≡ texts_in f
unfolding paragraph_of span_of
texts_par [] f = texts_dissolved f
texts_par (w ∷ l) f = texts_stamped false (pos 0) (w ∷ l) f

-- ---- what a p's attributes make of its content

wrap-given : (ws : List (Wrapper Placed)) (place first end : ℕ) (s s' : List ℕ) (a : Option ℕ) → Paragraphed first end (wrappers_by ws) s s' a
    → StyledGiven (λ f. counted place first (paragraph_of ws f)) first end s s' (ok_or a (record { number = 13; place = place }))
wrap-given ws place first end s s' (Some m) h =
    λ pre rest f x.
    let r = rw (spans-par ws f) at (h.1 pre rest (spans_in f) x) in
    let n : first + segment_rows (paragraph_of ws f) ≤ 16384 = omega (arith, h.0, r.count, rows-spans (paragraph_of ws f)) in
    record {
      few = h.0;
      segments = paragraph_of ws f;
      means = rw (le-leb (first + segment_rows (paragraph_of ws f)) 16384 n);
      same = texts_par ws f;
      rows = r;
    }
wrap-given ws place first end s s' None h =
    λ pre rest f x.
    let r = rw (spans-par ws f, rows-spans (paragraph_of ws f)) at (h pre rest (spans_in f) x) in
    rw (lt-leb (first + segment_rows (paragraph_of ws f)) 16384 r)

pub wrap-dressed : (l : List (Attr Placed)) (ws : List (Wrapper Placed)) (place first end : ℕ) (s s' : List ℕ) (a : Option ℕ)
    → is ws ≡ wrappers_of with_places l → Paragraphed first end (wrappers_by ws) s s' a
    → StyledGiven (dressing place first l) first end s s' (ok_or a (record { number = 13; place = place }))
wrap-dressed l ws place first end s s' (Some m) e h =
    λ pre rest f x.
    let g = wrap-given ws place first end s s' (Some m) h pre rest f x in
    record { few = g.few; segments = g.segments; means = rw (← e) g.means; same = g.same; rows = g.rows }
wrap-dressed l ws place first end s s' None e h = λ pre rest f x. rw (← e) (wrap-given ws place first end s s' None h pre rest f x)

styled-dressing : (ctx : TimingCtx) (place made : ℕ) (l : List (Attr Placed)) (f : Segments Placed) → is_modelled with_places l ≡ true
    → styled with_places ctx place made l f ≡ dressing place made l f
unfolding styled
styled-dressing ctx place made l f e = rw (e, styled)

styled-plain : (ctx : TimingCtx) (place made : ℕ) (l : List (Attr Placed)) (f : Segments Placed) → is_modelled with_places l ≡ false
    → styled with_places ctx place made l f ≡ is f
unfolding styled
styled-plain ctx place made l f e = rw (e, styled)

module _ (ctx : TimingCtx) (place first end : ℕ) (l : List (Attr Placed)) (s : List ℕ) where
  pub styled-some : is_modelled with_places l ≡ true → (s' : List ℕ) (r : Result ℕ Refusal) → StyledGiven (dressing place first l) first end s s' r
      → StyledGiven (styled with_places ctx place first l) first end s s' r
  styled-some e s' (Ok n) h = λ pre rest f x.
      let g = h pre rest f x in
      record {
        few = g.few;
        segments = g.segments;
        means = styled-dressing ctx place first l f e ∙ g.means;
        same = g.same;
        rows = g.rows;
      }
  styled-some e s' (Err q) h = λ pre rest f x. styled-dressing ctx place first l f e ∙ h pre rest f x

  pub styled-none : is_modelled with_places l ≡ false → end ≤ 16384 → StyledGiven (styled with_places ctx place first l) first end s s (Ok end)
  styled-none e few = λ pre rest f x.
      let z : end - end ≡ 0 = omega arith in
      record { few = few; segments = f; means = styled-plain ctx place first l f e; same = refl; rows = rw z x }
