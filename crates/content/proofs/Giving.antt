-- What texts, breaks and spans give, from what the writers of rows and texts ensure. Assumes nothing.
--     add_given                       a row more
--     text-none, text-some            a text that is left empty, and another
--     ended-standing, break-given     what a break trims, and the break
--     span-given                      a span
--     around_is                       the wrappers of an element as they are put around rows
use Rattle.std.specs.Prelude.{Option, Some, None, Result, Ok}
use Prim.Native.Nat.{ℕ, ◌+◌, ◌-◌, ◌≤◌}
use mathlib.Core.Path.{◌≡◌, refl, sym, ap, ◌∙◌}
use mathlib.Core.Bool.{Bool, true, false, ◌||◌}
use mathlib.Core.List.{List, [], ◌∷◌, ◌++◌, append-nil}
use mathlib.Core.Option.{none, some}
use native.Mathlib.Omega.{arith}
use native.Mathlib.Nat.{add-zero}
use lib.IntN.{ℤ}
use lib.ListN.{length}
use lib.Seq.{sets}
use Rattle.decimals.specs.declared.size.Size.{Size}
use Rattle.track.specs.declared.strings.Span.{Span}
use Rattle.track.specs.declared.segments.Rgb.{Rgb}
use Rattle.track.specs.declared.segments.Segment.{Segment}
use Rattle.track.specs.Track.{Wrapper, Segments, segment_rows, joined}
use Rattle.track.specs.Track as track
use Rattle.track.specs.Meaning.{given}
use Rattle.track.specs.Layout.{preorder, each, segment_cells}
use Rattle.track.proofs.SegmentsLaid.{rows-many}
use Rattle.records.specs.Find.{is_empty}
use Rattle.records.specs.Posts.{AddPost}
use Rattle.records.specs.Siblings.{Stands, Room, later}
use Rattle.records.proofs.Beside.{each_append}
use Rattle.records.proofs.SegmentRows.{joined-done, text-one, break-one}
use Rattle.records.proofs.Standing.{stands_room, stands_add}
use Rattle.xml.specs.Reading.{Placed, lay}
use Rattle.xml.proofs.PassForests.{string_long}
use Rattle.meaning.specs.Tracks.{wrapper_by, segments_by}
use Rattle.meaning.specs.Kinds.{with_places}
use Rattle.meaning.specs.Space.{Space, collapse, preserve, white, Before, last_of, text_in_of, ended, trimmed_space}
use Rattle.meaning.specs.Styling.{wrap_if, font_wrap}
use Rattle.meaning.specs.Inline.{text_segment, span_of}
use Rattle.styling.specs.declared.space.WsMode.{WsMode}
use Rattle.styling.specs.declared.wrap.Wrappers as read
use Rattle.styling.specs.Posts.{space_in, color_if, font_in, wrappers_in}
use Rattle.styling.specs.Posts as posts
use Rattle.inline.specs.declared.collapse.Collapsed.{Collapsed}
use Rattle.inline.specs.Texts.{edge, Written}
use Rattle.inline.specs.Wraps.{wrappers_from, stamped_if, Spanned}
use Rattle.inline.specs.Stood.{span_in, spans_in, texts_in, Laid}
use Rattle.inline.proofs.TrimSegments.{order_trimmed}
use Rattle.inline.proofs.TrimStands.{trim_stands}
use Rattle.content.specs.Steps.{Wide, Frame, Standing, added_in, Given, Ends, wrappers_by}
use Rattle.tree.specs.declared.answers.Refusal.{Refusal}
use Rattle.content.specs.declared.collect.Run.{Run}
use Rattle.content.proofs.Standings.{
  rows-spans,
  rows-together,
  spans-joined,
  spans-span,
  spans-stamped,
  texts_joined,
  texts_stamped,
  ordered_of,
  in_turn_of,
  laid-of,
  laid-order,
  laid-text,
  laid_same,
  later-to,
  later-one,
  standing-count,
  standing-higher,
}

-- ---- a row more

module _ (sg : Segment) (h : Segments Placed) (one : preorder (spans_in h) ≡ record { segment = sg; rows = 1 } ∷ []) where
  one_row : segment_rows h ≡ 1
  one_row = sym (rows-spans h) ∙ sym (rows-many (spans_in h)) ∙ ap length one

  -- the segments are changed by ψ first, then the row is added
  pub add_given : (place first n hi hi' : ℕ) (flag : Bool) (ψ : Segments Placed → Segments Placed) (s s₁ s' y y' : List ℕ) → Wide s₁
      → ((w : Frame) (f : Segments Placed) → Standing w hi first n f s y
      → Stands w.pre (later (n - first) w.rest) first n (spans_in (ψ f)) s₁ × Laid (joined (ψ f) h) [] w.base y' w.lo hi')
      → (a : Option ℕ) → AddPost 16384 6 (segment_cells sg 1) s₁ s' n a
      → Given place first n hi hi' flag (λ f. joined (ψ f) h) s y s' y' (added_in a flag place)
  add_given place first n hi hi' flag ψ s s₁ s' y y' wide at (Some m) a = (
    omega (arith, a.0, a.1),
    refl,
    λ w f x.
        let r = at w f x in
        let rest = later (n - first) w.rest in
        let room : Room 1 rest = stands_room w.pre rest first n (spans_in (ψ f)) s₁ r.0 1 (omega (arith, a.0)) in
        let st : Stands w.pre (later 1 rest) first (n + 1) (joined (spans_in (ψ f)) (spans_in h)) s' =
        stands_add w.pre rest first n (spans_in (ψ f)) s₁ r.0 s' (spans_in h) (record { segment = sg; rows = 1 }) one room a.2 in
        record {
          rows = rw (later-one first n m w.rest (omega (arith, r.0.count)) a.1, spans-joined (ψ f) h, ← a.1) at st;
          texts = r.1;
        },
  )
  add_given place first n hi hi' flag ψ s s₁ s' y y' wide at None a = (
    refl,
    refl,
    λ w f x.
        let r = at w f x in
        omega (arith, a.0, r.0.count, rows-spans (ψ f), rows-together (ψ f) h, one_row),
  )

-- ---- a text

-- something stands before it that is a boundary, or not
pub some_before : (b : Bool) → (before : Before) × (b ≡ edge before)
unfolding white
some_before true = (none, refl)
some_before false = (some 65, refl)

none_of : (l : List ℕ) → length l ≡ 0 → l ≡ []
none_of [] e = refl
none_of (x ∷ l) e = absurd (omega arith)

some_of : (l : List ℕ) → (length l ≡ 0 → ⊥) → is_empty l ≡ false
some_of [] h = absurd (h refl)
some_of (x ∷ l) h = refl

text-is : (sp : Space) (before : Before) (p : ℕ) (b : List ℕ) → let x : Placed = record { place = p; bytes = b } in
    text_in_of with_places sp before x ≡ record { place = p; bytes = (text_in_of with_places sp before x).bytes }
unfolding text_in_of
text-is collapse before p b = rw (add-zero p)
text-is preserve before p b = refl

module _ (sp : Space) (before : Before) (p m : ℕ) (b : List ℕ) (place first n hi : ℕ) (s y y' : List ℕ) (c : Collapsed) where
  abbrev whole : Placed
  whole = record { place = p; bytes = b }

  abbrev left : List ℕ
  left = (text_in_of with_places sp before whole).bytes

  module _ (low : hi ≤ p) (room : p + m ≤ length y) (short : length b ≤ m) (wr : Written left b before p y y' c) where
    abbrev gives : (s' : List ℕ) → Result Run Refusal → Type 0
    gives s' r =
        Given place first n hi (p + m) (edge (last_of before b)) (λ f. joined f (text_segment with_places
        (text_in_of with_places sp before whole))) s y s' y' r

    pub text-none : n ≤ 16384 → c.len ≡ 0 → gives s (Ok (record { rows = n; boundary = c.boundary }))
    text-none few e =
        let none : left ≡ [] = none_of left (sym wr.long ∙ e) in
        let same : y' ≡ y = wr.laid ∙ ap (sets y p) none in
        let segment : text_segment with_places (text_in_of with_places sp before whole) ≡ track.done = rw none in
        (few, wr.flag, λ w f x. rw (same, segment, joined-done f) (standing-higher x (p + m) (omega arith) room))

    pub text-some : (c.len ≡ 0 → ⊥) → (s' : List ℕ) → Wide s → (a : Option ℕ)
        → let sg : Segment = Segment.Text (record { place = p; len = c.len }) in
        AddPost 16384 6 (segment_cells sg 1) s s' n a → gives s' (added_in a c.boundary place)
    unfolding segments_by
    text-some e s' wide a u =
        let some : is_empty left ≡ false = some_of left (λ h. e (wr.long ∙ h)) in
        let x : Placed = record { place = p; bytes = left } in
        let segment : text_segment with_places (text_in_of with_places sp before whole) ≡ track.text x track.done = rw some (rw (text-is sp before p b)) in
        let one : preorder (spans_in (track.text x track.done)) ≡ record {
          segment = Segment.Text
              (record { place = p; len = c.len });
          rows = 1;
        } ∷ [] =
        text-one (span_in x) ∙ rw wr.long in
        let short' : length left ≤ m = omega (arith, wr.long, wr.within) in
        rw (segment, ← wr.flag)
        (add_given (Segment.Text (record { place = p; len = c.len })) (track.text x track.done) one place first n hi (p + m) c.boundary
        (λ f. f) s s s' y y' wide (λ w f h. (h.rows, rw wr.laid (laid-text h.texts p m left low short' room))) a u)

-- ---- a break

pub ended-standing : (ws : WsMode) (hi first n : ℕ) (t t' y y' : List ℕ) → Ends ws first n t y t' y'
    → (w : Frame) (f : Segments Placed) → Standing w hi first n f t y → Standing w hi first n (ended with_places (space_in ws) f) t' y'
ended-standing WsMode.Collapse hi first n t t' y y' e w f h =
    let rest = later (n - first) w.rest in
    let r = e.1 w.pre rest f [] w.base w.lo hi h.rows.before h.rows.in_cells h.rows.count h.texts in
    let o = order_trimmed f w.lo hi (ordered_of (texts_in f) w.lo hi (laid-order h.texts)) in
    record {
      rows = trim_stands w.pre rest first n f t h.rows [] w.base y t' y' w.lo hi e.0 h.texts e.1;
      texts = laid-of (r.1 ∙ ap (lay w.base) (append-nil (texts_in (trimmed_space with_places f))))
          (in_turn_of (texts_in (trimmed_space with_places f)) w.lo hi o) h.texts.room h.texts.blank;
    }
ended-standing WsMode.Preserve hi first n t t' y y' e w f h = rw (e.0, e.1) h

break-texts : (f : Segments Placed) → texts_in (joined f (track.break track.done)) ≡ texts_in f
unfolding texts_in
break-texts f = texts_joined f (track.break track.done) ∙ append-nil (texts_in f)

pub break-given : (ws : WsMode) (place hi first n : ℕ) (t t₁ t' y y' : List ℕ) → Ends ws first n t y t₁ y' → Wide t₁ → (a : Option ℕ)
    → AddPost 16384 6 (segment_cells Segment.Break 1) t₁ t' n a
    → Given place first n hi hi true (λ f. joined (ended with_places (space_in ws) f) (track.break track.done)) t y t' y' (added_in a true place)
unfolding segments_by
break-given ws place hi first n t t₁ t' y y' e wide a b =
    add_given Segment.Break (track.break track.done) break-one place first n hi hi true (λ f. ended with_places (space_in ws) f) t t₁ t' y y' wide
    (λ w f h.
    let g = ended-standing ws hi first n t t₁ y y' e w f h in
    (g.rows, laid_same (break-texts (ended with_places (space_in ws) f)) g.texts))
    a b

-- ---- a span

pub span-given : (ws : List (Wrapper Placed)) (place first n hi : ℕ) (flag stamp : Bool) (z : ℤ) (s s' y : List ℕ) (a : Option ℕ)
    → Spanned first n stamp z (wrappers_by ws) s s' a
    → Given place first n hi hi flag (λ c. stamped_if stamp z (span_of ws c)) s y s' y (added_in a flag place)
span-given ws place first n hi flag stamp z s s' y (Some m) h = (
  h.1,
  refl,
  λ w c x.
      let rest = later (n - first) w.rest in
      let st = h.2 w.pre rest (spans_in c) x.rows in
      record {
        rows = rw (
          later-to first n m w.rest (omega (arith, standing-count x)) h.0,
          spans-span ws c,
          spans-stamped stamp z (span_of ws c),
        ) at st;
        texts = laid_same (texts_stamped stamp z ws c) x.texts;
      },
)
span-given ws place first n hi flag stamp z s s' y None h = (
  refl,
  refl,
  λ w c x.
      let m = h.1 w.pre (later (n - first) w.rest) (spans_in c) x.rows in
      omega (arith, rw (spans-span ws c, spans-stamped stamp z (span_of ws c), rows-spans (stamped_if stamp z (span_of ws c))) at m),
)

-- ---- wrappers

module _ (z : List ℕ) where
  font-same : (a b : Bool) (p n : ℕ) (size : Size) → p + n ≤ length z
      → wrap_if (a || b) (track.font (given a (record { place = p; len = n })) (given b size))
      ≡ wrappers_by (font_wrap (posts.given a (posts.span_in z (record { place = p; len = n }))) (posts.given b size))
  unfolding each wrapper_by
  font-same true true p n size h = rw (string_long z p n h)
  font-same true false p n size h = rw (string_long z p n h)
  font-same false true p n size h = refl
  font-same false false p n size h = refl

  color-same : (b : Bool) (c : Rgb) → wrap_if b (track.color c) ≡ wrappers_by (color_if b c)
  unfolding each wrapper_by
  color-same true c = refl
  color-same false c = refl

  if_same : (b : Bool) (x : Wrapper Span) (y : Wrapper Placed) → x ≡ wrapper_by span_in y → wrap_if b x ≡ wrappers_by (wrap_if b y)
  unfolding each
  if_same true x y e = rw e
  if_same false x y e = refl

  six : (a b c d e f : List (Wrapper Placed))
      → wrappers_by (a ++ b ++ c ++ d ++ e ++ f) ≡ wrappers_by a ++ wrappers_by b ++ wrappers_by c ++ wrappers_by d ++ wrappers_by e ++ wrappers_by f
  six a b c d e f =
      let v = wrapper_by span_in in
      rw (
        each_append v (a ++ b ++ c ++ d ++ e) f,
        each_append v (a ++ b ++ c ++ d) e,
        each_append v (a ++ b ++ c) d,
        each_append v (a ++ b) c,
        each_append v a b,
      )

  pub around_is : (w : read.Wrappers) (b : Bool) → b ≡ (w.font.has_family || w.font.has_size)
      → w.font.family.place + w.font.family.len ≤ length z
      → wrappers_from (record {
        has_font = b;
        font = w.font;
        has_color = w.has_color;
        color = w.color;
        strike = w.strike;
        underline = w.underline;
        italic = w.italic;
        bold = w.bold;
      })
      ≡ wrappers_by (wrappers_in z w)
  unfolding wrappers_from wrapper_by
  around_is w b e h =
      let font = w.font in
      rw (
        six (font_in z font) (color_if w.has_color w.color) (wrap_if w.strike track.strike) (wrap_if w.underline track.underline)
            (wrap_if w.italic track.italic) (wrap_if w.bold track.bold),
        e,
        font-same font.has_family font.has_size font.family.place font.family.len font.size h,
        color-same w.has_color w.color,
        if_same w.strike track.strike track.strike refl,
        if_same w.underline track.underline track.underline refl,
        if_same w.italic track.italic track.italic refl,
        if_same w.bold track.bold track.bold refl,
      )
