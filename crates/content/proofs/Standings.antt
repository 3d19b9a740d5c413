-- Segments that stand with their texts: more of them, and lists of their own. Assumes nothing.
--     spans-joined, rows-spans, rows-together, spans-span      segments by places and lengths
--     texts_joined, texts_span, texts_stamped                  the texts of segments
--     laid-is, laid-order, laid-long, laid-text                what `Laid` says where nothing follows; a text more
--     standing-count, standing-higher, standing-low            what stands, in rows and bytes
--     standing-own, standing-join                              a list of its own, after what stands; with it
use Prim.Native.Nat.{ℕ, ◌+◌, ◌-◌, ◌*◌, ◌≤◌}
use mathlib.Core.Path.{◌≡◌, refl, sym, ap, ◌∙◌}
use mathlib.Core.Bool.{Bool, true, false}
use mathlib.Core.List.{List, [], ◌∷◌, ◌++◌, append_assoc, append-nil}
use native.Mathlib.Omega.{arith}
use lib.IntN.{ℤ}
use lib.ListN.{length}
use lib.Seq.{sets, drop-drop}
use Rattle.scan.proofs.Every.{by-test}
use Rattle.track.specs.declared.strings.Span.{Span}
use Rattle.track.specs.Track.{Wrapper, Segments, segment_rows, no_segments, one_segment, joined, wrapped}
use Rattle.track.specs.Track as track
use Rattle.track.specs.Layout.{each}
use Rattle.records.specs.Siblings.{Stands, later, and_these}
use Rattle.records.proofs.SegmentRows.{rows-joined}
use Rattle.records.proofs.Standing.{stands_none, stands_join}
use Rattle.xml.specs.Reading.{Placed, lay}
use Rattle.xml.proofs.Lays.{Ordered, lay-length, lay-append}
use Rattle.meaning.specs.Tracks.{wrapper_by, segments_by}
use Rattle.meaning.specs.Inline.{span_of}
use Rattle.inline.specs.Wraps.{stamped_if}
use Rattle.inline.specs.Stood.{spans_in, texts_in, Blank, InTurn, Laid}
use Rattle.inline.proofs.TrimTexts.{lay-blank}
use Rattle.content.specs.Steps.{Frame, Standing, wrappers_by}

-- ---- by places and lengths

pub spans-joined : (f g : Segments Placed) → joined (spans_in f) (spans_in g) ≡ spans_in (joined f g)
unfolding joined segments_by
spans-joined track.done g = refl
spans-joined (track.text s x) g = rw (spans-joined x g)
spans-joined (track.break x) g = rw (spans-joined x g)
spans-joined (track.timestamp z x) g = rw (spans-joined x g)
spans-joined (track.wrap w c x) g = rw (spans-joined x g)

pub rows-spans : (f : Segments Placed) → segment_rows (spans_in f) ≡ segment_rows f
unfolding segment_rows segments_by
rows-spans track.done = refl
rows-spans (track.text s x) = rw (rows-spans x)
rows-spans (track.break x) = rw (rows-spans x)
rows-spans (track.timestamp z x) = rw (rows-spans x)
rows-spans (track.wrap w c x) = rw (rows-spans c, rows-spans x)

pub rows-together : (f g : Segments Placed) → segment_rows (joined f g) ≡ segment_rows f + segment_rows g
rows-together f g =
    sym (rows-spans (joined f g)) ∙ ap segment_rows (sym (spans-joined f g)) ∙ rows-joined (spans_in f) (spans_in g)
    ∙ rw (rows-spans f, rows-spans g)

none-spans : (f : Segments Placed) → no_segments (spans_in f) ≡ no_segments f
unfolding no_segments segments_by
none-spans track.done = refl
none-spans (track.text s x) = refl
none-spans (track.break x) = refl
none-spans (track.timestamp z x) = refl
none-spans (track.wrap w c x) = refl

one_spans : (f : Segments Placed) → one_segment (spans_in f) ≡ one_segment f
unfolding one_segment segments_by
one_spans track.done = refl
one_spans (track.text s x) = none-spans x
one_spans (track.break x) = none-spans x
one_spans (track.timestamp z x) = none-spans x
one_spans (track.wrap w c x) = none-spans x

wrapped-spans : (l : List (Wrapper Placed)) (f : Segments Placed) → wrapped (wrappers_by l) (spans_in f) ≡ spans_in (wrapped l f)
unfolding wrapped segments_by each
wrapped-spans [] f = refl
wrapped-spans (w ∷ l) f = rw (wrapped-spans l f)

pub spans-span : (l : List (Wrapper Placed)) (f : Segments Placed) → span_of (wrappers_by l) (spans_in f) ≡ spans_in (span_of l f)
unfolding span_of each segments_by wrapper_by
spans-span [] f = by-test (one_segment f) (λ e. rw (one_spans f, e)) (λ e. rw (one_spans f, e))
spans-span (w ∷ l) f = wrapped-spans (w ∷ l) f

pub spans-stamped : (b : Bool) (z : ℤ) (f : Segments Placed) → stamped_if b z (spans_in f) ≡ spans_in (stamped_if b z f)
unfolding segments_by
spans-stamped true z f = refl
spans-stamped false z f = refl

-- ---- their texts

pub texts_joined : (f g : Segments Placed) → texts_in (joined f g) ≡ texts_in f ++ texts_in g
unfolding joined texts_in
texts_joined track.done g = refl
texts_joined (track.text s x) g = rw (texts_joined x g)
texts_joined (track.break x) g = texts_joined x g
texts_joined (track.timestamp z x) g = texts_joined x g
texts_joined (track.wrap w c x) g = rw (texts_joined x g) (sym (append_assoc (texts_in c) (texts_in x) (texts_in g)))

texts_wrapped : (l : List (Wrapper Placed)) (f : Segments Placed) → texts_in (wrapped l f) ≡ texts_in f
unfolding wrapped texts_in
texts_wrapped [] f = refl
texts_wrapped (w ∷ l) f = rw (texts_wrapped l f) (append-nil (texts_in f))

texts_span : (l : List (Wrapper Placed)) (f : Segments Placed) → texts_in (span_of l f) ≡ texts_in f
unfolding span_of texts_in
texts_span [] f = by-test (one_segment f) (λ e. rw e) (λ e. rw e (append-nil (texts_in f)))
texts_span (w ∷ l) f = texts_wrapped (w ∷ l) f

pub texts_stamped : (b : Bool) (z : ℤ) (l : List (Wrapper Placed)) (f : Segments Placed) → texts_in (stamped_if b z (span_of l f)) ≡ texts_in f
unfolding texts_in
texts_stamped true z l f = texts_span l f
texts_stamped false z l f = texts_span l f

-- ---- strings in turn

turn-whole : (l : List Placed) (lo hi : ℕ) → InTurn lo l hi → lo ≤ hi
turn-whole [] lo hi o = o
turn-whole (x ∷ l) lo hi o = omega (arith, o.0, turn-whole l (x.place + length x.bytes) hi o.1)

turn-lower : (l : List Placed) (lo m hi : ℕ) → lo ≤ m → InTurn m l hi → InTurn lo l hi
turn-lower [] lo m hi h o = omega arith
turn-lower (x ∷ l) lo m hi h o = (omega (arith, o.0), o.1)

turn-higher : (l : List Placed) (lo m hi : ℕ) → m ≤ hi → InTurn lo l m → InTurn lo l hi
turn-higher [] lo m hi h o = omega arith
turn-higher (x ∷ l) lo m hi h o = (o.0, turn-higher l (x.place + length x.bytes) m hi h o.1)

turn-append : (a b : List Placed) (lo m hi : ℕ) → InTurn lo a m → InTurn m b hi → InTurn lo (a ++ b) hi
turn-append [] b lo m hi o u = turn-lower b lo m hi o u
turn-append (x ∷ a) b lo m hi o u = (o.0, turn-append a b (x.place + length x.bytes) m hi o.1 u)

pub ordered_of : (l : List Placed) (lo hi : ℕ) → InTurn lo l hi → Ordered lo l hi
ordered_of [] lo hi o = o
ordered_of (x ∷ l) lo hi o = (o.0, ordered_of l (x.place + length x.bytes) hi o.1)

pub in_turn_of : (l : List Placed) (lo hi : ℕ) → Ordered lo l hi → InTurn lo l hi
in_turn_of [] lo hi o = o
in_turn_of (x ∷ l) lo hi o = (o.0, in_turn_of l (x.place + length x.bytes) hi o.1)

-- ---- texts laid, and nothing after them

pub laid-of : {f : Segments Placed} {base y : List ℕ} {lo hi : ℕ} → y ≡ lay base (texts_in f) → InTurn lo (texts_in f) hi → hi ≤ length base
    → Blank base lo → Laid f [] base y lo hi
laid-of {f} {base} e o r b = record {
  is = e ∙ ap (lay base) (sym (append-nil (texts_in f)));
  order = rw (append-nil (texts_in f)) o;
  room = r;
  blank = b;
}

pub laid-is : {f : Segments Placed} {base y : List ℕ} {lo hi : ℕ} → Laid f [] base y lo hi → y ≡ lay base (texts_in f)
laid-is {f} {base} h = h.is ∙ ap (lay base) (append-nil (texts_in f))

pub laid-order : {f : Segments Placed} {base y : List ℕ} {lo hi : ℕ} → Laid f [] base y lo hi → InTurn lo (texts_in f) hi
laid-order {f} h = rw (append-nil (texts_in f)) at h.order

module _ {f : Segments Placed} {base y : List ℕ} {lo hi : ℕ} (h : Laid f [] base y lo hi) where
  pub laid-long : length y ≡ length base
  laid-long = ap length (laid-is h) ∙ lay-length (texts_in f) base

  pub laid-blank : Blank y hi
  laid-blank = rw (laid-is h) (lay-blank (texts_in f) base lo hi (ordered_of (texts_in f) lo hi (laid-order h)) h.blank)

  pub laid-higher : (m : ℕ) → hi ≤ m → m ≤ length y → Laid f [] base y lo m
  laid-higher m g r = laid-of (laid-is h) (turn-higher (texts_in f) lo hi m g (laid-order h)) (omega (arith, laid-long)) h.blank

  -- none yet, after these
  pub laid-own : Laid track.done [] y y hi hi
  unfolding texts_in lay
  laid-own = record { is = refl; order = omega arith; room = omega (arith, laid-long, h.room); blank = laid-blank }

  -- those after these, with them
  pub laid-join : (g : Segments Placed) (y' : List ℕ) (m : ℕ) → Laid g [] y y' hi m → Laid (joined f g) [] base y' lo m
  laid-join g y' m k =
      let is : y' ≡ lay base (texts_in f ++ texts_in g) =
      laid-is k ∙ ap (λ (b : List ℕ). lay b (texts_in g)) (laid-is h) ∙ sym (lay-append (texts_in f) (texts_in g) base) in
      laid-of (is ∙ ap (lay base) (sym (texts_joined f g)))
      (rw (texts_joined f g) (turn-append (texts_in f) (texts_in g) lo hi m (laid-order h) (laid-order k))) (omega (arith, laid-long, k.room))
      h.blank

  -- a text more, at p, which may be longer by then than what is written
  pub laid-text : (p n : ℕ) (b : List ℕ) → hi ≤ p → length b ≤ n → p + n ≤ length y
      → Laid (joined f (track.text (record { place = p; bytes = b }) track.done)) [] base (sets y p b) lo (p + n)
  unfolding texts_in lay
  laid-text p n b a c d =
      laid-join (track.text (record { place = p; bytes = b }) track.done) (sets y p b) (p + n)
      (record { is = refl; order = (a, omega arith); room = d; blank = laid-blank })

-- other segments with the same texts
pub laid_same : {f g : Segments Placed} {base y : List ℕ} {lo hi : ℕ} → texts_in f ≡ texts_in g → Laid g [] base y lo hi → Laid f [] base y lo hi
laid_same e h = record { is = rw e h.is; order = rw e h.order; room = h.room; blank = h.blank }

-- ---- the rest of the table

later-later : (a b : ℕ) (r : List ℕ) → later a (later b r) ≡ later (b + a) r
later-later a b r =
    let e : b * 6 + a * 6 ≡ (b + a) * 6 = omega arith in
    rw (drop-drop (a * 6) (b * 6) r, e)

pub later-to : (first n m : ℕ) (r : List ℕ) → first ≤ n → n ≤ m → later (m - n) (later (n - first) r) ≡ later (m - first) r
later-to first n m r h g =
    let e : n - first + (m - n) ≡ m - first = omega arith in
    later-later (m - n) (n - first) r ∙ ap (λ k. later k r) e

pub later-one : (first n m : ℕ) (r : List ℕ) → first ≤ n → m ≡ n + 1 → later 1 (later (n - first) r) ≡ later (m - first) r
later-one first n m r h g =
    let e : n - first + 1 ≡ m - first = omega arith in
    later-later 1 (n - first) r ∙ ap (λ k. later k r) e

stands_again : {pre rest s : List ℕ} {n : ℕ} {f : Segments Span} → Stands pre rest n n f s → Stands pre (later (n - n) rest) n n f s
stands_again {pre} {rest} {s} {n} {f} h =
    let e : n - n ≡ 0 = omega arith in
    rw e (record { count = h.count; before = h.before; in_cells = h.in_cells })

-- ---- what stands

module _ {w : Frame} {hi first n : ℕ} {f : Segments Placed} {s y : List ℕ} (h : Standing w hi first n f s y) where
  pub standing-count : n ≡ first + segment_rows f
  standing-count = h.rows.count ∙ ap (λ k. first + k) (rows-spans f)

  pub standing-higher : (m : ℕ) → hi ≤ m → m ≤ length y → Standing w m first n f s y
  standing-higher m g r = record { rows = h.rows; texts = laid-higher h.texts m g r }

  -- a list of its own, after these, of strings up to `limit`
  abbrev pub own_frame : ℕ → Frame
  own_frame limit = record { pre = and_these w.pre (spans_in f); rest = later (n - first) w.rest; base = y; lo = hi; limit = limit }

  pub standing-own : (limit : ℕ) → Standing (own_frame limit) hi n n track.done s y
  unfolding segments_by
  standing-own limit = record {
    rows = stands_again (stands_none w.pre (later (n - first) w.rest) first n (spans_in f) s h.rows);
    texts = laid-own h.texts;
  }

  pub standing-join : (limit m hi' : ℕ) (g : Segments Placed) (s' y' : List ℕ) → n ≤ m → Standing (own_frame limit) hi' n m g s' y'
      → Standing w hi' first m (joined f g) s' y'
  standing-join limit m hi' g s' y' k j =
      let a : Stands w.pre (later (m - n) (later (n - first) w.rest)) first m (joined (spans_in f) (spans_in g)) s' =
      stands_join w.pre (later (n - first) w.rest) first n (spans_in f) s h.rows (later (m - n) (later (n - first) w.rest)) m
      (spans_in g) s'
      j.rows in
      record {
        rows = rw (later-to first n m w.rest (omega (arith, standing-count)) k, spans-joined f g) at a;
        texts = laid-join h.texts g y' hi' j.texts;
      }
