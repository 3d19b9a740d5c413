-- Laws of segments: rows one after the other, each with the number of rows of its subtree. Assumes nothing.
-- t are the segments, z the used strings, y the used texts; n rows from row i on, nested at most d.
--     are_none, are_shallow, are_suc, are_more, are_deep     the test's equations: no rows, depth 0, one row and the rest (at `suc`, and for any
--                                                            depth and number), and rows need a depth
--     are_unfit, are_empty, are_long, are_torn, are_on       the same for the loop over siblings: where it stops, and that it goes on
--     Walk, walk                                             what one who walks over rows that pass the test learns at the first of them
--     segments_none, segments_suc, segments_more             the value's equations
--     are_deeper, segments_deeper                            one more level of depth changes nothing
--     kind_at                                                the cell of the kind
--     is-text, is-long, is-alone, is_leaf, is_plain, is-color, is-font, is-unknown    what makes a row a segment, by its kind
--     at_text, at_break, at_timestamp, at_bold, at_italic, at_underline, at_strike, at_color, at_font, at_rest    which segment it is, by its kind
--     Kind, kind                                             both, for a row that is a segment
--     readable                                               what `segment_at` requires
--     color-bytes                                            the cells of a colour are bytes
--     Holds, segment_holds                                   what holds of the segment itself, by its constructor
--     childless                                              a text, a break and a timestamp have no children
use Prim.Native.Nat.{ℕ, zero, suc, ◌+◌, ◌-◌, ◌*◌, ◌≤◌, ◌<◌}
use mathlib.Core.Path.{◌≡◌, refl, sym, ◌∙◌}
use mathlib.Core.Bool.{Bool, true, false, ◌&&◌}
use mathlib.Core.List.{List}
use native.Mathlib.Omega.{arith}
use lib.ListN.{get_or}
use lib.Dec.{eqb, leb, ltb}
use borrow.Author.Tests.{ltb-true, leb-true, eqb-true, eqb-false, lt-ltb, lt-leb, le-leb, ne_eqb}
use Rattle.scan.proofs.Every.{both}
use Rattle.decimals.proofs.Tests.{no}
use Rattle.decimals.specs.Size.{is_size}
use Rattle.track.specs.declared.strings.Span.{Span}
use Rattle.track.specs.declared.segments.Segment.{Segment}
use Rattle.track.specs.Track.{Segments}
use Rattle.track.specs.Track as track
use Rattle.track.specs.Tables.{cell, span, optional, time_from, family_mark, font_at, segment_at, followed_by, siblings_at, segments_at}
use Rattle.track.specs.Meaning.{is_span, is_optional, are_three, is_marked, is_font, is_segment, are_siblings, are_segments}
use Rattle.track.proofs.Packed.{marked-size}

-- what follows a test counts only where the test is true
guarded : (g k a b : Bool) → (g ≡ true → a ≡ b) → (g && k && a) ≡ (g && k && b)
guarded true true a b h = h refl
guarded true false a b h = refl
guarded false k a b h = refl

-- ---- rows that are passed over
module _ (t z y : List ℕ) (kids : ℕ → ℕ → Bool) where
  are_past : (n k i : ℕ) → k ≤ n → are_siblings t z y kids n k i ≡ are_siblings t z y kids (n - k) 0 (i + k)
  unfolding are_siblings
  are_past n zero i h =
      let a : n - 0 ≡ n = omega arith in
      let b : i + 0 ≡ i = omega arith in
      rw (a, b)
  are_past zero (suc k) i h = absurd (omega arith)
  are_past (suc n) (suc k) i h =
      let a : suc n - suc k ≡ n - k = omega arith in
      let b : i + suc k ≡ i + 1 + k = omega arith in
      rw (a, b) (are_past n k (i + 1) (omega arith))

module _ (t : List ℕ) (kids : ℕ → ℕ → Segments Span) where
  siblings_past : (n k i : ℕ) → k ≤ n → siblings_at t kids n k i ≡ siblings_at t kids (n - k) 0 (i + k)
  unfolding siblings_at
  siblings_past n zero i h =
      let a : n - 0 ≡ n = omega arith in
      let b : i + 0 ≡ i = omega arith in
      rw (a, b)
  siblings_past zero (suc k) i h = absurd (omega arith)
  siblings_past (suc n) (suc k) i h =
      let a : suc n - suc k ≡ n - k = omega arith in
      let b : i + suc k ≡ i + 1 + k = omega arith in
      rw (a, b) (siblings_past n k (i + 1) (omega arith))

-- ---- the equations of the test
module _ (t z y : List ℕ) where
  pub are_none : (d i : ℕ) → are_segments t z y d 0 i ≡ true
  unfolding are_segments are_siblings
  are_none zero i = refl
  are_none (suc d) i = refl

  pub are_shallow : (d n i : ℕ) → d ≡ 0 → are_segments t z y d n i ≡ eqb n 0
  unfolding are_segments
  are_shallow d n i e = rw e

  pub are_suc :
      (d n i : ℕ) → are_segments t z y (suc d) (suc n) i
      ≡ (is_segment t z y i && ltb 0 (cell 6 t i 1) && leb (cell 6 t i 1) (suc n) && are_segments t z y d (cell 6 t i 1 - 1) (i + 1)
      && are_segments t z y (suc d) (suc n - cell 6 t i 1) (i + cell 6 t i 1))
  unfolding are_segments are_siblings
  are_suc d n i =
      let m = cell 6 t i 1 in
      guarded (is_segment t z y i && ltb 0 m && leb m (suc n)) (are_segments t z y d (m - 1) (i + 1)) _ _ λ g.
      let l : 0 < m = ltb-true 0 m (both {a = is_segment t z y i} (both {a = is_segment t z y i && ltb 0 m} g).0).1 in
      let h : m ≤ suc n = leb-true m (suc n) (both {a = is_segment t z y i && ltb 0 m} g).1 in
      let a : suc n - m ≡ n - (m - 1) = omega arith in
      let b : i + m ≡ i + 1 + (m - 1) = omega arith in
      rw (a, b) (are_past t z y (are_segments t z y d) n (m - 1) (i + 1) (omega arith))

  -- the same for any d and n
  pub are_more :
      (d n i : ℕ) → 0 < d → 0 < n → are_segments t z y d n i
      ≡ (is_segment t z y i && ltb 0 (cell 6 t i 1) && leb (cell 6 t i 1) n && are_segments t z y (d - 1) (cell 6 t i 1 - 1) (i + 1)
      && are_segments t z y d (n - cell 6 t i 1) (i + cell 6 t i 1))
  are_more zero n i h g = absurd (omega arith)
  are_more (suc d) zero i h g = absurd (omega arith)
  are_more (suc d) (suc n) i h g =
      let e : suc d - 1 ≡ d = omega arith in
      rw e (are_suc d n i)

  -- rows at depth 0 are none
  pub are_deep : (d n i : ℕ) → are_segments t z y d n i ≡ true → 0 < n → 0 < d
  unfolding are_segments
  are_deep zero n i e h = omega (arith, eqb-true n 0 e)
  are_deep (suc d) n i e h = omega arith

-- ---- the loop over siblings: at row i, n rows are left, and m is what the row says of its own
module _ (t z y : List ℕ) (d n i m : ℕ) (h : 0 < d) (g : 0 < n) (q : m ≡ cell 6 t i 1) where
  turn : are_segments t z y d n i
      ≡ (is_segment t z y i && ltb 0 m && leb m n && are_segments t z y (d - 1) (m - 1) (i + 1) && are_segments t z y d (n - m) (i + m))
  turn = rw q (are_more t z y d n i h g)

  pub are_unfit : is_segment t z y i ≡ false → are_segments t z y d n i ≡ false
  are_unfit e = turn ∙ rw e

  module _ (e : is_segment t z y i ≡ true) where
    pub are_empty : m ≡ 0 → are_segments t z y d n i ≡ false
    are_empty k = turn ∙ rw (e, k)

    module _ (k : 0 < m) where
      pub are_long : n < m → are_segments t z y d n i ≡ false
      are_long l = turn ∙ rw (e, lt-ltb 0 m k, lt-leb m n l)

      module _ (l : m ≤ n) where
        pub are_torn : are_segments t z y (d - 1) (m - 1) (i + 1) ≡ false → are_segments t z y d n i ≡ false
        are_torn w = turn ∙ rw (e, lt-ltb 0 m k, le-leb m n l, w)

        pub are_on : are_segments t z y (d - 1) (m - 1) (i + 1) ≡ true → are_segments t z y d n i ≡ are_segments t z y d (n - m) (i + m)
        are_on w = turn ∙ rw (e, lt-ltb 0 m k, le-leb m n l, w)

-- ---- what one who walks over n rows from row i on learns, nested at most d
pub record Walk (t z y : List ℕ) (d n i : ℕ) : Type 0 where
  pub deep : 0 < d
  pub is : is_segment t z y i ≡ true
  pub least : 0 < cell 6 t i 1
  pub most : cell 6 t i 1 ≤ n
  pub inside : are_segments t z y (d - 1) (cell 6 t i 1 - 1) (i + 1) ≡ true
  pub after : are_segments t z y d (n - cell 6 t i 1) (i + cell 6 t i 1) ≡ true

pub walk : (t z y : List ℕ) (d n i : ℕ) → are_segments t z y d n i ≡ true → 0 < n → Walk t z y d n i
walk t z y d n i e h =
    let m = cell 6 t i 1 in
    let g = are_deep t z y d n i e h in
    let a = both {b = are_segments t z y d (n - m) (i + m)} (sym (are_more t z y d n i g h) ∙ e) in
    let b = both {b = are_segments t z y (d - 1) (m - 1) (i + 1)} a.0 in
    let l = both {b = leb m n} b.0 in
    let s = both {a = is_segment t z y i} {b = ltb 0 m} l.0 in
    record { deep = g; is = s.0; least = ltb-true 0 m s.1; most = leb-true m n l.1; inside = b.1; after = a.1 }

-- ---- the equations of the value
module _ (t : List ℕ) where
  pub segments_none : (d i : ℕ) → segments_at t d 0 i ≡ track.done
  unfolding segments_at siblings_at
  segments_none zero i = refl
  segments_none (suc d) i = refl

  pub segments_suc :
      (d n i : ℕ) → 0 < cell 6 t i 1 → cell 6 t i 1 ≤ suc n → segments_at t (suc d) (suc n) i
      ≡ followed_by (segment_at t i) (segments_at t d (cell 6 t i 1 - 1) (i + 1))
      (segments_at t (suc d) (suc n - cell 6 t i 1) (i + cell 6 t i 1))
  unfolding segments_at siblings_at
  segments_suc d n i h g =
      let m = cell 6 t i 1 in
      let a : suc n - m ≡ n - (m - 1) = omega arith in
      let b : i + m ≡ i + 1 + (m - 1) = omega arith in
      rw (a, b, siblings_past t (segments_at t d) n (m - 1) (i + 1) (omega arith))

  -- the same for any d and n
  pub segments_more :
      (d n i : ℕ) → 0 < d → 0 < cell 6 t i 1 → cell 6 t i 1 ≤ n → segments_at t d n i
      ≡ followed_by (segment_at t i) (segments_at t (d - 1) (cell 6 t i 1 - 1) (i + 1))
      (segments_at t d (n - cell 6 t i 1) (i + cell 6 t i 1))
  segments_more zero n i h l m = absurd (omega arith)
  segments_more (suc d) zero i h l m = absurd (omega arith)
  segments_more (suc d) (suc n) i h l m =
      let e : suc d - 1 ≡ d = omega arith in
      rw e (segments_suc d n i l m)

-- ---- deeper nesting may be allowed
module _ (t z y : List ℕ) where
  siblings_kept :
      (a b : ℕ → ℕ → Bool) → ((m j : ℕ) → a m j ≡ true → b m j ≡ true) → (n k i : ℕ)
      → are_siblings t z y a n k i ≡ true → are_siblings t z y b n k i ≡ true
  unfolding are_siblings
  siblings_kept a b h zero k i e = e
  siblings_kept a b h (suc n) (suc k) i e = siblings_kept a b h n k (i + 1) e
  siblings_kept a b h (suc n) zero i e =
      let m = cell 6 t i 1 in
      let g = is_segment t z y i && ltb 0 m && leb m (suc n) in
      let x = both {a = g && a (m - 1) (i + 1)} {b = are_siblings t z y a n (m - 1) (i + 1)} e in
      let w = both {a = g} {b = a (m - 1) (i + 1)} x.0 in
      rw (w.0, h (m - 1) (i + 1) w.1) (siblings_kept a b h n (m - 1) (i + 1) x.1)

  pub are_deeper : (d n i : ℕ) → are_segments t z y d n i ≡ true → are_segments t z y (suc d) n i ≡ true
  unfolding are_segments are_siblings
  are_deeper zero zero i e = refl
  are_deeper zero (suc n) i e = absurd (omega (arith, eqb-true (suc n) 0 e))
  are_deeper (suc d) n i e = siblings_kept (are_segments t z y d) (are_segments t z y (suc d)) (are_deeper d) n 0 i e

  siblings_same :
      (a : ℕ → ℕ → Bool) (v w : ℕ → ℕ → Segments Span) → ((m j : ℕ) → a m j ≡ true → v m j ≡ w m j) → (n k i : ℕ)
      → are_siblings t z y a n k i ≡ true → siblings_at t v n k i ≡ siblings_at t w n k i
  unfolding are_siblings siblings_at
  siblings_same a v w h zero k i e = refl
  siblings_same a v w h (suc n) (suc k) i e = siblings_same a v w h n k (i + 1) e
  siblings_same a v w h (suc n) zero i e =
      let m = cell 6 t i 1 in
      let g = is_segment t z y i && ltb 0 m && leb m (suc n) in
      let x = both {a = g && a (m - 1) (i + 1)} {b = are_siblings t z y a n (m - 1) (i + 1)} e in
      rw (h (m - 1) (i + 1) (both {a = g} {b = a (m - 1) (i + 1)} x.0).1, siblings_same a v w h n (m - 1) (i + 1) x.1)

  pub segments_deeper : (d n i : ℕ) → are_segments t z y d n i ≡ true → segments_at t (suc d) n i ≡ segments_at t d n i
  unfolding are_segments segments_at are_siblings siblings_at
  segments_deeper zero zero i e = refl
  segments_deeper zero (suc n) i e = absurd (omega (arith, eqb-true (suc n) 0 e))
  segments_deeper (suc d) n i e = siblings_same (are_segments t z y d) (segments_at t (suc d)) (segments_at t d) (segments_deeper d) n 0 i e

-- ---- kinds
-- a number, where those from 1 to 9 are told apart
data Number (k : ℕ) : Type 0 where
  one : k ≡ 1 → Number k
  two : k ≡ 2 → Number k
  three : k ≡ 3 → Number k
  four : k ≡ 4 → Number k
  five : k ≡ 5 → Number k
  six : k ≡ 6 → Number k
  seven : k ≡ 7 → Number k
  eight : k ≡ 8 → Number k
  nine : k ≡ 9 → Number k
  other : (0 < k → k ≤ 9 → ⊥) → Number k

number : (k : ℕ) → Number k
number zero = other (λ h g. omega arith)
number (suc zero) = one refl
number (suc (suc zero)) = two refl
number (suc (suc (suc zero))) = three refl
number (suc (suc (suc (suc zero)))) = four refl
number (suc (suc (suc (suc (suc zero))))) = five refl
number (suc (suc (suc (suc (suc (suc zero)))))) = six refl
number (suc (suc (suc (suc (suc (suc (suc zero))))))) = seven refl
number (suc (suc (suc (suc (suc (suc (suc (suc zero)))))))) = eight refl
number (suc (suc (suc (suc (suc (suc (suc (suc (suc zero))))))))) = nine refl
number (suc (suc (suc (suc (suc (suc (suc (suc (suc (suc k)))))))))) = other (λ h g. omega arith)

-- the code reads the kind there
pub kind_at : (t : List ℕ) (i : ℕ) → cell 6 t i 0 ≡ get_or t (i * 6) 0
unfolding cell
kind_at t i = let e : i * 6 + 0 ≡ i * 6 = omega arith in rw e

-- what makes row i a segment
module _ (t z y : List ℕ) (i : ℕ) where
  pub is-text : get_or t (i * 6) 0 ≡ 1 → is_segment t z y i ≡ (eqb (cell 6 t i 1) 1 && is_span y (cell 6 t i 2) (cell 6 t i 3))
  unfolding is_segment
  is-text e = rw (kind_at t i, e)

  -- by the number of its rows
  pub is-long : get_or t (i * 6) 0 ≡ 1 → (cell 6 t i 1 ≡ 1 → ⊥) → is_segment t z y i ≡ false
  is-long e h = is-text e ∙ rw (ne_eqb (cell 6 t i 1) 1 h)

  pub is-alone : get_or t (i * 6) 0 ≡ 1 → cell 6 t i 1 ≡ 1 → is_segment t z y i ≡ is_span y (cell 6 t i 2) (cell 6 t i 3)
  is-alone e h = is-text e ∙ rw h

  -- a break or a timestamp
  pub is_leaf : 2 ≤ get_or t (i * 6) 0 → get_or t (i * 6) 0 ≤ 3 → is_segment t z y i ≡ eqb (cell 6 t i 1) 1
  unfolding is_segment
  is_leaf h g = go (eqb (get_or t (i * 6) 0) 2) refl
    where
      go : (b : Bool) → eqb (get_or t (i * 6) 0) 2 ≡ b → is_segment t z y i ≡ eqb (cell 6 t i 1) 1
      go true e = rw (kind_at t i, eqb-true (get_or t (i * 6) 0) 2 e)
      go false e =
          let k : get_or t (i * 6) 0 ≡ 3 = omega (arith, eqb-false (get_or t (i * 6) 0) 2 e) in
          rw (kind_at t i, k)

  -- bold, italic, underline or strike
  pub is_plain : 4 ≤ get_or t (i * 6) 0 → get_or t (i * 6) 0 ≤ 7 → is_segment t z y i ≡ true
  unfolding is_segment
  is_plain h g =
      let k = get_or t (i * 6) 0 in
      rw (
        kind_at t i,
        ne_eqb k 1 (λ e. omega arith),
        ne_eqb k 2 (λ e. omega arith),
        ne_eqb k 3 (λ e. omega arith),
        ne_eqb k 8 (λ e. omega arith),
        ne_eqb k 9 (λ e. omega arith),
        le-leb 4 k h,
        le-leb k 7 g,
      )

  pub is-color : get_or t (i * 6) 0 ≡ 8 → is_segment t z y i ≡ are_three t (i * 6 + 2)
  unfolding is_segment
  is-color e = rw (kind_at t i, e)

  pub is-font : get_or t (i * 6) 0 ≡ 9 → is_segment t z y i ≡ is_font t z y i
  unfolding is_segment
  is-font e = rw (kind_at t i, e)

  pub is-unknown : (0 < get_or t (i * 6) 0 → get_or t (i * 6) 0 ≤ 9 → ⊥) → is_segment t z y i ≡ false
  unfolding is_segment
  is-unknown h = go (get_or t (i * 6) 0) refl h
    where
      go : (k : ℕ) → get_or t (i * 6) 0 ≡ k → (0 < k → k ≤ 9 → ⊥) → is_segment t z y i ≡ false
      go zero e h = rw (kind_at t i, e)
      go (suc k) e h =
          let g : 9 < suc k = omega (arith, h (omega arith)) in
          rw (
            kind_at t i,
            e,
            ne_eqb (suc k) 1 (λ e. omega arith),
            ne_eqb (suc k) 2 (λ e. omega arith),
            ne_eqb (suc k) 3 (λ e. omega arith),
            ne_eqb (suc k) 8 (λ e. omega arith),
            ne_eqb (suc k) 9 (λ e. omega arith),
            le-leb 4 (suc k) (omega arith),
            lt-leb (suc k) 7 (omega arith),
          )

  -- so the segment can be read
  pub readable : is_segment t z y i ≡ true → get_or t (i * 6) 0 ≡ 8 → are_three t (i * 6 + 2) ≡ true
  readable h e = sym (is-color e) ∙ h

-- which segment it is
module _ (t : List ℕ) (i : ℕ) where
  pub at_text : get_or t (i * 6) 0 ≡ 1 → segment_at t i ≡ Segment.Text (span (cell 6 t i 2) (cell 6 t i 3))
  unfolding segment_at
  at_text e = rw (kind_at t i, e)

  pub at_break : get_or t (i * 6) 0 ≡ 2 → segment_at t i ≡ Segment.Break
  unfolding segment_at
  at_break e = rw (kind_at t i, e)

  pub at_timestamp : get_or t (i * 6) 0 ≡ 3 → segment_at t i ≡ Segment.Timestamp (time_from (cell 6 t i 2 + cell 6 t i 3 * 4294967296))
  unfolding segment_at
  at_timestamp e = rw (kind_at t i, e)

  pub at_bold : get_or t (i * 6) 0 ≡ 4 → segment_at t i ≡ Segment.Bold
  unfolding segment_at
  at_bold e = rw (kind_at t i, e)

  pub at_italic : get_or t (i * 6) 0 ≡ 5 → segment_at t i ≡ Segment.Italic
  unfolding segment_at
  at_italic e = rw (kind_at t i, e)

  pub at_underline : get_or t (i * 6) 0 ≡ 6 → segment_at t i ≡ Segment.Underline
  unfolding segment_at
  at_underline e = rw (kind_at t i, e)

  pub at_strike : get_or t (i * 6) 0 ≡ 7 → segment_at t i ≡ Segment.Strike
  unfolding segment_at
  at_strike e = rw (kind_at t i, e)

  pub at_color : get_or t (i * 6) 0 ≡ 8 → segment_at t i ≡ Segment.Color (record { r = cell 6 t i 2; g = cell 6 t i 3; b = cell 6 t i 4 })
  unfolding segment_at
  at_color e = rw (kind_at t i, e)

  pub at_font : get_or t (i * 6) 0 ≡ 9 → segment_at t i ≡ Segment.Font (font_at t i)
  unfolding segment_at
  at_font e = rw (kind_at t i, e)

  -- and any kind but the first eight
  module _ (a : get_or t (i * 6) 0 ≡ 1 → ⊥) (b : get_or t (i * 6) 0 ≡ 2 → ⊥) (c : get_or t (i * 6) 0 ≡ 3 → ⊥) (d : get_or t (i * 6) 0 ≡ 4 → ⊥) where
    pub at_rest :
        (get_or t (i * 6) 0 ≡ 5 → ⊥) → (get_or t (i * 6) 0 ≡ 6 → ⊥) → (get_or t (i * 6) 0 ≡ 7 → ⊥) → (get_or t (i * 6) 0 ≡ 8 → ⊥)
        → segment_at t i ≡ Segment.Font (font_at t i)
    unfolding segment_at
    at_rest e g h l =
        let k = get_or t (i * 6) 0 in
        rw (kind_at t i, ne_eqb k 1 a, ne_eqb k 2 b, ne_eqb k 3 c, ne_eqb k 4 d, ne_eqb k 5 e, ne_eqb k 6 g, ne_eqb k 7 h, ne_eqb k 8 l)

-- a segment's row, by its kind: what its cells say, and which segment it is
pub data Kind (t z y : List ℕ) (i : ℕ) : Type 0 where
  text : get_or t (i * 6) 0 ≡ 1 → cell 6 t i 1 ≡ 1 → is_span y (cell 6 t i 2) (cell 6 t i 3) ≡ true
      → segment_at t i ≡ Segment.Text (span (cell 6 t i 2) (cell 6 t i 3)) → Kind t z y i
  break : get_or t (i * 6) 0 ≡ 2 → cell 6 t i 1 ≡ 1 → segment_at t i ≡ Segment.Break → Kind t z y i
  timestamp : get_or t (i * 6) 0 ≡ 3 → cell 6 t i 1 ≡ 1
      → segment_at t i ≡ Segment.Timestamp (time_from (cell 6 t i 2 + cell 6 t i 3 * 4294967296)) → Kind t z y i
  bold : get_or t (i * 6) 0 ≡ 4 → segment_at t i ≡ Segment.Bold → Kind t z y i
  italic : get_or t (i * 6) 0 ≡ 5 → segment_at t i ≡ Segment.Italic → Kind t z y i
  underline : get_or t (i * 6) 0 ≡ 6 → segment_at t i ≡ Segment.Underline → Kind t z y i
  strike : get_or t (i * 6) 0 ≡ 7 → segment_at t i ≡ Segment.Strike → Kind t z y i
  color : get_or t (i * 6) 0 ≡ 8 → are_three t (i * 6 + 2) ≡ true
      → segment_at t i ≡ Segment.Color (record { r = cell 6 t i 2; g = cell 6 t i 3; b = cell 6 t i 4 }) → Kind t z y i
  font : get_or t (i * 6) 0 ≡ 9 → is_optional z (family_mark (cell 6 t i 4)) (cell 6 t i 2) (cell 6 t i 3) ≡ true
      → is_marked (cell 6 t i 4) (cell 6 t i 5) ≡ true → segment_at t i ≡ Segment.Font (font_at t i) → Kind t z y i

module _ (t z y : List ℕ) (i : ℕ) (h : is_segment t z y i ≡ true) where
  pub kind : Kind t z y i
  unfolding is_font
  kind = go (number (get_or t (i * 6) 0))
    where
      go : Number (get_or t (i * 6) 0) → Kind t z y i
      go (one e) = let d = both {a = eqb (cell 6 t i 1) 1} (sym (is-text t z y i e) ∙ h) in text e (eqb-true _ 1 d.0) d.1 (at_text t i e)
      go (two e) = break e (eqb-true _ 1 (sym (is_leaf t z y i (omega arith) (omega arith)) ∙ h)) (at_break t i e)
      go (three e) = timestamp e (eqb-true _ 1 (sym (is_leaf t z y i (omega arith) (omega arith)) ∙ h)) (at_timestamp t i e)
      go (four e) = bold e (at_bold t i e)
      go (five e) = italic e (at_italic t i e)
      go (six e) = underline e (at_underline t i e)
      go (seven e) = strike e (at_strike t i e)
      go (eight e) = color e (sym (is-color t z y i e) ∙ h) (at_color t i e)
      go (nine e) =
          let d = both {a = is_optional z (family_mark (cell 6 t i 4)) (cell 6 t i 2) (cell 6 t i 3)} (sym (is-font t z y i e) ∙ h) in
          font e d.0 d.1 (at_font t i e)
      go (other n) = no (sym h ∙ is-unknown t z y i n)

-- what holds of a segment that has m rows; z are the used strings, y the used texts
abbrev pub Holds : List ℕ → List ℕ → ℕ → Segment → Type 0
Holds z y m (Segment.Text s) = (m ≡ 1) × (is_span y s.place s.len ≡ true)
Holds z y m Segment.Break = m ≡ 1
Holds z y m (Segment.Timestamp u) = m ≡ 1
Holds z y m Segment.Bold = Unit {0}
Holds z y m Segment.Italic = Unit {0}
Holds z y m Segment.Underline = Unit {0}
Holds z y m Segment.Strike = Unit {0}
Holds z y m (Segment.Color c) = (c.r < 256) × (c.g < 256) × (c.b < 256)
Holds z y m (Segment.Font x) =
    (x.has_family ≡ true → is_span z x.family.place x.family.len ≡ true) × (x.has_size ≡ true → is_size x.size ≡ true)

optional-span : (z : List ℕ) (c p n : ℕ) → is_optional z c p n ≡ true → eqb c 1 ≡ true → is_span z p n ≡ true
unfolding is_optional
optional-span z c p n h e = rw (eqb-true c 1 e) at h

pub color-bytes : (t : List ℕ) (i : ℕ) → are_three t (i * 6 + 2) ≡ true → (cell 6 t i 2 < 256) × (cell 6 t i 3 < 256) × (cell 6 t i 4 < 256)
unfolding cell are_three
color-bytes t i h =
    let a : i * 6 + 2 + 1 ≡ i * 6 + 3 = omega arith in
    let b : i * 6 + 2 + 2 ≡ i * 6 + 4 = omega arith in
    let d = both {b = ltb (get_or t (i * 6 + 4) 0) 256} (rw (a, b) at h) in
    let e = both {a = ltb (get_or t (i * 6 + 2) 0) 256} d.0 in
    (ltb-true _ 256 e.0, ltb-true _ 256 e.1, ltb-true _ 256 d.1)

-- its string is the one that its cells say
optional-there :
    (z : List ℕ) (c p n : ℕ) → is_optional z c p n ≡ true → eqb c 1 ≡ true
    → is_span z (optional c p n).place (optional c p n).len ≡ true
unfolding optional
optional-there z c p n h e = rw e (optional-span z c p n h e)

pub segment_holds : (t z y : List ℕ) (i : ℕ) → is_segment t z y i ≡ true → Holds z y (cell 6 t i 1) (segment_at t i)
unfolding cell font_at
segment_holds t z y i h = go (kind t z y i h)
  where
    go : Kind t z y i → Holds z y (cell 6 t i 1) (segment_at t i)
    go (text e m s q) = rw q (m, s)
    go (break e m q) = rw q m
    go (timestamp e m q) = rw q m
    go (bold e q) = rw q tt
    go (italic e q) = rw q tt
    go (underline e q) = rw q tt
    go (strike e q) = rw q tt
    go (color e s q) = rw q (color-bytes t i s)
    go (font e a s q) = rw q (optional-there z _ _ _ a, marked-size _ _ s)

-- a text, a break and a timestamp have no children
pub childless :
    (t : List ℕ) (i : ℕ) → 0 < get_or t (i * 6) 0 → get_or t (i * 6) 0 ≤ 3 → (a b x : Segments Span)
    → followed_by (segment_at t i) a x ≡ followed_by (segment_at t i) b x
childless t i h g a b x = go (number (get_or t (i * 6) 0))
  where
    go : Number (get_or t (i * 6) 0) → followed_by (segment_at t i) a x ≡ followed_by (segment_at t i) b x
    go (one e) = rw (at_text t i e)
    go (two e) = rw (at_break t i e)
    go (three e) = rw (at_timestamp t i e)
    go (four e) = absurd (omega arith)
    go (five e) = absurd (omega arith)
    go (six e) = absurd (omega arith)
    go (seven e) = absurd (omega arith)
    go (eight e) = absurd (omega arith)
    go (nine e) = absurd (omega arith)
    go (other n) = absurd (n h (omega arith))
