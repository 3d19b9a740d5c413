-- Segments that stand in preorder are read back from their rows. Assumes nothing.
--     Stand, stand_append      where rows of segments stand; their parts
--     font-long, segment_long  how many cells
--     rows-many                how many rows
--     Read, segments_read      the test and the value
use Prim.Native.Nat.{ℕ, ◌+◌, ◌-◌, ◌*◌, ◌/◌, ◌%◌, ◌≤◌, ◌<◌}
use mathlib.Core.Path.{◌≡◌, refl, sym, ◌∙◌}
use mathlib.Core.Bool.{Bool, true, false, cond}
use mathlib.Core.List.{List, [], ◌∷◌, ◌++◌}
use mathlib.Core.Option.{Option, none, some}
use native.Mathlib.Omega.{arith}
use native.Mathlib.Nat.{add-zero, le-max_left, le-max_right}
use lib.ListN.{length, get_or, length-append}
use lib.Dec.{eqb}
use lib.IntN.{ℤ}
use borrow.Author.Tests.{lt-ltb, le-leb}
use Rattle.decimals.specs.declared.size.Size.{Size}
use Rattle.decimals.proofs.Tests.{no}
use Rattle.track.specs.declared.strings.Span.{Span}
use Rattle.track.specs.declared.segments.Font.{Font}
use Rattle.track.specs.declared.segments.Segment.{Segment}
use Rattle.track.specs.Track.{Wrapper, Segments, segment_rows}
use Rattle.track.specs.Track as track
use Rattle.track.specs.Tables.{cell, optional, font_at, segment_at, followed_by, segments_at}
use Rattle.track.specs.Meaning.{is_optional, is_byte, are_three, is_font, is_segment, are_segments, given}
use Rattle.track.specs.Layout.{Sized, joined_cells, flag, span_cells, time_bits, size_marks, size_bits, font_cells, segment_cells, is_some}
use Rattle.track.specs.Layout.{span_or, size_or, wrapper_of, preorder}
use Rattle.track.specs.Placing.{Within, WithinIf, SizeIf, FamilyFits, SizeFits, WrapperFits, TimeFits, SegmentsFit, depth}
use Rattle.track.proofs.ReadBack.{Reads, reads_first, reads_rest, joined-append, joined-many}
use Rattle.track.proofs.RowsLaid.{on}
use Rattle.track.proofs.Packed.{time-halves, marked-read}
use Rattle.track.proofs.SegmentLaws.{are_none, are_more, segments_none, segments_more, is-text, is_leaf, is_plain, is-color, is-font}
use Rattle.track.proofs.SegmentLaws.{at_text, at_break, at_timestamp, at_bold, at_italic, at_underline, at_strike, at_color, at_font}

-- ---- the cells of a segment
abbrev pub cells_in : Sized → List ℕ
cells_in x = segment_cells x.segment x.rows

-- a family's place and length, 0 where there is none
abbrev family_cells : Bool → Span → List ℕ
family_cells b x = cond b (span_cells x) (0 ∷ 0 ∷ [])

family_long : (b : Bool) (x : Span) → length (family_cells b x) ≡ 2
family_long true x = refl
family_long false x = refl

pub font-long : (x : Font) → length (font_cells x) ≡ 4
unfolding font_cells
font-long x = length-append (family_cells x.has_family x.family) _ ∙ rw (family_long x.has_family x.family)

pub segment_long : (s : Segment) (n : ℕ) → length (segment_cells s n) ≡ 6
unfolding segment_cells
segment_long (Segment.Text s) n = refl
segment_long Segment.Break n = refl
segment_long (Segment.Timestamp t) n = refl
segment_long Segment.Bold n = refl
segment_long Segment.Italic n = refl
segment_long Segment.Underline n = refl
segment_long Segment.Strike n = refl
segment_long (Segment.Color c) n = refl
segment_long (Segment.Font x) n = omega (arith, font-long x)

pub rows-many : (s : Segments Span) → length (preorder s) ≡ segment_rows s
unfolding preorder segment_rows
rows-many track.done = refl
rows-many (track.text s x) = omega (arith, rows-many x)
rows-many (track.break x) = omega (arith, rows-many x)
rows-many (track.timestamp t x) = omega (arith, rows-many x)
rows-many (track.wrap w c x) = omega (arith, length-append (preorder c) (preorder x), rows-many c, rows-many x)

module _ (t : List ℕ) where
  -- the rows l stand from row i on
  abbrev pub Stand : ℕ → List Sized → Type 0
  Stand i l = Reads 0 t (i * 6) (joined_cells cells_in l)

  pub stand_append : (i j : ℕ) (a b : List Sized) → j ≡ i + length a → Stand i (a ++ b) → Stand i a × Stand j b
  stand_append i j a b e h =
      let ca = joined_cells cells_in a in
      let cb = joined_cells cells_in b in
      let n : length ca ≡ length a * 6 = joined-many 6 cells_in (λ x. segment_long x.segment x.rows) a in
      let g : Reads 0 t (i * 6) (ca ++ cb) = rw (joined-append cells_in a b) at h in
      let m : j * 6 ≡ i * 6 + length ca = omega arith in
      (reads_first 0 t (i * 6) ca cb g, reads_rest 0 t (i * 6) ca cb g (j * 6) m)

  -- what the row of a segment says: its n rows, and what it is with its children and its later siblings
  record RowIs (z y : List ℕ) (i n : ℕ) (w : Segments Span → Segments Span → Segments Span) : Type 0 where
    pub is : is_segment t z y i ≡ true
    pub rows : cell 6 t i 1 ≡ n
    pub joins : (c x : Segments Span) → followed_by (segment_at t i) c x ≡ w c x

  module _ (z y : List ℕ) (i : ℕ) where
    -- the kind is read at both
    kind_is : (k : ℕ) → get_or t (i * 6 + 0) 0 ≡ k → get_or t (i * 6) 0 ≡ k
    kind_is k h = let e : i * 6 + 0 ≡ i * 6 = add-zero (i * 6) in rw e at h

    text-row : (s : Span) → Reads 0 t (i * 6) (segment_cells (Segment.Text s) 1) → Within y s → RowIs z y i 1 (λ c x. track.text s x)
    unfolding segment_cells cell
    text-row s h g =
        let k : get_or t (i * 6) 0 ≡ 1 = kind_is 1 (h 0 (omega arith)) in
        let n : cell 6 t i 1 ≡ 1 = h 1 (omega arith) in
        let a : cell 6 t i 2 ≡ s.place = h 2 (omega arith) in
        let b : cell 6 t i 3 ≡ s.len = h 3 (omega arith) in
        record { is = is-text t z y i k ∙ rw (n, a, b) g; rows = n; joins = λ c x. rw (at_text t i k, a, b) }

    break-row : Reads 0 t (i * 6) (segment_cells Segment.Break 1) → RowIs z y i 1 (λ c x. track.break x)
    unfolding segment_cells cell
    break-row h =
        let k : get_or t (i * 6) 0 ≡ 2 = kind_is 2 (h 0 (omega arith)) in
        let n : cell 6 t i 1 ≡ 1 = h 1 (omega arith) in
        record { is = is_leaf t z y i (omega arith) (omega arith) ∙ rw n; rows = n; joins = λ c x. rw (at_break t i k) }

    timestamp-row : (u : ℤ) → Reads 0 t (i * 6) (segment_cells (Segment.Timestamp u) 1) → TimeFits u → RowIs z y i 1 (λ c x. track.timestamp u x)
    unfolding segment_cells cell
    timestamp-row u h f =
        let k : get_or t (i * 6) 0 ≡ 3 = kind_is 3 (h 0 (omega arith)) in
        let n : cell 6 t i 1 ≡ 1 = h 1 (omega arith) in
        let a : cell 6 t i 2 ≡ time_bits u % 4294967296 = h 2 (omega arith) in
        let b : cell 6 t i 3 ≡ time_bits u / 4294967296 = h 3 (omega arith) in
        record { is = is_leaf t z y i (omega arith) (omega arith) ∙ rw n; rows = n; joins = λ c x. rw (at_timestamp t i k, a, b, time-halves u f) }

    -- a family, by its flag
    family_read : (b : Bool) (x : Span) → Reads 0 t (i * 6 + 2) (family_cells b x) → WithinIf z b x
        → (is_optional z (flag b) (cell 6 t i 2) (cell 6 t i 3) ≡ true)
        × (given (eqb (flag b) 1) (optional (flag b) (cell 6 t i 2) (cell 6 t i 3)) ≡ given b x)
    unfolding cell is_optional optional
    family_read true x h f =
        let a : get_or t (i * 6 + 2) 0 ≡ x.place = rw (add-zero (i * 6 + 2)) at (h 0 (omega arith)) in
        let b : get_or t (i * 6 + 3) 0 ≡ x.len = rw (on (i * 6) 2 1 3 refl) at (h 1 (omega arith)) in
        (rw (a, b) (f refl), rw (a, b))
    family_read false x h f = (refl, refl)

    font-row :
        (n : ℕ) (a : Option Span) (s : Option Size) → Reads 0 t (i * 6) (segment_cells (wrapper_of (track.font a s)) n)
        → FamilyFits z a → SizeFits s → RowIs z y i n (λ c x. track.wrap (track.font a s) c x)
    unfolding segment_cells font_cells cell wrapper_of is_font font_at
    font-row n a s h p q =
        let k : get_or t (i * 6) 0 ≡ 9 = kind_is 9 (h 0 (omega arith)) in
        let c1 = family_cells (is_some a) (span_or a) in
        let c2 : List ℕ = (flag (is_some a) + size_marks (is_some s) (size_or s)) ∷ size_bits (is_some s) (size_or s) ∷ [] in
        let g : Reads 0 t (i * 6 + 2) (c1 ++ c2) = reads_rest 0 t (i * 6) (9 ∷ n ∷ []) (c1 ++ c2) h (i * 6 + 2) refl in
        let l : i * 6 + 4 ≡ i * 6 + 2 + length c1 = omega (arith, family_long (is_some a) (span_or a)) in
        let gs : Reads 0 t (i * 6 + 4) c2 = reads_rest 0 t (i * 6 + 2) c1 c2 g (i * 6 + 4) l in
        let m : cell 6 t i 4 ≡ flag (is_some a) + size_marks (is_some s) (size_or s) = rw (add-zero (i * 6 + 4)) at (gs 0 (omega arith)) in
        let b : cell 6 t i 5 ≡ size_bits (is_some s) (size_or s) = rw (on (i * 6) 4 1 5 refl) at (gs 1 (omega arith)) in
        let o = family_read (is_some a) (span_or a) (reads_first 0 t (i * 6 + 2) c1 c2 g) (family a p) in
        let d = marked-read (is_some a) (is_some s) (size_or s) (size s q) in
        record {
          is = is-font t z y i k ∙ rw (m, b, d.family, o.0) d.fits;
          rows = h 1 (omega arith);
          joins = λ c x. rw (at_font t i k, m, d.family, o.1, d.is, some_span a, some_size s);
        }
      where
        family : (a : Option Span) → FamilyFits z a → WithinIf z (is_some a) (span_or a)
        family none p = λ e. no (sym e)
        family (some x) p = λ e. p

        size : (s : Option Size) → SizeFits s → SizeIf (is_some s) (size_or s)
        size none p = λ e. no (sym e)
        size (some x) p = λ e. p

        some_span : (a : Option Span) → given (is_some a) (span_or a) ≡ a
        some_span none = refl
        some_span (some x) = refl

        some_size : (s : Option Size) → given (is_some s) (size_or s) ≡ s
        some_size none = refl
        some_size (some x) = refl

    plain_row :
        (k n : ℕ) (s : Segment) (w : Wrapper Span) → Reads 0 t (i * 6) (k ∷ n ∷ 0 ∷ 0 ∷ 0 ∷ 0 ∷ []) → 4 ≤ k → k ≤ 7
        → (get_or t (i * 6) 0 ≡ k → segment_at t i ≡ s) → ((c x : Segments Span) → followed_by s c x ≡ track.wrap w c x)
        → RowIs z y i n (λ c x. track.wrap w c x)
    unfolding cell
    plain_row k n s w h lo hi e g =
        let q : get_or t (i * 6) 0 ≡ k = kind_is k (h 0 (omega arith)) in
        record { is = is_plain t z y i (omega arith) (omega arith); rows = h 1 (omega arith); joins = λ c x. rw (e q) (g c x) }

    wrapper_row :
        (n : ℕ) (w : Wrapper Span) → Reads 0 t (i * 6) (segment_cells (wrapper_of w) n) → WrapperFits z w → RowIs z y i n (λ c x. track.wrap w c x)
    unfolding wrapper_of segment_cells cell are_three is_byte
    wrapper_row n track.bold h p = plain_row 4 n Segment.Bold track.bold h (omega arith) (omega arith) (at_bold t i) (λ c x. refl)
    wrapper_row n track.italic h p = plain_row 5 n Segment.Italic track.italic h (omega arith) (omega arith) (at_italic t i) (λ c x. refl)
    wrapper_row n track.underline h p = plain_row 6 n Segment.Underline track.underline h (omega arith) (omega arith) (at_underline t i)
        (λ c x. refl)
    wrapper_row n track.strike h p = plain_row 7 n Segment.Strike track.strike h (omega arith) (omega arith) (at_strike t i) (λ c x. refl)
    wrapper_row n (track.color v) h p =
        let k : get_or t (i * 6) 0 ≡ 8 = kind_is 8 (h 0 (omega arith)) in
        let a : cell 6 t i 2 ≡ v.r = h 2 (omega arith) in
        let b : cell 6 t i 3 ≡ v.g = h 3 (omega arith) in
        let d : cell 6 t i 4 ≡ v.b = h 4 (omega arith) in
        record {
          is =
              is-color t z y i k ∙ rw (
                on (i * 6) 2 1 3 refl,
                on (i * 6) 2 2 4 refl,
                a,
                b,
                d,
                lt-ltb v.r 256 p.0,
                lt-ltb v.g 256 p.1,
                lt-ltb v.b 256 p.2,
              );
          rows = h 1 (omega arith);
          joins = λ c x. rw (at_color t i k, a, b, d);
        }
    wrapper_row n (track.font a s) h p = font-row n a s h p.0 p.1

  module _ (z y : List ℕ) where
    -- what is read of n rows: they are segments, and these
    abbrev pub Read : ℕ → ℕ → ℕ → Segments Span → Type 0
    Read d n i s = (are_segments t z y d n i ≡ true) × (segments_at t d n i ≡ s)

    step : (d n m i : ℕ) (w : Segments Span → Segments Span → Segments Span) (c x : Segments Span) → 0 < d → 0 < n → RowIs z y i n w
        → Read (d - 1) (n - 1) (i + 1) c → Read d m (i + n) x → Read d (n + m) i (w c x)
    step d n m i w c x hd hn q a b =
        let e : n + m - n ≡ m = omega arith in
        let k : cell 6 t i 1 ≡ n = q.rows in (
          are_more t z y d (n + m) i hd (omega arith) ∙ rw (q.is, k, lt-ltb 0 n hn, le-leb n (n + m) (omega arith), a.0, e, b.0),
          segments_more t d (n + m) i hd (omega arith) (omega arith) ∙ rw (k, a.1, e, b.1) (q.joins c x),
        )

    none_read : (d i : ℕ) → Read d 0 i track.done
    none_read d i = (are_none t z y d i, segments_none t d i)

    -- the row of the first
    first-row : (i : ℕ) (x : Sized) (l : List Sized) → Stand i (x ∷ l) → Reads 0 t (i * 6) (cells_in x) × Stand (i + 1) l
    unfolding joined_cells
    first-row i x l h =
        let q = stand_append i (i + 1) (x ∷ []) l refl h in
        (reads_first 0 t (i * 6) (cells_in x) [] q.0, q.1)

    pub segments_read : (s : Segments Span) (d i : ℕ) → depth s ≤ d → SegmentsFit z y s → Stand i (preorder s) → Read d (segment_rows s) i s
    unfolding preorder segment_rows depth
    segments_read track.done d i e g h = none_read d i
    segments_read (track.text s x) d i e g h =
        let q = first-row i _ _ h in
        step d 1 (segment_rows x) i _ track.done x (omega (arith, le-max_left 1 (depth x))) (omega arith) (text-row z y i s q.0 g.0)
        (none_read (d - 1) (i + 1))
        (segments_read x d (i + 1) (omega (arith, le-max_right 1 (depth x))) g.1 q.1)
    segments_read (track.break x) d i e g h =
        let q = first-row i _ _ h in
        step d 1 (segment_rows x) i _ track.done x (omega (arith, le-max_left 1 (depth x))) (omega arith) (break-row z y i q.0)
        (none_read (d - 1) (i + 1))
        (segments_read x d (i + 1) (omega (arith, le-max_right 1 (depth x))) g q.1)
    segments_read (track.timestamp u x) d i e g h =
        let q = first-row i _ _ h in
        step d 1 (segment_rows x) i _ track.done x (omega (arith, le-max_left 1 (depth x))) (omega arith) (timestamp-row z y i u q.0 g.0)
        (none_read (d - 1) (i + 1))
        (segments_read x d (i + 1) (omega (arith, le-max_right 1 (depth x))) g.1 q.1)
    segments_read (track.wrap w c x) d i e g h =
        let n = segment_rows c in
        let q = first-row i _ (preorder c ++ preorder x) h in
        let l : i + (1 + n) ≡ i + 1 + length (preorder c) = omega (arith, rows-many c) in
        let b = stand_append (i + 1) (i + (1 + n)) (preorder c) (preorder x) l q.1 in
        let k : 1 + n - 1 ≡ n = omega arith in
        step d (1 + n) (segment_rows x) i _ c x (omega (arith, le-max_left (1 + depth c) (depth x))) (omega arith)
        (wrapper_row z y i (1 + n) w q.0 g.0)
        (rw k (segments_read c (d - 1) (i + 1) (omega (arith, le-max_left (1 + depth c) (depth x))) g.1 b.0))
        (segments_read x d (i + (1 + n)) (omega (arith, le-max_right (1 + depth c) (depth x))) g.2 b.1)
