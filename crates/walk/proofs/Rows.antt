-- Laws of rows one after the other. Assumes nothing.
--     own-text, own-break, own-none         the text of a row by its kind
--     rows_split, rows-first, rows_last     rows one after the other
--     Flat, flat                            the text of segments is that of their rows, whatever is nested
--     within-near, within-sum                               a row whose text is within the table
--     rows-from, text-row, all_within, next-within          and rows
--     Writing, writing_start, writing_step, writing_full, writing_done           what the program has written so far, and how it goes on
use Rattle.std.specs.Prelude.{None}
use Prim.Native.Nat.{ℕ, zero, suc, ◌+◌, ◌-◌, ◌*◌, ◌≤◌, ◌<◌}
use mathlib.Core.Path.{◌≡◌, refl, sym, ap, ◌∙◌}
use mathlib.Core.Bool.{Bool, true, and-eq-true_iff}
use mathlib.Core.List.{List, [], ◌∷◌, ◌++◌, append_assoc, append-nil}
use native.Mathlib.Omega.{arith}
use native.Mathlib.Nat.{add-zero}
use lib.ListN.{length, get_or}
use lib.Dec.{eqb, ltb, leb}
use borrow.Author.Tests.{le-leb, lt-leb, leb-true, leb-false, eq-eqb, ne_eqb, eqb-true, eqb-false, ltb-true, ltb-false}
use Rattle.scan.specs.Part.{string_at}
use Rattle.scan.specs.Posts.{Appended, Wrote, WroteInPart}
use Rattle.scan.proofs.Every.{by-test}
use Rattle.scan.proofs.Stores.{appended_on, appended_kept, in_part, wrote_on, wrote_full}
use Rattle.track.specs.Tables.{cell, segment_at, segments_at}
use Rattle.track.specs.Meaning.{are_segments, all_rows}
use Rattle.track.proofs.SegmentLaws.{Walk, walk}
use Rattle.track.proofs.Accepted.{all_row}
use Rattle.walk.specs.Text.{plain_text, own_text, row_text, rows_text, row_within_of}
use Rattle.walk.proofs.Walking.{TextWithin, text-none, text-step, text-within}

-- ---- a row by its kind, which is its first cell
module _ (y t : List ℕ) (i : ℕ) where
  pub own-text : get_or t (i * 6) 0 ≡ 1 → row_text y t i ≡ string_at y (get_or t (i * 6 + 2) 0) (get_or t (i * 6 + 3) 0)
  unfolding segment_at cell own_text
  own-text e = rw (add-zero (i * 6), eq-eqb (get_or t (i * 6) 0) 1 e)

  pub own-break : get_or t (i * 6) 0 ≡ 2 → row_text y t i ≡ 10 ∷ []
  unfolding segment_at cell own_text
  own-break e = rw (add-zero (i * 6), ne_eqb (get_or t (i * 6) 0) 1 (λ z. omega arith), eq-eqb (get_or t (i * 6) 0) 2 e)

  pub own-none : (get_or t (i * 6) 0 ≡ 1 → ⊥) → (get_or t (i * 6) 0 ≡ 2 → ⊥) → row_text y t i ≡ []
  unfolding segment_at cell own_text
  own-none e f =
      let c = get_or t (i * 6) 0 in
      rw (add-zero (i * 6), ne_eqb c 1 e, ne_eqb c 2 f)
      (by-test (eqb c 3) (λ q. rw q) (λ q. rw q
      (by-test (eqb c 4) (λ q. rw q) (λ q. rw q
      (by-test (eqb c 5) (λ q. rw q) (λ q. rw q
      (by-test (eqb c 6) (λ q. rw q) (λ q. rw q
      (by-test (eqb c 7) (λ q. rw q) (λ q. rw q
      (by-test (eqb c 8) (λ q. rw q) (λ q. rw q))))))))))))

-- ---- rows
pub rows_split : (y t : List ℕ) (a b i : ℕ) → rows_text y t (a + b) i ≡ rows_text y t a i ++ rows_text y t b (i + a)
unfolding rows_text
rows_split y t zero b i =
    let e : 0 + b ≡ b = omega arith in
    let f : i + 0 ≡ i = omega arith in rw (e, f)
rows_split y t (suc a) b i =
    let e : suc a + b ≡ suc (a + b) = omega arith in
    let f : i + suc a ≡ i + 1 + a = omega arith in
    rw (e, f) (ap (λ (l : List ℕ). row_text y t i ++ l) (rows_split y t a b (i + 1)) ∙ simp append_assoc)

pub rows-first : (y t : List ℕ) (n i : ℕ) → 0 < n → rows_text y t n i ≡ row_text y t i ++ rows_text y t (n - 1) (i + 1)
unfolding rows_text
rows-first y t zero i h = absurd (omega arith)
rows-first y t (suc n) i h = let e : suc n - 1 ≡ n = omega arith in rw e

one_row : (y t : List ℕ) (i : ℕ) → rows_text y t 1 i ≡ row_text y t i
unfolding rows_text
one_row y t i = append-nil (row_text y t i)

pub rows_last : (y t : List ℕ) (from i : ℕ) → from ≤ i → rows_text y t (i + 1 - from) from ≡ rows_text y t (i - from) from ++ row_text y t i
rows_last y t from i h =
    let e : i + 1 - from ≡ i - from + 1 = omega arith in
    let f : from + (i - from) ≡ i = omega arith in
    rw e (rows_split y t (i - from) 1 from ∙ rw f (ap (λ (l : List ℕ). rows_text y t (i - from) from ++ l) (one_row y t i)))

module _ (t z y : List ℕ) where
  -- the text of the rows, and each is within the texts
  pub record Flat (d n i : ℕ) : Type 0 where
    pub text : (v : List ℕ) → plain_text v (segments_at t d n i) ≡ rows_text v t n i
    pub rows : (j : ℕ) → i ≤ j → j < i + n → TextWithin y (segment_at t j)

  flat_none : (d i : ℕ) → Flat d 0 i
  unfolding rows_text
  flat_none d i = record { text = λ v. text-none v t d i; rows = λ j a b. absurd (omega arith) }

  -- the first of them, what is inside it, and what follows
  module _ (d n i : ℕ) (w : Walk t z y d n i) (a : Flat (d - 1) (cell 6 t i 1 - 1) (i + 1)) (b : Flat d (n - cell 6 t i 1) (i + cell 6 t i 1)) where
    step_text : (v : List ℕ) → plain_text v (segments_at t d n i) ≡ rows_text v t n i
    step_text v =
        let m = cell 6 t i 1 in
        let q : n - 1 ≡ m - 1 + (n - m) = omega (arith, w.least, w.most) in
        let p : i + 1 + (m - 1) ≡ i + m = omega (arith, w.least) in
        text-step t z y d n i w m refl (segment_at t i) refl v
        ∙ rw (a.text v, b.text v, rows-first v t n i (omega (arith, w.least, w.most)), q, rows_split v t (m - 1) (n - m) (i + 1), p)

    step_rows : (j : ℕ) → i ≤ j → j < i + n → TextWithin y (segment_at t j)
    step_rows j h k =
        by-test (eqb j i)
        (λ e. rw (eqb-true j i e) (text-within t z y d n i w (cell 6 t i 1) refl (segment_at t i) refl))
        (λ e.
        let f = eqb-false j i e in
        by-test (ltb j (i + cell 6 t i 1))
        (λ l. a.rows j (omega (arith, f)) (omega (arith, ltb-true j (i + cell 6 t i 1) l, w.least)))
        (λ l. b.rows j (ltb-false j (i + cell 6 t i 1) l) (omega (arith, w.most))))

    flat_step : Flat d n i
    flat_step = record { text = step_text; rows = step_rows }

  flat_some : (k : ℕ) → ((d n i : ℕ) → n ≤ k → are_segments t z y d n i ≡ true → Flat d n i) → (d n i : ℕ) → n ≤ suc k
      → are_segments t z y d n i ≡ true → Flat d n i
  flat_some k rec d zero i h e = flat_none d i
  flat_some k rec d (suc n) i h e =
      let w = walk t z y d (suc n) i e (omega arith) in
      flat_step d (suc n) i w (rec (d - 1) (cell 6 t i 1 - 1) (i + 1) (omega (arith, w.most)) w.inside)
      (rec d (suc n - cell 6 t i 1) (i + cell 6 t i 1) (omega (arith, w.least)) w.after)

  flat_to : (k d n i : ℕ) → n ≤ k → are_segments t z y d n i ≡ true → Flat d n i
  flat_to zero d zero i h e = flat_none d i
  flat_to zero d (suc n) i h e = absurd (omega arith)
  flat_to (suc k) d n i h e = flat_some k (flat_to k) d n i h e

  pub flat : (d n i : ℕ) → are_segments t z y d n i ≡ true → Flat d n i
  flat d n i e = flat_to n d n i (omega arith) e

-- ---- rows whose texts are within the table
module _ (t : List ℕ) (i : ℕ) where
  module _ (e : get_or t (i * 6) 0 ≡ 1) (p n : ℕ) (a : p ≡ get_or t (i * 6 + 2) 0) (b : n ≡ get_or t (i * 6 + 3) 0) where
    is-text : row_within_of t i ≡ leb (p + n) 65536
    unfolding row_within_of cell
    is-text = rw (add-zero (i * 6), eq-eqb (get_or t (i * 6) 0) 1 e, a, b)

    pub within-near : p ≤ 65536 → leb n (65536 - p) ≡ row_within_of t i
    within-near h =
        by-test (leb n (65536 - p))
        (λ x. x ∙ sym (is-text ∙ le-leb (p + n) 65536 (omega (arith, leb-true n (65536 - p) x, h))))
        (λ x. x ∙ sym (is-text ∙ lt-leb (p + n) 65536 (omega (arith, leb-false n (65536 - p) x, h))))

    pub within-sum : row_within_of t i ≡ true → p + n ≤ 65536
    within-sum h = leb-true (p + n) 65536 (sym is-text ∙ h)

pub rows-from : (p : ℕ → Bool) (n i : ℕ) → all_rows p n i ≡ all_rows p (i + n - i) i
rows-from p n i = let e : i + n - i ≡ n = omega arith in rw e

-- a segment's row
pub text-row : (t y : List ℕ) (i : ℕ) → length y ≤ 65536 → TextWithin y (segment_at t i) → row_within_of t i ≡ true
unfolding row_within_of segment_at cell
text-row t y i l h = by-test (eqb (get_or t (i * 6 + 0) 0) 1) text (λ q. rw q)
  where
    text : eqb (get_or t (i * 6 + 0) 0) 1 ≡ true → row_within_of t i ≡ true
    text q =
        let k : get_or t (i * 6 + 2) 0 + get_or t (i * 6 + 3) 0 ≤ length y = rw q at h in
        rw (q, le-leb (get_or t (i * 6 + 2) 0 + get_or t (i * 6 + 3) 0) 65536 (omega (arith, k, l)))

pub all_within : (t : List ℕ) (n i : ℕ) → ((j : ℕ) → i ≤ j → j < i + n → row_within_of t j ≡ true) → all_rows (row_within_of t) n i ≡ true
unfolding all_rows
all_within t zero i h = refl
all_within t (suc n) i h =
    (and-eq-true_iff (row_within_of t i) (all_rows (row_within_of t) n (i + 1))).1
    (h i (omega arith) (omega arith), all_within t n (i + 1) (λ j a b. h j (omega arith) (omega arith)))

-- one of such rows
pub next-within : (t : List ℕ) (n from i : ℕ) → from ≤ i → i < from + n → all_rows (row_within_of t) n from ≡ true → row_within_of t i ≡ true
next-within t n from i l h w =
    let e : from + (i - from) ≡ i = omega arith in
    rw e at (all_row (row_within_of t) n from (i - from) w (omega arith))

-- ---- what is written so far: of the n rows from row `from` on those before row i, from a place of the table o on up to `to`
pub record Writing (t y : List ℕ) (from n at : ℕ) (o : List ℕ) (i to : ℕ) (o' : List ℕ) : Type 0 where
  pub after : from ≤ i
  pub before : i ≤ from + n
  pub written : Appended (rows_text y t (i - from) from) at o o' to
  pub fits : to ≤ length o'
  pub kept : length o' ≡ length o

module _ (t y : List ℕ) (from n at : ℕ) (o : List ℕ) where
  pub writing_start : at ≤ length o → Writing t y from n at o from at o
  unfolding rows_text
  writing_start h =
      let e : from - from ≡ 0 = omega arith in
      let a : Appended [] at o o at = record { next = omega arith; within = h; laid = refl } in
      record { after = omega arith; before = omega arith; written = rw e a; fits = h; kept = refl }

  module _ (i to : ℕ) (o' : List ℕ) (g : Writing t y from n at o i to o') where
    pub writing_done : from + n ≤ i → Appended (rows_text y t n from) at o o' to
    writing_done h = let e : i - from ≡ n = omega (arith, g.before, g.after) in rw e at g.written

    -- the next row
    module _ (h : i < from + n) where
      pub writing_step : (k : ℕ) (o'' : List ℕ) → Appended (row_text y t i) to o' o'' k → Writing t y from n at o (i + 1) k o''
      writing_step k o'' a = record {
        after = omega (arith, g.after);
        before = omega arith;
        written = rw (rows_last y t from i g.after) (appended_on g.written a);
        fits = omega (arith, a.within, appended_kept a);
        kept = appended_kept a ∙ g.kept;
      }

      -- its text does not fit
      pub writing_full : (o'' : List ℕ) → Wrote (row_text y t i) to o' o'' None → WroteInPart (rows_text y t n from) at o o'' None
      writing_full o'' w =
          let rest = rows_text y t (n - (i - from) - 1) (i + 1) in
          let q : n ≡ i - from + (n - (i - from)) = omega (arith, g.after) in
          let e : from + (i - from) ≡ i = omega (arith, g.after) in
          let s : rows_text y t n from ≡ rows_text y t (i - from) from ++ (row_text y t i ++ rest) =
          ap (λ (k : ℕ). rows_text y t k from) q ∙ (rows_split y t (i - from) (n - (i - from)) from
          ∙ rw e (ap (λ (l : List ℕ). rows_text y t (i - from) from ++ l) (rows-first y t (n - (i - from)) i (omega (arith, g.after))))) in
          let own : WroteInPart (row_text y t i) to o' o'' None = in_part (row_text y t i) to o' o'' None g.fits w in
          rw s (wrote_on (rows_text y t (i - from) from) (row_text y t i ++ rest) at o o' to o'' None g.written
          (wrote_full (row_text y t i) rest to o' o'' own))
