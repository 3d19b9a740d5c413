-- Laws of UTF-8. Assumes nothing.
use Prim.Native.Nat.{ℕ, zero, suc, ◌+◌, ◌-◌, ◌*◌, ◌/◌, ◌%◌, ◌≤◌, ◌<◌}
use mathlib.Core.Path.{◌≡◌, refl, sym, ap, subst, ◌∙◌}
use mathlib.Core.Bool.{Bool, true, false, cond, ◌&&◌, ◌||◌, and-false, and-eq-true_iff, true≢false}
use mathlib.Core.List.{List, [], ◌∷◌, ◌++◌, append_assoc, append-nil}
use native.Mathlib.Omega.{arith}
use native.Mathlib.Nat.{add-zero, zero-add}
use native.Mathlib.Numerals.{add-one}
use lib.ListN.{length, get_or, take, drop, length-append, length-drop, take-append-drop, get_or-append}
use lib.Seq.{drop-cons, length-take-le, take-length, drop_at, take-add, get_or-take, get_or-drop, get_or-append-add}
use lib.Dec.{eqb, leb, ltb}
use borrow.Author.Tests.{ltb-true, ltb-false, leb-true, lt-ltb, le-ltb, le-leb, lt-leb, ne_eqb, eqb-true, eqb-false}
use Rattle.std.specs.List.{list_all}
use Rattle.scan.specs.Loop.{halt, more, loop}
use Rattle.scan.proofs.Every.{by-test}
use Rattle.scan.proofs.Loop.{loop-out, loop-halt, loop-more, loop-ind, halt-inj, more-inj, halt≢more, more≢halt}
use Rattle.utf8.specs.Utf8.{Range, ◌to◌, within, table, fits_at, first_fit, sequence_at, WellFormed, Utf8, empty, sequence, utf8_turn}
use Rattle.utf8.specs.Utf8.{utf8_end, LongestValid, Sequence, scalar, encode, char_at}
use Rattle.utf8.specs.Steps.{Bounded, AsciiTo, tails, followed}

-- ---- tests
either : {A : Type 0} (a b : Bool) → a || b ≡ true → (a ≡ true → A) → (b ≡ true → A) → A
either true b h f g = f refl
either false b h f g = g h

-- ---- a byte of a part that reaches to the text's end, and the last of one from its start
pub tail-byte : (s : List ℕ) (p k : ℕ) → p + k < length s → get_or (take (length s - p) (drop p s)) k 0 ≡ get_or s (p + k) 0
tail-byte s p k h = get_or-take (length s - p) (drop p s) k 0 (omega arith) ∙ get_or-drop p s k 0

pub last-byte : (s : List ℕ) (e : ℕ) → 0 < e → e ≤ length s → get_or (take e s) (length (take e s) - 1) 0 ≡ get_or s (e - 1) 0
last-byte s e h l = rw (length-take-le e s l) (get_or-take e s (e - 1) 0 (omega arith))

-- ---- a byte in a range
pub in_range : (b low high : ℕ) → low ≤ b → b ≤ high → within b (low to high) ≡ true
in_range b low high h g = rw (le-leb low b h, le-leb b high g)

pub below_range : (b low high : ℕ) → b < low → within b (low to high) ≡ false
below_range b low high h = rw (lt-leb low b h)

pub above_range : (b low high : ℕ) → high < b → within b (low to high) ≡ false
above_range b low high h = rw (lt-leb b high h) (and-false (leb low b))

pub range_low : (b low high : ℕ) → within b (low to high) ≡ true → low ≤ b
range_low b low high h = leb-true low b ((and-eq-true_iff (leb low b) (leb b high)).0 h).0

pub range_high : (b low high : ℕ) → within b (low to high) ≡ true → b ≤ high
range_high b low high h = leb-true b high ((and-eq-true_iff (leb low b) (leb b high)).0 h).1

-- ---- a row at a place
module _ (s : List ℕ) (p : ℕ) (r : Range) (rs : List Range) where
  pub fits_in : p < length s → within (get_or s p 0) r ≡ true → fits_at s p (r ∷ rs) ≡ fits_at s (p + 1) rs
  unfolding fits_at
  fits_in h g = rw (lt-ltb p (length s) h, g)

  pub fits_not : within (get_or s p 0) r ≡ false → fits_at s p (r ∷ rs) ≡ false
  unfolding fits_at
  fits_not g = rw (g, and-false (ltb p (length s)))

  pub fits-first : fits_at s p (r ∷ rs) ≡ true → (p < length s) × (within (get_or s p 0) r ≡ true) × (fits_at s (p + 1) rs ≡ true)
  unfolding fits_at
  fits-first h =
      let a = (and-eq-true_iff (ltb p (length s) && within (get_or s p 0) r) (fits_at s (p + 1) rs)).0 h in
      let b = (and-eq-true_iff (ltb p (length s)) (within (get_or s p 0) r)).0 a.0 in
      (ltb-true p (length s) b.0, b.1, a.1)

fits-none : (s : List ℕ) (p : ℕ) → fits_at s p [] ≡ true
unfolding fits_at
fits-none s p = refl

pub fits-within : (s : List ℕ) (p : ℕ) (rs : List Range) → p ≤ length s → fits_at s p rs ≡ true → p + length rs ≤ length s
fits-within s p [] h g = omega arith
fits-within s p (r ∷ rs) h g =
    let f = fits-first s p r rs g in
    omega (arith, f.0, fits-within s (p + 1) rs (omega (arith, f.0)) f.2)

pub fits-short : (s : List ℕ) (p : ℕ) (rs : List Range) → p ≤ length s → length s < p + length rs → fits_at s p rs ≡ false
fits-short s p rs h g = by-test (fits_at s p rs) (λ e. absurd (omega (arith, fits-within s p rs h e))) (λ e. e)

-- a row depends on the bytes that it covers alone
pub fits-same : (s t : List ℕ) (p q : ℕ) (rs : List Range) → q + length rs ≤ length t
    → ((i : ℕ) → i < length rs → get_or s (p + i) 0 ≡ get_or t (q + i) 0)
    → fits_at s p rs ≡ true → fits_at t q rs ≡ true
unfolding fits_at
fits-same s t p q [] h e g = refl
fits-same s t p q (r ∷ rs) h e g =
    let f = fits-first s p r rs g in
    let b : get_or s p 0 ≡ get_or t q 0 = simp add-zero at (e 0 (omega arith)) in
    fits_in t q r rs (omega arith) (rw b at f.1) ∙ fits-same s t (p + 1) (q + 1) rs (omega arith) rest f.2
  where
    rest : (i : ℕ) → i < length rs → get_or s (p + 1 + i) 0 ≡ get_or t (q + 1 + i) 0
    rest i l =
        let a : p + 1 + i ≡ p + (i + 1) = omega arith in
        let b : q + 1 + i ≡ q + (i + 1) = omega arith in
        rw (a, b) (e (i + 1) (omega arith))

-- ---- rows whose first ranges are apart
abbrev apart : Range → Range → Bool
apart (a to b) (c to d) = ltb d a || ltb b c

abbrev alone : Range → List (List Range) → Bool
alone r [] = true
alone r ([] ∷ rows) = false
alone r ((q ∷ qs) ∷ rows) = apart r q && alone r rows

abbrev disjoint : List (List Range) → Bool
disjoint [] = true
disjoint ([] ∷ rows) = false
disjoint ((r ∷ rs) ∷ rows) = alone r rows && disjoint rows

apart_not : (b : ℕ) (q r : Range) → apart r q ≡ true → within b r ≡ true → within b q ≡ false
apart_not b (c to d) (l to h) w g =
    either (ltb d l) (ltb h c) w (λ e. above_range b c d (omega (arith, ltb-true d l e, range_low b l h g)))
    (λ e. below_range b c d (omega (arith, ltb-true h c e, range_high b l h g)))

module _ (s : List ℕ) (p : ℕ) where
  first-skip : (row : List Range) (rows : List (List Range)) → fits_at s p row ≡ false → first_fit s p (row ∷ rows) ≡ first_fit s p rows
  unfolding first_fit
  first-skip row rows e = rw e

  first-here : (row : List Range) (rows : List (List Range)) → fits_at s p row ≡ true → first_fit s p (row ∷ rows) ≡ length row
  unfolding first_fit
  first-here row rows e = rw e

  first-none : (r : Range) (rows : List (List Range)) → alone r rows ≡ true → within (get_or s p 0) r ≡ true → first_fit s p rows ≡ 0
  unfolding first_fit
  first-none r [] a g = refl
  first-none r ([] ∷ rows) a g = absurd (true≢false (sym a))
  first-none r ((q ∷ qs) ∷ rows) a g =
      let d = (and-eq-true_iff (apart r q) (alone r rows)).0 a in
      first-skip (q ∷ qs) rows (fits_not s p q qs (apart_not (get_or s p 0) q r d.0 g)) ∙ first-none r rows d.1 g

  -- the one row that can fit
  first-only : (before after : List (List Range)) (r : Range) (rs : List Range) → alone r before ≡ true → alone r after ≡ true → p < length s
      → within (get_or s p 0) r ≡ true
      → first_fit s p (before ++ (r ∷ rs) ∷ after) ≡ cond (fits_at s (p + 1) rs) (suc (length rs)) 0
  unfolding first_fit
  first-only [] after r rs a b h g = rw (fits_in s p r rs h g, first-none r after b g)
  first-only ([] ∷ before) after r rs a b h g = absurd (true≢false (sym a))
  first-only ((q ∷ qs) ∷ before) after r rs a b h g =
      let d = (and-eq-true_iff (apart r q) (alone r before)).0 a in
      first-skip (q ∷ qs) (before ++ (r ∷ rs) ∷ after) (fits_not s p q qs (apart_not (get_or s p 0) q r d.0 g))
      ∙ first-only before after r rs d.1 b h g

  pub at_row : (i : ℕ) (r : Range) (rs : List Range) → table ≡ take i table ++ (r ∷ rs) ∷ drop (suc i) table → alone r (take i table) ≡ true
      → alone r (drop (suc i) table) ≡ true
      → p < length s → within (get_or s p 0) r ≡ true → sequence_at s p ≡ cond (fits_at s (p + 1) rs) (suc (length rs)) 0
  unfolding sequence_at
  at_row i r rs e a b h g = ap (first_fit s p) e ∙ first-only (take i table) (drop (suc i) table) r rs a b h g

  -- no row fits at a byte of a range that is apart from every first range
  pub no_row : (r : Range) → alone r table ≡ true → within (get_or s p 0) r ≡ true → sequence_at s p ≡ 0
  unfolding sequence_at
  no_row r a g = first-none r table a g

-- ---- how long a sequence is
abbrev short : List (List Range) → Bool
short [] = true
short (row ∷ rows) = leb (length row) 4 && short rows

module _ (s : List ℕ) (p : ℕ) where
  first_short : (rows : List (List Range)) → short rows ≡ true → first_fit s p rows ≤ 4
  unfolding first_fit
  first_short [] d = omega arith
  first_short (row ∷ rows) d =
      let e = (and-eq-true_iff (leb (length row) 4) (short rows)).0 d in
      by-test (fits_at s p row) (λ f. rw (first-here s p row rows f) (leb-true (length row) 4 e.0))
      (λ f. rw (first-skip s p row rows f) (first_short rows e.1))

  first-within : (rows : List (List Range)) → p ≤ length s → p + first_fit s p rows ≤ length s
  unfolding first_fit
  first-within [] h = omega arith
  first-within (row ∷ rows) h =
      by-test (fits_at s p row) (λ f. rw (first-here s p row rows f) (fits-within s p row h f))
      (λ f. rw (first-skip s p row rows f) (first-within rows h))

  pub sequence-short : sequence_at s p ≤ 4
  unfolding sequence_at
  sequence-short = first_short table refl

  pub sequence-within : p ≤ length s → p + sequence_at s p ≤ length s
  unfolding sequence_at
  sequence-within h = first-within table h

  pub sequenced : (r : ℕ) → p ≤ length s → r ≡ sequence_at s p → Sequence s p r
  sequenced r h e = record { is = e; short = rw e sequence-short; within_text = rw e (sequence-within h) }

-- ---- a sequence depends on its own bytes alone
module _ (s t : List ℕ) (p q n : ℕ) (l : 0 < n) (h : q + n ≤ length t) (e : (i : ℕ) → i < n → get_or s (p + i) 0 ≡ get_or t (q + i) 0) where
  lead_same : get_or s p 0 ≡ get_or t q 0
  lead_same = simp add-zero at (e 0 l)

  row_same : (row : List Range) → length row ≡ n → fits_at s p row ≡ true → fits_at t q row ≡ true
  row_same row m f = fits-same s t p q row (omega arith) (λ i k. e i (omega arith)) f

  first-same : (rows : List (List Range)) → disjoint rows ≡ true → first_fit s p rows ≡ n → first_fit t q rows ≡ n
  unfolding first_fit
  first-same [] d w = w
  first-same ([] ∷ rows) d w = absurd (true≢false (sym d))
  first-same ((r ∷ rs) ∷ rows) d w =
      let a = (and-eq-true_iff (alone r rows) (disjoint rows)).0 d in
      by-test (fits_at s p (r ∷ rs))
      (λ f. let m : length (r ∷ rs) ≡ n = sym (first-here s p (r ∷ rs) rows f) ∙ w in first-here t q (r ∷ rs) rows (row_same (r ∷ rs) m f) ∙ m)
      (λ f.
      let z : first_fit s p rows ≡ n = sym (first-skip s p (r ∷ rs) rows f) ∙ w in
      by-test (within (get_or s p 0) r)
      (λ g. absurd (omega (arith, first-none s p r rows a.0 g)))
      (λ g. first-skip t q (r ∷ rs) rows (fits_not t q r rs (rw lead_same at g)) ∙ first-same rows a.1 z))

  pub sequence-same : sequence_at s p ≡ n → sequence_at t q ≡ n
  unfolding sequence_at
  sequence-same w = first-same table refl w

-- a well-formed sequence is found where it stands
pub well_at : (w a t : List ℕ) → WellFormed w → sequence_at (a ++ (w ++ t)) (length a) ≡ length w
well_at w a t f =
    sequence-same w (a ++ (w ++ t)) 0 (length a) (length w) f.some_byte (simp length-append (omega arith)) agree f.whole
  where
    agree : (i : ℕ) → i < length w → get_or w (0 + i) 0 ≡ get_or (a ++ (w ++ t)) (length a + i) 0
    agree i l = rw (get_or-append-add a (w ++ t) i 0, get_or-append w t 0 i l, zero-add i)

-- what stands at a place is a well-formed sequence
module _ (s : List ℕ) (p n : ℕ) (h : p ≤ length s) (w : sequence_at s p ≡ n) (l : 0 < n) where
  pub part_length : length (take n (drop p s)) ≡ n
  part_length = length-take-le n (drop p s) (simp length-drop (omega (arith, sequence-within s p h)))

  pub part-agrees : (i : ℕ) → i < n → get_or s (p + i) 0 ≡ get_or (take n (drop p s)) (0 + i) 0
  part-agrees i k = rw (zero-add i, get_or-take n (drop p s) i 0 k, get_or-drop p s i 0)

  pub well_part : WellFormed (take n (drop p s))
  well_part =
      record {
        some_byte = rw part_length l;
        whole = sequence-same s (take n (drop p s)) p 0 n l (omega (arith, part_length)) part-agrees w ∙ sym part_length;
      }

-- ---- texts of sequences
pub utf8_append : {a b : List ℕ} → Utf8 a → Utf8 b → Utf8 (a ++ b)
utf8_append empty v = v
utf8_append {b = b} (sequence {w} {s} f u) v = rw (append_assoc w s b) (sequence f (utf8_append u v))

pub utf8_one : {w : List ℕ} → WellFormed w → Utf8 w
utf8_one {w} f = rw (append-nil w) at (sequence f empty)

-- ---- where the sequences end
abbrev pub end_from : List ℕ → ℕ → ℕ
end_from s p = loop (length s) (utf8_turn s) (λ i x. i) p tt

module _ (s : List ℕ) where
  pub end_start : utf8_end s ≡ end_from s 0
  unfolding utf8_end
  end_start = refl

  pub end_out : (p : ℕ) → length s ≤ p → end_from s p ≡ p
  end_out p h = loop-out (length s) (utf8_turn s) (λ i x. i) p tt h

  pub end_here : (p : ℕ) → p < length s → sequence_at s p ≡ 0 → end_from s p ≡ p
  end_here p h e = loop-halt (length s) (utf8_turn s) (λ i x. i) p tt p h (rw e)

  pub end_on : (p n : ℕ) → p < length s → sequence_at s p ≡ n → 0 < n → end_from s p ≡ end_from s (p + n)
  end_on p n h e l = loop-more (length s) (utf8_turn s) (λ i x. i) p tt (p + n) tt h (rw (e, ne_eqb n 0 (λ z. omega arith))) (omega arith)

  -- what holds of a place and of each after it where a sequence more has passed, holds of the end
  end_ind : (Inv : ℕ → Type 0) → ((p n : ℕ) → p < length s → Inv p → sequence_at s p ≡ n → 0 < n → Inv (p + n)) → (p : ℕ) → Inv p → Inv (end_from s p)
  end_ind Inv step p i = loop-ind (length s) (utf8_turn s) (λ j x. j) (λ j x. Inv j) Inv halts goes (λ j x h k. k) p tt i
    where
      halts : (j : ℕ) (x : Unit {0}) (r : ℕ) → j < length s → Inv j → utf8_turn s j x ≡ halt r → Inv r
      halts j x r h k w =
          by-test (eqb (sequence_at s j) 0) (λ e. subst Inv (halt-inj (rw e at w)) k) (λ e. absurd (more≢halt (rw e at w)))

      goes : (j : ℕ) (x : Unit {0}) (q : ℕ) (y : Unit {0}) → j < length s → Inv j → utf8_turn s j x ≡ more q y → (j < q) × Inv q
      goes j x q y h k w =
          by-test (eqb (sequence_at s j) 0)
          (λ e. absurd (halt≢more (rw e at w)))
          (λ e.
          let z : j + sequence_at s j ≡ q = more-inj (rw e at w) in
          let l : 0 < sequence_at s j = omega (arith, eqb-false (sequence_at s j) 0 e) in
          (omega arith, subst Inv z (step j (sequence_at s j) h k refl l)))

  pub end_low : (p : ℕ) → p ≤ end_from s p
  end_low p = end_ind (λ j. p ≤ j) (λ j n h k w l. omega arith) p (omega arith)

  pub end_within : utf8_end s ≤ length s
  unfolding utf8_end
  end_within = end_ind (λ j. j ≤ length s) (λ j n h k w l. omega (arith, sequence-within s j k)) 0 (omega arith)

  utf8_on : (p n : ℕ) → p < length s → Utf8 (take p s) → sequence_at s p ≡ n → 0 < n → Utf8 (take (p + n) s)
  utf8_on p n h v w l = rw (take-add p n s) (utf8_append v (utf8_one (well_part s p n (omega arith) w l)))

  pub end_valid : Utf8 (take (utf8_end s) s)
  unfolding utf8_end
  end_valid = end_ind (λ j. Utf8 (take j s)) utf8_on 0 empty

-- sequences from a place on are passed
utf8_passed : (a t : List ℕ) {v : List ℕ} → Utf8 v → length a + length v ≤ end_from (a ++ (v ++ t)) (length a)
utf8_passed a t empty = omega (arith, end_low (a ++ t) (length a))
utf8_passed a t (sequence {w = w} {s = v} f u) =
    let i : a ++ ((w ++ v) ++ t) ≡ a ++ (w ++ (v ++ t)) = simp append_assoc in
    let j : (a ++ w) ++ (v ++ t) ≡ a ++ (w ++ (v ++ t)) = simp append_assoc in
    let k : length (a ++ w) + length v ≤ end_from ((a ++ w) ++ (v ++ t)) (length (a ++ w)) = utf8_passed (a ++ w) t u in
    let k₁ : length a + length w + length v ≤ end_from (a ++ (w ++ (v ++ t))) (length a + length w) = rw (j, length-append a w) at k in
    let in_text : length a < length (a ++ (w ++ (v ++ t))) = simp length-append (omega (arith, f.some_byte)) in
    let on = end_on (a ++ (w ++ (v ++ t))) (length a) (length w) in_text (well_at w a (v ++ t) f) f.some_byte in
    rw (i, length-append w v, on) (omega arith)

module _ (s : List ℕ) where
  pub end_longest : (n : ℕ) → n ≤ length s → Utf8 (take n s) → n ≤ utf8_end s
  unfolding utf8_end
  end_longest n h v =
      let k = utf8_passed [] (drop n s) v in
      omega (arith, length-take-le n s h, rw (take-append-drop n s) at k)

  pub longest_valid : (r : ℕ) → r ≡ utf8_end s → LongestValid s r
  longest_valid r e =
      record {
        is = e;
        within_text = rw e (end_within s);
        valid = rw e (end_valid s);
        longest = λ n h v. rw e (end_longest n h v);
      }

  -- a text is UTF-8 where its sequences reach its end
  pub utf8-end : Utf8 s → utf8_end s ≡ length s
  utf8-end v =
      let w : Utf8 (take (length s) s) = rw (take-length s) v in
      omega (arith, end_within s, end_longest (length s) (omega arith) w)

  pub end_utf8 : utf8_end s ≡ length s → Utf8 s
  end_utf8 e = rw (e, take-length s) at (end_valid s)

-- ---- what follows UTF-8 in UTF-8 is UTF-8
-- two splits at the same length are one
split_same : (w w' t t' : List ℕ) → w ++ t ≡ w' ++ t' → length w ≡ length w' → t ≡ t'
split_same w w' t t' e l = sym (drop_at w t (length w) refl) ∙ (ap (drop (length w)) e ∙ drop_at w' t' (length w) (sym l))

first-split : {u : List ℕ} → Utf8 u → (w t : List ℕ) → u ≡ w ++ t → WellFormed w → Utf8 t
first-split empty w t e f = absurd (omega (arith, f.some_byte, simp length-append at (ap length e)))
first-split (sequence {w = w'} {s = t'} f' v) w t e f =
    let a : sequence_at (w ++ t) 0 ≡ length w = well_at w [] t f in
    let b : sequence_at (w' ++ t') 0 ≡ length w' = well_at w' [] t' f' in
    let l : length w' ≡ length w = cc in
    subst Utf8 (split_same w' w t' t e l) v

pub utf8_rest : {a b : List ℕ} → Utf8 a → Utf8 (a ++ b) → Utf8 b
utf8_rest empty v = v
utf8_rest {b = b} (sequence {w} {s} f u) v = utf8_rest u (first-split v w (s ++ b) (append_assoc w s b) f)

-- ---- ASCII
pub ascii-formed : (b : ℕ) → b < 128 → WellFormed (b ∷ [])
unfolding fits_at
ascii-formed b h =
    record {
      some_byte = omega arith;
      whole = at_row (b ∷ []) 0 0 (0x00 to 0x7F) [] refl refl refl (omega arith)
          (in_range b 0x00 0x7F (omega arith) (omega arith));
    }

pub utf8_byte : (b : ℕ) → b < 128 → Utf8 (b ∷ [])
utf8_byte b h = utf8_one (ascii-formed b h)

pub utf8_ascii : (a : List ℕ) → ((i : ℕ) → i < length a → get_or a i 0 < 128) → Utf8 a
utf8_ascii [] h = empty
utf8_ascii (b ∷ a) h = sequence {w = b ∷ []} (ascii-formed b (h 0 (omega arith))) (utf8_ascii a (λ i l. h (suc i) (omega arith)))

pub utf8_past_ascii : (a b : List ℕ) → ((i : ℕ) → i < length a → get_or a i 0 < 128) → Utf8 (a ++ b) → Utf8 b
utf8_past_ascii a b h v = utf8_rest (utf8_ascii a h) v

-- ---- a sequence that does not start with ASCII has none
abbrev high : List Range → Bool
high [] = true
high ((a to b) ∷ rs) = leb 128 a && high rs

-- each row starts with ASCII alone or has none
abbrev clear : List (List Range) → Bool
clear [] = true
clear ([] ∷ rows) = clear rows
clear (((a to b) ∷ rs) ∷ rows) = (ltb b 128 || high ((a to b) ∷ rs)) && clear rows

module _ (s : List ℕ) where
  fits-high : (p : ℕ) (rs : List Range) → high rs ≡ true → fits_at s p rs ≡ true → (i : ℕ) → i < length rs → 128 ≤ get_or s (p + i) 0
  fits-high p [] d f i l = absurd (omega arith)
  fits-high p ((a to b) ∷ rs) d f zero l =
      let e = (and-eq-true_iff (leb 128 a) (high rs)).0 d in
      rw (add-zero p) (omega (arith, leb-true 128 a e.0, range_low (get_or s p 0) a b (fits-first s p (a to b) rs f).1))
  fits-high p ((a to b) ∷ rs) d f (suc i) l =
      let e = (and-eq-true_iff (leb 128 a) (high rs)).0 d in
      let z : p + suc i ≡ p + 1 + i = omega arith in
      rw z (fits-high (p + 1) rs e.1 (fits-first s p (a to b) rs f).2 i (omega arith))

  first-high : (p : ℕ) (rows : List (List Range)) → clear rows ≡ true → 128 ≤ get_or s p 0 → (i : ℕ) → i < first_fit s p rows → 128 ≤ get_or s (p + i) 0
  unfolding first_fit
  first-high p [] d h i l = absurd (omega arith)
  first-high p ([] ∷ rows) d h i l = absurd (omega (arith, rw (first-here s p [] rows (fits-none s p)) at l))
  first-high p (((a to b) ∷ rs) ∷ rows) d h i l =
      let e = (and-eq-true_iff (ltb b 128 || high ((a to b) ∷ rs)) (clear rows)).0 d in
      by-test (fits_at s p ((a to b) ∷ rs))
      (λ f.
      either (ltb b 128) (high ((a to b) ∷ rs)) e.0
      (λ k. absurd (omega (arith, ltb-true b 128 k, range_high (get_or s p 0) a b (fits-first s p (a to b) rs f).1)))
      (λ k. fits-high p ((a to b) ∷ rs) k f i (rw (first-here s p ((a to b) ∷ rs) rows f) at l)))
      (λ f. first-high p rows e.1 h i (rw (first-skip s p ((a to b) ∷ rs) rows f) at l))

  pub sequence-high : (p i : ℕ) → 128 ≤ get_or s p 0 → i < sequence_at s p → 128 ≤ get_or s (p + i) 0
  unfolding sequence_at
  sequence-high p i h l = first-high p table refl h i l

pub well_high : (w : List ℕ) → WellFormed w → 128 ≤ get_or w 0 0 → (i : ℕ) → i < length w → 128 ≤ get_or w i 0
well_high w f h i l = rw (zero-add i) at (sequence-high w 0 i h (rw f.whole l))

-- ---- the bytes after the first
length_tails : (k : ℕ) → length (tails k) ≡ k
length_tails zero = refl
length_tails (suc k) = ap suc (length_tails k)

module _ (s : List ℕ) (p width low high : ℕ) where
  pub followed-short : p < length s → 2 ≤ width → length s - p < width → followed s p width low high ≡ 0
  unfolding followed
  followed-short h k g =
      rw (fits-short s (p + 1) (low to high ∷ tails (width - 2)) (omega arith) (omega (arith, length_tails (width - 2))))

  pub followed-not : within (get_or s (p + 1) 0) (low to high) ≡ false → followed s p width low high ≡ 0
  unfolding followed
  followed-not g = rw (fits_not s (p + 1) (low to high) (tails (width - 2)) g)

  pub followed-in : p + 1 < length s → low ≤ get_or s (p + 1) 0 → get_or s (p + 1) 0 ≤ high
      → followed s p width low high ≡ cond (fits_at s (p + 2) (tails (width - 2))) width 0
  unfolding followed
  followed-in h g k =
      let z : p + 1 + 1 ≡ p + 2 = omega arith in
      rw (fits_in s (p + 1) (low to high) (tails (width - 2)) h (in_range (get_or s (p + 1) 0) low high g k), z)

-- the bytes after the second, as std's test of them all tells
tails-all : (s : List ℕ) (q n : ℕ) → q + n ≤ length s → fits_at s q (tails n) ≡ list_all (λ b. leb 0x80 b && leb b 0xBF) (take n (drop q s))
unfolding fits_at
tails-all s q zero h = refl
tails-all s q (suc n) h =
    let l : q < length s = omega arith in
    rw (lt-ltb q (length s) l, drop-cons s q 0 l, tails-all s (q + 1) n (omega arith), add-one q)

module _ (s : List ℕ) (p width low high : ℕ) (w : 2 ≤ width) (l : width ≤ length s - p) (b : (leb low (get_or s (p + 1) 0) && leb (get_or s (p + 1) 0) high) ≡ true)
    (rest : Bool) (e : rest ≡ list_all (λ b. leb 0x80 b && leb b 0xBF) (take (p + width - (p + 2)) (drop (p + 2) s)))
  where
    pub followed-rest : followed s p width low high ≡ cond rest width 0
    followed-rest =
        let n : p + width - (p + 2) ≡ width - 2 = omega arith in
        followed-in s p width low high (omega arith) (range_low (get_or s (p + 1) 0) low high b) (range_high (get_or s (p + 1) 0) low high b)
        ∙ rw (tails-all s (p + 2) (width - 2) (omega arith), ← n, ← e)

module _ (s : List ℕ) (p width i : ℕ) where
  pub rest_in : i < width → p + i < length s → 0x80 ≤ get_or s (p + i) 0 → get_or s (p + i) 0 ≤ 0xBF
      → cond (fits_at s (p + i) (tails (width - i))) width 0 ≡ cond (fits_at s (p + (i + 1)) (tails (width - (i + 1)))) width 0
  rest_in l h g k =
      let z : width - i ≡ suc (width - (i + 1)) = omega arith in
      let y : p + i + 1 ≡ p + (i + 1) = omega arith in
      rw (z, fits_in s (p + i) (0x80 to 0xBF) (tails (width - (i + 1))) h (in_range (get_or s (p + i) 0) 0x80 0xBF g k), y)

  pub rest_out : width ≤ i → cond (fits_at s (p + i) (tails (width - i))) width 0 ≡ width
  rest_out h =
      let z : width - i ≡ 0 = omega arith in
      rw (z, fits-none s (p + i))

-- ---- what stands at a place, by the lead byte
-- a lead byte from a to b, of the row with that range: the bytes after it decide
module _ (s : List ℕ) (p i a b width low high : ℕ) where
  pub sequence-row : table ≡ take i table ++ (a to b ∷ low to high ∷ tails (width - 2)) ∷ drop (suc i) table → alone (a to b) (take i table) ≡ true
      → alone (a to b) (drop (suc i) table) ≡ true
      → length (a to b ∷ low to high ∷ tails (width - 2)) ≡ width → p < length s → a ≤ get_or s p 0 → get_or s p 0 ≤ b → (r : ℕ)
      → r ≡ followed s p width low high → Sequence s p r
  unfolding followed
  sequence-row e f g l h k m r w =
      sequenced s p r (omega arith)
      (w ∙ sym (at_row s p i (a to b) (low to high ∷ tails (width - 2)) e f g h (in_range (get_or s p 0) a b k m) ∙ rw l))

-- the two commonest rows, by their bytes
module _ (s : List ℕ) (p : ℕ) where
  pub sequence-two : p + 1 < length s → 0xC2 ≤ get_or s p 0 → get_or s p 0 ≤ 0xDF → 0x80 ≤ get_or s (p + 1) 0 → get_or s (p + 1) 0 ≤ 0xBF → Sequence s p 2
  sequence-two h a b c d =
      sequence-row s p 1 0xC2 0xDF 2 0x80 0xBF refl refl refl refl (omega arith) a b 2
      (sym (followed-in s p 2 0x80 0xBF h c d ∙ rest_out s p 2 2 (omega arith)))

  pub sequence-three : p + 2 < length s → 0xE1 ≤ get_or s p 0 → get_or s p 0 ≤ 0xEC → 0x80 ≤ get_or s (p + 1) 0 → get_or s (p + 1) 0 ≤ 0xBF
      → 0x80 ≤ get_or s (p + 2) 0 → get_or s (p + 2) 0 ≤ 0xBF → Sequence s p 3
  sequence-three h a b c d e f =
      sequence-row s p 3 0xE1 0xEC 3 0x80 0xBF refl refl refl refl (omega arith) a b 3
      (sym (followed-in s p 3 0x80 0xBF (omega arith) c d ∙ (rest_in s p 3 2 (omega arith) h e f ∙ rest_out s p 3 3 (omega arith))))

pub sequence-ascii : (s : List ℕ) (p : ℕ) → p < length s → get_or s p 0 ≤ 0x7F → Sequence s p 1
sequence-ascii s p h g =
    sequenced s p 1 (omega arith)
    (sym (at_row s p 0 (0x00 to 0x7F) [] refl refl refl h (in_range (get_or s p 0) 0x00 0x7F (omega arith) g) ∙ rw (fits-none s (p + 1))))

-- no row's first range reaches from low to high
pub sequence-none : (s : List ℕ) (p low high : ℕ) → alone (low to high) table ≡ true → p < length s → low ≤ get_or s p 0 → get_or s p 0 ≤ high
    → Sequence s p 0
sequence-none s p low high a h g k = sequenced s p 0 (omega arith) (sym (no_row s p (low to high) a (in_range (get_or s p 0) low high g k)))

-- ---- the bytes of a character
pub encode-1 : (c : ℕ) → c < 0x80 → encode c ≡ c ∷ []
unfolding encode
encode-1 c h = rw (lt-ltb c 0x80 h)

pub encode-2 : (c : ℕ) → 0x80 ≤ c → c < 0x800 → encode c ≡ (0xC0 + c / 64) ∷ (0x80 + c % 64) ∷ []
unfolding encode
encode-2 c h g = rw (le-ltb c 0x80 h, lt-ltb c 0x800 g)

pub encode-3 : (c : ℕ) → 0x800 ≤ c → c < 0x10000 → encode c ≡ (0xE0 + c / 4096) ∷ (0x80 + c / 64 % 64) ∷ (0x80 + c % 64) ∷ []
unfolding encode
encode-3 c h g = rw (le-ltb c 0x80 (omega arith), le-ltb c 0x800 h, lt-ltb c 0x10000 g)

pub encode-4 : (c : ℕ) → 0x10000 ≤ c → encode c ≡ (0xF0 + c / 262144) ∷ (0x80 + c / 4096 % 64) ∷ (0x80 + c / 64 % 64) ∷ (0x80 + c % 64) ∷ []
unfolding encode
encode-4 c h = rw (le-ltb c 0x80 (omega arith), le-ltb c 0x800 (omega arith), le-ltb c 0x10000 h)

-- what holds of the bytes in each of the four ranges of Table 3-6 holds of a character's bytes
pub encoded : (P : List ℕ → Type 0) (c : ℕ)
    → (c < 0x80 → P (c ∷ []))
    → (0x80 ≤ c → c < 0x800 → P ((0xC0 + c / 64) ∷ (0x80 + c % 64) ∷ []))
    → (0x800 ≤ c → c < 0x10000 → P ((0xE0 + c / 4096) ∷ (0x80 + c / 64 % 64) ∷ (0x80 + c % 64) ∷ []))
    → (0x10000 ≤ c → P ((0xF0 + c / 262144) ∷ (0x80 + c / 4096 % 64) ∷ (0x80 + c / 64 % 64) ∷ (0x80 + c % 64) ∷ []))
    → P (encode c)
encoded P c one two three four =
    by-test (ltb c 0x80) (λ e. let h = ltb-true c 0x80 e in rw (encode-1 c h) (one h)) (λ e. let h = ltb-false c 0x80 e in
    by-test (ltb c 0x800) (λ f. let g = ltb-true c 0x800 f in rw (encode-2 c h g) (two h g)) (λ f. let g = ltb-false c 0x800 f in
    by-test (ltb c 0x10000) (λ d. let k = ltb-true c 0x10000 d in rw (encode-3 c g k) (three g k))
    (λ d. let k = ltb-false c 0x10000 d in rw (encode-4 c k) (four k))))

pub encode-some : (c : ℕ) → 0 < length (encode c)
encode-some c = encoded (λ w. 0 < length w) c (λ h. omega arith) (λ h g. omega arith) (λ h g. omega arith) (λ h. omega arith)

pub encode-short : (c : ℕ) → length (encode c) ≤ 4
encode-short c = encoded (λ w. length w ≤ 4) c (λ h. omega arith) (λ h g. omega arith) (λ h g. omega arith) (λ h. omega arith)

pub scalar-small : (c : ℕ) → scalar c ≡ true → c < 0x110000
unfolding scalar
scalar-small c h =
    either (ltb c 0xD800) (leb 0xE000 c && ltb c 0x110000) h (λ e. omega (arith, ltb-true c 0xD800 e))
    (λ e. ltb-true c 0x110000 ((and-eq-true_iff (leb 0xE000 c) (ltb c 0x110000)).0 e).1)

pub scalar-apart : (c : ℕ) → scalar c ≡ true → 0xD800 ≤ c → 0xE000 ≤ c
unfolding scalar
scalar-apart c h g =
    either (ltb c 0xD800) (leb 0xE000 c && ltb c 0x110000) h (λ e. absurd (omega (arith, ltb-true c 0xD800 e)))
    (λ e. leb-true 0xE000 c ((and-eq-true_iff (leb 0xE000 c) (ltb c 0x110000)).0 e).0)

-- a character is read back from its bytes
tail_bits : (x : ℕ) → (0x80 + x % 64) % 64 ≡ x % 64
tail_bits x = omega arith

lead_bits_3 : (a : ℕ) → a < 16 → (0xE0 + a) % 16 ≡ a
lead_bits_3 a h = omega arith

lead_bits_4 : (a : ℕ) → a < 8 → (0xF0 + a) % 8 ≡ a
lead_bits_4 a h = omega arith

join-3 : (c : ℕ) → c / 4096 * 4096 + c / 64 % 64 * 64 + c % 64 ≡ c
join-3 c = omega arith

join-4 : (c : ℕ) → c / 262144 * 262144 + c / 4096 % 64 * 4096 + c / 64 % 64 * 64 + c % 64 ≡ c
join-4 c = omega (arith, join-3 c)

pub char_encode : (c : ℕ) → scalar c ≡ true → char_at (encode c) 0 (length (encode c)) ≡ c
unfolding char_at
char_encode c k =
    let l = scalar-small c k in
    encoded (λ w. char_at w 0 (length w) ≡ c) c
    (λ h. refl)
    (λ h g. omega arith)
    (λ h g. rw (lead_bits_3 (c / 4096) (omega arith), tail_bits (c / 64), tail_bits c) (join-3 c))
    (λ h. rw (lead_bits_4 (c / 262144) (omega arith), tail_bits (c / 4096), tail_bits (c / 64), tail_bits c) (join-4 c))

-- bytes that lie in the ranges of a row, as many as it has
module _ (i : ℕ) (r : Range) (rs : List Range) (e : table ≡ take i table ++ (r ∷ rs) ∷ drop (suc i) table) (a : alone r (take i table) ≡ true)
    (b : alone r (drop (suc i) table) ≡ true) where
  formed_row : (w : List ℕ) → length w ≡ suc (length rs) → fits_at w 0 (r ∷ rs) ≡ true → WellFormed w
  formed_row w l f =
      let d = fits-first w 0 r rs f in
      record { some_byte = omega arith; whole = at_row w 0 i r rs e a b d.0 d.1 ∙ rw (d.2, l) }

fits-2 : (a b : ℕ) (q r : Range) → within a q ≡ true → within b r ≡ true → fits_at (a ∷ b ∷ []) 0 (q ∷ r ∷ []) ≡ true
unfolding fits_at
fits-2 a b q r g h = rw (g, h)

fits-3 : (a b c : ℕ) (q r s : Range) → within a q ≡ true → within b r ≡ true → within c s ≡ true → fits_at (a ∷ b ∷ c ∷ []) 0 (q ∷ r ∷ s ∷ []) ≡ true
unfolding fits_at
fits-3 a b c q r s g h k = rw (g, h, k)

fits-4 : (a b c d : ℕ) (q r s t : Range) → within a q ≡ true → within b r ≡ true → within c s ≡ true → within d t ≡ true
    → fits_at (a ∷ b ∷ c ∷ d ∷ []) 0 (q ∷ r ∷ s ∷ t ∷ []) ≡ true
unfolding fits_at
fits-4 a b c d q r s t g h k l = rw (g, h, k, l)

tail_in : (x : ℕ) → within (0x80 + x % 64) (0x80 to 0xBF) ≡ true
tail_in x = in_range (0x80 + x % 64) 0x80 0xBF (omega arith) (omega arith)

-- three bytes and four, of the row i, whose first range is from a to b and whose second from low to high
module _ (c i a b low high : ℕ) where
  formed_3 : table ≡ take i table ++ (a to b ∷ low to high ∷ 0x80 to 0xBF ∷ []) ∷ drop (suc i) table → alone (a to b) (take i table) ≡ true
      → alone (a to b) (drop (suc i) table) ≡ true
      → a ≤ 0xE0 + c / 4096 → 0xE0 + c / 4096 ≤ b → low ≤ 0x80 + c / 64 % 64 → 0x80 + c / 64 % 64 ≤ high
      → WellFormed ((0xE0 + c / 4096) ∷ (0x80 + c / 64 % 64) ∷ (0x80 + c % 64) ∷ [])
  formed_3 e f g h k l m =
      formed_row i (a to b) (low to high ∷ 0x80 to 0xBF ∷ []) e f g _ refl
      (fits-3 (0xE0 + c / 4096) (0x80 + c / 64 % 64) (0x80 + c % 64) (a to b) (low to high) (0x80 to 0xBF)
      (in_range (0xE0 + c / 4096) a b h k) (in_range (0x80 + c / 64 % 64) low high l m) (tail_in c))

  formed_4 : table ≡ take i table ++ (a to b ∷ low to high ∷ 0x80 to 0xBF ∷ 0x80 to 0xBF ∷ []) ∷ drop (suc i) table
      → alone (a to b) (take i table) ≡ true → alone (a to b) (drop (suc i) table) ≡ true
      → a ≤ 0xF0 + c / 262144 → 0xF0 + c / 262144 ≤ b → low ≤ 0x80 + c / 4096 % 64 → 0x80 + c / 4096 % 64 ≤ high
      → WellFormed ((0xF0 + c / 262144) ∷ (0x80 + c / 4096 % 64) ∷ (0x80 + c / 64 % 64) ∷ (0x80 + c % 64) ∷ [])
  formed_4 e f g h k l m =
      formed_row i (a to b) (low to high ∷ 0x80 to 0xBF ∷ 0x80 to 0xBF ∷ []) e f g _ refl
      (fits-4 (0xF0 + c / 262144) (0x80 + c / 4096 % 64) (0x80 + c / 64 % 64) (0x80 + c % 64) (a to b) (low to high) (0x80 to 0xBF) (0x80 to 0xBF)
      (in_range (0xF0 + c / 262144) a b h k) (in_range (0x80 + c / 4096 % 64) low high l m) (tail_in (c / 64)) (tail_in c))

module _ (c : ℕ) (k : scalar c ≡ true) where
  encoded_2 : 0x80 ≤ c → c < 0x800 → WellFormed ((0xC0 + c / 64) ∷ (0x80 + c % 64) ∷ [])
  encoded_2 h g =
      formed_row 1 (0xC2 to 0xDF) (0x80 to 0xBF ∷ []) refl refl refl _ refl
      (fits-2 (0xC0 + c / 64) (0x80 + c % 64) (0xC2 to 0xDF) (0x80 to 0xBF) (in_range (0xC0 + c / 64) 0xC2 0xDF (omega arith) (omega arith))
      (tail_in c))

  encoded_3 : 0x800 ≤ c → c < 0x10000 → WellFormed ((0xE0 + c / 4096) ∷ (0x80 + c / 64 % 64) ∷ (0x80 + c % 64) ∷ [])
  encoded_3 h g =
      by-test (ltb c 0x1000)
      (λ e. let l = ltb-true c 0x1000 e in formed_3 c 2 0xE0 0xE0 0xA0 0xBF refl refl refl (omega arith) (omega arith) (omega arith)
      (omega arith)) (λ e. let l = ltb-false c 0x1000 e in
      by-test (ltb c 0xD000)
      (λ f. let m = ltb-true c 0xD000 f in formed_3 c 3 0xE1 0xEC 0x80 0xBF refl refl refl (omega arith) (omega arith) (omega arith)
      (omega arith)) (λ f. let m = ltb-false c 0xD000 f in
      by-test (ltb c 0xD800)
      (λ d. let n = ltb-true c 0xD800 d in formed_3 c 4 0xED 0xED 0x80 0x9F refl refl refl (omega arith) (omega arith) (omega arith) (omega arith))
      (λ d. let n = scalar-apart c k (ltb-false c 0xD800 d) in formed_3 c 5 0xEE 0xEF 0x80 0xBF refl refl refl (omega arith) (omega arith)
      (omega arith) (omega arith))))

  encoded_4 : 0x10000 ≤ c → WellFormed ((0xF0 + c / 262144) ∷ (0x80 + c / 4096 % 64) ∷ (0x80 + c / 64 % 64) ∷ (0x80 + c % 64) ∷ [])
  encoded_4 h =
      by-test (ltb c 0x40000)
      (λ e. let l = ltb-true c 0x40000 e in formed_4 c 6 0xF0 0xF0 0x90 0xBF refl refl refl (omega arith) (omega arith) (omega arith)
      (omega arith)) (λ e. let l = ltb-false c 0x40000 e in
      by-test (ltb c 0x100000)
      (λ f. let m = ltb-true c 0x100000 f in formed_4 c 7 0xF1 0xF3 0x80 0xBF refl refl refl (omega arith) (omega arith) (omega arith) (omega arith))
      (λ f. let m = ltb-false c 0x100000 f in let n = scalar-small c k in
      formed_4 c 8 0xF4 0xF4 0x80 0x8F refl refl refl (omega arith) (omega arith) (omega arith) (omega arith)))

  pub encode-formed : WellFormed (encode c)
  encode-formed = encoded WellFormed c (λ h. ascii-formed c h) encoded_2 encoded_3 encoded_4

  pub encode_utf8 : Utf8 (encode c)
  encode_utf8 = utf8_one encode-formed

-- ---- ASCII bytes, which are passed in blocks

module _ (s : List ℕ) (p : ℕ) where
  pub bounded_up : (e r t : ℕ) → r ≤ t → Bounded s p e r → Bounded s p e t
  bounded_up e r t u b k l h = let g : get_or s k 0 ≤ r = b k l h in omega arith

  pub bounded_more : (e e' r : ℕ) → e' ≡ e + 1 → Bounded s p e r → get_or s e 0 ≤ r → Bounded s p e' r
  bounded_more e e' r w b g k l h =
      by-test (eqb k e) (λ q. rw (eqb-true k e q) g) (λ q. let n : k ≡ e → ⊥ = eqb-false k e q in b k l (omega arith))

  pub bounded_join : (e q r : ℕ) → Bounded s p q r → Bounded s q e r → Bounded s p e r
  bounded_join e q r a b k l h = by-test (ltb k q) (λ w. a k l (ltb-true k q w)) (λ w. b k (ltb-false k q w) h)

-- ASCII bytes are sequences of one byte each
pub end_ascii : (s : List ℕ) (n p r : ℕ) → r ≡ p + n → r ≤ length s → Bounded s p r 0x7F → end_from s p ≡ end_from s r
end_ascii s zero p r e h b = let w : r ≡ p = omega arith in rw w
end_ascii s (suc n) p r e h b =
    let g : get_or s p 0 ≤ 0x7F = b p (omega arith) (omega arith) in
    let one : Sequence s p 1 = sequence-ascii s p (omega arith) g in
    end_on s p 1 (omega arith) (sym one.is) (omega arith)
    ∙ end_ascii s n (p + 1) r (omega arith) h (λ k l q. b k (omega arith) q)

pub end_run : (s : List ℕ) (p r : ℕ) → AsciiTo s p r → end_from s p ≡ end_from s r
end_run s p r a = end_ascii s (r - p) p r (omega (arith, a.after)) a.within_text a.ascii
