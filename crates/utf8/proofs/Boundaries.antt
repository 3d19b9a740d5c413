-- Where a character starts, and that a text cut there is UTF-8. Assumes nothing.
--     boundary_start, boundary_end, boundary-inside, boundary-below, boundary-above   what the byte says
--     well_inside              the bytes of a sequence after its first are from 0x80 to 0xBF
--     boundary-on              a place in what follows a text is a boundary where it is one in the whole
--     utf8_cut, utf8_part      the two parts on the sides of a boundary, and that between two, are UTF-8
use Prim.Native.Nat.{ℕ, zero, suc, ◌+◌, ◌-◌, ◌≤◌, ◌<◌}
use mathlib.Core.Path.{◌≡◌, refl, sym, ◌∙◌}
use mathlib.Core.Bool.{Bool, true, false, ◌&&◌, or-true, and-false, and-eq-true_iff, true≢false}
use mathlib.Core.List.{List, [], ◌∷◌, ◌++◌}
use native.Mathlib.Omega.{arith}
use native.Mathlib.Nat.{add-zero, zero-add}
use lib.ListN.{length, get_or, take, drop, length-append, length-drop, take-append-drop, get_or-append}
use lib.Seq.{length-take-le, get_or-append-add, take-append-add, drop-append-add}
use lib.Dec.{eqb, leb, ltb}
use borrow.Author.Tests.{eq-eqb, ne_eqb, le-leb, lt-leb, leb-true, eqb-true, eqb-false, ltb-true, ltb-false}
use Rattle.scan.specs.Part.{string_at}
use Rattle.utf8.specs.Utf8.{Range, ◌to◌, table, fits_at, first_fit, sequence_at, WellFormed, Utf8, empty, sequence, boundary}
use Rattle.scan.proofs.Every.{by-test}
use Rattle.utf8.proofs.Utf8Laws.{range_low, range_high, fits-first}

module _ (s : List ℕ) (i : ℕ) where
  pub boundary_start : i ≡ 0 → boundary s i ≡ true
  unfolding boundary
  boundary_start e = rw (eq-eqb i 0 e)

  pub boundary_end : i ≡ length s → boundary s i ≡ true
  unfolding boundary
  boundary_end e = rw (eq-eqb i (length s) e, or-true)

  module _ (n : i ≡ 0 → ⊥) (h : i < length s) where
    pub boundary-inside : 0x80 ≤ get_or s i 0 → get_or s i 0 ≤ 0xBF → boundary s i ≡ false
    unfolding boundary
    boundary-inside l g =
        rw (ne_eqb i 0 n, ne_eqb i (length s) (λ e. omega arith), le-leb 0x80 (get_or s i 0) l, le-leb (get_or s i 0) 0xBF g)

    pub boundary-below : get_or s i 0 < 0x80 → boundary s i ≡ true
    unfolding boundary
    boundary-below l = rw (ne_eqb i 0 n, ne_eqb i (length s) (λ e. omega arith), lt-leb 0x80 (get_or s i 0) l)

    pub boundary-above : 0xBF < get_or s i 0 → boundary s i ≡ true
    unfolding boundary
    boundary-above g =
        rw (ne_eqb i 0 n, ne_eqb i (length s) (λ e. omega arith), lt-leb (get_or s i 0) 0xBF g, and-false)

-- ---- the bytes of a sequence after its first
abbrev pub Inside : List ℕ → ℕ → Type 0
Inside s i = (0x80 ≤ get_or s i 0) × (get_or s i 0 ≤ 0xBF)

abbrev goes_on : List Range → Bool
goes_on [] = true
goes_on ((a to b) ∷ rs) = leb 0x80 a && leb b 0xBF && goes_on rs

-- each row's ranges but its first
abbrev tailed : List (List Range) → Bool
tailed [] = true
tailed ([] ∷ rows) = false
tailed ((r ∷ rs) ∷ rows) = goes_on rs && tailed rows

module _ (s : List ℕ) where
  fits-inside : (p : ℕ) (rs : List Range) → goes_on rs ≡ true → fits_at s p rs ≡ true → (i : ℕ) → i < length rs → Inside s (p + i)
  fits-inside p [] d f i l = absurd (omega arith)
  fits-inside p ((a to b) ∷ rs) d f zero l =
      let e = (and-eq-true_iff (leb 0x80 a) (leb b 0xBF)).0 ((and-eq-true_iff (leb 0x80 a && leb b 0xBF) (goes_on rs)).0 d).0 in
      let g = (fits-first s p (a to b) rs f).1 in
      rw (add-zero p) (
        omega (arith, leb-true 0x80 a e.0, range_low (get_or s p 0) a b g),
        omega
            (arith, leb-true b 0xBF e.1, range_high (get_or s p 0) a b g),
      )
  fits-inside p ((a to b) ∷ rs) d f (suc i) l =
      let z : p + suc i ≡ p + 1 + i = omega arith in
      rw z (fits-inside (p + 1) rs ((and-eq-true_iff (leb 0x80 a && leb b 0xBF) (goes_on rs)).0 d).1 (fits-first s p (a to b) rs f).2 i (omega arith))

  first-inside : (p : ℕ) (rows : List (List Range)) → tailed rows ≡ true → (i : ℕ) → suc i < first_fit s p rows → Inside s (p + suc i)
  unfolding first_fit
  first-inside p [] d i l = absurd (omega arith)
  first-inside p ([] ∷ rows) d i l = absurd (true≢false (sym d))
  first-inside p ((r ∷ rs) ∷ rows) d i l =
      let e = (and-eq-true_iff (goes_on rs) (tailed rows)).0 d in
      let z : p + suc i ≡ p + 1 + i = omega arith in
      by-test (fits_at s p (r ∷ rs))
      (λ f. rw z (fits-inside (p + 1) rs e.0 (fits-first s p r rs f).2 i (omega (arith, rw f at l))))
      (λ f. first-inside p rows e.1 i (rw f at l))

  pub sequence-inside : (p i : ℕ) → suc i < sequence_at s p → Inside s (p + suc i)
  unfolding sequence_at
  sequence-inside p i l = first-inside p table refl i l

pub well_inside : (w : List ℕ) → WellFormed w → (i : ℕ) → 0 < i → i < length w → Inside w i
well_inside w f zero h l = absurd (omega arith)
well_inside w f (suc i) h l = rw (zero-add (suc i)) at (sequence-inside w 0 i (rw f.whole l))

-- ---- a text cut at a boundary
pub boundary-on : (a b : List ℕ) (k : ℕ) → boundary (a ++ b) (length a + k) ≡ true → boundary b k ≡ true
unfolding boundary
boundary-on a b k h =
    by-test (eqb k 0)
    (λ e. boundary_start b k (eqb-true k 0 e))
    (λ e.
    by-test (eqb k (length b))
    (λ g. boundary_end b k (eqb-true k (length b) g))
    (λ g.
    let m = eqb-false k (length b) g in
    let n = eqb-false k 0 e in
    rw (e, g)
    (rw (
      ne_eqb (length a + k) 0 (λ z. n (omega arith)),
      ne_eqb (length a + k) (length (a ++ b))
          (λ z. m (omega (arith, length-append a b))),
      get_or-append-add a b k 0,
    ) at h)))

pub utf8_cut : {s : List ℕ} → Utf8 s → (k : ℕ) → k ≤ length s → boundary s k ≡ true → Utf8 (take k s) × Utf8 (drop k s)
utf8_cut empty k h b =
    let z : k ≡ 0 = omega arith in
    rw z (empty, empty)
utf8_cut (sequence {w} {s} f v) k h b =
    by-test (eqb k 0)
    (λ e. rw (eqb-true k 0 e) (empty, sequence f v))
    (λ e.
    by-test (ltb k (length w))
    (λ l.
    let g = ltb-true k (length w) l in
    let n = eqb-false k 0 e in
    let i = well_inside w f k (omega (arith, n)) g in
    let a : get_or (w ++ s) k 0 ≡ get_or w k 0 = get_or-append w s 0 k g in
    let j = boundary-inside (w ++ s) k n (simp length-append (omega arith)) (rw a i.0) (rw a i.1) in
    absurd (true≢false (sym b ∙ j)))
    (λ l.
    let z : k ≡ length w + (k - length w) = omega (arith, ltb-false k (length w) l) in
    let r = utf8_cut v (k - length w) (omega (arith, simp length-append at h)) (boundary-on w s (k - length w) (rw z at b)) in
    rw (z, take-append-add w s (k - length w), drop-append-add w s (k - length w)) (sequence f r.0, r.1)))

pub utf8_part : (s : List ℕ) (p n : ℕ) → Utf8 s → p + n ≤ length s → boundary s p ≡ true → boundary s (p + n) ≡ true → Utf8 (string_at s p n)
unfolding string_at
utf8_part s p n v h b e =
    let d : p + n - p ≡ n = omega arith in
    let l : length (take p s) ≡ p = length-take-le p s (omega arith) in
    let g : boundary (take p s ++ drop p s) (length (take p s) + n) ≡ true = rw (l, take-append-drop p s) e in
    rw d (utf8_cut (utf8_cut v p (omega arith) b).1 n (simp length-drop (omega arith)) (boundary-on (take p s) (drop p s) n g)).0
