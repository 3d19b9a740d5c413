-- The white space that the program passes over is white space as defined, and `trimmed` is the text without it. Assumes nothing.
--     no_overlap               no white-space character begins inside another
--     Path                     white-space characters lead from one place to another
--     space_path, path_space   where white space stands, and what stands there
--     trimmed-is, trimmed-only, trimmed-start   `trimmed` is the text without the white space at its ends, and nothing else is; where it starts
use Prim.Native.Nat.{ℕ, zero, suc, ◌+◌, ◌-◌, ◌≤◌, ◌<◌}
use mathlib.Core.Path.{◌≡◌, refl, sym, ap, subst, ◌∙◌}
use mathlib.Core.Bool.{true, ◌&&◌, and-eq-true_iff}
use mathlib.Core.List.{List, [], ◌∷◌, ◌++◌, append_assoc, append-nil}
use native.Mathlib.Omega.{arith}
use native.Mathlib.Nat.{add-zero, zero-add, sub-zero, max-eq_left, max-eq_right}
use lib.ListN.{length, get_or, take, drop, length-append, length-drop, take-append-drop, get_or-append}
use lib.Seq.{length-take-le, drop-length, take-nil, take-append_seam, take-append-le, take_at, drop-append_seam, drop-append-le}
use lib.Seq.{drop-append-add, drop-drop, take-add}
use lib.Seq.{get_or-append-add}
use lib.Dec.{eqb, leb, ltb}
use borrow.Author.Tests.{eqb-true, eqb-false, leb-true, leb-false, ltb-true, ltb-false}
use Rattle.scan.specs.Part.{part}
use Rattle.scan.proofs.Splits.{whole_part}
use Rattle.utf8.specs.Utf8.{sequence_at, char_at}
use Rattle.utf8.specs.WhiteSpace.{is_white, WhiteCharacter, WhiteSpace, nothing, character, Trims}
use Rattle.utf8.specs.Steps.{WhiteEnd, white_at, ends_with, white_before, white_end, white_back, white_start}
use Rattle.utf8.specs.White.{trimmed, Trimmed}
use Rattle.scan.proofs.Every.{by-test}
use Rattle.utf8.proofs.Utf8Laws.{sequence-none, sequence-short, well_at, well_part, part_length, part-agrees}
use Rattle.utf8.proofs.Boundaries.{sequence-inside}
use Rattle.utf8.proofs.WhiteLaws.{white_at-white, white_at-visible, white_at-within, ends_with_here, ends_with_on, white_before-low}
use Rattle.utf8.proofs.WhiteLaws.{white_end-here, white_end-on, white_end-out}
use Rattle.utf8.proofs.WhiteLaws.{white_end-high, white_end-stops, white_back-here, white_back-on, white_start-low}

-- ---- a character depends on its own bytes alone
module _ (s t : List ℕ) (p q n : ℕ) (l : 0 < n) (e : (i : ℕ) → i < n → get_or s (p + i) 0 ≡ get_or t (q + i) 0) where
  pub char_same : char_at s p n ≡ char_at t q n
  unfolding char_at
  char_same =
      let a : get_or s p 0 ≡ get_or t q 0 = simp add-zero at (e 0 l) in
      by-test (eqb n 1) (λ x. rw (x, a)) (λ x.
      let k = eqb-false n 1 x in
      by-test (eqb n 2) (λ y. rw (x, y, a, e 1 (omega (arith, k)))) (λ y.
      let m = eqb-false n 2 y in
      by-test (eqb n 3) (λ z. rw (x, y, z, a, e 1 (omega (arith, k)), e 2 (omega (arith, k, m)))) (λ z.
      let o = eqb-false n 3 z in
      rw (x, y, z, a, e 1 (omega (arith, k)), e 2 (omega (arith, k, m)), e 3 (omega (arith, k, m, o))))))

-- ---- a white-space character at a place
module _ (s : List ℕ) where
  pub white-sequence : (p : ℕ) → (white_at s p ≡ 0 → ⊥) → (sequence_at s p ≡ white_at s p) × (is_white (char_at s p (white_at s p)) ≡ true)
  unfolding white_at
  white-sequence p n =
      by-test (eqb (sequence_at s p) 0) (λ t. absurd (n (rw t)))
      (λ t. by-test (is_white (char_at s p (sequence_at s p))) (λ w. rw (t, w) (refl, w)) (λ w. absurd (n (rw (t, w)))))

  pub no_overlap : (p q : ℕ) → p < q → q < p + white_at s p → q < length s → (white_at s q ≡ 0 → ⊥) → ⊥
  no_overlap p q h g l n =
      let a = white-sequence p (λ z. omega arith) in
      let i : p + suc (q - p - 1) ≡ q = omega arith in
      let b = rw i at (sequence-inside s p (q - p - 1) (omega (arith, a.0))) in
      n (sym (white-sequence q n).0 ∙ sym (sequence-none s q 0x80 0xBF refl l b.0 b.1).is)

  pub white-part : (p k : ℕ) → p ≤ length s → white_at s p ≡ k → (k ≡ 0 → ⊥) → WhiteCharacter (take k (drop p s))
  white-part p k h e n =
      let a = rw e at (white-sequence p (λ z. n (sym e ∙ z))) in
      let l : 0 < k = omega (arith, n) in
      let c = char_same s (take k (drop p s)) p 0 k l (part-agrees s p k h a.0 l) in
      record { formed = well_part s p k h a.0 l; white = rw (part_length s p k h a.0 l, ← c) a.1 }

pub white-there : (a w t : List ℕ) → WhiteCharacter w → white_at (a ++ (w ++ t)) (length a) ≡ length w
white-there a w t f =
    let l = f.formed.some_byte in
    let c = char_same w (a ++ (w ++ t)) 0 (length a) (length w) l agree in
    white_at-white (a ++ (w ++ t)) (length a) (length w) (sym (well_at w a t f.formed)) (λ z. omega arith) (rw (← c) f.white)
  where
    agree : (i : ℕ) → i < length w → get_or w (0 + i) 0 ≡ get_or (a ++ (w ++ t)) (length a + i) 0
    agree i l = rw (get_or-append-add a (w ++ t) i 0, get_or-append w t 0 i l, zero-add i)

-- ---- one that ends at a place
module _ (s : List ℕ) (e : ℕ) where
  ends-white : (k n : ℕ) → (ends_with s e k n ≡ 0 → ⊥) → white_at s (e - ends_with s e k n) ≡ ends_with s e k n
  unfolding ends_with
  ends-white k zero h = absurd (h refl)
  ends-white k (suc n) h =
      by-test (leb k e && eqb (white_at s (e - k)) k)
      (λ t. rw t (eqb-true (white_at s (e - k)) k ((and-eq-true_iff (leb k e) (eqb (white_at s (e - k)) k)).0 t).1))
      (λ t. rw t (ends-white (k + 1) n (λ z. h (rw t z))))

  pub before-white : (white_before s e ≡ 0 → ⊥) → white_at s (e - white_before s e) ≡ white_before s e
  unfolding white_before
  before-white h = ends-white 1 4 h

  ends-to : (k n m : ℕ) → k ≤ m → m < k + n → m ≤ e → white_at s (e - m) ≡ m → ((j : ℕ) → k ≤ j → j < m → white_at s (e - j) ≡ j → ⊥)
      → ends_with s e k n ≡ m
  ends-to k zero m a b c d f = absurd (omega arith)
  ends-to k (suc n) m a b c d f =
      let o : suc n - 1 ≡ n = omega arith in
      by-test (eqb k m)
      (λ t. let z : k ≡ m = eqb-true k m t in rw z (ends_with_here s e m (suc n) (omega arith) c d))
      (λ t.
      let z = eqb-false k m t in
      ends_with_on s e k (suc n) (omega arith) (f k (omega arith) (omega (arith, z)))
      ∙ rw o (ends-to (k + 1) n m (omega (arith, z)) (omega arith) c d (λ j h l. f j (omega arith) l)))

  pub before-is : (m : ℕ) → 0 < m → m ≤ e → e ≤ length s → white_at s (e - m) ≡ m → white_before s e ≡ m
  unfolding white_before
  before-is m l h g w =
      let short : m ≤ 4 = omega (arith, sequence-short s (e - m), (white-sequence s (e - m) (λ z. omega (arith, w))).0) in
      ends-to 1 4 m l (omega arith) h w (λ j a b c. no_overlap s (e - m) (e - j) (omega arith) (omega arith) (omega arith) (λ z. omega arith))

-- a visible ASCII character ends no white space
pub before-visible : (s : List ℕ) (e : ℕ) → 0 < e → e ≤ length s → 0x20 < get_or s (e - 1) 0 → get_or s (e - 1) 0 < 0x80 → white_before s e ≡ 0
before-visible s e h g l u =
    let k : ℕ = white_before s e in
    by-test (eqb k 0) (λ z. eqb-true k 0 z)
    (λ z.
    let n = eqb-false k 0 z in
    let w : white_at s (e - k) ≡ k = before-white s e n in
    let low : k ≤ e = white_before-low s e in
    by-test (eqb k 1)
    (λ t. let o : k ≡ 1 = eqb-true k 1 t in let v : white_at s (e - 1) ≡ 1 = rw o at w in
    absurd (omega (arith, white_at-visible s (e - 1) (omega arith) l u)))
    (λ t.
    let o = eqb-false k 1 t in
    let q : sequence_at s (e - k) ≡ k = (white-sequence s (e - k) (λ y. n (sym w ∙ y))).0 ∙ w in
    let two : 2 ≤ k = more k n o in
    let i : e - k + suc (k - 2) ≡ e - 1 = last_byte e k two low in
    let b : 0x80 ≤ get_or s (e - 1) 0 = (rw i at (sequence-inside s (e - k) (k - 2) (rw q (shorter k two)))).0 in
    absurd (above b u)))
  where
    more : (k : ℕ) → (k ≡ 0 → ⊥) → (k ≡ 1 → ⊥) → 2 ≤ k
    more k n o = omega (arith, n, o)

    shorter : (k : ℕ) → 2 ≤ k → suc (k - 2) < k
    shorter k h = omega arith

    last_byte : (e k : ℕ) → 2 ≤ k → k ≤ e → e - k + suc (k - 2) ≡ e - 1
    last_byte e k h g = omega arith

    above : {x : ℕ} → 0x80 ≤ x → x < 0x80 → ⊥
    above h g = omega arith

back_stops : (s : List ℕ) (e k : ℕ) → white_before s (white_back s e k) ≡ 0
unfolding white_back
back_stops s zero k = omega (arith, white_before-low s 0)
back_stops s (suc e) (suc k) = back_stops s e k
back_stops s (suc e) zero =
    by-test (eqb (white_before s (suc e)) 0) (λ t. rw t (eqb-true (white_before s (suc e)) 0 t))
    (λ t. rw t (back_stops s e (white_before s (suc e) - 1)))

-- ---- white-space characters from one place to another
pub data Path (s : List ℕ) : ℕ → ℕ → Type 0 where
  here : {p : ℕ} → Path s p p
  on : {p q : ℕ} → p < length s → (white_at s p ≡ 0 → ⊥) → Path s (p + white_at s p) q → Path s p q

module _ (s : List ℕ) where
  pub path_order : {p q : ℕ} → Path s p q → p ≤ q
  path_order here = omega arith
  path_order (on l n r) = omega (arith, path_order r)

  pub path_join : {p q r : ℕ} → Path s p q → Path s q r → Path s p r
  path_join here b = b
  path_join (on l n a) b = on l n (path_join a b)

  pub path_first : {p q : ℕ} → Path s p q → p < q → (white_at s p ≡ 0 → ⊥) × (p + white_at s p ≤ q)
  path_first here h = absurd (omega arith)
  path_first (on l n r) h = (n, path_order r)

  -- a character that begins on the way is one of those
  pub path_cut : {p q : ℕ} (i : ℕ) → Path s p q → p ≤ i → i < q → i < length s → (white_at s i ≡ 0 → ⊥) → Path s p i × Path s i q
  path_cut i here h g l n = absurd (omega arith)
  path_cut i (on {p} {q} l₁ n₁ r) h g l n =
      by-test (eqb i p)
      (λ t. let z : i ≡ p = eqb-true i p t in rw z (here, on l₁ n₁ r))
      (λ t.
      let z = eqb-false i p t in
      by-test (ltb i (p + white_at s p))
      (λ u. absurd (no_overlap s p i (omega (arith, z)) (ltb-true i (p + white_at s p) u) l n))
      (λ u. let c = path_cut i r (ltb-false i (p + white_at s p) u) g l n in (on l₁ n₁ c.0, c.1)))

  pub path_end : {p q : ℕ} → Path s p q → white_end s p ≡ white_end s q
  path_end here = refl
  path_end (on {p} {q} l n r) = white_end-on s p l n ∙ path_end r

  end-from : (n p : ℕ) → length s ≤ p + n → p ≤ length s → Path s p (white_end s p)
  end-from zero p b h = rw (white_end-out s p (omega arith)) here
  end-from (suc n) p b h =
      by-test (ltb p (length s))
      (λ t.
      let l = ltb-true p (length s) t in
      by-test (eqb (white_at s p) 0)
      (λ w. rw (white_end-here s p l (eqb-true (white_at s p) 0 w)) here)
      (λ w.
      let k = eqb-false (white_at s p) 0 w in
      rw (white_end-on s p l k) (on l k (end-from n (p + white_at s p) (omega (arith, k)) (white_at-within s p h)))))
      (λ t. rw (white_end-out s p (ltb-false p (length s) t)) here)

  pub end_path : (p : ℕ) → p ≤ length s → Path s p (white_end s p)
  end_path p h = end-from (length s) p (omega arith) h

  pub path_back : {p q : ℕ} → Path s p q → p ≤ length s → white_back s q 0 ≡ white_back s p 0
  path_back here h = refl
  path_back (on {p} {q} l n r) h =
      let k : ℕ = white_at s p in
      let g = white_at-within s p h in
      let m : p + k - k ≡ p = omega arith in
      let b : white_before s (p + k) ≡ k = before-is s (p + k) k (omega (arith, n)) (omega arith) g (rw m) in
      path_back r g ∙ (white_back-on s (p + k) (λ z. n (sym b ∙ z)) ∙ rw (b, m))

  back_more : (e : ℕ) → e ≤ length s → (white_before s e ≡ 0 → ⊥) → Path s (white_back s (e - white_before s e) 0) (e - white_before s e)
      → Path s (white_back s e 0) e
  back_more e h k r =
      let w : ℕ = white_before s e in
      let l = white_before-low s e in
      let c = before-white s e k in
      let z : e - w + w ≡ e = omega arith in
      let last : Path s (e - w) e = on {p = e - w} {q = e} (omega (arith, k)) (λ y. k (sym c ∙ y)) (rw (c, z) here) in
      rw (white_back-on s e k) (path_join r last)

  back_from : (n e : ℕ) → e ≤ n → e ≤ length s → Path s (white_back s e 0) e
  back_from zero e b h = let z : white_before s e ≡ 0 = omega (arith, white_before-low s e) in rw (white_back-here s e z) here
  back_from (suc n) e b h =
      by-test (eqb (white_before s e) 0)
      (λ w. rw (white_back-here s e (eqb-true (white_before s e) 0 w)) here)
      (λ w. let k = eqb-false (white_before s e) 0 w in
      back_more e h k (back_from n (e - white_before s e) (omega (arith, k, white_before-low s e)) (omega arith)))

  pub back_path : (e : ℕ) → e ≤ length s → Path s (white_back s e 0) e
  back_path e h = back_from e e (omega arith) h

  -- a character before a place where the text ends or one begins, ends there at the latest
  pub stops_before : (i e : ℕ) → i < e → e ≤ length s → (e < length s → white_at s e ≡ 0 → ⊥) → i + white_at s i ≤ e
  stops_before i e h g n =
      by-test (ltb e (i + white_at s i))
      (λ t.
      let k = ltb-true e (i + white_at s i) t in
      let l : e < length s = omega (arith, white_at-within s i (omega arith)) in
      absurd (no_overlap s i e h k l (n l)))
      (λ t. ltb-false e (i + white_at s i) t)

-- ---- white space, and the places where it stands
pub part_join : (s : List ℕ) (a b c : ℕ) → a ≤ b → b ≤ c → part a c s ≡ part a b s ++ part b c s
part_join s a b c h g =
    let z : c - a ≡ b - a + (c - b) = omega arith in
    let y : a + (b - a) ≡ b = omega arith in
    rw z (take-add (b - a) (c - b) (drop a s) ∙ rw (drop-drop (b - a) a s, y))

pub path_space : (s : List ℕ) {p q : ℕ} → Path s p q → p ≤ length s → WhiteSpace (part p q s)
path_space s (here {p}) h = let z : p - p ≡ 0 = omega arith in rw z nothing
path_space s (on {p} {q} l n r) h =
    let k : ℕ = white_at s p in
    let z : p + k - p ≡ k = omega arith in
    let one : WhiteCharacter (part p (p + k) s) = rw z (white-part s p k h refl n) in
    rw (part_join s p (p + k) q (omega arith) (path_order s r)) (character one (path_space s r (white_at-within s p h)))

pub space_path : (a : List ℕ) {b : List ℕ} (c : List ℕ) → WhiteSpace b → Path (a ++ (b ++ c)) (length a) (length a + length b)
space_path a c nothing = rw (add-zero (length a)) here
space_path a c (character {w} {s} f r) =
    let i : a ++ ((w ++ s) ++ c) ≡ a ++ (w ++ (s ++ c)) = simp append_assoc in
    let j : (a ++ w) ++ (s ++ c) ≡ a ++ (w ++ (s ++ c)) = simp append_assoc in
    let k = rw (j, length-append a w) at (space_path (a ++ w) c r) in
    let e = white-there a w (s ++ c) f in
    let m : length a + length (w ++ s) ≡ length a + length w + length s = simp length-append (omega arith) in
    rw (i, m)
    (on {p = length a} {q = length a + length w + length s} (simp length-append (omega (arith, f.formed.some_byte)))
    (λ z. omega (arith, f.formed.some_byte, e)) (rw e k))

-- ---- the text without the white space at its ends
pub there : (s a w t : List ℕ) (n : ℕ) → s ≡ a ++ (w ++ t) → length a ≡ n → WhiteCharacter w → white_at s n ≡ length w
there s a w t n e l f = rw (e, ← l) (white-there a w t f)

module _ (s : List ℕ) where
  pub part-long : (a e : ℕ) → a ≤ e → e ≤ length s → length (part a e s) ≡ e - a
  part-long a e h g = length-take-le (e - a) (drop a s) (simp length-drop (omega arith))

  last_path : Path s (white_start s) (length s)
  unfolding white_start
  last_path = back_path s (length s) (omega arith)

  start-stops : white_before s (white_start s) ≡ 0
  unfolding white_start
  start-stops = back_stops s (length s) 0

  trims_some : white_end s 0 ≤ white_start s → Trims s (part (white_end s 0) (white_start s) s)
  trims_some h =
      let a : ℕ = white_end s 0 in
      let e : ℕ = white_start s in
      let g : e ≤ length s = white_start-low s in
      let parts : s ≡ part 0 a s ++ (part a e s ++ part e (length s) s) =
      sym (whole_part s) ∙ part_join s 0 a (length s) (omega arith) (omega arith) ∙ ap (λ x. part 0 a s ++ x) (part_join s a e (length s) h g) in
      let front : length (part 0 a s) ≡ a = part-long 0 a (omega arith) (omega arith) ∙ sub-zero a in
      let long : length (part a e s) ≡ e - a = part-long a e h g in
      record {
        before = part 0 a s;
        after = part e (length s) s;
        whole = parts;
        white-before = path_space s (end_path s 0 (omega arith)) (omega arith);
        white-after = path_space s last_path g;
        bare-start = λ w r f x.
            let y : s ≡ part 0 a s ++ (w ++ (r ++ part e (length s) s)) = parts ∙ rw (x, append_assoc w r (part e (length s) s)) in
            let k : white_at s a ≡ length w = there s (part 0 a s) w (r ++ part e (length s) s) a y front f in
            let l : length w + length r ≡ e - a = sym (simp length-append at (ap length x)) ∙ long in
            omega (arith, f.formed.some_byte, white_end-stops s 0 (omega (arith, f.formed.some_byte)));
        bare-end = λ w r f x.
            let y : s ≡ (part 0 a s ++ r) ++ (w ++ part e (length s) s) = parts ∙ rw x (simp append_assoc) in
            let l : length r + length w ≡ e - a = sym (simp length-append at (ap length x)) ∙ long in
            let m : length (part 0 a s ++ r) ≡ e - length w = simp length-append (omega (arith, front)) in
            let k : white_at s (e - length w) ≡ length w = there s (part 0 a s ++ r) w (part e (length s) s) (e - length w) y m f in
            omega (arith, f.formed.some_byte, start-stops, before-is s e (length w) f.formed.some_byte (omega arith) g k);
      }

  trims_none : white_start s < white_end s 0 → Trims s []
  trims_none h =
      let l : white_end s 0 ≤ length s = white_end-high s 0 (omega arith) in
      let n = (path_first s last_path (omega arith)).0 in
      let first = (path_cut s (white_start s) (end_path s 0 (omega arith)) (omega arith) h (omega arith) n).0 in
      record {
        before = s;
        after = [];
        whole = sym (append-nil s);
        white-before = subst WhiteSpace (whole_part s) (path_space s (path_join s first last_path) (omega arith));
        white-after = nothing;
        bare-start = λ w r f x. omega (arith, f.formed.some_byte, simp length-append at (ap length x));
        bare-end = λ w r f x. omega (arith, f.formed.some_byte, simp length-append at (ap length x));
      }

  pub trimmed-is : Trims s (trimmed s)
  unfolding trimmed
  trimmed-is =
      by-test (leb (white_end s 0) (white_start s))
      (λ t. trims_some (leb-true (white_end s 0) (white_start s) t))
      (λ t.
      let h = leb-false (white_end s 0) (white_start s) t in
      let z : white_start s - white_end s 0 ≡ 0 = omega arith in
      rw z (trims_none (omega arith)))

-- ---- nothing else is
module _ (s a t b : List ℕ) (e : s ≡ a ++ (t ++ b)) (white-a : WhiteSpace a) (white-b : WhiteSpace b) where
  long : length s ≡ length a + length t + length b
  long = ap length e ∙ simp length-append (omega arith)

  rest : drop (length a) s ≡ t ++ b
  rest = rw e (drop-append_seam a (t ++ b))

  first-path : Path s 0 (length a)
  first-path = rw (← e, zero-add (length a)) at (space_path [] (t ++ b) white-a)

  second_path : Path s (length a + length t) (length s)
  second_path =
      let i : (a ++ t) ++ (b ++ []) ≡ s = rw (append-nil b) (append_assoc a t b ∙ sym e) in
      let j : length (a ++ t) ≡ length a + length t = length-append a t in
      let k : length a + length t + length b ≡ length s = sym long in
      rw (i, j, k) at (space_path (a ++ t) [] white-b)

  middle : part (length a) (length a + length t) s ≡ t
  middle =
      let m : length a + length t - length a ≡ length t = omega arith in
      rw (m, rest) (take-append_seam t b)

  pub only_none : length t ≡ 0 → trimmed s ≡ t
  unfolding trimmed
  only_none z =
      let y : length a + length t ≡ length a = omega arith in
      let w : white_end s 0 ≡ length s = path_end s (path_join s first-path (rw y at second_path)) ∙ white_end-out s (length s) (omega arith) in
      rw (w, drop-length s, take-nil (white_start s - length s)) (empty t z)
    where
      empty : (l : List ℕ) → length l ≡ 0 → [] ≡ l
      empty [] z = refl
      empty (x ∷ l) z = absurd (omega arith)

  module _ (some : 0 < length t) where
    starts : ((w r : List ℕ) → WhiteCharacter w → t ≡ w ++ r → ⊥) → white_at s (length a) ≡ 0
    starts bare =
        let k : ℕ = white_at s (length a) in
        let fits : length a + k ≤ length a + length t =
        stops_before s (length a) (length a + length t) (omega arith) (omega (arith, long)) (λ l. (path_first s second_path l).0) in
        by-test (eqb k 0) (λ z. eqb-true k 0 z)
        (λ z.
        let c : WhiteCharacter (take k (t ++ b)) = rw rest at (white-part s (length a) k (omega (arith, long)) refl (eqb-false k 0 z)) in
        absurd (bare (take k t) (drop k t) (rw (take-append-le k t b (omega arith)) at c) (sym (take-append-drop k t))))

    ends-inside : (k : ℕ) → k ≤ length t → (k ≡ 0 → ⊥) → white_at s (length a + length t - k) ≡ k
        → ((w r : List ℕ) → WhiteCharacter w → t ≡ r ++ w → ⊥) → ⊥
    ends-inside k h n w bare =
        let m : ℕ = length t - k in
        let i : length a + length t - k ≡ length a + m = omega arith in
        let d : drop (length a + m) s ≡ drop m t ++ b = rw e (drop-append-add a (t ++ b) m ∙ drop-append-le m t b (omega arith)) in
        let l : length (drop m t) ≡ k = simp length-drop (omega arith) in
        let c : WhiteCharacter (take k (drop (length a + m) s)) = white-part s (length a + m) k (omega (arith, long)) (rw i at w) n in
        bare (drop m t) (take m t) (rw (d, take_at (drop m t) b k l) at c) (sym (take-append-drop m t))

    stops : ((w r : List ℕ) → WhiteCharacter w → t ≡ r ++ w → ⊥) → white_before s (length a + length t) ≡ 0
    stops bare =
        let k : ℕ = white_before s (length a + length t) in
        let low = white_before-low s (length a + length t) in
        by-test (eqb k 0) (λ z. eqb-true k 0 z)
        (λ z.
        let n = eqb-false k 0 z in
        let w : white_at s (length a + length t - k) ≡ k = before-white s (length a + length t) n in
        by-test (leb k (length t))
        (λ u. absurd (ends-inside k (leb-true k (length t) u) n w bare))
        (λ u.
        let g = leb-false k (length t) u in
        let i : ℕ = length a + length t - k in
        let c = (path_cut s i first-path (omega arith) (omega (arith, g)) (omega (arith, long, g)) (λ y. n (sym w ∙ y))).1 in
        absurd (omega (arith, (path_first s c (omega (arith, g))).1, w, low, g))))

    pub only-start : ((w r : List ℕ) → WhiteCharacter w → t ≡ w ++ r → ⊥) → white_end s 0 ≡ length a
    only-start bare = path_end s first-path ∙ white_end-here s (length a) (omega (arith, long)) (starts bare)

    only_end : ((w r : List ℕ) → WhiteCharacter w → t ≡ r ++ w → ⊥) → white_start s ≡ length a + length t
    unfolding white_start
    only_end bare = path_back s second_path (omega (arith, long)) ∙ white_back-here s (length a + length t) (stops bare)

    pub only-some : ((w r : List ℕ) → WhiteCharacter w → t ≡ w ++ r → ⊥) → ((w r : List ℕ) → WhiteCharacter w → t ≡ r ++ w → ⊥) → trimmed s ≡ t
    unfolding trimmed
    only-some bare-start bare-end = rw (only-start bare-start, only_end bare-end) middle

module _ (s t : List ℕ) (x : Trims s t) where
  pub trimmed-only : trimmed s ≡ t
  trimmed-only =
      by-test (eqb (length t) 0)
      (λ z. only_none s x.before t x.after x.whole x.white-before x.white-after (eqb-true (length t) 0 z))
      (λ z.
      let n = eqb-false (length t) 0 z in
      only-some s x.before t x.after x.whole x.white-before x.white-after (omega (arith, n)) x.bare-start x.bare-end)

  -- where what is left starts, if something is
  pub trimmed-start : 0 < length t → white_end s 0 ≡ length x.before
  trimmed-start h = only-start s x.before t x.after x.whole x.white-before x.white-after h x.bare-start

-- ---- what `trim` ensures
module _ (s : List ℕ) (a e : ℕ) (w : WhiteEnd s 0 a) (z : e ≡ white_start s) where
  pub trimmed-some : a ≤ e → Trimmed s a e
  unfolding trimmed
  trimmed-some h = record {
    starts = w.is;
    ends = rw (← w.is, ← z) (sym (max-eq_right h));
    order = h;
    within_text = rw z (white_start-low s);
    is = rw (← w.is, ← z);
    trims = rw (w.is, z) (trimmed-is s);
  }

  pub trimmed-empty : e < a → Trimmed s a a
  unfolding trimmed
  trimmed-empty h = record {
    starts = w.is;
    ends = rw (← w.is, ← z) (sym (max-eq_left (omega arith)));
    order = omega arith;
    within_text = w.within_text;
    is =
        let x : a - a ≡ 0 = omega arith in
        let y : e - a ≡ 0 = omega arith in
        rw (← w.is, ← z, x, y);
    trims =
        let x : a - a ≡ 0 = omega arith in
        rw x (trims_none s (rw (← w.is, ← z) h));
  }

-- a text that begins and ends in a visible ASCII character has none to trim
pub trimmed-tight : (s : List ℕ) → 0 < length s → white_at s 0 ≡ 0 → white_before s (length s) ≡ 0 → Trimmed s 0 (length s)
unfolding white_start
trimmed-tight s h a b =
    trimmed-some s 0 (length s)
    (record { is = sym (white_end-here s 0 h a); after = omega arith; within_text = omega arith; stops = λ l. a })
    (sym (white_back-here s (length s) b)) (omega arith)
