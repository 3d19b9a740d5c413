-- Laws of the numbers in a clock time: whole numbers fit an i64, and a fraction's first six characters. Assumes nothing.
use Rattle.std.specs.Prelude.{Option, Some, None}
use Prim.Native.Nat.{ℕ, zero, suc, ◌+◌, ◌-◌, ◌*◌, ◌^◌, ◌≤◌, ◌<◌, min}
use mathlib.Core.Path.{◌≡◌, refl, sym, ap, ◌∙◌}
use mathlib.Core.Bool.{Bool, true, false, ◌&&◌}
use mathlib.Core.List.{List, [], ◌∷◌, ◌++◌}
use native.Mathlib.Omega.{arith}
use native.Mathlib.Numerals.{add-one}
use lib.Dec.{eqb, leb}
use lib.IntN.{pos, ◌*ℤ◌}
use lib.Signed.{mag}
use lib.ListN.{length, get_or, take, drop, replicate, drop_of_length-le}
use lib.Seq.{drop-cons, take-append-add, length-take-le}
use borrow.Author.Tests.{le-leb, lt-leb}
use Rattle.utf8.specs.Utf8.{Utf8, FirstChars}
use Rattle.utf8.proofs.Characters.{chars_count}
use Rattle.numerals.specs.declared.Whole.{Whole}
use Rattle.numerals.specs.Numerals.{unsigned_of, signed_by_of, numeral_of}
use Rattle.numerals.proofs.Numerals.{unsigned-most}
use Rattle.times.specs.Sums.{checked, signed}
use Rattle.times.specs.Expressions.{integer, chars_length, number_in, micros_of}
use Rattle.times.proofs.Summing.{checked-fits, negative_fits, signed-times}

-- ---- a whole number is an i64
signed_by : (t : Bool) (u : Option ℕ) (w : Whole) → signed_by_of t u ≡ Some w → ((m : ℕ) → u ≡ Some m → mag (signed t m) < 2 ^ 63)
    → mag (signed w.negative w.magnitude) < 2 ^ 63
signed_by t (Some m) w e f =
    let z : ◌≡◌ {A = Whole} (record { negative = t; magnitude = m }) w = cc in
    rw (sym z) (f m refl)
signed_by t None w e f = let z : ◌≡◌ {A = ℕ} 0 1 = cc in absurd (omega arith)

pub integer-fits : (s : List ℕ) (w : Whole) → integer s ≡ Some w → mag (signed w.negative w.magnitude) < 2 ^ 63
unfolding numeral_of
integer-fits [] w e = let z : ◌≡◌ {A = ℕ} 0 1 = cc in absurd (omega arith)
integer-fits (b ∷ s) w e = by (eqb b 43) (eqb b 45) refl refl
  where
    by : (p m : Bool) → eqb b 43 ≡ p → eqb b 45 ≡ m → mag (signed w.negative w.magnitude) < 2 ^ 63
    by true m p q = signed_by false (unsigned_of s 10 (2 ^ 63 - 1)) w (rw p at e) (λ n g. omega (arith, unsigned-most 10 (2 ^ 63 - 1) s n g))
    by false true p q = signed_by true (unsigned_of s 10 (2 ^ 63)) w (rw (p, q) at e) (λ n g. negative_fits n (unsigned-most 10 (2 ^ 63) s n g))
    by false false p q = signed_by false (unsigned_of (b ∷ s) 10 (2 ^ 63 - 1)) w (rw (p, q) at e)
        (λ n g. omega (arith, unsigned-most 10 (2 ^ 63 - 1) (b ∷ s) n g))

-- ---- the first six characters
-- a byte that starts a character
module _ (b : ℕ) where
  pub low_starts : b < 0x80 → (leb 0x80 b && leb b 0xBF) ≡ false
  low_starts h = rw (lt-leb 0x80 b h)

  pub high_starts : 0xBF < b → (leb 0x80 b && leb b 0xBF) ≡ false
  high_starts h = let l : 0x80 ≤ b = omega arith in rw (le-leb 0x80 b l, lt-leb b 0xBF h)

pub record Six (s : List ℕ) (chars i : ℕ) : Type 0 where
  pub few : chars ≤ 6
  pub short : i ≤ 6
  pub within : i ≤ length s
  pub is : chars_length 6 s ≡ i + chars_length (6 - chars) (drop i s)

-- the same, a byte further, before the place is looked at
pub record SixOn (s : List ℕ) (chars i : ℕ) : Type 0 where
  pub few : chars ≤ 6
  pub short : i ≤ 6
  pub further : i < length s
  pub is : chars_length 6 s ≡ i + 1 + chars_length (6 - chars) (drop (i + 1) s)

more_bytes : (n b : ℕ) (s : List ℕ) → (leb 0x80 b && leb b 0xBF) ≡ true → chars_length n (b ∷ s) ≡ suc (chars_length n s)
unfolding chars_length
more_bytes zero b s e = rw e
more_bytes (suc n) b s e = rw e

module _ (s : List ℕ) where
  pub six_start : Six s 0 0
  six_start = record { few = omega arith; short = omega arith; within = omega arith; is = omega arith }

  module _ (chars i : ℕ) (c : Six s chars i) where
    pub six_same : i < length s → 0x80 ≤ get_or s i 0 → get_or s i 0 < 0xC0 → SixOn s chars i
    six_same h l m =
        let n : get_or s i 0 ≤ 0xBF = omega arith in
        let t : (leb 0x80 (get_or s i 0) && leb (get_or s i 0) 0xBF) ≡ true = rw (le-leb 0x80 (get_or s i 0) l, le-leb (get_or s i 0) 0xBF n) in
        let e : chars_length (6 - chars) (drop i s) ≡ suc (chars_length (6 - chars) (drop (i + 1) s)) =
        rw (add-one i, drop-cons s i 0 h) (more_bytes (6 - chars) (get_or s i 0) (drop (suc i) s) t) in
        record { few = c.few; short = c.short; further = h; is = omega (arith, c.is, e) }

    module _ (h : i < length s) (o : (leb 0x80 (get_or s i 0) && leb (get_or s i 0) 0xBF) ≡ false) where
      pub six_next : chars < 6 → SixOn s (chars + 1) i
      unfolding chars_length
      six_next l =
          let z : 6 - chars ≡ suc (6 - (chars + 1)) = omega arith in
          let e : chars_length (6 - chars) (drop i s) ≡ suc (chars_length (6 - (chars + 1)) (drop (i + 1) s)) =
          rw (z, add-one i, drop-cons s i 0 h, o) in
          record { few = omega arith; short = c.short; further = h; is = omega (arith, c.is, e) }

      pub six_here : chars ≡ 6 → (i ≡ min (chars_length 6 s) 7) × (i ≤ 7)
      unfolding chars_length
      six_here k =
          let z : 6 - chars ≡ 0 = omega arith in
          let e : chars_length (6 - chars) (drop i s) ≡ 0 = rw (z, drop-cons s i 0 h, o) in
          let w : chars_length 6 s ≡ i = omega (arith, c.is, e) in
          (omega (arith, c.short), omega (arith, c.short))

    pub six_out : length s ≤ i → (i ≡ min (chars_length 6 s) 7) × (i ≤ 7)
    unfolding chars_length
    six_out h =
        let e : chars_length (6 - chars) (drop i s) ≡ 0 = rw (drop_of_length-le s h) in
        let w : chars_length 6 s ≡ i = omega (arith, c.is, e) in
        (omega (arith, c.short), omega (arith, c.short))

  module _ (chars i : ℕ) (c : SixOn s chars i) where
    pub six_on : (i ≡ 6 → ⊥) → Six s chars (i + 1)
    six_on n = record { few = c.few; short = omega (arith, c.short); within = omega (arith, c.further); is = c.is }

    pub six_past : i ≡ 6 → (7 ≡ min (chars_length 6 s) 7) × (7 ≤ 7)
    six_past e = (omega (arith, c.is), omega arith)

-- ---- zeros added up to six bytes
pub six_bytes : (w t : List ℕ) → length w ≤ 6 → t ≡ w ++ drop (length w) (replicate 6 48) → t ≡ take 6 (w ++ replicate 6 48)
six_bytes w t h e =
    let z : 6 ≡ length w + (6 - length w) = omega arith in
    e ∙ (ap (λ (l : List ℕ). w ++ l) (zeros (length w) h)
    ∙ sym (ap (λ (k : ℕ). take k (w ++ replicate 6 48)) z ∙ take-append-add w (replicate 6 48) (6 - length w)))
  where
    zeros : (n : ℕ) → n ≤ 6 → drop n (replicate {A = ℕ} 6 48) ≡ take (6 - n) (replicate 6 48)
    zeros zero h = refl
    zeros (suc zero) h = refl
    zeros (suc (suc zero)) h = refl
    zeros (suc (suc (suc zero))) h = refl
    zeros (suc (suc (suc (suc zero)))) h = refl
    zeros (suc (suc (suc (suc (suc zero))))) h = refl
    zeros (suc (suc (suc (suc (suc (suc zero)))))) h = refl
    zeros (suc (suc (suc (suc (suc (suc (suc n))))))) h = absurd (omega arith)

pub six_micros : (s t : List ℕ) (len : ℕ) → len ≤ 6 → len ≤ length s → t ≡ take len s ++ drop len (replicate 6 48)
    → number_in (integer t) ≡ micros_of (take len s)
unfolding micros_of
six_micros s t len h l e =
    let z : length (take len s) ≡ len = length-take-le len s l in
    ap (λ (u : List ℕ). number_in (integer u)) (six_bytes (take len s) t (omega arith) (rw z e))

module _ (s t : List ℕ) (len : ℕ) (h : len ≤ 6) (l : len ≤ length s) (e : t ≡ take len s ++ drop len (replicate 6 48)) where
  pub some_micros : (w : Whole) → integer t ≡ Some w → checked (signed w.negative w.magnitude *ℤ pos 1) ≡ Some (micros_of (take len s))
  some_micros w i =
      let m : w.magnitude * 1 ≡ w.magnitude = omega arith in
      let v : signed w.negative w.magnitude *ℤ pos 1 ≡ signed w.negative w.magnitude =
      signed-times w.negative w.magnitude 1 ∙ ap (signed w.negative) m in
      ap checked v ∙ (checked-fits (signed w.negative w.magnitude) (integer-fits t w i)
      ∙ ap Some (sym (ap number_in i) ∙ six_micros s t len h l e))

  pub no_micros : integer t ≡ None → Some (pos 0) ≡ Some (micros_of (take len s))
  no_micros i = ap Some (sym (ap number_in i) ∙ six_micros s t len h l e)

-- the first six characters, or fewer bytes
pub chars_within : (n : ℕ) (s : List ℕ) → chars_length n s ≤ length s
unfolding chars_length
chars_within n [] = omega arith
chars_within zero (b ∷ s) = by (leb 0x80 b && leb b 0xBF) refl (chars_within zero s)
  where
    by : (t : Bool) → (leb 0x80 b && leb b 0xBF) ≡ t → chars_length zero s ≤ length s → chars_length zero (b ∷ s) ≤ length (b ∷ s)
    by true e h = rw e (omega arith)
    by false e h = rw e (omega arith)
chars_within (suc n) (b ∷ s) = by (leb 0x80 b && leb b 0xBF) refl (chars_within (suc n) s) (chars_within n s)
  where
    by : (t : Bool) → (leb 0x80 b && leb b 0xBF) ≡ t → chars_length (suc n) s ≤ length s → chars_length n s ≤ length s
        → chars_length (suc n) (b ∷ s) ≤ length (b ∷ s)
    by true e h g = rw e (omega arith)
    by false e h g = rw e (omega arith)

-- of a text in UTF-8 they are the bytes of its first characters
pub chars_are : {n : ℕ} {s a : List ℕ} → Utf8 s → FirstChars n s a → chars_length n s ≡ length a
unfolding chars_length
chars_are = chars_count chars_length (λ n. refl) (λ b s. refl) (λ n b s. refl)
