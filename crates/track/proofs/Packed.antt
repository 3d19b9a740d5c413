-- A timestamp's time in two cells, and a font's size in the bits of one: they are read back. Assumes nothing.
--     halves_join                          a number from its halves
--     time-below, time-again, time-halves  the bits of a time that is an i64, and the time from them
--     time-fits                            any bits give an i64
--     time-signed, time-up, time-down, bits_up, bits_down    both as the program counts them
--     sign_is                              the mark of a sign
--     marks_below, flagged-below           marks are 32 bits, a font's flag among them
--     MarkedRead, marked-read              a font's marks: the test and the values
--     marked-bits                          the test of a size's marks
--     marked-size                          marks that pass it say a size
use Prim.Native.Nat.{ℕ, zero, suc, ◌+◌, ◌-◌, ◌*◌, ◌/◌, ◌%◌, ◌≤◌, ◌<◌}
use mathlib.Core.Path.{◌≡◌, refl, sym, ap, ◌∙◌}
use mathlib.Core.Bool.{Bool, true, false, cond, not, ◌&&◌}
use native.Mathlib.Omega.{arith}
use native.Mathlib.Nat.{zero-add}
use lib.Dec.{T, eqb, leb, ltb}
use lib.IntN.{ℤ, pos, negsuc, nat_abs, ◌-ℤ◌}
use lib.Signed.{mag, le_z, non_neg}
use mir.Syntax.{w64}
use mir.Val.{SFits, to_z}
use mir.Facts.{to_z_pos}
use borrow.Author.Tests.{ltb-true, ltb-false, leb-false, not-true, lt-ltb, le-ltb, le-leb, eq-eqb, ne_eqb}
use Rattle.scan.proofs.Every.{both, by-test}
use Rattle.decimals.specs.declared.size.Size.{Size}
use Rattle.decimals.specs.Size.{is_size, is_spelling, spelled_value, spelled_bits}
use Rattle.decimals.proofs.Sizes.{size-says, size-spelled, value-spelled, spelled-finite, same_itself}
use Rattle.track.specs.Tables.{time_from, family_mark, sign_mark, scale_mark, digits_mark, size_at, marked_size}
use Rattle.track.specs.Meaning.{is_marked, given}
use Rattle.track.specs.Layout.{flag, time_bits, size_marks, size_bits}
use Rattle.track.specs.Placing.{TimeFits, SizeIf}

-- ---- times
pub halves_join : (n : ℕ) → n % 4294967296 + n / 4294967296 * 4294967296 ≡ n
halves_join n = omega arith

pub time-below : (t : ℤ) → TimeFits t → time_bits t < 18446744073709551616
unfolding time_bits
time-below (pos n) h = omega arith
time-below (negsuc n) h = omega arith

pub time-again : (t : ℤ) → TimeFits t → time_from (time_bits t) ≡ t
unfolding time_from time_bits
time-again (pos n) h = rw (lt-ltb n 9223372036854775808 h)
time-again (negsuc n) h =
    let e : 18446744073709551615 - (18446744073709551615 - n) ≡ n = omega arith in
    rw (le-ltb (18446744073709551615 - n) 9223372036854775808 (omega arith), e)

pub time-halves : (t : ℤ) → TimeFits t → time_from (time_bits t % 4294967296 + time_bits t / 4294967296 * 4294967296) ≡ t
time-halves t h = rw (halves_join (time_bits t)) (time-again t h)

pub time-fits : (b : ℕ) → TimeFits (time_from b)
unfolding time_from
time-fits b = by-test (ltb b 9223372036854775808)
    (λ e. rw e (ltb-true b 9223372036854775808 e))
    (λ e. rw e (omega (arith, ltb-false b 9223372036854775808 e)))

-- ---- times as the program counts them, without a cast that changes a number
down : (n : ℕ) → negsuc 0 -ℤ pos n ≡ negsuc n
down zero = refl
down (suc n) = rw (zero-add n)

turn : (n : ℕ) → negsuc 0 -ℤ negsuc n ≡ pos n
turn n = rw (le-ltb (suc n) 1 (omega arith)) (ap pos (omega arith))

module _ (n : ℕ) where
  pub time-signed : SFits w64 (time_from n)
  time-signed = record { sfits = go (time_from n) (time-fits n) }
    where
      go : (t : ℤ) → TimeFits t → mag t < 9223372036854775808
      go (pos n) h = h
      go (negsuc n) h = h

  pub time-up : n < 9223372036854775808 → to_z w64 n ≡ time_from n
  unfolding time_from
  time-up h = to_z_pos w64 h ∙ rw (lt-ltb n 9223372036854775808 h)

  pub time-down : 9223372036854775808 ≤ n → negsuc 0 -ℤ to_z w64 (18446744073709551615 - n) ≡ time_from n
  unfolding time_from
  time-down h =
      ap (λ (z : ℤ). negsuc 0 -ℤ z) (to_z_pos w64 {n = 18446744073709551615 - n} (omega arith)) ∙ down (18446744073709551615 - n)
      ∙ rw (le-ltb n 9223372036854775808 h)

-- a number of 63 bits
abbrev pub Small : ℤ → Type 0
Small v = (mag v < 9223372036854775808) × T (non_neg v) × (nat_abs v < 9223372036854775808)

-- x is what the program holds of the time z
module _ (z x : ℤ) (e : x ≡ z) (h : mag z < 9223372036854775808) where
  pub bits_up : le_z (pos 0) x ≡ true → Small x × (nat_abs x ≡ time_bits z)
  unfolding time_bits
  bits_up t = rw e (by z h (rw e at t))
    where
      by : (v : ℤ) → mag v < 9223372036854775808 → le_z (pos 0) v ≡ true → Small v × (nat_abs v ≡ time_bits v)
      by (pos n) l t = ((l, tt, l), refl)
      by (negsuc n) l t = absurd (let z : ◌≡◌ {A = ℕ} 0 1 = cc in omega arith)

  pub bits_down : le_z (pos 0) x ≡ false → Small (negsuc 0 -ℤ x) × (18446744073709551615 - nat_abs (negsuc 0 -ℤ x) ≡ time_bits z)
  unfolding time_bits
  bits_down t = rw e (by z h (rw e at t))
    where
      by : (v : ℤ) → mag v < 9223372036854775808 → le_z (pos 0) v ≡ false
          → Small (negsuc 0 -ℤ v) × (18446744073709551615 - nat_abs (negsuc 0 -ℤ v) ≡ time_bits v)
      by (pos n) l t = absurd (let z = leb-false 0 n t in omega arith)
      by (negsuc n) l t = rw (turn n) ((l, tt, l), refl)

-- ---- marks
pub sign_is : (n : Bool) → (eqb (cond n 2 1) 0 ≡ false) × (eqb (cond n 2 1) 2 ≡ n) × (leb (cond n 2 1) 2 ≡ true)
sign_is true = (refl, refl, refl)
sign_is false = (refl, refl, refl)

sign_low : (n : Bool) → cond n 2 1 ≤ 2
sign_low true = omega arith
sign_low false = omega arith

flag-low : (f : Bool) → flag f ≤ 1
flag-low true = omega arith
flag-low false = omega arith

pub marks_below : (b : Bool) (s : Size) → size_marks b s ≤ 4294967292
unfolding size_marks
marks_below true s = omega (arith, sign_low s.negative)
marks_below false s = omega arith

pub flagged-below : (f b : Bool) (s : Size) → flag f + size_marks b s < 4294967296
flagged-below f b s = omega (arith, flag-low f, marks_below b s)

-- the flag f, the sign g, the scale c and the digits d, taken apart again
record Apart (m f g c d : ℕ) : Type 0 where
  pub family : family_mark m ≡ f
  pub sign : sign_mark m ≡ g
  pub scale : scale_mark m ≡ c
  pub digits : digits_mark m ≡ d

apart : (f g c d : ℕ) → f ≤ 1 → g ≤ 3 → c ≤ 10 → d ≤ 999999 → Apart (f + (g * 2 + c % 16 * 8 + d % 33554432 * 128)) f g c d
apart f g c d hf hg hc hd =
    let a : c % 16 ≡ c = omega arith in
    let b : d % 33554432 ≡ d = omega arith in
    rw (a, b) (record { family = omega arith; sign = omega arith; scale = omega arith; digits = omega arith })

-- a font's marks: its flag, the test with the bits of its size, and that size
pub record MarkedRead (f b : Bool) (s : Size) : Type 0 where
  pub family : family_mark (flag f + size_marks b s) ≡ flag f
  pub fits : is_marked (flag f + size_marks b s) (size_bits b s) ≡ true
  pub is : given (not (eqb (sign_mark (flag f + size_marks b s)) 0)) (marked_size (flag f + size_marks b s)) ≡ given b s

size-spells : (s : Size) → is_size s ≡ true → is_spelling s.digits s.scale ≡ true
unfolding is_size
size-spells s h = (both {a = is_spelling s.digits s.scale} h).0

pub marked-read : (f b : Bool) (s : Size) → SizeIf b s → MarkedRead f b s
unfolding size_marks size_bits is_marked marked_size size_at
marked-read f true s h =
    let i = size-says s (h refl) in
    let p = apart (flag f) (cond s.negative 2 1) s.scale s.digits (flag-low f) (omega (arith, sign_low s.negative)) i.near i.few in
    let g = sign_is s.negative in
    let b = spelled_bits s.negative s.digits s.scale in
    let v : s.value ≡ spelled_value s.negative s.digits s.scale =
    i.value-is ∙ sym (value-spelled s.digits s.scale s.negative i.few i.near) in
    record {
      family = p.family;
      fits = rw (p.sign, p.scale, p.digits, g.0, g.1, g.2, size-spells s (h refl)) (eq-eqb b b refl);
      is = rw (p.sign, p.scale, p.digits, g.0, g.1, ← v);
    }
marked-read true false s h = record { family = refl; fits = refl; is = refl }
marked-read false false s h = record { family = refl; fits = refl; is = refl }

-- ---- the test
module _ (m bits : ℕ) where
  module _ (n : sign_mark m ≡ 0 → ⊥) where
    pub marked-bits : sign_mark m ≤ 2 → is_spelling (digits_mark m) (scale_mark m) ≡ true
        → is_marked m bits ≡ eqb bits (spelled_bits (eqb (sign_mark m) 2) (digits_mark m) (scale_mark m))
    unfolding is_marked
    marked-bits h e = rw (ne_eqb (sign_mark m) 0 n, le-leb (sign_mark m) 2 h, e)

-- marks that pass it say a size, where they say any
pub marked-size : (m bits : ℕ) → is_marked m bits ≡ true → not (eqb (sign_mark m) 0) ≡ true → is_size (marked_size m) ≡ true
unfolding is_marked marked_size size_at
marked-size m bits h e =
    let z = not-true (eqb (sign_mark m) 0) e in
    let x = both {a = leb (sign_mark m) 2 && is_spelling (digits_mark m) (scale_mark m)} (rw z at h) in
    rw z (size-spelled (record {
      value = spelled_value (eqb (sign_mark m) 2) (digits_mark m) (scale_mark m);
      negative = eqb (sign_mark m) 2;
      digits = digits_mark m;
      scale = scale_mark m;
    }) (both {a = leb (sign_mark m) 2} x.0).1
    ∙ same_itself (spelled_value (eqb (sign_mark m) 2) (digits_mark m) (scale_mark m)) (spelled-finite (digits_mark m) (scale_mark m) (eqb (sign_mark m) 2)))
