-- A float cut to a whole number. Assumes nothing.
--     at_least, at_most       the program's comparisons, said of the whole part
--     middling                between them: what the cut from the bits asks
--     bits_right, bits_left   the whole part from the bits: the digits, moved by the exponent
--     cut_high, cut_low, cut_none, cut_whole, cut_minus   the float as an i64, by those comparisons
use Rattle.std.proofs.Common.{◌≡◌, ℕ, zero, suc, ◌+◌, ◌-◌, ◌*◌, ◌/◌, ◌%◌, ◌^◌, ◌<◌, ◌≤◌, min, Bool, true, false, cond, not, ◌&&◌, ◌||◌, T, eqb, ltb, leb, ℤ, pos, negsuc, neg_ℤ, sym, refl, ap, ◌∙◌, true≢false, le_trans, le_of_eq, lt_of_lt_of_le, lt_irrefl, mul-le-mul_right, mod-lt, mod-eq_of_lt, mul_assoc, mul_comm, div-lt_iff_lt-mul, add-sub_of_le, lt_of_mul-lt-mul_right, mul-lt-mul_of_pos_right, mul-pos, one-mul, lt_of_not-le, le-div_iff_mul-le, mul-one, mul_right_comm, le_of_mul-le-mul_right, mul-div_cancel, arith, ltb→lt, leb→le, pow_pos, pow_mono, pow-add, shl_lt, w64, SFits, le-ltb, lt-ltb, eq-eqb, ne_eqb, eqb-true, leb-false, leb-true}
use mathlib.Core.Bool.{and-true, or-true}
use lib.Ieee.{Float, nan, inf, fin, binary64, odd, of_fields, of_bits, to_bits, fits, up, down, le, lt, neg, is_nan, to_unsigned, to_signed}
use lib.Ieee.Bits.{of_bits-to_bits}
use lib.Ieee.Casts.{to_unsigned-lt}
use lib.Ieee.Digits.{back}
use lib.Ieee.Exact.{HasValue, odd_sign}
use lib.Ieee.Fits.{down_pos}
use lib.Ieee.Nearest.{div_same}
use lib.Ieee.Scale.{finite}
use borrow.Author.Tests.{eqb-false}
use Rattle.decimals.specs.Steps.{Middling}

-- ---- the whole part, without its sign
abbrev pub whole_of : ℕ → ℤ → ℕ
whole_of m e = m * up e / down e

-- x is 2 ^ h or more
abbrev pub reaches : ℕ → Float → Bool
reaches h nan = false
reaches h (inf s) = not s
reaches h (fin s m e) = not s && leb (2 ^ h) (whole_of m e)

-- a ≤ b, as the comparisons of floats ask it, and as one of the whole part of b / d, where a is p * d
below_or_level : (p b d : ℕ) → 0 < d → (ltb (p * d) b || eqb (p * d) b) ≡ leb p (b / d)
below_or_level p b d D = by (leb p (b / d)) refl
  where
    by : (t : Bool) → leb p (b / d) ≡ t → (ltb (p * d) b || eqb (p * d) b) ≡ t
    by true e =
        let l : p * d ≤ b = (le-div_iff_mul-le D).0 (leb-true p (b / d) e) in
        split (eqb (p * d) b) refl l
      where
        split : (u : Bool) → eqb (p * d) b ≡ u → p * d ≤ b → (ltb (p * d) b || eqb (p * d) b) ≡ true
        split true w l = rw w (or-true (ltb (p * d) b))
        split false w l = let n : p * d ≡ b → ⊥ = eqb-false (p * d) b w in let g : p * d < b = omega arith in rw (lt-ltb (p * d) b g)
    by false e =
        let l : b < p * d = (div-lt_iff_lt-mul D).0 (leb-false p (b / d) e) in
        let n : p * d ≡ b → ⊥ = λ w. omega arith in
        let g : b ≤ p * d = omega arith in
        rw (le-ltb (p * d) b g, ne_eqb (p * d) b n)

eqb_sym : (a b : ℕ) → eqb a b ≡ eqb b a
eqb_sym a b = by (eqb b a) refl
  where
    by : (t : Bool) → eqb b a ≡ t → eqb a b ≡ t
    by true e = eq-eqb a b (sym (eqb-true b a e))
    by false e = ne_eqb a b (λ w. eqb-false b a e (sym w))

-- two numbers of unlike signs are level only where both are zero
not_level : (a b : ℕ) → 0 < a + b → (eqb a b && (false || eqb a 0)) ≡ false
not_level a b h = by (eqb a b) (eqb a 0) refl refl
  where
    by : (t u : Bool) → eqb a b ≡ t → eqb a 0 ≡ u → (t && u) ≡ false
    by true true t u = absurd (omega (arith, eqb-true a b t, eqb-true a 0 u))
    by true false t u = refl
    by false u t w = refl

module _ (h : ℕ) where
  power_pos : (e : ℤ) → 0 < 1 * 2 ^ h * down e
  power_pos e = rw (one-mul (2 ^ h)) (mul-pos (pow_pos h) (down_pos e))

  pub at_least : (x : Float) → le (fin false 1 (pos h)) x ≡ reaches h x
  unfolding le
  at_least nan = refl
  at_least (inf true) = refl
  at_least (inf false) = refl
  at_least (fin true m e) = not_level (1 * 2 ^ h * down e) (m * up e * 1) (omega (arith, power_pos e))
  at_least (fin false m e) = rw (one-mul (2 ^ h), mul-one (m * up e), and-true) (below_or_level (2 ^ h) (m * up e) (down e) (down_pos e))

  pub at_most : (x : Float) → le x (fin true 1 (pos h)) ≡ reaches h (neg x)
  unfolding le neg
  at_most nan = refl
  at_most (inf true) = refl
  at_most (inf false) = refl
  at_most (fin false m e) = not_level (m * up e * 1) (1 * 2 ^ h * down e) (omega (arith, power_pos e))
  at_most (fin true m e) =
      rw (one-mul (2 ^ h), mul-one (m * up e), and-true, eqb_sym (m * up e) (2 ^ h * down e))
      (below_or_level (2 ^ h) (m * up e) (down e) (down_pos e))

-- ---- between 1 and 2 ^ 63
pub middling : (x : Float) → reaches 0 x ≡ true → reaches 63 x ≡ false → Middling x
unfolding lt
middling nan a b = absurd (true≢false (sym a))
middling (inf true) a b = absurd (true≢false (sym a))
middling (inf false) a b = absurd (true≢false b)
middling (fin true m e) a b = absurd (true≢false (sym a))
middling (fin false m e) a b = record {
  large = rw (at_least 0 (fin false m e), a) tt;
  small =
      let l : m * up e < 2 ^ 63 * down e = (div-lt_iff_lt-mul (down_pos e)).0 (leb-false (2 ^ 63) (whole_of m e) b) in
      rw (mul-one (m * up e), lt-ltb (m * up e) (2 ^ 63 * down e) l) tt;
}

pub not_nan : (x : Float) → Middling x → T (not (is_nan x))
unfolding le lt is_nan
not_nan nan g = g.large
not_nan (inf s) g = tt
not_nan (fin s m e) g = tt

-- ---- as an i64
pub cut_high : (x : Float) → reaches 63 x ≡ true → pos 9223372036854775807 ≡ to_signed 63 x
unfolding to_signed
cut_high nan a = absurd (true≢false (sym a))
cut_high (inf true) a = absurd (true≢false (sym a))
cut_high (inf false) a = refl
cut_high (fin true m e) a = absurd (true≢false (sym a))
cut_high (fin false m e) a = let z : 9223372036854775807 ≡ min (whole_of m e) (2 ^ 63 - 1) = omega (arith, leb-true (2 ^ 63) (whole_of m e) a) in
    ap pos z

pub cut_low : (x : Float) → reaches 63 (neg x) ≡ true → negsuc 9223372036854775807 ≡ to_signed 63 x
unfolding to_signed neg
cut_low nan a = absurd (true≢false (sym a))
cut_low (inf true) a = refl
cut_low (inf false) a = absurd (true≢false (sym a))
cut_low (fin true m e) a = let z : 9223372036854775808 ≡ min (whole_of m e) (2 ^ 63) = omega (arith, leb-true (2 ^ 63) (whole_of m e) a) in
    ap (λ (k : ℕ). neg_ℤ (pos k)) z
cut_low (fin false m e) a = absurd (true≢false (sym a))

pub cut_none : (x : Float) → reaches 0 x ≡ false → reaches 0 (neg x) ≡ false → pos 0 ≡ to_signed 63 x
unfolding to_signed neg
cut_none nan a b = refl
cut_none (inf true) a b = absurd (true≢false b)
cut_none (inf false) a b = absurd (true≢false a)
cut_none (fin true m e) a b = let z : 0 ≡ min (whole_of m e) (2 ^ 63) = omega (arith, leb-false (2 ^ 0) (whole_of m e) b) in
    ap (λ (k : ℕ). neg_ℤ (pos k)) z
cut_none (fin false m e) a b = let z : 0 ≡ min (whole_of m e) (2 ^ 63 - 1) = omega (arith, leb-false (2 ^ 0) (whole_of m e) a) in ap pos z

-- r is the whole part of x, and x as an i64 is z
pub record Cut (z : ℤ) (r : ℕ) (x : Float) : Type 0 where
  pub small : r < 2 ^ 63
  pub is : z ≡ to_signed 63 x

pub cut_whole : (x : Float) {r : ℕ} → reaches 0 x ≡ true → reaches 63 x ≡ false → r ≡ to_unsigned 64 x → Cut (pos r) r x
unfolding to_signed to_unsigned
cut_whole nan a b w = absurd (true≢false (sym a))
cut_whole (inf true) a b w = absurd (true≢false (sym a))
cut_whole (inf false) a b w = absurd (true≢false b)
cut_whole (fin true m e) a b w = absurd (true≢false (sym a))
cut_whole (fin false m e) {r} a b w =
    let l : whole_of m e < 2 ^ 63 = leb-false (2 ^ 63) (whole_of m e) b in
    let z : r ≡ min (whole_of m e) (2 ^ 63 - 1) = omega arith in
    record { small = omega arith; is = ap pos z }

pub cut_minus : (x : Float) {r : ℕ} → reaches 0 (neg x) ≡ true → reaches 63 (neg x) ≡ false → r ≡ to_unsigned 64 (neg x) → Cut (neg_ℤ (pos r)) r x
unfolding to_signed to_unsigned neg
cut_minus nan a b w = absurd (true≢false (sym a))
cut_minus (inf true) a b w = absurd (true≢false b)
cut_minus (inf false) a b w = absurd (true≢false (sym a))
cut_minus (fin true m e) {r} a b w =
    let l : whole_of m e < 2 ^ 63 = leb-false (2 ^ 63) (whole_of m e) b in
    let z : r ≡ min (whole_of m e) (2 ^ 63) = omega arith in
    record { small = omega arith; is = ap (λ (k : ℕ). neg_ℤ (pos k)) z }
cut_minus (fin false m e) a b w = absurd (true≢false (sym a))

pub minus_fits : (r : ℕ) → r < 2 ^ 63 → SFits w64 (neg_ℤ (pos r))
minus_fits zero h = record { sfits = pow_pos 63 }
minus_fits (suc r) h = record { sfits = omega arith }

-- ---- from the bits
-- what a value between 1 and 2 ^ 63 is as a fraction
fraction : (x : Float) (s : Bool) (a c : ℕ) → 0 < c → Middling x → HasValue x s a c
    → (s ≡ false) × (c ≤ a) × (a < 2 ^ 63 * c) × (to_unsigned 64 x ≡ a / c)
unfolding lt to_unsigned
fraction nan s a c C g v = absurd v
fraction (inf t) s a c C g v = absurd v
fraction (fin true m e) s a c C g v = absurd (rw (at_least 0 (fin true m e)) at g.large)
fraction (fin false m e) s a c C g v =
    let k : T (leb (2 ^ 0) (whole_of m e)) = rw (at_least 0 (fin false m e)) at g.large in
    let l : 1 * down e ≤ m * up e = (le-div_iff_mul-le (down_pos e)).0 (leb→le (2 ^ 0) (whole_of m e) k) in
    let u : m * up e < 2 ^ 63 * down e = ltb→lt (m * up e) (2 ^ 63 * down e) (rw (mul-one (m * up e)) at g.small) in
    let low : c * down e ≤ a * down e = rw (← v.1, mul_comm c (down e)) (mul-le-mul_right c (rw (one-mul (down e)) at l)) in
    let high : a * down e < 2 ^ 63 * c * down e = rw (← v.1, mul_right_comm (2 ^ 63) c (down e)) (mul-lt-mul_of_pos_right u C) in
    let a_lt : a < 2 ^ 63 * c = lt_of_mul-lt-mul_right (down e) high in
    let same : whole_of m e ≡ a / c = div_same (m * up e) (down e) a c (down_pos e) C v.1 in
    let q_lt : a / c < 2 ^ 63 = (div-lt_iff_lt-mul C).1 a_lt in
    (sym v.0, le_of_mul-le-mul_right low (down_pos e), a_lt, omega arith)

-- what the two fields of the bits of such a value say
pub record Fields (p q : ℕ) (x : Float) : Type 0 where
  pub some : 1 ≤ p
  pub lead : 2 ^ 52 ≤ q
  pub short : q < 2 ^ 53
  pub value : HasValue x false (q * 2 ^ (p - 1)) (2 ^ 1074)

not_finite : (x : Float) → finite x ≡ false → Middling x → ⊥
unfolding le lt
not_finite nan n g = g.large
not_finite (inf true) n g = g.large
not_finite (inf false) n g = g.small
not_finite (fin s m e) n g = absurd (true≢false n)

no_field : (t : ℕ) → t < 2 ^ 52 → 2 ^ 1074 ≤ t * 2 ^ 0 → ⊥
no_field t h k = absurd (lt_irrefl t (lt_of_lt_of_le h (le_trans (pow_mono wide) (le_trans k (le_of_eq (mul-one t))))))
  where
    wide : 52 ≤ 1074
    wide = omega arith

read_fields : (s : Bool) (p t : ℕ) → t < 2 ^ 52 → Middling (of_fields binary64 s p t) → (s ≡ false) × Fields p (t + 2 ^ 52) (of_fields binary64 s p t)
unfolding of_fields
read_fields s zero t h g =
    absurd (no_field t h (fraction (odd 53 s t 0 1074) s (t * 2 ^ 0) (2 ^ 1074) (pow_pos 1074) g (odd_sign 53 s t 0 1074)).1)
read_fields s (suc p) t h g = by (eqb (suc p) 2047) (eqb t 0) g
  where
    by : (u w : Bool) → Middling (cond u (cond w (inf s) nan) (odd 53 s (2 ^ 52 + t) p 1074))
        → (s ≡ false) × Fields (suc p) (t + 2 ^ 52) (cond u (cond w (inf s) nan) (odd 53 s (2 ^ 52 + t) p 1074))
    by true true g = absurd (not_finite (inf s) refl g)
    by true false g = absurd (not_finite nan refl g)
    by false w g =
        let z : t + 2 ^ 52 ≡ 2 ^ 52 + t = omega arith in
        let k : suc p - 1 ≡ p = omega arith in
        let v : HasValue (odd 53 s (2 ^ 52 + t) p 1074) s ((2 ^ 52 + t) * 2 ^ p) (2 ^ 1074) = odd_sign 53 s (2 ^ 52 + t) p 1074 in
        let f = fraction (odd 53 s (2 ^ 52 + t) p 1074) s ((2 ^ 52 + t) * 2 ^ p) (2 ^ 1074) (pow_pos 1074) g v in
        (f.0, record { some = omega arith; lead = omega arith; short = omega arith; value = rw (z, k, ← f.0) v })

pub bits_fields : (x : Float) → fits binary64 x ≡ true → Middling x → Fields (to_bits binary64 x / 2 ^ 52) (to_bits binary64 x % 2 ^ 52 + 2 ^ 52) x
unfolding of_bits
bits_fields x h g =
    let b = to_bits binary64 x in
    let e : of_fields binary64 (leb (2 ^ 63) b) (b % 2 ^ 63 / 2 ^ 52) (b % 2 ^ 52) ≡ x = of_bits-to_bits binary64 x (rw h tt) in
    let r = read_fields (leb (2 ^ 63) b) (b % 2 ^ 63 / 2 ^ 52) (b % 2 ^ 52) (mod-lt b (pow_pos 52)) (rw e g) in
    rw (e, mod-eq_of_lt (leb-false (2 ^ 63) b r.0)) at r.1

module _ (q a l : ℕ) where
  low_bound : 2 ^ l ≤ q * 2 ^ a → q < 2 ^ 53 → l < 53 + a
  low_bound h k = lt_of_not-le (λ (g : 53 + a ≤ l). lt_irrefl (q * 2 ^ a) (lt_of_lt_of_le (shl_lt 53 a k) (le_trans (pow_mono g) h)))

  high_bound : q * 2 ^ a < 2 ^ 63 * 2 ^ l → 2 ^ 52 ≤ q → 52 + a < 63 + l
  high_bound h k = lt_of_not-le
      (λ (g : 63 + l ≤ 52 + a). lt_irrefl (q * 2 ^ a)
      (lt_of_lt_of_le h (le_trans (le_of_eq (sym (pow-add 2 63 l)))
      (le_trans (pow_mono g) (le_trans (le_of_eq (pow-add 2 52 a)) (mul-le-mul_right (2 ^ a) k))))))

  shift_right : a ≤ l → q * 2 ^ a / 2 ^ l ≡ q / 2 ^ (l - a)
  shift_right h = div_same (q * 2 ^ a) (2 ^ l) q (2 ^ (l - a)) (pow_pos l) (pow_pos (l - a))
      (mul_assoc q (2 ^ a) (2 ^ (l - a)) ∙ rw (← (pow-add 2 a (l - a)), add-sub_of_le h))

  shift_left : l ≤ a → q * 2 ^ a / 2 ^ l ≡ q * 2 ^ (a - l)
  shift_left h =
      let e : q * 2 ^ a ≡ q * 2 ^ (a - l) * 2 ^ l = sym (mul_assoc q (2 ^ (a - l)) (2 ^ l) ∙ rw (← (pow-add 2 (a - l) l), back a l h)) in
      rw e (mul-div_cancel (q * 2 ^ (a - l)) (pow_pos l))

module _ (x : Float) (p q : ℕ) (g : Middling x) (f : Fields p q x) where
  is-fraction : (false ≡ false) × (2 ^ 1074 ≤ q * 2 ^ (p - 1)) × (q * 2 ^ (p - 1) < 2 ^ 63 * 2 ^ 1074)
      × (to_unsigned 64 x ≡ q * 2 ^ (p - 1) / 2 ^ 1074)
  is-fraction = fraction x false (q * 2 ^ (p - 1)) (2 ^ 1074) (pow_pos 1074) g f.value

  pub bits_near : (1023 ≤ p) × (p < 1086)
  bits_near =
      let l : 1074 < 53 + (p - 1) = low_bound q (p - 1) 1074 is-fraction.1 f.short in
      let h : 52 + (p - 1) < 63 + 1074 = high_bound q (p - 1) 1074 is-fraction.2 f.lead in
      let s : 1 ≤ p = f.some in
      near p l h s
    where
      near : (p : ℕ) → 1074 < 53 + (p - 1) → 52 + (p - 1) < 63 + 1074 → 1 ≤ p → (1023 ≤ p) × (p < 1086)
      near p l h s = (omega arith, omega arith)

  pub bits_right : p ≤ 1075 → q / 2 ^ (1075 - p) ≡ to_unsigned 64 x
  bits_right h =
      let s : 1 ≤ p = f.some in
      let e : 1074 - (p - 1) ≡ 1075 - p = moved p s h in
      let i : p - 1 ≤ 1074 = below p h in
      sym (is-fraction.3 ∙ shift_right q (p - 1) 1074 i ∙ rw e)
    where
      moved : (p : ℕ) → 1 ≤ p → p ≤ 1075 → 1074 - (p - 1) ≡ 1075 - p
      moved p s h = omega arith

      below : (p : ℕ) → p ≤ 1075 → p - 1 ≤ 1074
      below p h = omega arith

  pub bits_left : 1075 < p → q * 2 ^ (p - 1075) % 2 ^ 64 ≡ to_unsigned 64 x
  bits_left h =
      let e : p - 1 - 1074 ≡ p - 1075 = moved p in
      let i : 1074 ≤ p - 1 = above p h in
      let w : to_unsigned 64 x ≡ q * 2 ^ (p - 1075) = is-fraction.3 ∙ shift_left q (p - 1) 1074 i ∙ rw e in
      rw (← w) (mod-eq_of_lt (to_unsigned-lt 64 x))
    where
      moved : (p : ℕ) → p - 1 - 1074 ≡ p - 1075
      moved p = omega arith

      above : (p : ℕ) → 1075 < p → 1074 ≤ p - 1
      above p h = omega arith
