-- An f32 has one spelling within the limits of a size: two of at most 6 digits, at most 10 of them behind the point, without zeros at the end
-- there, that mean the same f32 are the same. So it is the one that `{}` prints, being the shortest. Assumes nothing.
--     near            a fraction in the normal range and the multiple of the unit that it is rounded to
--     one_spelling    two sizes with the same f32 are the same
use Rattle.std.proofs.Common.{◌≡◌, ℕ, zero, suc, ◌+◌, ◌-◌, ◌*◌, ◌/◌, ◌%◌, ◌^◌, ◌<◌, ◌≤◌, Bool, true, false, eqb, leb, sym, refl, ap, ◌∙◌, subst, mul-le-mul_right, mod-lt, mul_assoc, suc-mul, mul_comm, add-mul, mul-le-mul_left, mul-pos, pow-suc, div-add-mod', le-div_iff_mul-le, zero-mul, mul-one, mul_right_comm, le_of_mul-le-mul_right, mul-div_cancel, mul_left_comm, arith, lit≤, ltb→lt, pow_pos, pow-add, eqb-true, leb-false, leb-true}
use Prim.Native.Nat.{compare}
use native.Mathlib.Nat.{one-le-pow}
use native.Mathlib.Nat.{mul-mod_left}
use lib.Ieee.{Float, nan, inf, fin, binary32, size, round, down}
use lib.Ieee.Digits.{size_reaches}
use lib.Ieee.Fits.{nearest-le, round_is, down_pos}
use lib.Ieee.Exact.{HasValue, units_val}
use lib.Ieee.Nearest.{closest, nearest-ge}
use lib.Ieee.Order.{drop, kept}
use lib.Ieee.Scale.{grid, overflow, normal_of_fraction}
use borrow.Author.Tests.{eqb-false}
use Rattle.decimals.specs.declared.size.Size.{Size}
use Rattle.decimals.specs.Size.{is_size}
use Rattle.decimals.proofs.Sizes.{IsSize, size-says, small_power}

-- ---- rounding moves a fraction by no more than a unit, which is a 2 ^ -23rd of it at most
-- n / (c * u) to a whole number, times the unit u, where the fraction has 24 binary digits or more above the unit
module _ (n c u : ℕ) (C : 0 < c) (U : 0 < u) (large : c * u * 8388608 ≤ n) where
  rounded : ℕ
  rounded = closest n (c * u) * (c * u)

  near_unit : (n ≤ rounded + c * u) × (rounded ≤ n + c * u)
  unfolding rounded
  near_unit =
      let d : ℕ = c * u in
      let q : ℕ = n / d in
      let k : ℕ = closest n d in
      let l = mod-lt n (mul-pos C U) in
      let e : q * d + n % d ≡ n = div-add-mod' n d in
      let low : q * d ≤ k * d = mul-le-mul_right d (nearest-ge q (compare (n % d * 2) d)) in
      let high : k * d ≤ suc q * d = mul-le-mul_right d (nearest-le q (compare (n % d * 2) d)) in
      let more : suc q * d ≡ q * d + d = suc-mul q d in
      (omega arith, omega arith)

  near : (n * 8388608 ≤ rounded * 8388608 + n) × (rounded * 8388608 ≤ n * 8388608 + n)
  near = (omega (arith, near_unit.0), omega (arith, near_unit.1))

turn : (x y z : ℕ) → x * y * z ≡ z * x * y
turn x y z = simp (mul_assoc, mul_comm)

-- a / c, in units of 2 ^ -149
module _ (a c : ℕ) (A : 0 < a) (C : 0 < c) (few : c ≤ 10 ^ 10) where
  reach : (u : ℕ) → 8388608 * 10 ^ 10 ≤ u → 8388608 * c ≤ a * u
  reach u h = let l : 1 * u ≤ a * u = mul-le-mul_right u A in omega arith

  normal : 24 ≤ size (a * 2 ^ 149 / c)
  normal = normal_of_fraction binary32 a c C (reach (2 ^ 149) (lit≤ tt))

  digits_left : (z k : ℕ) → 24 ≤ z → k ≡ z - 24 → k + 23 < z
  digits_left z k h e = omega arith

  large : c * 2 ^ drop 24 (a * 2 ^ 149) c * 8388608 ≤ a * 2 ^ 149
  large =
      let n : ℕ = a * 2 ^ 149 in
      let k : ℕ = drop 24 n c in
      let h : 2 ^ (k + 23) * c ≤ n = (le-div_iff_mul-le C).0 (size_reaches (n / c) (k + 23) (digits_left (size (n / c)) k normal refl)) in
      let f : 2 ^ (k + 23) * c ≡ c * 2 ^ k * 8388608 = ap (λ (x : ℕ). x * c) (pow-add 2 k 23) ∙ turn (2 ^ k) 8388608 c in
      subst (λ (x : ℕ). x ≤ n) f h

  near_grid : (a * 2 ^ 149 * 8388608 ≤ grid binary32 a c * c * 8388608 + a * 2 ^ 149)
      × (grid binary32 a c * c * 8388608 ≤ a * 2 ^ 149 * 8388608 + a * 2 ^ 149)
  unfolding rounded
  near_grid =
      let n : ℕ = a * 2 ^ 149 in
      let k : ℕ = drop 24 n c in
      let e : grid binary32 a c * c ≡ closest n (c * 2 ^ k) * (c * 2 ^ k) = simp (mul_assoc, mul_comm, mul_left_comm) in
      rw e (near n c (2 ^ k) C (pow_pos k) large)

some : (n : ℕ) → (n ≡ 0 → ⊥) → 0 < n
some n h = omega (arith, h)

-- ---- the same float is the same multiple of the unit
cancel : (x y d : ℕ) → 0 < d → x * d ≡ y * d → x ≡ y
cancel x y d h e = sym (mul-div_cancel x h) ∙ (ap (λ (z : ℕ). z / d) e ∙ mul-div_cancel y h)

value_same : (x : Float) (s t : Bool) (a b c : ℕ) → HasValue x s a c → HasValue x t b c → (s ≡ t) × (a ≡ b)
value_same nan s t a b c v w = absurd v
value_same (inf r) s t a b c v w = absurd v
value_same (fin r m e) s t a b c v w = (sym v.0 ∙ w.0, cancel a b (down e) (down_pos e) (sym v.1 ∙ w.1))

round_has : (s : Bool) (a c : ℕ) → grid binary32 a c < overflow binary32 → HasValue (round binary32 s a c) s (grid binary32 a c) (2 ^ 149)
round_has s a c h =
    subst (λ (z : Float). HasValue z s (grid binary32 a c) (2 ^ 149)) (sym (round_is binary32 s a c))
    (units_val binary32 s (kept 24 (a * 2 ^ 149) c) (drop 24 (a * 2 ^ 149) c) h)

below : (g c a u o : ℕ) → 1 ≤ c → g * c * 8388608 ≤ a * u * 8388608 + a * u → a ≤ 999999 → 1999998 * u < o → g < o
below g c a u o h k l m =
    let x : g * 1 ≤ g * c = mul-le-mul_left g h in
    let y : a * u ≤ 999999 * u = mul-le-mul_right u l in
    omega arith

zero_grid : grid binary32 0 1 ≡ 0
unfolding size
zero_grid = refl

-- ---- two fractions that are rounded alike
module _ (a b c d g u : ℕ) (U : 0 < u) where
  cross : a * u * 8388608 ≤ g * c * 8388608 + a * u → g * d * 8388608 ≤ b * u * 8388608 + b * u → a * d * 8388608 ≤ b * c * 8388608 + b * c + a * d
  cross h k =
      let x : ℕ = a * d * u in
      let y : ℕ = b * c * u in
      let z : ℕ = g * c * d in
      let p : a * u * 8388608 * d ≤ (g * c * 8388608 + a * u) * d = mul-le-mul_right d h in
      let q : g * d * 8388608 * c ≤ (b * u * 8388608 + b * u) * c = mul-le-mul_right c k in
      let e : a * u * 8388608 * d ≡ x * 8388608 = simp (mul_assoc, mul_comm, mul_left_comm) in
      let f : (g * c * 8388608 + a * u) * d ≡ z * 8388608 + x = simp (add-mul, mul_assoc, mul_comm, mul_left_comm) in
      let i : g * d * 8388608 * c ≡ z * 8388608 = simp (mul_assoc, mul_comm, mul_left_comm) in
      let j : (b * u * 8388608 + b * u) * c ≡ y * 8388608 + y = simp (add-mul, mul_assoc, mul_comm, mul_left_comm) in
      let l : x * 8388608 ≤ y * 8388608 + y + x = omega arith in
      let m : a * d * 8388608 * u ≡ x * 8388608 = simp (mul_assoc, mul_comm, mul_left_comm) in
      let n : (b * c * 8388608 + b * c + a * d) * u ≡ y * 8388608 + y + x = simp (add-mul, mul_assoc, mul_comm, mul_left_comm) in
      le_of_mul-le-mul_right (rw (m, n) l) U

-- ---- the same decimal
close : (x b : ℕ) → b ≤ 999999 → x * 8388608 ≤ b * 8388608 + b + x → b * 8388608 ≤ x * 8388608 + x + b → x ≡ b
close x b h k l = omega arith

-- a decimal with i digits behind the point, and one with k more of them, which does not end in a zero there
module _ (a b i k : ℕ) (few : b ≤ 999999) (trim : 0 < i + k → b % 10 ≡ 0 → ⊥) where
  same_decimal : a * 10 ^ (i + k) * 8388608 ≤ b * 10 ^ i * 8388608 + b * 10 ^ i + a * 10 ^ (i + k)
      → b * 10 ^ i * 8388608 ≤ a * 10 ^ (i + k) * 8388608 + a * 10 ^ (i + k) + b * 10 ^ i → (k ≡ 0) × (a ≡ b)
  same_decimal h l =
      let c : ℕ = 10 ^ i in
      let x : ℕ = a * 10 ^ k in
      let w : a * 10 ^ (i + k) ≡ x * c = rw (pow-add 10 i k) (simp (mul_assoc, mul_comm)) in
      let p : x * 8388608 * c ≤ (b * 8388608 + b + x) * c = rw (left x b c, right x b c) (rw w at h) in
      let q : b * 8388608 * c ≤ (x * 8388608 + x + b) * c = rw (left b x c, right b x c) (rw w at l) in
      let C : 0 < c = one-le-pow i 10 (lit≤ tt) in
      last k trim (close x b few (le_of_mul-le-mul_right p C) (le_of_mul-le-mul_right q C))
    where
      left : (x b c : ℕ) → x * 8388608 * c ≡ x * c * 8388608
      left x b c = mul_right_comm x 8388608 c

      right : (x b c : ℕ) → (b * 8388608 + b + x) * c ≡ b * c * 8388608 + b * c + x * c
      right x b c = rw (add-mul (b * 8388608 + b) x c, add-mul (b * 8388608) b c, mul_right_comm b 8388608 c)

      last : (k : ℕ) → (0 < i + k → b % 10 ≡ 0 → ⊥) → a * 10 ^ k ≡ b → (k ≡ 0) × (a ≡ b)
      last zero t e = (refl, rw (mul-one a) at e)
      last (suc k) t e =
          let z : a * 10 ^ suc k ≡ a * 10 ^ k * 10 = rw pow-suc (sym (mul_assoc a (10 ^ k) 10)) in
          absurd (t (omega arith) (rw (← e, z) (mul-mod_left (a * 10 ^ k) 10)))

-- ---- sizes
module _ (s : Size) (i : IsSize s) where
  power_some : 0 < 10 ^ s.scale
  power_some = one-le-pow s.scale 10 (lit≤ tt)

  power_few : 10 ^ s.scale ≤ 10 ^ 10
  power_few = small_power s.scale i.near

  abbrev multiple : ℕ
  multiple = grid binary32 s.digits (10 ^ s.scale)

  zero_scale : s.digits ≡ 0 → s.scale ≡ 0
  zero_scale e = by s.scale refl
    where
      by : (k : ℕ) → s.scale ≡ k → s.scale ≡ 0
      by zero w = w
      by (suc k) w = absurd (i.trim (omega arith) (rw e))

  zero_multiple : s.digits ≡ 0 → multiple ≡ 0
  zero_multiple e = rw (e, zero_scale e) zero_grid

  has_value : HasValue s.value s.negative multiple (2 ^ 149)
  has_value = rw i.value-is (round_has s.negative s.digits (10 ^ s.scale) small)
    where
      small : multiple < overflow binary32
      small = by (eqb s.digits 0) refl
        where
          by : (t : Bool) → eqb s.digits 0 ≡ t → multiple < overflow binary32
          by true e = rw (zero_multiple (eqb-true s.digits 0 e)) (ltb→lt 0 (overflow binary32) tt)
          by false e =
              let n = (near_grid s.digits (10 ^ s.scale) (some s.digits (eqb-false s.digits 0 e)) power_some power_few).1 in
              below multiple (10 ^ s.scale) s.digits (2 ^ 149) (overflow binary32) power_some n i.few
              (ltb→lt (1999998 * 2 ^ 149) (overflow binary32) tt)

module _ (s t : Size) (i : IsSize s) (j : IsSize t) (e : s.value ≡ t.value) where
  same : (s.negative ≡ t.negative) × (multiple s i ≡ multiple t j)
  same =
      value_same t.value s.negative t.negative (multiple s i) (multiple t j) (2 ^ 149)
      (subst (λ (x : Float). HasValue x s.negative (multiple s i) (2 ^ 149)) e (has_value s i)) (has_value t j)

  -- one that is no zero is rounded to no zero
  nothing-rounded : (a g c u : ℕ) → 0 < a → 0 < u → g ≡ 0 → a * u * 8388608 ≤ g * c * 8388608 + a * u → ⊥
  nothing-rounded a g c u A U z h =
      let k : 0 < a * u = mul-pos A U in
      let l : g * c ≡ 0 = rw z (zero-mul c) in
      omega arith

  no_zero : s.digits ≡ 0 → t.digits ≡ 0
  no_zero z = by (eqb t.digits 0) refl
    where
      by : (b : Bool) → eqb t.digits 0 ≡ b → t.digits ≡ 0
      by true w = eqb-true t.digits 0 w
      by false w =
          let b = some t.digits (eqb-false t.digits 0 w) in
          let n = (near_grid t.digits (10 ^ t.scale) b (power_some t j) (power_few t j)).0 in
          absurd (nothing-rounded t.digits (multiple t j) (10 ^ t.scale) (2 ^ 149) b (pow_pos 149) (sym same.1 ∙ zero_multiple s i z) n)

  module _ (A : 0 < s.digits) (B : 0 < t.digits) where
    one_decimal : (s.scale ≡ t.scale) × (s.digits ≡ t.digits)
    one_decimal =
        let a : ℕ = s.digits in
        let b : ℕ = t.digits in
        let c : ℕ = 10 ^ s.scale in
        let d : ℕ = 10 ^ t.scale in
        let n = rw same.1 at (near_grid a c A (power_some s i) (power_few s i)) in
        let m = near_grid b d B (power_some t j) (power_few t j) in
        let h = cross a b c d (multiple t j) (2 ^ 149) (pow_pos 149) n.0 m.1 in
        let l = cross b a d c (multiple t j) (2 ^ 149) (pow_pos 149) m.0 n.1 in
        by (leb s.scale t.scale) refl h l
      where
        by : (r : Bool) → leb s.scale t.scale ≡ r
            → s.digits * 10 ^ t.scale * 8388608
            ≤ t.digits * 10 ^ s.scale * 8388608 + t.digits * 10 ^ s.scale + s.digits * 10 ^ t.scale
            → t.digits * 10 ^ s.scale * 8388608
            ≤ s.digits * 10 ^ t.scale * 8388608 + s.digits * 10 ^ t.scale + t.digits * 10 ^ s.scale
            → (s.scale ≡ t.scale) × (s.digits ≡ t.digits)
        by true r h l =
            let k : ℕ = t.scale - s.scale in
            let z : t.scale ≡ s.scale + k = omega (arith, leb-true s.scale t.scale r) in
            let q = same_decimal s.digits t.digits s.scale k j.few (rw z at j.trim) (rw z at h) (rw z at l) in
            (omega (arith, q.0), q.1)
        by false r h l =
            let k : ℕ = s.scale - t.scale in
            let z : s.scale ≡ t.scale + k = omega (arith, leb-false s.scale t.scale r) in
            let q = same_decimal t.digits s.digits t.scale k i.few (rw z at i.trim) (rw z at l) (rw z at h) in
            (omega (arith, q.0), sym q.1)

  numbers : (s.scale ≡ t.scale) × (s.digits ≡ t.digits)
  numbers = by (eqb s.digits 0) refl (eqb t.digits 0) refl
    where
      by : (p : Bool) → eqb s.digits 0 ≡ p → (q : Bool) → eqb t.digits 0 ≡ q → (s.scale ≡ t.scale) × (s.digits ≡ t.digits)
      by true p q w =
          let x : s.digits ≡ 0 = eqb-true s.digits 0 p in
          let y : t.digits ≡ 0 = no_zero x in
          (zero_scale s i x ∙ sym (zero_scale t j y), x ∙ sym y)
      by false p true w =
          let y : t.digits ≡ 0 = eqb-true t.digits 0 w in
          let a = some s.digits (eqb-false s.digits 0 p) in
          let n = (near_grid s.digits (10 ^ s.scale) a (power_some s i) (power_few s i)).0 in
          absurd (nothing-rounded s.digits (multiple s i) (10 ^ s.scale) (2 ^ 149) a (pow_pos 149) (same.1 ∙ zero_multiple t j y) n)
      by false p false w = one_decimal (some s.digits (eqb-false s.digits 0 p)) (some t.digits (eqb-false t.digits 0 w))

  one_size : s ≡ t
  one_size = rw (← numbers.0, ← numbers.1, ← same.0, ← e)

pub one_spelling : (s t : Size) → is_size s ≡ true → is_size t ≡ true → s.value ≡ t.value → s ≡ t
one_spelling s t h k e = one_size s t (size-says s h) (size-says t k) e
