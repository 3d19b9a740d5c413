-- Laws of signed sums and products that are tested for overflow. Assumes nothing.
use Rattle.std.specs.Prelude.{Option, Some, None, SomeIff}
use Prim.Native.Nat.{ℕ, zero, suc, ◌-◌, ◌*◌, ◌/◌, ◌^◌, ◌≤◌, ◌<◌}
use mathlib.Core.Path.{◌≡◌, refl, sym, ap, ◌∙◌}
use mathlib.Core.Bool.{Bool, true, false, cond}
use native.Mathlib.Omega.{arith}
use native.Mathlib.Nat.{zero-mul}
use lib.Dec.{T, ltb}
use lib.IntN.{ℤ, pos, negsuc, neg_ℤ, sub_ℕ, nat_abs, ◌-ℤ◌, ◌*ℤ◌}
use lib.Signed.{mag, lt_z, non_neg}
use mir.Syntax.{w64}
use mir.Val.{to_z, SFits}
use borrow.Author.Tests.{ltb-true, ltb-false, lt-ltb, le-ltb}
use Rattle.scan.proofs.Every.{by-test}
use Rattle.times.specs.Sums.{is_i64, checked, signed}
use Rattle.times.specs.Written.{millis}

-- ---- what is tested
module _ (z : ℤ) where
  pub checked-fits : mag z < 2 ^ 63 → checked z ≡ Some z
  unfolding checked is_i64
  checked-fits h = by z h
    where
      by : (v : ℤ) → mag v < 2 ^ 63 → cond (is_i64 v) (Some v) None ≡ Some v
      by (pos n) l = rw (lt-ltb n (2 ^ 63) l)
      by (negsuc n) l = rw (lt-ltb n (2 ^ 63) l)

  pub checked-over : 2 ^ 63 ≤ mag z → checked z ≡ None
  unfolding checked is_i64
  checked-over h = by z h
    where
      by : (v : ℤ) → 2 ^ 63 ≤ mag v → cond (is_i64 v) (Some v) None ≡ None
      by (pos n) l = rw (le-ltb n (2 ^ 63) l)
      by (negsuc n) l = rw (le-ltb n (2 ^ 63) l)

  pub checked-is : (v : ℤ) → v ≡ z → mag z < 2 ^ 63 → Some v ≡ checked z
  checked-is v e h = ap Some e ∙ sym (checked-fits h)

-- what `checked_add` answers
pub checked_by : (r : Option ℤ) (z : ℤ) → SomeIff r (SFits w64 z) z → r ≡ checked z
checked_by (Some v) z h = checked-is z v h.1 h.0.sfits
checked_by None z h =
    by-test (ltb (mag z) (2 ^ 63)) (λ t. absurd (h (record { sfits = ltb-true (mag z) (2 ^ 63) t })))
    (λ t. sym (checked-over z (ltb-false (mag z) (2 ^ 63) t)))

false_true : {A : Type 0} → false ≡ true → A
false_true e = absurd (let z : ◌≡◌ {A = ℕ} 0 1 = cc in omega arith)

-- ---- a difference of naturals
module _ (a b : ℕ) where
  pub difference : b ≤ a → sub_ℕ a b ≡ pos (a - b)
  difference h = rw (le-ltb a b h)

-- ---- a sign and a magnitude
module _ (n : ℕ) where
  pub minus_one : negsuc 0 -ℤ pos n ≡ negsuc n
  minus_one = by n
    where
      by : (k : ℕ) → negsuc 0 -ℤ pos k ≡ negsuc k
      by zero = refl
      by (suc k) = ap (λ (j : ℕ). negsuc (suc j)) (omega arith)

  pub low_bits : n < 2 ^ 63 → to_z w64 n ≡ pos n
  low_bits h = rw (lt-ltb n (2 ^ 63) h)

-- one off, the cast, and one off again
pub less_one : (n : ℕ) → 0 < n → n ≤ 2 ^ 63 → negsuc 0 -ℤ to_z w64 (n - 1) ≡ neg_ℤ (pos n)
less_one zero h l = absurd (omega arith)
less_one (suc k) h l =
    let z : suc k - 1 ≡ k = omega arith in
    let b : to_z w64 (suc k - 1) ≡ pos k = ap (to_z w64) z ∙ low_bits k (omega arith) in
    ap (λ (v : ℤ). negsuc 0 -ℤ v) b ∙ minus_one k

pub negative_fits : (m : ℕ) → m ≤ 2 ^ 63 → mag (neg_ℤ (pos m)) < 2 ^ 63
negative_fits zero h = omega arith
negative_fits (suc m) h = omega arith

-- ---- whole milliseconds
module _ (z x : ℤ) (e : x ≡ z) where
  pub millis-below : lt_z x (pos 0) ≡ true → millis z ≡ 0
  unfolding millis
  millis-below t = by z (rw e at t)
    where
      by : (v : ℤ) → lt_z v (pos 0) ≡ true → millis v ≡ 0
      by (pos n) t = absurd (omega (arith, ltb-true n 0 t))
      by (negsuc n) t = refl

  module _ (up : lt_z x (pos 0) ≡ false) where
    pub millis-unsigned : mag z < 2 ^ 63 → T (non_neg x) × (nat_abs x < 2 ^ 64)
    millis-unsigned h = rw e (by z h (rw e at up))
      where
        by : (v : ℤ) → mag v < 2 ^ 63 → lt_z v (pos 0) ≡ false → T (non_neg v) × (nat_abs v < 2 ^ 64)
        by (pos n) h t = (tt, omega arith)
        by (negsuc n) h t = false_true (sym t)

    pub millis-above : nat_abs x / 1000 ≡ millis z
    unfolding millis
    millis-above = rw e (by z (rw e at up))
      where
        by : (v : ℤ) → lt_z v (pos 0) ≡ false → nat_abs v / 1000 ≡ millis v
        by (pos n) t = refl
        by (negsuc n) t = false_true (sym t)

pub signed-over : (t : Bool) (m : ℕ) → 2 ^ 63 < m → checked (signed t m) ≡ None
signed-over true (suc m) h = checked-over (negsuc m) (omega arith)
signed-over true zero h = absurd (omega arith)
signed-over false m h = checked-over (pos m) (omega arith)

pub signed-times : (t : Bool) (m u : ℕ) → signed t m *ℤ pos u ≡ signed t (m * u)
signed-times true zero u = rw (zero-mul u)
signed-times true (suc m) u = refl
signed-times false m u = refl
