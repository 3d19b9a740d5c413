-- A decimal's float by one division. Both operands are exact, so the quotient is the fraction rounded once. Assumes nothing.
--     quotient        the digits as a float, divided by an entry of a table of powers of ten
--     minus_quotient  its negative
--     round_neg       the negative of a rounded fraction
--     value-zero      a zero at a decimal's end changes nothing
use Rattle.std.proofs.Common.{◌≡◌, ℕ, zero, suc, ◌+◌, ◌*◌, ◌^◌, ◌<◌, ◌≤◌, Bool, true, false, cond, not, ◌&&◌, eqb, ltb, List, [], ◌∷◌, length, get_or, pos, sym, refl, ap, ◌∙◌, add-zero, mul_assoc, mul_comm, mul-pos, pow-suc, zero-mul, mul-one, mul_left_comm, arith, ne_eqb, eqb-true}
use mathlib.Core.Bool.{and-eq-true_iff}
use native.Mathlib.Nat.{one-le-pow}
use lib.Ieee.{Float, nan, inf, fin, Format, binary32, binary64, prec, emax, low, up, down, odd, units, round, of_int, div, neg}
use lib.Ieee.Back.{round_whole}
use lib.Ieee.Exact.{HasValue}
use lib.Ieee.Fits.{down_pos}
use lib.Ieee.Scale.{round_same}
use Rattle.decimals.specs.Floats.{value_in_of}

-- ---- the quotient of two whole numbers
cross : (a b u w d e : ℕ) → u ≡ a * e → w ≡ b * d → u * d * b ≡ a * (w * e)
cross a b u w d e p q = rw (p, q) (simp (mul_assoc, mul_comm, mul_left_comm))

whole-div : (f : Format) (x y : Float) (a b : ℕ) → HasValue x false a 1 → HasValue y false b 1 → 0 < b → div f x y ≡ round f false a b
unfolding div
whole-div f nan y a b v w h = absurd v
whole-div f (inf s) y a b v w h = absurd v
whole-div f (fin s m e) nan a b v w h = absurd w
whole-div f (fin s m e) (inf t) a b v w h = absurd w
whole-div f (fin s m e) (fin t n d) a b v w h =
    let p : m * up e ≡ a * down e = sym (mul-one (m * up e)) ∙ v.1 in
    let q : n * up d ≡ b * down d = sym (mul-one (n * up d)) ∙ w.1 in
    let l : 0 < n * up d = rw q (mul-pos h (down_pos d)) in
    let z : n ≡ 0 → ⊥ = λ k. let g : n * up d ≡ 0 = rw k (zero-mul (up d)) in omega arith in
    rw (v.0, w.0, ne_eqb n 0 z)
    (round_same f false (m * up e * down d) (n * up d * down e) a b (mul-pos l (down_pos e)) h
    (cross a b (m * up e) (n * up d) (down d) (down e) p q))

-- ---- a table of powers of ten
-- x is the whole number n
abbrev is_whole : Float → ℕ → Bool
is_whole nan n = false
is_whole (inf s) n = false
is_whole (fin s m e) n = not s && eqb (m * up e) (n * down e)

is-whole : (x : Float) (n : ℕ) → is_whole x n ≡ true → HasValue x false n 1
is-whole nan n e = let z : ◌≡◌ {A = ℕ} 0 1 = cc in absurd (omega arith)
is-whole (inf s) n e = let z : ◌≡◌ {A = ℕ} 0 1 = cc in absurd (omega arith)
is-whole (fin true m d) n e = let z : ◌≡◌ {A = ℕ} 0 1 = cc in absurd (omega arith)
is-whole (fin false m d) n e = (refl, mul-one (m * up d) ∙ eqb-true (m * up d) (n * down d) e)

-- the entries of t are 10 ^ k, 10 ^ (k + 1), ..
abbrev powers_from : ℕ → List Float → Bool
powers_from k [] = true
powers_from k (x ∷ t) = is_whole x (10 ^ k) && powers_from (suc k) t

power_at : (t : List Float) (k i : ℕ) → powers_from k t ≡ true → i < length t → HasValue (get_or t i nan) false (10 ^ (k + i)) 1
power_at [] k i e h = absurd (omega arith)
power_at (x ∷ t) k zero e h = rw (add-zero k) (is-whole x (10 ^ k) ((and-eq-true_iff (is_whole x (10 ^ k)) (powers_from (suc k) t)).0 e).0)
power_at (x ∷ t) k (suc i) e h =
    let g : k + suc i ≡ suc k + i = omega arith in
    rw g (power_at t (suc k) i ((and-eq-true_iff (is_whole x (10 ^ k)) (powers_from (suc k) t)).0 e).1 (omega arith))

-- the program's tables: 1, 10, 100, .. as floats, as many as are exact
abbrev tens_from : Format → ℕ → ℕ → List Float
tens_from f k zero = []
tens_from f k (suc w) = of_int f (pos (10 ^ k)) ∷ tens_from f (suc k) w

abbrev pub exact_tens : Format → ℕ
exact_tens binary32 = 11
exact_tens binary64 = 23

abbrev pub tens : Format → List Float
tens f = tens_from f 0 (exact_tens f)

tens_exact : (f : Format) → (powers_from 0 (tens f) ≡ true) × (length (tens f) ≡ exact_tens f)
unfolding of_int
tens_exact binary32 = (refl, refl)
tens_exact binary64 = (refl, refl)

pub quotient : (f : Format) (n k : ℕ) → k < exact_tens f → n ≤ 2 ^ prec f → div f (of_int f (pos n)) (get_or (tens f) k nan) ≡ value_in_of f false n k
unfolding of_int
quotient f n k h l =
    let z : 0 + k ≡ k = omega arith in
    whole-div f (round f false n 1) (get_or (tens f) k nan) n (10 ^ k) (round_whole f false n l)
    (rw z at (power_at (tens f) 0 k (tens_exact f).0 (omega (arith, (tens_exact f).1)))) (one-le-pow k 10 (omega arith))

-- ---- the sign
odd_neg : (d : ℕ) (s : Bool) (q k l : ℕ) → neg (odd d s q k l) ≡ odd d (not s) q k l
unfolding odd neg
odd_neg d s zero k l = refl
odd_neg d s (suc q) k l = refl

units_neg : (f : Format) (s : Bool) (q k : ℕ) → neg (units f s q k) ≡ units f (not s) q k
unfolding units neg
units_neg f s q k = by (ltb (q * 2 ^ k) (2 ^ (low f + suc (emax f))))
  where
    by : (b : Bool) → neg (cond b (odd (suc (prec f)) s q k (low f)) (inf s)) ≡ cond b (odd (suc (prec f)) (not s) q k (low f)) (inf (not s))
    by true = odd_neg (suc (prec f)) s q k (low f)
    by false = refl

pub round_neg : (f : Format) (s : Bool) (a b : ℕ) → neg (round f s a b) ≡ round f (not s) a b
unfolding round
round_neg f s a b = units_neg f s _ _

pub minus_quotient : (f : Format) (n k : ℕ) → k < exact_tens f → n ≤ 2 ^ prec f
    → neg (div f (of_int f (pos n)) (get_or (tens f) k nan)) ≡ value_in_of f true n k
minus_quotient f n k h l = ap neg (quotient f n k h l) ∙ round_neg f false n (10 ^ k)

-- ---- a zero at the end behind the point
pub value-zero : (f : Format) (s : Bool) (digits scale : ℕ) → value_in_of f s (digits * 10) (suc scale) ≡ value_in_of f s digits scale
value-zero f s digits scale =
    round_same f s (digits * 10) (10 ^ suc scale) digits (10 ^ scale) (one-le-pow (suc scale) 10 (omega arith)) (one-le-pow scale 10 (omega arith))
    (rw pow-suc (simp (mul_assoc, mul_comm, mul_left_comm)))
