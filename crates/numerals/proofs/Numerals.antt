-- Laws of digits, of the value of a row of digits and of whole numbers. Assumes nothing.
use Rattle.std.specs.Prelude.{Option, Some, None}
use Prim.Native.Nat.{ℕ, ◌+◌, ◌-◌, ◌*◌, ◌/◌, ◌≤◌, ◌<◌}
use mathlib.Core.Path.{◌≡◌, refl, sym, ap, ◌∙◌}
use mathlib.Core.Bool.{Bool, true, false, cond, ◌&&◌, and_assoc, and-false}
use mathlib.Core.List.{List, [], ◌∷◌, ◌++◌}
use native.Mathlib.Omega.{arith}
use native.Mathlib.Nat.{le-mul_of_pos_right, le-div_iff_mul-le, div-lt_iff_lt-mul}
use native.Mathlib.Numerals.{add-one}
use lib.Dec.{eqb, leb, ltb}
use lib.ListN.{length, get_or, take, drop, length-drop, drop_of_length-le}
use lib.Seq.{take_all, drop-cons}
use borrow.Author.Tests.{ltb-true, ltb-false, leb-true, leb-false, eqb-true, lt-ltb, le-ltb, le-leb, lt-leb, eq-eqb, ne_eqb}
use Rattle.scan.specs.Every.{every}
use Rattle.scan.proofs.Every.{both}
use Rattle.numerals.specs.declared.Whole.{Whole}
use Rattle.numerals.specs.Numerals.{digit_of, digits_only, value_from, unsigned_of, signed_by_of, numeral_of}

-- ---- a digit
module _ (a z b : ℕ) where
  between : a ≤ b → b ≤ z → (leb a b && leb b z) ≡ true
  between l h = rw (le-leb a b l, le-leb b z h)

  outside : (a ≤ b → b ≤ z → ⊥) → (leb a b && leb b z) ≡ false
  outside n = by (leb a b) (leb b z) refl refl
    where
      by : (l h : Bool) → leb a b ≡ l → leb b z ≡ h → (l && h) ≡ false
      by true true l h = absurd (n (leb-true a b l) (leb-true b z h))
      by true false l h = refl
      by false h l _ = refl

module _ (b : ℕ) where
  pub digit-byte : 48 ≤ b → b ≤ 57 → digit_of b ≡ b - 48
  unfolding digit_of
  digit-byte l h = rw (between 48 57 b l h)

  pub digit_ten : 48 ≤ b → b ≤ 57 → digit_of b < 10
  digit_ten l h = omega (arith, digit-byte l h)

  pub digit_capital : 65 ≤ b → b ≤ 90 → digit_of b ≡ b - 55
  unfolding digit_of
  digit_capital l h = rw (outside 48 57 b (λ x y. omega arith), between 65 90 b l h)

  pub digit_small : 97 ≤ b → b ≤ 122 → digit_of b ≡ b - 87
  unfolding digit_of
  digit_small l h = rw (outside 48 57 b (λ x y. omega arith), outside 65 90 b (λ x y. omega arith), between 97 122 b l h)

  pub digit_none : (48 ≤ b → b ≤ 57 → ⊥) → (65 ≤ b → b ≤ 90 → ⊥) → (97 ≤ b → b ≤ 122 → ⊥) → digit_of b ≡ 36
  unfolding digit_of
  digit_none n c s = rw (outside 48 57 b n, outside 65 90 b c, outside 97 122 b s)

-- ---- a row of digits
module _ (radix : ℕ) where
  pub value-append : (v : ℕ) (a b : List ℕ) → value_from radix v (a ++ b) ≡ value_from radix (value_from radix v a) b
  unfolding value_from
  value-append v [] b = refl
  value-append v (x ∷ a) b = value-append (v * radix + digit_of x) a b

  pub digits_append : (a b : List ℕ) → digits_only radix (a ++ b) ≡ (digits_only radix a && digits_only radix b)
  unfolding digits_only
  digits_append [] b = refl
  digits_append (x ∷ a) b = rw (digits_append a b, and_assoc)

  pub value_from-low : 1 ≤ radix → (v : ℕ) (s : List ℕ) → v ≤ value_from radix v s
  unfolding value_from
  value_from-low h v [] = omega arith
  value_from-low h v (x ∷ s) = omega (arith, le-mul_of_pos_right v h, value_from-low h (v * radix + digit_of x) s)

module _ (radix : ℕ) (s : List ℕ) (i : ℕ) (h : i < length s) where
  pub value-step : (v : ℕ) → value_from radix v (drop i s) ≡ value_from radix (v * radix + digit_of (get_or s i 0)) (drop (i + 1) s)
  unfolding value_from
  value-step v = rw (add-one i, drop-cons s i 0 h)

  pub digits_step : digits_only radix (drop i s) ≡ (ltb (digit_of (get_or s i 0)) radix && digits_only radix (drop (i + 1) s))
  unfolding digits_only
  digits_step = rw (add-one i, drop-cons s i 0 h)

-- ---- digits alone as a number
module _ (radix most : ℕ) where
  pub unsigned_is : (s : List ℕ) → 1 ≤ length s → digits_only radix s ≡ true → value_from radix 0 s ≤ most
      → unsigned_of s radix most ≡ Some (value_from radix 0 s)
  unfolding unsigned_of
  unsigned_is [] n d h = absurd (omega arith)
  unsigned_is (b ∷ s) n d h = rw (d, le-leb (value_from radix 0 (b ∷ s)) most h)

  pub unsigned-none : (s : List ℕ) → length s ≡ 0 → unsigned_of s radix most ≡ None
  unfolding unsigned_of
  unsigned-none [] h = refl
  unsigned-none (b ∷ s) h = absurd (omega arith)

  pub unsigned-off : (s : List ℕ) → digits_only radix s ≡ false → unsigned_of s radix most ≡ None
  unfolding unsigned_of
  unsigned-off [] d = refl
  unsigned-off (b ∷ s) d = rw d

  pub unsigned-over : (s : List ℕ) → most < value_from radix 0 s → unsigned_of s radix most ≡ None
  unfolding unsigned_of
  unsigned-over [] h = refl
  unsigned-over (b ∷ s) h = rw (lt-leb (value_from radix 0 (b ∷ s)) most h, and-false)

-- whether a product is within the largest, asked of the quotient
module _ (radix most v : ℕ) (r : 1 ≤ radix) where
  pub shift_fits : v ≤ most / radix → v * radix ≤ most
  shift_fits h = (le-div_iff_mul-le r).0 h

  pub shift_over : most / radix < v → most < v * radix
  shift_over h = (div-lt_iff_lt-mul r).0 h

-- one digit more, by the answer: within the largest, or past it
module _ (n most : ℕ) where
  pub up_to_is : (m : ℕ) → Some m ≡ cond (leb n most) (Some n) None → (m ≡ n) × (n ≤ most)
  up_to_is m e = by (leb n most) refl e
    where
      by : (t : Bool) → leb n most ≡ t → Some m ≡ cond t (Some n) None → (m ≡ n) × (n ≤ most)
      by true t w = (cc, leb-true n most t)
      by false t w = let z : ◌≡◌ {A = ℕ} 0 1 = cc in absurd (omega arith)

  pub up_to_none : None ≡ cond (leb n most) (Some n) None → most < n
  up_to_none e = by (leb n most) refl e
    where
      by : (t : Bool) → leb n most ≡ t → None ≡ cond t (Some n) None → most < n
      by true t w = let z : ◌≡◌ {A = ℕ} 0 1 = cc in absurd (omega arith)
      by false t w = omega (arith, leb-false n most t)

-- The reader of digits at i, with the value of those before: what is left decides what the whole text spells.
pub record Going (radix most : ℕ) (s : List ℕ) (v i : ℕ) : Type 0 where
  pub within : i ≤ length s
  pub fits : v ≤ most
  pub some : 1 ≤ length s
  pub value : value_from radix 0 s ≡ value_from radix v (drop i s)
  pub only : digits_only radix s ≡ digits_only radix (drop i s)

module _ (radix most : ℕ) (s : List ℕ) where
  module _ (v i : ℕ) (g : Going radix most s v i) where
    pub going_done : length s ≤ i → unsigned_of s radix most ≡ Some v
    unfolding value_from digits_only
    going_done h =
        let e : value_from radix 0 s ≡ v = g.value ∙ rw (drop_of_length-le s h) in
        let d : digits_only radix s ≡ true = g.only ∙ rw (drop_of_length-le s h) in
        unsigned_is radix most s g.some d (omega arith) ∙ rw e

    module _ (d : ℕ) (h : i < length s) (e : d ≡ digit_of (get_or s i 0)) where
      value_on : value_from radix 0 s ≡ value_from radix (v * radix + d) (drop (i + 1) s)
      value_on = rw e (g.value ∙ value-step radix s i h v)

      only-on : digits_only radix s ≡ (ltb d radix && digits_only radix (drop (i + 1) s))
      only-on = rw e (g.only ∙ digits_step radix s i h)

      pub going_step : d < radix → v * radix + d ≤ most → Going radix most s (v * radix + d) (i + 1)
      going_step l m = record {
        within = omega arith;
        fits = m;
        some = g.some;
        value = value_on;
        only = only-on ∙ rw (lt-ltb d radix l);
      }

      pub going_off : radix ≤ d → unsigned_of s radix most ≡ None
      going_off l = unsigned-off radix most s (only-on ∙ rw (le-ltb d radix l))

      pub going_over : 1 ≤ radix → most < v * radix + d → unsigned_of s radix most ≡ None
      going_over r m =
          unsigned-over radix most s (omega (arith, value_on, value_from-low radix r (v * radix + d) (drop (i + 1) s)))

-- ---- a sign, then digits
pub after-sign : (s : List ℕ) → take (length s - 1) (drop 1 s) ≡ drop 1 s
after-sign s = take_all (length s - 1) (drop 1 s) (simp length-drop (omega arith))

module _ (radix most : ℕ) where
  pub numeral_plus : (s : List ℕ) (minus : Bool) → 1 ≤ length s → get_or s 0 0 ≡ 43
      → numeral_of s radix most minus ≡ signed_by_of false (unsigned_of (drop 1 s) radix most)
  unfolding numeral_of
  numeral_plus [] minus h e = absurd (omega arith)
  numeral_plus (b ∷ s) minus h e = rw (eq-eqb b 43 e)

  pub numeral_minus : (s : List ℕ) (minus : Bool) → 1 ≤ length s → minus ≡ true → get_or s 0 0 ≡ 45
      → numeral_of s radix most minus ≡ signed_by_of true (unsigned_of (drop 1 s) radix (most + 1))
  unfolding numeral_of
  numeral_minus [] minus h m e = absurd (omega arith)
  numeral_minus (b ∷ s) minus h m e = rw (m, ne_eqb b 43 (λ x. omega arith), eq-eqb b 45 e)

  pub numeral_bare : (s : List ℕ) (minus : Bool) → 1 ≤ length s → (get_or s 0 0 ≡ 43 → ⊥) → (minus ≡ true → get_or s 0 0 ≡ 45 → ⊥)
      → numeral_of s radix most minus ≡ signed_by_of false (unsigned_of s radix most)
  unfolding numeral_of
  numeral_bare [] minus h e d = absurd (omega arith)
  numeral_bare (b ∷ s) true h e d = rw (ne_eqb b 43 e, ne_eqb b 45 (d refl))
  numeral_bare (b ∷ s) false h e d = rw (ne_eqb b 43 e)

  -- the same of any text, which may be empty
  pub numeral_rest : (s : List ℕ) (minus : Bool) → (1 ≤ length s → get_or s 0 0 ≡ 43 → ⊥) → (minus ≡ true → 1 ≤ length s → get_or s 0 0 ≡ 45 → ⊥)
      → numeral_of s radix most minus ≡ signed_by_of false (unsigned_of s radix most)
  unfolding numeral_of unsigned_of
  numeral_rest [] minus e d = refl
  numeral_rest (b ∷ s) minus e d = numeral_bare (b ∷ s) minus (omega arith) (e (omega arith)) (λ m. d m (omega arith))

  pub numeral_plain : (s : List ℕ) (minus : Bool) → radix ≤ 36 → 1 ≤ length s → digits_only radix s ≡ true → value_from radix 0 s ≤ most
      → numeral_of s radix most minus ≡ Some (record { negative = false; magnitude = value_from radix 0 s })
  unfolding digit_of digits_only
  numeral_plain [] minus r h d l = absurd (omega arith)
  numeral_plain (b ∷ s) minus r h d l =
      numeral_bare (b ∷ s) minus h (not_sign 43 refl) (λ m. not_sign 45 refl) ∙ rw (unsigned_is radix most (b ∷ s) h d l)
    where
      first : digit_of b < radix
      first = ltb-true (digit_of b) radix (both {b = digits_only radix s} d).0

      not_sign : (k : ℕ) → digit_of k ≡ 36 → b ≡ k → ⊥
      not_sign k w e = omega (arith, first, ap digit_of e)

  pub unsigned-most : (s : List ℕ) (m : ℕ) → unsigned_of s radix most ≡ Some m → m ≤ most
  unfolding unsigned_of
  unsigned-most [] m e = let z : ◌≡◌ {A = ℕ} 0 1 = cc in absurd (omega arith)
  unsigned-most (b ∷ s) m e = by (digits_only radix (b ∷ s)) (leb (value_from radix 0 (b ∷ s)) most) refl refl
    where
      by : (d l : Bool) → digits_only radix (b ∷ s) ≡ d → leb (value_from radix 0 (b ∷ s)) most ≡ l → m ≤ most
      by true true d l =
          let q : Some (value_from radix 0 (b ∷ s)) ≡ Some m = rw (d, l) at e in
          let v : value_from radix 0 (b ∷ s) ≡ m = cc in
          omega (arith, leb-true (value_from radix 0 (b ∷ s)) most l)
      by true false d l = let z : ◌≡◌ {A = ℕ} 0 1 = cc (rw (d, l) at e) in absurd (omega arith)
      by false l d _ = let z : ◌≡◌ {A = ℕ} 0 1 = cc (rw d at e) in absurd (omega arith)

pub signed-sign : (n : Bool) (u : Option ℕ) {w : Whole} → signed_by_of n u ≡ Some w → w.negative ≡ n
signed-sign n (Some m) e = cc
signed-sign n None e = let z : ◌≡◌ {A = ℕ} 0 1 = cc in absurd (omega arith)

pub signed-size : (n : Bool) (u : Option ℕ) {w : Whole} → signed_by_of n u ≡ Some w → u ≡ Some w.magnitude
signed-size n (Some m) e = cc
signed-size n None e = let z : ◌≡◌ {A = ℕ} 0 1 = cc in absurd (omega arith)

-- what is known of a number without a minus, from the text alone
pub record Plain (s : List ℕ) (most : ℕ) (w : Whole) : Type 0 where
  pub some : 1 ≤ length s
  pub positive : w.negative ≡ false
  pub within : w.magnitude ≤ most

pub numeral_inv : (s : List ℕ) (radix most : ℕ) {w : Whole} → numeral_of s radix most false ≡ Some w → Plain s most w
unfolding numeral_of
numeral_inv [] radix most e = let z : ◌≡◌ {A = ℕ} 0 1 = cc in absurd (omega arith)
numeral_inv (b ∷ s) radix most {w} e = by (eqb b 43) refl
  where
    of : (u : List ℕ) → signed_by_of false (unsigned_of u radix most) ≡ Some w → Plain (b ∷ s) most w
    of u e = record {
      some = omega arith;
      positive = signed-sign false (unsigned_of u radix most) e;
      within = unsigned-most radix most u w.magnitude (signed-size false (unsigned_of u radix most) e);
    }

    by : (t : Bool) → eqb b 43 ≡ t → Plain (b ∷ s) most w
    by true t = of s (rw t at e)
    by false t = of (b ∷ s) (rw t at e)

-- ---- a numeral is ASCII
abbrev ascii : ℕ → Bool
ascii b = ltb b 128

digit_ascii : (b : ℕ) → digit_of b < 36 → b < 128
digit_ascii b h = by (ltb b 128) refl
  where
    by : (t : Bool) → ltb b 128 ≡ t → b < 128
    by true e = ltb-true b 128 e
    by false e =
        let l : 128 ≤ b = ltb-false b 128 e in
        absurd (omega (arith, digit_none b (λ x y. omega arith) (λ x y. omega arith) (λ x y. omega arith)))

module _ (radix : ℕ) (r : radix ≤ 36) where
  digits_ascii : (s : List ℕ) → digits_only radix s ≡ true → every ascii s ≡ true
  unfolding digits_only
  digits_ascii [] e = refl
  digits_ascii (b ∷ s) e =
      let d = both {a = ltb (digit_of b) radix} {b = digits_only radix s} e in
      let l : digit_of b < radix = ltb-true _ _ d.0 in
      rw (lt-ltb b 128 (digit_ascii b (omega arith))) (digits_ascii s d.1)

  unsigned-ascii : (s : List ℕ) (most m : ℕ) → unsigned_of s radix most ≡ Some m → every ascii s ≡ true
  unsigned-ascii s most m e = by (digits_only radix s) refl
    where
      by : (t : Bool) → digits_only radix s ≡ t → every ascii s ≡ true
      by true d = digits_ascii s d
      by false d = absurd (nothing_is (sym (unsigned-off radix most s d) ∙ e))
        where
          nothing_is : None ≡ Some m → ⊥
          nothing_is w = let z : ◌≡◌ {A = ℕ} 0 1 = cc in omega arith

  pub numeral_ascii : (s : List ℕ) (most : ℕ) (minus : Bool) {w : Whole} → numeral_of s radix most minus ≡ Some w → every ascii s ≡ true
  unfolding numeral_of
  numeral_ascii [] most minus e = refl
  numeral_ascii (b ∷ s) most minus {w} e = by (eqb b 43) refl (minus && eqb b 45) refl
    where
      by : (x : Bool) → eqb b 43 ≡ x → (y : Bool) → (minus && eqb b 45) ≡ y → every ascii (b ∷ s) ≡ true
      by true f y g =
          rw (eqb-true b 43 f) (unsigned-ascii s most _ (signed-size false (unsigned_of s radix most) (rw f at e)))
      by false f true g =
          rw (eqb-true b 45 (both {a = minus} g).1)
          (unsigned-ascii s (most + 1) _ (signed-size true (unsigned_of s radix (most + 1)) (rw (f, g) at e)))
      by false f false g =
          unsigned-ascii (b ∷ s) most _ (signed-size false (unsigned_of (b ∷ s) radix most) (rw (f, g) at e))
