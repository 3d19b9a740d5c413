-- Laws of numbers written in digits: how many there are, that they are digits, and that their value is the number. Assumes nothing.
use Prim.Native.Nat.{ℕ, zero, suc, ◌+◌, ◌-◌, ◌*◌, ◌/◌, ◌%◌, ◌^◌, ◌≤◌, ◌<◌}
use mathlib.Core.Path.{◌≡◌, refl, sym, ap, ◌∙◌}
use mathlib.Core.Bool.{Bool, true, false}
use mathlib.Core.List.{List, [], ◌∷◌, ◌++◌, append_assoc}
use native.Mathlib.Omega.{arith}
use native.Mathlib.Nat.{mod-lt, mod-one, mod-eq_of_lt, one-le-pow, pow-zero, pow-suc, div-eq_of_lt, div-div-eq-div-mul, lt-div-mul-add}
use native.Mathlib.Numerals.{add-one}
use lib.Dec.{ltb}
use lib.Arith.{mod-mul}
use lib.ListN.{length, get_or, set, length-append, length-set, get_or-append}
use lib.Seq.{sets, get_or-append-add}
use borrow.Author.Tests.{ltb-true, ltb-false, lt-ltb, le-ltb}
use Rattle.scan.specs.Posts.{Appended}
use Rattle.scan.proofs.Stores.{sets_before}
use Rattle.numerals.specs.Numerals.{digit_of, digits_only, value_from}
use Rattle.numerals.specs.Written.{digit_char, padded, width_from, decimal_width}
use Rattle.numerals.proofs.Numerals.{digit-byte, digit_capital, value-append, digits_append}

-- ---- a digit
module _ (d : ℕ) where
  pub char_low : d < 10 → digit_char d ≡ 48 + d
  unfolding digit_char
  char_low h = rw (lt-ltb d 10 h)

  pub char_high : 10 ≤ d → digit_char d ≡ 55 + d
  unfolding digit_char
  char_high h = rw (le-ltb d 10 h)

  -- written and read back
  pub char_digit : d < 36 → digit_of (digit_char d) ≡ d
  char_digit h = by (ltb d 10) refl
    where
      by : (t : Bool) → ltb d 10 ≡ t → digit_of (digit_char d) ≡ d
      by true e =
          let l : d < 10 = ltb-true d 10 e in
          rw (char_low l, digit-byte (48 + d) (omega arith) (omega arith)) (omega arith)
      by false e =
          let l : 10 ≤ d = ltb-false d 10 e in
          rw (char_high l, digit_capital (55 + d) (omega arith) (omega arith)) (omega arith)

-- ---- digits, as many as the width says
pub padded-length : (radix w n : ℕ) → length (padded radix w n) ≡ w
unfolding padded
padded-length radix zero n = refl
padded-length radix (suc w) n = simp length-append (omega (arith, padded-length radix w (n / radix)))

module _ (radix : ℕ) (some : 2 ≤ radix) (few : radix ≤ 36) where
  last_digit : (n : ℕ) → digit_of (digit_char (n % radix)) ≡ n % radix
  last_digit n = let l : n % radix < radix = mod-lt n (omega arith) in char_digit (n % radix) (omega arith)

  pub padded-digits : (w n : ℕ) → digits_only radix (padded radix w n) ≡ true
  unfolding padded digits_only
  padded-digits zero n = refl
  padded-digits (suc w) n =
      let l : n % radix < radix = mod-lt n (omega arith) in
      rw (
        digits_append radix (padded radix w (n / radix)) (digit_char (n % radix) ∷ []),
        padded-digits w (n / radix),
        last_digit n,
        lt-ltb
            (n % radix) radix l,
      )

  -- the number itself, where it has no more digits
  pub padded-modulo : (w n : ℕ) → value_from radix 0 (padded radix w n) ≡ n % radix ^ w
  unfolding padded value_from
  padded-modulo zero n = rw (pow-zero radix) (sym (mod-one n))
  padded-modulo (suc w) n =
      rw (value-append radix 0 (padded radix w (n / radix)) (digit_char (n % radix) ∷ []), padded-modulo w (n / radix), last_digit n, pow-suc radix w)
      (sym (mod-mul n (one-le-pow w radix (omega arith)) (omega arith)))

  pub padded-value : (w n : ℕ) → n < radix ^ w → value_from radix 0 (padded radix w n) ≡ n
  padded-value w n h = padded-modulo w n ∙ mod-eq_of_lt h

-- the decimal ones are the bytes from `0` to `9`
pub padded-byte : (w n k : ℕ) → k < w → (48 ≤ get_or (padded 10 w n) k 0) × (get_or (padded 10 w n) k 0 ≤ 57)
unfolding padded
padded-byte zero n k h = absurd (omega arith)
padded-byte (suc w) n k h = by (padded-byte w (n / 10) k) (ltb k w) refl
  where
    front : List ℕ
    front = padded 10 w (n / 10)

    last : List ℕ
    last = digit_char (n % 10) ∷ []

    by : (k < w → (48 ≤ get_or front k 0) × (get_or front k 0 ≤ 57)) → (t : Bool) → ltb k w ≡ t
        → (48 ≤ get_or (front ++ last) k 0) × (get_or (front ++ last) k 0 ≤ 57)
    by p true e =
        let l : k < w = ltb-true k w e in
        rw (get_or-append front last 0 k (omega (arith, padded-length 10 w (n / 10)))) (p l)
    by p false e =
        let l : w ≤ k = ltb-false k w e in
        let z : k ≡ length front + 0 = omega (arith, padded-length 10 w (n / 10)) in
        let g : get_or (front ++ last) k 0 ≡ 48 + n % 10 = rw (z, get_or-append-add front last 0 0) (char_low (n % 10) (omega arith)) in
        (omega arith, omega arith)

-- ---- the width of a number
module _ (n : ℕ) where
  pub width_here : (k w : ℕ) → n < 10 ^ w → width_from k w n ≡ w
  unfolding width_from
  width_here zero w h = refl
  width_here (suc k) w h = rw (lt-ltb n (10 ^ w) h)

  pub width_on : (k w : ℕ) → 10 ^ w ≤ n → width_from (suc k) w n ≡ width_from k (w + 1) n
  unfolding width_from
  width_on k w h = rw (le-ltb n (10 ^ w) h)

  width_least : (k w : ℕ) → w ≤ width_from k w n
  unfolding width_from
  width_least zero w = omega arith
  width_least (suc k) w = by (width_least k (w + 1)) (ltb n (10 ^ w)) refl
    where
      by : w + 1 ≤ width_from k (w + 1) n → (t : Bool) → ltb n (10 ^ w) ≡ t → w ≤ width_from (suc k) w n
      by p true e = rw e (omega arith)
      by p false e = rw e (omega arith)

  width_most : (k w : ℕ) → width_from k w n ≤ w + k
  unfolding width_from
  width_most zero w = omega arith
  width_most (suc k) w = by (width_most k (w + 1)) (ltb n (10 ^ w)) refl
    where
      by : width_from k (w + 1) n ≤ w + 1 + k → (t : Bool) → ltb n (10 ^ w) ≡ t → width_from (suc k) w n ≤ w + suc k
      by p true e = rw e (omega arith)
      by p false e = rw e (omega arith)

  width_enough : (k w : ℕ) → n < 10 ^ (w + k) → n < 10 ^ width_from k w n
  unfolding width_from
  width_enough zero w h = let z : w + 0 ≡ w = omega arith in rw z at h
  width_enough (suc k) w h = by (width_enough k (w + 1)) (ltb n (10 ^ w)) refl
    where
      by : (n < 10 ^ (w + 1 + k) → n < 10 ^ width_from k (w + 1) n) → (t : Bool) → ltb n (10 ^ w) ≡ t → n < 10 ^ width_from (suc k) w n
      by p true e = rw e (ltb-true n (10 ^ w) e)
      by p false e = let z : w + suc k ≡ w + 1 + k = omega arith in rw e (p (rw z at h))

  pub width_fits : n < 2 ^ 64 → n < 10 ^ decimal_width n
  unfolding decimal_width
  width_fits h = width_enough 19 1 (omega arith)

  pub width_some : 1 ≤ decimal_width n
  unfolding decimal_width
  width_some = width_least 19 1

  pub width_few : decimal_width n ≤ 20
  unfolding decimal_width
  width_few = width_most 19 1

-- ---- the loop that counts digits: what is left of n after w of them
pub record Counting (n w left : ℕ) : Type 0 where
  pub some : 1 ≤ w
  pub few : w ≤ 20
  pub is : decimal_width n ≡ width_from (20 - w) w n
  pub rest : left ≡ n / 10 ^ w

module _ (n : ℕ) where
  pub counting_start : Counting n 1 (n / 10)
  unfolding decimal_width
  counting_start = record { some = omega arith; few = omega arith; is = refl; rest = refl }

  module _ (w left : ℕ) (c : Counting n w left) where
    pub counting_more : n < 2 ^ 64 → 0 < left → w ≤ 19
    counting_more h l = by (ltb w 20) refl
      where
        by : (t : Bool) → ltb w 20 ≡ t → w ≤ 19
        by true e = let g : w < 20 = ltb-true w 20 e in omega arith
        by false e =
            let g : 20 ≤ w = ltb-false w 20 e in
            let z : w ≡ 20 = omega (arith, c.few) in
            let d : n / 10 ^ w ≡ 0 = rw z (div-eq_of_lt (omega arith)) in
            absurd (omega (arith, c.rest))

    pub counting_step : n < 2 ^ 64 → 0 < left → Counting n (w + 1) (left / 10)
    counting_step h l =
        let m : w ≤ 19 = counting_more h l in
        let k : 20 - w ≡ suc (20 - (w + 1)) = omega arith in
        record {
          some = omega arith;
          few = omega arith;
          is = c.is ∙ rw k (width_on n (20 - (w + 1)) w past);
          rest = rw (c.rest, add-one w, pow-suc 10 w) (div-div-eq-div-mul n (10 ^ w) 10);
        }
      where
        past : 10 ^ w ≤ n
        past = by (ltb n (10 ^ w)) refl
          where
            by : (t : Bool) → ltb n (10 ^ w) ≡ t → 10 ^ w ≤ n
            by true e = let d : n / 10 ^ w ≡ 0 = div-eq_of_lt (ltb-true n (10 ^ w) e) in absurd (omega (arith, c.rest))
            by false e = ltb-false n (10 ^ w) e

    pub counting_done : left ≤ 0 → w ≡ decimal_width n
    counting_done l =
        let p : 0 < 10 ^ w = one-le-pow w 10 (omega arith) in
        let d : n / 10 ^ w ≡ 0 = omega (arith, c.rest) in
        let b : n < 0 * 10 ^ w + 10 ^ w = rw d at (lt-div-mul-add {a = n} p) in
        sym (c.is ∙ width_here n (20 - w) w (omega arith))

-- ---- the loop that writes digits from the last one on: i are left to write, of what is left of n
pub record Putting (radix width n at : ℕ) (t : List ℕ) (left i : ℕ) (t' : List ℕ) : Type 0 where
  pub room : at + width ≤ length t
  pub some : i ≤ width
  pub kept : length t' ≡ length t
  pub after : List ℕ
  pub is : padded radix width n ≡ padded radix i left ++ after
  pub laid : t' ≡ sets t (at + i) after

module _ (radix width n at : ℕ) (t : List ℕ) where
  module _ (left i : ℕ) (t' : List ℕ) (p : Putting radix width n at t left i t') where
    pub putting_step : 0 < i → Putting radix width n at t (left / radix) (i - 1) (set t' (at + (i - 1)) (digit_char (left % radix)))
    unfolding padded
    putting_step h =
        let z : i ≡ suc (i - 1) = omega arith in
        let b : at + i ≡ at + (i - 1) + 1 = omega arith in
        record {
          room = p.room;
          some = omega (arith, p.some);
          kept = simp length-set p.kept;
          after = digit_char (left % radix) ∷ p.after;
          is = p.is ∙ split z;
          laid = rw (p.laid, b) (sets_before (digit_char (left % radix) ∷ []) p.after t (at + (i - 1)));
        }
      where
        split : i ≡ suc (i - 1) → padded radix i left ++ p.after ≡ padded radix (i - 1) (left / radix) ++ (digit_char (left % radix) ∷ p.after)
        split z =
            ap (λ (k : ℕ). padded radix k left ++ p.after) z ∙ one_more (i - 1)
          where
            one_more : (k : ℕ) → padded radix (suc k) left ++ p.after ≡ padded radix k (left / radix) ++ (digit_char (left % radix) ∷ p.after)
            one_more k = append_assoc (padded radix k (left / radix)) (digit_char (left % radix) ∷ []) p.after

    pub putting_done : i ≤ 0 → Appended (padded radix width n) at t t' (at + width)
    unfolding padded
    putting_done h =
        let z : i ≡ 0 = omega arith in
        record {
          next = rw (padded-length radix width n);
          within = p.room;
          laid = p.laid ∙ last z;
        }
      where
        last : i ≡ 0 → sets t (at + i) p.after ≡ sets t at (padded radix width n)
        last z =
            let a : at + i ≡ at = omega arith in
            let e : padded radix width n ≡ padded radix 0 left ++ p.after = p.is ∙ ap (λ (k : ℕ). padded radix k left ++ p.after) z in
            rw (a, e)
