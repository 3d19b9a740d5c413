-- A spelling read back. Assumes nothing.
--     read-back    the decimal that a spelling spells is the one that was spelled
use Rattle.std.specs.Prelude.{Ok}
use Rattle.std.proofs.Common.{◌≡◌, ℕ, suc, ◌+◌, ◌-◌, ◌*◌, ◌/◌, ◌%◌, ◌^◌, ◌<◌, ◌≤◌, Bool, true, false, cond, eqb, leb, List, [], ◌∷◌, ◌++◌, length, get_or, refl, ap, ◌∙◌, append_assoc, append-nil, mul-le-mul_right, mod-lt, mul_assoc, mul_comm, add-mul, pow-suc, div-add-mod', div-le_self, mul_left_comm, arith, lit≤, length-append, ne_eqb, eqb-true, leb-false, leb-true}
use mathlib.Core.Bool.{and-eq-true_iff}
use native.Mathlib.Nat.{pow-le-pow_right, one-le-pow}
use lib.ListN.{get_or-append}
use lib.Seq.{take-append_seam, drop-append_seam}
use borrow.Author.Tests.{eqb-false}
use Rattle.scan.specs.Bytes.{digit_byte, run_length_of}
use Rattle.scan.specs.Every.{every}
use Rattle.scan.proofs.Every.{every_append}
use Rattle.scan.proofs.Runs.{digit_yes}
use Rattle.numerals.specs.Numerals.{value_from, digit_of}
use Rattle.numerals.specs.Written.{padded, decimal_width}
use Rattle.numerals.proofs.Numerals.{value-append, digit-byte}
use Rattle.numerals.proofs.Writing.{padded-length, padded-byte, padded-value, width_fits, width_some}
use Rattle.decimals.specs.Decimal.{fraction, after_fraction, all_digits, rest_of, scale_of, digits_at, after_digits, significant, limited}
use Rattle.decimals.specs.Decimal.{unsigned_decimal, decimal_of}
use Rattle.decimals.specs.Size.{spelled, spelling}
use Rattle.decimals.proofs.Counting.{digit_bounds}
use Rattle.decimals.proofs.Reading.{limited-is, decimal-minus, decimal-bare}
use Rattle.decimals.proofs.Sizes.{lead, before, behind}

-- ---- rows of digits
every-bytes : (s : List ℕ) → ((k : ℕ) → k < length s → (48 ≤ get_or s k 0) × (get_or s k 0 ≤ 57)) → every digit_byte s ≡ true
every-bytes [] h = refl
every-bytes (b ∷ s) h =
    let d = h 0 (omega arith) in
    rw (digit_yes b d.0 d.1) (every-bytes s (λ k l. h (suc k) (omega arith)))

every-padded : (w n : ℕ) → every digit_byte (padded 10 w n) ≡ true
every-padded w n = every-bytes (padded 10 w n) (λ k l. padded-byte w n k (omega (arith, padded-length 10 w n)))

run-split : (a b : List ℕ) → every digit_byte a ≡ true → run_length_of digit_byte b ≡ 0 → run_length_of digit_byte (a ++ b) ≡ length a
unfolding run_length_of
run-split [] b e z = z
run-split (x ∷ a) b e z = let h = (and-eq-true_iff (digit_byte x) (every digit_byte a)).0 e in rw (h.0, run-split a b h.1 z)

digits_split : (a b : List ℕ) → every digit_byte a ≡ true → run_length_of digit_byte b ≡ 0 → (digits_at (a ++ b) ≡ a) × (after_digits (a ++ b) ≡ b)
digits_split a b e z = (rw (run-split a b e z) (take-append_seam a b), rw (run-split a b e z) (drop-append_seam a b))

digits_all : (a : List ℕ) → every digit_byte a ≡ true → (digits_at a ≡ a) × (after_digits a ≡ [])
unfolding run_length_of
digits_all a e = rw append-nil at (digits_split a [] e refl)

-- ---- their value
value-shift : (s : List ℕ) (v : ℕ) → value_from 10 v s ≡ v * 10 ^ length s + value_from 10 0 s
unfolding value_from
value-shift [] v = omega arith
value-shift (b ∷ s) v =
    let p = 10 ^ length s in
    let d = digit_of b in
    let a : value_from 10 (v * 10 + d) s ≡ (v * 10 + d) * p + value_from 10 0 s = value-shift s (v * 10 + d) in
    let c : value_from 10 (0 * 10 + d) s ≡ (0 * 10 + d) * p + value_from 10 0 s = value-shift s (0 * 10 + d) in
    let x : (v * 10 + d) * p ≡ v * 10 * p + d * p = add-mul (v * 10) d p in
    let y : (0 * 10 + d) * p ≡ d * p = ap (λ (k : ℕ). k * p) (omega arith) in
    let z : v * 10 ^ suc (length s) ≡ v * 10 * p = rw pow-suc (simp (mul_assoc, mul_comm, mul_left_comm)) in
    omega arith

few_digits : (ds : List ℕ) (n : ℕ) → every digit_byte ds ≡ true → value_from 10 0 ds < 10 ^ n → significant ds ≤ n
unfolding significant value_from
few_digits [] n e h = omega arith
few_digits (b ∷ s) n e h = by (eqb b 48) refl (few_digits s n q.1)
  where
    q : (digit_byte b ≡ true) × (every digit_byte s ≡ true)
    q = (and-eq-true_iff (digit_byte b) (every digit_byte s)).0 e

    d : digit_of b ≡ b - 48
    d = let k = digit_bounds b q.0 in digit-byte b k.0 k.1

    by : (t : Bool) → eqb b 48 ≡ t → (value_from 10 0 s < 10 ^ n → significant s ≤ n) → cond t (significant s) (length (b ∷ s)) ≤ n
    by true w r =
        let z : b ≡ 48 = eqb-true b 48 w in
        let k : 0 * 10 + digit_of b ≡ 0 = omega (arith, d) in
        r (rw k at h)
    by false w r =
        let z : b ≡ 48 → ⊥ = eqb-false b 48 w in
        let k : 1 ≤ 0 * 10 + digit_of b = omega (arith, d, digit_bounds b q.0) in
        let m : 1 * 10 ^ length s ≤ (0 * 10 + digit_of b) * 10 ^ length s = mul-le-mul_right (10 ^ length s) k in
        let l : 10 ^ length s < 10 ^ n = omega (arith, value-shift s (0 * 10 + digit_of b)) in
        shorter (leb n (length s)) refl l
      where
        shorter : (t : Bool) → leb n (length s) ≡ t → 10 ^ length s < 10 ^ n → length (b ∷ s) ≤ n
        shorter true e l = let p : 10 ^ n ≤ 10 ^ length s = pow-le-pow_right (lit≤ tt) (leb-true n (length s) e) in absurd (omega arith)
        shorter false e l = omega (arith, leb-false n (length s) e)

-- ---- without a sign
module _ (minus : Bool) (w f : List ℕ) (limit decimals : ℕ) (ew : every digit_byte w ≡ true) (ef : every digit_byte f ≡ true)
    (some : 0 < length w) where
  unsigned-parts : unsigned_decimal minus (w ++ ((46 ∷ []) ++ f)) limit decimals ≡ limited minus (w ++ f) (length f) limit decimals
  unfolding unsigned_decimal run_length_of digit_byte
  unsigned-parts =
      let s : List ℕ = w ++ ((46 ∷ []) ++ f) in
      let p : (digits_at s ≡ w) × (after_digits s ≡ 46 ∷ f) = digits_split w (46 ∷ f) ew refl in
      let q = digits_all f ef in
      let a : all_digits s ≡ w ++ f = rw (p.0, p.1, q.0) in
      let r : rest_of s ≡ [] = rw (p.1, q.1) in
      let k : scale_of s ≡ length f = rw (p.1, q.0) in
      let n : eqb (length (all_digits s)) 0 ≡ false = ne_eqb (length (all_digits s)) 0 (λ z. omega (arith, ap length a, length-append w f)) in
      rw (n, r, a, k)

  unsigned-whole : length f ≡ 0 → unsigned_decimal minus w limit decimals ≡ limited minus (w ++ f) (length f) limit decimals
  unfolding unsigned_decimal fraction after_fraction
  unsigned-whole z =
      let p = digits_all w ew in
      let e : f ≡ [] = none f z in
      let a : all_digits w ≡ w = rw (p.0, p.1, append-nil) in
      let r : rest_of w ≡ [] = rw p.1 in
      let k : scale_of w ≡ 0 = rw p.1 in
      let n : eqb (length (all_digits w)) 0 ≡ false = ne_eqb (length (all_digits w)) 0 (λ z. omega (arith, ap length a)) in
      rw (e, append-nil, n, r, a, k)
    where
      none : (l : List ℕ) → length l ≡ 0 → l ≡ []
      none [] z = refl
      none (x ∷ l) z = absurd (omega arith)

-- ---- a spelling: its digits, with a point or without one
abbrev plain : ℕ → ℕ → List ℕ
plain digits scale = before digits scale ++ cond (eqb scale 0) [] ((46 ∷ []) ++ behind digits scale)

spelling-is : (minus : Bool) (digits scale : ℕ) → spelling minus digits scale ≡ lead minus ++ plain digits scale
unfolding spelling
spelling-is minus digits scale = append_assoc (lead minus) (before digits scale) (cond (eqb scale 0) [] ((46 ∷ []) ++ behind digits scale))

module _ (digits scale : ℕ) where
  long_behind : length (behind digits scale) ≡ scale
  long_behind = padded-length 10 scale (digits % 10 ^ scale)

  some : 0 < length (before digits scale)
  some = omega (arith, padded-length 10 (decimal_width (digits / 10 ^ scale)) (digits / 10 ^ scale), width_some (digits / 10 ^ scale))

  every-before : every digit_byte (before digits scale) ≡ true
  every-before = every-padded (decimal_width (digits / 10 ^ scale)) (digits / 10 ^ scale)

  every-behind : every digit_byte (behind digits scale) ≡ true
  every-behind = every-padded scale (digits % 10 ^ scale)

  first_byte : (48 ≤ get_or (plain digits scale) 0 0) × (get_or (plain digits scale) 0 0 ≤ 57)
  first_byte =
      rw (get_or-append (before digits scale) (cond (eqb scale 0) [] ((46 ∷ []) ++ behind digits scale)) 0 0 some)
      (padded-byte (decimal_width (digits / 10 ^ scale)) (digits / 10 ^ scale) 0 (width_some (digits / 10 ^ scale)))

  value-is : digits < 2 ^ 64 → value_from 10 0 (before digits scale ++ behind digits scale) ≡ digits
  value-is wide =
      let w = digits / 10 ^ scale in
      let a : value_from 10 0 (before digits scale) ≡ w = padded-value 10 (lit≤ tt) (lit≤ tt) (decimal_width w) w
      (width_fits w (omega (arith, div-le_self digits (10 ^ scale)))) in
      let b : value_from 10 0 (behind digits scale) ≡ digits % 10 ^ scale = padded-value 10 (lit≤ tt) (lit≤ tt) scale (digits % 10 ^ scale)
      (mod-lt digits (one-le-pow scale 10 (lit≤ tt))) in
      value-append 10 0 (before digits scale) (behind digits scale)
      ∙ (value-shift (behind digits scale) (value_from 10 0 (before digits scale)) ∙ rw (a, b, long_behind) (div-add-mod' digits (10 ^ scale)))

module _ (minus : Bool) (digits scale limit decimals : ℕ) (wide : digits < 2 ^ 64) (few : digits < 10 ^ limit) (near : scale ≤ decimals) where
  limited-all : limited minus (before digits scale ++ behind digits scale) (length (behind digits scale)) limit decimals
      ≡ Ok (spelled minus digits scale)
  limited-all =
      let ds : List ℕ = before digits scale ++ behind digits scale in
      let e : every digit_byte ds ≡ true =
      every_append digit_byte (before digits scale) (behind digits scale) (every-before digits scale) (every-behind digits scale) in
      limited-is minus ds (length (behind digits scale)) limit decimals (few_digits ds limit e (omega (arith, value-is digits scale wide)))
      (omega (arith, long_behind digits scale))
      ∙ rw (value-is digits scale wide, long_behind digits scale)

  unsigned_is : unsigned_decimal minus (plain digits scale) limit decimals ≡ Ok (spelled minus digits scale)
  unsigned_is = by (eqb scale 0) refl ∙ limited-all
    where
      by : (t : Bool) → eqb scale 0 ≡ t → unsigned_decimal minus (before digits scale ++ cond t [] ((46 ∷ []) ++ behind digits scale)) limit decimals
          ≡ limited minus (before digits scale ++ behind digits scale) (length (behind digits scale)) limit decimals
      by true e =
          let z : length (behind digits scale) ≡ 0 = omega (arith, long_behind digits scale, eqb-true scale 0 e) in
          rw (append-nil (before digits scale))
          (unsigned-whole minus (before digits scale) (behind digits scale) limit decimals (every-before digits scale)
          (every-behind digits scale) (some digits scale) z)
      by false e = unsigned-parts minus (before digits scale) (behind digits scale) limit decimals (every-before digits scale)
          (every-behind digits scale) (some digits scale)

pub read_back : (minus : Bool) (digits scale limit decimals : ℕ) → digits < 2 ^ 64 → digits < 10 ^ limit → scale ≤ decimals
    → decimal_of (spelling minus digits scale) limit decimals ≡ Ok (spelled minus digits scale)
read_back true digits scale limit decimals wide few near =
    rw (spelling-is true digits scale)
    (decimal-minus limit decimals (45 ∷ plain digits scale) (omega arith) refl ∙ unsigned_is true digits scale limit decimals wide few near)
read_back false digits scale limit decimals wide few near =
    let b = first_byte digits scale in
    let l : 1 ≤ length (plain digits scale) =
    omega (arith, length-append (before digits scale) (cond (eqb scale 0) [] ((46 ∷ []) ++ behind digits scale)), some digits scale) in
    rw (spelling-is false digits scale)
    (decimal-bare limit decimals (plain digits scale) l (λ e. omega (arith, b)) (λ e. omega (arith, b))
    ∙ unsigned_is false digits scale limit decimals wide few near)
