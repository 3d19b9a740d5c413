-- Decimals as they are read. Assumes nothing.
--     digits_are                     only digits
--     rest_part                      what stands from a place on
--     exponent_signed                an exponent with a sign
--     shape_point, shape_bare        a text's digits, by the places that the program finds
--     shape_empty, shape_rest, shape_whole, shape_digital           what they spell
--     limited-far, limited-long, limited-is                         what keeps the limits
--     ran_room, ran_is               few digits, read in one pass
--     decimal-none, decimal-minus, decimal-plus, decimal-bare       the sign
--     value-limit, decimal-limits    a decimal is within the limits that it was read by
use Rattle.std.specs.Prelude.{Ok, Err}
use Rattle.std.proofs.Common.{◌≡◌, ℕ, suc, ◌+◌, ◌-◌, ◌*◌, ◌^◌, ◌<◌, ◌≤◌, Bool, true, false, cond, ◌&&◌, ◌||◌, eqb, ltb, leb, List, [], ◌∷◌, ◌++◌, length, get_or, take, drop, sym, refl, ap, ◌∙◌, mul-le-mul_right, mul_assoc, mul_comm, pow-suc, mul-one, mul_left_comm, add-one, arith, lit≤, length-append, length-drop, drop_of_length-le, length-take, take_all, drop-cons, drop-drop, ltb-false, ltb-true, lt-ltb, eq-eqb, ne_eqb, eqb-true, le-leb, leb-true}
use mathlib.Core.Bool.{and-false, and-eq-true_iff}
use native.Mathlib.Nat.{zero-add, one-le-pow, pow-le-pow_right}
use borrow.Author.Tests.{eqb-false, lt-leb}
use Rattle.scan.specs.Bytes.{digit_byte, run_length_of, run_end_of}
use Rattle.scan.specs.Every.{every}
use Rattle.scan.specs.Names.{same_folded}
use Rattle.scan.specs.Part.{part}
use Rattle.scan.specs.Posts.{Ends}
use Rattle.scan.proofs.Every.{every_append}
use Rattle.scan.proofs.Runs.{run_length, run-all, run-high, run-here, run_out}
use Rattle.numerals.specs.Numerals.{value_from, digit_of}
use Rattle.numerals.proofs.Numerals.{digit-byte, value-append}
use Rattle.decimals.proofs.Counting.{digit_bounds}
use Rattle.decimals.specs.declared.read.Count.{Count}
use Rattle.decimals.specs.declared.read.Digits.{Digits}
use Rattle.decimals.specs.declared.read.Run.{Run}
use Rattle.decimals.specs.Decimal.{only_digits, is_exponent, is_word, unsigned, negative, fraction, after_fraction, all_digits, rest_of, scale_of}
use Rattle.decimals.specs.Decimal.{digits_at, after_digits, significant, limited, unsigned_decimal, decimal_of}
use Rattle.decimals.specs.Steps.{Counted, Further, Digital, PointAt, Room, Ran}
use Rattle.decimals.specs.declared.read.DecimalError.{DecimalError}

-- ---- only digits
pub digits_are : (s : List ℕ) (r : ℕ) → 0 < length s → r ≡ run_end_of digit_byte s 0 → eqb r (length s) ≡ only_digits s
unfolding only_digits
digits_are s r h e =
    let w : r ≡ run_length_of digit_byte s = e ∙ run_length digit_byte s 0 (omega arith) ∙ zero-add (run_length_of digit_byte s) in
    rw (lt-ltb 0 (length s) h, w)

-- what `&s[k..]` has
pub rest_part : (s : List ℕ) (k : ℕ) → take (length s - k) (drop k s) ≡ drop k s
rest_part s k = take_all (length s - k) (drop k s) (simp length-drop (omega arith))

-- ---- an exponent
either : (b x y : ℕ) → ((b ≡ x → ⊥) → b ≡ y) → (eqb b x || eqb b y) ≡ true
either b x y e = by (eqb b x) refl
  where
    by : (t : Bool) → eqb b x ≡ t → (t || eqb b y) ≡ true
    by true z = refl
    by false z = eq-eqb b y (e (eqb-false b x z))

-- an e, a sign and what follows them
pub exponent_signed : (s : List ℕ) → 2 ≤ length s → ((get_or s 0 0 ≡ 101 → ⊥) → get_or s 0 0 ≡ 69)
    → ((get_or s 1 0 ≡ 43 → ⊥) → get_or s 1 0 ≡ 45) → is_exponent s ≡ only_digits (drop 2 s)
unfolding is_exponent unsigned
exponent_signed [] h e f = absurd (omega arith)
exponent_signed (a ∷ []) h e f = absurd (omega arith)
exponent_signed (a ∷ b ∷ s) h e f = rw (either a 101 69 e, either b 43 45 f)

-- ---- the digits, by the places that the program finds: those before the point end at `whole`, those behind it stand from `from` to `end`
pub record Shape (s : List ℕ) (whole from end : ℕ) : Type 0 where
  pub order : whole ≤ from
  pub after : from ≤ end
  pub within : end ≤ length s
  pub before : (k : ℕ) → k < whole → digit_byte (get_or s k 0) ≡ true
  pub behind : (k : ℕ) → from ≤ k → k < end → digit_byte (get_or s k 0) ≡ true
  pub whole_is : run_length_of digit_byte s ≡ whole
  pub fraction-is : fraction (drop whole s) ≡ part from end s
  pub rest-is : after_fraction (drop whole s) ≡ drop end s

fraction-none : (s : List ℕ) (p : ℕ) → (p < length s → get_or s p 0 ≡ 46 → ⊥) → (fraction (drop p s) ≡ []) × (after_fraction (drop p s) ≡ drop p s)
unfolding fraction after_fraction
fraction-none s p n = by (ltb p (length s)) refl
  where
    by : (t : Bool) → ltb p (length s) ≡ t → (fraction (drop p s) ≡ []) × (after_fraction (drop p s) ≡ drop p s)
    by true e =
        let l : p < length s = ltb-true p (length s) e in
        let m : eqb (get_or s p 0) 46 ≡ false = ne_eqb (get_or s p 0) 46 (n l) in
        (rw (drop-cons s p 0 l, m), rw (drop-cons s p 0 l, m))
    by false e = let z : drop p s ≡ [] = drop_of_length-le s (ltb-false p (length s) e) in (rw z, rw z)

fraction-some : (s : List ℕ) (p : ℕ) → p < length s → get_or s p 0 ≡ 46
    → (fraction (drop p s) ≡ digits_at (drop (p + 1) s)) × (after_fraction (drop p s) ≡ after_digits (drop (p + 1) s))
unfolding fraction after_fraction
fraction-some s p l e = (rw (add-one p, drop-cons s p 0 l, eq-eqb (get_or s p 0) 46 e), rw (add-one p, drop-cons s p 0 l, eq-eqb (get_or s p 0) 46 e))

module _ (s : List ℕ) (whole from : ℕ) (w : whole ≡ run_end_of digit_byte s 0) (f : PointAt s whole from) where
  run_is : run_length_of digit_byte s ≡ whole
  run_is = omega (arith, run_length digit_byte s 0 (omega arith))

  digits_before : (k : ℕ) → k < whole → digit_byte (get_or s k 0) ≡ true
  digits_before k h = run-all digit_byte s 0 k (omega arith) (omega arith)

  pub shape_bare : from ≤ whole → Shape s whole from whole
  shape_bare h =
      let g : from ≡ whole = omega (arith, f.after) in
      let z : whole - from ≡ 0 = omega arith in
      let n = fraction-none s whole (f.none g) in
      record {
        order = f.after;
        after = h;
        within = omega (arith, f.after, f.within);
        before = digits_before;
        behind = λ k a b. absurd (omega arith);
        whole_is = run_is;
        fraction-is = rw z n.0;
        rest-is = n.1;
      }

  pub shape_point : (end : ℕ) → whole < from → end ≡ run_end_of digit_byte s from → Shape s whole from end
  shape_point end h e =
      let p = f.point h in
      let l : end ≡ from + run_length_of digit_byte (drop from s) = e ∙ run_length digit_byte s from f.within in
      let d : end - from ≡ run_length_of digit_byte (drop from s) = omega arith in
      let n = fraction-some s whole p.2 p.1 in
      record {
        order = f.after;
        after = omega arith;
        within = rw e (run-high digit_byte s from f.within);
        before = digits_before;
        behind = λ k a b. run-all digit_byte s from k a (omega arith);
        whole_is = run_is;
        fraction-is = rw d (n.0 ∙ rw (← p.0));
        rest-is = n.1 ∙ rw (← p.0) (drop-drop (run_length_of digit_byte (drop from s)) from s ∙ rw (← l));
      }

-- ---- what they spell
module _ (minus : Bool) (s : List ℕ) (digits decimals whole from end : ℕ) (f : Shape s whole from end) where
  all_are : all_digits s ≡ take whole s ++ part from end s
  all_are = rw (f.whole_is, f.fraction-is)

  all_long : length (all_digits s) ≡ whole + (end - from)
  all_long = ap length all_are ∙ simp (length-append, length-take, length-drop) (omega (arith, f.order, f.after, f.within))

  rest-are : rest_of s ≡ drop end s
  rest-are = rw f.whole_is f.rest-is

  rest-long : length (rest_of s) ≡ length s - end
  rest-long = ap length rest-are ∙ length-drop end s

  pub shape_empty : whole ≡ 0 → end ≡ from → unsigned_decimal minus s digits decimals ≡ cond (is_word s) (Err DecimalError.Beyond) (Err DecimalError.Invalid)
  unfolding unsigned_decimal
  shape_empty a b = rw (eq-eqb (length (all_digits s)) 0 (omega (arith, all_long)))

  module _ (n : whole ≡ 0 → end ≡ from → ⊥) where
    some : eqb (length (all_digits s)) 0 ≡ false
    some = ne_eqb (length (all_digits s)) 0 (λ z. n (omega (arith, all_long)) (omega (arith, all_long, f.after)))

    pub shape_rest : end < length s → unsigned_decimal minus s digits decimals ≡ cond (is_exponent (drop end s)) (Err DecimalError.Beyond) (Err DecimalError.Invalid)
    unfolding unsigned_decimal
    shape_rest h = rw (some, ne_eqb (length (rest_of s)) 0 (λ z. omega (arith, rest-long)), rest-are)

    pub shape_whole : length s ≤ end → unsigned_decimal minus s digits decimals
        ≡ limited minus (take whole s ++ drop from s) (length s - from) digits decimals
    unfolding unsigned_decimal
    shape_whole h =
        let g : end ≡ length s = omega (arith, f.within) in
        let t : part from end s ≡ drop from s = take_all (end - from) (drop from s) (simp length-drop (omega arith)) in
        let a : all_digits s ≡ take whole s ++ drop from s = all_are ∙ rw t in
        let k : scale_of s ≡ length s - from = rw f.whole_is (ap length (f.fraction-is ∙ t) ∙ length-drop from s) in
        rw (some, eq-eqb (length (rest_of s)) 0 (omega (arith, rest-long)), a, k)

  pub shape_digital : length s ≤ end → Digital s whole from
  shape_digital h = record {
    order = f.order;
    within = omega (arith, f.after, f.within);
    before = f.before;
    behind = λ k a b. f.behind k a (omega arith);
  }

-- ---- the limits
module _ (minus : Bool) (ds : List ℕ) (scale digits decimals : ℕ) where
  pub limited-far : decimals < scale → limited minus ds scale digits decimals ≡ Err DecimalError.Beyond
  unfolding limited
  limited-far h = rw (lt-leb scale decimals h, and-false)

  pub limited-long : digits < significant ds → limited minus ds scale digits decimals ≡ Err DecimalError.Beyond
  unfolding limited
  limited-long h = rw (lt-leb (significant ds) digits h)

  pub limited-is : significant ds ≤ digits → scale ≤ decimals
      → limited minus ds scale digits decimals ≡ Ok (record { negative = minus; digits = value_from 10 0 ds; scale = scale })
  unfolding limited
  limited-is h l = rw (le-leb (significant ds) digits h, le-leb scale decimals l)

module _ (s : List ℕ) (whole from : ℕ) (g : Digital s whole from) where
  pub room-before : length s < 2 ^ 63 → Room (record { value = 0; significant = 0 }) s 0 whole
  room-before l = record {
    order = omega arith;
    within = omega (arith, g.order, g.within);
    digital = λ k a b. g.before k b;
    small = omega arith;
    few = omega (arith, g.order, g.within);
  }

  pub both_read : (c d : Count) → Further (record { value = 0; significant = 0 }) s 0 whole c → Further c s from (length s) d
      → Counted (take whole s ++ drop from s) d
  unfolding significant value_from
  both_read c d f h =
      let z : whole - 0 ≡ whole = omega arith in
      let t : part from (length s) s ≡ drop from s = take_all (length s - from) (drop from s) (simp length-drop (omega arith)) in
      let a : Counted (take whole s) c = rw z at (f.counted [] (record { count = refl; value_of = λ l. refl })) in
      rw t at (h.counted (take whole s) a)

-- ---- few digits, read in one pass
few_significant : (ds : List ℕ) → significant ds ≤ length ds
unfolding significant
few_significant [] = omega arith
few_significant (b ∷ s) = by (eqb b 48) (few_significant s)
  where
    by : (t : Bool) → significant s ≤ length s → cond t (significant s) (length (b ∷ s)) ≤ length (b ∷ s)
    by true h = omega arith
    by false h = omega arith

-- a run that has ended ends there again
run-again : (t : ℕ → Bool) (s : List ℕ) (p r : ℕ) → Ends t s p r → run_end_of t s r ≡ r
run-again t s p r e = by (ltb r (length s)) refl
  where
    by : (b : Bool) → ltb r (length s) ≡ b → run_end_of t s r ≡ r
    by true h = run-here t s r (ltb-true r (length s) h) (e.stops (ltb-true r (length s) h))
    by false h = run_out t s r (ltb-false r (length s) h)

module _ (s : List ℕ) (first : Run) (from : ℕ) (a : Ran 0 s 0 first) (f : PointAt s first.end from) where
  pub ran_room : first.value < 10 ^ from
  ran_room = let p : 10 ^ first.end ≤ 10 ^ from = pow-le-pow_right (lit≤ tt) f.after in omega (arith, a.small)

  module _ (last : Run) (b : Ran first.value s from last) where
    ran_shape : Shape s first.end from last.end
    ran_shape = by (ltb first.end from) refl
      where
        by : (t : Bool) → ltb first.end from ≡ t → Shape s first.end from last.end
        by true e = shape_point s first.end from a.ends.is f last.end (ltb-true first.end from e) b.ends.is
        by false e =
            let l : from ≤ first.end = ltb-false first.end from e in
            let g : from ≡ first.end = omega (arith, f.after) in
            let z : last.end ≡ first.end = b.ends.is ∙ rw g (run-again digit_byte s 0 first.end a.ends) in
            rw z (shape_bare s first.end from a.ends.is f l)

    module _ (minus : Bool) (digits decimals : ℕ) (whole : length s ≤ last.end) where
      ran_value : value_from 10 0 (take first.end s ++ drop from s) ≡ last.value
      ran_value =
          let z : first.end - 0 ≡ first.end = omega arith in
          let v : first.value ≡ value_from 10 0 (take first.end s) = rw z at a.value_of in
          let t : part from last.end s ≡ drop from s = take_all (last.end - from) (drop from s) (simp length-drop (omega arith)) in
          value-append 10 0 (take first.end s) (drop from s) ∙ rw (← v) (rw t at (sym b.value_of))

      ran_many : length (take first.end s ++ drop from s) ≡ first.end + (last.end - from)
      ran_many =
          simp (length-append, length-take, length-drop) (omega (arith, whole, a.ends.within, b.ends.within, f.within))

      pub ran_is : 0 < first.end + (last.end - from) → first.end + (last.end - from) ≤ digits → last.end - from ≤ decimals
          → Ok (record { negative = minus; digits = last.value; scale = last.end - from }) ≡ unsigned_decimal minus s digits decimals
      ran_is n h l =
          let ds : List ℕ = take first.end s ++ drop from s in
          let k : length s - from ≡ last.end - from = omega (arith, whole, b.ends.within) in
          let g : significant ds ≤ digits = omega (arith, few_significant ds, ran_many) in
          let e = limited-is minus ds (last.end - from) digits decimals g l in
          sym (shape_whole minus s digits decimals first.end from last.end ran_shape (λ z w. omega arith) whole
          ∙ rw k (e ∙ rw ran_value))

-- ---- the sign
module _ (digits decimals : ℕ) where
  pub decimal-none : (s : List ℕ) → length s ≡ 0 → decimal_of s digits decimals ≡ Err DecimalError.Invalid
  unfolding decimal_of run_length_of same_folded
  decimal-none [] h = refl
  decimal-none (b ∷ s) h = absurd (omega arith)

  pub decimal-minus : (s : List ℕ) → 1 ≤ length s → get_or s 0 0 ≡ 45 → decimal_of s digits decimals ≡ unsigned_decimal true (drop 1 s) digits decimals
  unfolding decimal_of
  decimal-minus [] h e = absurd (omega arith)
  decimal-minus (b ∷ s) h e = rw (ne_eqb b 43 (λ w. omega arith), eq-eqb b 45 e)

  pub decimal-bare : (s : List ℕ) → 1 ≤ length s → (get_or s 0 0 ≡ 43 → ⊥) → (get_or s 0 0 ≡ 45 → ⊥)
      → decimal_of s digits decimals ≡ unsigned_decimal false s digits decimals
  unfolding decimal_of
  decimal-bare [] h m n = absurd (omega arith)
  decimal-bare (b ∷ s) h m n = rw (ne_eqb b 43 m, ne_eqb b 45 n)

  pub decimal-plus : (s : List ℕ) → 1 ≤ length s → get_or s 0 0 ≡ 43 → decimal_of s digits decimals ≡ unsigned_decimal false (drop 1 s) digits decimals
  unfolding decimal_of
  decimal-plus [] h e = absurd (omega arith)
  decimal-plus (b ∷ s) h e = rw (eq-eqb b 43 e, ne_eqb b 45 (λ w. omega arith))

-- ---- a decimal is within its limits
every-run : (s : List ℕ) → every digit_byte (digits_at s) ≡ true
unfolding run_length_of
every-run [] = refl
every-run (b ∷ s) = by (digit_byte b) refl (every-run s)
  where
    by : (t : Bool) → digit_byte b ≡ t → every digit_byte (digits_at s) ≡ true
        → every digit_byte (take (cond t (suc (run_length_of digit_byte s)) 0) (b ∷ s)) ≡ true
    by true e r = rw e r
    by false e r = refl

every-fraction : (s : List ℕ) → every digit_byte (fraction s) ≡ true
unfolding fraction
every-fraction [] = refl
every-fraction (b ∷ s) = by (eqb b 46)
  where
    by : (t : Bool) → every digit_byte (cond t (digits_at s) []) ≡ true
    by true = every-run s
    by false = refl

value-bound : (s : List ℕ) (v : ℕ) → every digit_byte s ≡ true → value_from 10 v s < (v + 1) * 10 ^ length s
unfolding value_from
value-bound [] v e = rw (mul-one (v + 1)) (omega arith)
value-bound (b ∷ s) v e =
    let h = (and-eq-true_iff (digit_byte b) (every digit_byte s)).0 e in
    let d = digit_bounds b h.0 in
    let t : digit_of b ≡ b - 48 = digit-byte b d.0 d.1 in
    let r : value_from 10 (v * 10 + digit_of b) s < (v * 10 + digit_of b + 1) * 10 ^ length s = value-bound s (v * 10 + digit_of b) h.1 in
    let m : (v * 10 + digit_of b + 1) * 10 ^ length s ≤ ((v + 1) * 10) * 10 ^ length s = mul-le-mul_right (10 ^ length s) (omega arith) in
    let z : (v + 1) * 10 ^ suc (length s) ≡ ((v + 1) * 10) * 10 ^ length s = rw pow-suc (simp (mul_assoc, mul_comm, mul_left_comm)) in
    rw z (omega arith)

pub value-limit : (ds : List ℕ) (n : ℕ) → every digit_byte ds ≡ true → significant ds ≤ n → value_from 10 0 ds < 10 ^ n
unfolding value_from significant
value-limit [] n e h = one-le-pow n 10 (omega arith)
value-limit (b ∷ s) n e h = by (eqb b 48) refl (value-limit s n ((and-eq-true_iff (digit_byte b) (every digit_byte s)).0 e).1) h
  where
    by : (t : Bool) → eqb b 48 ≡ t → (significant s ≤ n → value_from 10 0 s < 10 ^ n) → cond t (significant s) (length (b ∷ s)) ≤ n
        → value_from 10 (0 * 10 + digit_of b) s < 10 ^ n
    by true w r h =
        let z : b ≡ 48 = eqb-true b 48 w in
        let d : 0 * 10 + digit_of b ≡ 0 = omega (arith, digit-byte b (omega arith) (omega arith)) in
        rw d (r h)
    by false w r h =
        let p : 10 ^ length (b ∷ s) ≤ 10 ^ n = pow-le-pow_right (lit≤ tt) h in
        let q : value_from 10 (0 * 10 + digit_of b) s < (0 + 1) * 10 ^ length (b ∷ s) = value-bound (b ∷ s) 0 e in
        omega arith

-- what is known of a decimal from the limits alone
pub record Within (digits decimals : ℕ) (d : Digits) : Type 0 where
  pub small : d.digits < 10 ^ digits
  pub near : d.scale ≤ decimals

module _ (digits decimals : ℕ) where
  limited-within : (minus : Bool) (ds : List ℕ) (scale : ℕ) {d : Digits} → every digit_byte ds ≡ true → limited minus ds scale digits decimals ≡ Ok d
      → Within digits decimals d
  unfolding limited
  limited-within minus ds scale {d} v e = by (leb (significant ds) digits) (leb scale decimals) refl refl e
    where
      by : (t u : Bool) → leb (significant ds) digits ≡ t → leb scale decimals ≡ u
          → cond (t && u) (Ok (record { negative = minus; digits = value_from 10 0 ds; scale = scale })) (Err DecimalError.Beyond) ≡ Ok d → Within digits decimals d
      by true true t u e =
          let w : record { negative = minus; digits = value_from 10 0 ds; scale = scale } ≡ d = cc in
          let a : value_from 10 0 ds ≡ d.digits = ap (λ (x : Digits). x.digits) w in
          let b : scale ≡ d.scale = ap (λ (x : Digits). x.scale) w in
          record { small = rw (← a) (value-limit ds digits v (leb-true (significant ds) digits t)); near = omega (arith, leb-true scale decimals u) }
      by true false t u e = let z : ◌≡◌ {A = ℕ} 0 1 = cc in absurd (omega arith)
      by false u t _ e = let z : ◌≡◌ {A = ℕ} 0 1 = cc in absurd (omega arith)

  unsigned-within : (minus : Bool) (s : List ℕ) {d : Digits} → unsigned_decimal minus s digits decimals ≡ Ok d → Within digits decimals d
  unfolding unsigned_decimal
  unsigned-within minus s {d} e = by (eqb (length (all_digits s)) 0) (is_word s) (eqb (length (rest_of s)) 0) (is_exponent (rest_of s)) e
    where
      by : (a w r x : Bool) → cond a (cond w (Err DecimalError.Beyond) (Err DecimalError.Invalid))
          (cond r (limited minus (all_digits s) (scale_of s) digits decimals) (cond x (Err DecimalError.Beyond) (Err DecimalError.Invalid))) ≡ Ok d → Within digits decimals d
      by true true r x e = let z : ◌≡◌ {A = ℕ} 0 1 = cc in absurd (omega arith)
      by true false r x e = let z : ◌≡◌ {A = ℕ} 0 1 = cc in absurd (omega arith)
      by false w true x e = limited-within minus (all_digits s) (scale_of s)
          (every_append digit_byte (digits_at s) (fraction (after_digits s)) (every-run s) (every-fraction (after_digits s))) e
      by false w false true e = let z : ◌≡◌ {A = ℕ} 0 1 = cc in absurd (omega arith)
      by false w false false e = let z : ◌≡◌ {A = ℕ} 0 1 = cc in absurd (omega arith)

  pub decimal-limits : (s : List ℕ) {d : Digits} → decimal_of s digits decimals ≡ Ok d → Within digits decimals d
  unfolding decimal_of
  decimal-limits s e = unsigned-within (negative s) (unsigned s) e
