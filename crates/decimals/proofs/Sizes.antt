-- Sizes. Assumes nothing.
--     reduced-end, reduced-stop, reduced-least, reduced-is   a decimal without zeros at its end
--     value-spelled, spelled-finite             what a spelling means
--     size_is, size-not, size-spelled           which cells are a size
--     same_true, same_itself, bits_same         the same float, and the same bits
--     round_finite                              a rounded fraction is no NaN
--     spelling-whole, spelling-parts, long_whole, long_parts   a spelling's pieces and their lengths
--     begun_minus, begun_plain, room-lead, put_whole, room-point, put_parts   a spelling written piece by piece
--     size-made, size-says, size-again          what a decimal makes is a size; a size is what its spelling means
--     reduced-value                             the zeros cut off change no value
use Rattle.std.proofs.Common.{◌≡◌, ℕ, zero, suc, ◌+◌, ◌*◌, ◌/◌, ◌%◌, ◌^◌, ◌<◌, ◌≤◌, Bool, true, false, cond, not, ◌&&◌, ◌||◌, eqb, ltb, leb, List, [], ◌∷◌, ◌++◌, length, set, ℤ, pos, negsuc, sym, refl, ap, ◌∙◌, append_assoc, append-nil, arith, lit≤, length-append, length-set, ltb-false, ltb-true, eq-eqb, ne_eqb, eqb-true, le-leb, leb-true}
use mathlib.Core.Bool.{beq, and-eq-true_iff}
use native.Mathlib.Nat.{pow-le-pow_right}
use lib.Seq.{sets, length-sets}
use lib.Ieee.{Float, nan, inf, fin, Format, binary32, prec, emax, low, odd, units, round, is_nan, ne, to_bits, of_bits, fits}
use lib.Ieee.Bits.{of_bits-to_bits}
use lib.Ieee.Compare.{nan_differs}
use borrow.Author.Tests.{eqb-false}
use Rattle.scan.specs.Posts.{Appended}
use Rattle.scan.proofs.Stores.{sets_on}
use Rattle.numerals.specs.Written.{padded, decimal_width}
use Rattle.numerals.proofs.Writing.{padded-length}
use Rattle.decimals.proofs.Tests.{no}
use Rattle.decimals.proofs.Values.{value-zero}
use Rattle.decimals.specs.declared.read.Digits.{Digits}
use Rattle.decimals.specs.declared.size.Size.{Size}
use Rattle.decimals.specs.Floats.{value_in_of, same_exponent, same_float}
use Rattle.decimals.specs.Size.{spelled, reduced_from, reduced, sized, size_of, is_spelling, is_size, spelled_value, spelling}

pub small_power : (k : ℕ) → k ≤ 10 → 10 ^ k ≤ 10 ^ 10
small_power k h = pow-le-pow_right (lit≤ tt) h

-- ---- without zeros at the end
module _ (minus : Bool) (digits : ℕ) where
  pub reduced-end : (k : ℕ) → k ≤ 0 → reduced_from minus digits k ≡ spelled minus digits k
  unfolding reduced_from
  reduced-end zero h = refl
  reduced-end (suc k) h = absurd (omega arith)

  pub reduced-stop : (k : ℕ) → 0 < k → (digits % 10 ≡ 0 → ⊥) → reduced_from minus digits k ≡ spelled minus digits k
  unfolding reduced_from
  reduced-stop zero h n = refl
  reduced-stop (suc k) h n = rw (ne_eqb (digits % 10) 0 n)

-- what is left is no more than there was, and has no zero at its end behind the point
pub record Least (minus : Bool) (digits scale : ℕ) (d : Digits) : Type 0 where
  pub sign : d.negative ≡ minus
  pub fewer : d.digits ≤ digits
  pub nearer : d.scale ≤ scale
  pub trim : 0 < d.scale → d.digits % 10 ≡ 0 → ⊥

pub reduced-least : (minus : Bool) (digits scale : ℕ) → Least minus digits scale (reduced_from minus digits scale)
unfolding reduced_from
reduced-least minus digits zero = record { sign = refl; fewer = omega arith; nearer = omega arith; trim = λ h e. omega arith }
reduced-least minus digits (suc k) = by (eqb (digits % 10) 0) refl (reduced-least minus (digits / 10) k)
  where
    by : (t : Bool) → eqb (digits % 10) 0 ≡ t → Least minus (digits / 10) k (reduced_from minus (digits / 10) k)
        → Least minus digits (suc k) (cond t (reduced_from minus (digits / 10) k) (spelled minus digits (suc k)))
    by true e r = record { sign = r.sign; fewer = omega (arith, r.fewer); nearer = omega (arith, r.nearer); trim = r.trim }
    by false e r = record { sign = refl; fewer = omega arith; nearer = omega arith; trim = λ h. eqb-false (digits % 10) 0 e }

pub reduced-is : (d : Digits) → Least d.negative d.digits d.scale (reduced d)
unfolding reduced
reduced-is d = reduced-least d.negative d.digits d.scale

-- ---- no NaN
odd_finite : (d : ℕ) (s : Bool) (q k l : ℕ) → is_nan (odd d s q k l) ≡ false
unfolding odd is_nan
odd_finite d s zero k l = refl
odd_finite d s (suc q) k l = refl

units_finite : (f : Format) (s : Bool) (q k : ℕ) → is_nan (units f s q k) ≡ false
unfolding units is_nan
units_finite f s q k = by (ltb (q * 2 ^ k) (2 ^ (low f + suc (emax f))))
  where
    by : (b : Bool) → is_nan (cond b (odd (suc (prec f)) s q k (low f)) (inf s)) ≡ false
    by true = odd_finite (suc (prec f)) s q k (low f)
    by false = refl

pub round_finite : (f : Format) (s : Bool) (a b : ℕ) → is_nan (round f s a b) ≡ false
unfolding round
round_finite f s a b = units_finite f s _ _

pub equal_finite : (x : Float) → ne x x ≡ false → is_nan x ≡ false
unfolding is_nan
equal_finite nan e = let z : ◌≡◌ {A = ℕ} 0 1 = cc nan_differs in absurd (omega arith)
equal_finite (inf s) e = refl
equal_finite (fin s m d) e = refl

-- ---- the same float
same_sign : (s t : Bool) → beq s t ≡ true → s ≡ t
same_sign true true e = refl
same_sign true false e = sym e
same_sign false true e = e
same_sign false false e = refl

same-exponent : (e d : ℤ) → same_exponent e d ≡ true → e ≡ d
same-exponent (pos a) (pos b) h = ap pos (eqb-true a b h)
same-exponent (pos a) (negsuc b) h = let z : ◌≡◌ {A = ℕ} 0 1 = cc in absurd (omega arith)
same-exponent (negsuc a) (pos b) h = let z : ◌≡◌ {A = ℕ} 0 1 = cc in absurd (omega arith)
same-exponent (negsuc a) (negsuc b) h = ap negsuc (eqb-true a b h)

pub same_true : (x y : Float) → same_float x y ≡ true → x ≡ y
unfolding same_float
same_true nan y h = let z : ◌≡◌ {A = ℕ} 0 1 = cc in absurd (omega arith)
same_true (inf s) nan h = let z : ◌≡◌ {A = ℕ} 0 1 = cc in absurd (omega arith)
same_true (inf s) (inf t) h = ap inf (same_sign s t h)
same_true (inf s) (fin t n d) h = let z : ◌≡◌ {A = ℕ} 0 1 = cc in absurd (omega arith)
same_true (fin s m e) nan h = let z : ◌≡◌ {A = ℕ} 0 1 = cc in absurd (omega arith)
same_true (fin s m e) (inf t) h = let z : ◌≡◌ {A = ℕ} 0 1 = cc in absurd (omega arith)
same_true (fin s m e) (fin t n d) h =
    let a = (and-eq-true_iff (beq s t && eqb m n) (same_exponent e d)).0 h in
    let b = (and-eq-true_iff (beq s t) (eqb m n)).0 a.0 in
    rw (same_sign s t b.0, eqb-true m n b.1, same-exponent e d a.1)

pub same_itself : (x : Float) → is_nan x ≡ false → same_float x x ≡ true
unfolding same_float is_nan
same_itself nan h = sym h
same_itself (inf true) h = refl
same_itself (inf false) h = refl
same_itself (fin true m (pos a)) h = rw (eq-eqb m m refl, eq-eqb a a refl)
same_itself (fin true m (negsuc a)) h = rw (eq-eqb m m refl, eq-eqb a a refl)
same_itself (fin false m (pos a)) h = rw (eq-eqb m m refl, eq-eqb a a refl)
same_itself (fin false m (negsuc a)) h = rw (eq-eqb m m refl, eq-eqb a a refl)

pub same_nan : (x y : Float) → is_nan x ≡ true → same_float x y ≡ false
unfolding same_float is_nan
same_nan nan y e = refl
same_nan (inf s) y e = no (sym e)
same_nan (fin s m d) y e = no (sym e)

pub bits_same : (a b : Float) → fits binary32 a ≡ true → fits binary32 b ≡ true → is_nan a ≡ false
    → eqb (to_bits binary32 a) (to_bits binary32 b) ≡ same_float b a
bits_same a b f g n = by (same_float b a) refl
  where
    by : (t : Bool) → same_float b a ≡ t → eqb (to_bits binary32 a) (to_bits binary32 b) ≡ t
    by true e = eq-eqb (to_bits binary32 a) (to_bits binary32 b) (ap (to_bits binary32) (sym (same_true b a e)))
    by false e =
        ne_eqb (to_bits binary32 a) (to_bits binary32 b) (λ w.
        let q : a ≡ b = sym (of_bits-to_bits binary32 a (rw f tt)) ∙ ap (of_bits binary32) w ∙ of_bits-to_bits binary32 b (rw g tt) in
        let z : ◌≡◌ {A = ℕ} 0 1 = cc (same_itself a n) in
        omega arith)

-- ---- which cells are a size
module _ (digits scale : ℕ) where
  module _ (negative : Bool) where
    pub value-spelled : digits ≤ 999999 → scale ≤ 10 → spelled_value negative digits scale ≡ value_in_of binary32 negative digits scale
    unfolding spelled_value
    value-spelled a b = rw (le-leb digits 999999 a, le-leb scale 10 b)

    pub spelled-finite : is_nan (spelled_value negative digits scale) ≡ false
    unfolding spelled_value is_nan
    spelled-finite = by (leb digits 999999 && leb scale 10)
      where
        by : (t : Bool) → is_nan (cond t (value_in_of binary32 negative digits scale) (fin false 0 (pos 0))) ≡ false
        by true = round_finite binary32 negative digits (10 ^ scale)
        by false = refl

module _ (s : Size) where
  pub size_is : s.digits ≤ 999999 → s.scale ≤ 10 → (0 < s.scale → s.digits % 10 ≡ 0 → ⊥)
      → is_size s ≡ same_float s.value (value_in_of binary32 s.negative s.digits s.scale)
  unfolding is_size
  size_is a b n = rw (le-leb s.digits 999999 a, le-leb s.scale 10 b, by (eqb s.scale 0) refl)
    where
      by : (t : Bool) → eqb s.scale 0 ≡ t → (t || not (eqb (s.digits % 10) 0)) ≡ true
      by true e = refl
      by false e = let z : s.scale ≡ 0 → ⊥ = eqb-false s.scale 0 e in rw (ne_eqb (s.digits % 10) 0 (n (omega arith)))

  -- by its spelling
  pub size-not : is_spelling s.digits s.scale ≡ false → is_size s ≡ false
  unfolding is_size
  size-not e = rw e

  pub size-spelled : is_spelling s.digits s.scale ≡ true
      → is_size s ≡ same_float s.value (spelled_value s.negative s.digits s.scale)
  unfolding is_size
  size-spelled e =
      let y = (and-eq-true_iff (leb s.digits 999999 && leb s.scale 10) (eqb s.scale 0 || not (eqb (s.digits % 10) 0))).0 e in
      let z = (and-eq-true_iff (leb s.digits 999999) (leb s.scale 10)).0 y.0 in
      rw (e, value-spelled s.digits s.scale s.negative (leb-true s.digits 999999 z.0) (leb-true s.scale 10 z.1))

-- what a test of a size needs
pub ruleset size_tests = (size-not, size-spelled, spelled-finite)

-- ---- a spelling's pieces: a minus, the digits before the point, and those behind it
abbrev pub lead : Bool → List ℕ
lead minus = cond minus (45 ∷ []) []

abbrev pub before : ℕ → ℕ → List ℕ
before digits scale = padded 10 (decimal_width (digits / 10 ^ scale)) (digits / 10 ^ scale)

abbrev pub behind : ℕ → ℕ → List ℕ
behind digits scale = padded 10 scale (digits % 10 ^ scale)

module _ (minus : Bool) (digits scale : ℕ) where
  pub spelling-whole : scale ≡ 0 → spelling minus digits scale ≡ lead minus ++ before digits scale
  unfolding spelling
  spelling-whole e = rw (eq-eqb scale 0 e, append-nil)

  pub spelling-parts : (scale ≡ 0 → ⊥) → spelling minus digits scale ≡ (lead minus ++ before digits scale) ++ ((46 ∷ []) ++ behind digits scale)
  unfolding spelling
  spelling-parts n = rw (ne_eqb scale 0 n)

  pub long_whole : scale ≡ 0 → length (spelling minus digits scale) ≡ length (lead minus) + decimal_width (digits / 10 ^ scale)
  long_whole e = ap length (spelling-whole e) ∙ simp (length-append, padded-length)

  pub long_parts : (scale ≡ 0 → ⊥) → length (spelling minus digits scale) ≡ length (lead minus) + decimal_width (digits / 10 ^ scale) + 1 + scale
  long_parts n = ap length (spelling-parts n) ∙ simp (length-append, padded-length) (omega arith)

-- a spelling is not empty
pub room-minus : (minus : Bool) (digits scale : ℕ) → minus ≡ true → 1 ≤ length (spelling minus digits scale)
room-minus minus digits scale m = by (eqb scale 0) refl
  where
    l : length (lead minus) ≡ 1
    l = rw m

    by : (c : Bool) → eqb scale 0 ≡ c → 1 ≤ length (spelling minus digits scale)
    by true e = omega (arith, l, long_whole minus digits scale (eqb-true scale 0 e))
    by false e = omega (arith, l, long_parts minus digits scale (eqb-false scale 0 e))

-- ---- a spelling written piece by piece
-- the minus is written, where there is one
pub record Begun (minus : Bool) (at : ℕ) (t : List ℕ) (start : ℕ) (t' : List ℕ) : Type 0 where
  pub place : start ≡ at + length (lead minus)
  pub laid : t' ≡ sets t at (lead minus)

pub begun_minus : (minus : Bool) {at : ℕ} {t : List ℕ} {start : ℕ} {t' : List ℕ} → minus ≡ true → start ≡ at + 1 → t' ≡ set t at 45
    → Begun minus at t start t'
begun_minus minus m e f = record { place = rw m e; laid = rw m f }

pub begun_plain : (minus : Bool) {at : ℕ} {t : List ℕ} {start : ℕ} {t' : List ℕ} → minus ≡ false → start ≡ at → t' ≡ t → Begun minus at t start t'
begun_plain minus m e f = record { place = rw m (omega arith); laid = rw m f }

module _ (minus : Bool) (digits scale at : ℕ) (t : List ℕ) (start : ℕ) (t1 : List ℕ) (b : Begun minus at t start t1)
    (room : at + length (spelling minus digits scale) ≤ length t) where
  long_one : length t1 ≡ length t
  long_one = ap length b.laid ∙ simp length-sets

  pub room-lead : start + decimal_width (digits / 10 ^ scale) ≤ length t1
  room-lead = by (eqb scale 0) refl
    where
      by : (c : Bool) → eqb scale 0 ≡ c → start + decimal_width (digits / 10 ^ scale) ≤ length t1
      by true e = omega (arith, b.place, long_one, long_whole minus digits scale (eqb-true scale 0 e))
      by false e = omega (arith, b.place, long_one, long_parts minus digits scale (eqb-false scale 0 e))

  module _ (t2 : List ℕ) (end : ℕ) (w : Appended (before digits scale) start t1 t2 end) where
    pub long_two : length t2 ≡ length t
    long_two = ap length w.laid ∙ simp length-sets long_one

    two : t2 ≡ sets t at (lead minus ++ before digits scale)
    two = sets_on (lead minus) (before digits scale) t t1 t2 at start b.laid w.laid b.place

    two_end : end ≡ at + length (lead minus ++ before digits scale)
    two_end = w.next ∙ rw b.place (simp length-append (omega arith))

    pub put_whole : scale ≡ 0 → Appended (spelling minus digits scale) at t t2 end
    put_whole e = rw (spelling-whole minus digits scale e) (record {
      next = two_end;
      within = omega (arith, w.within, long_one);
      laid = two;
    })

    module _ (n : scale ≡ 0 → ⊥) where
      pub room-point : end + 1 + scale ≤ length t
      room-point = omega (
        arith,
        long_parts minus digits scale n,
        w.next,
        b.place,
        padded-length 10 (decimal_width (digits / 10 ^ scale))
            (digits / 10 ^ scale),
      )

      pub put_parts : (t4 : List ℕ) (r : ℕ) → Appended (behind digits scale) (end + 1) (set t2 end 46) t4 r
          → Appended (spelling minus digits scale) at t t4 r
      put_parts t4 r v =
          let three : set t2 end 46 ≡ sets t at (lead minus ++ before digits scale ++ (46 ∷ [])) =
          sets_on (lead minus ++ before digits scale) (46 ∷ []) t t2 (set t2 end 46) at end two refl two_end in
          let three_end : end + 1 ≡ at + length (lead minus ++ before digits scale ++ (46 ∷ [])) =
          rw (length-append (lead minus ++ before digits scale) (46 ∷ [])) (omega (arith, two_end)) in
          let four : t4 ≡ sets t at (lead minus ++ before digits scale ++ (46 ∷ []) ++ behind digits scale) = sets_on
          (lead minus ++ before digits scale ++ (46 ∷ [])) (behind digits scale) t (set t2 end 46) t4 at (end + 1) three v.laid three_end in
          let long : length (set t2 end 46) ≡ length t = simp length-set long_two in
          rw (spelling-parts minus digits scale n, ← (append_assoc (lead minus ++ before digits scale) (46 ∷ []) (behind digits scale))) (record {
            next = v.next ∙ rw (three_end, length-append (lead minus ++ before digits scale ++ (46 ∷ [])) (behind digits scale)) (omega arith);
            within = omega (arith, v.within, long);
            laid = four;
          })

-- ---- what a size is
pub size-made : (d : Digits) → d.digits < 10 ^ 6 → d.scale ≤ 10 → is_size (size_of d) ≡ true
unfolding size_of
size-made d a b =
    let l = reduced-is d in
    let r = reduced d in
    size_is (sized r) (omega (arith, l.fewer)) (omega (arith, l.nearer)) l.trim
    ∙ same_itself (value_in_of binary32 r.negative r.digits r.scale) (round_finite binary32 r.negative r.digits (10 ^ r.scale))

-- what is known of cells that are a size
pub record IsSize (s : Size) : Type 0 where
  pub few : s.digits ≤ 999999
  pub near : s.scale ≤ 10
  pub trim : 0 < s.scale → s.digits % 10 ≡ 0 → ⊥
  pub value-is : s.value ≡ value_in_of binary32 s.negative s.digits s.scale

pub size-says : (s : Size) → is_size s ≡ true → IsSize s
unfolding is_size
size-says s e =
    let v : Bool = same_float s.value (value_in_of binary32 s.negative s.digits s.scale) in
    let x = (and-eq-true_iff (leb s.digits 999999 && leb s.scale 10 && (eqb s.scale 0 || not (eqb (s.digits % 10) 0))) v).0 e in
    let y = (and-eq-true_iff (leb s.digits 999999 && leb s.scale 10) (eqb s.scale 0 || not (eqb (s.digits % 10) 0))).0 x.0 in
    let z = (and-eq-true_iff (leb s.digits 999999) (leb s.scale 10)).0 y.0 in
    record {
      few = leb-true s.digits 999999 z.0;
      near = leb-true s.scale 10 z.1;
      trim = trimmed y.1;
      value-is = same_true s.value (value_in_of binary32 s.negative s.digits s.scale) x.1;
    }
  where
    trimmed : (eqb s.scale 0 || not (eqb (s.digits % 10) 0)) ≡ true → 0 < s.scale → s.digits % 10 ≡ 0 → ⊥
    trimmed t h e =
        let z : ◌≡◌ {A = ℕ} 0 1 = cc (rw (ne_eqb s.scale 0 (λ w. omega arith), eq-eqb (s.digits % 10) 0 e) at t) in
        omega arith

-- a size is what its spelling means
pub size-again : (s : Size) → is_size s ≡ true → size_of (spelled s.negative s.digits s.scale) ≡ s
unfolding size_of reduced
size-again s e =
    let i = size-says s e in
    let r : reduced_from s.negative s.digits s.scale ≡ spelled s.negative s.digits s.scale = by (ltb 0 s.scale) refl i.trim in
    ap sized r ∙ rw (← i.value-is)
  where
    by : (t : Bool) → ltb 0 s.scale ≡ t → (0 < s.scale → s.digits % 10 ≡ 0 → ⊥)
        → reduced_from s.negative s.digits s.scale ≡ spelled s.negative s.digits s.scale
    by true t n = let h : 0 < s.scale = ltb-true 0 s.scale t in reduced-stop s.negative s.digits s.scale h (n h)
    by false t n = reduced-end s.negative s.digits s.scale (ltb-false 0 s.scale t)

-- ---- the zeros cut off change no value
pub reduced-value : (f : Format) (minus : Bool) (digits scale : ℕ) →
    let d = reduced_from minus digits scale in
    value_in_of f d.negative d.digits d.scale ≡ value_in_of f minus digits scale
unfolding reduced_from
reduced-value f minus digits zero = refl
reduced-value f minus digits (suc k) = by (eqb (digits % 10) 0) refl (reduced-value f minus (digits / 10) k)
  where
    by : (t : Bool) → eqb (digits % 10) 0 ≡ t
        → value_in_of f (reduced_from minus (digits / 10) k).negative (reduced_from minus (digits / 10) k).digits
        (reduced_from minus (digits / 10) k).scale ≡ value_in_of f minus (digits / 10) k
        → value_in_of f (cond t (reduced_from minus (digits / 10) k) (spelled minus digits (suc k))).negative
        (cond t (reduced_from minus (digits / 10) k) (spelled minus digits (suc k))).digits
        (cond t (reduced_from minus (digits / 10) k) (spelled minus digits (suc k))).scale ≡ value_in_of f minus digits (suc k)
    by true e r =
        let z : digits / 10 * 10 ≡ digits = omega (arith, eqb-true (digits % 10) 0 e) in
        r ∙ sym (value-zero f minus (digits / 10) k) ∙ rw z
    by false e r = refl
