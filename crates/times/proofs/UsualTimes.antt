-- A text of the usual form is what its milliseconds are written as. Assumes nothing.
use Rattle.std.specs.Prelude.{Ok}
use Prim.Native.Nat.{ℕ, zero, suc, ◌+◌, ◌*◌, ◌/◌, ◌%◌, ◌≤◌, ◌<◌}
use mathlib.Core.Path.{◌≡◌, refl, sym, ap, ◌∙◌}
use mathlib.Core.List.{List, [], ◌∷◌}
use native.Mathlib.Omega.{arith}
use lib.ListN.{length, get_or}
use lib.Dec.{eqb, ltb}
use lib.IntN.{pos}
use borrow.Author.Tests.{eqb-true, eq-eqb, ltb-true, lt-ltb}
use Rattle.scan.specs.Bytes.{digit_byte}
use Rattle.scan.proofs.Every.{by-test}
use Rattle.numerals.specs.Written.{padded, width_from, decimal_width}
use Rattle.numerals.proofs.Writing.{char_low}
use Rattle.decimals.proofs.Counting.{digit_bounds}
use Rattle.times.specs.Steps.{digit_or, two_at, three_at, in_millis, usual_millis}
use Rattle.times.specs.declared.offset.TimingCtx.{TimingCtx}
use Rattle.times.specs.Expressions.{time_in}
use Rattle.times.specs.Written.{field, hours_width, clock_of_millis}
use Rattle.times.proofs.Back.{back}

-- ---- digits
abbrev Read : ℕ → Type 0
Read b = (b ≡ 48 + digit_or b) × (digit_or b < 10)

pub digit_most : (b : ℕ) → digit_or b ≤ 1000
digit_most b = by-test (digit_byte b) (λ e. let d = digit_bounds b e in rw e (omega arith)) (λ e. rw e (omega arith))

digit_read : (b : ℕ) → digit_or b < 1000 → Read b
digit_read b h = by-test (digit_byte b)
    (λ e. let d = digit_bounds b e in rw e (omega arith, omega arith))
    (λ e. absurd (omega (arith, rw e at h)))

two_written : (a b r : ℕ) → r ≡ digit_or a * 10 + digit_or b → r < 100 → padded 10 2 r ≡ a ∷ b ∷ []
unfolding padded
two_written a b r e h =
    let x : Read a = digit_read a (omega arith) in
    let y : Read b = digit_read b (omega arith) in
    let p : r / 10 % 10 ≡ digit_or a = omega arith in
    let q : r % 10 ≡ digit_or b = omega arith in
    rw (p, q, char_low (digit_or a) x.1, char_low (digit_or b) y.1, ← x.0, ← y.0)

three_written : (a b c r : ℕ) → r ≡ digit_or a * 100 + (digit_or b * 10 + digit_or c) → r < 1000 → padded 10 3 r ≡ a ∷ b ∷ c ∷ []
unfolding padded
three_written a b c r e h =
    let x : Read a = digit_read a (omega arith) in
    let y : Read b = digit_read b (omega arith) in
    let z : Read c = digit_read c (omega arith) in
    let o : r / 10 / 10 % 10 ≡ digit_or a = omega arith in
    let p : r / 10 % 10 ≡ digit_or b = omega arith in
    let q : r % 10 ≡ digit_or c = omega arith in
    rw (o, p, q, char_low (digit_or a) x.1, char_low (digit_or b) y.1, char_low (digit_or c) z.1, ← x.0, ← y.0, ← z.0)

-- ---- the whole text
hours_two : (h : ℕ) → h < 100 → hours_width h ≡ 2
unfolding hours_width decimal_width width_from
hours_two h l = by-test (ltb h 10) (λ e. rw e) (λ e. rw (e, lt-ltb h 100 l))

-- the sum, with each part below its limit
record Summed (h m s ms r : ℕ) : Type 0 where
  pub hours : h < 100
  pub minutes : m < 60
  pub seconds : s < 60
  pub millis : ms < 1000
  pub is : r ≡ ((h * 60 + m) * 60 + s) * 1000 + ms

in_summed : (h m s ms : ℕ) → in_millis h m s ms < 360000000 → Summed h m s ms (in_millis h m s ms)
in_summed h m s ms l = by-test (ltb h 100)
    (λ a. by-test (ltb m 60)
    (λ b. by-test (ltb s 60)
    (λ c. by-test (ltb ms 1000)
    (λ d. rw (a, b, c, d) (record {
      hours = ltb-true h 100 a;
      minutes = ltb-true m 60 b;
      seconds = ltb-true s 60 c;
      millis = ltb-true ms 1000 d;
      is = refl;
    }))
    (λ d. absurd (omega (arith, rw (a, b, c, d) at l))))
    (λ c. absurd (omega (arith, rw (a, b, c) at l))))
    (λ b. absurd (omega (arith, rw (a, b) at l))))
    (λ a. absurd (omega (arith, rw a at l)))

-- n bytes from a place on, one by one
abbrev bytes_from : List ℕ → (at n : ℕ) → List ℕ
bytes_from s i zero = []
bytes_from s i (suc n) = get_or s i 0 ∷ bytes_from s (suc i) n

bytes_behind : (b : ℕ) (s : List ℕ) (i n : ℕ) → bytes_from (b ∷ s) (suc i) n ≡ bytes_from s i n
bytes_behind b s i zero = refl
bytes_behind b s i (suc n) = rw (bytes_behind b s (suc i) n)

one_by_one : (s : List ℕ) → bytes_from s 0 (length s) ≡ s
one_by_one [] = refl
one_by_one (b ∷ s) = rw (bytes_behind b s 0 (length s), one_by_one s)

module _ (s : List ℕ) (twelve : length s ≡ 12) where
  all_bytes : bytes_from s 0 12 ≡ s
  all_bytes = ap (bytes_from s 0) (sym twelve) ∙ one_by_one s

  module _ (c : get_or s 2 0 ≡ 58) (d : get_or s 5 0 ≡ 58) (p : get_or s 8 0 ≡ 46) (r : ℕ) where
    marked-written : Summed (two_at s 0) (two_at s 3) (two_at s 6) (three_at s 9) r → s ≡ clock_of_millis r
    unfolding clock_of_millis field
    marked-written t =
        let a : r / 3600000 ≡ two_at s 0 = omega (arith, t.hours, t.minutes, t.seconds, t.millis, t.is) in
        let b : r / 60000 % 60 ≡ two_at s 3 = omega (arith, t.hours, t.minutes, t.seconds, t.millis, t.is) in
        let e : r / 1000 % 60 ≡ two_at s 6 = omega (arith, t.hours, t.minutes, t.seconds, t.millis, t.is) in
        let g : r % 1000 ≡ three_at s 9 = omega (arith, t.hours, t.minutes, t.seconds, t.millis, t.is) in
        rw (
          a,
          b,
          e,
          g,
          hours_two (two_at s 0) t.hours,
          two_written (get_or s 0 0) (get_or s 1 0) (two_at s 0) refl t.hours,
          two_written (get_or s 3 0) (get_or s 4 0) (two_at s 3) refl (omega (arith, t.minutes)),
          two_written (get_or s 6 0) (get_or s 7 0) (two_at s 6) refl (omega (arith, t.seconds)),
          three_written (get_or s 9 0) (get_or s 10 0) (get_or s 11 0) (three_at s 9) refl t.millis,
        )
        (sym (rw (c, d, p) at all_bytes))

  -- milliseconds below 100 hours are those that the text is written for
  pub usual_written : usual_millis s < 360000000 → s ≡ clock_of_millis (usual_millis s)
  usual_written h = by-test (eqb (get_or s 2 0) 58)
      (λ c. by-test (eqb (get_or s 5 0) 58)
      (λ d. by-test (eqb (get_or s 8 0) 46)
      (λ p. marked-written (eqb-true (get_or s 2 0) 58 c) (eqb-true (get_or s 5 0) 58 d) (eqb-true (get_or s 8 0) 46 p) (usual_millis s)
      (rw (c, d, p) (in_summed (two_at s 0) (two_at s 3) (two_at s 6) (three_at s 9) (rw (c, d, p) at h))))
      (λ p. absurd (omega (arith, rw (c, d, p) at h))))
      (λ d. absurd (omega (arith, rw (c, d) at h))))
      (λ c. absurd (omega (arith, rw c at h)))

-- ... and so it is that time
pub usual_time : (s : List ℕ) (r : ℕ) → r ≡ usual_millis s → length s ≡ 12 → r < 360000000 → (ctx : TimingCtx)
    → time_in s ctx ≡ Ok (pos (r * 1000))
usual_time s r e twelve h ctx =
    ap (λ (w : List ℕ). time_in w ctx) (usual_written s twelve (rw (← e) h) ∙ ap clock_of_millis (sym e)) ∙ back r (omega arith) ctx

-- ---- marks
pub all_marks : (s : List ℕ) → get_or s 2 0 ≡ 58 → get_or s 5 0 ≡ 58 → get_or s 8 0 ≡ 46
    → (h m n ms r : ℕ) → h ≡ two_at s 0 → m ≡ two_at s 3 → n ≡ two_at s 6 → ms ≡ three_at s 9
    → r ≡ in_millis h m n ms → r ≡ usual_millis s
all_marks s c d p h m n ms r a b e g x =
    rw (eq-eqb (get_or s 2 0) 58 c, eq-eqb (get_or s 5 0) 58 d, eq-eqb (get_or s 8 0) 46 p, ← a, ← b, ← e, ← g) x
