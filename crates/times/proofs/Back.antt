-- A time that was written as a clock time is read back as its whole milliseconds. Assumes nothing.
use Rattle.std.specs.Prelude.{Some, Ok}
use Prim.Native.Nat.{ℕ, zero, suc, ◌+◌, ◌-◌, ◌*◌, ◌/◌, ◌%◌, ◌^◌, ◌≤◌, ◌<◌}
use mathlib.Core.Path.{◌≡◌, refl, ap, ◌∙◌}
use mathlib.Core.Bool.{true, false}
use mathlib.Core.List.{List, [], ◌∷◌, ◌++◌, append_assoc}
use native.Mathlib.Omega.{arith}
use native.Mathlib.Nat.{le-max_left, le-max_right, pow-le-pow_right}
use lib.IntN.{ℤ, pos, negsuc, ◌+ℤ◌}
use lib.Signed.{mag}
use lib.ListN.{length, get_or, take, replicate, length-append}
use lib.Seq.{take_all, take-append-add}
use borrow.Author.Tests.{eq-eqb, ne_eqb, le-ltb}
use Rattle.scan.specs.Split.{split_at, halves, split_once}
use Rattle.utf8.specs.White.{white_at, white_before, trimmed}
use Rattle.utf8.specs.Utf8.{char_at}
use Rattle.utf8.proofs.Utf8Laws.{sequence-ascii}
use Rattle.utf8.proofs.WhiteLaws.{is_white-visible, white_at-other, ends_with_on, ends_with_out, trimmed-all}
use Rattle.numerals.specs.Numerals.{digit_of, digits_only, value_from}
use Rattle.numerals.specs.Written.{padded, decimal_width}
use Rattle.numerals.proofs.Numerals.{value-append, digits_append, numeral_plain}
use Rattle.numerals.proofs.Writing.{padded-byte, padded-length, padded-digits, padded-value, width_fits}
use Rattle.times.specs.declared.offset.TimingCtx.{TimingCtx}
use Rattle.times.specs.Expressions.{◌>>=◌, tested, integer, chars_length, number_in, micros_of, seconds_of, clock_time, time_in}
use Rattle.times.specs.Written.{millis, hours_width, clock_of_millis, clock_text}
use Rattle.times.proofs.Summing.{checked-fits}
use Rattle.times.proofs.Clocks.{clock-length}
use Rattle.times.proofs.Fractions.{low_starts}
use Rattle.times.proofs.Parts.{metric_none}

-- ---- every byte of a text
abbrev Every : (ℕ → Type 0) → List ℕ → Type 0
Every P [] = Unit {0}
Every P (b ∷ s) = P b × Every P s

module _ (P : ℕ → Type 0) where
  every_append : (a b : List ℕ) → Every P a → Every P b → Every P (a ++ b)
  every_append [] b e f = f
  every_append (x ∷ a) b e f = (e.0, every_append a b e.1 f)

  every-at : (s : List ℕ) (k : ℕ) → k < length s → Every P s → P (get_or s k 0)
  every-at [] k h e = absurd (omega arith)
  every-at (b ∷ s) zero h e = e.0
  every-at (b ∷ s) (suc k) h e = every-at s k (omega arith) e.1

  every-from : (s : List ℕ) → ((k : ℕ) → k < length s → P (get_or s k 0)) → Every P s
  every-from [] f = tt
  every-from (b ∷ s) f = (f 0 (omega arith), every-from s (λ k h. f (suc k) (omega arith)))

  every_map : (Q : ℕ → Type 0) → ((b : ℕ) → P b → Q b) → (s : List ℕ) → Every P s → Every Q s
  every_map Q f [] e = tt
  every_map Q f (b ∷ s) e = (f b e.0, every_map Q f s e.1)

abbrev Digit : ℕ → Type 0
Digit b = (48 ≤ b) × (b ≤ 57)

-- a digit, a colon or a point, or the slash between them
abbrev Mark : ℕ → Type 0
Mark b = (46 ≤ b) × (b ≤ 58)

abbrev Not : ℕ → ℕ → Type 0
Not b a = a ≡ b → ⊥

padded-every : (w n : ℕ) → Every Digit (padded 10 w n)
padded-every w n = every-from Digit (padded 10 w n) (λ k h. padded-byte w n k (omega (arith, padded-length 10 w n)))

padded-marks : (w n : ℕ) → Every Mark (padded 10 w n)
padded-marks w n = every_map Digit Mark (λ b d. (omega arith, omega arith)) (padded 10 w n) (padded-every w n)

padded-not : (b w n : ℕ) → (Digit b → ⊥) → Every (Not b) (padded 10 w n)
padded-not b w n h = every_map Digit (Not b) (λ a d e. h (rw e at d)) (padded 10 w n) (padded-every w n)

-- ---- taken apart where the byte stands
module _ (b : ℕ) where
  split_here : (w s : List ℕ) → Every (Not b) w → split_at b (w ++ (b ∷ s)) ≡ w ∷ split_at b s
  unfolding split_at
  split_here [] s e = rw (eq-eqb b b refl)
  split_here (a ∷ w) s e = rw (ne_eqb a b e.0, split_here w s e.1)

  split_whole : (w : List ℕ) → Every (Not b) w → split_at b w ≡ w ∷ []
  unfolding split_at
  split_whole [] e = refl
  split_whole (a ∷ w) e = rw (ne_eqb a b e.0, split_whole w e.1)

  once-here : (w s : List ℕ) → Every (Not b) w → split_once b (w ++ (b ∷ s)) ≡ halves w s
  unfolding split_once
  once-here [] s e = rw (eq-eqb b b refl)
  once-here (a ∷ w) s e = rw (ne_eqb a b e.0, once-here w s e.1)

-- ---- no white space, no metric
module _ (s : List ℕ) (some : 4 ≤ length s) (marks : Every Mark s) where
  visible : (p : ℕ) → p < length s → white_at s p ≡ 0
  unfolding char_at
  visible p h =
      let m : Mark (get_or s p 0) = every-at Mark s p h marks in
      white_at-other s p 1 (sequence-ascii s p h (omega arith)).is (is_white-visible (get_or s p 0) (omega arith) (omega arith))

  not_before : (k : ℕ) → 0 < k → k ≤ 4 → white_at s (length s - k) ≡ k → ⊥
  not_before k h l e = omega (arith, visible (length s - k) (omega arith))

  bare : trimmed s ≡ s
  unfolding white_before
  bare =
      trimmed-all s (omega arith) (visible 0 (omega arith))
      (ends_with_on s (length s) 1 4 (omega arith) (not_before 1 (omega arith) (omega arith))
      ∙ (ends_with_on s (length s) 2 3 (omega arith) (not_before 2 (omega arith) (omega arith))
      ∙ (ends_with_on s (length s) 3 2 (omega arith) (not_before 3 (omega arith) (omega arith))
      ∙ (ends_with_on s (length s) 4 1 (omega arith) (not_before 4 (omega arith) (omega arith))
      ∙ ends_with_out s (length s) 5 0 (omega arith)))))

  clock-alone : (ctx : TimingCtx) → time_in s ctx ≡ clock_time s ctx
  unfolding time_in
  clock-alone ctx =
      let m : Mark (get_or s (length s - 1) 0) = every-at Mark s (length s - 1) (omega arith) marks in
      rw (bare, ne_eqb (length s) 0 (λ e. omega arith))
      (metric_none s (omega arith) ctx (get_or s (length s - 1) 0) refl
      (λ e. omega arith) (λ e. omega arith) (λ e. omega arith) (λ e. omega arith) (λ e. omega arith))

-- ---- digits read back
whole : (w n : ℕ) → 0 < w → n < 10 ^ w → n < 2 ^ 63 → integer (padded 10 w n) ≡ Some (record { negative = false; magnitude = n })
whole w n h l f =
    let v : value_from 10 0 (padded 10 w n) ≡ n = padded-value 10 (omega arith) (omega arith) w n l in
    numeral_plain 10 (2 ^ 63 - 1) (padded 10 w n) true (omega arith) (omega (arith, padded-length 10 w n))
    (padded-digits 10 (omega arith) (omega arith) w n) (omega arith)
    ∙ ap (λ (m : ℕ). Some (record { negative = false; magnitude = m })) v

chars_ascii : (s : List ℕ) (n : ℕ) → length s ≤ n → Every Digit s → chars_length n s ≡ length s
unfolding chars_length
chars_ascii [] n h e = refl
chars_ascii (b ∷ s) zero h e = absurd (omega arith)
chars_ascii (b ∷ s) (suc n) h e = let d : Digit b = e.0 in rw (low_starts b (omega arith), chars_ascii s n (omega arith) e.1)

-- three digits are so many thousand microseconds
module _ (f : ℕ) (few : f < 1000) where
  zeros : List ℕ
  zeros = 48 ∷ 48 ∷ 48 ∷ []

  thousand : value_from 10 0 (padded 10 3 f ++ zeros) ≡ f * 1000
  unfolding value_from digit_of zeros
  thousand =
      value-append 10 0 (padded 10 3 f) zeros ∙ rw (padded-value 10 (omega arith) (omega arith) 3 f few) (omega arith)

  microseconds : micros_of (take (chars_length 6 (padded 10 3 f)) (padded 10 3 f)) ≡ pos (f * 1000)
  unfolding micros_of zeros digits_only digit_of
  microseconds =
      let l : length (padded 10 3 f) ≡ 3 = padded-length 10 3 f in
      let c : chars_length 6 (padded 10 3 f) ≡ length (padded 10 3 f) = chars_ascii (padded 10 3 f) 6 (omega arith) (padded-every 3 f) in
      let t : take (chars_length 6 (padded 10 3 f)) (padded 10 3 f) ≡ padded 10 3 f =
      take_all (chars_length 6 (padded 10 3 f)) (padded 10 3 f) (omega arith) in
      let six : 6 ≡ length (padded 10 3 f) + 3 = omega arith in
      let u : take 6 (padded 10 3 f ++ replicate 6 48) ≡ padded 10 3 f ++ zeros =
      ap (λ (k : ℕ). take k (padded 10 3 f ++ replicate 6 48)) six ∙ take-append-add (padded 10 3 f) (replicate 6 48) 3 in
      let d : digits_only 10 (padded 10 3 f ++ zeros) ≡ true = digits_append 10 (padded 10 3 f) zeros
      ∙ rw (padded-digits 10 (omega arith) (omega arith) 3 f) in
      let i : integer (padded 10 3 f ++ zeros) ≡ Some (record { negative = false; magnitude = f * 1000 }) =
      numeral_plain 10 (2 ^ 63 - 1) (padded 10 3 f ++ zeros) true (omega arith) (simp length-append (omega arith)) d
      (omega (arith, thousand)) ∙ ap (λ (m : ℕ). Some (record { negative = false; magnitude = m })) thousand in
      ap micros_of t ∙ (ap (λ (w : List ℕ). number_in (integer w)) u ∙ ap number_in i)

sum_is : (a b k : ℕ) → a + b ≡ k → k < 2 ^ 63 → (tested (pos a) >>= λ x. tested (x +ℤ pos b)) ≡ Ok (pos k)
sum_is a b k e h = rw (checked-fits (pos a) (omega arith), e, checked-fits (pos k) h)

sums_are :
    (a b c k : ℕ) → a + b + c ≡ k → k < 2 ^ 63
    → ((tested (pos a) >>= λ x. tested (pos b) >>= λ y. tested (x +ℤ y)) >>= λ z. tested (z +ℤ pos c)) ≡ Ok (pos k)
sums_are a b c k e h =
    rw (checked-fits (pos a) (omega arith), checked-fits (pos b) (omega arith), checked-fits (pos (a + b)) (omega arith), e, checked-fits (pos k) h)

seconds_back : (n f : ℕ) → n < 60 → f < 1000 → seconds_of (padded 10 2 n ++ (46 ∷ padded 10 3 f)) ≡ Ok (pos (n * 1000000 + f * 1000))
unfolding seconds_of
seconds_back n f h l =
    let c : chars_length 6 (padded 10 3 f) ≡ length (padded 10 3 f) =
    chars_ascii (padded 10 3 f) 6 (omega (arith, padded-length 10 3 f)) (padded-every 3 f) in
    let short = le-ltb 6 (chars_length 6 (padded 10 3 f)) (omega (arith, padded-length 10 3 f)) in
    rw (
      once-here 46 (padded 10 2 n) (padded 10 3 f) (padded-not 46 2 n (λ d. omega arith)),
      whole 2 n (omega arith) (omega arith) (omega arith),
      short,
      microseconds f l,
    )
    (sum_is (n * 1000000) (f * 1000) (n * 1000000 + f * 1000) refl (omega arith))

-- ---- the whole clock time
module _ (t : ℕ) (fits : t * 1000 < 2 ^ 63) where
  hours : ℕ
  hours = t / 3600000

  minutes : ℕ
  minutes = t / 60000 % 60

  seconds : ℕ
  seconds = t / 1000 % 60

  text : List ℕ
  text =
      padded 10 (hours_width hours) hours
      ++ (58 ∷ (padded 10 2 minutes ++ (58 ∷ (padded 10 2 seconds ++ (46 ∷ padded 10 3 (t % 1000))))))

  laid_out : clock_of_millis t ≡ text
  unfolding clock_of_millis text hours minutes seconds
  laid_out = simp append_assoc

  marks : Every Mark text
  unfolding text
  marks =
      let d : Every Mark (46 ∷ padded 10 3 (t % 1000)) = ((omega arith, omega arith), padded-marks 3 (t % 1000)) in
      let c : Every Mark (58 ∷ (padded 10 2 seconds ++ (46 ∷ padded 10 3 (t % 1000)))) =
      ((omega arith, omega arith), every_append Mark (padded 10 2 seconds) (46 ∷ padded 10 3 (t % 1000)) (padded-marks 2 seconds) d) in
      let b : Every Mark (58 ∷ (padded 10 2 minutes ++ (58 ∷ (padded 10 2 seconds ++ (46 ∷ padded 10 3 (t % 1000)))))) = (
        (omega arith, omega arith),
        every_append Mark (padded 10 2 minutes) (58 ∷ (padded 10 2 seconds ++ (46 ∷ padded 10 3 (t % 1000))))
            (padded-marks 2 minutes) c,
      ) in
      every_append Mark (padded 10 (hours_width hours) hours)
      (58 ∷ (padded 10 2 minutes ++ (58 ∷ (padded 10 2 seconds ++ (46 ∷ padded 10 3 (t % 1000)))))) (padded-marks (hours_width hours) hours) b

  parts : split_at 58 text ≡ padded 10 (hours_width hours) hours ∷ (padded 10 2 minutes ∷ ((padded 10 2 seconds ++ (46 ∷ padded 10 3 (t % 1000))) ∷ []))
  unfolding text
  parts =
      let d : Every (Not 58) (46 ∷ padded 10 3 (t % 1000)) = ((λ e. omega arith), padded-not 58 3 (t % 1000) (λ d. omega arith)) in
      split_here 58 (padded 10 (hours_width hours) hours) _ (padded-not 58 (hours_width hours) hours (λ d. omega arith))
      ∙ ap (λ (ps : List (List ℕ)). padded 10 (hours_width hours) hours ∷ ps)
      (split_here 58 (padded 10 2 minutes) _ (padded-not 58 2 minutes (λ d. omega arith))
      ∙ ap (λ (ps : List (List ℕ)). padded 10 2 minutes ∷ ps)
      (split_whole 58 _ (every_append (Not 58) (padded 10 2 seconds) (46 ∷ padded 10 3 (t % 1000)) (padded-not 58 2 seconds (λ d. omega arith)) d)))

  hours_fit : hours < 10 ^ hours_width hours
  unfolding hours_width hours
  hours_fit =
      let w : 10 ^ decimal_width (t / 3600000) ≤ 10 ^ hours_width (t / 3600000) =
      pow-le-pow_right (omega arith) (le-max_right 2 (decimal_width (t / 3600000))) in
      omega (arith, width_fits (t / 3600000) (omega arith))

  hours_some : 2 ≤ hours_width hours
  unfolding hours_width
  hours_some = le-max_left 2 (decimal_width hours)

  pub back : (ctx : TimingCtx) → time_in (clock_of_millis t) ctx ≡ Ok (pos (t * 1000))
  unfolding clock_time hours minutes seconds
  back ctx =
      let l : 4 ≤ length text = omega (arith, clock-length t, ap length laid_out) in
      let all : t / 3600000 * 3600000000 + t / 60000 % 60 * 60000000 + (t / 1000 % 60 * 1000000 + t % 1000 * 1000) ≡ t * 1000 = omega arith in
      rw (
        laid_out,
        clock-alone text l marks ctx,
        parts,
        whole (hours_width hours) hours (omega (arith, hours_some)) hours_fit (omega arith),
        whole 2 minutes (omega arith) (omega arith) (omega arith),
        seconds_back seconds (t % 1000) (omega arith) (omega arith),
      )
      (sums_are (t / 3600000 * 3600000000) (t / 60000 % 60 * 60000000) (t / 1000 % 60 * 1000000 + t % 1000 * 1000) (t * 1000) all fits)

pub read_back : (z : ℤ) → mag z < 2 ^ 63 → (ctx : TimingCtx) → time_in (clock_text z) ctx ≡ Ok (pos (millis z * 1000))
unfolding clock_text millis
read_back (pos n) h ctx = back (n / 1000) (omega arith) ctx
read_back (negsuc n) h ctx = back 0 (omega arith) ctx
