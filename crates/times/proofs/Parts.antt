-- Laws of time expressions, one for each way through the code: the parts between colons, the point, and the metric at the end. Assumes nothing.
use Rattle.std.specs.Prelude.{Option, Some, None, Result, Ok, Err}
use Prim.Native.Nat.{ℕ, ◌+◌, ◌-◌, ◌≤◌, ◌<◌}
use mathlib.Core.Path.{◌≡◌, refl, sym, ◌∙◌}
use mathlib.Core.Bool.{Bool, true, false, cond, ◌||◌, true≢false}
use mathlib.Core.List.{List, [], ◌∷◌}
use native.Mathlib.Omega.{arith}
use lib.Dec.{eqb, ltb}
use lib.IntN.{ℤ, pos, ◌+ℤ◌, ◌*ℤ◌}
use lib.ListN.{length, get_or, take, drop, length-drop}
use lib.Seq.{take_all, length-take-le, get_or-take}
use borrow.Author.Tests.{ltb-true, ltb-false, lt-ltb, eqb-true, eqb-false, eq-eqb, ne_eqb}
use Rattle.scan.proofs.Every.{by-test}
use Rattle.scan.specs.Bytes.{other}
use Rattle.scan.specs.Marks.{starts_at}
use Rattle.scan.specs.Posts.{Ends}
use Rattle.scan.specs.Split.{split_at}
use Rattle.scan.proofs.Searches.{mark_not, mark_beyond}
use Rattle.scan.proofs.Splits.{split_more, split_last, once_more, once-none}
use Rattle.scan.specs.Part.{part}
use Rattle.utf8.specs.White.{Trimmed, trimmed}
use Rattle.times.specs.declared.offset.TimingCtx.{TimingCtx}
use Rattle.times.specs.Expressions as spec
use Rattle.times.specs.Expressions.{◌>>=◌, ◌else◌, time_of, time_decimal, frame_rate_of, tick_rate_of, float, offset_time, integer, whole_in, tested}
use Rattle.times.specs.Expressions.{seconds_of, frames_in, clock_of, clock_time, time_in}
use Rattle.times.proofs.Counts.{no_count}
use Rattle.times.specs.Steps.{plus, ends_metric, each_time, rate_time, fractioned, summed, after_seconds, after_minutes, after_hours}
use Rattle.decimals.specs.declared.read.DecimalError.{DecimalError}
use Rattle.times.specs.declared.offset.TimeError.{TimeError}
use Rattle.numerals.specs.declared.Whole.{Whole}
use Rattle.decimals.specs.declared.read.Digits.{Digits}

-- ---- going on
then_is : (t : Result ℤ TimeError) → (t >>= λ z. Ok z) ≡ t
then_is (Ok z) = refl
then_is (Err TimeError.Invalid) = refl
then_is (Err TimeError.Beyond) = refl
then_is (Err TimeError.LongFraction) = refl
then_is (Err TimeError.Overflow) = refl

then_then : (t : Result ℤ TimeError) (f g : ℤ → Result ℤ TimeError) → ((t >>= f) >>= g) ≡ (t >>= λ z. f z >>= g)
then_then (Ok z) f g = refl
then_then (Err TimeError.Invalid) f g = refl
then_then (Err TimeError.Beyond) f g = refl
then_then (Err TimeError.LongFraction) f g = refl
then_then (Err TimeError.Overflow) f g = refl

pub else_nothing : (t : Result ℤ TimeError) → (t else (Err TimeError.Invalid)) ≡ t
else_nothing (Ok z) = refl
else_nothing (Err TimeError.Invalid) = refl
else_nothing (Err TimeError.Beyond) = refl
else_nothing (Err TimeError.LongFraction) = refl
else_nothing (Err TimeError.Overflow) = refl

-- an answer that has no value is kept
then_err : (x : TimeError) (f : ℤ → Result ℤ TimeError) → (Err x >>= f) ≡ Err x
then_err TimeError.Invalid f = refl
then_err TimeError.Beyond f = refl
then_err TimeError.LongFraction f = refl
then_err TimeError.Overflow f = refl

pub no_number : (n : Option Whole) → ((w : Whole) → n ≡ Some w → ⊥) → n ≡ None
no_number (Some w) h = absurd (h w refl)
no_number None h = refl

-- the program's sums of sums
pub plus-then : (a b : Option ℤ) → time_of (plus a b) ≡ (time_of a >>= λ x. time_of b >>= λ y. tested (x +ℤ y))
plus-then (Some x) (Some y) = refl
plus-then (Some x) None = refl
plus-then None b = refl

-- what follows a place, as the program's `&s[k..]` has it
pub rest_of : (s : List ℕ) (k : ℕ) → take (length s - k) (drop k s) ≡ drop k s
rest_of s k = take_all (length s - k) (drop k s) (simp length-drop (omega arith))

-- ---- a text up to a byte, and behind it
module _ (b : ℕ) (s : List ℕ) (r : ℕ) (e : Ends (other b) s 0 r) where
  pub first-length : r ≡ length (take r s)
  first-length = sym (length-take-le r s e.within)

  first-whole : length s ≤ r → take r s ≡ s
  first-whole h = take_all r s h

  parts_more : r < length s → split_at b s ≡ take r s ∷ split_at b (drop (r + 1) s)
  parts_more h = rw e.is (split_more b s (omega (arith, e.is)))

  parts_last : length s ≤ r → split_at b s ≡ take r s ∷ []
  parts_last h = rw (first-whole h) (split_last b s (omega (arith, e.is)))

-- ---- the parts of a clock time
no_parts : (n : Option Whole) → (Err TimeError.Invalid) ≡ (whole_in n >>= λ x. (Err TimeError.Invalid))
no_parts (Some w) = refl
no_parts None = refl

summed-then : (x y : ℤ) (s : Result ℤ TimeError) (g : ℤ → Result ℤ TimeError) → (s >>= λ z. spec.hours_minutes x y >>= λ a. tested (a +ℤ z) >>= g) ≡ (summed x y s >>= g)
summed-then x y s g =
    sym (then_then s (λ z. spec.hours_minutes x y >>= λ a. tested (a +ℤ z)) g
    ∙ (λ i. s >>= λ z. then_then (spec.hours_minutes x y) (λ a. tested (a +ℤ z)) g i))

-- what the steps of the program make up
pub by_steps : (h : List ℕ) (ps : List (List ℕ)) (ctx : TimingCtx) → clock_of (h ∷ ps) ctx ≡ (whole_in (integer h) >>= λ x. after_hours x ps ctx)
by_steps h [] ctx = no_parts (integer h)
by_steps h (m ∷ []) ctx = refl
by_steps h (m ∷ s ∷ []) ctx = λ i. whole_in (integer h) >>= λ x. whole_in (integer m) >>= λ y. sym (then_is (summed x y (seconds_of s))) i
by_steps h (m ∷ s ∷ f ∷ ps) ctx =
    λ i. whole_in (integer h) >>= λ x. whole_in (integer m) >>= λ y.
    summed-then x y (seconds_of s) (λ t. frames_in t (time_decimal f) (frame_rate_of ctx)) i

module _ (s : List ℕ) (r : ℕ) (e : Ends (other 58) s 0 r) (ctx : TimingCtx) where
  pub frames_first : (t : ℤ) → after_seconds t (split_at 58 s) ctx ≡ frames_in t (time_decimal (take r s)) (frame_rate_of ctx)
  frames_first t =
      by-test (ltb r (length s))
      (λ w. rw (parts_more 58 s r e (ltb-true r (length s) w)))
      (λ w. rw (parts_last 58 s r e (ltb-false r (length s) w)))

  module _ (h m : ℤ) where
    pub seconds_last : length s ≤ r → after_minutes h m (split_at 58 s) ctx ≡ summed h m (seconds_of (take r s))
    seconds_last l = rw (parts_last 58 s r e l) (then_is (summed h m (seconds_of (take r s))))

    pub seconds_more :
        r < length s → after_minutes h m (split_at 58 s) ctx ≡
        (summed h m (seconds_of (take r s)) >>= λ t. after_seconds t (split_at 58 (drop (r + 1) s)) ctx)
    seconds_more l = rw (parts_more 58 s r e l)

    pub seconds_err : (x : TimeError) → summed h m (seconds_of (take r s)) ≡ Err x → after_minutes h m (split_at 58 s) ctx ≡ Err x
    seconds_err x f =
        by-test (ltb r (length s)) (λ w. seconds_more (ltb-true r (length s) w) ∙ rw f (then_err x _))
        (λ w. seconds_last (ltb-false r (length s) w) ∙ f)

  module _ (h : ℤ) where
    pub minutes_last : length s ≤ r → after_hours h (split_at 58 s) ctx ≡ (whole_in (integer (take r s)) >>= λ y. spec.hours_minutes h y)
    minutes_last l = rw (parts_last 58 s r e l)

    pub minutes_more :
        r < length s → after_hours h (split_at 58 s) ctx ≡ (whole_in (integer (take r s)) >>= λ y. after_minutes h y (split_at 58 (drop (r + 1) s)) ctx)
    minutes_more l = rw (parts_more 58 s r e l)

  pub hours_last : length s ≤ r → clock_time s ctx ≡ Err TimeError.Invalid
  unfolding clock_time
  hours_last l = rw (parts_last 58 s r e l)

  pub hours_more : r < length s → clock_time s ctx ≡ (whole_in (integer (take r s)) >>= λ x. after_hours x (split_at 58 (drop (r + 1) s)) ctx)
  unfolding clock_time
  hours_more l = rw (parts_more 58 s r e l) (by_steps (take r s) (split_at 58 (drop (r + 1) s)) ctx)

-- what is no number is no time
module _ (s : List ℕ) (r : ℕ) (e : Ends (other 58) s 0 r) (ctx : TimingCtx) (i : Option Whole) (d : i ≡ integer (take r s)) (n : i ≡ None) where
  none : integer (take r s) ≡ None
  none = sym d ∙ n

  pub minutes_none : (h : ℤ) → (Err TimeError.Invalid) ≡ after_hours h (split_at 58 s) ctx
  minutes_none h =
      by-test (ltb r (length s))
      (λ w. sym (minutes_more s r e ctx h (ltb-true r (length s) w) ∙ rw none))
      (λ w. sym (minutes_last s r e ctx h (ltb-false r (length s) w) ∙ rw none))

  pub hours_none : r < length s → (Err TimeError.Invalid) ≡ clock_time s ctx
  hours_none l = sym (hours_more s r e ctx l ∙ rw none)

-- ---- seconds, by the point
module _ (s : List ℕ) (r : ℕ) (e : Ends (other 46) s 0 r) where
  pub point_none : length s ≤ r → seconds_of s ≡ (whole_in (integer (take r s)) >>= λ n. tested (n *ℤ pos 1000000))
  unfolding seconds_of
  point_none h = rw (once-none 46 s (omega (arith, e.is)), first-whole 46 s r e h)

  pub point_here : r < length s → seconds_of s ≡ (whole_in (integer (take r s)) >>= λ n. fractioned n (drop (r + 1) s))
  unfolding seconds_of
  point_here h = rw (once_more 46 s (omega (arith, e.is)), ← e.is)

  pub point_nothing : (i : Option Whole) → i ≡ integer (take r s) → i ≡ None → (Err TimeError.Invalid) ≡ seconds_of s
  point_nothing i d n =
      let none : integer (take r s) ≡ None = sym d ∙ n in
      by-test (ltb r (length s))
      (λ w. sym (point_here (ltb-true r (length s) w) ∙ rw none))
      (λ w. sym (point_none (ltb-false r (length s) w) ∙ rw none))

-- ---- the metric at the end
abbrev ms : List ℕ
ms = 109 ∷ 115 ∷ []

module _ (s : List ℕ) (some : 0 < length s) where
  last_is : (b : ℕ) → starts_at s (length s - 1) (b ∷ []) ≡ eqb (get_or s (length s - 1) 0) b
  unfolding starts_at
  last_is b =
      let l : length s - 1 < length s = omega arith in
      rw (lt-ltb (length s - 1) (length s) l) (by (eqb (get_or s (length s - 1) 0) b))
    where
      by : (t : Bool) → cond t true false ≡ t
      by true = refl
      by false = refl

  ends-ms : 1 < length s → get_or s (length s - 2) 0 ≡ 109 → get_or s (length s - 1) 0 ≡ 115 → starts_at s (length s - 2) ms ≡ true
  unfolding starts_at
  ends-ms h m e =
      let l : length s - 2 < length s = omega arith in
      let z : length s - 2 + 1 ≡ length s - 1 = omega arith in
      let g : length s - 1 < length s = omega arith in
      rw (lt-ltb (length s - 2) (length s) l, m, z, lt-ltb (length s - 1) (length s) g, e)

  not_ms : ((1 < length s) → (get_or s (length s - 2) 0 ≡ 109) → (get_or s (length s - 1) 0 ≡ 115) → ⊥) → starts_at s (length s - 2) ms ≡ false
  not_ms n =
      by-test (ltb 1 (length s))
      (λ w.
      let h = ltb-true 1 (length s) w in
      let z : length s - 2 + 1 ≡ length s - 1 = omega arith in
      let o : length s - 2 + 0 ≡ length s - 2 = omega arith in
      by-test (eqb (get_or s (length s - 2) 0) 109)
      (λ u. mark_not s ms (length s - 2) 1 (omega arith) (λ e. n h (eqb-true (get_or s (length s - 2) 0) 109 u) (rw z at e)))
      (λ u. mark_not s ms (length s - 2) 0 (omega arith) (λ e. eqb-false (get_or s (length s - 2) 0) 109 u (rw o at e))))
      (λ w. let h = ltb-false 1 (length s) w in mark_beyond s ms (length s - 2) 1 (omega arith) (omega arith))

  abbrev count : ℕ → Result Digits DecimalError
  count n = time_decimal (trimmed (take n s))

  module _ (ctx : TimingCtx) where
    -- what the seven ways say, by the last byte, and by whether an m stands before it
    abbrev by_last_lem : Bool → ℕ → Result ℤ TimeError
    by_last_lem t b =
        cond (eqb b 104 || (eqb b 109 || (eqb b 115 || (t || (eqb b 102 || (eqb b 116 || false)))))) (Err TimeError.Invalid) (clock_time s ctx)
        else cond (eqb b 104) (offset_time (take (length s - 1) s) spec.`h` ctx) (Err TimeError.Invalid)
        else cond (eqb b 109) (offset_time (take (length s - 1) s) spec.`m` ctx) (Err TimeError.Invalid)
        else cond (eqb b 115) (offset_time (take (length s - 1) s) spec.`s` ctx) (Err TimeError.Invalid)
        else cond t (offset_time (take (length s - 2) s) spec.`ms` ctx) (Err TimeError.Invalid)
        else cond (eqb b 102) (offset_time (take (length s - 1) s) spec.`f` ctx) (Err TimeError.Invalid)
        else cond (eqb b 116) (offset_time (take (length s - 1) s) spec.`t` ctx) (Err TimeError.Invalid)
        else (Err TimeError.Invalid)

    by_last : spec.expression s ctx ≡ by_last_lem (starts_at s (length s - 2) ms) (get_or s (length s - 1) 0)
    unfolding spec.expression
    by_last = rw (last_is 104, last_is 109, last_is 115, last_is 102, last_is 116)

    module _ (is-s : get_or s (length s - 1) 0 ≡ 115) where
      pub metric_ms : 1 < length s → get_or s (length s - 1 - 1) 0 ≡ 109 → spec.expression s ctx ≡ each_time (count (length s - 1 - 1)) (float 1000)
      unfolding offset_time
      metric_ms h e =
          let z : length s - 1 - 1 ≡ length s - 2 = omega arith in
          let l : length (take (length s - 1) s) ≡ length s - 1 = length-take-le (length s - 1) s (omega arith) in
          let m : get_or (take (length s - 1) s) (length s - 2) 0 ≡ 109 = get_or-take (length s - 1) s (length s - 2) 0 (omega arith) ∙ rw (← z) e in
          by_last ∙ rw (ends-ms h (rw z at e) is-s, is-s, z, no_count (take (length s - 1) s) (omega arith) (rw (l, z) m)) (else_nothing _)

      pub metric_s : (1 < length s → get_or s (length s - 1 - 1) 0 ≡ 109 → ⊥) → spec.expression s ctx ≡ each_time (count (length s - 1)) (float 1000000)
      unfolding offset_time
      metric_s n =
          let z : length s - 1 - 1 ≡ length s - 2 = omega arith in
          by_last ∙ rw (not_ms (λ h m e. n h (rw (← z) at m)), is-s) (else_nothing _)

    -- the other metrics
    module _ (b : ℕ) (is_b : get_or s (length s - 1) 0 ≡ b) (not-s : b ≡ 115 → ⊥) where
      by_byte : spec.expression s ctx ≡ by_last_lem false b
      by_byte = by_last ∙ rw (not_ms (λ h m e. not-s (sym is_b ∙ e)), is_b)

    pub metric_m : get_or s (length s - 1) 0 ≡ 109 → spec.expression s ctx ≡ each_time (count (length s - 1)) (float 60000000)
    unfolding offset_time
    metric_m e = by_byte 109 e (λ z. omega arith) ∙ else_nothing _

    pub metric_h : get_or s (length s - 1) 0 ≡ 104 → spec.expression s ctx ≡ each_time (count (length s - 1)) (float 3600000000)
    unfolding offset_time
    metric_h e = by_byte 104 e (λ z. omega arith) ∙ else_nothing _

    pub metric_f : get_or s (length s - 1) 0 ≡ 102 → spec.expression s ctx ≡ rate_time (count (length s - 1)) (frame_rate_of ctx)
    unfolding offset_time
    metric_f e = by_byte 102 e (λ z. omega arith) ∙ else_nothing _

    pub metric_t : get_or s (length s - 1) 0 ≡ 116 → spec.expression s ctx ≡ rate_time (count (length s - 1)) (tick_rate_of ctx)
    unfolding offset_time
    metric_t e = by_byte 116 e (λ z. omega arith) ∙ else_nothing _

    module _ (b : ℕ) (is_b : get_or s (length s - 1) 0 ≡ b) where
      pub metric_none : (b ≡ 115 → ⊥) → (b ≡ 109 → ⊥) → (b ≡ 104 → ⊥) → (b ≡ 102 → ⊥) → (b ≡ 116 → ⊥) → spec.expression s ctx ≡ clock_time s ctx
      metric_none a m h f t =
          by_byte b is_b a ∙ rw (ne_eqb b 115 a, ne_eqb b 109 m, ne_eqb b 104 h, ne_eqb b 102 f, ne_eqb b 116 t) (else_nothing _)

-- the letters that metrics end in, as the program tests them
module _ (b : ℕ) where
  pub ends-none : ends_metric b ≡ false → (b ≡ 115 → ⊥) × (b ≡ 109 → ⊥) × (b ≡ 104 → ⊥) × (b ≡ 102 → ⊥) × (b ≡ 116 → ⊥)
  ends-none n =
      let not_one : (a : ℕ) → ends_metric a ≡ true → b ≡ a → ⊥ = λ a t e. true≢false (sym t ∙ (rw e at n)) in
      (not_one 115 refl, not_one 109 refl, not_one 104 refl, not_one 102 refl, not_one 116 refl)

  pub ends_last : ends_metric b ≡ true → (b ≡ 104 → ⊥) → (b ≡ 109 → ⊥) → (b ≡ 115 → ⊥) → (b ≡ 102 → ⊥) → b ≡ 116
  ends_last t h m a f = eqb-true b 116 (rw (ne_eqb b 104 h, ne_eqb b 109 m, ne_eqb b 115 a, ne_eqb b 102 f) at t)

-- ---- white space around it
module _ (s : List ℕ) (a e : ℕ) (w : Trimmed s a e) (ctx : TimingCtx) where
  trimmed-length : length (trimmed s) ≡ e - a
  trimmed-length = rw (sym w.is) (length-take-le (e - a) (drop a s) (simp length-drop (omega (arith, w.within_text))))

  pub blank-time : e ≤ a → time_in s ctx ≡ Err TimeError.Invalid
  unfolding time_in
  blank-time h = let z : length (trimmed s) ≡ 0 = omega (arith, trimmed-length) in rw (eq-eqb (length (trimmed s)) 0 z)

  pub some_time : a < e → time_in s ctx ≡ spec.expression (part a e s) ctx
  unfolding time_in
  some_time h =
      let z : length (trimmed s) ≡ 0 → ⊥ = λ g. omega (arith, trimmed-length) in
      rw (w.is, ne_eqb (length (trimmed s)) 0 z)

pub ruleset second_parts = (first-length, rest_of, seconds_last, seconds_more, seconds_err)
