-- Time expressions, from TTML 2, 12.3, of which these forms are read:
--     <time-expression> : clock-time | offset-time
--     clock-time        : hours ":" minutes ":" seconds ( fraction | ":" frames ( "." sub-frames )? )?
--     offset-time       : time-count fraction? metric
--     metric            : "h" | "m" | "s" | "ms" | "f" | "t"
-- and the Rust's reading of each, `parse_ttml_time`. docs/DIFFERENCES.md says where the two differ. Definitions alone.
use Rattle.std.specs.Prelude.{Option, Some, None, Result, Ok, Err, ℕ, zero, suc, ◌-◌, ◌^◌, ◌≡◌, ◌↔◌, Bool, true, false, cond, ◌&&◌, ◌||◌}
use Rattle.std.specs.Prelude.{List, [], ◌∷◌, ◌++◌, length, take, replicate, eqb, leb, ltb, ℤ, pos, ◌+ℤ◌, ◌*ℤ◌, Float}
use Rattle.std.specs.Float.{binary64}
use Rattle.std.specs.Float.Ieee.{mul, div, lt, le, of_int, to_signed}
use Rattle.scan.specs.Marks.{starts_at}
use Rattle.scan.specs.Split.{split_at, Halves, halves, no_half, split_once}
use Rattle.utf8.specs.White.{trimmed}
use Rattle.numerals.specs.Numerals.{numeral_of}
use Rattle.decimals.specs.Decimal.{decimal_of}
use Rattle.decimals.specs.Floats.{value_in_of}
use Rattle.times.specs.declared.offset.TimingCtx.{TimingCtx}
use Rattle.scan.specs.Text.{ascii}
use Rattle.times.specs.Sums.{checked, signed}
use Rattle.decimals.specs.declared.read.DecimalError.{DecimalError}
use Rattle.times.specs.declared.offset.TimeError.{TimeError}
use Rattle.numerals.specs.declared.Whole.{Whole}
use Rattle.decimals.specs.declared.read.Digits.{Digits}

-- ---- the answer
-- document 01's number, 0 where none is met, and the values of each case
abbrev pub number_of : Result ℤ TimeError → ℕ
number_of (Ok z) = 0
number_of (Err TimeError.Invalid) = 0
number_of (Err TimeError.Beyond) = 14
number_of (Err TimeError.LongFraction) = 15
number_of (Err TimeError.Overflow) = 16

abbrev pub values_of : Result ℤ TimeError → List ℤ
values_of (Ok z) = z ∷ []
values_of (Err TimeError.Invalid) = []
values_of (Err TimeError.Beyond) = []
values_of (Err TimeError.LongFraction) = []
values_of (Err TimeError.Overflow) = []

abbrev pub Says : Result ℤ TimeError → ℕ → List ℤ → Type 0
Says r n values = (number_of r ≡ n) × (values_of r ≡ values)

-- go on with this value, or keep the answer that has none
infixl 55 ◌>>=◌
abbrev pub ◌>>=◌ : Result ℤ TimeError → (ℤ → Result ℤ TimeError) → Result ℤ TimeError
◌>>=◌ (Ok z) next = next z
◌>>=◌ (Err TimeError.Invalid) next = Err TimeError.Invalid
◌>>=◌ (Err TimeError.Beyond) next = Err TimeError.Beyond
◌>>=◌ (Err TimeError.LongFraction) next = Err TimeError.LongFraction
◌>>=◌ (Err TimeError.Overflow) next = Err TimeError.Overflow

-- a product or a sum of times, if it is an i64
abbrev pub time_of : Option ℤ → Result ℤ TimeError
time_of (Some z) = Ok z
time_of None = Err TimeError.Overflow

abbrev pub tested : ℤ → Result ℤ TimeError
tested z = time_of (checked z)

-- ---- decimals of times
-- at most 15 digits after leading zeros, at most 22 behind the point
abbrev pub time_decimal : List ℕ → Result Digits DecimalError
time_decimal s = decimal_of s 15 22

-- a whole number as a float
abbrev pub float : ℕ → Float
float n = of_int binary64 (pos n)

-- a float of microseconds, cut toward zero
abbrev pub truncated : Float → ℤ
truncated x = to_signed 63 x

-- v / r seconds in microseconds, each operation rounded
abbrev pub at_rate : Float → Float → ℤ
at_rate v r = truncated (mul binary64 (div binary64 v r) (float 1000000))

-- a rate, or none
pub data Rate : Type 0 where
  rate : Float → Rate
  no_rate : Rate

abbrev pub given : Bool → Float → Rate
given present r = cond present (rate r) no_rate

abbrev pub frame_rate_of : TimingCtx → Rate
frame_rate_of ctx = given ctx.has_frame_rate ctx.frame_rate

abbrev pub tick_rate_of : TimingCtx → Rate
tick_rate_of ctx = given ctx.has_tick_rate ctx.tick_rate

-- ---- clock times
-- hours, minutes, seconds: whole numbers, as Rust reads an i64
abbrev pub integer : List ℕ → Option Whole
integer s = numeral_of s 10 (2 ^ 63 - 1) true

abbrev pub whole_in : Option Whole → Result ℤ TimeError
whole_in (Some w) = Ok (signed w.negative w.magnitude)
whole_in None = Err TimeError.Invalid

abbrev pub whole : List ℕ → Result ℤ TimeError
whole s = whole_in (integer s)

-- how many bytes the first n characters of s have; bytes from 0x80 to 0xBF go on with a character
unfoldable pub chars_length : ℕ → List ℕ → ℕ
chars_length n [] = 0
chars_length zero (b ∷ s) = cond (leb 0x80 b && leb b 0xBF) (suc (chars_length zero s)) 0
chars_length (suc n) (b ∷ s) = cond (leb 0x80 b && leb b 0xBF) (suc (chars_length (suc n) s)) (suc (chars_length n s))

-- The first six characters of a fraction, zeros added up to six bytes, as a number of microseconds; 0 where they are no number. A fraction
-- whose first six characters have more than six bytes is where the Rust stops: number 15.
abbrev pub number_in : Option Whole → ℤ
number_in (Some w) = signed w.negative w.magnitude
number_in None = pos 0

unfoldable pub micros_of : List ℕ → ℤ
micros_of w = number_in (integer (take 6 (w ++ replicate 6 48)))

abbrev pub micros : List ℕ → Result ℤ TimeError
micros f = cond (ltb 6 (chars_length 6 f)) (Err TimeError.LongFraction) (Ok (micros_of (take (chars_length 6 f) f)))

-- seconds, without a point or with a fraction behind the first one
abbrev pub seconds_in : List ℕ → Halves → Result ℤ TimeError
seconds_in s no_half = do
  n ← whole s
  tested (n *ℤ pos 1000000)
seconds_in s (halves w f) = do
  n ← whole w
  u ← micros f
  z ← tested (n *ℤ pos 1000000)
  tested (z +ℤ u)

unfoldable pub seconds_of : List ℕ → Result ℤ TimeError
unfolding split_once
seconds_of s = seconds_in s (split_once 46 s)

abbrev pub hours_minutes : ℤ → ℤ → Result ℤ TimeError
hours_minutes h m = do
  x ← tested (h *ℤ pos 3600000000)
  y ← tested (m *ℤ pos 60000000)
  tested (x +ℤ y)

-- Frames are added where there is a rate above 0; what is no decimal adds nothing. White space around them makes them none.
abbrev pub frames_in : ℤ → Result Digits DecimalError → Rate → Result ℤ TimeError
frames_in z (Ok d) (rate r) =
    cond (lt (float 0) r) (tested (z +ℤ at_rate (value_in_of binary64 d.negative d.digits d.scale) r)) (Ok z)
frames_in z (Ok d) no_rate = Ok z
frames_in z (Err DecimalError.Invalid) r = Ok z
frames_in z (Err DecimalError.Beyond) r = Err TimeError.Beyond

-- By the number of parts between colons: fewer than two are no time; hours and minutes; seconds behind them; frames behind those, and parts
-- that are not looked at. What is read is read from left to right, and all of it before any sum but that of the frames.
abbrev pub clock_of : List (List ℕ) → TimingCtx → Result ℤ TimeError
clock_of [] ctx = Err TimeError.Invalid
clock_of (h ∷ []) ctx = Err TimeError.Invalid
clock_of (h ∷ m ∷ []) ctx = do
  x ← whole h
  y ← whole m
  hours_minutes x y
clock_of (h ∷ m ∷ s ∷ []) ctx = do
  x ← whole h
  y ← whole m
  z ← seconds_of s
  a ← hours_minutes x y
  tested (a +ℤ z)
clock_of (h ∷ m ∷ s ∷ f ∷ more) ctx = do
  x ← whole h
  y ← whole m
  z ← seconds_of s
  a ← hours_minutes x y
  t ← tested (a +ℤ z)
  frames_in t (time_decimal f) (frame_rate_of ctx)

unfoldable pub clock_time : List ℕ → TimingCtx → Result ℤ TimeError
unfolding split_at seconds_of
clock_time s ctx = clock_of (split_at 58 s) ctx

-- ---- offset times
-- TTML's metrics, in the order of its text, and how each is written
pub data Metric : Type 0 where
  `h` `m` `s` `ms` `f` `t` : Metric

abbrev pub metrics : List Metric
metrics = `h` ∷ `m` ∷ `s` ∷ `ms` ∷ `f` ∷ `t` ∷ []

abbrev pub letters : Metric → List ℕ
letters `h` = ascii "h"
letters `m` = ascii "m"
letters `s` = ascii "s"
letters `ms` = ascii "ms"
letters `f` = ascii "f"
letters `t` = ascii "t"

-- no time without a rate, or with one at or below 0
abbrev pub counted : Float → Rate → Result ℤ TimeError
counted v (rate r) = cond (le r (float 0)) (Err TimeError.Invalid) (Ok (at_rate v r))
counted v no_rate = Err TimeError.Invalid

-- so many microseconds each; the product is rounded before it is cut
abbrev pub each : ℕ → Float → Result ℤ TimeError
each u v = Ok (truncated (mul binary64 v (float u)))

-- v of a metric
abbrev pub in_metric : Metric → TimingCtx → Float → Result ℤ TimeError
in_metric `h` ctx v = each 3600000000 v
in_metric `m` ctx v = each 60000000 v
in_metric `s` ctx v = each 1000000 v
in_metric `ms` ctx v = each 1000 v
in_metric `f` ctx v = counted v (frame_rate_of ctx)
in_metric `t` ctx v = counted v (tick_rate_of ctx)

-- go on with the value of a decimal
abbrev pub with_value_of : Result Digits DecimalError → (Float → Result ℤ TimeError) → Result ℤ TimeError
with_value_of (Ok d) next = next (value_in_of binary64 d.negative d.digits d.scale)
with_value_of (Err DecimalError.Invalid) next = Err TimeError.Invalid
with_value_of (Err DecimalError.Beyond) next = Err TimeError.Beyond

-- a time-count and its metric; white space may stand around the count
unfoldable pub offset_time : List ℕ → Metric → TimingCtx → Result ℤ TimeError
offset_time n m ctx = with_value_of (time_decimal (trimmed n)) (in_metric m ctx)

-- ---- a time expression
-- The seven ways to be a time, in the order of TTML's text (document 02, (d)): "clock time first, then offset time with the metrics h, m, s,
-- ms, f, t".
pub data Way : Type 0 where
  clock : Way
  offset : Metric → Way

abbrev pub ways : List Way
ways = clock ∷ offset `h` ∷ offset `m` ∷ offset `s` ∷ offset `ms` ∷ offset `f` ∷ offset `t` ∷ []

-- s ends in w; s without so many bytes at its end
abbrev pub ends_in : List ℕ → List ℕ → Bool
ends_in w s = starts_at s (length s - length w) w

abbrev pub without : ℕ → List ℕ → List ℕ
without n s = take (length s - n) s

-- s ends in one of these metrics
abbrev pub ends_in_one : List Metric → List ℕ → Bool
ends_in_one [] s = false
ends_in_one (m ∷ more) s = ends_in (letters m) s || ends_in_one more s

-- What s is in one way, by the rule of that way: no other way is asked, and no order. That it ends in no metric is part of what a clock time
-- is: the Rust comes to its clock rule with no other text. Without this condition `0:0:0:s` would be 0, and `0:0:5.5s` 5 s.
abbrev pub time_by : Way → List ℕ → TimingCtx → Result ℤ TimeError
time_by clock s ctx = cond (ends_in_one metrics s) (Err TimeError.Invalid) (clock_time s ctx)
time_by (offset m) s ctx = cond (ends_in (letters m) s) (offset_time (without (length (letters m)) s) m ctx) (Err TimeError.Invalid)

-- the first answer; where that is no time, the second
infixr 50 ◌else◌
abbrev pub ◌else◌ : Result ℤ TimeError → Result ℤ TimeError → Result ℤ TimeError
(Err TimeError.Invalid) else u = u
Ok z else u = Ok z
(Err TimeError.Beyond) else u = Err TimeError.Beyond
(Err TimeError.LongFraction) else u = Err TimeError.LongFraction
(Err TimeError.Overflow) else u = Err TimeError.Overflow

-- the answer of the first of these ways that gives one, a time or a number
abbrev pub first_of : List Way → List ℕ → TimingCtx → Result ℤ TimeError
first_of [] s ctx = Err TimeError.Invalid
first_of (way ∷ more) s ctx = time_by way s ctx else first_of more s ctx

-- a time expression: the ways tried in their order, each going on to the next where it gives no time
unfoldable pub expression : List ℕ → TimingCtx → Result ℤ TimeError
unfolding offset_time clock_time
expression s ctx = first_of ways s ctx

-- white space around the whole is passed over, and nothing else is no time (the Rust's `parse_ttml_time`)
unfoldable pub time_in : List ℕ → TimingCtx → Result ℤ TimeError
unfolding expression
time_in s ctx = cond (eqb (length (trimmed s)) 0) (Err TimeError.Invalid) (expression (trimmed s) ctx)

-- What `parse_ttml_time` promises of its answer r, t being the time of the text: it says a time exactly if the text is that time, no time
-- exactly if it is none, and a number exactly if that is the one met.
pub record ReadsTime (t r : Result ℤ TimeError) : Type 0 where
  pub is : r ≡ t
  pub time : (z : ℤ) → Says r 0 (z ∷ []) ↔ (t ≡ Ok z)
  pub none : Says r 0 [] ↔ (t ≡ (Err TimeError.Invalid))
  pub beyond : Says r 14 [] ↔ (t ≡ (Err TimeError.Beyond))
  pub long_fraction : Says r 15 [] ↔ (t ≡ (Err TimeError.LongFraction))
  pub overflow : Says r 16 [] ↔ (t ≡ (Err TimeError.Overflow))

-- ---- one way for each time (document 02, (d))
-- s, without the white space around it, is t in this way: a time, or the number that it meets
abbrev pub TimeBy : Way → List ℕ → TimingCtx → Result ℤ TimeError → Type 0
TimeBy way s ctx t = (time_by way (trimmed s) ctx ≡ t) × ¬ (t ≡ (Err TimeError.Invalid))

-- "Every answer is as it was": the order of trial before the change, which is the Rust's. The first of these metrics that s ends in decides,
-- also where its count is no decimal; a clock time is what ends in none.
abbrev pub by_first_metric : List Metric → List ℕ → TimingCtx → Result ℤ TimeError
by_first_metric [] s ctx = clock_time s ctx
by_first_metric (m ∷ more) s ctx =
    cond (ends_in (letters m) s) (offset_time (without (length (letters m)) s) m ctx) (by_first_metric more s ctx)

abbrev pub in_rusts_order : List ℕ → TimingCtx → Result ℤ TimeError
in_rusts_order s ctx =
    cond (eqb (length (trimmed s)) 0) (Err TimeError.Invalid) (by_first_metric (`ms` ∷ `s` ∷ `m` ∷ `h` ∷ `f` ∷ `t` ∷ []) (trimmed s) ctx)
