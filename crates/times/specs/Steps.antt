-- Steps of the program, which contracts of inner functions cite. They need not be believed: `proofs/Parts.antt` shows that they make up
-- what `Expressions` says.
use Rattle.std.specs.Prelude.{Option, Some, None, Result, Ok, Err, ℕ, ◌+◌, ◌-◌, ◌*◌, Bool, cond, ◌||◌, List, [], ◌∷◌, get_or, eqb, ltb}
use Rattle.std.specs.Prelude.{ℤ, pos, ◌+ℤ◌, ◌*ℤ◌, Float}
use Rattle.std.specs.Float.{binary64}
use Rattle.std.specs.Float.Ieee.{mul}
use Rattle.scan.specs.Bytes.{digit_byte}
use Rattle.numerals.specs.declared.Whole.{Whole}
use Rattle.times.specs.declared.offset.TimingCtx.{TimingCtx}
use Rattle.times.specs.Sums.{checked, signed}
use Rattle.times.specs.Expressions.{◌>>=◌, tested, time_decimal, truncated, Rate, counted, with_value_of, frame_rate_of}
use Rattle.times.specs.Expressions.{whole, micros, seconds_of, hours_minutes, frames_in}
use Rattle.decimals.specs.declared.read.DecimalError.{DecimalError}
use Rattle.times.specs.declared.offset.TimeError.{TimeError}
use Rattle.decimals.specs.declared.read.Digits.{Digits}

-- a sum of sums, each tested
abbrev pub plus : Option ℤ → Option ℤ → Option ℤ
plus (Some a) (Some b) = checked (a +ℤ b)
plus (Some a) None = None
plus None b = None

-- what a text has no time for, that is no decimal of a time
abbrev pub refused : DecimalError → TimeError
refused DecimalError.Invalid = TimeError.Invalid
refused DecimalError.Beyond = TimeError.Beyond

-- ---- offset times
-- a metric ends in this letter
abbrev pub ends_metric : ℕ → Bool
ends_metric b = eqb b 104 || eqb b 109 || eqb b 115 || eqb b 102 || eqb b 116

abbrev pub each_time : Result Digits DecimalError → Float → Result ℤ TimeError
each_time d u = with_value_of d (λ v. Ok (truncated (mul binary64 v u)))

abbrev pub rate_time : Result Digits DecimalError → Rate → Result ℤ TimeError
rate_time d r = with_value_of d (λ v. counted v r)

-- ---- clock times
abbrev pub number : Whole → ℤ
number w = signed w.negative w.magnitude

-- hours and minutes, by the microseconds of each
abbrev pub in_units : ℤ → ℕ → ℤ → ℕ → Option ℤ
in_units h hour m minute = plus (checked (h *ℤ pos hour)) (checked (m *ℤ pos minute))

-- seconds and a fraction
abbrev pub fractioned : ℤ → List ℕ → Result ℤ TimeError
fractioned n f = do
  u ← micros f
  z ← tested (n *ℤ pos 1000000)
  tested (z +ℤ u)

-- hours, minutes and seconds
abbrev pub summed : ℤ → ℤ → Result ℤ TimeError → Result ℤ TimeError
summed h m s = do
  z ← s
  a ← hours_minutes h m
  tested (a +ℤ z)

-- the parts that are left, after the seconds, the minutes and the hours
abbrev pub after_seconds : ℤ → List (List ℕ) → TimingCtx → Result ℤ TimeError
after_seconds t [] ctx = Ok t
after_seconds t (f ∷ more) ctx = frames_in t (time_decimal f) (frame_rate_of ctx)

abbrev pub after_minutes : ℤ → ℤ → List (List ℕ) → TimingCtx → Result ℤ TimeError
after_minutes h m [] ctx = hours_minutes h m
after_minutes h m (s ∷ more) ctx = do
  t ← summed h m (seconds_of s)
  after_seconds t more ctx

abbrev pub after_hours : ℤ → List (List ℕ) → TimingCtx → Result ℤ TimeError
after_hours h [] ctx = Err TimeError.Invalid
after_hours h (m ∷ more) ctx = do
  y ← whole m
  after_minutes h y more ctx

-- ---- clock times of the usual form
-- a digit's value; past every limit for any other byte
abbrev pub digit_or : ℕ → ℕ
digit_or b = cond (digit_byte b) (b - 48) 1000

-- the number at two places, and at three
abbrev pub two_at : List ℕ → ℕ → ℕ
two_at s i = digit_or (get_or s i 0) * 10 + digit_or (get_or s (i + 1) 0)

abbrev pub three_at : List ℕ → ℕ → ℕ
three_at s i = digit_or (get_or s i 0) * 100 + two_at s (i + 1)

-- 100 hours in milliseconds: said where the text has another form
abbrev pub other : ℕ
other = 360000000

-- so many hours, minutes, seconds and milliseconds, each below its limit
abbrev pub in_millis : (h m s ms : ℕ) → ℕ
in_millis h m s ms =
    cond (ltb h 100) (cond (ltb m 60) (cond (ltb s 60) (cond (ltb ms 1000) (((h * 60 + m) * 60 + s) * 1000 + ms) other) other) other) other

-- the milliseconds that twelve bytes `hh:mm:ss.mmm` say
abbrev pub usual_millis : List ℕ → ℕ
usual_millis s =
    cond (eqb (get_or s 2 0) 58) (cond (eqb (get_or s 5 0) 58) (cond (eqb (get_or s 8 0) 46)
    (in_millis (two_at s 0) (two_at s 3) (two_at s 6) (three_at s 9)) other) other) other
