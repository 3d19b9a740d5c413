-- Document 01's cases on times, texts as times and times as texts, and those of document 02, (d): one table, one computed equation. Assumes
-- nothing.
use Rattle.std.specs.Prelude.{Result, Ok, Err}
use Prim.Native.Nat.{ℕ}
use mathlib.Core.Path.{◌≡◌, refl}
use mathlib.Core.Bool.{true, false}
use mathlib.Core.List.{List, [], ◌∷◌, ◌++◌}
use lib.IntN.{ℤ, pos, negsuc}
use lib.Ieee.{binary64, of_int, mul, div, le, to_signed, round}
use Rattle.scan.specs.Loop.{go, loop}
use Rattle.scan.specs.Marks.{starts_at}
use Rattle.scan.specs.Bytes.{digit_byte, run_length_of}
use Rattle.scan.specs.Names.{same_folded}
use Rattle.utf8.specs.Utf8.{sequence_at, char_at}
use Rattle.utf8.specs.White.{is_white, white_at, white_before, trimmed}
use Rattle.numerals.specs.Numerals.{numeral_of}
use Rattle.numerals.specs.Written.{padded, decimal_width}
use Rattle.decimals.specs.Decimal.{decimal_of}
use Rattle.times.specs.declared.offset.TimingCtx.{TimingCtx}
use Rattle.scan.specs.Text.{ascii}
use Rattle.times.specs.Sums.{checked}
use Rattle.times.specs.Expressions.{float, chars_length, micros_of, `s`, `ms`, offset_time, clock_time, Way, clock, offset, time_by, time_in}
use Rattle.times.specs.Written.{clock_text}
use Rattle.times.specs.declared.offset.TimeError.{TimeError}

-- a document without rates, and one with a frame rate
abbrev bare : TimingCtx
bare = record { frame_rate = float 0; has_frame_rate = false; tick_rate = float 0; has_tick_rate = false }

abbrev rated : ℤ → TimingCtx
rated z = record { frame_rate = of_int binary64 z; has_frame_rate = true; tick_rate = float 0; has_tick_rate = false }

-- a text that is read, or read in one way alone, or a time that is written, and what it gives
pub data Case : Type 0 where
  read : List ℕ → TimingCtx → Result ℤ TimeError → Case
  read_in : Way → List ℕ → TimingCtx → Result ℤ TimeError → Case
  written : ℤ → List ℕ → Case

abbrev outcome : Case → Case
outcome (read s ctx t) = read s ctx (time_in s ctx)
outcome (read_in way s ctx t) = read_in way s ctx (time_by way s ctx)
outcome (written z w) = written z (clock_text z)

abbrev outcomes : List Case → List Case
outcomes [] = []
outcomes (c ∷ cs) = outcome c ∷ outcomes cs

abbrev pub cases : List Case
cases =
    read (ascii "00:05") bare (Ok (pos 300000000))
    ∷ read (ascii "00:00:01.1234567") bare (Ok (pos 1123456))
    ∷ read (ascii "00:00:01.+5") bare (Ok (pos 1050000))
    ∷ read (ascii "00:00:01.5" ++ (0xC3 ∷ 0xA9 ∷ [])) bare (Ok (pos 1000000))  -- é
    ∷ read (ascii "-1s") bare (Ok (negsuc 999999))
    ∷ read (ascii "5f") bare (Err TimeError.Invalid)
    ∷ read (ascii "5f") (rated (pos 0)) (Err TimeError.Invalid)
    ∷ read (ascii "5f") (rated (negsuc 24)) (Err TimeError.Invalid)
    ∷ read (ascii "5f") (rated (pos 25)) (Ok (pos 200000))
    ∷ read (ascii "5") bare (Err TimeError.Invalid)
    -- a clock time ends in no metric
    ∷ read (ascii "0:0:0:s") bare (Err TimeError.Invalid)
    ∷ read (ascii "0:0:0:f") (rated (pos 25)) (Err TimeError.Invalid)
    ∷ read (ascii "0:0:1:5f") (rated (pos 25)) (Err TimeError.Invalid)
    ∷ read (ascii "0:0:0.s") bare (Err TimeError.Invalid)
    ∷ read (ascii "0:0:5.5s") bare (Err TimeError.Invalid)
    ∷ read (ascii "0:0:0:inf") (rated (pos 25)) (Err TimeError.Invalid)
    ∷ read (ascii "0:0:0:x") bare (Ok (pos 0))
    ∷ read (ascii "0:0:0:nan") bare (Err TimeError.Beyond)
    ∷ read (ascii "0:0:0:infinity") bare (Err TimeError.Beyond)
    ∷ read_in clock (ascii "0:0:0:s") bare (Err TimeError.Invalid)
    ∷ read_in clock (ascii "0:0:0:x") bare (Ok (pos 0))
    -- what ends in ms is no count of seconds
    ∷ read (ascii "5ms") bare (Ok (pos 5000))
    ∷ read (ascii "5 ms") bare (Ok (pos 5000))
    ∷ read (ascii "5m s") bare (Err TimeError.Invalid)
    ∷ read_in (offset `s`) (ascii "5ms") bare (Err TimeError.Invalid)
    ∷ read_in (offset `ms`) (ascii "5ms") bare (Ok (pos 5000))
    ∷ written (negsuc 0) (ascii "00:00:00.000")
    ∷ written (pos 1999) (ascii "00:00:00.001")
    ∷ written (pos 9223372036854775807) (ascii "2562047788:00:54.775")
    ∷ []

pub cases_hold : outcomes cases ≡ cases
unfolding time_in offset_time clock_time same_folded trimmed white_at white_before is_white sequence_at char_at loop go digit_byte run_length_of starts_at numeral_of decimal_of chars_length
    micros_of checked mul div le of_int to_signed round clock_text padded decimal_width
cases_hold = refl
