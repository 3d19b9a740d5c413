-- What the functions on times answer. Definitions alone.
use Rattle.std.specs.Prelude.{Result, Ok, Err, ℕ, Bool, List, [], ◌∷◌, ℤ, Float}
use Rattle.times.specs.declared.offset.TimingCtx.{TimingCtx}
use Rattle.times.specs.Expressions.{number_of}
use Rattle.times.specs.declared.offset.TimeError.{TimeError}

abbrev pub timing : Float → Bool → Float → Bool → TimingCtx
timing frames has-frames ticks has-ticks =
    record { frame_rate = frames; has_frame_rate = has-frames; tick_rate = ticks; has_tick_rate = has-ticks }

-- 1 for a time, else document 01's number
abbrev pub time_code : Result ℤ TimeError → ℕ
time_code (Ok z) = 1
time_code (Err TimeError.Invalid) = number_of (Err TimeError.Invalid)
time_code (Err TimeError.Beyond) = number_of (Err TimeError.Beyond)
time_code (Err TimeError.LongFraction) = number_of (Err TimeError.LongFraction)
time_code (Err TimeError.Overflow) = number_of (Err TimeError.Overflow)

-- its microseconds
abbrev pub time_cells : Result ℤ TimeError → List ℤ
time_cells (Ok z) = z ∷ []
time_cells (Err TimeError.Invalid) = []
time_cells (Err TimeError.Beyond) = []
time_cells (Err TimeError.LongFraction) = []
time_cells (Err TimeError.Overflow) = []
