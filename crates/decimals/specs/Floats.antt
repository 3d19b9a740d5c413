-- The float that a decimal means. Definitions alone.
use Rattle.std.specs.Prelude.{ℕ, ◌^◌, Bool, false, ◌&&◌, ℤ, pos, negsuc, ◌==◌, Float}
use Rattle.std.specs.Bool.{beq}
use Rattle.std.specs.Float.{Format, nan, inf, fin}
use Rattle.std.specs.Float.Ieee.{round}

-- digits / 10 ^ scale, with its sign, rounded once to the nearest value of the format (IEEE 754, ties to even): what Rust's parser gives.
-- Document 01, "Times and numbers", makes it by one division: "the digits as a whole number divided once by the power of ten". Within the
-- limits both operands of that division are exact, so the two are the same: that is what the program's contract shows.
abbrev pub value_in_of : Format → Bool → ℕ → ℕ → Float
value_in_of f negative digits scale = round f negative digits (10 ^ scale)

-- the same value, the sign of zero counting; no NaN is the same as another
abbrev pub same_exponent : ℤ → ℤ → Bool
same_exponent (pos a) (pos b) = a == b
same_exponent (pos a) (negsuc b) = false
same_exponent (negsuc a) (pos b) = false
same_exponent (negsuc a) (negsuc b) = a == b

unfoldable pub same_float : Float → Float → Bool
same_float nan y = false
same_float (inf s) nan = false
same_float (inf s) (inf t) = beq s t
same_float (inf s) (fin t n d) = false
same_float (fin s m e) nan = false
same_float (fin s m e) (inf t) = false
same_float (fin s m e) (fin t n d) = beq s t && m == n && same_exponent e d
