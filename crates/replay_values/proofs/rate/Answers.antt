-- `rate` is safe: a pattern that is no more than the infinity's is no NaN's.
use Prim.Native.Nat.{ℕ, ◌%◌, ◌*◌, ◌^◌, ◌≤◌}
use native.Mathlib.Omega.{arith}
use lib.Dec.{T}
use mathlib.Core.Bool.{not}
use lib.Ieee.{binary64, ones, hid, top, nan_bits}
use lib.Ieee.Bits.{nan_bits_above}
use borrow.Author.Tests.{le-ltb}
use Rattle.replay_values.proofs.rate.Goals as goal

no_nan : (n : ℕ) → n % 2 ^ 63 ≤ 9218868437227405312 → T (not (nan_bits binary64 n))
no_nan n h = rw (nan_bits_above binary64 n, le-ltb (ones binary64 * hid binary64) (n % top binary64) h) tt

pub float_from_bits-result : goal.float_from_bits-result
float_from_bits-result c =
    no_nan _ (omega arith)
