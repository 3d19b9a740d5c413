-- `float` is safe: a pattern that is no more than the infinity's is no NaN's.
use Prim.Native.Nat.{ℕ, ◌%◌, ◌*◌, ◌^◌, ◌≤◌}
use native.Mathlib.Omega.{arith}
use lib.Dec.{T}
use mathlib.Core.Bool.{not}
use lib.Ieee.{binary32, ones, hid, top, nan_bits}
use lib.Ieee.Bits.{nan_bits_above}
use borrow.Author.Tests.{le-ltb}
use Rattle.replay_styles.proofs.fill.float.Goals as goal

no_nan : (n : ℕ) → n % 2 ^ 31 ≤ 2139095040 → T (not (nan_bits binary32 n))
no_nan n h = rw (nan_bits_above binary32 n, le-ltb (ones binary32 * hid binary32) (n % top binary32) h) tt

pub float_from_bits-result : goal.float_from_bits-result
float_from_bits-result c =
    no_nan _ (omega arith)
