-- Whole numbers written in digits. Definitions alone.
use Rattle.std.specs.Prelude.{ℕ, zero, suc, ◌+◌, ◌/◌, ◌%◌, ◌^◌, cond, List, [], ◌∷◌, ◌++◌, ltb}

-- 0 to 9, and the capital letters from 10 on
unfoldable pub digit_char : ℕ → ℕ
digit_char d = cond (ltb d 10) (48 + d) (55 + d)

-- the last w digits of n, the most significant first, zeros in front (Rust's `{:02}` and `{:02X}`, for a number of at most w digits)
unfoldable pub padded : ℕ → ℕ → ℕ → List ℕ
unfolding digit_char
padded radix zero n = []
padded radix (suc w) n = padded radix w (n / radix) ++ (digit_char (n % radix) ∷ [])

-- the least w, from `w` on and among the next k, with n below 10 ^ w
unfoldable pub width_from : ℕ → ℕ → ℕ → ℕ
width_from zero w n = w
width_from (suc k) w n = cond (ltb n (10 ^ w)) w (width_from k (w + 1) n)

-- how many decimal digits n has, 1 or more: a u64 has at most 20
unfoldable pub decimal_width : ℕ → ℕ
unfolding width_from
decimal_width n = width_from 19 1 n
