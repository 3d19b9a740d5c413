-- Sums and products of times, tested for overflow (document 01, number 16: "An i64 product or sum of times overflows"). Definitions alone.
use Rattle.std.specs.Prelude.{Option, Some, None, ℕ, ◌^◌, ◌≡◌, ◌↔◌, List, [], ◌∷◌, Bool, true, false, cond, ℤ, pos, negsuc, neg_ℤ, ◌+ℤ◌, ltb}

-- an i64: from -2 ^ 63 to 2 ^ 63 - 1
unfoldable pub is_i64 : ℤ → Bool
is_i64 (pos n) = ltb n (2 ^ 63)
is_i64 (negsuc n) = ltb n (2 ^ 63)

unfoldable pub checked : ℤ → Option ℤ
unfolding is_i64
checked z = cond (is_i64 z) (Some z) None

-- the number of a sign and a magnitude
abbrev pub signed : Bool → ℕ → ℤ
signed negative n = cond negative (neg_ℤ (pos n)) (pos n)

-- ---- the answer
-- document 01's number, 0 where none is met, and the values of each case
abbrev pub sum_number : Option ℤ → ℕ
sum_number (Some z) = 0
sum_number None = 16

abbrev pub sum_values : Option ℤ → List ℤ
sum_values (Some z) = z ∷ []
sum_values None = []

abbrev pub SumSays : Option ℤ → ℕ → List ℤ → Type 0
SumSays r n values = (sum_number r ≡ n) × (sum_values r ≡ values)

-- What `add` promises: it says z exactly if z is the sum and an i64, and 16 exactly if the sum is none.
pub record Adds (a b : ℤ) (r : Option ℤ) : Type 0 where
  pub is : r ≡ checked (a +ℤ b)
  pub sum : (z : ℤ) → SumSays r 0 (z ∷ []) ↔ ((z ≡ a +ℤ b) × (is_i64 z ≡ true))
  pub overflow : SumSays r 16 [] ↔ (is_i64 (a +ℤ b) ≡ false)
