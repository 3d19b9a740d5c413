-- Whole numbers, from the documentation of Rust's `from_str_radix` (`parse` is the same at radix 10): "The string is expected to be an
-- optional + (or - of a signed type) sign followed by only digits. Leading and trailing non-digit characters (including whitespace)
-- represent an error." Definitions alone.
use Rattle.std.specs.Prelude.{Option, Some, None, ℕ, ◌+◌, ◌-◌, ◌*◌, Bool, true, false, cond, ◌&&◌, List, [], ◌∷◌, eqb, leb, ltb}
use Rattle.numerals.specs.declared.Whole.{Whole}

-- the value of a digit: 0 to 9, and A to Z or a to z as 10 to 35; 36 for any other byte
unfoldable pub digit_of : ℕ → ℕ
digit_of b =
    cond (leb 48 b && leb b 57) (b - 48) (cond (leb 65 b && leb b 90) (b - 55) (cond (leb 97 b && leb b 122) (b - 87) 36))

-- all bytes are digits of the radix
unfoldable pub digits_only : ℕ → List ℕ → Bool
unfolding digit_of
digits_only radix [] = true
digits_only radix (b ∷ s) = ltb (digit_of b) radix && digits_only radix s

-- the value of digits that follow digits of value v, the most significant first
unfoldable pub value_from : ℕ → ℕ → List ℕ → ℕ
unfolding digit_of
value_from radix v [] = v
value_from radix v (b ∷ s) = value_from radix (v * radix + digit_of b) s

-- the number n, unless it is past the largest
abbrev pub up_to : ℕ → ℕ → Option ℕ
up_to n most = cond (leb n most) (Some n) None

-- one digit or more, and no value past the largest
unfoldable pub unsigned_of : List ℕ → ℕ → ℕ → Option ℕ
unfolding digits_only value_from
unsigned_of [] radix most = None
unsigned_of (b ∷ s) radix most =
    cond (digits_only radix (b ∷ s) && leb (value_from radix 0 (b ∷ s)) most)
    (Some (value_from radix 0 (b ∷ s)))
    None

abbrev pub signed_by_of : Bool → Option ℕ → Option Whole
signed_by_of negative (Some m) = Some (record { negative = negative; magnitude = m })
signed_by_of negative None = None

-- A sign or none, then the digits. A minus is a sign where the type has one, and its least value is one below -most.
unfoldable pub numeral_of : List ℕ → ℕ → ℕ → Bool → Option Whole
unfolding unsigned_of
numeral_of [] radix most minus = None
numeral_of (b ∷ s) radix most minus =
    cond (eqb b 43) (signed_by_of false (unsigned_of s radix most))
    (cond (minus && eqb b 45) (signed_by_of true (unsigned_of s radix (most + 1)))
    (signed_by_of false (unsigned_of (b ∷ s) radix most)))
