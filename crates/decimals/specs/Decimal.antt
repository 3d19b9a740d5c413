-- Decimals: what Rust's float parser takes, and what of it document 01 takes. Definitions alone.
-- The grammar is that of the documentation of Rust's `f64::from_str`, letters in any case:
--     Float  ::= Sign? ( 'inf' | 'infinity' | 'nan' | Number )
--     Number ::= ( Digit+ | Digit+ '.' Digit* | Digit* '.' Digit+ ) Exp?
--     Exp    ::= 'e' Sign? Digit+
use Rattle.std.specs.Prelude.{Result, Ok, Err, ◌≡◌, ℕ, Bool, false, cond, not, ◌&&◌, ◌||◌, ◌==◌, nat_le, nat_lt}
use Rattle.std.specs.Prelude.{List, [], ◌∷◌, ◌++◌, length, take, drop}
use Rattle.std.proofs.Math.Option.{Option, none, some}
use Rattle.scan.specs.Bytes.{digit_byte, run_length_of}
use Rattle.scan.specs.Names.{same_folded}
use Rattle.scan.specs.Text.{ascii}
use Rattle.numerals.specs.Numerals.{value_from}
use Rattle.decimals.specs.declared.read.Digits.{Digits}
use Rattle.decimals.specs.declared.read.DecimalError.{DecimalError}

-- ---- the parts of a number

-- a sign, and the text without it
abbrev pub is_sign : ℕ → Bool
is_sign b = b == 43 || b == 45

unfoldable pub negative : List ℕ → Bool
negative [] = false
negative (b ∷ s) = b == 45

unfoldable pub unsigned : List ℕ → List ℕ
unsigned [] = []
unsigned (b ∷ s) = cond (is_sign b) s (b ∷ s)

-- the digits that s begins with, and what follows them
abbrev pub digits_at : List ℕ → List ℕ
digits_at s = take (run_length_of digit_byte s) s

abbrev pub after_digits : List ℕ → List ℕ
after_digits s = drop (run_length_of digit_byte s) s

-- the digits behind a point, where s begins with one, and what follows them; or none, and s
unfoldable pub fraction : List ℕ → List ℕ
fraction [] = []
fraction (b ∷ s) = cond (b == 46) (digits_at s) []

unfoldable pub after_fraction : List ℕ → List ℕ
after_fraction [] = []
after_fraction (b ∷ s) = cond (b == 46) (after_digits s) (b ∷ s)

-- of a number without its sign: all its digits, how many stand behind the point, and what follows them
abbrev pub all_digits : List ℕ → List ℕ
all_digits s = digits_at s ++ fraction (after_digits s)

abbrev pub scale_of : List ℕ → ℕ
scale_of s = length (fraction (after_digits s))

abbrev pub rest_of : List ℕ → List ℕ
rest_of s = after_fraction (after_digits s)

-- one digit or more, and nothing else
unfoldable pub only_digits : List ℕ → Bool
only_digits s = nat_lt 0 (length s) && run_length_of digit_byte s == length s

-- an exponent, whole
unfoldable pub is_exponent : List ℕ → Bool
unfolding unsigned only_digits
is_exponent [] = false
is_exponent (b ∷ s) = (b == 101 || b == 69) && only_digits (unsigned s)

-- inf, infinity, nan
unfoldable pub is_word : List ℕ → Bool
is_word s =
    same_folded s (ascii "inf") || same_folded s (ascii "infinity") || same_folded s (ascii "nan")

-- ---- document 01, "Times and numbers"

-- "digits after leading zeros": before and behind the point together, zeros at the end counting
unfoldable pub significant : List ℕ → ℕ
significant [] = 0
significant (b ∷ s) = cond (b == 48) (significant s) (length (b ∷ s))

-- a number that keeps the limits is its sign, its digits as a whole number and how many of them stand behind the point; one that does not
-- is beyond them
unfoldable pub limited : Bool → List ℕ → ℕ → ℕ → ℕ → Result Digits DecimalError
unfolding significant
limited minus ds scale digits decimals =
    cond (nat_le (significant ds) digits && nat_le scale decimals)
    (Ok (record { negative = minus; digits = value_from 10 0 ds; scale = scale }))
    (Err DecimalError.Beyond)

-- A text without its sign. `digits` and `decimals` are the limits: 15 and 22 for times and rates, 6 and 10 for sizes. What Rust's parser
-- takes and document 01 does not is (Err DecimalError.Beyond): past the limits, an exponent, inf, nan (number 14).
unfoldable pub unsigned_decimal : Bool → List ℕ → ℕ → ℕ → Result Digits DecimalError
unfolding fraction after_fraction is_exponent is_word limited
unsigned_decimal minus s digits decimals =
    cond (length (all_digits s) == 0)
    (cond (is_word s) (Err DecimalError.Beyond) (Err DecimalError.Invalid))
    (cond (length (rest_of s) == 0)
    (limited minus (all_digits s) (scale_of s) digits decimals)
    (cond (is_exponent (rest_of s)) (Err DecimalError.Beyond) (Err DecimalError.Invalid)))

-- the decimal that the whole text spells
unfoldable pub decimal_of : List ℕ → ℕ → ℕ → Result Digits DecimalError
unfolding negative unsigned unsigned_decimal
decimal_of s digits decimals = unsigned_decimal (negative s) (unsigned s) digits decimals

-- ---- each answer's number and value

-- document 01's number for each answer, 0 where it has none, and the decimal, where there is one
abbrev pub number_of : Result Digits DecimalError → ℕ
number_of (Ok d) = 0
number_of (Err DecimalError.Invalid) = 0
number_of (Err DecimalError.Beyond) = 14

abbrev pub value_of : Result Digits DecimalError → Option Digits
value_of (Ok d) = some d
value_of (Err DecimalError.Invalid) = none
value_of (Err DecimalError.Beyond) = none

-- Rust's parser takes the text
unfoldable pub parses : List ℕ → Bool
unfolding unsigned fraction after_fraction is_word is_exponent
parses s =
    cond (length (all_digits (unsigned s)) == 0)
    (is_word (unsigned s))
    (length (rest_of (unsigned s)) == 0 || is_exponent (rest_of (unsigned s)))

-- it is a decimal, and keeps the limits
unfoldable pub keeps_limits : List ℕ → ℕ → ℕ → Bool
unfolding unsigned fraction after_fraction significant
keeps_limits s digits decimals =
    not (length (all_digits (unsigned s)) == 0) && length (rest_of (unsigned s)) == 0
    && (nat_le (significant (all_digits (unsigned s))) digits && nat_le (scale_of (unsigned s)) decimals)

-- its sign, its digits as a whole number, and how many of them stand behind the point
unfoldable pub digits_of : List ℕ → Digits
unfolding negative unsigned fraction
digits_of s = record { negative = negative s; digits = value_from 10 0 (all_digits (unsigned s)); scale = scale_of (unsigned s) }

-- What `read_decimal` ensures: number 14 exactly where Rust's parser takes the text and the limits do not, and a decimal exactly where they do.
pub record Reads (s : List ℕ) (digits decimals : ℕ) (r : Result Digits DecimalError) : Type 0 where
  pub is : r ≡ decimal_of s digits decimals
  pub number : number_of r ≡ cond (parses s && not (keeps_limits s digits decimals)) 14 0
  pub value : value_of r ≡ cond (keeps_limits s digits decimals) (some (digits_of s)) none
