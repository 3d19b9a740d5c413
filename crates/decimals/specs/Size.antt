-- A size: an f32 beside the spelling that Rust's `{}` prints for it (document 01, "What must change shape"). Definitions alone.
use Rattle.std.specs.Prelude.{ℕ, zero, suc, ◌/◌, ◌%◌, ◌^◌, Bool, false, cond, not, ◌&&◌, ◌||◌, List, [], ◌∷◌, ◌++◌, pos, ◌==◌, nat_le, to_bits, Float}
use Rattle.std.specs.Float.{fin, binary32}
use Rattle.numerals.specs.Written.{padded, decimal_width}
use Rattle.decimals.specs.declared.read.Digits.{Digits}
use Rattle.decimals.specs.declared.size.Size.{Size}
use Rattle.decimals.specs.Floats.{value_in_of, same_float}

-- digits / 10 ^ scale without zeros at the end behind the point: the digits, and how many of them stand behind the point
abbrev pub spelled : Bool → ℕ → ℕ → Digits
spelled negative digits scale = record { negative = negative; digits = digits; scale = scale }

unfoldable pub reduced_from : Bool → ℕ → ℕ → Digits
reduced_from negative digits zero = spelled negative digits zero
reduced_from negative digits (suc k) = cond (digits % 10 == 0) (reduced_from negative (digits / 10) k) (spelled negative digits (suc k))

unfoldable pub reduced : Digits → Digits
unfolding reduced_from
reduced d = reduced_from d.negative d.digits d.scale

-- the size of a decimal: the f32 nearest to it, and its spelling without needless zeros
abbrev pub sized : Digits → Size
sized d = record { value = value_in_of binary32 d.negative d.digits d.scale; negative = d.negative; digits = d.digits; scale = d.scale }

unfoldable pub size_of : Digits → Size
unfolding reduced
size_of d = sized (reduced d)

-- Cells that mean a size (document 01, number 17): a spelling of at most 6 digits, at most 10 of them behind the point, with no zero at the
-- end there, and the f32 that it spells. Within these limits no other spelling has that f32 (`one_spelling`, proofs/OneSpelling), so this one is
-- the shortest that reads back as it, which `{}` prints.
abbrev pub within_size : ℕ → ℕ → Bool
within_size digits scale = nat_le digits 999999 && nat_le scale 10

abbrev pub is_spelling : ℕ → ℕ → Bool
is_spelling digits scale = within_size digits scale && (scale == 0 || not (digits % 10 == 0))

unfoldable pub is_size : Size → Bool
is_size s = is_spelling s.digits s.scale && same_float s.value (value_in_of binary32 s.negative s.digits s.scale)

-- the f32 that a spelling within the limits means, and its 32 bits; 0 past them
unfoldable pub spelled_value : Bool → ℕ → ℕ → Float
spelled_value negative digits scale = cond (within_size digits scale) (value_in_of binary32 negative digits scale) (fin false 0 (pos 0))

unfoldable pub spelled_bits : Bool → ℕ → ℕ → ℕ
unfolding spelled_value
spelled_bits negative digits scale = to_bits binary32 (spelled_value negative digits scale)

-- The bytes that `{}` prints: a minus, the digits before the point, and, where some stand behind it, a point and those.
unfoldable pub spelling : Bool → ℕ → ℕ → List ℕ
spelling negative digits scale =
    cond negative (45 ∷ []) []
    ++ padded 10 (decimal_width (digits / 10 ^ scale)) (digits / 10 ^ scale)
    ++ cond (scale == 0) [] ((46 ∷ []) ++ padded 10 scale (digits % 10 ^ scale))
