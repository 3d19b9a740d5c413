-- The number and the value of what a text is read as. Assumes nothing.
--     reads   the answer that is `decimal_of` has the number and the value that `Reads` says
use Rattle.std.specs.Prelude.{Result, Ok, Err}
use Rattle.std.proofs.Common.{◌≡◌, ℕ, Bool, true, false, cond, not, ◌&&◌, ◌||◌, eqb, leb, List, length, refl}
use mathlib.Core.Option.{none, some}
use Rattle.decimals.specs.declared.read.Digits.{Digits}
use Rattle.decimals.specs.Decimal.{unsigned, all_digits, scale_of, rest_of, is_exponent, is_word, significant, limited, decimal_of}
use Rattle.decimals.specs.Decimal.{number_of, value_of, parses, keeps_limits, digits_of, Reads}
use Rattle.decimals.specs.declared.read.DecimalError.{DecimalError}

-- no digit; a word; nothing behind the digits; an exponent there; within the limits
chosen : Bool → Bool → Bool → Bool → Bool → Digits → Result Digits DecimalError
chosen bare word whole exponent limits d =
    cond bare (cond word (Err DecimalError.Beyond) (Err DecimalError.Invalid)) (cond whole (cond limits (Ok d) (Err DecimalError.Beyond)) (cond exponent (Err DecimalError.Beyond) (Err DecimalError.Invalid)))

chosen_number : (a b c e l : Bool) (d : Digits) → number_of (chosen a b c e l d) ≡ cond (cond a b (c || e) && not (not a && c && l)) 14 0
unfolding chosen
chosen_number true true c e l d = refl
chosen_number true false c e l d = refl
chosen_number false b true e true d = refl
chosen_number false b true e false d = refl
chosen_number false b false true l d = refl
chosen_number false b false false l d = refl

chosen_value : (a b c e l : Bool) (d : Digits) → value_of (chosen a b c e l d) ≡ cond (not a && c && l) (some d) none
unfolding chosen
chosen_value true true c e l d = refl
chosen_value true false c e l d = refl
chosen_value false b true e true d = refl
chosen_value false b true e false d = refl
chosen_value false b false true l d = refl
chosen_value false b false false l d = refl

module _ (s : List ℕ) (digits decimals : ℕ) where
  bare : Bool
  bare = eqb (length (all_digits (unsigned s))) 0

  whole : Bool
  whole = eqb (length (rest_of (unsigned s))) 0

  within : Bool
  within = leb (significant (all_digits (unsigned s))) digits && leb (scale_of (unsigned s)) decimals

  pub reads : (r : Result Digits DecimalError) → r ≡ decimal_of s digits decimals → Reads s digits decimals r
  unfolding chosen bare whole within decimal_of limited parses keeps_limits digits_of
  reads r e = record {
    is = e;
    number = rw e (chosen_number bare (is_word (unsigned s)) whole (is_exponent (rest_of (unsigned s))) within (digits_of s));
    value = rw e (chosen_value bare (is_word (unsigned s)) whole (is_exponent (rest_of (unsigned s))) within (digits_of s));
  }
