-- What is answered says its number and its values, and nothing else does. Assumes nothing.
use Rattle.std.specs.Prelude.{Option, Some, None, Result, Ok, Err}
use Prim.Native.Nat.{ℕ}
use mathlib.Core.Path.{◌≡◌, refl, sym, ap, ◌∙◌}
use mathlib.Core.Bool.{Bool, true, false, cond}
use mathlib.Core.List.{List, [], ◌∷◌}
use native.Mathlib.Omega.{arith}
use lib.IntN.{ℤ, ◌+ℤ◌}
use Rattle.times.specs.Sums.{is_i64, checked, sum_number, sum_values, SumSays, Adds}
use Rattle.times.specs.Expressions.{number_of, values_of, Says, ReadsTime}
use Rattle.times.specs.declared.offset.TimeError.{TimeError}

one_value : {y z : ℤ} → (y ∷ []) ≡ (z ∷ []) → y ≡ z
one_value e = cc

no_value : {A : Type 0} {z : ℤ} → ◌≡◌ {A = List ℤ} [] (z ∷ []) → A
no_value e = absurd (let z : ◌≡◌ {A = ℕ} 0 1 = cc in omega arith)

-- ---- times
said : {t u : Result ℤ TimeError} {n : ℕ} {v : List ℤ} → Says u n v → t ≡ u → Says t n v
said (a, b) e = (ap number_of e ∙ a, ap values_of e ∙ b)

says-time : (t : Result ℤ TimeError) (z : ℤ) → Says t 0 (z ∷ []) → t ≡ Ok z
says-time (Ok y) z s = ap Ok (one_value s.1)
says-time (Err TimeError.Invalid) z s = no_value s.1
says-time (Err TimeError.Beyond) z s = no_value s.1
says-time (Err TimeError.LongFraction) z s = no_value s.1
says-time (Err TimeError.Overflow) z s = no_value s.1

says_none : (t : Result ℤ TimeError) → Says t 0 [] → t ≡ Err TimeError.Invalid
says_none (Ok y) s = no_value (sym s.1)
says_none (Err TimeError.Invalid) s = refl
says_none (Err TimeError.Beyond) s = absurd (omega (arith, s.0))
says_none (Err TimeError.LongFraction) s = absurd (omega (arith, s.0))
says_none (Err TimeError.Overflow) s = absurd (omega (arith, s.0))

says-beyond : (t : Result ℤ TimeError) → Says t 14 [] → t ≡ Err TimeError.Beyond
says-beyond (Ok y) s = no_value (sym s.1)
says-beyond (Err TimeError.Invalid) s = absurd (omega (arith, s.0))
says-beyond (Err TimeError.Beyond) s = refl
says-beyond (Err TimeError.LongFraction) s = absurd (omega (arith, s.0))
says-beyond (Err TimeError.Overflow) s = absurd (omega (arith, s.0))

says-long : (t : Result ℤ TimeError) → Says t 15 [] → t ≡ Err TimeError.LongFraction
says-long (Ok y) s = no_value (sym s.1)
says-long (Err TimeError.Invalid) s = absurd (omega (arith, s.0))
says-long (Err TimeError.Beyond) s = absurd (omega (arith, s.0))
says-long (Err TimeError.LongFraction) s = refl
says-long (Err TimeError.Overflow) s = absurd (omega (arith, s.0))

says-overflow : (t : Result ℤ TimeError) → Says t 16 [] → t ≡ Err TimeError.Overflow
says-overflow (Ok y) s = no_value (sym s.1)
says-overflow (Err TimeError.Invalid) s = absurd (omega (arith, s.0))
says-overflow (Err TimeError.Beyond) s = absurd (omega (arith, s.0))
says-overflow (Err TimeError.LongFraction) s = absurd (omega (arith, s.0))
says-overflow (Err TimeError.Overflow) s = refl

pub reads_time : {t r : Result ℤ TimeError} → r ≡ t → ReadsTime t r
reads_time {t} {r} e =
    record {
      is = e;
      time = λ z. ((λ s. sym e ∙ says-time r z s), λ f. said (refl, refl) (e ∙ f));
      none = ((λ s. sym e ∙ says_none r s), λ f. said (refl, refl) (e ∙ f));
      beyond = ((λ s. sym e ∙ says-beyond r s), λ f. said (refl, refl) (e ∙ f));
      long_fraction = ((λ s. sym e ∙ says-long r s), λ f. said (refl, refl) (e ∙ f));
      overflow = ((λ s. sym e ∙ says-overflow r s), λ f. said (refl, refl) (e ∙ f));
    }

-- ---- sums
says-sum : (x z : ℤ) (t : Bool) → is_i64 x ≡ t → SumSays (cond t (Some x) None) 0 (z ∷ []) → (z ≡ x) × (is_i64 z ≡ true)
says-sum x z true e s = let v = one_value s.1 in (sym v, ap is_i64 (sym v) ∙ e)
says-sum x z false e s = no_value s.1

says-over : (x : ℤ) (t : Bool) → is_i64 x ≡ t → SumSays (cond t (Some x) None) 16 [] → is_i64 x ≡ false
says-over x true e s = absurd (omega (arith, s.0))
says-over x false e s = e

sums_to : {r u : Option ℤ} {n : ℕ} {v : List ℤ} → SumSays u n v → r ≡ u → SumSays r n v
sums_to (a, b) e = (ap sum_number e ∙ a, ap sum_values e ∙ b)

module _ (a b : ℤ) (r : Option ℤ) (e : r ≡ checked (a +ℤ b)) where
  tested : (t : Bool) → is_i64 (a +ℤ b) ≡ t → checked (a +ℤ b) ≡ cond t (Some (a +ℤ b)) None
  unfolding checked
  tested t f = rw f

  pub adds : Adds a b r
  unfolding checked
  adds =
      let back : cond (is_i64 (a +ℤ b)) (Some (a +ℤ b)) None ≡ r = sym e in
      record {
        is = e;
        sum = λ z. (
          (λ s. says-sum (a +ℤ b) z (is_i64 (a +ℤ b)) refl (sums_to s back)),
          λ w. sums_to (refl, refl) (e ∙ (tested true (ap is_i64 (sym w.0) ∙ w.1) ∙ ap Some (sym w.0))),
        );
        overflow = ((λ s. says-over (a +ℤ b) (is_i64 (a +ℤ b)) refl (sums_to s back)), λ w. sums_to (refl, refl) (e ∙ tested false w));
      }
