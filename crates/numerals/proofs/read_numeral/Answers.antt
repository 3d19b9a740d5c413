-- A whole number: one law for each way that a text can begin, and what the reader of digits ensures of the rest.
use Prim.Native.Nat.{ℕ, ◌+◌, ◌≤◌}
use mathlib.Core.Path.{◌≡◌, sym, ap, ◌∙◌}
use mathlib.Core.Bool.{true, false, true≢false}
use mathlib.Core.List.{List}
use native.Mathlib.Omega.{arith}
use lib.ListN.{length, get_or}
use borrow.Author.Tests.{ltb-true}
use Rattle.numerals.specs.Numerals.{signed_by_of, unsigned_of}
use Rattle.numerals.proofs.Numerals.{after-sign, numeral_plus, numeral_minus, numeral_rest}
use Rattle.numerals.proofs.read_numeral.Goals as goal
use Rattle.numerals.proofs.read_numeral.Goals.{in_default-via-then-text-lt1, in_default-via-in-45+else-minus, in_default-via-else-text-lt1+in_default-1}

pub returns-in-43 : goal.returns-in-43
returns-in-43 c =
    c.signed.ensures
    ∙ (ap (signed_by_of false) (c.read_unsigned.ensures ∙ ap (λ (l : List ℕ). unsigned_of l c.args.radix c.args.most) (after-sign c.args.text.now))
    ∙ sym (numeral_plus c.args.radix c.args.most c.args.text.now c.args.minus (omega arith) (omega arith)))

pub returns-in-45 : goal.returns-in-45
returns-in-45 c =
    c.signed-in-45.ensures
    ∙ (ap (signed_by_of true) (c.read_unsigned-in-45.ensures
    ∙ ap (λ (l : List ℕ). unsigned_of l c.args.radix (c.args.most + 1)) (after-sign c.args.text.now))
    ∙ sym (numeral_minus c.args.radix c.args.most c.args.text.now c.args.minus (omega arith) c.if-minus.true (omega arith)))

pub returns-in_default : goal.returns-in_default
returns-in_default c =
    let no_plus : 1 ≤ length c.args.text.now → get_or c.args.text.now 0 0 ≡ 43 → ⊥ = λ h e. elim c.in_default.branch [
      | in_default-via-then-text-lt1 w ↦ omega (arith, ltb-true)
      | in_default-via-in-45+else-minus w ↦ omega arith
      | in_default-via-else-text-lt1+in_default-1 w ↦ omega arith
    ] in
    let no_minus : c.args.minus ≡ true → 1 ≤ length c.args.text.now → get_or c.args.text.now 0 0 ≡ 45 → ⊥ = λ m h e. elim c.in_default.branch [
      | in_default-via-then-text-lt1 w ↦ omega (arith, ltb-true)
      | in_default-via-in-45+else-minus w ↦ true≢false (sym m ∙ w.if-minus.false)
      | in_default-via-else-text-lt1+in_default-1 w ↦ omega arith
    ] in
    c.signed-in_default.ensures
    ∙ (ap (signed_by_of false) c.read_unsigned-in_default.ensures
    ∙ sym (numeral_rest c.args.radix c.args.most c.args.text.now c.args.minus no_plus no_minus))
