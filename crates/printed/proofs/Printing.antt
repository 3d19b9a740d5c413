-- Laws of the line of a refusal: how long it is, and that it is its four pieces one after the other. Assumes nothing.
use Rattle.std.specs.Prelude.{Option, Some, Result, Ok, Err}
use Prim.Native.Nat.{ℕ, ◌+◌}
use mathlib.Core.Path.{◌≡◌, refl}
use native.Mathlib.Omega.{arith}
use lib.ListN.{length, length-append}
use Rattle.scan.specs.Posts.{Appended, Wrote}
use Rattle.scan.specs.Text.{ascii}
use Rattle.scan.proofs.Stores.{appended_on}
use Rattle.numerals.specs.Written.{padded, decimal_width}
use Rattle.numerals.proofs.Writing.{padded-length}
use Rattle.grammar.specs.Words.{Bytes}
use Rattle.tree.specs.declared.answers.Refusal.{Refusal}
use Rattle.printed.specs.Printed.{refusal_line, Prints}

pub line_length : (r : Refusal) → length (refusal_line r) ≡ decimal_width r.number + decimal_width r.place + 2
unfolding refusal_line
line_length r =
    simp length-append
    (omega (arith, padded-length 10 (decimal_width r.number) r.number, padded-length 10 (decimal_width r.place) r.place))

pub line_put : (r : Refusal) {t t₁ t₂ t₃ t₄ : Bytes} {v w i j k n : ℕ} → v ≡ decimal_width r.number → w ≡ decimal_width r.place
    → Appended (padded 10 v r.number) 0 t t₁ i → Appended (ascii " ") i t₁ t₂ j
    → Appended (padded 10 w r.place) j t₂ t₃ k → Appended (ascii "\n") k t₃ t₄ n → Appended (refusal_line r) 0 t t₄ n
unfolding refusal_line
line_put r e f number blank place end =
    appended_on (rw e at number) (appended_on blank (appended_on (rw f at place) end))

-- where the digits of a number end
pub digits_end : (w n : ℕ) {i j : ℕ} {t t' : Bytes} → Appended (padded 10 w n) i t t' j → j ≡ i + w
digits_end w n p = omega (arith, p.next, padded-length 10 w n)

-- ---- by cases on the answer
pub print_text : {answer : Result ℕ Refusal} {n : ℕ} {t t' : Bytes} → answer ≡ Ok n → t' ≡ t → Prints answer t t' (Some n)
print_text e f = rw e (refl, f)

pub print_line : {answer : Result ℕ Refusal} {r : Refusal} (t t' : Bytes) (w : Option ℕ) → answer ≡ Err r → Wrote (refusal_line r) 0 t t' w
    → Prints answer t t' w
print_line t t' w e p = rw e p
