-- `is_run` meets its contract: bytes of the range are of the class.
use mathlib.Core.Logic.{inl, inr}
use Rattle.scan.proofs.Runs.{passes-as, blank-space, text-high, name_high, attr-name_high, digit_within}
use Rattle.scan.proofs.bytes.is_run.Goals as goal

pub returns-in-Blank : goal.returns-in-Blank
returns-in-Blank c =
    rw c.in-Blank.is (λ e. passes-as _ _ c.args.src.now _ _ blank-space (c.all_between.ensures e))

pub returns-in-Name : goal.returns-in-Name
returns-in-Name c =
    elim c.in-Name.is [
      | inl t ↦ rw t (λ e. passes-as _ _ c.args.src.now _ _ name_high (c.all_between-in-Name.ensures e))
      | inr (inl t) ↦ rw t (λ e. passes-as _ _ c.args.src.now _ _ attr-name_high (c.all_between-in-Name.ensures e))
      | inr (inr t) ↦ rw t (λ e. passes-as _ _ c.args.src.now _ _ text-high (c.all_between-in-Name.ensures e))
    ]

pub returns-in-Digit : goal.returns-in-Digit
returns-in-Digit c =
    rw c.in-Digit.is (λ e. passes-as _ _ c.args.src.now _ _ digit_within (c.all_between-in-Digit.ensures e))
