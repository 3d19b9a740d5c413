-- `is_plain` meets its contract: the tests of its `match` say which byte it is, or that it is none of those named.
use mathlib.Core.Path.{sym}
use mathlib.Core.Logic.{inl, inr}
use Rattle.entities.specs.Escape.{plain}
use Rattle.entities.proofs.Escapes.{plain-quote, plain_other}
use Rattle.entities.proofs.escape.is_plain.Goals as goal

pub returns-in-38 : goal.returns-in-38
unfolding plain
returns-in-38 c =
    elim c.in-38.is [ inl e ↦ rw e | inr (inl e) ↦ rw e | inr (inr e) ↦ rw e ]

pub returns-in-34 : goal.returns-in-34
returns-in-34 c =
    rw c.in-34.is (sym (plain-quote _))

pub returns-in_default : goal.returns-in_default
returns-in_default c =
    sym (plain_other _ _ (λ e. c.in_default.in_default-own.rest.0.1 (inl e)) (λ e. c.in_default.in_default-own.rest.0.1 (inr (inl e))) (λ e. c.in_default.in_default-own.rest.0.1 (inr (inr e)))
    c.in_default.in_default-own.rest.1)
