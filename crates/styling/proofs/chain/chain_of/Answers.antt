-- `chain_of` trims the attribute that `find` answers.
use mathlib.Core.Path.{sym, ap, ◌∙◌}
use native.Mathlib.Omega.{arith}
use Rattle.meaning.specs.Kinds.{with_places}
use Rattle.meaning.specs.Styling.{chain_in}
use Rattle.styling.proofs.Attributes.{found-valued, none-valued}
use Rattle.styling.proofs.chain.chain_of.Goals as goal

pub trimmed_span-requires : goal.trimmed_span-requires
trimmed_span-requires c =
    rw c.in-Some.is at c.find.ensures.fits

pub returns-in-Some : goal.returns-in-Some
returns-in-Some c =
    record {
      len_in_bounds = c.trimmed_span.ensures.1;
      of_rows = λ l y. let x = rw c.in-Some.is at (c.find.ensures.of_rows l y) in
          c.trimmed_span.ensures.0 ∙ sym (ap (chain_in with_places) (found-valued x));
    }

pub returns-in-None : goal.returns-in-None
returns-in-None c =
    record {
      len_in_bounds = omega arith;
      of_rows = λ l y. let x = rw c.in-None.is at (c.find.ensures.of_rows l y) in
          sym (ap (chain_in with_places) (none-valued x));
    }
