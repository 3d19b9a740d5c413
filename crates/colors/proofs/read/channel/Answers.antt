-- `channel` answers the number that the numeral spells: it is below 256.
use Rattle.std.specs.Prelude.{Some}
use Rattle.std.specs.Result.{result_ok}
use mathlib.Core.Path.{sym, ap, ◌∙◌}
use native.Mathlib.Omega.{arith}
use Rattle.colors.proofs.Reading.{small}
use Rattle.colors.proofs.read.channel.Goals as goal

pub overflow_cast-result : goal.overflow_cast-result
overflow_cast-result c =
    omega (
      arith,
      small c.args.numeral.now c.args.radix (Some c.in_ok-w.w)
          (sym (c.ok_or.ensures.ok_part ∙ ap result_ok c.in_ok-w.was) ∙ c.read_numeral.ensures),
    )
