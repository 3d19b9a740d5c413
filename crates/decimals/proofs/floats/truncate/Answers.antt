-- `truncate` meets its contract: its four comparisons tell the whole part, or that it is past the ends.
use Rattle.std.proofs.Common.{sym, ◌∙◌, w64}
use lib.IntN.{+ℤ_idl}
use lib.Ieee.{of_bits, neg}
use mir.ValLaws.{to_z_pos, to_z-of_z}
use Rattle.decimals.proofs.Truncated.{at_least, at_most, middling, cut_high, cut_low, cut_none, cut_whole, cut_minus, minus_fits}
use Rattle.decimals.proofs.floats.truncate.Goals as goal

pub returns-then-x : goal.returns-then-x
unfolding of_bits
returns-then-x c =
    cut_high c.args.x (sym (at_least 63 c.args.x) ∙ c.if-x.true)

pub whole_part-requires : goal.whole_part-requires
unfolding of_bits
whole_part-requires c =
    middling c.args.x (sym (at_least 0 c.args.x)
    ∙ c.if-x-2.true) (sym (at_least 63 c.args.x) ∙ c.if-x.false)

pub overflow_cast-result : goal.overflow_cast-result
unfolding of_bits
overflow_cast-result c =
    record {
      sfits = (cut_whole c.args.x (sym (at_least 0 c.args.x) ∙ c.if-x-2.true) (sym (at_least 63 c.args.x)
          ∙ c.if-x.false) c.whole_part.ensures).small;
    }

pub returns-then-x-2 : goal.returns-then-x-2
unfolding of_bits
returns-then-x-2 c =
    to_z_pos w64 _ (cut_whole c.args.x (sym (at_least 0 c.args.x) ∙ c.if-x-2.true) (sym (at_least 63 c.args.x)
    ∙ c.if-x.false) c.whole_part.ensures).small
    ∙ (cut_whole c.args.x (sym (at_least 0 c.args.x) ∙ c.if-x-2.true)
    (sym (at_least 63 c.args.x) ∙ c.if-x.false) c.whole_part.ensures).is

pub returns-then-x-3 : goal.returns-then-x-3
unfolding of_bits neg
returns-then-x-3 c =
    cut_low c.args.x (sym (at_most 63 c.args.x) ∙ c.if-x-3.true)

pub whole_part-requires-then-x-4 : goal.whole_part-requires-then-x-4
unfolding of_bits neg
whole_part-requires-then-x-4 c =
    middling (neg c.args.x) (sym (at_most 0 c.args.x) ∙ c.if-x-4.true) (sym (at_most 63 c.args.x) ∙ c.if-x-3.false)

pub overflow_cast-result-then-x-4 : goal.overflow_cast-result-then-x-4
unfolding of_bits neg
overflow_cast-result-then-x-4 c =
    record {
      sfits = (cut_minus c.args.x (sym (at_most 0 c.args.x) ∙ c.if-x-4.true) (sym (at_most 63 c.args.x)
          ∙ c.if-x-3.false) c.whole_part-then-x-4.ensures).small;
    }

pub overflow_sub-result-then-x-4 : goal.overflow_sub-result-then-x-4
unfolding of_bits neg
overflow_sub-result-then-x-4 c =
    rw (
      to_z_pos w64 _ (cut_minus c.args.x (sym (at_most 0 c.args.x) ∙ c.if-x-4.true) (sym (at_most 63 c.args.x)
          ∙ c.if-x-3.false) c.whole_part-then-x-4.ensures).small,
      +ℤ_idl,
    )
    (minus_fits _ (cut_minus c.args.x (sym (at_most 0 c.args.x) ∙ c.if-x-4.true)
    (sym (at_most 63 c.args.x) ∙ c.if-x-3.false) c.whole_part-then-x-4.ensures).small)

pub returns-then-x-4 : goal.returns-then-x-4
unfolding of_bits neg
returns-then-x-4 c =
    rw (
      to_z_pos w64 _ (cut_minus c.args.x (sym (at_most 0 c.args.x) ∙ c.if-x-4.true) (sym (at_most 63 c.args.x)
          ∙ c.if-x-3.false) c.whole_part-then-x-4.ensures).small,
      +ℤ_idl,
    )
    (to_z-of_z w64 _ (minus_fits _
    (cut_minus c.args.x (sym (at_most 0 c.args.x) ∙ c.if-x-4.true)
    (sym (at_most 63 c.args.x) ∙ c.if-x-3.false) c.whole_part-then-x-4.ensures).small)
    ∙ (cut_minus c.args.x (sym (at_most 0 c.args.x) ∙ c.if-x-4.true)
    (sym (at_most 63 c.args.x) ∙ c.if-x-3.false) c.whole_part-then-x-4.ensures).is)

pub returns : goal.returns
unfolding of_bits neg
returns c =
    cut_none c.args.x (sym (at_least 0 c.args.x) ∙ c.if-x-2.false) (sym (at_most 0 c.args.x) ∙ c.if-x-4.false)
