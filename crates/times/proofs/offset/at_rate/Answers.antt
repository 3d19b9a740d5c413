-- So many frames or ticks: no time without a rate above zero, and elsewhere the count divided by the rate.
use Rattle.std.specs.Prelude.{Ok}
use mathlib.Core.Bool.{true, false}
use lib.Ieee.{of_int, of_bits, Float, binary64, mul, div, le}
use mir.Syntax.{w64}
use mir.ValLaws.{to_z-of_z}
use borrow.Author.Tests.{not-true, not-false}
use Rattle.times.specs.Expressions.{truncated, float}
use mathlib.Core.Path.{◌≡◌, sym, ap, ◌∙◌}
use Rattle.decimals.proofs.Reading.{decimal-limits}
use Rattle.times.proofs.offset.at_rate.Goals as goal
use Rattle.times.proofs.offset.at_rate.Goals.{then-not-present-via-then-not-present, then-not-present-via-else-not-present+then-rate}

pub to_f64-requires : goal.to_f64-requires
to_f64-requires c =
    let w = decimal-limits 15 22 _ (sym c.read_count.ensures ∙ c.in_ok-count.was) in (w.small, w.near)

pub returns-then-not-present : goal.returns-then-not-present
unfolding of_int of_bits
returns-then-not-present c =
    elim c.then-not-present.branch [
      | then-not-present-via-then-not-present w ↦ rw (sym c.read_count.ensures, c.in_ok-count.was, not-true c.args.present w.if-not-present.true-raw)
      | then-not-present-via-else-not-present+then-rate w ↦
          let f : le c.args.rate (float 0) ≡ true = w.if-rate.true in
          rw (sym c.read_count.ensures, c.in_ok-count.was, not-false c.args.present w.if-not-present.false-raw, f)
    ]

pub returns : goal.returns
unfolding of_int of_bits
returns c =
    let f : le c.args.rate (float 0) ≡ false = c.if-rate.false in
    rw (sym c.read_count.ensures, c.in_ok-count.was, not-false c.args.present c.if-not-present.false-raw, f)
    (ap Ok (to_z-of_z w64 _ (record { sfits = c.truncate.type_inv }) ∙ (c.truncate.ensures
    ∙ ap (λ (x : Float). truncated (mul binary64 (div binary64 x c.args.rate) (float 1000000))) c.to_f64.ensures)))
