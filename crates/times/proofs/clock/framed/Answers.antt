-- Frames added at a rate above zero.
use Rattle.std.specs.Prelude.{Ok}
use mathlib.Core.Bool.{true, false}
use mathlib.Core.Path.{◌≡◌, sym, ap, ◌∙◌}
use lib.Ieee.{of_int, of_bits, Float, binary64, mul, div, lt}
use lib.IntN.{◌+ℤ◌}
use mir.Syntax.{w64}
use mir.ValLaws.{to_z-of_z}
use Rattle.decimals.proofs.Reading.{decimal-limits}
use Rattle.times.specs.Sums.{checked}
use Rattle.times.specs.Expressions.{truncated, float, time_of}
use Rattle.times.proofs.clock.framed.Goals as goal
use Rattle.times.proofs.clock.framed.Goals.{else-ctx-via-then-ctx+else-ctx-2, else-ctx-via-else-ctx}

pub to_f64-requires : goal.to_f64-requires
to_f64-requires c =
    let w = decimal-limits 15 22 _ (sym c.read_decimal.ensures.is ∙ c.in-Ok.is) in (w.small, w.near)

pub returns-else-ctx : goal.returns-else-ctx
unfolding of_int of_bits
returns-else-ctx c =
    elim c.else-ctx.branch [
      | else-ctx-via-then-ctx+else-ctx-2 w ↦
          let f : lt (float 0) c.args.ctx.frame_rate ≡ false = w.if-ctx-2.false in
          rw (sym c.read_decimal.ensures.is, c.in-Ok.is, w.if-ctx.true, f) (ap Ok (to_z-of_z w64 _ c.ranges.us))
      | else-ctx-via-else-ctx w ↦ rw (sym c.read_decimal.ensures.is, c.in-Ok.is, w.if-ctx.false) (ap Ok (to_z-of_z w64 _ c.ranges.us))
    ]

pub returns-then-ctx-2 : goal.returns-then-ctx-2
unfolding of_int of_bits
returns-then-ctx-2 c =
    let f : lt (float 0) c.args.ctx.frame_rate ≡ true = c.if-ctx-2.true in
    rw (sym c.read_decimal.ensures.is, c.in-Ok.is, c.if-ctx.true, f)
    (c.time_of.ensures ∙ ap time_of (c.add.ensures.is
    ∙ ap checked (λ i. to_z-of_z w64 _ c.ranges.us i +ℤ
    (to_z-of_z w64 _ (record { sfits = c.truncate-more.type_inv })
    ∙ (c.truncate-more.ensures
    ∙ ap (λ (x : Float). truncated (mul binary64 (div binary64 x c.args.ctx.frame_rate) (float 1000000))) c.to_f64.ensures)) i)))
