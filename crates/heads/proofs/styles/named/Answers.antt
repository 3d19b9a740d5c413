-- `named`, by the look and by the limit.
use mathlib.Core.Path.{refl}
use native.Mathlib.Omega.{arith}
use Rattle.scan.proofs.Handed.{handed_on}
use Rattle.heads.proofs.Cells.{style_taken, style_full, style_refused}
use Rattle.heads.proofs.styles.named.Goals as goal

pub returns-then-n-ge-STYLES : goal.returns-then-n-ge-STYLES
returns-then-n-ge-STYLES c =
    λ l y. (
      style_full _ _ c.args.place c.args.n _ (c.in_ok-look.ensures.of_rows l y)
          c.if-n-ge-STYLES.true,
      refl,
      refl,
      refl,
    )

pub add_named-requires : goal.add_named-requires
add_named-requires c = (
  c.requires.0,
  c.requires.1,
  c.requires.2,
  omega (arith, c.if-n-ge-STYLES.false),
  c.requires.3,
  c.requires.4,
  c.requires.5,
  c.in_ok-look.ensures.look_fits,
)

pub returns : goal.returns
returns c =
    λ l y. (
      _,
      style_taken _ _ c.args.place c.args.n _ (c.in_ok-look.ensures.of_rows l y) (omega
          (arith, c.if-n-ge-STYLES.false)),
      c.add_named.ensures.of_rows l y,
    )

pub returns-in_err-look : goal.returns-in_err-look
returns-in_err-look c =
    rw (handed_on _ c.from_residual.ensures) (λ l y. (
      style_refused _ _ c.args.place c.args.n _ (c.in_err-look.ensures.of_rows l y),
      refl,
      refl,
      refl,
    ))
