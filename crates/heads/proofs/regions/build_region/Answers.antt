-- `build_region`, by the id and by the limit.
use mathlib.Core.Path.{refl, sym}
use native.Mathlib.Omega.{arith}
use Rattle.heads.proofs.Cells.{region_taken, region_full}
use Rattle.heads.proofs.regions.build_region.Goals as goal

pub returns-then-n-ge-REGIONS : goal.returns-then-n-ge-REGIONS
returns-then-n-ge-REGIONS c =
    λ l y. (
      _,
      sym (rw c.in-Some.is at (c.id_of.ensures.of_rows l y)),
      region_full _ _ c.args.place c.args.n
          c.if-n-ge-REGIONS.true,
      refl,
      refl,
    )

pub add_named-requires : goal.add_named-requires
add_named-requires c =
    (c.requires.0, c.requires.1, c.requires.2, omega (arith, c.if-n-ge-REGIONS.false), c.requires.3, rw c.in-Some.is at c.id_of.ensures.found_fits)

pub returns : goal.returns
returns c =
    λ l y. (
      _,
      sym (rw c.in-Some.is at (c.id_of.ensures.of_rows l y)),
      (_, region_taken _ _ c.args.place c.args.n (omega (arith, c.if-n-ge-REGIONS.false)), c.add_named.ensures.of_rows l y),
    )

pub returns-in_default : goal.returns-in_default
returns-in_default c =
    λ l y. (sym (rw c.in_default.is at (c.id_of.ensures.of_rows l y)), refl, refl)
