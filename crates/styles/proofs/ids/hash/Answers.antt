use mathlib.Core.Path.{refl, sym, ◌∙◌}
use Rattle.styles.proofs.Search.{hash_on, hash_out, mod_small}
use native.Mathlib.Omega.{arith}
use Rattle.styles.specs.Ids.{hash_of}
use Rattle.styles.proofs.ids.hash.Goals as goal

pub loop-b-init : goal.loop-b-init
unfolding hash_of
loop-b-init c =
    (omega arith, refl)

pub overflow_add-h : goal.overflow_add-h
overflow_add-h c =
    omega (arith, c.type_inv.name c.loop-b.b-index)

pub loop-b-preserved : goal.loop-b-preserved
loop-b-preserved c =
    (mod_small _, c.loop-b.invariant.1 ∙ hash_on c.args.name.now c.loop-b.h c.loop-b.b-index (omega arith))

pub returns : goal.returns
returns c =
    (sym (c.loop-b.invariant.1 ∙ hash_out c.args.name.now c.loop-b.h c.loop-b.b-index (omega arith)), c.loop-b.invariant.0)
