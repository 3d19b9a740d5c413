-- `resolve_pair` meets its contract. Assumes nothing.
use mathlib.Core.Path.{refl}
use Rattle.styles.proofs.Applying.{stands_name}
use Rattle.styles.proofs.Answering.{held_none, pairs_over_first, pairs_over, pairs}
use Rattle.styles.proofs.apply.resolve_pair.Goals as goal

pub apply_refs-requires : goal.apply_refs-requires
apply_refs-requires c =
    (c.requires.0, held_none _ _ _)

pub apply_refs-requires-2 : goal.apply_refs-requires-2
apply_refs-requires-2 c =
    (c.requires.1, (rw c.in_ok-a.was at c.apply_refs.ensures).grown.held)

pub clear_links-requires : goal.clear_links-requires
clear_links-requires c =
    (rw c.in_ok-b.was at c.apply_refs-2.ensures).grown.held.tree.rows

pub returns-in_err-a : goal.returns-in_err-a
returns-in_err-a c =
    rw c.from_residual.ensures (pairs_over_first _ _ _ _ _ _ _ _ _ refl refl c.blank.ensures _ _ (rw c.in_err-a.was at c.apply_refs.ensures))

pub returns-in_err-b : goal.returns-in_err-b
returns-in_err-b c =
    rw c.from_residual-in_err-b.ensures (pairs_over _ _ _ _ _ _ _ _ _ refl refl c.blank.ensures _ _ _ (stands_name _ _ _ _ _ _ c.requires.0) _
    (rw c.in_ok-a.was at c.apply_refs.ensures) _ _ (rw c.in_err-b.was at c.apply_refs-2.ensures))

pub returns : goal.returns
returns c =
    pairs _ _ _ _ _ _ _ _ _ refl refl c.blank.ensures _ _ _ (stands_name _ _ _ _ _ _ c.requires.0) _ (rw c.in_ok-a.was at c.apply_refs.ensures) _ _ _
    (stands_name _ _ _ _ _ _ c.requires.1) _ (rw c.in_ok-b.was at c.apply_refs-2.ensures) _ c.clear_links.ensures _ refl refl refl
