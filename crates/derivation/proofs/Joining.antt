-- Forests one after the other: the loop by places appends each node to what was read before; on lists each node stands before what follows.
-- Assumes nothing.
--     joined                            the forests of the grammar, one after the other
--     joined-none, joined-assoc         with nothing after; three of them
--     tree-join                         what a joined forest by places shows
--     map_none, map_one, map_joined     the same of the answers of the reader on lists
use mathlib.Core.Path.{◌≡◌, refl, ap}
use Prim.Native.Nat.{ℕ}
use mathlib.Core.List.{List}
use Rattle.tree.specs.Trees as placed
use Rattle.grammar.specs.Tree.{Tree, Forest, none, more}
use Rattle.grammar.proofs.Counted.{LRes, lok, lbad, lmap}
use Rattle.derivation.specs.Strings.{tree_in}

unfoldable pub joined : Forest → Forest → Forest
joined none g = g
joined (more t f) g = more t (joined f g)

pub joined-none : (f : Forest) → joined f none ≡ f
unfolding joined
joined-none none = refl
joined-none (more t f) = ap (more t) (joined-none f)

pub joined-assoc : (f g h : Forest) → joined f (joined g h) ≡ joined (joined f g) h
unfolding joined
joined-assoc none g h = refl
joined-assoc (more t f) g h = ap (more t) (joined-assoc f g h)

pub tree-join : (s : List ℕ) (f g : placed.Forest) → tree_in s (placed.join f g) ≡ joined (tree_in s f) (tree_in s g)
unfolding tree_in joined placed.join
tree-join s placed.nil g = refl
tree-join s (placed.text p n f) g = rw (tree-join s f g)
tree-join s (placed.section p n f) g = rw (tree-join s f g)
tree-join s (placed.elem p n l c f) g = rw (tree-join s f g)

pub map_none : (x : LRes Forest) → lmap (joined none) x ≡ x
unfolding joined
map_none (lok f k j r) = refl
map_none (lbad n l) = refl

pub map_one : (t : Tree) (x : LRes Forest) → lmap (joined (more t none)) x ≡ lmap (more t) x
unfolding joined
map_one t (lok f k j r) = refl
map_one t (lbad n l) = refl

pub map_joined : (f g : Forest) (x : LRes Forest) → lmap (joined f) (lmap (joined g) x) ≡ lmap (joined (joined f g)) x
map_joined f g (lok h k j r) = ap (λ y. lok y k j r) (joined-assoc f g h)
map_joined f g (lbad n l) = refl
