-- The tree that a placed forest shows, its strings taken from a table of bytes: from the text, the tree as it stands; from the table of
-- strings, with entities read. Definitions alone.
use Rattle.std.specs.Prelude.{ℕ, ◌+◌, List, [], ◌∷◌}
use Rattle.scan.specs.Part.{string_at}
use Rattle.tree.specs.Trees as placed
use Rattle.grammar.specs.Tree.{Attr, attr, Forest, none, more, text, section, element}

unfoldable pub attr_in : List ℕ → placed.Attr → Attr
attr_in z x = attr (string_at z x.name x.name_len) (string_at z x.value x.value_len)

unfoldable pub attrs_in : List ℕ → List placed.Attr → List Attr
attrs_in z [] = []
attrs_in z (x ∷ l) = attr_in z x ∷ attrs_in z l

unfoldable pub tree_in : List ℕ → placed.Forest → Forest
tree_in z placed.nil = none
tree_in z (placed.text p n f) = more (text (string_at z p n)) (tree_in z f)
tree_in z (placed.section p n f) = more (section (string_at z p n)) (tree_in z f)
tree_in z (placed.elem p n l c f) = more (element (string_at z (p + 1) n) (attrs_in z l) (tree_in z c)) (tree_in z f)
