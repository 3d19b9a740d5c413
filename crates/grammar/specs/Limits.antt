-- The measures of a tree and its limits (document 01, "Grammar", last sentence). Definitions alone.
use Rattle.std.specs.Prelude.{ℕ, suc, ◌+◌, ◌≤◌, max, length}
use Rattle.grammar.specs.Tree.{Tree, text, section, element, Forest, none, more}

-- ---- "Text 65,536 bytes; depth 64; nodes and attributes 8,192 each": said here once
abbrev pub most_bytes : ℕ
most_bytes = 65536

abbrev pub most_depth : ℕ
most_depth = 64

abbrev pub most_nodes : ℕ
most_nodes = 8192

abbrev pub most_attrs : ℕ
most_attrs = 8192

-- ---- the measures
-- how many nodes
unfoldable mutual
  pub tree_nodes : Tree → ℕ
  tree_nodes (text b) = 1
  tree_nodes (section b) = 1
  tree_nodes (element n l f) = suc (nodes f)

  pub nodes : Forest → ℕ
  nodes none = 0
  nodes (more t f) = tree_nodes t + nodes f

-- how many attributes
unfoldable mutual
  pub tree_attrs : Tree → ℕ
  tree_attrs (text b) = 0
  tree_attrs (section b) = 0
  tree_attrs (element n l f) = length l + attrs f

  pub attrs : Forest → ℕ
  attrs none = 0
  attrs (more t f) = tree_attrs t + attrs f

-- how many elements stand one inside the other, at most
unfoldable mutual
  pub tree_depth : Tree → ℕ
  tree_depth (text b) = 0
  tree_depth (section b) = 0
  tree_depth (element n l f) = suc (depth f)

  pub depth : Forest → ℕ
  depth none = 0
  depth (more t f) = max (tree_depth t) (depth f)

-- at most d elements stand one inside the other, and there are at most k nodes and j attributes
pub record Within (d k j : ℕ) (f : Forest) : Type 0 where
  pub deep : depth f ≤ d
  pub many : nodes f ≤ k
  pub named : attrs f ≤ j
