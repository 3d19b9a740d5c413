-- A tree and an element in it, as the readers of tt and of a p that is a single cue take them. This file need not be believed.
--     t, u are the tables of nodes and attributes; z are the strings, as many bytes as the text has
use Rattle.std.specs.Prelude.{ℕ, ◌+◌, ◌≤◌, ◌≡◌, List, length}
use Rattle.tree.specs.Trees.{Forest, size, attrs_of, spans, InOrder}
use Rattle.tree.specs.Trees as placed
use Rattle.xml.specs.Find.{Holds}
use Rattle.xml.specs.Reading.{Placed}
use Rattle.meaning.specs.Nodes.{Element}
use Rattle.meaning.specs.Kinds.{attrs_in, nodes_in}

-- a forest stands in the first n rows, its strings in order
pub record Tree (t u z : List ℕ) (n : ℕ) : Type 0 where
  pub forest : Forest
  pub holds : Holds t u z 0 0 forest
  pub rows : 0 + size forest ≡ n
  pub placed : InOrder 0 (spans forest) (length z)
  pub few : length (attrs_of forest) ≤ 8192

-- an element stands in row k with all that stands in it, its strings in order
pub record Elem (t u z : List ℕ) (k : ℕ) : Type 0 where
  pub own : ℕ
  pub place : ℕ
  pub len : ℕ
  pub attrs : List placed.Attr
  pub content : Forest
  pub holds : Holds t u z k own (placed.elem place len attrs content placed.nil)
  pub placed : InOrder 0 (spans (placed.elem place len attrs content placed.nil)) (length z)
  pub few : length attrs + length (attrs_of content) ≤ 8192

abbrev pub element_in : {t u z : List ℕ} {k : ℕ} → Elem t u z k → Element Placed
element_in {z = z} x = record { at = x.place; attrs = attrs_in z x.attrs; content = nodes_in z x.content }
