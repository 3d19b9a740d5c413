-- Where the nodes and attributes of a derived tree stand: read off its derivation, which says what bytes stand one after the other.
-- Definitions alone. `p` is always the place of the first byte of what is derived. `long` says how long a text or a value is in the table:
-- as it stands, or with its entities read.
use Rattle.std.specs.Prelude.{ℕ, ◌+◌}
use mathlib.Core.List.{List, [], ◌∷◌}
use Rattle.std.proofs.Math.ListN.{length}
use Rattle.grammar.specs.Words.{Bytes}
use Rattle.grammar.specs.Tree.{Tree, Forest, Attr}
use Rattle.grammar.specs.Grammar.{Value, quoted, unquoted, Attribute, alone, named, nameless, Attributes, no_attribute, attribute}
use Rattle.grammar.specs.Grammar.{Opening, opening, Before, Node, a_text, a_section, last_section, an_element}
use Rattle.grammar.specs.Grammar.{Element, without-content, with_content, Content, Nodes, Document, document}
use Rattle.tree.specs.Trees as placed

-- a value stands after its quote mark, if it has one
unfoldable pub value_place : {after w v : Bytes} → Value after w v → ℕ → ℕ
value_place (quoted h o) p = p + 1
value_place (unquoted f r e) p = p

-- of a node or an element at p, with its later siblings; of a content that begins at p
abbrev pub NodePlaced : (after w : Bytes) (t : Tree) → Node after w t → Type 0
NodePlaced after w t d = ℕ → placed.Forest → placed.Forest

abbrev pub ElementPlaced : (after w : Bytes) (t : Tree) → Element after w t → Type 0
ElementPlaced after w t d = ℕ → placed.Forest → placed.Forest

abbrev pub ContentPlaced : (b : Before) (after w : Bytes) (f : Forest) → Content b after w f → Type 0
ContentPlaced b after w f d = ℕ → placed.Forest

module _ (long : Bytes → ℕ) where
  -- an attribute: its name at p; its value after the name, or after the blanks behind the `=`
  unfoldable pub attr_placed : {after u : Bytes} {a : Attr} → Attribute after u a → ℕ → placed.Attr
  unfolding value_place
  attr_placed (alone {n} h e) p = record { name = p; name_len = length n; value = p + length n; value_len = 0 }
  attr_placed (named {n} {b} {c} {w} {v} h bb cc x) p =
      record { name = p; name_len = length n; value = value_place x (p + length n + length b + 1 + length c); value_len = long v }
  attr_placed (nameless {c} {w} {v} cc x) p = record { name = p; name_len = 0; value = value_place x (p + 1 + length c); value_len = long v }

  unfoldable pub attrs_placed : {after w : Bytes} {l : List Attr} → Attributes after w l → ℕ → List placed.Attr
  unfolding attr_placed
  attrs_placed no_attribute p = []
  attrs_placed (attribute {u} {b} x bb r) p = attr_placed x p ∷ attrs_placed r (p + length u + length b)

  unfoldable pub opening_placed : {after o n : Bytes} {l : List Attr} → Opening after o n l → ℕ → List placed.Attr
  unfolding attrs_placed
  opening_placed (opening {n} {b} h bb r) p = attrs_placed r (p + 1 + length n + length b)

  -- a text at its first byte, an element at its `<`, a section behind its opening of 9 bytes
  unfoldable pub node_placed : {after w : Bytes} {t : Tree} → Node after w t → ℕ → placed.Forest → placed.Forest
  unfolding opening_placed
  node_placed d = elim d as NodePlaced ElementPlaced ContentPlaced [
    | a_text {w = w} h ↦ λ p later. placed.text p (long w) later
    | a_section {d = d} e ↦ λ p later. placed.section (p + 9) (length d) later
    | last_section {d} e ↦ λ p later. placed.section (p + 9) (length d) later
    | an_element h k (e → at) ↦ at
    | without-content {n = n} x y ↦ λ p later. placed.elem p (length n) (opening_placed x p) placed.nil later
    | with_content {o = o} {n = n} x (d → at) ↦ λ p later. placed.elem p (length n) (opening_placed x p) (at (p + length o + 1)) later
    | Content.close_tag d o ↦ λ p. placed.nil
    | Content.end_of_text ↦ λ p. placed.nil
    | Content.before-close h ↦ λ p. placed.nil
    | Content.comment {u = u} c (d → at) ↦ λ p. at (p + length u)
    | Content.node {u = u} (x → first) (d → at) ↦ λ p. first p (at (p + length u))
  ]

  -- the nodes of a document, and the whole: they begin after the prolog
  unfoldable pub nodes_placed : {s : Bytes} {f : Forest} → Nodes s f → ℕ → placed.Forest
  unfolding node_placed
  nodes_placed Nodes.end_of_text p = placed.nil
  nodes_placed (Nodes.before-close h) p = placed.nil
  nodes_placed (Nodes.comment {u} c d) p = nodes_placed d (p + length u)
  nodes_placed (Nodes.node {u} x d) p = node_placed x p (nodes_placed d (p + length u))

  unfoldable pub document_placed : {s : Bytes} {f : Forest} → Document s f → placed.Forest
  unfolding nodes_placed
  document_placed (document {p} x y d) = nodes_placed d (length p)
