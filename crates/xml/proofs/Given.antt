-- What a caller of `parse_xml` reads off its promise where the answer is a tree. Assumes nothing.
--     given-tree                     the text derives a tree, and the tables hold it
--     given_holds                    its rows and its strings, as the searches take them
--     given-count, given-siblings    the answer's count of nodes is the forest's, and these rows are siblings
--     given-none                     after a refusal the text has no tree within the limits
use Rattle.std.specs.Prelude.{Result, Err}
use Prim.Native.Nat.{ℕ, suc, ◌+◌}
use mathlib.Core.Path.{◌≡◌, refl, sym, ap, ◌∙◌}
use mathlib.Core.List.{List}
use native.Mathlib.Omega.{arith}
use lib.ListN.{length}
use Rattle.grammar.specs.Tree as tree
use Rattle.grammar.specs.Tree.{Forest}
use Rattle.grammar.specs.Limits as count
use Rattle.entities.specs.Decode.{decoded}
use Rattle.grammar.specs.Demand.{decode_tree, decode_forest}
use Rattle.tree.specs.Answers.{values_of, tree_with, number_of, place_of}
use Rattle.tree.specs.Trees as placed
use Rattle.tree.specs.Trees.{size, spans}
use Rattle.tree.proofs.Places.{in_higher}
use Rattle.tree.specs.declared.answers.Refusal.{Refusal}
use Rattle.xml.specs.Find.{Holds, Siblings}
use Rattle.xml.specs.Promise.{Tables, Takes, places_of, HoldsTree, Parsed}
use Rattle.xml.proofs.FindLaws.{siblings_of}
use Rattle.xml.proofs.Promises.{counted, nodes-counted}
use Rattle.tree.specs.declared.answers.TreeSize.{TreeSize}

-- reading entities keeps the nodes
mutual
  unfolding decode_tree decode_forest count.tree_nodes count.nodes

  tree-kept : (t : tree.Tree) → count.tree_nodes (decode_tree decoded t) ≡ count.tree_nodes t
  tree-kept (tree.text b) = refl
  tree-kept (tree.section b) = refl
  tree-kept (tree.element n l f) = ap suc (nodes-kept f)

  nodes-kept : (f : Forest) → count.nodes (decode_forest decoded f) ≡ count.nodes f
  nodes-kept tree.none = refl
  nodes-kept (tree.more t f) = omega (arith, tree-kept t, nodes-kept f)

-- a tree that was read: taken, and held by the tables
pub record Given (s : List ℕ) (lent left : Tables) : Type 0 where
  pub tree : Forest
  pub takes : Takes s lent tree
  pub holds : HoldsTree s lent left tree (places_of takes.derives.derived)

module _ {s : List ℕ} {lent left : Tables} {r : Result TreeSize Refusal} (p : Parsed s lent r left) where
  module _ {i j : ℕ} (e : r ≡ tree_with i j) where
    pub given-tree : Given s lent left
    unfolding number_of place_of
    given-tree =
        let x = p.taken.0 (ap number_of e, ap place_of e) in
        record { tree = x.0; takes = x.1; holds = p.tree x.0 x.1 }

    abbrev pub given-forest : placed.Forest
    given-forest = places_of given-tree.takes.derives.derived

    pub given_holds : Holds left.nodes left.attrs left.strings 0 0 given-forest
    given_holds =
        let h = given-tree.holds in
        let d = given-tree.takes.readable in
        record {
          stands = record { tail = _; is = h.node-rows };
          listed = record { tail = _; is = h.attr-rows };
          lo = 0;
          placed =
              in_higher (spans given-forest) 0 (length s) (length left.strings) (omega (arith, h.as_long, d.short, d.long_enough.of_strings))
              h.in_order;
        }

    pub given-count : 0 + size given-forest ≡ i
    given-count =
        let g = given-tree in
        let a : size given-forest ≡ count.nodes (decode_forest decoded g.tree) =
        nodes-counted left.strings given-forest ∙ ap count.nodes g.holds.shown in
        let b : tree_with i j ≡ tree_with (count.nodes g.tree) (count.attrs g.tree) = sym e ∙ counted p g.tree g.takes in
        let values = ap values_of b in
        let c : i ≡ count.nodes g.tree = cc in
        omega (arith, a, c, nodes-kept g.tree)

    pub given-siblings : Siblings left.nodes left.strings 0 i
    given-siblings = rw given-count at (siblings_of given_holds)

  pub given-none : {x : Refusal} → r ≡ Err x → (f : Forest) → ¬ Takes s lent f
  given-none e f d =
      let b : ◌≡◌ {A = Result TreeSize Refusal} (Err _) (tree_with (count.nodes f) (count.attrs f)) = sym e ∙ counted p f d in
      let z : ◌≡◌ {A = ℕ} 0 1 = cc in
      omega arith
