-- What each way through `root_attributes` counts, from the promise of `parse_xml` and the laws of `xml` alone. Assumes nothing.
--     on_refusal, on_nothing, on_row   the three ways
--     row-there                        the row that is found stands in the table
use Rattle.std.specs.Prelude.{Option, Some, None, Result, Err}
use Prim.Native.Nat.{ℕ, ◌+◌, ◌*◌, ◌≤◌, ◌<◌}
use mathlib.Core.Path.{◌≡◌, refl, sym, ap, ◌∙◌}
use mathlib.Core.Logic.{◌⊎◌, inl, inr}
use mathlib.Core.List.{List}
use native.Mathlib.Omega.{arith}
use lib.ListN.{length}
use Rattle.entities.specs.Decode.{decoded}
use Rattle.tree.specs.Trees as placed
use Rattle.tree.specs.declared.answers.Refusal.{Refusal}
use Rattle.grammar.specs.Tree.{Forest}
use Rattle.grammar.specs.Demand.{decode_forest}
use Rattle.grammar.proofs.Theorem.{no_two}
use Rattle.derivation.specs.Strings.{tree_in}
use Rattle.xml.specs.declared.find.Element.{Element}
use Rattle.xml.specs.Promise.{Tables, AllZero, Takes, TurnsAway, Parsed}
use Rattle.xml.specs.Find.{OfSiblings, find_row, element_row, FoundAt}
use Rattle.xml.proofs.FindLaws.{find_nothing, find_found, many_shown}
use Rattle.xml.proofs.Promises.{away_some}
use Rattle.xml.proofs.Determined.{decided}
use Rattle.xml.proofs.Given.{given-tree, given-forest, given_holds, given-count, given-none}
use Rattle.example.specs.Count.{tt, attributes, count_in, Counts}
use Rattle.tree.specs.Answers.{tree_with}
use Rattle.tree.specs.declared.answers.TreeSize.{TreeSize}

module _ {s : List ℕ} {lent left : Tables} {a : Result TreeSize Refusal} (p : Parsed s lent a left) where
  emptied : ((f : Forest) → ¬ Takes s lent f) → AllZero lent left
  emptied none = by (decided s lent)
    where
      by : ((f : Forest) × Takes s lent f) ⊎ ((n : ℕ) × (q : ℕ) × TurnsAway s lent n q) → AllZero lent left
      by (inl x) = absurd (none x.0 x.1)
      by (inr x) =
          let h : 0 < x.0 = away_some x.2 in
          let y = (p.refused x.0 x.1 h).1 x.2 in
          p.cleared (omega (arith, h, y.0))

  pub on_refusal : {x : Refusal} → a ≡ Err x → Counts s lent 0 left
  on_refusal e = record { derived = λ f d. absurd (given-none p e f d); tree = p.tree; otherwise = λ none. refl; cleared = emptied }

  -- a tree was read, and the search among its nodes gave r
  module _ {i j : ℕ} (e : a ≡ tree_with i j) {r : Option ℕ} (search : OfSiblings left.nodes 0 i (λ f. r ≡ find_row left.strings tt 0 f)) where
    abbrev forest : placed.Forest
    forest = given-forest p e

    -- the count in the tables is that in the tree that the text derives
    counts : (n : ℕ) → n ≡ count_in (tree_in left.strings forest) → Counts s lent n left
    counts n c =
        let g = given-tree p e in
        record {
          derived = λ f d.
              let same = no_two s g.tree f g.takes.derives.derived d.derives.derived in
              c ∙ ap count_in (g.holds.shown ∙ ap (decode_forest decoded) same);
          tree = p.tree;
          otherwise = λ none. absurd (none g.tree g.takes);
          cleared = emptied;
        }

    searched : r ≡ find_row left.strings tt 0 forest
    searched = search 0 forest (given_holds p e).stands (given-count p e)

    pub on_nothing : r ≡ None → Counts s lent 0 left
    unfolding attributes count_in
    on_nothing h = counts 0 (sym (ap attributes (find_nothing left.strings tt 0 forest (sym searched ∙ h))))

    module _ {k : ℕ} (h : r ≡ Some k) where
      there : FoundAt left.nodes left.attrs left.strings tt 0 forest k
      there = find_found forest (given_holds p e) (sym searched ∙ h)

      pub row-there : k * 6 + 6 ≤ length left.nodes
      row-there = there.at.room

      pub on_row : {d : Element} → d ≡ element_row left.nodes k → Counts s lent d.many left
      unfolding attributes count_in
      on_row x =
          let shown = ap attributes there.is ∙ many_shown left.strings there.attrs in
          counts _ (ap (λ (y : Element). y.many) (x ∙ there.at.cells) ∙ sym shown)
