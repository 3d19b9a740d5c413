-- An element in its row, as the readers of tt and of a single p take it. Assumes nothing.
--     elem-room, elem-cells, elem-rows, elem-owned, elem-inside, elem-order   what stands in its row, its attributes and its content
--     elem-none, elem-found                                                   the first of a name in a tree
use Rattle.std.specs.Prelude.{Option, Some, None}
use Prim.Native.Nat.{ℕ, ◌+◌, ◌*◌, ◌≤◌}
use mathlib.Core.Path.{◌≡◌, sym, ◌∙◌}
use mathlib.Core.List.{List, ◌++◌}
use mathlib.Core.Option.{none, some}
use native.Mathlib.Omega.{arith}
use lib.ListN.{length}
use Rattle.tree.specs.Trees.{size, attr_spans, spans, InOrder}
use Rattle.tree.specs.Trees as placed
use Rattle.tree.proofs.Places.{in_lower, in_first, in_rest}
use Rattle.xml.specs.declared.find.Element.{Element}
use Rattle.xml.specs.Find.{Holds, Owned, OfSiblings, ElementAt, element_row, find_row}
use Rattle.xml.proofs.FindLaws.{holds_elem}
use Rattle.meaning.specs.Nodes.{first_element}
use Rattle.meaning.specs.Kinds.{with_places, nodes_in}
use Rattle.styling.specs.Posts.{HasRows}
use Rattle.extras.proofs.Counts.{First, first_found, first-nothing, attrs-few}
use Rattle.cues.specs.Elements.{Tree, Elem, element_in}

module _ {t u z : List ℕ} {k : ℕ} (x : Elem t u z k) where
  at : ElementAt t u z k x.own x.place x.len x.attrs x.content placed.nil
  at = holds_elem x.holds

  pub elem-room : k * 6 + 6 ≤ length t
  elem-room = at.room

  -- the cells of its row
  abbrev pub cells : Element
  cells = record {
    place = x.place;
    name_len = x.len;
    end = k + 1 + size x.content;
    first = x.own;
    many = length x.attrs;
  }

  pub elem-cells : {e : Element} → e ≡ element_row t k → e ≡ cells
  elem-cells h = h ∙ at.cells

  pub elem-owned : {e : Element} → e ≡ element_row t k → Owned u z e.first e.many x.attrs
  elem-owned h = rw (elem-cells h) at.owned

  pub elem-rows : {e : Element} → e ≡ element_row t k → HasRows u z e.first e.many
  elem-rows h = (x.attrs, elem-owned h)

  pub elem-inside : Holds t u z (k + 1) (x.own + length x.attrs) x.content
  elem-inside = at.inside

  pub elem-order : InOrder 0 (spans x.content) (length z)
  unfolding spans
  elem-order =
      let p = x.place + 1 + x.len in
      let a = in_rest (attr_spans x.attrs) (spans x.content ++ spans placed.nil) p (length z) x.placed.1 in
      in_lower (spans x.content) 0 p (length z) (omega arith) (in_first (spans x.content) (spans placed.nil) p (length z) a)

-- ---- the first of a name

module _ {t u z : List ℕ} {n : ℕ} (x : Tree t u z n) where
  module _ (name : List ℕ) {r : Option ℕ} (o : OfSiblings t 0 n (λ f. r ≡ find_row z name 0 f)) where
    row_is : r ≡ find_row z name 0 x.forest
    row_is = o 0 x.forest x.holds.stands x.rows

    pub elem-none : r ≡ None → first_element with_places name (nodes_in z x.forest) ≡ none
    elem-none e = first-nothing z name 0 x.forest (sym row_is ∙ e)

    pub record Firstly (k : ℕ) : Type 0 where
      pub element : Elem t u z k
      pub is : first_element with_places name (nodes_in z x.forest) ≡ some (element_in element)

    pub elem-found : {k : ℕ} → r ≡ Some k → Firstly k
    elem-found {k} e =
        let f : First t u z name 0 x.forest k = first_found x.forest x.holds (sym row_is ∙ e) in
        record {
          element = record {
            own = f.first;
            place = f.place;
            len = f.len;
            attrs = f.attrs;
            content = f.content;
            holds = f.holds;
            placed = f.placed 0 (length z) x.placed;
            few = omega (arith, f.many, attrs-few z name x.forest, x.few);
          };
          is = f.is;
        }
