-- A tree by the part of its strings that the text covers, and how many attributes it has. Assumes nothing.
--     nodes-part                           the same nodes stand in the part
--     given-few, given-fits, given-short   a tree that was read has at most 8,192 attributes, and its text fits
--     given-part                           its rows, as the readers of tracks take them
--     given-ends                           nothing stands after them
use Rattle.std.specs.Prelude.{Result}
use Prim.Native.Nat.{ℕ, ◌+◌, ◌-◌, ◌*◌, ◌≤◌}
use mathlib.Core.Path.{◌≡◌, refl, sym, ap, ◌∙◌}
use mathlib.Core.Logic.{inr}
use mathlib.Core.List.{List, [], ◌∷◌, ◌++◌}
use native.Mathlib.Omega.{arith}
use lib.ListN.{length, get_or, take, drop, replicate, length-append, length-drop, length-replicate, get_or-replicate}
use lib.Seq.{length-take-le, get_or-drop, ext_get_or, drop_at}
use Rattle.scan.specs.Part.{string_at}
use Rattle.grammar.specs.Tree as tree
use Rattle.grammar.specs.Tree.{Forest}
use Rattle.grammar.specs.Limits as count
use Rattle.grammar.specs.Demand.{decode_attrs, decode_tree, decode_forest}
use Rattle.entities.specs.Decode.{decoded}
use Rattle.tree.specs.Trees as placed
use Rattle.tree.specs.Trees.{Attr, nil, text, section, elem, rows, attr_rows, attrs_of, attr_spans, Span, spans, InOrder}
use Rattle.tree.proofs.Tags.{length_attr_rows}
use Rattle.tree.proofs.Forests.{length_rows}
use Rattle.tree.proofs.Places.{in_whole, in_first, in_rest}
use Rattle.track.proofs.StringLaws.{string_used}
use Rattle.xml.specs.Promise.{Tables, Outside, then_zeros, Parsed}
use Rattle.xml.proofs.Promises.{counted, attrs-counted}
use Rattle.xml.proofs.Given.{given-tree, given-forest, given_holds, given-count}
use Rattle.meaning.specs.Kinds.{attrs_in, nodes_in}
use Rattle.cues.specs.Elements as elements
use Rattle.blank.specs.Steps.{BlankFrom, Ends}
use Rattle.tree.specs.declared.answers.Refusal.{Refusal}
use Rattle.tree.specs.Answers.{values_of, tree_with}
use Rattle.tree.specs.declared.answers.TreeSize.{TreeSize}

module _ (z : List ℕ) (m : ℕ) (fits : m ≤ length z) where
  same : (p n : ℕ) → p + n ≤ m → string_at (take m z) p n ≡ string_at z p n
  same p n h = string_used z m p n (omega (arith, length-take-le m z fits, h))

  attrs-part : (l : List Attr) (lo : ℕ) → InOrder lo (attr_spans l) m → attrs_in (take m z) l ≡ attrs_in z l
  unfolding attr_spans attrs_in
  attrs-part [] lo i = refl
  attrs-part (x ∷ l) lo i =
      let v : x.value + x.value_len ≤ m = in_whole (attr_spans l) (x.value + x.value_len) m i.1.1 in
      rw (
        same x.name x.name_len (omega (arith, i.1.0)),
        same x.value x.value_len v,
        attrs-part l (x.value + x.value_len) i.1.1,
      )

  pub nodes-part : (f : placed.Forest) (lo : ℕ) → InOrder lo (spans f) m → nodes_in (take m z) f ≡ nodes_in z f
  unfolding spans nodes_in
  nodes-part nil lo i = refl
  nodes-part (text p n f) lo i = rw (same p n (in_whole (spans f) (p + n) m i.1), nodes-part f (p + n) i.1)
  nodes-part (section p n f) lo i = rw (same p n (in_whole (spans f) (p + n) m i.1), nodes-part f (p + n) i.1)
  nodes-part (elem p n l c f) lo i =
      let g : InOrder (p + 1 + n) (spans c ++ spans f) m = in_rest (attr_spans l) (spans c ++ spans f) (p + 1 + n) m i.1 in
      rw (
        same (p + 1) n (in_whole (spans c ++ spans f) (p + 1 + n) m g),
        attrs-part l (p + 1 + n) (in_first (attr_spans l) (spans c ++ spans f) (p + 1 + n) m i.1),
        nodes-part c (p + 1 + n) (in_first (spans c) (spans f) (p + 1 + n) m g),
        nodes-part f (p + 1 + n) (in_rest (spans c) (spans f) (p + 1 + n) m g),
      )

-- ---- reading entities keeps the attributes
list_kept : (l : List tree.Attr) → length (decode_attrs decoded l) ≡ length l
unfolding decode_attrs
list_kept [] = refl
list_kept (tree.attr n v ∷ l) = rw (list_kept l)

mutual
  unfolding decode_tree decode_forest count.tree_attrs count.attrs

  tree-kept : (t : tree.Tree) → count.tree_attrs (decode_tree decoded t) ≡ count.tree_attrs t
  tree-kept (tree.text b) = refl
  tree-kept (tree.section b) = refl
  tree-kept (tree.element n l f) = omega (arith, list_kept l, attrs-kept f)

  attrs-kept : (f : Forest) → count.attrs (decode_forest decoded f) ≡ count.attrs f
  attrs-kept tree.none = refl
  attrs-kept (tree.more t f) = omega (arith, tree-kept t, attrs-kept f)

-- ---- what stands after a tree
rows_end : {t : List ℕ} (w : List ℕ) (n k : ℕ) → length w ≡ k → t ≡ then_zeros w n → BlankFrom k t
rows_end {t} w n k h e =
    let z : List ℕ = replicate (n - length w) 0 in
    let long : length t ≡ length w + (n - length w) =
    ap length e ∙ length-append w z ∙ ap (λ (i : ℕ). length w + i) (length-replicate (n - length w) 0) in
    let rest : n - length w ≡ length t - k = omega arith in
    (omega arith, ap (drop k) e ∙ drop_at w z k h ∙ ap (λ (i : ℕ). replicate i 0) rest)

past_all : (l : List Span) (lo hi i : ℕ) → InOrder lo l hi → hi ≤ i → Outside i l
past_all [] lo hi i o h = tt
past_all (x ∷ l) lo hi i o h =
    (inr (omega (arith, in_whole l (x.place + x.len) hi o.1)), past_all l (x.place + x.len) hi i o.1 h)

blank-drop : (z : List ℕ) (n : ℕ) → ((i : ℕ) → n ≤ i → get_or z i 0 ≡ 0) → drop n z ≡ replicate (length z - n) 0
blank-drop z n h =
    let long : length (drop n z) ≡ length z - n = length-drop n z in
    ext_get_or 0 (drop n z) (replicate (length z - n) 0) (long ∙ sym (length-replicate (length z - n) 0))
    (λ i l. get_or-drop n z i 0 ∙ h (n + i) (omega arith) ∙ sym (get_or-replicate (length z - n) i 0 0 (omega (arith, l, long))))

module _ {s : List ℕ} {lent left : Tables} {r : Result TreeSize Refusal} {i j : ℕ} (p : Parsed s lent r left) (e : r ≡ tree_with i j) where
  many_attrs : length (attrs_of (given-forest p e)) ≡ count.attrs (given-tree p e).tree
  many_attrs =
      let g = given-tree p e in
      attrs-counted left.strings (given-forest p e) ∙ ap count.attrs g.holds.shown ∙ attrs-kept g.tree

  pub given-few : length (attrs_of (given-forest p e)) ≤ 8192
  given-few = omega (arith, many_attrs, (given-tree p e).takes.derives.limits.named)

  given-attrs : length (attrs_of (given-forest p e)) ≡ j
  given-attrs =
      let g = given-tree p e in
      let b : tree_with i j ≡ tree_with (count.nodes g.tree) (count.attrs g.tree) = sym e ∙ counted p g.tree g.takes in
      let values = ap values_of b in
      let c : count.attrs g.tree ≡ j = cc in
      many_attrs ∙ c

  pub given-fits : length s ≤ length left.strings
  given-fits =
      let g = given-tree p e in
      omega (arith, g.holds.as_long, g.takes.readable.short, g.takes.readable.long_enough.of_strings)

  pub given-short : length s ≤ 65536
  given-short = (given-tree p e).takes.readable.short

  abbrev pub given-part : elements.Tree left.nodes left.attrs (take (length s) left.strings) i
  given-part =
      let h = given_holds p e in
      let long : length (take (length s) left.strings) ≡ length s = length-take-le (length s) left.strings given-fits in
      let o : InOrder 0 (spans (given-forest p e)) (length (take (length s) left.strings)) = rw long (given-tree p e).holds.in_order in
      record {
        forest = given-forest p e;
        holds = record { stands = h.stands; listed = h.listed; lo = 0; placed = o };
        rows = given-count p e;
        placed = o;
        few = given-few;
      }

  -- ---- what stands behind
  pub given-ends : Ends left.nodes left.attrs left.strings i j (length s)
  given-ends =
      let g = given-tree p e in
      let f = given-forest p e in
      let count : placed.size f ≡ i = omega (arith, given-count p e) in
      let n : length (rows 0 0 f) ≡ i * 6 = length_rows f 0 0 ∙ ap (λ (k : ℕ). k * 6) count in
      let m : length (attr_rows (attrs_of f)) ≡ j * 4 = length_attr_rows (attrs_of f) ∙ ap (λ (k : ℕ). k * 4) given-attrs in
      record {
        nodes = rows_end (rows 0 0 f) (length lent.nodes) (i * 6) n g.holds.node-rows;
        attrs = rows_end (attr_rows (attrs_of f)) (length lent.attrs) (j * 4) m g.holds.attr-rows;
        strings = (
          given-fits,
          blank-drop left.strings (length s)
              (λ k h. g.holds.elsewhere k (past_all (spans f) 0 (length s) k g.holds.in_order h)),
        );
      }
