-- The whole text: what the passes ask of the tables that the tree reader leaves, and what they leave. Assumes nothing.
--     raw-small, raw-enough          which case of `raw` holds
--     short_text                     a text that has a tree is no longer than the limit
--     nodes-stand_ready, attrs-stand_ready   every row that was read can be passed
--     Left, left_small, left_refused, left_tree   the four promises of `parse_xml` at once
use Rattle.std.specs.Prelude.{Result, Err}
use Prim.Native.Nat.{ℕ, zero, suc, ◌+◌, ◌-◌, ◌*◌, ◌≤◌, ◌<◌}
use mathlib.Core.Path.{◌≡◌, refl, ap, ◌∙◌}
use mathlib.Core.Bool.{Bool, true, false}
use mathlib.Core.List.{List, [], ◌++◌}
use native.Mathlib.Omega.{arith}
use lib.ListN.{length, get_or, replicate}
use lib.Dec.{ltb}
use borrow.Author.Tests.{lt-ltb, le-ltb, ltb-true, ltb-false}
use Rattle.tree.specs.declared.answers.Refusal.{Refusal}
use Rattle.tree.specs.Trees.{Attr, Forest, nil, text, section, elem, size, attrs_of, attr_spans, spans, InOrder}
use Rattle.tree.specs.Read.{Out, got, nothing, bad, meaning, answer_of, nodes_of, attr_cells}
use Rattle.tree.specs.Walks.{tree_of, Stands, AttrIs}
use Rattle.tree.proofs.Whole.{no_nodes, no_attrs, too_long}
use Rattle.tree.proofs.Places.{in_whole, in_first, in_rest, meaning-placed}
use Rattle.tree.proofs.Walks.{on_text, on_section, on_elem, root, root_placed, root_room, root-attrs, attrs-room, attr-at, attr-fits}
use Rattle.xml.specs.Steps.{raw, read_out, strings_of}
use Rattle.xml.specs.Steps.{node_place, nodes_read, node_strings_read, NodeReady, attrs_read, attr_strings_read, AttrReady}
use Rattle.xml.proofs.PassForests.{text-bytes, section-bytes, element-bytes, size-read, attrs-read, length_attrs_read, nodes-pass}
use Rattle.xml.proofs.PassForests.{attrs-pass, strings-pass}
use Rattle.tree.specs.Answers.{values_of, tree_with}
use Rattle.tree.specs.declared.answers.TreeSize.{TreeSize}

-- ---- which case
module _ (s : List ℕ) (n m z : ℕ) where
  pub raw-small : z < 65536 → raw s n m z ≡ bad 1 0
  unfolding raw
  raw-small h = rw (lt-ltb z 65536 h)

  pub raw-enough : 65536 ≤ z → raw s n m z ≡ meaning s n m
  unfolding raw
  raw-enough h = rw (le-ltb z 65536 h)

-- no tree is a refusal
tree-bad : (o : Out) (i j x q : ℕ) → tree_with i j ≡ answer_of o → o ≡ bad x q → ⊥
unfolding answer_of
tree-bad o i j x q e w =
    let r : tree_with i j ≡ Err (record { number = x; place = q }) = rw w at e in
    let z : ◌≡◌ {A = ℕ} 0 1 = cc in
    omega arith

-- a text that has a tree is no longer than the limit
pub short_text : (s : List ℕ) (n m i j : ℕ) → tree_with i j ≡ answer_of (meaning s n m) → length s ≤ 65536
short_text s n m i j e = by (ltb n 49152) (ltb m 32768) (ltb 65536 (length s)) refl refl refl
  where
    by : (a b c : Bool) → ltb n 49152 ≡ a → ltb m 32768 ≡ b → ltb 65536 (length s) ≡ c → length s ≤ 65536
    by a b false u v w = ltb-false 65536 (length s) w
    by true b true u v w = absurd (tree-bad (meaning s n m) i j 1 0 e (no_nodes s n m (ltb-true n 49152 u)))
    by false true true u v w = absurd (tree-bad (meaning s n m) i j 1 0 e (no_attrs s n m (ltb-false n 49152 u) (ltb-true m 32768 v)))
    by false false true u v w =
        absurd (tree-bad (meaning s n m) i j 2 0 e (too_long s n m (ltb-false n 49152 u) (ltb-false m 32768 v) (ltb-true 65536 (length s) w)))

-- the counts that are answered
counted : (o : Out) (i j : ℕ) → tree_with i j ≡ answer_of o → (i ≡ size (tree_of o)) × (j ≡ length (attrs_of (tree_of o)))
unfolding answer_of tree_of size attrs_of
counted (got f q k a) i j e = let v = ap values_of e in (cc, cc)
counted (nothing q) i j e = let v = ap values_of e in (cc, cc)
counted (bad x q) i j e = absurd (tree-bad (bad x q) i j x q e refl)

-- ---- every row can be passed
-- the string of each node of a forest in order is within the bound
module _ (t : List ℕ) (hi : ℕ) where
  -- what is said of row k
  abbrev Fitted : ℕ → Type 0
  Fitted k = node_place t k + get_or t (k * 6 + 3) 0 ≤ hi

  node-fits : (f : Forest) (k a lo : ℕ) → Stands t k a f → InOrder lo (spans f) hi → (i : ℕ) → i < size f → Fitted (k + i)
  unfolding spans size
  node-fits nil k a lo st o i h = absurd (omega arith)
  node-fits (text p n f) k a lo st o zero h =
      let r = (on_text t k a p n f st).0 in
      let z : k + 0 ≡ k = omega arith in
      rw (z, (text-bytes [] t k (k + 1) p n 0 0 r).0, r.len_is) (in_whole (spans f) (p + n) hi o.1)
  node-fits (text p n f) k a lo st o (suc i) h =
      let z : k + suc i ≡ k + 1 + i = omega arith in
      rw z (node-fits f (k + 1) a (p + n) (on_text t k a p n f st).1 o.1 i (omega arith))
  node-fits (section p n f) k a lo st o zero h =
      let r = (on_section t k a p n f st).0 in
      let z : k + 0 ≡ k = omega arith in
      rw (z, (section-bytes [] t k (k + 1) p n 0 0 r).0, r.len_is) (in_whole (spans f) (p + n) hi o.1)
  node-fits (section p n f) k a lo st o (suc i) h =
      let z : k + suc i ≡ k + 1 + i = omega arith in
      rw z (node-fits f (k + 1) a (p + n) (on_section t k a p n f st).1 o.1 i (omega arith))
  node-fits (elem p n l c f) k a lo st o zero h =
      let r = (on_elem t k a p n l c f st).0 in
      let z : k + 0 ≡ k = omega arith in
      rw (
        z,
        (element-bytes [] t k (k + 1 + size c) p n a (length l) r).0,
        r.len_is,
      ) (in_whole (attr_spans l ++ (spans c ++ spans f)) (p + 1 + n) hi o.1)
  node-fits (elem p n l c f) k a lo st o (suc i) h =
      let x = on_elem t k a p n l c f st in
      let g : InOrder (p + 1 + n) (spans c ++ spans f) hi = in_rest (attr_spans l) (spans c ++ spans f) (p + 1 + n) hi o.1 in
      inner (ltb i (size c)) refl
      (λ b. node-fits c (k + 1) (a + length l) (p + 1 + n) x.1 (in_first (spans c) (spans f) (p + 1 + n) hi g) i b)
      (λ b. node-fits f (k + 1 + size c) (a + length l + length (attrs_of c)) (p + 1 + n) x.2 (in_rest (spans c) (spans f) (p + 1 + n) hi g)
      (i - size c) (omega arith))
    where
      inner : (b : Bool) → ltb i (size c) ≡ b → (i < size c → Fitted (k + 1 + i)) → (size c ≤ i → Fitted (k + 1 + size c + (i - size c)))
          → Fitted (k + suc i)
      inner true e u v = let z : k + suc i ≡ k + 1 + i = omega arith in rw z (u (ltb-true i (size c) e))
      inner false e u v =
          let w : size c ≤ i = ltb-false i (size c) e in
          let z : k + suc i ≡ k + 1 + size c + (i - size c) = omega arith in
          rw z (v w)

module _ (s z : List ℕ) (n m i j : ℕ) (room : 65536 ≤ length z) (answer : tree_with i j ≡ answer_of (meaning s n m)) where
  pub nodes-stand_ready : (t : List ℕ) → t ≡ nodes_of n (meaning s n m) → (k : ℕ) → k < i → NodeReady s t z k
  nodes-stand_ready t e k h =
      let f : Forest = tree_of (meaning s n m) in
      let c : i ≡ size f = (counted (meaning s n m) i j answer).0 in
      let r : size f * 6 ≤ length t = root_room s t n m e in
      let x : 0 + k ≡ k = omega arith in
      record {
        short = short_text s n m i j answer;
        room = omega (arith, short_text s n m i j answer);
        row = omega arith;
        fits = rw x at (node-fits t (length s) f 0 0 0 (root s t n m e) (root_placed s n m) k (omega arith));
      }

  pub attrs-stand_ready : (u : List ℕ) → u ≡ attr_cells m (meaning s n m) → (k : ℕ) → k < j → AttrReady s u z k
  attrs-stand_ready u e k h =
      let f : Forest = tree_of (meaning s n m) in
      let none : Attr = record { name = 0; name_len = 0; value = 0; value_len = 0 } in
      let c : j ≡ length (attrs_of f) = (counted (meaning s n m) i j answer).1 in
      let r : length (attrs_of f) * 4 ≤ length u = attrs-room s u n m e in
      let x : 0 + k ≡ k = omega arith in
      let a : AttrIs u k (get_or (attrs_of f) k none) = rw x at (attr-at none u 0 k (attrs_of f) (root-attrs s u n m e) (omega arith)) in
      let b = attr-fits none f 0 (length s) k (root_placed s n m) (omega arith) in
      record {
        short = short_text s n m i j answer;
        room = omega (arith, short_text s n m i j answer);
        row = omega arith;
        name_fits = rw (a.name_is, a.name_len_is) b.0;
        value-fits = rw (a.value-is, a.value-len_is) b.1;
      }

-- ---- the four promises
abbrev pub Left : List ℕ → ℕ → ℕ → ℕ → Out → Result TreeSize Refusal → List ℕ → List ℕ → List ℕ → Type 0
Left s n m z o r t u w = (r ≡ answer_of o) × ((t ≡ nodes_of n (read_out s o)) × ((u ≡ attr_cells m (read_out s o)) × (w ≡ strings_of z s o)))

module _ (s : List ℕ) (n m z : ℕ) where
  pub left_small : (t u w : List ℕ) → z < 65536 → t ≡ replicate n 0 → u ≡ replicate m 0 → w ≡ replicate z 0
      → Left s n m z (raw s n m z) (Err (record { number = 1; place = 0 })) t u w
  unfolding answer_of nodes_of attr_cells read_out strings_of
  left_small t u w h a b c = rw (raw-small s n m z h) (refl, (a, (b, c)))

  refused-out : (o : Out) (r : Refusal) (t u w : List ℕ) → Err r ≡ answer_of o → t ≡ nodes_of n o → u ≡ attr_cells m o → w ≡ replicate z 0
      → Left s n m z o (Err r) t u w
  unfolding answer_of nodes_of attr_cells read_out strings_of
  refused-out (got f q k a) r t u w e x y v = let d : ◌≡◌ {A = ℕ} 0 1 = cc in absurd (omega arith)
  refused-out (nothing q) r t u w e x y v = let d : ◌≡◌ {A = ℕ} 0 1 = cc in absurd (omega arith)
  refused-out (bad i q) r t u w e x y v = (e, (x, (y, v)))

  pub left_refused : (r : Refusal) (t u w : List ℕ) → 65536 ≤ z → Err r ≡ answer_of (meaning s n m) → t ≡ nodes_of n (meaning s n m) → u
      ≡ attr_cells m (meaning s n m)
      → w ≡ replicate z 0 → Left s n m z (raw s n m z) (Err r) t u w
  left_refused r t u w h e x y v = rw (raw-enough s n m z h) (refused-out (meaning s n m) r t u w e x y v)

  module _ (i j : ℕ) (t t' u u' y w : List ℕ) where
    tree-out : (o : Out) → ((f : Forest) (q k a : ℕ) → o ≡ got f q k a → InOrder 0 (spans f) (length s)) → tree_with i j ≡ answer_of o → t ≡ nodes_of n o
        → u ≡ attr_cells m o
        → t' ≡ nodes_read s t i → y ≡ node_strings_read s t (replicate z 0) i → u' ≡ attrs_read s u j → w ≡ attr_strings_read s u y j
        → Left s n m z o (tree_with i j) t' u' w
    unfolding answer_of nodes_of attr_cells read_out strings_of nodes_read node_strings_read attrs_read attr_strings_read
    tree-out (got f q k a) placed e et eu et' ey eu' ew =
        let v = ap values_of e in
        let ei : i ≡ size f = cc in
        let ej : j ≡ length (attrs_of f) = cc in
        let o : InOrder 0 (spans f) (length s) = placed f q k a refl in (
          e,
          (
            et' ∙ rw (ei, size-read s f) (nodes-pass s t _ f 0 et o),
            (
              eu' ∙ rw (ej, attrs-read s f, length_attrs_read s (attrs_of f)) (attrs-pass s u _ (attrs_of f) eu),
              ew ∙ rw (ey, ei, ej) (strings-pass s t u (replicate z 0) _ _ f 0 (length s) et eu o),
            ),
          ),
        )
    tree-out (nothing q) placed e et eu et' ey eu' ew =
        let v = ap values_of e in
        let ei : i ≡ 0 = cc in
        let ej : j ≡ 0 = cc in
        (e, (et' ∙ rw ei et, (eu' ∙ rw ej eu, ew ∙ rw (ej, ey, ei))))
    tree-out (bad x q) placed e et eu et' ey eu' ew = absurd (tree-bad (bad x q) i j x q e refl)

    pub left_tree : (b : List ℕ) → 65536 ≤ z → tree_with i j ≡ answer_of (meaning s n m) → t ≡ nodes_of n (meaning s n m) → u ≡ attr_cells m (meaning s n m)
        → b ≡ replicate z 0
        → t' ≡ nodes_read s t i → y ≡ node_strings_read s t b i → u' ≡ attrs_read s u j → w ≡ attr_strings_read s u y j
        → Left s n m z (raw s n m z) (tree_with i j) t' u' w
    left_tree b h e et eu eb et' ey eu' ew =
        rw (raw-enough s n m z h) (tree-out (meaning s n m) (λ f q k a. meaning-placed s n m f q k a) e et eu et' (ey ∙ rw eb) eu' ew)
