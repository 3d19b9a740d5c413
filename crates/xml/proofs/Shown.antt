-- The table of strings shows the text's tree with its entities read. Assumes nothing.
--     order_read                    the strings stay in order: with entities read none is longer
--     AtPlaces, lay-stands, strings-stand   every string stands at its place in the table
--     tree-shown                    the tree that the table shows is the text's tree with its entities read
use Prim.Native.Nat.{ℕ, suc, ◌+◌, ◌-◌, ◌≤◌}
use mathlib.Core.Path.{◌≡◌, refl, sym, ap, ◌∙◌}
use mathlib.Core.List.{List, [], ◌∷◌, ◌++◌}
use native.Mathlib.Omega.{arith}
use lib.ListN.{length, set, take, drop, replicate, length-replicate}
use lib.Seq.{sets, length-sets, take-set-le, take-add, drop_at, length-take-le}
use Rattle.scan.proofs.Stores.{sets_part}
use Rattle.entities.specs.Decode.{decoded}
use Rattle.tree.specs.Trees.{Attr, Forest, nil, text, section, elem, attr_spans, spans, InOrder}
use Rattle.tree.proofs.Places.{in_lower, in_append, in_whole, in_first, in_rest}
use Rattle.grammar.specs.Demand.{decode_attrs, decode_tree, decode_forest}
use Rattle.scan.specs.Part.{string_at}
use Rattle.derivation.specs.Strings.{attr_in, attrs_in, tree_in}
use Rattle.xml.specs.Reading.{Placed, lay}
use Rattle.xml.specs.Steps.{attr_strings, strings, read_attrs, read_forest}
use Rattle.xml.proofs.PassForests.{string_long}
use Rattle.xml.proofs.Lays.{Split, in_split, read_short, Ordered, ordered_whole, strings-ordered}

-- ---- the strings stay in order
module _ (s : List ℕ) where
  order_attrs : (l : List Attr) (lo hi : ℕ) → InOrder lo (attr_spans l) hi → InOrder lo (attr_spans (read_attrs s l)) hi
  unfolding attr_spans read_attrs
  order_attrs [] lo hi i = i
  order_attrs (x ∷ l) lo hi i =
      let d : ℕ = length (decoded (string_at s x.value x.value_len)) in (
        i.0,
        (
          i.1.0,
          in_lower (attr_spans (read_attrs s l)) (x.value + d) (x.value + x.value_len) hi (omega (arith, read_short s x.value x.value_len))
              (order_attrs l (x.value + x.value_len) hi i.1.1),
        ),
      )

  pub order_read : (f : Forest) (lo hi : ℕ) → InOrder lo (spans f) hi → InOrder lo (spans (read_forest s f)) hi
  unfolding spans read_forest
  order_read nil lo hi i = i
  order_read (text p n f) lo hi i = (
    i.0,
    in_lower (spans (read_forest s f)) (p + length (decoded (string_at s p n))) (p + n) hi (omega (arith, read_short s p n))
        (order_read f (p + n) hi i.1),
  )
  order_read (section p n f) lo hi i = (i.0, order_read f (p + n) hi i.1)
  order_read (elem p n l c f) lo hi i =
      let a : Split (p + 1 + n) (attr_spans l) (spans c ++ spans f) hi = in_split (attr_spans l) (spans c ++ spans f) (p + 1 + n) hi i.1 in
      let b : Split a.mid (spans c) (spans f) hi = in_split (spans c) (spans f) a.mid hi a.rest in (
        i.0,
        in_append (attr_spans (read_attrs s l)) (spans (read_forest s c) ++ spans (read_forest s f)) (p + 1 + n) a.mid hi
            (order_attrs l (p + 1 + n) a.mid a.first)
            (in_append (spans (read_forest s c)) (spans (read_forest s f)) a.mid b.mid hi (order_read c a.mid b.mid b.first)
            (order_read f b.mid hi b.rest)),
      )

-- ---- every string stands at its place
take_sets : (w z : List ℕ) (m q : ℕ) → m ≤ q → take m (sets z q w) ≡ take m z
take_sets [] z m q h = refl
take_sets (y ∷ w) z m q h = take_sets w (set z q y) m (suc q) (omega arith) ∙ take-set-le m z q y h

part-take : (z : List ℕ) (p n : ℕ) → p ≤ length z → take n (drop p z) ≡ drop p (take (p + n) z)
part-take z p n h = sym (ap (drop p) (take-add p n z) ∙ drop_at (take p z) (take n (drop p z)) p (length-take-le p z h))

-- what is laid after it leaves a string as it is
string_below : (z w : List ℕ) (p n q : ℕ) → p + n ≤ q → p ≤ length z → string_at (sets z q w) p n ≡ string_at z p n
unfolding string_at
string_below z w p n q h g =
    let e : p + n - p ≡ n = omega arith in
    let l : p ≤ length (sets z q w) = rw (length-sets z q w) g in
    rw e (part-take (sets z q w) p n l ∙ (ap (drop p) (take_sets w z (p + n) q h) ∙ sym (part-take z p n g)))

lay-below : (l : List Placed) (z : List ℕ) (p n lo hi : ℕ) → Ordered lo l hi → p + n ≤ lo → p ≤ length z → string_at (lay z l) p n ≡ string_at z p n
unfolding lay
lay-below [] z p n lo hi o h g = refl
lay-below (x ∷ l) z p n lo hi o h g =
    let k : p ≤ length (sets z x.place x.bytes) = rw (length-sets z x.place x.bytes) g in
    lay-below l (sets z x.place x.bytes) p n (x.place + length x.bytes) hi o.1 (omega (arith, o.0)) k
    ∙ string_below z x.bytes p n x.place (omega (arith, o.0)) g

string_laid : (z w : List ℕ) (p : ℕ) → p + length w ≤ length z → string_at (sets z p w) p (length w) ≡ w
unfolding string_at
string_laid z w p h = let e : p + length w - p ≡ length w = omega arith in rw e (sets_part w z p h)

abbrev pub AtPlaces : List ℕ → List Placed → Type 0
AtPlaces z [] = Unit {0}
AtPlaces z (x ∷ l) = (string_at z x.place (length x.bytes) ≡ x.bytes) × AtPlaces z l

pub lay-stands : (l : List Placed) (z : List ℕ) (lo hi : ℕ) → Ordered lo l hi → hi ≤ length z → AtPlaces (lay z l) l
unfolding lay
lay-stands [] z lo hi o h = tt
lay-stands (x ∷ l) z lo hi o h =
    let y : List ℕ = sets z x.place x.bytes in
    let k : length y ≡ length z = length-sets z x.place x.bytes in
    let r : x.place + length x.bytes ≤ hi = ordered_whole l (x.place + length x.bytes) hi o.1 in (
      lay-below l y x.place (length x.bytes) (x.place + length x.bytes) hi o.1 (omega arith) (omega arith)
          ∙ string_laid z x.bytes x.place (omega arith),
      lay-stands l y (x.place + length x.bytes) hi o.1 (omega arith),
    )

pub at_places_split : (z : List ℕ) (a b : List Placed) → AtPlaces z (a ++ b) → AtPlaces z a × AtPlaces z b
at_places_split z [] b h = (tt, h)
at_places_split z (x ∷ a) b h = let r = at_places_split z a b h.1 in ((h.0, r.0), r.1)

-- ---- the tree that is shown
module _ (s y : List ℕ) where
  -- a string that is as it was
  same_string : (p n : ℕ) → p + n ≤ length s → string_at y p (length (string_at s p n)) ≡ string_at s p n → string_at y p n ≡ string_at s p n
  same_string p n h e = rw (string_long s p n h) at e

  attrs-shown : (l : List Attr) (lo : ℕ) → InOrder lo (attr_spans l) (length s) → AtPlaces y (attr_strings s l) → attrs_in y (read_attrs s l)
      ≡ decode_attrs decoded (attrs_in s l)
  unfolding attr_spans attr_strings attrs_in attr_in read_attrs decode_attrs
  attrs-shown [] lo i a = refl
  attrs-shown (x ∷ l) lo i a =
      let v : x.value + x.value_len ≤ length s = in_whole (attr_spans l) (x.value + x.value_len) (length s) i.1.1 in
      rw (same_string x.name x.name_len (omega (arith, i.1.0)) a.0, a.1.0, attrs-shown l (x.value + x.value_len) i.1.1 a.1.1)

  shown : (f : Forest) (lo : ℕ) → InOrder lo (spans f) (length s) → AtPlaces y (strings s f) → tree_in y (read_forest s f)
      ≡ decode_forest decoded (tree_in s f)
  unfolding spans strings tree_in read_forest decode_tree decode_forest
  shown nil lo i a = refl
  shown (text p n f) lo i a = rw (a.0, shown f (p + n) i.1 a.1)
  shown (section p n f) lo i a = rw (same_string p n (in_whole (spans f) (p + n) (length s) i.1) a.0, shown f (p + n) i.1 a.1)
  shown (elem p n l c f) lo i a =
      let g : InOrder (p + 1 + n) (spans c ++ spans f) (length s) = in_rest (attr_spans l) (spans c ++ spans f) (p + 1 + n) (length s) i.1 in
      let d = at_places_split y (attr_strings s l) (strings s c ++ strings s f) a.1 in
      let e = at_places_split y (strings s c) (strings s f) d.1 in
      rw (
        same_string (p + 1) n (in_whole (spans c ++ spans f) (p + 1 + n) (length s) g) a.0,
        attrs-shown l (p + 1 + n) (in_first (attr_spans l) (spans c ++ spans f) (p + 1 + n) (length s) i.1) d.0,
        shown c (p + 1 + n) (in_first (spans c) (spans f) (p + 1 + n) (length s) g) e.0,
        shown f (p + 1 + n) (in_rest (spans c) (spans f) (p + 1 + n) (length s) g) e.1,
      )

-- ---- of a forest whose strings stand in order in the text, with a table that is no shorter
module _ (s : List ℕ) (f : Forest) (lo m : ℕ) (placed : InOrder lo (spans f) (length s)) (room : length s ≤ m) where
  pub strings-stand : AtPlaces (lay (replicate m 0) (strings s f)) (strings s f)
  strings-stand =
      lay-stands (strings s f) (replicate m 0) lo (length s) (strings-ordered s f lo (length s) placed) (rw (length-replicate {A = ℕ} m 0) room)

  pub tree-shown : tree_in (lay (replicate m 0) (strings s f)) (read_forest s f) ≡ decode_forest decoded (tree_in s f)
  tree-shown = shown s (lay (replicate m 0) (strings s f)) f lo placed strings-stand
