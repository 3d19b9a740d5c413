-- Reading the two tables back. Assumes nothing.
--     rows-cells, rows-wide, rows-many, row-fits, attr-fits   row by row
--     items-many, items-spans, items-attrs, item-at   the same in document order, with strings and attributes
--     cell-at, root-fits, root_room, attrs-room       the same of the tables that the reader leaves
--     root, on_text, on_section, on_elem, room        node by node, in the table of nodes
--     root-attrs, on_attr, attr-at, on_attrs          attribute by attribute
--     placed_text, placed_section, placed_elem        the order of strings, node by node
use Prim.Native.Nat.{ℕ, zero, suc, ◌+◌, ◌-◌, ◌*◌, ◌≤◌, ◌<◌}
use mathlib.Core.Path.{◌≡◌, refl, sym, ap, ◌∙◌}
use mathlib.Core.List.{List, [], ◌∷◌, ◌++◌, append_assoc}
use native.Mathlib.Omega.{arith}
use native.Mathlib.Nat.{sub-zero}
use lib.ListN.{length, get_or, drop, replicate, length-append, length-drop}
use lib.Seq.{get_or-drop, drop-drop, drop_at}
use Rattle.tree.specs.Trees.{Attr, Forest, nil, text, section, elem, size, attrs_of, row, rows, attr_row, attr_rows, attr_spans, spans, InOrder}
use Rattle.tree.specs.Read.{Out, got, nothing, bad, meaning, nodes_of, attr_cells}
use Rattle.tree.specs.Walks.{tree_of, Stands, RowIs, Listed, AttrIs}
use Rattle.tree.proofs.Tags.{length_attr_rows, attr_rows-append}
use Rattle.tree.proofs.Forests.{length_rows}
use Rattle.tree.proofs.Places.{in_whole, in_first, in_rest, meaning-placed}

-- every attribute's name and value lie within the bound
abbrev Within : ℕ → List Attr → Type 0
Within hi [] = Unit {0}
Within hi (x ∷ l) = (x.name + x.name_len ≤ hi) × (x.value + x.value_len ≤ hi) × Within hi l

within-append : (hi : ℕ) (a b : List Attr) → Within hi a → Within hi b → Within hi (a ++ b)
within-append hi [] b h g = g
within-append hi (x ∷ a) b h g = (h.0, h.1, within-append hi a b h.2 g)

within-tag : (l : List Attr) (lo hi : ℕ) → InOrder lo (attr_spans l) hi → Within hi l
unfolding attr_spans
within-tag [] lo hi i = tt
within-tag (x ∷ l) lo hi i =
    let v : x.value + x.value_len ≤ hi = in_whole (attr_spans l) (x.value + x.value_len) hi i.1.1 in
    (omega (arith, i.1.0), v, within-tag l (x.value + x.value_len) hi i.1.1)

within : (f : Forest) (lo hi : ℕ) → InOrder lo (spans f) hi → Within hi (attrs_of f)
unfolding spans attrs_of
within nil lo hi i = tt
within (text p n f) lo hi i = within f (p + n) hi i.1
within (section p n f) lo hi i = within f (p + n) hi i.1
within (elem p n l c f) lo hi i =
    let r : InOrder (p + 1 + n) (spans c ++ spans f) hi = in_rest (attr_spans l) (spans c ++ spans f) (p + 1 + n) hi i.1 in
    within-append hi l (attrs_of c ++ attrs_of f) (within-tag l (p + 1 + n) hi (in_first (attr_spans l) (spans c ++ spans f) (p + 1 + n) hi i.1))
    (within-append hi (attrs_of c) (attrs_of f) (within c (p + 1 + n) hi (in_first (spans c) (spans f) (p + 1 + n) hi r))
    (within f (p + 1 + n) hi (in_rest (spans c) (spans f) (p + 1 + n) hi r)))

within-at : (none : Attr) (hi : ℕ) (l : List Attr) (j : ℕ) → Within hi l → j < length l → ((get_or l j none).name + (get_or l j none).name_len ≤ hi)
    × ((get_or l j none).value + (get_or l j none).value_len ≤ hi)
within-at none hi [] j h g = absurd (omega arith)
within-at none hi (x ∷ l) zero h g = (h.0, h.1)
within-at none hi (x ∷ l) (suc j) h g = within-at none hi l j h.2 (omega arith)

pub attr-fits : (none : Attr) (f : Forest) (lo hi j : ℕ) → InOrder lo (spans f) hi → j < length (attrs_of f)
    → ((get_or (attrs_of f) j none).name + (get_or (attrs_of f) j none).name_len ≤ hi)
    × ((get_or (attrs_of f) j none).value + (get_or (attrs_of f) j none).value_len ≤ hi)
attr-fits none f lo hi j i h = within-at none hi (attrs_of f) j (within f lo hi i) h

-- ---- the table of nodes that the reader leaves
nodes-of : (n : ℕ) (o : Out) → nodes_of n o ≡ rows 0 0 (tree_of o) ++ replicate (n - size (tree_of o) * 6) 0
unfolding nodes_of tree_of size rows
nodes-of n (got f q k a) = refl
nodes-of n (nothing q) = rw (sub-zero n)
nodes-of n (bad m q) = rw (sub-zero n)

attrs-of : (n : ℕ) (o : Out) → attr_cells n o ≡ attr_rows (attrs_of (tree_of o)) ++ replicate (n - length (attrs_of (tree_of o)) * 4) 0
unfolding attr_cells tree_of attrs_of attr_rows
attrs-of n (got f q k a) = refl
attrs-of n (nothing q) = rw (sub-zero n)
attrs-of n (bad m q) = rw (sub-zero n)

tree_placed : (s : List ℕ) (o : Out) → ((f : Forest) (q k a : ℕ) → o ≡ got f q k a → InOrder 0 (spans f) (length s))
    → InOrder 0 (spans (tree_of o)) (length s)
unfolding tree_of spans
tree_placed s (got f q k a) h = h f q k a refl
tree_placed s (nothing q) h = omega arith
tree_placed s (bad n q) h = omega arith

-- the strings of the tree that a text means, whatever the tables
pub root_placed : (s : List ℕ) (n m : ℕ) → InOrder 0 (spans (tree_of (meaning s n m))) (length s)
root_placed s n m = tree_placed s (meaning s n m) (λ f q k a e. meaning-placed s n m f q k a e)

module _ (s t : List ℕ) (n m : ℕ) (left : t ≡ nodes_of n (meaning s n m)) where
  abbrev pub forest : Forest
  forest = tree_of (meaning s n m)

  pub root_room : size forest * 6 ≤ length t
  root_room =
      let z : List ℕ = replicate (n - size forest * 6) 0 in
      let e : length t ≡ length (rows 0 0 forest ++ z) = ap length (left ∙ nodes-of n (meaning s n m)) in
      omega (arith, e, length-append (rows 0 0 forest) z, length_rows forest 0 0)

  pub root : Stands t 0 0 forest
  root = record { tail = _; is = left ∙ nodes-of n (meaning s n m) }

pub root-attrs : (s u : List ℕ) (n m : ℕ) → u ≡ attr_cells m (meaning s n m) → Listed u 0 (attrs_of (tree_of (meaning s n m)))
root-attrs s u n m left = record { tail = _; is = left ∙ attrs-of m (meaning s n m) }

pub attrs-room : (s u : List ℕ) (n m : ℕ) → u ≡ attr_cells m (meaning s n m) → length (attrs_of (tree_of (meaning s n m))) * 4 ≤ length u
attrs-room s u n m left =
    let l : List Attr = attrs_of (tree_of (meaning s n m)) in
    let z : List ℕ = replicate (m - length l * 4) 0 in
    let e : length u ≡ length (attr_rows l ++ z) = ap length (left ∙ attrs-of m (meaning s n m)) in
    omega (arith, e, length-append (attr_rows l) z, length_attr_rows l)

-- ---- node by node
-- what stands m cells after row i
past-cells : (t l : List ℕ) (i e m : ℕ) → drop (i * 6) t ≡ l → e * 6 ≡ i * 6 + m → drop (e * 6) t ≡ drop m l
past-cells t l i e m w z = rw (z, ← (drop-drop m (i * 6) t), w)

row_is : (t : List ℕ) (i kind end place len first many : ℕ) (l : List ℕ) → drop (i * 6) t ≡ row kind end place len first many ++ l
    → RowIs t i kind end place len first many
unfolding row
row_is t i kind end place len first many l e = record {
  kind_is = cell-0;
  end_is = cell 1 end refl;
  place_is = cell 2 place refl;
  len_is = cell 3 len refl;
  first-is = cell 4 first refl;
  many_is = cell 5 many refl;
}
  where
    r : List ℕ
    r = kind ∷ end ∷ place ∷ len ∷ first ∷ many ∷ l

    cell : (j v : ℕ) → get_or r j 0 ≡ v → get_or t (i * 6 + j) 0 ≡ v
    cell j v w = sym (get_or-drop (i * 6) t j 0) ∙ (ap (λ (x : List ℕ). get_or x j 0) e ∙ w)

    cell-0 : get_or t (i * 6) 0 ≡ kind
    cell-0 = let z : i * 6 + 0 ≡ i * 6 = omega arith in rw z at (cell 0 kind refl)

module _ (t : List ℕ) (i a p n : ℕ) where
  pub on_text : (f : Forest) → Stands t i a (text p n f) → RowIs t i 1 (i + 1) p n 0 0 × Stands t (i + 1) a f
  unfolding rows row
  on_text f x = (
    row_is t i 1 (i + 1) p n 0 0 (rows (i + 1) a f ++ x.tail) x.is,
    record { tail = x.tail; is = past-cells t _ i (i + 1) 6 x.is (omega arith) },
  )

  pub on_section : (f : Forest) → Stands t i a (section p n f) → RowIs t i 3 (i + 1) p n 0 0 × Stands t (i + 1) a f
  unfolding rows row
  on_section f x = (
    row_is t i 3 (i + 1) p n 0 0 (rows (i + 1) a f ++ x.tail) x.is,
    record { tail = x.tail; is = past-cells t _ i (i + 1) 6 x.is (omega arith) },
  )

  pub on_elem : (l : List Attr) (c f : Forest) → Stands t i a (elem p n l c f)
      → RowIs t i 2 (i + 1 + size c) p n a (length l) × Stands t (i + 1) (a + length l) c
      × Stands t (i + 1 + size c) (a + length l + length (attrs_of c)) f
  unfolding rows row
  on_elem l c f x =
      let b : ℕ = a + length l in
      let d : ℕ = a + length l + length (attrs_of c) in
      let q : List ℕ = rows (i + 1) b c in
      let r : List ℕ = rows (i + 1 + size c) d f in
      let j : length q ≡ size c * 6 = length_rows c (i + 1) b in (
        row_is t i 2 (i + 1 + size c) p n a (length l) ((q ++ r) ++ x.tail) x.is,
        record { tail = r ++ x.tail; is = past-cells t _ i (i + 1) 6 x.is (omega arith) ∙ append_assoc q r x.tail },
        record {
          tail = x.tail;
          is = past-cells t _ i (i + 1 + size c) (6 + size c * 6) x.is (omega arith)
              ∙ (sym (drop-drop (size c * 6) 6 _) ∙ rw (append_assoc q r x.tail) (drop_at q (r ++ x.tail) (size c * 6) j));
        },
      )

-- the rows of a forest that has some are within the table
pub room : (t : List ℕ) (i a : ℕ) (f : Forest) → Stands t i a f → 0 < size f → (i + size f) * 6 ≤ length t
room t i a f x h =
    let e : length (drop (i * 6) t) ≡ length (rows i a f ++ x.tail) = ap length x.is in
    omega (arith, e, length-drop (i * 6) t, length-append (rows i a f) x.tail, length_rows f i a)

-- ---- attribute by attribute
pub on_attr : (u : List ℕ) (j : ℕ) (x : Attr) (l : List Attr) → Listed u j (x ∷ l) → AttrIs u j x × Listed u (j + 1) l
unfolding attr_rows attr_row
on_attr u j x l y = (
  record { name_is = cell-0; name_len_is = cell 1 x.name_len refl; value-is = cell 2 x.value refl; value-len_is = cell 3 x.value_len refl },
  record { tail = y.tail; is = let z : (j + 1) * 4 ≡ j * 4 + 4 = omega arith in rw (z, ← (drop-drop 4 (j * 4) u), y.is) },
)
  where
    r : List ℕ
    r = x.name ∷ x.name_len ∷ x.value ∷ x.value_len ∷ (attr_rows l ++ y.tail)

    cell : (k v : ℕ) → get_or r k 0 ≡ v → get_or u (j * 4 + k) 0 ≡ v
    cell k v w = sym (get_or-drop (j * 4) u k 0) ∙ (ap (λ (z : List ℕ). get_or z k 0) y.is ∙ w)

    cell-0 : get_or u (j * 4) 0 ≡ x.name
    cell-0 = let z : j * 4 + 0 ≡ j * 4 = omega arith in rw z at (cell 0 x.name refl)

-- the i-th of them
pub attr-at : (none : Attr) (u : List ℕ) (j i : ℕ) (l : List Attr) → Listed u j l → i < length l → AttrIs u (j + i) (get_or l i none)
attr-at none u j i [] y h = absurd (omega arith)
attr-at none u j zero (x ∷ l) y h = let z : j + 0 ≡ j = omega arith in rw z (on_attr u j x l y).0
attr-at none u j (suc i) (x ∷ l) y h =
    let z : j + suc i ≡ j + 1 + i = omega arith in
    rw z (attr-at none u (j + 1) i l (on_attr u j x l y).1 (omega arith))

-- two lists of attributes, one after the other
pub on_attrs : (u : List ℕ) (j : ℕ) (a b : List Attr) → Listed u j (a ++ b) → Listed u j a × Listed u (j + length a) b
on_attrs u j a b y =
    let e : drop (j * 4) u ≡ attr_rows a ++ (attr_rows b ++ y.tail) = y.is
    ∙ rw (attr_rows-append a b) (append_assoc (attr_rows a) (attr_rows b) y.tail) in
    let z : (j + length a) * 4 ≡ j * 4 + length a * 4 = omega arith in (
      record { tail = attr_rows b ++ y.tail; is = e },
      record {
        tail = y.tail;
        is = rw (
          z,
          ← (drop-drop (length a * 4) (j * 4) u),
          e,
        ) (drop_at (attr_rows a) (attr_rows b ++ y.tail) (length a * 4) (length_attr_rows a));
      },
    )

-- ---- the order of strings, node by node
module _ (lo hi p n : ℕ) where
  pub placed_text : (f : Forest) → InOrder lo (spans (text p n f)) hi → (lo ≤ p) × InOrder (p + n) (spans f) hi
  unfolding spans
  placed_text f i = i

  pub placed_section : (f : Forest) → InOrder lo (spans (section p n f)) hi → (lo ≤ p) × InOrder (p + n) (spans f) hi
  unfolding spans
  placed_section f i = i

  pub placed_elem : (l : List Attr) (c f : Forest) → InOrder lo (spans (elem p n l c f)) hi → (lo ≤ p + 1)
      × InOrder (p + 1 + n) (attr_spans l ++ (spans c ++ spans f)) hi
  unfolding spans
  placed_elem l c f i = i
