-- The two passes over the rows that a forest has in the tables. Assumes nothing.
--     size-read, attrs-read, length_attrs_read    the forest with its entities read has the same nodes and attributes
--     string_long                                 a string within the text is as long as it says
--     text-bytes, section-bytes, element-bytes    what is written for a row of each kind, and where
--     pass_forest, pass_strings                   the pass over a forest's rows
--     pass_attrs, pass_attr_strings               the pass over attributes' rows
--     nodes-pass, attrs-pass, strings-pass        the same of whole tables
use Prim.Native.Nat.{ℕ, suc, ◌+◌, ◌-◌, ◌*◌, ◌≤◌, ◌<◌}
use mathlib.Core.Path.{◌≡◌, refl, sym, ap, ◌∙◌}
use mathlib.Core.List.{List, [], ◌∷◌, ◌++◌}
use native.Mathlib.Omega.{arith}
use native.Mathlib.Numerals.{add-one, add-two, add-three, add-four, add_five}
use lib.ListN.{length, get_or, set, drop, length-append, length-drop}
use lib.Seq.{sets, sets-eq, set-get_or, get_or-set_other, length-take-le, drop_at}
use Rattle.scan.proofs.Stores.{sets_on}
use Rattle.entities.specs.Decode.{decoded}
use Rattle.tree.specs.Trees.{Attr, Forest, nil, text, section, elem, size, attrs_of, row, rows, attr_row, attr_rows, attr_spans, spans, InOrder}
use Rattle.tree.specs.Walks.{Stands, RowIs, Listed, AttrIs}
use Rattle.tree.proofs.Tags.{length_attr_rows}
use Rattle.tree.proofs.Forests.{length_rows}
use Rattle.tree.proofs.Places.{in_whole, in_first, in_rest}
use Rattle.tree.proofs.Walks.{on_text, on_section, on_elem, on_attr}
use Rattle.scan.specs.Part.{string_at}
use Rattle.xml.specs.Reading.{lay}
use Rattle.xml.specs.Steps.{attr_strings, strings, read_attrs, read_forest}
use Rattle.xml.specs.Steps.{node_place, node_bytes, nodes_read, node_strings_read, value_bytes, attrs_read, attr_written, attr_strings_read}
use Rattle.xml.proofs.PassLaws.{nodes-after, attrs-after}
use Rattle.xml.proofs.Lays.{lay-append, node_strings, gathered}

-- ---- as many nodes and attributes
module _ (s : List ℕ) where
  pub length_attrs_read : (l : List Attr) → length (read_attrs s l) ≡ length l
  unfolding read_attrs
  length_attrs_read [] = refl
  length_attrs_read (x ∷ l) = ap suc (length_attrs_read l)

  attrs-read_append : (a b : List Attr) → read_attrs s (a ++ b) ≡ read_attrs s a ++ read_attrs s b
  unfolding read_attrs
  attrs-read_append [] b = refl
  attrs-read_append (x ∷ a) b = rw (attrs-read_append a b)

  pub attrs-read : (f : Forest) → attrs_of (read_forest s f) ≡ read_attrs s (attrs_of f)
  unfolding attrs_of read_forest read_attrs
  attrs-read nil = refl
  attrs-read (text p n f) = attrs-read f
  attrs-read (section p n f) = attrs-read f
  attrs-read (elem p n l c f) =
      rw (attrs-read_append l (attrs_of c ++ attrs_of f), attrs-read_append (attrs_of c) (attrs_of f), attrs-read c, attrs-read f)

  pub size-read : (f : Forest) → size (read_forest s f) ≡ size f
  unfolding size read_forest
  size-read nil = refl
  size-read (text p n f) = rw (size-read f)
  size-read (section p n f) = rw (size-read f)
  size-read (elem p n l c f) = rw (size-read c, size-read f)

  many_read : (f : Forest) → length (attrs_of (read_forest s f)) ≡ length (attrs_of f)
  many_read f = ap length (attrs-read f) ∙ length_attrs_read (attrs_of f)

  pub string_long : (p n : ℕ) → p + n ≤ length s → length (string_at s p n) ≡ n
  unfolding string_at
  string_long p n h = let e : p + n - p ≡ n = omega arith in rw e (length-take-le n (drop p s) (simp length-drop (omega arith)))

-- ---- a row with another length
same_set : (t : List ℕ) (j v : ℕ) → get_or t j 0 ≡ v → set t j v ≡ t
same_set t j v e = rw (← e) (set-get_or t j 0)

-- a cell after one that was set
after-set : (t : List ℕ) (i j x v : ℕ) → i < j → get_or t j 0 ≡ v → set (set t i x) j v ≡ set t i x
after-set t i j x v h e = same_set (set t i x) j v (get_or-set_other t i j x 0 (λ w. omega arith) ∙ e)

row-set : (t : List ℕ) (j a b c x d e : ℕ) → get_or t j 0 ≡ a → get_or t (j + 1) 0 ≡ b → get_or t (j + 2) 0 ≡ c → get_or t (j + 4) 0 ≡ d → get_or t (j + 5) 0
    ≡ e
    → set t (j + 3) x ≡ sets t j (row a b c x d e)
unfolding row
row-set t j a b c x d e ea eb ec ed ee =
    let eb' : get_or t (suc j) 0 ≡ b = rw (add-one j) at eb in
    let ec' : get_or t (suc (suc j)) 0 ≡ c = rw (add-two j) at ec in
    let ed' : get_or t (suc (suc (suc (suc j)))) 0 ≡ d = rw (add-four j) at ed in
    let ee' : get_or t (suc (suc (suc (suc (suc j))))) 0 ≡ e = rw (add_five j) at ee in
    rw (
      add-three j,
      same_set t j a ea,
      same_set t (suc j) b eb',
      same_set t (suc (suc j)) c ec',
      after-set t (suc (suc (suc j))) (suc (suc (suc (suc j)))) x d (omega arith) ed',
      after-set t (suc (suc (suc j))) (suc (suc (suc (suc (suc j))))) x e (omega arith) ee',
    )

attr-row_set : (u : List ℕ) (j a b c x : ℕ) → get_or u j 0 ≡ a → get_or u (j + 1) 0 ≡ b → get_or u (j + 2) 0 ≡ c → set u (j + 3) x
    ≡ sets u j (a ∷ b ∷ c ∷ x ∷ [])
attr-row_set u j a b c x ea eb ec =
    let eb' : get_or u (suc j) 0 ≡ b = rw (add-one j) at eb in
    let ec' : get_or u (suc (suc j)) 0 ≡ c = rw (add-two j) at ec in
    rw (add-three j, same_set u j a ea, same_set u (suc j) b eb', same_set u (suc (suc j)) c ec')

-- ---- nodes
module _ (s t : List ℕ) where
  -- what is written for each kind
  module _ (k end p n first many : ℕ) where
    pub text-bytes : RowIs t k 1 end p n first many → (node_place t k ≡ p) × (node_bytes s t k ≡ decoded (string_at s p n))
    unfolding node_bytes node_place
    text-bytes r = (rw (r.kind_is, r.place_is), rw (r.kind_is, r.place_is, r.len_is))

    pub section-bytes : RowIs t k 3 end p n first many → (node_place t k ≡ p) × (node_bytes s t k ≡ string_at s p n)
    unfolding node_bytes node_place
    section-bytes r = (rw (r.kind_is, r.place_is), rw (r.kind_is, r.place_is, r.len_is))

    pub element-bytes : RowIs t k 2 end p n first many → (node_place t k ≡ p + 1) × (node_bytes s t k ≡ string_at s (p + 1) n)
    unfolding node_bytes node_place
    element-bytes r = (rw (r.kind_is, r.place_is), rw (r.kind_is, r.place_is, r.len_is))

    row_read : (kind : ℕ) (w : List ℕ) → RowIs t k kind end p n first many → node_bytes s t k ≡ w
        → nodes_read s t (k + 1) ≡ sets (nodes_read s t k) (k * 6) (row kind end p (length w) first many)
    unfolding nodes_read
    row_read kind w r e =
        let old : (i : ℕ) → k * 6 ≤ i → get_or (nodes_read s t k) i 0 ≡ get_or t i 0 = nodes-after s t k in
        rw (add-one k, e)
        (row-set (nodes_read s t k) (k * 6) kind end p (length w) first many (old (k * 6) (omega arith) ∙ r.kind_is) (old (k * 6 + 1) (omega arith)
        ∙ r.end_is)
        (old (k * 6 + 2) (omega arith) ∙ r.place_is) (old (k * 6 + 4) (omega arith) ∙ r.first-is) (old (k * 6 + 5) (omega arith) ∙ r.many_is))

    string_read : (z : List ℕ) (q : ℕ) (w : List ℕ) → (node_place t k ≡ q) × (node_bytes s t k ≡ w) → node_strings_read s t z (k + 1)
        ≡ sets (node_strings_read s t z k) q w
    unfolding node_strings_read
    string_read z q w e = rw (add-one k, e.0, e.1)

  -- a row, and the rows after it
  rows_on : (k m kind end p n first many : ℕ) (w : List ℕ) → nodes_read s t (k + 1) ≡ sets (nodes_read s t k) (k * 6) (row kind end p n first many)
      → nodes_read s t m ≡ sets (nodes_read s t (k + 1)) ((k + 1) * 6) w
      → nodes_read s t m ≡ sets (nodes_read s t k) (k * 6) (row kind end p n first many ++ w)
  unfolding row
  rows_on k m kind end p n first many w e f =
      sets_on (row kind end p n first many) w (nodes_read s t k) (nodes_read s t (k + 1)) (nodes_read s t m) (k * 6) ((k + 1) * 6) e f (omega arith)

  pub pass_forest : (f : Forest) (k a lo : ℕ) → Stands t k a f → InOrder lo (spans f) (length s)
      → nodes_read s t (k + size f) ≡ sets (nodes_read s t k) (k * 6) (rows k a (read_forest s f))
  unfolding size rows spans read_forest
  pass_forest nil k a lo st i = let z : k + 0 ≡ k = omega arith in rw z
  pass_forest (text p n f) k a lo st i =
      let o = on_text t k a p n f st in
      let z : k + (1 + size f) ≡ k + 1 + size f = omega arith in
      rw z (rows_on k (k + 1 + size f) 1 (k + 1) p (length (decoded (string_at s p n))) 0 0 (rows (k + 1) a (read_forest s f))
      (row_read k (k + 1) p n 0 0 1 (decoded (string_at s p n)) o.0 (text-bytes k (k + 1) p n 0 0 o.0).1)
      (pass_forest f (k + 1) a (p + n) o.1 i.1))
  pass_forest (section p n f) k a lo st i =
      let o = on_section t k a p n f st in
      let z : k + (1 + size f) ≡ k + 1 + size f = omega arith in
      let l : length (string_at s p n) ≡ n = string_long s p n (in_whole (spans f) (p + n) (length s) i.1) in
      rw z (rows_on k (k + 1 + size f) 3 (k + 1) p n 0 0 (rows (k + 1) a (read_forest s f))
      (rw l at (row_read k (k + 1) p n 0 0 3 (string_at s p n) o.0 (section-bytes k (k + 1) p n 0 0 o.0).1))
      (pass_forest f (k + 1) a (p + n) o.1 i.1))
  pass_forest (elem p n l c f) k a lo st i =
      let b : ℕ = a + length l in
      let d : ℕ = a + length l + length (attrs_of c) in
      let e : ℕ = k + 1 + size c in
      let o = on_elem t k a p n l c f st in
      let z : k + (1 + size c + size f) ≡ e + size f = omega arith in
      let g : InOrder (p + 1 + n) (spans c ++ spans f) (length s) = in_rest (attr_spans l) (spans c ++ spans f) (p + 1 + n) (length s) i.1 in
      let w : length (string_at s (p + 1) n) ≡ n = string_long s (p + 1) n (in_whole (spans c ++ spans f) (p + 1 + n) (length s) g) in
      let q : List ℕ = rows (k + 1) b (read_forest s c) in
      let r : List ℕ = rows e d (read_forest s f) in
      let x : nodes_read s t e ≡ sets (nodes_read s t (k + 1)) ((k + 1) * 6) q =
      pass_forest c (k + 1) b (p + 1 + n) o.1 (in_first (spans c) (spans f) (p + 1 + n) (length s) g) in
      let y : nodes_read s t (e + size f) ≡ sets (nodes_read s t e) (e * 6) r =
      pass_forest f e d (p + 1 + n) o.2 (in_rest (spans c) (spans f) (p + 1 + n) (length s) g) in
      let v : nodes_read s t (e + size f) ≡ sets (nodes_read s t (k + 1)) ((k + 1) * 6) (q ++ r)
      = sets_on q r (nodes_read s t (k + 1)) (nodes_read s t e) (nodes_read s t (e + size f)) ((k + 1) * 6) (e * 6) x y
      (omega (arith, length_rows (read_forest s c) (k + 1) b, size-read s c)) in
      rw (z, size-read s c, length_attrs_read s l, many_read s c) (rows_on k (e + size f) 2 e p n a (length l) (q ++ r)
      (rw w at (row_read k e p n a (length l) 2 (string_at s (p + 1) n) o.0 (element-bytes k e p n a (length l) o.0).1)) v)

  pub pass_strings : (z : List ℕ) (f : Forest) (k a : ℕ) → Stands t k a f → node_strings_read s t z (k + size f)
      ≡ lay (node_strings_read s t z k) (node_strings s f)
  unfolding size node_strings lay
  pass_strings z nil k a st = let e : k + 0 ≡ k = omega arith in rw e
  pass_strings z (text p n f) k a st =
      let o = on_text t k a p n f st in
      let e : k + (1 + size f) ≡ k + 1 + size f = omega arith in
      rw e (pass_strings z f (k + 1) a o.1 ∙ rw (string_read k (k + 1) p n 0 0 z p (decoded (string_at s p n))
      (text-bytes k (k + 1) p n 0 0 o.0)))
  pass_strings z (section p n f) k a st =
      let o = on_section t k a p n f st in
      let e : k + (1 + size f) ≡ k + 1 + size f = omega arith in
      rw e (pass_strings z f (k + 1) a o.1 ∙ rw (string_read k (k + 1) p n 0 0 z p (string_at s p n) (section-bytes k (k + 1) p n 0 0 o.0)))
  pass_strings z (elem p n l c f) k a st =
      let o = on_elem t k a p n l c f st in
      let e : k + (1 + size c + size f) ≡ k + 1 + size c + size f = omega arith in
      let y : List ℕ = sets (node_strings_read s t z k) (p + 1) (string_at s (p + 1) n) in
      let w : node_strings_read s t z (k + 1) ≡ y
      = string_read k (k + 1 + size c) p n a (length l) z (p + 1) (string_at s (p + 1) n) (element-bytes k (k + 1 + size c) p n a (length l) o.0) in
      rw e (pass_strings z f (k + 1 + size c) (a + length l + length (attrs_of c)) o.2
      ∙ (ap (λ (x : List ℕ). lay x (node_strings s f)) (pass_strings z c (k + 1) (a + length l) o.1
      ∙ ap (λ (x : List ℕ). lay x (node_strings s c)) w)
      ∙ sym (lay-append (node_strings s c) (node_strings s f) y)))

-- ---- attributes
module _ (s u : List ℕ) where
  value_of : (j : ℕ) (x : Attr) → AttrIs u j x → value_bytes s u j ≡ decoded (string_at s x.value x.value_len)
  unfolding value_bytes
  value_of j x r = rw (r.value-is, r.value-len_is)

  attr-read : (j : ℕ) (x : Attr) → AttrIs u j x
      → attrs_read s u (j + 1) ≡ sets (attrs_read s u j) (j * 4) (x.name ∷ x.name_len ∷ x.value
      ∷ length (decoded (string_at s x.value x.value_len)) ∷ [])
  unfolding attrs_read
  attr-read j x r =
      let old : (i : ℕ) → j * 4 ≤ i → get_or (attrs_read s u j) i 0 ≡ get_or u i 0 = attrs-after s u j in
      rw (add-one j, value_of j x r)
      (attr-row_set (attrs_read s u j) (j * 4) x.name x.name_len x.value (length (decoded (string_at s x.value x.value_len)))
      (old (j * 4) (omega arith) ∙ r.name_is)
      (old (j * 4 + 1) (omega arith) ∙ r.name_len_is) (old (j * 4 + 2) (omega arith) ∙ r.value-is))

  pub pass_attrs : (l : List Attr) (j : ℕ) → Listed u j l → attrs_read s u (j + length l) ≡ sets (attrs_read s u j) (j * 4) (attr_rows (read_attrs s l))
  unfolding attr_rows attr_row read_attrs
  pass_attrs [] j y = let z : j + 0 ≡ j = omega arith in rw z
  pass_attrs (x ∷ l) j y =
      let o = on_attr u j x l y in
      let z : j + suc (length l) ≡ j + 1 + length l = omega arith in
      let r : List ℕ = x.name ∷ x.name_len ∷ x.value ∷ length (decoded (string_at s x.value x.value_len)) ∷ [] in
      rw z (sets_on r (attr_rows (read_attrs s l)) (attrs_read s u j) (attrs_read s u (j + 1)) (attrs_read s u (j + 1 + length l)) (j * 4) ((j + 1) * 4)
      (attr-read j x o.0) (pass_attrs l (j + 1) o.1) (omega arith))

  attr-string_read : (z : List ℕ) (j : ℕ) (x : Attr) → AttrIs u j x
      → attr_strings_read s u z (j + 1) ≡ sets (sets (attr_strings_read s u z j) x.name (string_at s x.name x.name_len)) x.value
      (decoded (string_at s x.value x.value_len))
  unfolding attr_strings_read attr_written
  attr-string_read z j x r = rw (add-one j, value_of j x r, r.name_is, r.name_len_is, r.value-is)

  pub pass_attr_strings : (z : List ℕ) (l : List Attr) (j : ℕ) → Listed u j l → attr_strings_read s u z (j + length l)
      ≡ lay (attr_strings_read s u z j) (attr_strings s l)
  unfolding lay attr_strings
  pass_attr_strings z [] j y = let e : j + 0 ≡ j = omega arith in rw e
  pass_attr_strings z (x ∷ l) j y =
      let o = on_attr u j x l y in
      let e : j + suc (length l) ≡ j + 1 + length l = omega arith in
      rw e (pass_attr_strings z l (j + 1) o.1 ∙ rw (attr-string_read z j x o.0))

-- ---- whole tables
-- a table whose first cells are written anew
sets_first : (w v tail t : List ℕ) → t ≡ v ++ tail → length w ≡ length v → sets t 0 w ≡ w ++ tail
sets_first w v tail t e l =
    let z : 0 + length w ≡ length v = omega arith in
    let h : length t ≡ length v + length tail = ap length e ∙ length-append v tail in
    sets-eq w t 0 (omega arith) ∙ rw (z, e) (ap (λ (x : List ℕ). w ++ x) (drop_at v tail (length v) refl))

pub nodes-pass : (s t tail : List ℕ) (f : Forest) (lo : ℕ) → t ≡ rows 0 0 f ++ tail → InOrder lo (spans f) (length s) → nodes_read s t (size f)
    ≡ rows 0 0 (read_forest s f) ++ tail
unfolding nodes_read
nodes-pass s t tail f lo e i =
    let z : 0 + size f ≡ size f = omega arith in
    let w : List ℕ = rows 0 0 (read_forest s f) in
    (rw z at (pass_forest s t f 0 0 lo (record { tail = tail; is = e }) i))
    ∙ sets_first w (rows 0 0 f) tail t e (omega (arith, length_rows (read_forest s f) 0 0, length_rows f 0 0, size-read s f))

pub attrs-pass : (s u tail : List ℕ) (l : List Attr) → u ≡ attr_rows l ++ tail → attrs_read s u (length l) ≡ attr_rows (read_attrs s l) ++ tail
unfolding attrs_read
attrs-pass s u tail l e =
    let z : 0 + length l ≡ length l = omega arith in
    let w : List ℕ = attr_rows (read_attrs s l) in
    (rw z at (pass_attrs s u l 0 (record { tail = tail; is = e })))
    ∙ sets_first w (attr_rows l) tail u e (omega (arith, length_attr_rows (read_attrs s l), length_attr_rows l, length_attrs_read s l))

pub strings-pass : (s t u z tail tail' : List ℕ) (f : Forest) (lo hi : ℕ) → t ≡ rows 0 0 f ++ tail → u ≡ attr_rows (attrs_of f) ++ tail'
    → InOrder lo (spans f) hi
    → attr_strings_read s u (node_strings_read s t z (size f)) (length (attrs_of f)) ≡ lay z (strings s f)
unfolding node_strings_read attr_strings_read
strings-pass s t u z tail tail' f lo hi e w i =
    let a : 0 + size f ≡ size f = omega arith in
    let b : 0 + length (attrs_of f) ≡ length (attrs_of f) = omega arith in
    let n : node_strings_read s t z (size f) ≡ lay z (node_strings s f) = rw a at (pass_strings s t z f 0 0 (record { tail = tail; is = e })) in
    (rw b at (pass_attr_strings s u (node_strings_read s t z (size f)) (attrs_of f) 0 (record { tail = tail'; is = w })))
    ∙ (ap (λ (x : List ℕ). lay x (attr_strings s (attrs_of f))) n ∙ gathered s f lo hi i z)
