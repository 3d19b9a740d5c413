-- What is asked of the tables, in terms of trees. Assumes nothing.
--     holds_text, holds_section, holds_elem           a row of a forest that the tables hold: its cells, its content, its later siblings
--     holds_alone, siblings_of, owned_of, has_row     what the searches require
--     is-element_text, is-element_section, is-element_elem   what `is_element` says of a row
--     find_nothing, find_found                        what `find_row` says of the tree
--     many_shown                                      as many attributes are shown as there are
--     value-shown, value-at                           what `find_value` says of the attributes
use Rattle.std.specs.Prelude.{Some, None}
use Prim.Native.Nat.{ℕ, suc, ◌+◌, ◌≤◌, ◌<◌}
use mathlib.Core.Path.{◌≡◌, refl, sym, ap, ◌∙◌}
use mathlib.Core.Bool.{true, false}
use mathlib.Core.List.{List, [], ◌∷◌, ◌++◌, append_assoc}
use native.Mathlib.Omega.{arith}
use lib.ListN.{length}
use Rattle.scan.specs.Names.{same_folded}
use Rattle.scan.proofs.Every.{by-test}
use Rattle.tree.specs.Trees.{Attr, Forest, nil, text, section, elem, size, attrs_of, row, rows, attr_rows, Span, attr_spans, spans, InOrder}
use Rattle.tree.specs.Walks.{Stands, Listed, RowIs}
use Rattle.tree.proofs.Tags.{attr_rows-append}
use Rattle.tree.proofs.Places.{in_whole, in_first, in_rest}
use Rattle.tree.proofs.Walks.{on_text, on_section, on_elem, on_attrs, room, placed_text, placed_section, placed_elem}
use Rattle.scan.specs.Part.{string_at}
use Rattle.derivation.specs.Strings.{attr_in, attrs_in, tree_in}
use Rattle.xml.specs.declared.find.Attribute.{Attribute}
use Rattle.xml.specs.Find.{named, find_element, absent, value, attr_value}
use Rattle.xml.specs.Find.{Holds, Siblings, find_row, find_value, shown, WithinAttrs, Owned, is_element, HasRow, element_row, TextAt, ElementAt}
use Rattle.xml.specs.Find.{FoundAt}

-- ---- the rows of what the tables hold
within-attrs : (l : List Attr) (lo hi : ℕ) → InOrder lo (attr_spans l) hi → WithinAttrs hi l
unfolding attr_spans
within-attrs [] lo hi i = tt
within-attrs (x ∷ l) lo hi i =
    let v : x.value + x.value_len ≤ hi = in_whole (attr_spans l) (x.value + x.value_len) hi i.1.1 in
    (omega (arith, i.1.0), v, within-attrs l (x.value + x.value_len) hi i.1.1)

regroup : (a b c : List Span) → a ++ (b ++ c) ≡ (a ++ (b ++ [])) ++ c
regroup a b c = simp append_assoc

pub siblings_of : {t u z : List ℕ} {i a : ℕ} {f : Forest} → Holds t u z i a f → Siblings t z i (i + size f)
siblings_of h = record { first = _; forest = _; stands = h.stands; lo = h.lo; placed = h.placed; end = refl }

element-cells : {t : List ℕ} {i e p n b m : ℕ} → RowIs t i 2 e p n b m → element_row t i
    ≡ record { place = p; name_len = n; end = e; first = b; many = m }
unfolding element_row
element-cells r = cc

module _ {t u z : List ℕ} {i a p n : ℕ} where
  text-row : (kind : ℕ) (f g : Forest) → Holds t u z i a f → RowIs t i kind (i + 1) p n 0 0 × Stands t (i + 1) a g
      → InOrder (p + n) (spans g) (length z)
      → 0 < size f → attrs_of f ≡ attrs_of g → TextAt t u z kind i a p n g
  text-row kind f g h s o w e = record {
    row = s.0;
    room = omega (arith, room t i a f h.stands w);
    within = in_whole (spans g) (p + n) (length z) o;
    later = record { stands = s.1; listed = rw e at h.listed; lo = p + n; placed = o };
  }

  pub holds_text : {f : Forest} → Holds t u z i a (text p n f) → TextAt t u z 1 i a p n f
  unfolding attrs_of size
  holds_text {f} h =
      text-row 1 (text p n f) f h (on_text t i a p n f h.stands) (placed_text h.lo (length z) p n f h.placed).1 (omega arith) refl

  pub holds_section : {f : Forest} → Holds t u z i a (section p n f) → TextAt t u z 3 i a p n f
  unfolding attrs_of size
  holds_section {f} h =
      text-row 3 (section p n f) f h (on_section t i a p n f h.stands) (placed_section h.lo (length z) p n f h.placed).1 (omega arith) refl

  module _ {l : List Attr} {c f : Forest} where
    pub owned_of : Holds t u z i a (elem p n l c f) → Owned u z a (length l) l
    unfolding attrs_of
    owned_of h =
        let o : InOrder (p + 1 + n) (attr_spans l ++ (spans c ++ spans f)) (length z) = (placed_elem h.lo (length z) p n l c f h.placed).1 in
        record {
          listed = (on_attrs u a l (attrs_of c ++ attrs_of f) h.listed).0;
          count = refl;
          within = within-attrs l (p + 1 + n) (length z) (in_first (attr_spans l) (spans c ++ spans f) (p + 1 + n) (length z) o);
        }

    pub holds_elem : Holds t u z i a (elem p n l c f) → ElementAt t u z i a p n l c f
    unfolding attrs_of size
    holds_elem h =
        let s : RowIs t i 2 (i + 1 + size c) p n a (length l) × Stands t (i + 1) (a + length l) c
        × Stands t (i + 1 + size c) (a + length l + length (attrs_of c)) f
        = on_elem t i a p n l c f h.stands in
        let g : Listed u (a + length l) (attrs_of c ++ attrs_of f) = (on_attrs u a l (attrs_of c ++ attrs_of f) h.listed).1 in
        let d : Listed u (a + length l) (attrs_of c) × Listed u (a + length l + length (attrs_of c)) (attrs_of f) =
        on_attrs u (a + length l) (attrs_of c) (attrs_of f) g in
        let lo : ℕ = p + 1 + n in
        let o : InOrder lo (attr_spans l ++ (spans c ++ spans f)) (length z) = (placed_elem h.lo (length z) p n l c f h.placed).1 in
        let r : InOrder lo (spans c ++ spans f) (length z) = in_rest (attr_spans l) (spans c ++ spans f) lo (length z) o in
        let x : Holds t u z (i + 1) (a + length l) c = record {
          stands = s.1;
          listed = d.0;
          lo = lo;
          placed =
              in_first (spans c) (spans f) lo (length z) r;
        } in
        record {
          row = s.0;
          cells = element-cells s.0;
          room = omega (arith, room t i a (elem p n l c f) h.stands (omega arith));
          within = in_whole (attr_spans l ++ (spans c ++ spans f)) lo (length z) o;
          owned = owned_of h;
          inside = x;
          siblings = siblings_of x;
          later = record { stands = s.2; listed = d.1; lo = lo; placed = in_rest (spans c) (spans f) lo (length z) r };
        }

    -- without its later siblings
    pub holds_alone : Holds t u z i a (elem p n l c f) → Holds t u z i a (elem p n l c nil)
    unfolding rows row attrs_of attr_rows spans
    holds_alone h =
        let d : ℕ = a + length l + length (attrs_of c) in
        let r : List ℕ = rows (i + 1 + size c) d f in
        let lo : ℕ = p + 1 + n in
        record {
          stands = record { tail = r ++ h.stands.tail; is = h.stands.is ∙ simp append_assoc };
          listed = record { tail = attr_rows (attrs_of f) ++ h.listed.tail; is = h.listed.is ∙ simp (attr_rows-append, append_assoc) };
          lo = h.lo;
          placed = (
            h.placed.0,
            in_first (attr_spans l ++ (spans c ++ [])) (spans f) lo (length z)
                (rw (← (regroup (attr_spans l) (spans c) (spans f))) h.placed.1),
          );
        }

-- ---- what the searches require
row-of : (t z : List ℕ) (k a lo : ℕ) (f : Forest) → Stands t k a f → InOrder lo (spans f) (length z) → 0 < size f → HasRow t z k
unfolding size
row-of t z k a lo nil s o h = absurd (omega arith)
row-of t z k a lo (text p n f) s o h =
    record { row = omega (arith, room t k a (text p n f) s h); within = λ e. absurd (omega (arith, e, (on_text t k a p n f s).0.kind_is)) }
row-of t z k a lo (section p n f) s o h =
    record { row = omega (arith, room t k a (section p n f) s h); within = λ e. absurd (omega (arith, e, (on_section t k a p n f s).0.kind_is)) }
row-of t z k a lo (elem p n l c f) s o h =
    let r : RowIs t k 2 (k + 1 + size c) p n a (length l) = (on_elem t k a p n l c f s).0 in
    let w : p + 1 + n ≤ length z = in_whole (attr_spans l ++ (spans c ++ spans f)) (p + 1 + n) (length z) (placed_elem lo (length z) p n l c f o).1 in
    record { row = omega (arith, room t k a (elem p n l c f) s h); within = λ e. rw (r.place_is, r.len_is) w }

pub has_row : {t z : List ℕ} {k e : ℕ} → Siblings t z k e → k < e → HasRow t z k
has_row {t} {z} {k} s h = row-of t z k s.first s.lo s.forest s.stands s.placed (omega (arith, s.end))

-- ---- what `is_element` says of a row
module _ (z name : List ℕ) {t : List ℕ} {k b p n : ℕ} where
  pub is-element_text : {f : Forest} → Stands t k b (text p n f) → is_element t z name k ≡ false
  unfolding is_element
  is-element_text {f} s = rw (on_text t k b p n f s).0.kind_is

  pub is-element_section : {f : Forest} → Stands t k b (section p n f) → is_element t z name k ≡ false
  unfolding is_element
  is-element_section {f} s = rw (on_section t k b p n f s).0.kind_is

  pub is-element_elem : {l : List Attr} {c f : Forest} → Stands t k b (elem p n l c f) → is_element t z name k ≡ named name (string_at z (p + 1) n)
  unfolding is_element
  is-element_elem {l} {c} {f} s =
      let r : RowIs t k 2 (k + 1 + size c) p n b (length l) = (on_elem t k b p n l c f s).0 in
      rw (r.kind_is, r.place_is, r.len_is)

-- ---- what `find_row` says of the tree
never : {A : Type 0} {k : ℕ} → Some k ≡ None → A
never e = absurd (let z : ◌≡◌ {A = ℕ} 0 1 = cc in omega arith)

pub find_nothing : (z name : List ℕ) (i : ℕ) (f : Forest) → find_row z name i f ≡ None → find_element name (tree_in z f) ≡ absent
unfolding find_row find_element tree_in
find_nothing z name i nil e = refl
find_nothing z name i (text p n f) e = find_nothing z name (i + 1) f e
find_nothing z name i (section p n f) e = find_nothing z name (i + 1) f e
find_nothing z name i (elem p n l c f) e =
    let r : find_row z name (i + 1 + size c) f ≡ None → find_element name (tree_in z f) ≡ absent = find_nothing z name (i + 1 + size c) f in
    by-test (named name (string_at z (p + 1) n)) (λ w. never (rw w at e)) (λ w. rw w (r (rw w at e)))

-- what is found among the later siblings
found-later : {t u z name : List ℕ} {i j : ℕ} {f g : Forest} {k : ℕ}
    → i ≤ j → j + size g ≤ i + size f → find_element name (tree_in z f) ≡ find_element name (tree_in z g) → FoundAt t u z name j g k
    → FoundAt t u z name i f k
found-later h w e x = record {
  place = x.place;
  len = x.len;
  first = x.first;
  attrs = x.attrs;
  content = x.content;
  holds = x.holds;
  at = x.at;
  after = omega (arith, x.after);
  before = omega (arith, x.before);
  matches = x.matches;
  is = e ∙ x.is;
}

pub find_found : {t u z name : List ℕ} {i a k : ℕ} (f : Forest) → Holds t u z i a f → find_row z name i f ≡ Some k → FoundAt t u z name i f k
unfolding find_row find_element tree_in size
find_found nil h e = never (sym e)
find_found {i = i} (text p n f) h e = found-later (omega arith) (omega arith) refl (find_found {i = i + 1} f (holds_text h).later e)
find_found {i = i} (section p n f) h e = found-later (omega arith) (omega arith) refl (find_found {i = i + 1} f (holds_section h).later e)
find_found {t} {u} {z} {name} {i} {a} {k} (elem p n l c f) h e =
    let r : find_row z name (i + 1 + size c) f ≡ Some k → FoundAt t u z name (i + 1 + size c) f k = find_found {i = i + 1 + size c} f (holds_elem h).later in
    by-test (named name (string_at z (p + 1) n)) here (λ w. found-later (omega arith) (omega arith) (rw w) (r (rw w at e)))
  where
    here : named name (string_at z (p + 1) n) ≡ true → FoundAt t u z name i (elem p n l c f) k
    here w =
        let j : Some i ≡ Some k = rw w at e in
        let v : i ≡ k = cc in
        rw (← v) (record {
          place = p;
          len = n;
          first = a;
          attrs = l;
          content = c;
          holds = holds_alone h;
          at = holds_elem (holds_alone h);
          after = omega arith;
          before = omega arith;
          matches = w;
          is = rw w;
        })

-- ---- how many attributes there are
pub many_shown : (z : List ℕ) (l : List Attr) → length (attrs_in z l) ≡ length l
unfolding attrs_in
many_shown z [] = refl
many_shown z (x ∷ l) = ap suc (many_shown z l)

-- ---- what `find_value` says of the attributes
pub value-shown : (z name : List ℕ) (l : List Attr) → shown z (find_value z name l) ≡ attr_value name (attrs_in z l)
unfolding shown find_value attr_value attrs_in attr_in
value-shown z name [] = refl
value-shown z name (x ∷ l) =
    let r : shown z (find_value z name l) ≡ attr_value name (attrs_in z l) = value-shown z name l in
    by-test (same_folded (string_at z x.name x.name_len) name) (λ w. rw w) (λ w. rw w r)

value-within : (z name : List ℕ) (l : List Attr) (x : Attribute) → WithinAttrs (length z) l → find_value z name l ≡ Some x → x.place + x.len ≤ length z
unfolding find_value
value-within z name [] x w e = absurd (let y : ◌≡◌ {A = ℕ} 0 1 = cc in omega arith)
value-within z name (y ∷ l) x w e =
    let r : find_value z name l ≡ Some x → x.place + x.len ≤ length z = value-within z name l x w.2 in
    by-test (same_folded (string_at z y.name y.name_len) name) here (λ q. r (rw q at e))
  where
    here : same_folded (string_at z y.name y.name_len) name ≡ true → x.place + x.len ≤ length z
    here q =
        let j : Some (record { at = y.name; place = y.value; len = y.value_len }) ≡ Some x = rw q at e in
        let v : record { at = y.name; place = y.value; len = y.value_len } ≡ x = cc in
        rw (← v) w.1

pub value-at : (z name : List ℕ) (l : List Attr) (x : Attribute) → WithinAttrs (length z) l → find_value z name l ≡ Some x
    → (attr_value name (attrs_in z l) ≡ value (string_at z x.place x.len)) × (x.place + x.len ≤ length z)
unfolding shown
value-at z name l x w e = (sym (value-shown z name l) ∙ ap (shown z) e, value-within z name l x w e)
