-- Attributes looked up in their rows. Assumes nothing.
--     Head, Rest, rest-start, rest-first, rest-on, rest-none   a loop goes on with the attributes from row k on
--     row_fits, end_fits                                       their rows are within the table
--     name_apart, name_same                                    a name of another length, and one of the same bytes
--     row-cells                                                the cells of a row
--     value-here, value-next, value-nowhere                    one turn of `attr`
use Rattle.std.specs.Prelude.{Some, None}
use Prim.Native.Nat.{ℕ, ◌+◌, ◌-◌, ◌*◌, ◌≤◌, ◌<◌}
use mathlib.Core.Path.{◌≡◌, refl, sym, ◌∙◌, ap}
use mathlib.Core.Bool.{true, false}
use mathlib.Core.List.{List, [], ◌∷◌, ◌++◌}
use native.Mathlib.Omega.{arith}
use lib.ListN.{length, get_or, drop, length-append, length-drop}
use Rattle.scan.specs.Names.{lower, same_bytes_of, same_folded}
use Rattle.scan.specs.Part.{string_at}
use Rattle.scan.proofs.Naming.{folded_agree, agree_lengths, same_eq, same_folded-refl}
use Rattle.tree.specs.Trees.{Attr, attr_rows}
use Rattle.tree.specs.Walks.{Listed, AttrIs}
use Rattle.tree.proofs.Tags.{length_attr_rows}
use Rattle.tree.proofs.Walks.{on_attr}
use Rattle.xml.specs.declared.find.Attribute.{Attribute}
use Rattle.xml.specs.Find.{Owned, HasRows, NameFits, name_at, attribute_row, find_value}
use Rattle.xml.proofs.PassForests.{string_long}

-- ---- names
module _ (u z : List ℕ) (k : ℕ) (name : List ℕ) where
  pub name_apart : NameFits u z k → (get_or u (k * 4 + 1) 0 ≡ length name → ⊥) → same_folded (name_at u z k) name ≡ false
  name_apart h ne =
      folded_agree (name_at u z k) name
      ∙ agree_lengths lower (name_at u z k) name (λ e. ne (sym (string_long z (get_or u (k * 4) 0) (get_or u (k * 4 + 1) 0) h.1) ∙ e))

pub name_same : (a b : List ℕ) → same_bytes_of a b ≡ true → same_folded a b ≡ true
name_same a b e = rw (same_eq a b e) (same_folded-refl b)

-- ---- cells
pub row-cells : (u : List ℕ) (k : ℕ) {h : Attribute} → h ≡ attribute_row u k
    → (h.at ≡ get_or u (k * 4) 0) × (h.place ≡ get_or u (k * 4 + 2) 0) × (h.len ≡ get_or u (k * 4 + 3) 0)
unfolding attribute_row
row-cells u k e = (rw e, rw e, rw e)

-- ---- row by row
-- the first of n attributes from row k on, and the others
pub record Head (u z : List ℕ) (k n : ℕ) (l : List Attr) : Type 0 where
  pub head : Attr
  pub others : List Attr
  pub is : l ≡ head ∷ others
  pub cells : AttrIs u k head
  pub room : (k + n) * 4 ≤ length u
  pub name_fits : head.name + head.name_len ≤ length z
  pub value-fits : head.value + head.value_len ≤ length z
  pub owned : Owned u z (k + 1) (n - 1) others

pub head_of : (u z : List ℕ) (k n : ℕ) (l : List Attr) → Owned u z k n l → 0 < n → Head u z k n l
head_of u z k n [] y h = absurd (omega (arith, y.count))
head_of u z k n (x ∷ l) y h =
    let a : AttrIs u k x × Listed u (k + 1) l = on_attr u k x l y.listed in
    let e : length (drop (k * 4) u) ≡ length (attr_rows (x ∷ l) ++ y.listed.tail) = ap length y.listed.is in
    record {
      head = x;
      others = l;
      is = refl;
      cells = a.0;
      room = omega (arith, e, y.count, length-drop (k * 4) u, length-append (attr_rows (x ∷ l)) y.listed.tail, length_attr_rows (x ∷ l));
      name_fits = y.within.0;
      value-fits = y.within.1;
      owned = record { listed = a.1; count = omega (arith, y.count); within = y.within.2 };
    }

-- what is asked of the attributes l is asked of those from row k up to e
pub record Rest {A : Type 0} (ask : List Attr → A) (u z : List ℕ) (k e : ℕ) (l : List Attr) : Type 0 where
  pub attrs : List Attr
  pub owned : Owned u z k (e - k) attrs
  pub is : ask l ≡ ask attrs

module _ {A : Type 0} {ask : List Attr → A} {u z : List ℕ} where
  unfoldable pub rest-start : {i n : ℕ} {l : List Attr} → Owned u z i n l → Rest ask u z i (i + n) l
  rest-start {i} {n} {l} y =
      record { attrs = l; owned = record { listed = y.listed; count = omega (arith, y.count); within = y.within }; is = refl }

  module _ {k e : ℕ} {l : List Attr} (x : Rest ask u z k e l) where
    pub rest-first : k < e → Head u z k (e - k) x.attrs
    rest-first h = head_of u z k (e - k) x.attrs x.owned (omega arith)

    -- the first passed over
    unfoldable pub rest-on : (h : k < e) → ask ((rest-first h).head ∷ (rest-first h).others) ≡ ask (rest-first h).others → Rest ask u z (k + 1) e l
    rest-on h w =
        let y : Head u z k (e - k) x.attrs = rest-first h in
        let v : e - k - 1 ≡ e - (k + 1) = omega arith in
        record { attrs = y.others; owned = rw v at y.owned; is = x.is ∙ (ap ask y.is ∙ w) }

    -- none left
    pub rest-none : e ≤ k → ask l ≡ ask []
    rest-none h = by x.attrs x.is (omega (arith, x.owned.count))
      where
        by : (g : List Attr) → ask l ≡ ask g → length g ≡ 0 → ask l ≡ ask []
        by [] w j = w
        by (y ∷ g) w j = absurd (omega arith)

module _ {u z : List ℕ} {i n : ℕ} (own : HasRows u z i n) where
  -- row k, while attributes are left
  pub row_fits : {A : Type 0} {ask : List Attr → A} {k e : ℕ} → ((l : List Attr) → Owned u z i n l → Rest ask u z k e l) → k < e
      → NameFits u z k
  row_fits x h = let y = rest-first (x own.0 own.1) h in (omega (arith, y.room), rw (y.cells.name_is, y.cells.name_len_is) y.name_fits)

  -- the end of the attributes is a place too
  pub end_fits : (hi : ℕ) → i < hi → length u < hi → i + n < hi
  end_fits hi h w = by own.0 own.1
    where
      by : (l : List Attr) → Owned u z i n l → i + n < hi
      by [] y = omega (arith, y.count)
      by (x ∷ l) y = omega (arith, y.count, (head_of u z i n (x ∷ l) y (omega (arith, y.count))).room)

-- ---- the search for a name
module _ (name : List ℕ) {u z : List ℕ} {k e : ℕ} {l : List Attr} (x : Rest (find_value z name) u z k e l) where
  pub value-here : k < e → same_folded (name_at u z k) name ≡ true → Some (attribute_row u k) ≡ find_value z name l
  unfolding find_value attribute_row
  value-here b w =
      let y : Head u z k (e - k) x.attrs = rest-first x b in
      let v : same_folded (string_at z y.head.name y.head.name_len) name ≡ true = rw (y.cells.name_is, y.cells.name_len_is) at w in
      sym (x.is ∙ ap (find_value z name) y.is ∙ rw (v, y.cells.name_is, y.cells.value-is, y.cells.value-len_is))

  pub value-next : k < e → same_folded (name_at u z k) name ≡ false → Rest (find_value z name) u z (k + 1) e l
  unfolding find_value
  value-next b w =
      let y : Head u z k (e - k) x.attrs = rest-first x b in
      let v : same_folded (string_at z y.head.name y.head.name_len) name ≡ false = rw (y.cells.name_is, y.cells.name_len_is) at w in
      rest-on x b (rw v)

  pub value-nowhere : e ≤ k → None ≡ find_value z name l
  unfolding find_value
  value-nowhere h = sym (rest-none x h)
