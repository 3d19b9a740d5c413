-- The first attribute of each name, by the name's number. Assumes nothing.
--     Noted, noted-start, noted-on, noted-all    one turn of `first_rows`
--     fits_on, number_fits, all_zero             its entries stand in the tables
--     few_names, number-below, number-under, none-on   and end where it says
use Rattle.std.specs.Prelude as rust
use Rattle.std.specs.Prelude.{Some, None}
use Prim.Native.Nat.{ℕ, ◌+◌, ◌-◌, ◌≤◌, ◌<◌}
use mathlib.Core.Path.{◌≡◌, refl, sym, ap, ◌∙◌}
use mathlib.Core.Bool.{Bool, true, false, cond, true≢false}
use mathlib.Core.List.{List, [], ◌∷◌}
use mathlib.Core.Option.{Option, none, some}
use native.Mathlib.Omega.{arith}
use lib.Dec.{eqb, ltb}
use lib.ListN.{length, get_or, set, length-set}
use lib.Seq.{get_or-set_same, get_or-set_other}
use borrow.Author.Tests.{leb-true, eqb-true, ne_eqb, eqb-false, ltb-true, ltb-false}
use Rattle.scan.specs.Names.{same_folded}
use Rattle.scan.specs.Part.{string_at}
use Rattle.scan.proofs.Every.{by-test}
use Rattle.names.specs.declared.tables.Listed.{Listed}
use Rattle.names.specs.Lists.{names, name_of}
use Rattle.names.specs.Numbers.{name_number}
use Rattle.names.proofs.Entries.{at_eq, nothing-at, not_so}
use Rattle.names.proofs.NameLaws.{folded_number, number-name}
use Rattle.tree.specs.Trees.{Attr}
use Rattle.records.specs.Find.{first_that}
use Rattle.xml.specs.Find.{Owned}
use Rattle.xml.specs.Reading.{Placed}
use Rattle.meaning.specs.Nodes.{attribute, valued}
use Rattle.meaning.specs.Kinds.{with_places, attrs_in}
use Rattle.styling.specs.Posts.{name_at}
use Rattle.extras.specs.Kept.{value_at, noted, RowFits, RowsFit, FirstRows, with_note, NumberFits, NumberBelow, past_number, NoneFrom}
use Rattle.xml.proofs.AttrRows.{Head, Rest, rest-start, rest-first, rest-on}

abbrev pub still : List Attr → ℕ
still l = 0

-- the attributes before row k are noted
pub record Noted (list : Listed) (u z rows : List ℕ) (k e : ℕ) (l : List Attr) : Type 0 where
  pub rest : Rest still u z k e l
  pub is : (i : ℕ) → i < length (names list)
      → valued with_places (name_of list i) (attrs_in z l) ≡ noted u z (get_or rows i 0) (valued with_places (name_of list i) (attrs_in z rest.attrs))

pub noted-start : (list : Listed) {u z rows : List ℕ} {first many : ℕ} {l : List Attr} → Owned u z first many l
    → ((i : ℕ) → get_or rows i 0 ≡ 0) → Noted list u z rows first (first + many) l
unfolding rest-start
noted-start list y w = record { rest = rest-start y; is = λ i h. rw (w i) }

-- ---- one attribute
-- its name is the i-th exactly if i is its number
module _ (list : Listed) (s : List ℕ) where
  other : name_number list s ≡ None → (i : ℕ) → i < length (names list) → same_folded s (name_of list i) ≡ false
  other e i h = not_so (same_folded s (name_of list i)) (λ g. nothing-at (sym e ∙ folded_number list i h s g))

  same : (i j : ℕ) → name_number list s ≡ Some j → i < length (names list) → same_folded s (name_of list i) ≡ true → i ≡ j
  same i j e h g = at_eq (sym (folded_number list i h s g) ∙ e)

-- the value of a name, the first attribute being in row k
first-valued : (u z : List ℕ) (k n : ℕ) (l : List Attr) (y : Head u z k n l) (name : List ℕ)
    → valued with_places name (attrs_in z l) ≡ cond (same_folded (name_at u z k) name) (some (value_at u z k))
    (valued with_places name (attrs_in z y.others))
unfolding valued attribute first_that attrs_in
first-valued u z k n l y name =
    let a : Attr = y.head in
    rw (y.is, y.cells.name_is, y.cells.name_len_is, y.cells.value-is, y.cells.value-len_is)
    (by-test (same_folded (string_at z a.name a.name_len) name) (λ e. rw e) (λ e. rw e))

-- the entry of a name before and after
module _ (list : Listed) (u z rows : List ℕ) (k : ℕ) (w : Option Placed) (i : ℕ) (h : i < length (names list)) where
  abbrev here : Bool
  here = same_folded (name_at u z k) (name_of list i)

  abbrev before : Option Placed
  before = noted u z (get_or rows i 0) (cond here (some (value_at u z k)) w)

  kept : (number : rust.Option ℕ) → number ≡ name_number list (name_at u z k) → NumberFits rows number
      → before ≡ noted u z (get_or (with_note rows number (k + 1)) i 0) w
  kept None e f = rw (other list (name_at u z k) (sym e) i h)
  kept (Some j) e f = by-test (eqb (get_or rows j 0) 0) new old
    where
      mine : here ≡ true → i ≡ j
      mine g = same list (name_at u z k) i j (sym e) h g

      its : same_folded (name_at u z k) (name_of list j) ≡ true
      its = (number-name list (name_at u z k) j (sym e)).1

      apart : here ≡ false → i ≡ j → ⊥
      apart g q = true≢false (sym its ∙ (ap (λ m. same_folded (name_at u z k) (name_of list m)) (sym q) ∙ g))

      after : k + 1 - 1 ≡ k
      after = omega arith

      new : eqb (get_or rows j 0) 0 ≡ true → before ≡ noted u z (get_or (with_note rows (Some j) (k + 1)) i 0) w
      new g =
          let there : get_or (set rows j (k + 1)) j 0 ≡ k + 1 = get_or-set_same rows j (k + 1) 0 f in
          by-test here
          (λ t. let q : i ≡ j = mine t in rw (g, t, q, there, g, ne_eqb (k + 1) 0 (λ v. omega arith), after))
          (λ t. rw (g, t, get_or-set_other rows j i (k + 1) 0 (apart t)))

      old : eqb (get_or rows j 0) 0 ≡ false → before ≡ noted u z (get_or (with_note rows (Some j) (k + 1)) i 0) w
      old g = by-test here (λ t. let q : i ≡ j = mine t in rw (g, q, g)) (λ t. rw (g, t))

module _ {list : Listed} {u z rows : List ℕ} {k e : ℕ} {l : List Attr} (x : Noted list u z rows k e l) (h : k < e) where
  pub noted-on : (number : rust.Option ℕ) → number ≡ name_number list (name_at u z k) → NumberFits rows number → (rows' : List ℕ)
      → rows' ≡ with_note rows number (k + 1) → Noted list u z rows' (k + 1) e l
  unfolding rest-on
  noted-on number n f rows' r =
      let y = rest-first x.rest h in
      record {
        rest = rest-on x.rest h refl;
        is = λ i g.
            x.is i g
            ∙ (ap (noted u z (get_or rows i 0)) (first-valued u z k (e - k) x.rest.attrs y (name_of list i))
            ∙ rw r (kept list u z rows k (valued with_places (name_of list i) (attrs_in z y.others)) i g number n f));
      }

pub noted-all : {list : Listed} {u z rows : List ℕ} {k e : ℕ} {l : List Attr} → Noted list u z rows k e l → e ≤ k
    → FirstRows u z list rows (attrs_in z l)
unfolding valued attribute first_that attrs_in
noted-all {list} {u} {z} {rows} x h = λ i g. by i g x.rest.attrs (omega (arith, x.rest.owned.count)) (x.is i g)
  where
    by : (i : ℕ) → i < length (names list) → (r : List Attr) → length r ≡ 0 → {v : Option Placed}
        → v ≡ noted u z (get_or rows i 0) (valued with_places (name_of list i) (attrs_in z r)) → v ≡ noted u z (get_or rows i 0) none
    by i g [] w q = q
    by i g (a ∷ r) w q = absurd (omega arith)

-- ---- entries stand in the tables
row-of : {list : Listed} {u z rows : List ℕ} {k e : ℕ} {l : List Attr} → Noted list u z rows k e l → k < e → RowFits u z (k + 1)
row-of {u = u} {z = z} {k = k} x h =
    let y = rest-first x.rest h in
    let v : k + 1 - 1 ≡ k = omega arith in
    λ g. rw v (omega (arith, y.room), rw (y.cells.value-is, y.cells.value-len_is) y.value-fits)

pub fits_on : {list : Listed} {u z rows : List ℕ} {k e : ℕ} {l : List Attr} → Noted list u z rows k e l → k < e → RowsFit u z rows
    → (number : rust.Option ℕ) → NumberFits rows number → (rows' : List ℕ) → rows' ≡ with_note rows number (k + 1) → RowsFit u z rows'
fits_on {u = u} {z} {rows} {k} x h w None f rows' r = λ i. rw r (w i)
fits_on {u = u} {z} {rows} {k} x h w (Some j) f rows' r = λ i. rw r (by-test (eqb (get_or rows j 0) 0) (λ e. rw e (new i)) (λ e. rw e (w i)))
  where
    new : (i : ℕ) → RowFits u z (get_or (set rows j (k + 1)) i 0)
    new i = by-test (eqb i j)
        (λ e. let q : i ≡ j = eqb-true i j e in rw (q, get_or-set_same rows j (k + 1) 0 f) (row-of x h))
        (λ e. rw (get_or-set_other rows j i (k + 1) 0 (eqb-false i j e)) (w i))

pub number_fits : (list : Listed) (s rows : List ℕ) → length (names list) ≤ length rows → (number : rust.Option ℕ) → number ≡ name_number list s
    → NumberFits rows number
number_fits list s rows h None e = tt
number_fits list s rows h (Some i) e = omega (arith, (number-name list s i (sym e)).0)

pub long_note : (rows : List ℕ) (number : rust.Option ℕ) (r : ℕ) → length (with_note rows number r) ≡ length rows
long_note rows (Some i) r = by-test (eqb (get_or rows i 0) 0) (λ e. rw e (length-set rows i r)) (λ e. rw e)
long_note rows None r = refl

-- ---- where numbers end
pub few_names : (list : Listed) → length (names list) ≤ 53
few_names Listed.StyleExtra = leb-true _ _ refl
few_names Listed.InlineExtra = leb-true _ _ refl
few_names Listed.RegionAttr = leb-true _ _ refl
few_names Listed.InlineModelled = leb-true _ _ refl
few_names Listed.Imsc1Extension = leb-true _ _ refl

pub number-below : (list : Listed) (s : List ℕ) (number : rust.Option ℕ) → number ≡ name_number list s → NumberBelow (length (names list)) number
number-below list s None e = tt
number-below list s (Some i) e = (number-name list s i (sym e)).0

pub number-under : (list : Listed) (s : List ℕ) (number : rust.Option ℕ) → number ≡ name_number list s → NumberBelow 53 number
number-under list s None e = tt
number-under list s (Some i) e = omega (arith, (number-name list s i (sym e)).0, few_names list)

pub none-on : (list : Listed) (rows : List ℕ) (e : ℕ) → NoneFrom list e rows → (number : rust.Option ℕ) → NumberBelow (length (names list)) number
    → (r : ℕ) (e' : ℕ) → e' ≡ past_number number e → (rows' : List ℕ) → rows' ≡ with_note rows number r → NoneFrom list e' rows'
none-on list rows e w None b r e' q rows' v = rw (q, v) w
none-on list rows e w (Some j) b r e' q rows' v = (
  rw q within,
  λ i h. rw v (by-test (eqb (get_or rows j 0) 0)
      (λ t. rw (t, get_or-set_other rows j i r 0 (apart i h)) (w.1 i (old i h)))
      (λ t. rw t (w.1 i (old i h)))),
)
  where
    within : cond (ltb j e) e (j + 1) ≤ length (names list)
    within = by-test (ltb j e) (λ t. rw t w.0) (λ t. rw t (omega arith))

    past-both : (e ≤ cond (ltb j e) e (j + 1)) × (j < cond (ltb j e) e (j + 1))
    past-both = by-test (ltb j e) (λ t. rw t (omega arith, ltb-true j e t)) (λ t. rw t (omega (arith, ltb-false j e t), omega arith))

    old : (i : ℕ) → e' ≤ i → e ≤ i
    old i h = omega (arith, past-both.0, q)

    apart : (i : ℕ) → e' ≤ i → i ≡ j → ⊥
    apart i h g = omega (arith, past-both.1, q)
