-- The rows of an element's attributes: as attributes, and as bounds. Assumes nothing.
--     owned_rows, has_rows   rows within the table, whose strings stand, are attributes
--     room_of, within_of     and the rows of attributes are such
use Prim.Native.Nat.{ℕ, zero, suc, ◌+◌, ◌-◌, ◌*◌, ◌≤◌, ◌<◌}
use mathlib.Core.Path.{◌≡◌, refl, ap, ◌∙◌}
use mathlib.Core.List.{List, [], ◌∷◌, ◌++◌}
use native.Mathlib.Omega.{arith}
use lib.ListN.{length, get_or, drop}
use Rattle.std.proofs.lemmas.List.{drop_more}
use Rattle.std.proofs.lemmas.Bool.{cases_eq}
use Rattle.std.proofs.Common.{inl, inr}
use Rattle.tree.specs.Trees.{Attr, attr_row, attr_rows}
use Rattle.tree.specs.Walks.{Listed, AttrIs}
use Rattle.tree.proofs.Walks.{on_attr}
use Rattle.xml.specs.Rows.{WithinRows}
use Rattle.xml.specs.Find.{Owned, WithinAttrs, HasRows}
use Rattle.xml.proofs.AttrRows.{head_of}

row_at : List ℕ → ℕ → Attr
row_at u k = record {
  name = get_or u (k * 4) 0;
  name_len = get_or u (k * 4 + 1) 0;
  value = get_or u (k * 4 + 2) 0;
  value_len = get_or u (k * 4 + 3) 0;
}

rows_at : List ℕ → (n k : ℕ) → List Attr
rows_at u zero k = []
rows_at u (suc n) k = row_at u k ∷ rows_at u n (k + 1)

next : (u : List ℕ) (i j : ℕ) → i < length u → i + 1 ≡ j → drop i u ≡ get_or u i 0 ∷ drop j u
next u i j h e = drop_more u i 0 h ∙ ap (λ n. get_or u i 0 ∷ drop n u) e

-- four cells are a row
four : (u : List ℕ) (k : ℕ) → k * 4 + 4 ≤ length u → drop (k * 4) u ≡ attr_row (row_at u k) ++ drop ((k + 1) * 4) u
unfolding attr_row row_at
four u k h =
    next u (k * 4) (k * 4 + 1) (omega arith) refl
    ∙ ap (λ l. get_or u (k * 4) 0 ∷ l) (next u (k * 4 + 1) (k * 4 + 2) (omega arith) (omega arith)
    ∙ ap (λ l. get_or u (k * 4 + 1) 0 ∷ l) (next u (k * 4 + 2) (k * 4 + 3) (omega arith) (omega arith)
    ∙ ap (λ l. get_or u (k * 4 + 2) 0 ∷ l) (next u (k * 4 + 3) ((k + 1) * 4) (omega arith) (omega arith))))

listed_rows : (u : List ℕ) (n k : ℕ) → n * 4 ≤ length u - k * 4 → Listed u k (rows_at u n k)
unfolding attr_rows attr_row rows_at
listed_rows u zero k h = record { tail = drop (k * 4) u; is = refl }
listed_rows u (suc n) k h =
    let y : Listed u (k + 1) (rows_at u n (k + 1)) = listed_rows u n (k + 1) (omega arith) in
    record { tail = y.tail; is = four u k (omega arith) ∙ ap (λ l. attr_row (row_at u k) ++ l) y.is }

count_rows : (u : List ℕ) (n k : ℕ) → length (rows_at u n k) ≡ n
unfolding rows_at
count_rows u zero k = refl
count_rows u (suc n) k = ap suc (count_rows u n (k + 1))

within_rows : (u z : List ℕ) (n k : ℕ) → WithinRows u z k n → WithinAttrs (length z) (rows_at u n k)
unfolding rows_at row_at
within_rows u z zero k w = tt
within_rows u z (suc n) k w =
    let a = w k (omega arith) (omega arith) in
    (a.0, a.1, within_rows u z n (k + 1) (λ i p q. w i (omega arith) (omega arith)))

pub has_rows : {u z : List ℕ} {first many : ℕ} → many * 4 ≤ length u - first * 4 → WithinRows u z first many → HasRows u z first many
has_rows {u} {z} {first} {many} h w = (
  rows_at u many first,
  record { listed = listed_rows u many first h; count = count_rows u many first; within = within_rows u z many first w },
)

-- ---- the other way
pub room_of : {u z : List ℕ} {first many : ℕ} → HasRows u z first many → many * 4 ≤ length u - first * 4
room_of {u} {z} {first} {many} own = by own.0 own.1
  where
    by : (l : List Attr) → Owned u z first many l → many * 4 ≤ length u - first * 4
    by [] y = omega (arith, y.count)
    by (x ∷ l) y = omega (arith, (head_of u z first many (x ∷ l) y (omega (arith, y.count))).room)

-- row k has its name and value within the strings
abbrev Fits : (u z : List ℕ) (k : ℕ) → Type 0
Fits u z k = (get_or u (k * 4) 0 + get_or u (k * 4 + 1) 0 ≤ length z) × (get_or u (k * 4 + 2) 0 + get_or u (k * 4 + 3) 0 ≤ length z)

within_list : (u z : List ℕ) (l : List Attr) (first many : ℕ) → Owned u z first many l → (k : ℕ) → first ≤ k → k < first + many → Fits u z k
within_list u z [] first many y k p q = absurd (omega (arith, y.count))
within_list u z (x ∷ l) first many y k p q = elim (cases_eq first k) [
  | inl e ↦ rw (← e, a.0.name_is, a.0.name_len_is, a.0.value-is, a.0.value-len_is) (y.within.0, y.within.1)
  | inr ne ↦ within_list u z l (first + 1) (many - 1) (record { listed = a.1; count = omega (arith, y.count); within = y.within.2 }) k
      (omega (arith, ne)) (omega (arith, y.count))
]
  where
    a : AttrIs u first x × Listed u (first + 1) l
    a = on_attr u first x l y.listed

pub within_of : {u z : List ℕ} {first many : ℕ} → HasRows u z first many → WithinRows u z first many
within_of {u} {z} {first} {many} own = within_list u z own.0 first many own.1
