-- One round of the searches. Assumes nothing.
--     onward                                             the row after the first of some siblings
--     Rest, rest-here, rest-next, rest_out               `find_element` goes on with the siblings from row k on
--     local_within, local_part                           the part of a name that `is_element` compares
use Rattle.std.specs.Prelude.{Some, None}
use Prim.Native.Nat.{ℕ, zero, suc, ◌+◌, ◌-◌, ◌*◌, ◌≤◌, ◌<◌}
use mathlib.Core.Path.{◌≡◌, refl, sym, ◌∙◌}
use mathlib.Core.Bool.{true, false, true≢false}
use mathlib.Core.List.{List, [], ◌∷◌, ◌++◌}
use native.Mathlib.Omega.{arith}
use native.Mathlib.Nat.{sub-zero}
use lib.ListN.{length, get_or, take, drop, length-take}
use lib.Seq.{take-nil, drop-drop}
use Rattle.scan.specs.Names.{PartFrom}
use Rattle.tree.specs.Trees.{Forest, nil, text, section, elem, size, attrs_of, attr_spans, spans, InOrder}
use Rattle.tree.specs.Walks.{Stands, RowIs}
use Rattle.tree.proofs.Places.{in_rest}
use Rattle.tree.proofs.Walks.{on_text, on_section, on_elem, placed_text, placed_section, placed_elem}
use Rattle.scan.specs.Part.{string_at}
use Rattle.xml.specs.Find.{named, Siblings, find_row, is_element}
use Rattle.xml.proofs.FindLaws.{is-element_text, is-element_section, is-element_elem}

-- ---- siblings
-- the siblings after the first of those that stand from row k on
record Later (t z name : List ℕ) (k : ℕ) (g : Forest) : Type 0 where
  pub first : ℕ
  pub forest : Forest
  pub stands : Stands t (get_or t (k * 6 + 1) 0) first forest
  pub after : k < get_or t (k * 6 + 1) 0
  pub end : get_or t (k * 6 + 1) 0 + size forest ≡ k + size g
  pub placed : (lo hi : ℕ) → InOrder lo (spans g) hi → (lo' : ℕ) × InOrder lo' (spans forest) hi
  pub here : is_element t z name k ≡ true → find_row z name k g ≡ Some k
  pub passed : is_element t z name k ≡ false → find_row z name k g ≡ find_row z name (get_or t (k * 6 + 1) 0) forest

module _ (t z name : List ℕ) (k b : ℕ) where
  -- a text or a section
  passing : (kind p n : ℕ) (f g : Forest) → RowIs t k kind (k + 1) p n 0 0 → Stands t (k + 1) b g → 1 + size g ≡ size f
      → ((lo hi : ℕ) → InOrder lo (spans f) hi → (lo ≤ p) × InOrder (p + n) (spans g) hi)
      → is_element t z name k ≡ false → find_row z name k f ≡ find_row z name (k + 1) g → Later t z name k f
  passing kind p n f g r s e o j w = record {
    first = b;
    forest = g;
    stands = rw r.end_is s;
    after = omega (arith, r.end_is);
    end = omega (arith, r.end_is);
    placed = λ lo hi i. (p + n, (o lo hi i).1);
    here = λ v. absurd (true≢false (sym v ∙ j));
    passed = λ v. rw r.end_is w;
  }

  later : (g : Forest) → Stands t k b g → 0 < size g → Later t z name k g
  unfolding size find_row
  later nil s h = absurd (omega arith)
  later (text p n g) s h =
      let r : RowIs t k 1 (k + 1) p n 0 0 × Stands t (k + 1) b g = on_text t k b p n g s in
      passing 1 p n (text p n g) g r.0 r.1 refl (λ lo hi i. placed_text lo hi p n g i) (is-element_text z name s) refl
  later (section p n g) s h =
      let r : RowIs t k 3 (k + 1) p n 0 0 × Stands t (k + 1) b g = on_section t k b p n g s in
      passing 3 p n (section p n g) g r.0 r.1 refl (λ lo hi i. placed_section lo hi p n g i) (is-element_section z name s) refl
  later (elem p n l c g) s h =
      let d : ℕ = b + length l + length (attrs_of c) in
      let lo : ℕ = p + 1 + n in
      let r : RowIs t k 2 (k + 1 + size c) p n b (length l) × Stands t (k + 1) (b + length l) c × Stands t (k + 1 + size c) d g =
      on_elem t k b p n l c g s in
      let e : get_or t (k * 6 + 1) 0 ≡ k + 1 + size c = r.0.end_is in
      let j : is_element t z name k ≡ named name (string_at z (p + 1) n) = is-element_elem z name s in
      record {
        first = d;
        forest = g;
        stands = rw e r.2;
        after = omega arith;
        end = omega arith;
        placed =
            λ at hi o. (lo, in_rest (spans c) (spans g) lo hi (in_rest (attr_spans l) (spans c ++ spans g) lo hi (placed_elem at hi p n l c g o).1));
        here = λ w. rw (sym j ∙ w);
        passed = λ w. rw (sym j ∙ w, e);
      }

-- the row after the first of them
pub record Onward (t z : List ℕ) (k e : ℕ) : Type 0 where
  pub after : k < get_or t (k * 6 + 1) 0
  pub within : get_or t (k * 6 + 1) 0 ≤ e
  pub siblings : Siblings t z (get_or t (k * 6 + 1) 0) e

pub onward : {t z : List ℕ} {k e : ℕ} → Siblings t z k e → k < e → Onward t z k e
onward {t} {z} {k} {e} x h =
    let y : Later t z [] k x.forest = later t z [] k x.first x.forest x.stands (omega (arith, x.end)) in
    let o : (lo : ℕ) × InOrder lo (spans y.forest) (length z) = y.placed x.lo (length z) x.placed in
    record {
      after = y.after;
      within = omega (arith, y.end, x.end);
      siblings = record { first = y.first; forest = y.forest; stands = y.stands; lo = o.0; placed = o.1; end = y.end ∙ x.end };
    }

-- the search of f from row i up to e goes on with the siblings from row k on
pub record Rest (t z name : List ℕ) (i k e : ℕ) (f : Forest) : Type 0 where
  pub first : ℕ
  pub forest : Forest
  pub stands : Stands t k first forest
  pub end : k + size forest ≡ e
  pub is : find_row z name i f ≡ find_row z name k forest

module _ {t z name : List ℕ} {i k e : ℕ} {f : Forest} where
  pub rest-here : Rest t z name i k e f → k < e → is_element t z name k ≡ true → Some k ≡ find_row z name i f
  rest-here x h w = sym (x.is ∙ (later t z name k x.first x.forest x.stands (omega (arith, x.end))).here w)

  pub rest-next : Rest t z name i k e f → k < e → is_element t z name k ≡ false → Rest t z name i (get_or t (k * 6 + 1) 0) e f
  rest-next x h w =
      let y : Later t z name k x.forest = later t z name k x.first x.forest x.stands (omega (arith, x.end)) in
      record { first = y.first; forest = y.forest; stands = y.stands; end = y.end ∙ x.end; is = x.is ∙ y.passed w }

  pub rest_out : Rest t z name i k e f → e ≤ k → None ≡ find_row z name i f
  unfolding find_row size
  rest_out x h = by x.forest x.is (omega (arith, x.end))
    where
      by : (g : Forest) → find_row z name i f ≡ find_row z name k g → size g ≡ 0 → None ≡ find_row z name i f
      by nil w j = sym w
      by (text p n g) w j = absurd (omega arith)
      by (section p n g) w j = absurd (omega arith)
      by (elem p n l c g) w j = absurd (omega arith)

-- ---- the local name
drop_take : (r m : ℕ) (l : List ℕ) → r ≤ m → drop r (take m l) ≡ take (m - r) (drop r l)
drop_take zero m l h = rw (sub-zero m)
drop_take (suc r) zero l h = absurd (omega arith)
drop_take (suc r) (suc m) [] h = sym (take-nil (suc m - suc r))
drop_take (suc r) (suc m) (x ∷ l) h = let z : suc m - suc r ≡ m - r = omega arith in rw z (drop_take r m l (omega arith))

-- the local part of the name of n bytes at p starts at r: it is within the name, and what `is_element` compares
module _ (z : List ℕ) (p n r : ℕ) (w : List ℕ) (x : PartFrom (string_at z p n) r w) where
  pub local_within : r ≤ n
  unfolding string_at
  local_within = omega (arith, x.within, length-take (p + n - p) (drop p z))

  pub local_part : take (p + n - (p + r)) (drop (p + r) z) ≡ w
  unfolding string_at
  local_part =
      let v : p + n - p - r ≡ p + n - (p + r) = omega arith in
      sym (rw (← (drop-drop r p z), ← v) (drop_take r (p + n - p) (drop p z) (omega (arith, local_within)))) ∙ x.is
