-- The kept attributes of a region by the numbers of their names. Assumes nothing.
--     only_at                          a name that a list has once, at its place
--     value_none, value-here, value_on     `value_at`, a row at a time
--     value-named, value-placed        the value of the attribute of a name, and its place, are those of its number
--     value-within, value-absent       where it stands; without one its part is empty
use Prim.Native.Nat.{ℕ, zero, suc, ◌+◌, ◌-◌, ◌*◌, ◌≤◌, ◌<◌}
use Prim.Native.String.{String}
use mathlib.Core.Path.{◌≡◌, refl, sym, ap, ◌∙◌}
use mathlib.Core.Bool.{Bool, true, false, not, ◌&&◌}
use mathlib.Core.List.{List, [], ◌∷◌}
use native.Mathlib.Omega.{arith}
use native.Mathlib.Nat.{add-zero}
use lib.ListN.{get_or}
use lib.Dec.{eqb}
use borrow.Author.Tests.{not-true, eqb-true, eqb-false, eq-eqb, ne_eqb}
use Rattle.scan.specs.Names.{same_bytes_of}
use Rattle.scan.proofs.Every.{by-test, both}
use Rattle.decimals.proofs.Tests.{no}
use Rattle.names.specs.declared.tables.Listed.{Listed}
use Rattle.names.specs.Lists.{region_attr, name_of}
use Rattle.track.specs.declared.strings.Span.{Span}
use Rattle.track.specs.Track.{Extra}
use Rattle.track.specs.Tables.{span, cell, rows_from, extra_at}
use Rattle.track.specs.Shown.{bytes_at, given, shown_extra}
use Rattle.track.proofs.ShownLaws.{each_rows}
use Rattle.records.specs.Find.{first_that}
use Rattle.styles.specs.Own.{ascii, value_of}
use Rattle.queries.specs.declared.own.Value.{Value}
use Rattle.queries.specs.Places.{extras_of, extras_at}
use Rattle.queries.specs.Steps.{no_value_of, value_at, value_in_of, SpanIn}

-- ---- a name that a list has once
unfoldable pub none_of_lem : List (List ℕ) → List ℕ → Bool
none_of_lem [] b = not (same_bytes_of [] b)
none_of_lem (x ∷ l) b = not (same_bytes_of x b) && none_of_lem l b

unfoldable pub once_at : List (List ℕ) → List ℕ → ℕ → Bool
unfolding none_of_lem
once_at [] b k = false
once_at (x ∷ l) b zero = same_bytes_of x b && none_of_lem l b
once_at (x ∷ l) b (suc k) = not (same_bytes_of x b) && once_at l b k

none-at : (l : List (List ℕ)) (b : List ℕ) → none_of_lem l b ≡ true → (i : ℕ) → same_bytes_of (get_or l i []) b ≡ false
unfolding none_of_lem
none-at [] b h i = not-true (same_bytes_of [] b) h
none-at (x ∷ l) b h zero = not-true (same_bytes_of x b) (both {a = not (same_bytes_of x b)} {b = none_of_lem l b} h).0
none-at (x ∷ l) b h (suc i) = none-at l b (both {a = not (same_bytes_of x b)} {b = none_of_lem l b} h).1 i

pub only_at : (l : List (List ℕ)) (b : List ℕ) (k : ℕ) → once_at l b k ≡ true → (i : ℕ) → same_bytes_of (get_or l i []) b ≡ eqb i k
unfolding once_at
only_at [] b k h i = no (sym h)
only_at (x ∷ l) b zero h zero = (both {a = same_bytes_of x b} {b = none_of_lem l b} h).0 ∙ sym (eq-eqb 0 0 refl)
only_at (x ∷ l) b zero h (suc i) = none-at l b (both {a = same_bytes_of x b} {b = none_of_lem l b} h).1 i ∙ sym (ne_eqb (suc i) 0 (λ e. omega arith))
only_at (x ∷ l) b (suc k) h zero = not-true (same_bytes_of x b) (both {b = once_at l b k} h).0 ∙ sym (ne_eqb 0 (suc k) (λ e. omega arith))
only_at (x ∷ l) b (suc k) h (suc i) = only_at l b k (both {a = not (same_bytes_of x b)} {b = once_at l b k} h).1 i ∙ same i k
  where
    same : (i k : ℕ) → eqb i k ≡ eqb (suc i) (suc k)
    same i k = by-test (eqb i k) (λ e. e ∙ sym (eq-eqb (suc i) (suc k) (ap suc (eqb-true i k e))))
        (λ e. e ∙ sym (ne_eqb (suc i) (suc k) (λ q. eqb-false i k e (omega arith))))

-- ---- rows
module _ (e : List ℕ) (k i : ℕ) where
  pub value_none : value_at e k 0 i ≡ no_value_of
  unfolding value_at
  value_none = refl

  pub value-here : (n : ℕ) → get_or e (i * 3) 0 ≡ k
      → value_at e k (suc n) i ≡ record { has = true; span = span (get_or e (i * 3 + 1) 0) (get_or e (i * 3 + 2) 0) }
  unfolding value_at
  value-here n h = rw (eq-eqb (get_or e (i * 3) 0) k h)

  pub value_on : (n : ℕ) → (get_or e (i * 3) 0 ≡ k → ⊥) → value_at e k (suc n) i ≡ value_at e k n (i + 1)
  unfolding value_at
  value_on n h = rw (ne_eqb (get_or e (i * 3) 0) k h)

-- whatever is made of the value's place
module _ {S : Type 0} (g : Span → S) (name : String) (k : ℕ) (h : once_at region_attr (ascii name) k ≡ true) (e : List ℕ) where
  abbrev made : ℕ → Extra S
  made i = record { number = (extra_at e i).number; value = g (extra_at e i).value }

  pub value_made : (n i : ℕ) → value_of name (rows_from made n i) ≡ given (value_at e k n i).has (g (value_at e k n i).span)
  unfolding value_of first_that rows_from value_at extra_at cell
  value_made zero i = refl
  value_made (suc n) i =
      let q : same_bytes_of (name_of Listed.RegionAttr (get_or e (i * 3 + 0) 0)) (ascii name) ≡ eqb (get_or e (i * 3) 0) k =
      rw (add-zero (i * 3)) (only_at region_attr (ascii name) k h (get_or e (i * 3) 0)) in
      by-test (eqb (get_or e (i * 3) 0) k) (λ t. rw (q, t)) (λ t. rw (q, t) (value_made n (i + 1)))

-- its bytes, and the place itself
pub value-named : (name : String) (k : ℕ) → once_at region_attr (ascii name) k ≡ true
    → (e z : List ℕ) (n i : ℕ) → value_of name (extras_of e z i n) ≡ value_in_of e z k n i
unfolding shown_extra
value-named name k h e z n i = ap (value_of name) (each_rows (shown_extra z) (extra_at e) n i) ∙ value_made (bytes_at z) name k h e n i

pub value-placed : (name : String) (k : ℕ) → once_at region_attr (ascii name) k ≡ true
    → (e : List ℕ) (n i : ℕ) → value_of name (extras_at e i n) ≡ given (value_at e k n i).has (value_at e k n i).span
value-placed name k h e n i = value_made (λ x. x) name k h e n i

pub value-within : (e z : List ℕ) (k n i : ℕ)
    → ((j : ℕ) → i ≤ j → j < i + n → SpanIn z (span (get_or e (j * 3 + 1) 0) (get_or e (j * 3 + 2) 0))) → SpanIn z (value_at e k n i).span
unfolding value_at
value-within e z k zero i h = record { within = omega arith; few = omega arith }
value-within e z k (suc n) i h =
    by-test (eqb (get_or e (i * 3) 0) k) (λ t. rw t (h i (omega arith) (omega arith)))
    (λ t. rw t (value-within e z k n (i + 1) (λ j a b. h j (omega arith) (omega arith))))

pub value-absent : (e : List ℕ) (k n i : ℕ) → (value_at e k n i).has ≡ false → (value_at e k n i).span ≡ span 0 0
unfolding value_at
value-absent e k zero i h = refl
value-absent e k (suc n) i h = by-test (eqb (get_or e (i * 3) 0) k) (λ t. no (rw t at h)) (λ t. rw t (value-absent e k n (i + 1) (rw t at h)))

-- ---- along the rows
module _ (e : List ℕ) (k : ℕ) where
  pub value-start : (n i : ℕ) → value_at e k n i ≡ value_at e k (i + n - i) i
  value-start n i = let q : i + n - i ≡ n = omega arith in rw q

  module _ (v : Value) (end i : ℕ) (h : v ≡ value_at e k (end - i) i) where
    onward : i < end → end - i ≡ suc (end - (i + 1))
    onward l = omega arith

    pub value-stop : i < end → get_or e (i * 3) 0 ≡ k → (s : Span) → s ≡ record { place = get_or e (i * 3 + 1) 0; len = get_or e (i * 3 + 1 + 1) 0 }
        → record { has = true; span = s } ≡ v
    value-stop l g s q =
        let a : i * 3 + 1 + 1 ≡ i * 3 + 2 = omega arith in
        let b : s ≡ span (get_or e (i * 3 + 1) 0) (get_or e (i * 3 + 2) 0) = rw a at q in
        let c : v ≡ value_at e k (suc (end - (i + 1))) i = rw (onward l) at h in
        rw b (sym (c ∙ value-here e k i (end - (i + 1)) g))

    pub value-next : i < end → (get_or e (i * 3) 0 ≡ k → ⊥) → v ≡ value_at e k (end - (i + 1)) (i + 1)
    value-next l g =
        let c : v ≡ value_at e k (suc (end - (i + 1))) i = rw (onward l) at h in
        c ∙ value_on e k i (end - (i + 1)) g

    pub value-end : end ≤ i → no_value_of ≡ v
    value-end l =
        let a : end - i ≡ 0 = omega arith in
        let c : v ≡ value_at e k 0 i = rw a at h in
        sym (c ∙ value_none e k i)
