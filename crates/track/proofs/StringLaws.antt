-- A string of an accepted table is UTF-8. Assumes nothing.
--     three, four                   the sides of a test
--     used_utf8                     the used bytes are UTF-8 where they are tested
--     span-utf8                     a string of them is UTF-8
--     given-span, optional-utf8     so is one that may be absent, where it is there
--     string_used                   it has the same bytes in the whole table
use Prim.Native.Nat.{ℕ, ◌+◌, ◌-◌, ◌≤◌}
use mathlib.Core.Path.{◌≡◌, sym, ap, ◌∙◌}
use mathlib.Core.Bool.{Bool, true, ◌&&◌}
use mathlib.Core.List.{List, ◌++◌}
use native.Mathlib.Omega.{arith}
use lib.ListN.{length, take, drop, length-drop, take-append-drop}
use lib.Seq.{take-append-le, drop-append-le}
use lib.Dec.{leb}
use borrow.Author.Tests.{eqb-true, leb-true}
use Rattle.scan.specs.Part.{string_at}
use Rattle.utf8.specs.Utf8.{Utf8, boundary, utf8_end}
use Rattle.utf8.proofs.Utf8Laws.{end_utf8}
use Rattle.utf8.proofs.Boundaries.{utf8_part}
use Rattle.scan.proofs.Every.{both}
use Rattle.track.specs.Meaning.{is_span, is_optional, is_utf8}

pub three : (a b c : Bool) → a && b && c ≡ true → (a ≡ true) × (b ≡ true) × (c ≡ true)
three a b c h =
    let x = both {a = a && b} {b = c} h in
    let y = both {a = a} {b = b} x.0 in
    (y.0, y.1, x.1)

pub four : (a b c d : Bool) → a && b && c && d ≡ true → (a ≡ true) × (b ≡ true) × (c ≡ true) × (d ≡ true)
four a b c d h =
    let x = both {a = a && b && c} {b = d} h in
    let y = three a b c x.0 in
    (y.0, y.1, y.2, x.1)

pub used_utf8 : (z : List ℕ) → is_utf8 z ≡ true → Utf8 z
unfolding is_utf8
used_utf8 z e = end_utf8 z (eqb-true (utf8_end z) (length z) e)

module _ (z : List ℕ) (p n : ℕ) where
  span-parts : is_span z p n ≡ true → (p + n ≤ length z) × (boundary z p ≡ true) × (boundary z (p + n) ≡ true)
  unfolding is_span
  span-parts e =
      let a = three (leb (p + n) (length z)) (boundary z p) (boundary z (p + n)) e in
      (leb-true (p + n) (length z) a.0, a.1, a.2)

  pub span-utf8 : is_utf8 z ≡ true → is_span z p n ≡ true → Utf8 (string_at z p n)
  span-utf8 u e =
      let a = span-parts e in
      utf8_part z p n (used_utf8 z u) a.0 a.1 a.2

  -- a string that is there
  pub given-span : is_optional z 1 p n ≡ true → is_span z p n ≡ true
  unfolding is_optional
  given-span e = e

  pub optional-utf8 : is_utf8 z ≡ true → is_optional z 1 p n ≡ true → Utf8 (string_at z p n)
  optional-utf8 u e = span-utf8 u (given-span e)

pub string_used : (s : List ℕ) (u p n : ℕ) → p + n ≤ length (take u s) → string_at (take u s) p n ≡ string_at s p n
unfolding string_at
string_used s u p n h =
    let d : p + n - p ≡ n = omega arith in
    let b : n ≤ length (drop p (take u s)) = simp length-drop (omega arith) in
    let e : drop p s ≡ drop p (take u s) ++ drop u s =
    ap (drop p) (sym (take-append-drop u s)) ∙ drop-append-le p (take u s) (drop u s) (omega arith) in
    rw (d, e) (sym (take-append-le n (drop p (take u s)) (drop u s) b))
