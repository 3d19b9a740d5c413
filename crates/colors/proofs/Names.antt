-- Laws of the colour names: the rows of the program's two tables hold the entries of `color_table`. Assumes nothing.
use Rattle.std.specs.Prelude.{Ok, Err}
use Prim.Native.Nat.{ℕ, zero, suc, ◌+◌, ◌-◌, ◌≤◌, ◌<◌}
use mathlib.Core.Path.{◌≡◌, refl, sym, ap, ◌∙◌}
use mathlib.Core.Bool.{Bool, true, false, cond, ◌&&◌}
use mathlib.Core.List.{List, [], ◌∷◌, ◌++◌}
use native.Mathlib.Omega.{arith}
use native.Mathlib.Nat.{add-zero, add-suc, suc-add, zero-add}
use lib.ListN.{length, get_or, drop, replicate, drop_of_length-le}
use lib.Seq.{drop-drop}
use Rattle.scan.specs.Loop.{go, loop}
use Rattle.scan.specs.Bytes.{run_end_of, run_length_of}
use Rattle.scan.specs.Names.{same_bytes_of, same_folded}
use Rattle.scan.proofs.Every.{both}
use Rattle.scan.proofs.Naming.{same_eq}
use Rattle.colors.specs.declared.read.Rgba.{Rgba}
use Rattle.colors.specs.Named.{NamedColor, ◌means◌, color_table, named_in}
use Rattle.colors.specs.Steps.{front, row_color}
use Rattle.colors.specs.declared.read.ColorError.{ColorError}

abbrev channels : Rgba → List ℕ
channels c = c.r ∷ c.g ∷ c.b ∷ c.a ∷ []

same_channels : (c d : Rgba) → same_bytes_of (channels c) (channels d) ≡ true → c ≡ d
same_channels c d e = ap row_color (same_eq (channels c) (channels d) e)

module _ (names values : List (List ℕ)) where
  -- the name and the colour of a row
  abbrev pub name_at : ℕ → List ℕ
  name_at k = front (get_or names k [])

  abbrev pub value_at : ℕ → Rgba
  value_at k = row_color (get_or values k [])

  -- the test: the row's name and its colour are those of an entry
  abbrev right : ℕ → NamedColor → Bool
  right k (n means c) = same_bytes_of (name_at k) n && same_bytes_of (channels (value_at k)) (channels c)

  abbrev right_from : ℕ → List NamedColor → Bool
  right_from k [] = true
  right_from k (x ∷ xs) = right k x && right_from (suc k) xs

  -- the rule at a row: what the name decides, of the entries from there on
  abbrev Row : ℕ → List NamedColor → Type 0
  Row k entries = (s : List ℕ) → named_in s entries ≡ cond (same_folded s (name_at k)) (Ok (value_at k)) (named_in s (drop 1 entries))

  row : (k : ℕ) (x : NamedColor) (xs : List NamedColor) → right k x ≡ true → Row k (x ∷ xs)
  unfolding named_in
  row k (n means c) xs e =
      let p = both e in
      let v : value_at k ≡ c = same_channels (value_at k) c p.1 in
      λ s. rw (same_eq (name_at k) n p.0) (ap (λ (d : Rgba). cond (same_folded s n) (Ok d) (named_in s xs)) (sym v))

  rows : (i : ℕ) (xs : List NamedColor) → right_from i xs ≡ true → (k : ℕ) → k < length xs → Row (i + k) (drop k xs)
  rows i [] e k h = absurd (omega arith)
  rows i (x ∷ xs) e zero h = rw (add-zero i) (row i x xs (both {b = right_from (suc i) xs} e).0)
  rows i (x ∷ xs) e (suc k) h = rw (add-suc i k, ← (suc-add i k)) (rows (suc i) xs (both {a = right i x} e).1 k (omega arith))

-- ---- the tables of the program: a row for each entry
abbrev names_of : List NamedColor → List (List ℕ)
names_of [] = []
names_of (n means c ∷ xs) = (n ++ replicate (11 - length n) 32) ∷ names_of xs

abbrev values_of : List NamedColor → List (List ℕ)
values_of [] = []
values_of (n means c ∷ xs) = channels c ∷ values_of xs

abbrev pub names : List (List ℕ)
names = names_of color_table

abbrev pub values : List (List ℕ)
values = values_of color_table

fit : right_from names values 0 color_table ≡ true
unfolding same_bytes_of run_end_of run_length_of loop go
fit = refl

module _ (k : ℕ) (h : k < 20) (s : List ℕ) where
  here : named_in s (drop k color_table) ≡ cond (same_folded s (name_at names values k)) (Ok (value_at names values k))
      (named_in s (drop 1 (drop k color_table)))
  here = (rw (zero-add k) at (rows names values 0 color_table fit k h)) s

  pub name_hit : same_folded s (name_at names values k) ≡ true → named_in s (drop k color_table) ≡ Ok (value_at names values k)
  name_hit e = here ∙ rw e

  pub name_miss : same_folded s (name_at names values k) ≡ false → named_in s (drop k color_table) ≡ named_in s (drop (k + 1) color_table)
  name_miss e = here ∙ rw (e, drop-drop 1 k color_table)

pub name_none : (k : ℕ) (s : List ℕ) → 20 ≤ k → named_in s (drop k color_table) ≡ Err ColorError.Invalid
unfolding named_in
name_none k s h = rw (drop_of_length-le color_table h)

pub ruleset table_rows = (name_hit, name_miss, name_none)
