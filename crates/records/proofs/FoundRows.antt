-- What the searches by name find, of the track that the tables hold. Assumes nothing.
use Rattle.std.specs.Prelude.{Some, None}
use Prim.Native.Nat.{ℕ, zero, suc, ◌+◌, ◌*◌, ◌≤◌, ◌<◌}
use mathlib.Core.Path.{◌≡◌, refl, sym, ap, ◌∙◌}
use mathlib.Core.Bool.{Bool, true, false, cond, not, ◌&&◌}
use mathlib.Core.List.{List}
use mathlib.Core.Option.{none, some}
use native.Mathlib.Omega.{arith}
use native.Mathlib.Nat.{add-zero}
use lib.ListN.{length, get_or}
use lib.Dec.{eqb}
use lib.Ieee.{Float}
use borrow.Author.Tests.{eqb-true, eqb-false, ne_eqb, leb-true}
use Rattle.scan.specs.Names.{same_bytes_of}
use Rattle.track.specs.Tables.{Tables, cell, rows_from, style_at, region_at}
use Rattle.track.specs.Layout.{each, is_some}
use Rattle.track.specs.Meaning.{is_span, style_strings, is_style, is_region, style_in, region_in}
use Rattle.scan.proofs.Every.{by-test, both}
use Rattle.records.specs.Find.{is_named, first_row, first_with, first_that, is_empty, chain_from, extras_from, find_style, find_chain, find_extras}
use Rattle.records.specs.Find.{find_region, found_in, Named}
use Rattle.records.proofs.Finding.{first_of, named, named_with, first_row-of, first_with-of}

-- rows that pass a test as their values pass another
module _ {A : Type 0} (f : ℕ → A) (p : A → Bool) (q : ℕ → Bool) (same : (i : ℕ) → q i ≡ p (f i)) where
  pub first-that : (n i : ℕ) → first_that p (rows_from f n i) ≡ found_in f (first_of q n i)
  unfolding first_that rows_from first_of
  first-that zero i = refl
  first-that (suc n) i =
      by-test (p (f i)) (λ e. rw (same i, e)) (λ e. rw (same i, e) (first-that n (i + 1)))

-- ---- which row is found
-- it is one of them and passes the test, and none before it does
pub record First (p : ℕ → Bool) (n i j : ℕ) : Type 0 where
  pub from : i ≤ j
  pub within : j < i + n
  pub passes : p j ≡ true
  pub before : (k : ℕ) → i ≤ k → k < j → p k ≡ false

module _ (p : ℕ → Bool) where
  -- a row, and those after it
  fails_from : (i k : ℕ) → p i ≡ false → (i + 1 ≤ k → p k ≡ false) → i ≤ k → p k ≡ false
  fails_from i k e r h = by-test (eqb i k) (λ z. rw (← (eqb-true i k z)) e) (λ z. r (omega (arith, eqb-false i k z)))

  pub first-row : (n i j : ℕ) → first_of p n i ≡ Some j → First p n i j
  unfolding first_of
  first-row zero i j h = absurd (let z : ◌≡◌ {A = ℕ} 0 1 = cc in omega arith)
  first-row (suc n) i j h =
      by-test (p i)
      (λ e.
      let g : Some i ≡ Some j = rw e at h in
      let o : i ≡ j = cc in
      record { from = omega arith; within = omega arith; passes = rw o at e; before = λ k a b. absurd (omega arith) })
      (λ e.
      let r : First p n (i + 1) j = first-row n (i + 1) j (rw e at h) in
      record { from = omega arith; within = omega arith; passes = r.passes; before = λ k a b. fails_from i k e (λ c. r.before k c b) a })

  pub first-none : (n i : ℕ) → first_of p n i ≡ None → (k : ℕ) → i ≤ k → k < i + n → p k ≡ false
  unfolding first_of
  first-none zero i h k a b = absurd (omega arith)
  first-none (suc n) i h k a b =
      by-test (p i) (λ e. absurd (let g : Some i ≡ None = rw e at h in let z : ◌≡◌ {A = ℕ} 0 1 = cc in omega arith))
      (λ e. fails_from i k e (λ c. first-none n (i + 1) (rw e at h) k c (omega arith)) a)

module _ (t z name : List ℕ) (w n : ℕ) where
  pub row_first : (j : ℕ) → first_row t z name w n 0 ≡ Some j → First (named t z name w) n 0 j
  row_first j h = first-row (named t z name w) n 0 j (sym (first_row-of t z name w n 0) ∙ h)

  pub with_first : (needed j : ℕ) → first_with t z name w needed n 0 ≡ Some j → First (named_with t z name w needed) n 0 j
  with_first needed j h = first-row (named_with t z name w needed) n 0 j (sym (first_with-of t z name w needed n 0) ∙ h)

-- ---- tests of a row and of its value
some_unless : {A : Type 0} (b : Bool) (x : A) → is_some (cond b none (some x)) ≡ not b
some_unless true x = refl
some_unless false x = refl

empty-rows : {A B : Type 0} (g : A → B) (f : ℕ → A) (n i : ℕ) → is_empty (each g (rows_from f n i)) ≡ eqb n 0
unfolding each rows_from
empty-rows g f zero i = refl
empty-rows g f (suc n) i = sym (ne_eqb (suc n) 0 (λ e. omega arith))

module _ (T : Tables) (name : List ℕ) (i : ℕ) where
  style_named : named T.styles T.strings name 27 i ≡ same_bytes_of (style_in T i).name name
  unfolding is_named style_in style_at cell
  style_named = rw (add-zero (i * 27))

  chain_named : named_with T.styles T.strings name 27 3 i ≡ (is_some (style_in T i).chain && same_bytes_of (style_in T i).name name)
  unfolding style_in style_at cell
  chain_named = rw (style_named, some_unless (eqb (get_or T.styles (i * 27 + 3) 0) 0) _)

  extras_named : named_with T.styles T.strings name 27 26 i ≡ (not (is_empty (style_in T i).extras) && same_bytes_of (style_in T i).name name)
  unfolding style_in style_at cell
  extras_named = rw (style_named, empty-rows _ _ (get_or T.styles (i * 27 + 26) 0) _)

  region-named : named T.regions T.strings name 4 i ≡ same_bytes_of (region_in T i).id name
  unfolding is_named region_in region_at cell
  region-named = rw (add-zero (i * 4))

-- ---- what is found, of the track
module _ (T : Tables) (name : List ℕ) (n : ℕ) where
  pub style_found : find_style name (rows_from (style_in T) n 0) ≡ found_in (style_in T) (first_row T.styles T.strings name 27 n 0)
  unfolding find_style
  style_found = rw (first_row-of T.styles T.strings name 27 n 0) (first-that (style_in T) _ _ (style_named T name) n 0)

  pub chain_found : find_chain name (rows_from (style_in T) n 0) ≡ chain_from (found_in (style_in T) (first_with T.styles T.strings name 27 3 n 0))
  unfolding find_chain
  chain_found = rw (first_with-of T.styles T.strings name 27 3 n 0) (ap chain_from (first-that (style_in T) _ _ (chain_named T name) n 0))

  pub extras_found : find_extras name (rows_from (style_in T) n 0) ≡ extras_from (found_in (style_in T) (first_with T.styles T.strings name 27 26 n 0))
  unfolding find_extras
  extras_found = rw (first_with-of T.styles T.strings name 27 26 n 0) (ap extras_from (first-that (style_in T) _ _ (extras_named T name) n 0))

  pub region-found : find_region name (rows_from (region_in T) n 0) ≡ found_in (region_in T) (first_row T.regions T.strings name 4 n 0)
  unfolding find_region
  region-found = rw (first_row-of T.regions T.strings name 4 n 0) (first-that (region_in T) _ _ (region-named T name) n 0)

-- ---- the rows of a checked track can be searched; z are the bytes that are used of a table of strings
span-within : (z y : List ℕ) (p n : ℕ) → is_span z p n ≡ true → length z ≤ length y → p + n ≤ length y
unfolding is_span
span-within z y p n h l = let e : p + n ≤ length z = leb-true (p + n) (length z) (both (both h).0).0 in omega arith

pub styles_named : (t : List ℕ) (f : List Float) (e z y : List ℕ) (n : ℕ) → ((i : ℕ) → i < n → is_style t f e z i ≡ true) → n * 27 ≤ length t
    → length z ≤ length y → Named t y 27 n
unfolding is_style style_strings
styles_named t f e z y n h r l =
    record { two = omega arith; rows = r; within = λ i k. span-within z y _ _ (both (both (both (both (both (h i k)).0).0).0).0).0 l }

pub regions_named : (t e z y : List ℕ) (n : ℕ) → ((i : ℕ) → i < n → is_region t e z i ≡ true) → n * 4 ≤ length t → length z ≤ length y → Named t y 4 n
unfolding is_region cell
regions_named t e z y n h r l =
    record { two = omega arith; rows = r; within = λ i k. rw add-zero at (span-within z y _ _ (both (h i k)).0 l) }
