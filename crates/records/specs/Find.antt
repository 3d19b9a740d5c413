-- Rows found by name. Definitions alone. Names compare byte by byte, as the Rust's keys and `style` do.
use Rattle.std.specs.Prelude as rust
use Rattle.std.specs.Prelude.{Some, None, ℕ, zero, suc, ◌+◌, ◌*◌, ◌≤◌, ◌<◌, Bool, true, false, cond, not, ◌&&◌, List, [], ◌∷◌, length, get_or, eqb}
use Rattle.std.proofs.Math.Option.{Option, none, some}
use Rattle.scan.specs.Names.{same_bytes_of}
use Rattle.scan.specs.Part.{string_at}
use Rattle.track.specs.Track.{Bytes, Extra, Style, Region}
use Rattle.track.specs.Layout.{is_some}

-- the string whose place and length stand at cell i is this
unfoldable pub is_named : List ℕ → List ℕ → List ℕ → ℕ → Bool
is_named t z name i = same_bytes_of (string_at z (get_or t i 0) (get_or t (i + 1) 0)) name

-- the first row, of n from row i on, that begins with this name
unfoldable pub first_row : List ℕ → List ℕ → List ℕ → (w n i : ℕ) → rust.Option ℕ
unfolding is_named
first_row t z name w zero i = None
first_row t z name w (suc n) i = cond (is_named t z name (i * w)) (Some i) (first_row t z name w n (i + 1))

-- the same of rows whose cell `needed` is not zero
unfoldable pub first_with : List ℕ → List ℕ → List ℕ → (w needed n i : ℕ) → rust.Option ℕ
unfolding is_named
first_with t z name w needed zero i = None
first_with t z name w needed (suc n) i =
    cond (not (eqb (get_or t (i * w + needed) 0) 0) && is_named t z name (i * w)) (Some i) (first_with t z name w needed n (i + 1))

-- the table has n rows of w cells, each beginning with a string that is within z
pub record Named (t z : List ℕ) (w n : ℕ) : Type 0 where
  pub two : 2 ≤ w
  pub rows : n * w ≤ length t
  pub within : (i : ℕ) → i < n → get_or t (i * w) 0 + get_or t (i * w + 1) 0 ≤ length z

-- ---- the same of a track
-- the first of a list that passes the test
unfoldable pub first_that : {A : Type 0} → (A → Bool) → List A → Option A
first_that p [] = none
first_that p (x ∷ l) = cond (p x) (some x) (first_that p l)

abbrev pub is_empty : {A : Type 0} → List A → Bool
is_empty [] = true
is_empty (x ∷ l) = false

abbrev pub chain_from : {S : Type 0} → Option (Style S) → Option S
chain_from none = none
chain_from (some x) = x.chain

abbrev pub extras_from : {S : Type 0} → Option (Style S) → List (Extra S)
extras_from none = []
extras_from (some x) = x.extras

-- the Rust's `style`: the first of this name
unfoldable pub find_style : List ℕ → List (Style Bytes) → Option (Style Bytes)
unfolding first_that
find_style name l = first_that (λ (x : Style Bytes). same_bytes_of x.name name) l

-- the first chain, and the first extras that are not empty, of styles of this name
unfoldable pub find_chain : List ℕ → List (Style Bytes) → Option (List ℕ)
unfolding first_that
find_chain name l = chain_from (first_that (λ (x : Style Bytes). is_some x.chain && same_bytes_of x.name name) l)

unfoldable pub find_extras : List ℕ → List (Style Bytes) → List (Extra Bytes)
unfolding first_that
find_extras name l = extras_from (first_that (λ (x : Style Bytes). not (is_empty x.extras) && same_bytes_of x.name name) l)

-- the first region of this id
unfoldable pub find_region : List ℕ → List (Region Bytes) → Option (Region Bytes)
unfolding first_that
find_region id l = first_that (λ (x : Region Bytes). same_bytes_of x.id id) l

-- what is found, of rows that are known by f
abbrev pub found_in : {A : Type 0} → (ℕ → A) → rust.Option ℕ → Option A
found_in f (Some i) = some (f i)
found_in f None = none
