-- Laws of tables of rows. Assumes nothing.
use Prim.Native.Nat.{ℕ, zero, suc, ◌+◌, ◌*◌, ◌<◌}
use mathlib.Core.Path.{◌≡◌, refl, ◌∙◌}
use mathlib.Core.List.{List, [], ◌∷◌, ◌++◌, append_assoc}
use native.Mathlib.Omega.{arith}
use native.Mathlib.Nat.{suc-mul}
use lib.ListN.{length, get_or, length-append, get_or-append}
use lib.Seq.{get_or-append-add}
use Rattle.scan.specs.Rows.{cells, Wide}

pub cells-append : (a b : List (List ℕ)) → cells (a ++ b) ≡ cells a ++ cells b
unfolding cells
cells-append [] b = refl
cells-append (r ∷ a) b = rw (cells-append a b, append_assoc)

module _ (w : ℕ) where
  pub wide_append : (a b : List (List ℕ)) → Wide w a → Wide w b → Wide w (a ++ b)
  wide_append [] b h g = g
  wide_append (r ∷ a) b h g = (h.0, wide_append a b h.1 g)

  pub wide_at : (rs : List (List ℕ)) (k : ℕ) → Wide w rs → k < length rs → length (get_or rs k []) ≡ w
  wide_at [] k h l = absurd (omega arith)
  wide_at (r ∷ rs) zero h l = h.0
  wide_at (r ∷ rs) (suc k) h l = wide_at rs k h.1 (omega arith)

  pub cells-length : (rs : List (List ℕ)) → Wide w rs → length (cells rs) ≡ length rs * w
  unfolding cells
  cells-length [] h = omega arith
  cells-length (r ∷ rs) h =
      let e : length r ≡ w = h.0 in
      let i : length (cells rs) ≡ length rs * w = cells-length rs h.1 in
      rw (length-append, suc-mul) (omega arith)

  pub cells_at : (rs : List (List ℕ)) (k j : ℕ) → Wide w rs → k < length rs → j < w → get_or (cells rs) (k * w + j) 0 ≡ get_or (get_or rs k []) j 0
  unfolding cells
  cells_at [] k j h l m = absurd (omega arith)
  cells_at (r ∷ rs) zero j h l m =
      let e : length r ≡ w = h.0 in
      let z : 0 * w + j ≡ j = omega arith in
      rw z (get_or-append r (cells rs) 0 j (omega arith))
  cells_at (r ∷ rs) (suc k) j h l m =
      let e : length r ≡ w = h.0 in
      let z : suc k * w + j ≡ length r + (k * w + j) = rw (suc-mul) (omega arith) in
      rw z (get_or-append-add r (cells rs) (k * w + j) 0 ∙ cells_at rs k j h.1 (omega arith) m)
