-- A text taken apart at a byte. Definitions alone.
use Rattle.std.specs.Prelude.{ℕ, cond, List, [], ◌∷◌, eqb}

-- the parts of s between the bytes b, one more than there are such bytes (Rust's `split`)
abbrev pub joined : ℕ → List (List ℕ) → List (List ℕ)
joined a [] = (a ∷ []) ∷ []
joined a (w ∷ ws) = (a ∷ w) ∷ ws

unfoldable pub split_at : ℕ → List ℕ → List (List ℕ)
split_at b [] = [] ∷ []
split_at b (a ∷ s) = cond (eqb a b) ([] ∷ split_at b s) (joined a (split_at b s))

-- what stands before the first b and what stands after it; or there is no such byte (Rust's `split_once`)
pub data Halves : Type 0 where
  halves : (before after : List ℕ) → Halves
  no_half : Halves

abbrev pub onward : ℕ → Halves → Halves
onward a (halves x y) = halves (a ∷ x) y
onward a no_half = no_half

unfoldable pub split_once : ℕ → List ℕ → Halves
split_once b [] = no_half
split_once b (a ∷ s) = cond (eqb a b) (halves [] s) (onward a (split_once b s))
