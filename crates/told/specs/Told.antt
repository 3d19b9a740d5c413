-- How a call in C tells its answer, in 64 bits. Definitions alone.
use Rattle.std.specs.Prelude.{Result, Ok, Err, ⊤, ℕ, ◌+◌, ◌*◌, ◌%◌, ◌^◌, ◌≡◌}
use Rattle.tree.specs.declared.answers.Refusal.{Refusal}
use Rattle.tree.specs.declared.answers.TreeSize.{TreeSize}

-- the number below 2^32, and above it the place or what is counted (no text, and no table of a text, is so long that it would not fit)
unfoldable pub told : (number high : ℕ) → ℕ
told number high = number + high % 2 ^ 32 * 2 ^ 32

-- ---- for each case of an answer
unfoldable pub tree_told : Result TreeSize Refusal → ℕ
tree_told (Ok t) = told 0 0
tree_told (Err r) = told r.number r.place

unfoldable pub check_told : Result ⊤ Refusal → ℕ
check_told (Ok tt) = told 0 0
check_told (Err r) = told r.number r.place

unfoldable pub read_told : Result ⊤ Refusal → ℕ
read_told (Ok tt) = told 0 0
read_told (Err r) = told r.number r.place

-- a text by how many bytes it has
unfoldable pub written_told : Result ℕ Refusal → ℕ
written_told (Ok n) = told 0 n
written_told (Err r) = told r.number r.place

-- what the call in Rattle promises of its answer, and that this is what is told
pub record Tells {A : Type 0} (tell : A → ℕ) (promise : A → Type 0) (r : ℕ) : Type 0 where
  pub answer : A
  pub promised : promise answer
  pub is : r ≡ tell answer
