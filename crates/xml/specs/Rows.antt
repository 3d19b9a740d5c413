-- What is true of the rows of an element's attributes. Definitions alone.
use Rattle.std.specs.Prelude.{ℕ, ◌+◌, ◌*◌, ◌≤◌, ◌<◌, List, length, get_or}

-- each of the `many` names and values from row `first` on stands within the strings z
abbrev pub WithinRows : (u z : List ℕ) (first many : ℕ) → Type 0
WithinRows u z first many = (k : ℕ) → first ≤ k → k < first + many
    → (get_or u (k * 4) 0 + get_or u (k * 4 + 1) 0 ≤ length z) × (get_or u (k * 4 + 2) 0 + get_or u (k * 4 + 3) 0 ≤ length z)
