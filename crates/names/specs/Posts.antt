-- What the functions ensure of a name that they answer.
use Rattle.std.specs.Prelude.{ℕ, ◌-◌, ◌≤◌, ◌≡◌, List, [], length, get_or, take, drop, replicate}
use Rattle.scan.specs.Bytes.{other, run_end_of}
use Rattle.names.specs.declared.tables.Name.{Name}

-- r is the row with the place of its first blank
pub record Cut (row : List ℕ) (r : Name) : Type 0 where
  pub bytes_are : r.bytes ≡ row
  pub len_is : r.len ≡ run_end_of (other 32) row 0
  pub within : r.len ≤ length row

-- r holds the name w, and blanks behind it
pub record Holds (w : List ℕ) (r : Name) : Type 0 where
  pub whole : length r.bytes ≡ 25
  pub within : r.len ≤ 25
  pub is : take r.len r.bytes ≡ w
  pub rest : drop r.len r.bytes ≡ replicate (25 - r.len) 32

abbrev pub HoldsAt : List (List ℕ) → ℕ → Name → Type 0
HoldsAt ns i r = Holds (get_or ns i []) r
