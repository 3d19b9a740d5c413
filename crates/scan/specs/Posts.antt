-- What the scans and the tables ensure.
use Rattle.std.specs.Prelude.{Option, Some, None, ℕ, ◌+◌, ◌≤◌, ◌<◌, ◌≡◌, Bool, true, false, List, [], ◌∷◌, length, get_or, take}
use Rattle.std.proofs.lemmas.List.Edits.{sets}
use Rattle.scan.specs.Bytes.{run_end_of}
use Rattle.scan.specs.Marks.{starts_at, seek, past}

-- the run of bytes from p that pass the test ends at r
pub record Ends (t : ℕ → Bool) (s : List ℕ) (p r : ℕ) : Type 0 where
  pub is : r ≡ run_end_of t s p
  pub after : p ≤ r
  pub within : r ≤ length s
  pub stops : r < length s → t (get_or s r 0) ≡ false

-- the bytes from p up to e pass the test
abbrev pub Passes : (ℕ → Bool) → List ℕ → ℕ → ℕ → Type 0
Passes t s p e = (k : ℕ) → p ≤ k → k < e → t (get_or s k 0) ≡ true

-- the run of bytes from p that pass the test ends where the run from r does
pub record Skips (t : ℕ → Bool) (s : List ℕ) (p r : ℕ) : Type 0 where
  pub after : p ≤ r
  pub within : r ≤ length s
  pub same : run_end_of t s p ≡ run_end_of t s r

-- r says whether the mark stands at p
pub record Marked (m s : List ℕ) (p : ℕ) (r : Bool) : Type 0 where
  pub is : r ≡ starts_at s p m
  pub whole : r ≡ true → p + length m ≤ length s

-- r is the first place of the mark, whole within the text; or the text's length
pub record Found (m s : List ℕ) (p r : ℕ) : Type 0 where
  pub is : r ≡ seek m s p
  pub after : p ≤ r
  pub within : r ≤ length s
  pub whole : r < length s → r + length m ≤ length s

-- r is the place after it, or the text's length
pub record Passed (m s : List ℕ) (p r : ℕ) : Type 0 where
  pub is : r ≡ past m s p
  pub after : p ≤ r
  pub within : r ≤ length s
  pub beyond : p < length s → 0 < length m → p < r

-- ---- what is written
-- document 01's number of an answer, 0 where none is met ("18. Output exceeds the lent length"), and its values
abbrev pub written_number : Option ℕ → ℕ
written_number (Some n) = 0
written_number None = 18

abbrev pub written_values : Option ℕ → List ℕ
written_values (Some n) = n ∷ []
written_values None = []

-- the piece w stands in the table t' from a place on, up to n, and all other cells are as in t
pub record Appended (w : List ℕ) (at : ℕ) (t t' : List ℕ) (n : ℕ) : Type 0 where
  pub next : n ≡ at + length w
  pub within : n ≤ length t
  pub laid : t' ≡ sets t at w

-- the piece w is written at a place of the table t; or it does not fit, and the table is as it was
abbrev pub Wrote : List ℕ → ℕ → List ℕ → List ℕ → Option ℕ → Type 0
Wrote w at t t' (Some n) = Appended w at t t' n
Wrote w at t t' None = (length t < at + length w) × (t' ≡ t)

-- a beginning of the piece w stands in the table t' from a place on, and all other cells are as in t
pub record Begun (w : List ℕ) (at : ℕ) (t t' : List ℕ) : Type 0 where
  pub many : ℕ
  pub some : many ≤ length w
  pub room : at + many ≤ length t
  pub laid : t' ≡ sets t at (take many w)

-- the same of a piece that is written part by part: where it does not fit, a beginning of it stands there, as long as the program left it
abbrev pub WroteInPart : List ℕ → ℕ → List ℕ → List ℕ → Option ℕ → Type 0
WroteInPart w at t t' (Some n) = Appended w at t t' n
WroteInPart w at t t' None = (length t < at + length w) × Begun w at t t'
