-- What the functions that clear tables ask and ensure. This file need not be believed: `parse` promises what is left in the end.
use Rattle.std.specs.Prelude.{ℕ, ◌-◌, ◌*◌, ◌≤◌, ◌≡◌, Bool, true, false, List, [], ℤ, Float, length, drop, replicate}
use Rattle.track.specs.Tables.{Tables, tables, lengths}
use Rattle.xml.specs.Promise as xml
use Rattle.promised.proofs.Promises.{RestLong, RestZero}

-- ---- the tables of a track but for its strings

abbrev pub rest :
    (head params styles regions cues : List ℕ) (times : List ℤ) (segments : List ℕ) (sizes : List Float) (extras texts : List ℕ) → Tables
rest h p s r c m g f e y = tables h p s r c m g f e [] y

-- b says whether P holds
abbrev pub Tells : Type 0 → Bool → Type 0
Tells P true = P
Tells P false = ¬ P

-- every cell is zero, and r says whether they are long enough
pub record Prepared (T T' : Tables) (r : Bool) : Type 0 where
  pub zero : RestZero (lengths T) T'
  pub long : Tells (RestLong (lengths T)) r

-- ---- the tables of a tree

abbrev pub tree_tables : (nodes attrs strings : List ℕ) → xml.Tables
tree_tables t u z = xml.tables t u z

-- from cell k on every cell is zero
abbrev pub BlankFrom : ℕ → List ℕ → Type 0
BlankFrom k t = (k ≤ length t) × (drop k t ≡ replicate (length t - k) 0)

-- nothing stands after n nodes, m attributes and `len` bytes
pub record Ends (t u z : List ℕ) (n m len : ℕ) : Type 0 where
  pub nodes : BlankFrom (n * 6) t
  pub attrs : BlankFrom (m * 4) u
  pub strings : BlankFrom len z
