-- Parts of a string: the run at its front, and what stands before and after a mark. Definitions alone. The grammar does without them; the
-- specifications of the crates above cite `run` and `prefix`, and the proofs all.
use Rattle.std.specs.Prelude.{ℕ, Bool, true, false, cond, ◌&&◌, [], ◌∷◌, length, drop, eqb}
use Rattle.grammar.specs.Words.{Bytes}

-- the longest run of bytes of the class p at the front, and what follows it
unfoldable pub run : (ℕ → Bool) → Bytes → Bytes
run p [] = []
run p (a ∷ s) = cond (p a) (a ∷ run p s) []

unfoldable pub past : (ℕ → Bool) → Bytes → Bytes
past p [] = []
past p (a ∷ s) = cond (p a) (past p s) (a ∷ s)

-- s begins with m
abbrev pub prefix : Bytes → Bytes → Bool
prefix [] s = true
prefix (a ∷ m) [] = false
prefix (a ∷ m) (b ∷ s) = eqb a b && prefix m s

-- from the first m on, or nothing; and all that stands before
unfoldable pub from : Bytes → Bytes → Bytes
from m [] = []
from m (a ∷ s) = cond (prefix m (a ∷ s)) (a ∷ s) (from m s)

unfoldable pub before : Bytes → Bytes → Bytes
before m [] = []
before m (a ∷ s) = cond (prefix m (a ∷ s)) [] (a ∷ before m s)

-- what follows the first m, or nothing
unfoldable pub beyond : Bytes → Bytes → Bytes
unfolding from
beyond m s = drop (length m) (from m s)
