-- Marks in a text. Definitions alone.
use Rattle.std.specs.Prelude.{ℕ, suc, ◌+◌, Bool, true, false, cond, List, [], ◌∷◌, length, get_or, drop, eqb, ltb}

-- the mark m stands at the place p
unfoldable pub starts_at : List ℕ → ℕ → List ℕ → Bool
starts_at s p [] = true
starts_at s p (b ∷ m) = cond (ltb p (length s)) (cond (eqb (get_or s p 0) b) (starts_at s (p + 1) m) false) false

-- how many bytes of s stand before its first mark m; all of them, where there is none
unfoldable pub before_mark : List ℕ → List ℕ → ℕ
unfolding starts_at
before_mark m [] = 0
before_mark m (b ∷ s) = cond (starts_at (b ∷ s) 0 m) 0 (suc (before_mark m s))

-- the first place of the mark from p on, or the text's length (the Rust's `find_seq`)
unfoldable pub seek : List ℕ → List ℕ → ℕ → ℕ
unfolding before_mark
seek m s p = p + before_mark m (drop p s)

-- the place after it, or the text's length
unfoldable pub past : List ℕ → List ℕ → ℕ → ℕ
past m s p = cond (ltb (seek m s p) (length s)) (seek m s p + length m) (length s)
