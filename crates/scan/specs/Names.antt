-- Names and how they compare. Definitions alone.
use Rattle.std.specs.Prelude.{ℕ, ◌+◌, ◌≤◌, ◌≡◌, Bool, true, false, cond, ◌&&◌, List, [], ◌∷◌, length, drop, eqb, leb}

-- a byte, an ASCII capital as its small letter (Rust's `to_ascii_lowercase`)
unfoldable pub lower : ℕ → ℕ
lower b = cond (leb 65 b && leb b 90) (b + 32) b

-- two strings have the same bytes
unfoldable pub same_bytes_of : List ℕ → List ℕ → Bool
same_bytes_of [] [] = true
same_bytes_of [] (y ∷ b) = false
same_bytes_of (x ∷ a) [] = false
same_bytes_of (x ∷ a) (y ∷ b) = eqb x y && same_bytes_of a b

-- two strings have the same bytes but for the case of ASCII letters (Rust's `eq_ignore_ascii_case`)
unfoldable pub same_folded : List ℕ → List ℕ → Bool
unfolding lower
same_folded [] [] = true
same_folded [] (y ∷ b) = false
same_folded (x ∷ a) [] = false
same_folded (x ∷ a) (y ∷ b) = eqb (lower x) (lower y) && same_folded a b

-- is there a colon?
unfoldable pub has_colon : List ℕ → Bool
has_colon [] = false
has_colon (b ∷ s) = cond (eqb b 58) true (has_colon s)

-- what follows the last colon, or all (document 01: "A tag's local name follows its last colon"; the Rust's `tag_local`)
unfoldable pub after_last_colon : List ℕ → List ℕ
unfolding has_colon
after_last_colon [] = []
after_last_colon (b ∷ s) = cond (has_colon s) (after_last_colon s) (cond (eqb b 58) s (b ∷ s))

-- what follows the first colon, or all (the Rust's `strip_ns`)
unfoldable pub past_colon : List ℕ → List ℕ
past_colon [] = []
past_colon (b ∷ s) = cond (eqb b 58) s (past_colon s)

unfoldable pub after_first_colon : List ℕ → List ℕ
unfolding has_colon past_colon
after_first_colon s = cond (has_colon s) (past_colon s) s

-- the part w of the name s starts at the place r
pub record PartFrom (s : List ℕ) (r : ℕ) (w : List ℕ) : Type 0 where
  pub within : r ≤ length s
  pub is : drop r s ≡ w
