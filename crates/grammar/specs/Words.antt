-- Words for speaking of strings, with no place in them: a string is a list of bytes. Definitions alone.
use Rattle.std.specs.Prelude.{◌≡◌, ℕ, Bool, true, false, List, [], ◌∷◌, ◌++◌}

abbrev pub Bytes : Type 0
Bytes = List ℕ

-- `x then y`: x, directly followed by y
infixr 65 ◌then◌
abbrev pub ◌then◌ : Bytes → Bytes → Bytes
◌then◌ x y = x ++ y

-- every byte of w is in the class p
abbrev pub Only : (ℕ → Bool) → Bytes → Type 0
Only p [] = Unit {0}
Only p (a ∷ w) = (p a ≡ true) × Only p w

-- s is empty, or its first byte is not in the class p
abbrev pub Stops : (ℕ → Bool) → Bytes → Type 0
Stops p [] = Unit {0}
Stops p (a ∷ s) = p a ≡ false

-- w, where `after` follows it, is a longest run of bytes of the class p: a run extends to the right
pub record Run (p : ℕ → Bool) (after w : Bytes) : Type 0 where
  pub only : Only p w
  pub longest : Stops p after

-- s begins with m
abbrev pub Begins : Bytes → Bytes → Type 0
Begins m s = (r : Bytes) × (s ≡ m then r)

-- m stands nowhere in w
abbrev pub Lacks : Bytes → Bytes → Type 0
Lacks m w = (x y : Bytes) → w ≡ x then m then y → ⊥

-- m stands in w at its end, and nowhere before
pub record EndsAtFirst (m w : Bytes) : Type 0 where
  pub front : Bytes
  pub ends : w ≡ front then m
  pub first : (x y : Bytes) → w ≡ x then m then y → y ≡ []

-- w ends at its first m, or, where it has none, at the end of the text
pub data UpTo (m : Bytes) : (after w : Bytes) → Type 0 where
  closed : {after w : Bytes} → EndsAtFirst m w → UpTo m after w
  unclosed : {w : Bytes} → Lacks m w → UpTo m [] w
