-- Strings with their places, in the text as in a table of bytes. Definitions alone.
use Rattle.std.specs.Prelude.{ℕ, List, [], ◌∷◌}
use Rattle.std.proofs.lemmas.List.Edits.{sets}

-- a string and its place, in the text as in the table of strings
pub record Placed : Type 0 where
  pub place : ℕ
  pub bytes : List ℕ

-- each at its place in the table
unfoldable pub lay : List ℕ → List Placed → List ℕ
lay z [] = z
lay z (x ∷ l) = lay (sets z x.place x.bytes) l
