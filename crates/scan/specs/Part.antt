-- A part of a text. Definitions alone.
use Rattle.std.specs.Prelude.{ℕ, ◌+◌, ◌-◌, List, take, drop}

-- the bytes from a place a up to a place e, as the program's `&s[a..e]` has them
abbrev pub part : ℕ → ℕ → List ℕ → List ℕ
part a e s = take (e - a) (drop a s)

-- the string of n bytes at p
unfoldable pub string_at : List ℕ → ℕ → ℕ → List ℕ
string_at z p n = part p (p + n) z
