-- A name's number in a list. Definitions alone.
use Rattle.std.specs.Prelude.{Option, Some, None, ℕ, suc, Bool, false, cond, ◌||◌, List, [], ◌∷◌}
use Rattle.scan.specs.Names.{same_bytes_of, same_folded}
use Rattle.names.specs.declared.tables.Listed.{Listed}
use Rattle.names.specs.Lists.{names}

-- the number of the first name that s is but for the case of ASCII letters, where the first one's is k
unfoldable pub number_from : ℕ → List ℕ → List (List ℕ) → Option ℕ
number_from k s [] = None
number_from k s (n ∷ ns) = cond (same_folded s n) (Some k) (number_from (suc k) s ns)

-- is s one of the names, byte for byte?
unfoldable pub is_in : List ℕ → List (List ℕ) → Bool
is_in s [] = false
is_in s (n ∷ ns) = same_bytes_of s n || is_in s ns

-- the same in a list, from 0 on (the Rust goes through each list by `attr`, which compares without regard to ASCII case)
abbrev pub name_number : Listed → List ℕ → Option ℕ
name_number list s = number_from 0 s (names list)

-- (the Rust's `contains`)
abbrev pub contains_name : Listed → List ℕ → Bool
contains_name list s = is_in s (names list)
