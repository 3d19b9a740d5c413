-- References, from XML 1.0, 4.1 "Character and Entity References", and the Rust's `lookup_entity`. Definitions alone.
-- Where the two differ, docs/DIFFERENCES.md says how.
use Rattle.std.specs.Prelude.{Option, Some, None, ℕ, suc, Bool, false, cond, not, ◌&&◌, ◌||◌, List, [], ◌∷◌, get_or, take, eqb, leb}
use Rattle.scan.specs.Names.{same_bytes_of}
use Rattle.scan.specs.Text.{ascii}
use Rattle.utf8.specs.Utf8.{sequence_at, char_at, scalar}
use Rattle.utf8.specs.White.{is_white}
use Rattle.numerals.specs.Numerals.{numeral_of}
use Rattle.numerals.specs.declared.Whole.{Whole}

-- The named entities: the five of XML 1.0, 4.6 "Predefined Entities", and nbsp, which the Rust has besides. Names compare byte by byte.
infix 70 ◌means◌
pub data Named : Type 0 where
  ◌means◌ : (name : List ℕ) (char : ℕ) → Named

abbrev pub entity_table : List Named
entity_table =
    ascii "amp" means 0x26
    ∷ ascii "lt" means 0x3C
    ∷ ascii "gt" means 0x3E
    ∷ ascii "quot" means 0x22
    ∷ ascii "apos" means 0x27
    ∷ ascii "nbsp" means 0xA0
    ∷ []

unfoldable pub named : List ℕ → List Named → Option ℕ
named s [] = None
named s (n means c ∷ ns) = cond (same_bytes_of s n) (Some c) (named s ns)

-- the character that a number names: only a Unicode scalar value is one
abbrev pub character : Option Whole → Option ℕ
character (Some w) = cond (scalar w.magnitude) (Some w.magnitude) None
character None = None

-- A character reference after its `#`: decimal digits, or `x` (the Rust takes `X` too) and hexadecimal ones. The number is read as Rust
-- reads a u32, so a `+` may stand before the digits.
unfoldable pub character_reference : List ℕ → Option ℕ
character_reference [] = None
character_reference (b ∷ s) =
    cond (eqb b 120 || eqb b 88) (character (numeral_of s 16 0xFFFF_FFFF false)) (character (numeral_of (b ∷ s) 10 0xFFFF_FFFF false))

-- what a name stands for: after `#` a character's number, else a named entity
unfoldable pub lookup : List ℕ → Option ℕ
unfolding named character_reference
lookup [] = None
lookup (b ∷ s) = cond (eqb b 35) (character_reference s) (named (b ∷ s) entity_table)

-- s begins with white space: a character that has Unicode's property White_Space (document 01: "White space is Unicode's White_Space")
unfoldable pub starts_white : List ℕ → Bool
starts_white s = not (eqb (sequence_at s 0) 0) && is_white (char_at s 0 (sequence_at s 0))

-- what ends a name: `;`, `&`, `<` and white space (document 01, "Entities")
unfoldable pub ends_name : List ℕ → Bool
unfolding starts_white
ends_name s = eqb (get_or s 0 0) 59 || eqb (get_or s 0 0) 38 || eqb (get_or s 0 0) 60 || starts_white s

-- how many bytes s has before that, or in all
unfoldable pub name_length : List ℕ → ℕ
unfolding ends_name
name_length [] = 0
name_length (b ∷ s) = cond (ends_name (b ∷ s)) 0 (suc (name_length s))

-- What s, which follows an `&`, refers to: its name has at most 16 bytes, and a `;` follows it.
unfoldable pub reference : List ℕ → Option ℕ
unfolding name_length lookup
reference s = cond (eqb (get_or s (name_length s) 0) 59 && leb (name_length s) 16) (lookup (take (name_length s) s)) None
