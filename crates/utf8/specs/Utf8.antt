-- UTF-8, from the Unicode Standard, chapter 3. Definitions alone.
use Rattle.std.specs.Prelude.{ℕ, suc, ◌+◌, ◌*◌, ◌/◌, ◌%◌, ◌≤◌, ◌<◌, ◌≡◌}
use Rattle.std.specs.Prelude.{Bool, true, cond, not, ◌&&◌, ◌||◌, List, [], ◌∷◌, ◌++◌, length, get_or, take, eqb, leb, ltb}
use Rattle.scan.specs.Loop.{Next, halt, more, loop}

-- a byte from low to high
infix 70 ◌to◌
pub data Range : Type 0 where
  ◌to◌ : (low high : ℕ) → Range

abbrev pub within : ℕ → Range → Bool
within b (low to high) = leb low b && leb b high

-- Table 3-7, "Well-Formed UTF-8 Byte Sequences": a row has the ranges of its bytes, the first byte's first.
abbrev pub table : List (List Range)
table =
    (0x00 to 0x7F ∷ [])
    ∷ (0xC2 to 0xDF ∷ 0x80 to 0xBF ∷ [])
    ∷ (0xE0 to 0xE0 ∷ 0xA0 to 0xBF ∷ 0x80 to 0xBF ∷ [])
    ∷ (0xE1 to 0xEC ∷ 0x80 to 0xBF ∷ 0x80 to 0xBF ∷ [])
    ∷ (0xED to 0xED ∷ 0x80 to 0x9F ∷ 0x80 to 0xBF ∷ [])
    ∷ (0xEE to 0xEF ∷ 0x80 to 0xBF ∷ 0x80 to 0xBF ∷ [])
    ∷ (0xF0 to 0xF0 ∷ 0x90 to 0xBF ∷ 0x80 to 0xBF ∷ 0x80 to 0xBF ∷ [])
    ∷ (0xF1 to 0xF3 ∷ 0x80 to 0xBF ∷ 0x80 to 0xBF ∷ 0x80 to 0xBF ∷ [])
    ∷ (0xF4 to 0xF4 ∷ 0x80 to 0x8F ∷ 0x80 to 0xBF ∷ 0x80 to 0xBF ∷ [])
    ∷ []

-- the bytes of s from p on lie in the ranges of a row
unfoldable pub fits_at : List ℕ → ℕ → List Range → Bool
fits_at s p [] = true
fits_at s p (r ∷ rs) = ltb p (length s) && within (get_or s p 0) r && fits_at s (p + 1) rs

-- the length of the first row that fits; 0 where none does
unfoldable pub first_fit : List ℕ → ℕ → List (List Range) → ℕ
unfolding fits_at
first_fit s p [] = 0
first_fit s p (r ∷ rs) = cond (fits_at s p r) (length r) (first_fit s p rs)

-- how many bytes the well-formed sequence at p has; 0 where none stands there
unfoldable pub sequence_at : List ℕ → ℕ → ℕ
unfolding first_fit
sequence_at s p = first_fit s p table

-- w is one well-formed sequence: it has the length of a row, and lies in its ranges
pub record WellFormed (w : List ℕ) : Type 0 where
  pub some_byte : 0 < length w
  pub whole : sequence_at w 0 ≡ length w

-- UTF-8: well-formed sequences, one after the other
pub data Utf8 : List ℕ → Type 0 where
  empty : Utf8 []
  sequence : {w s : List ℕ} → WellFormed w → Utf8 s → Utf8 (w ++ s)

-- a is the first n characters of a text in UTF-8, or all of it where it has fewer (Rust's `chars().take(n)`)
pub data FirstChars : ℕ → List ℕ → List ℕ → Type 0 where
  taken : (s : List ℕ) → FirstChars 0 s []
  ended : (n : ℕ) → FirstChars n [] []
  next : {n : ℕ} {w s a : List ℕ} → WellFormed w → FirstChars n s a → FirstChars (suc n) (w ++ s) (w ++ a)

-- where the sequences from a text's start on end: at the first place where none stands, or at the text's length
abbrev pub utf8_turn : List ℕ → ℕ → Unit {0} → Next (Unit {0}) ℕ
utf8_turn s p x = cond (eqb (sequence_at s p) 0) (halt p) (more (p + sequence_at s p) x)

unfoldable pub utf8_end : List ℕ → ℕ
utf8_end s = loop (length s) (utf8_turn s) (λ p x. p) 0 tt

-- The longest valid beginning of s ends at r (document 01, number 3). Rust's `from_utf8` gives it as `valid_up_to`.
pub record LongestValid (s : List ℕ) (r : ℕ) : Type 0 where
  pub is : r ≡ utf8_end s
  pub within_text : r ≤ length s
  pub valid : Utf8 (take r s)
  pub longest : (n : ℕ) → n ≤ length s → Utf8 (take n s) → n ≤ r

-- the sequence at p has r bytes, or none stands there and r is 0
pub record Sequence (s : List ℕ) (p r : ℕ) : Type 0 where
  pub is : r ≡ sequence_at s p
  pub short : r ≤ 4
  pub within_text : p + r ≤ length s

-- A character starts at the place i of a text in UTF-8, or the text ends there: only there can the Rust cut it. Bytes from 0x80 to 0xBF go
-- on with a character.
unfoldable pub boundary : List ℕ → ℕ → Bool
boundary s i = eqb i 0 || eqb i (length s) || not (leb 0x80 (get_or s i 0) && leb (get_or s i 0) 0xBF)

-- ---- characters

-- Unicode scalar values (definition D76): what a character may be, Rust's `char`
unfoldable pub scalar : ℕ → Bool
scalar c = ltb c 0xD800 || (leb 0xE000 c && ltb c 0x110000)

-- Table 3-6, "UTF-8 Bit Distribution": the bytes of a character
unfoldable pub encode : ℕ → List ℕ
encode c =
    cond (ltb c 0x80) (c ∷ [])
    (cond (ltb c 0x800) ((0xC0 + c / 64) ∷ (0x80 + c % 64) ∷ [])
    (cond (ltb c 0x10000) ((0xE0 + c / 4096) ∷ (0x80 + c / 64 % 64) ∷ (0x80 + c % 64) ∷ [])
    ((0xF0 + c / 262144) ∷ (0x80 + c / 4096 % 64) ∷ (0x80 + c / 64 % 64) ∷ (0x80 + c % 64) ∷ [])))

-- the same table read the other way: the character whose sequence, of the given width, stands at p
unfoldable pub char_at : List ℕ → ℕ → ℕ → ℕ
char_at s p width =
    cond (eqb width 1) (get_or s p 0)
    (cond (eqb width 2) (get_or s p 0 % 32 * 64 + get_or s (p + 1) 0 % 64)
    (cond (eqb width 3) (get_or s p 0 % 16 * 4096 + get_or s (p + 1) 0 % 64 * 64 + get_or s (p + 2) 0 % 64)
    (get_or s p 0 % 8 * 262144 + get_or s (p + 1) 0 % 64 * 4096 + get_or s (p + 2) 0 % 64 * 64 + get_or s (p + 3) 0 % 64)))
