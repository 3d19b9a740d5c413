-- Steps of the program, and what its inner functions ensure. White.antt defines `trimmed` and `words` by those on white space; what these are is
-- said in WhiteSpace.antt, and proofs/Trimming and proofs/Wording show it of them, for every list of bytes.
use Rattle.std.specs.Prelude.{ℕ, zero, suc, ◌+◌, ◌-◌, ◌≤◌, ◌<◌, ◌≡◌, cond, ◌&&◌, List, [], ◌∷◌, ◌++◌, length, get_or, eqb, leb, ltb}
use Rattle.scan.specs.Loop.{Next, halt, more, loop}
use Rattle.scan.specs.Part.{part}
use Rattle.utf8.specs.Utf8.{Range, ◌to◌, fits_at, sequence_at, char_at}
use Rattle.utf8.specs.WhiteSpace.{is_white}

-- ---- UTF-8

-- no byte from p up to e is larger than r
abbrev pub Bounded : List ℕ → ℕ → ℕ → ℕ → Type 0
Bounded s p e r = (k : ℕ) → p ≤ k → k < e → get_or s k 0 ≤ r

-- the bytes from p up to r are ASCII
pub record AsciiTo (s : List ℕ) (p r : ℕ) : Type 0 where
  pub after : p ≤ r
  pub within_text : r ≤ length s
  pub ascii : Bounded s p r 0x7F

-- k ranges of bytes that follow the second
abbrev pub tails : ℕ → List Range
tails zero = []
tails (suc k) = 0x80 to 0xBF ∷ tails k

-- the width, where the bytes after the first are as many as it says, the second from low to high and the others from 0x80 to 0xBF; or 0
unfoldable pub followed : List ℕ → ℕ → ℕ → ℕ → ℕ → ℕ
unfolding fits_at
followed s p width low high = cond (fits_at s (p + 1) (low to high ∷ tails (width - 2))) width 0

-- ---- white space

-- how many bytes the white-space character at p has; 0 where none stands there
unfoldable pub white_at : List ℕ → ℕ → ℕ
white_at s p =
    cond (eqb (sequence_at s p) 0) 0 (cond (is_white (char_at s p (sequence_at s p))) (sequence_at s p) 0)

-- how many bytes the white-space character that ends at e has, if it has k or more; 0 where none ends there
unfoldable pub ends_with : List ℕ → ℕ → ℕ → ℕ → ℕ
ends_with s e k zero = 0
ends_with s e k (suc n) = cond (leb k e && eqb (white_at s (e - k)) k) k (ends_with s e (k + 1) n)

-- a character has one to four bytes
unfoldable pub white_before : List ℕ → ℕ → ℕ
unfolding ends_with
white_before s e = ends_with s e 1 4

-- where the white space from p on ends
abbrev pub white_turn : List ℕ → ℕ → Unit {0} → Next (Unit {0}) ℕ
white_turn s p x = cond (eqb (white_at s p) 0) (halt p) (more (p + white_at s p) x)

unfoldable pub white_end : List ℕ → ℕ → ℕ
white_end s p = loop (length s) (white_turn s) (λ i x. i) p tt

-- where the white space that ends at e starts; k more bytes belong to a character already found
unfoldable pub white_back : List ℕ → ℕ → ℕ → ℕ
white_back s zero k = zero
white_back s (suc e) (suc k) = white_back s e k
white_back s (suc e) zero = cond (eqb (white_before s (suc e)) 0) (suc e) (white_back s e (white_before s (suc e) - 1))

-- where the white space at the text's end starts
unfoldable pub white_start : List ℕ → ℕ
unfolding white_back
white_start s = white_back s (length s) 0

-- where the word at p ends: before the next white space, or at the text's length
abbrev pub word_turn : List ℕ → ℕ → Unit {0} → Next (Unit {0}) ℕ
word_turn s p x = cond (eqb (white_at s p) 0) (more (p + 1) x) (halt p)

unfoldable pub word_end_of : List ℕ → ℕ → ℕ
word_end_of s p = loop (length s) (word_turn s) (λ i x. i) p tt

-- The words of s from p on, in order (Rust's `split_whitespace`): white space is passed over, and what stands before the next is a word.
abbrev pub words_turn : List ℕ → ℕ → List (List ℕ) → Next (List (List ℕ)) (List (List ℕ))
words_turn s p ws =
    cond (ltb (white_end s p) (length s))
    (more (word_end_of s (white_end s p)) (ws ++ (part (white_end s p) (word_end_of s (white_end s p)) s ∷ [])))
    (halt ws)

unfoldable pub words_from : List ℕ → ℕ → List (List ℕ) → List (List ℕ)
unfolding white_end word_end_of
words_from s p ws = loop (length s) (words_turn s) (λ i ws. ws) p ws

pub record WhiteAt (s : List ℕ) (p r : ℕ) : Type 0 where
  pub is : r ≡ white_at s p
  pub within_text : p + r ≤ length s

pub record WhiteBefore (s : List ℕ) (e r : ℕ) : Type 0 where
  pub is : r ≡ white_before s e
  pub back : r ≤ e

pub record WhiteEnd (s : List ℕ) (p r : ℕ) : Type 0 where
  pub is : r ≡ white_end s p
  pub after : p ≤ r
  pub within_text : r ≤ length s
  pub stops : r < length s → white_at s r ≡ 0
