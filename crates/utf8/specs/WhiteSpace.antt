-- White space, the text without it at its ends, and words. Definitions alone.
use Rattle.std.specs.Prelude.{ℕ, ◌<◌, ◌≡◌, Bool, true, false, cond, List, [], ◌∷◌, ◌++◌, length, eqb}
use Rattle.utf8.specs.Utf8.{char_at, WellFormed}

-- Unicode's property White_Space (PropList.txt), which document 01 names: "White space is Unicode's White_Space"
abbrev pub white_space : List ℕ
white_space =
    0x9 ∷ 0xA ∷ 0xB ∷ 0xC ∷ 0xD ∷ 0x20 ∷ 0x85 ∷ 0xA0 ∷ 0x1680
    ∷ 0x2000 ∷ 0x2001 ∷ 0x2002 ∷ 0x2003 ∷ 0x2004 ∷ 0x2005 ∷ 0x2006 ∷ 0x2007 ∷ 0x2008 ∷ 0x2009 ∷ 0x200A
    ∷ 0x2028 ∷ 0x2029 ∷ 0x202F ∷ 0x205F ∷ 0x3000 ∷ []

unfoldable pub is_among : ℕ → List ℕ → Bool
is_among b [] = false
is_among b (c ∷ cs) = cond (eqb b c) true (is_among b cs)

unfoldable pub is_white : ℕ → Bool
unfolding is_among
is_white c = is_among c white_space

-- w is one white-space character
pub record WhiteCharacter (w : List ℕ) : Type 0 where
  pub formed : WellFormed w
  pub white : is_white (char_at w 0 (length w)) ≡ true

-- white space: white-space characters, one after the other
pub data WhiteSpace : List ℕ → Type 0 where
  nothing : WhiteSpace []
  character : {w s : List ℕ} → WhiteCharacter w → WhiteSpace s → WhiteSpace (w ++ s)

-- t is s without the white space at its two ends (Rust's `trim`): it begins with no white-space character, and ends with none
pub record Trims (s t : List ℕ) : Type 0 where
  pub before : List ℕ
  pub after : List ℕ
  pub whole : s ≡ before ++ (t ++ after)
  pub white-before : WhiteSpace before
  pub white-after : WhiteSpace after
  pub bare-start : (w r : List ℕ) → WhiteCharacter w → t ≡ w ++ r → ⊥
  pub bare-end : (w r : List ℕ) → WhiteCharacter w → t ≡ r ++ w → ⊥

-- w has some byte, and no white-space character in it
pub record Bare (w : List ℕ) : Type 0 where
  pub some_byte : 0 < length w
  pub no_white : (a c b : List ℕ) → WhiteCharacter c → w ≡ a ++ (c ++ b) → ⊥

-- s ends, or white space begins
pub data Parted : List ℕ → Type 0 where
  ends : Parted []
  white : (w s : List ℕ) → WhiteCharacter w → Parted (w ++ s)

-- The words of s, in order (Rust's `split_whitespace`): a word stands after white space or at the start, and goes on to white space or to the end
pub data Splits : List ℕ → List (List ℕ) → Type 0 where
  no_word : {s : List ℕ} → WhiteSpace s → Splits s []
  word : {a w s : List ℕ} {ws : List (List ℕ)} → WhiteSpace a → Bare w → Parted s → Splits s ws → Splits (a ++ (w ++ s)) (w ∷ ws)
