-- `trimmed` and `words` as functions, and what `trim` and `next_word` ensure. Definitions alone. What the two are is said in WhiteSpace.antt, by
-- `Trims` and `Splits`; that they are it, and nothing else is, is proved for every list of bytes: `trimmed-is`, `trimmed-only` (proofs/Trimming),
-- `words_are`, `words-only` (proofs/Wording).
use Rattle.std.specs.Prelude.{Option, Some, None, ℕ, ◌≤◌, ◌<◌, max, ◌≡◌, List, [], ◌∷◌, ◌++◌, length, drop}
use Rattle.scan.specs.Part.{part}
use Rattle.utf8.specs.WhiteSpace.{WhiteSpace, Trims, Bare, Parted}
use Rattle.utf8.specs.declared.white.Span.{Span}
unfoldable pub use Rattle.utf8.specs.WhiteSpace.{is_among, is_white}
unfoldable pub use Rattle.utf8.specs.Steps.{white_at, ends_with, white_before, white_end, white_back, white_start, word_end_of, words_from}

-- the text without the white space at its two ends (Rust's `trim`): `Trims s (trimmed s)`
unfoldable pub trimmed : List ℕ → List ℕ
unfolding white_end white_start
trimmed s = part (white_end s 0) (white_start s) s

-- the words, in order (Rust's `split_whitespace`): `Splits s (words s)`
unfoldable pub words : List ℕ → List (List ℕ)
unfolding words_from
words s = words_from s 0 []

-- the text's part from a to e is what is left of it when white space is trimmed
pub record Trimmed (s : List ℕ) (a e : ℕ) : Type 0 where
  pub starts : a ≡ white_end s 0
  pub ends : e ≡ max (white_end s 0) (white_start s)
  pub order : a ≤ e
  pub within_text : e ≤ length s
  pub is : part a e s ≡ trimmed s
  pub trims : Trims s (part a e s)

-- The next word stands from a to e: white space from p to a, and no white-space character from there to e, where the text ends or one begins. Or
-- there is none.
pub record WordAt (s : List ℕ) (p a e : ℕ) : Type 0 where
  pub starts : a ≡ white_end s p
  pub ends : e ≡ word_end_of s a
  pub after : p ≤ a
  pub some_byte : a < e
  pub within_text : e ≤ length s
  pub passed : WhiteSpace (part p a s)
  pub bare : Bare (part a e s)
  pub parted : Parted (drop e s)
  pub next : (ws : List (List ℕ)) → words_from s p ws ≡ words_from s e (ws ++ (part a e s ∷ []))

abbrev pub NextWord : List ℕ → ℕ → Option Span → Type 0
NextWord s p (Some w) = WordAt s p w.start w.end
NextWord s p None = (ws : List (List ℕ)) → words_from s p ws ≡ ws
