-- What contracts of inner functions cite. Nothing here need be believed: no public call names it.
use Rattle.std.specs.Prelude.{Option, Some, None, ℕ, ◌+◌, ◌≤◌, ◌<◌, min, ◌≡◌, Bool, not, ◌&&◌, ◌||◌, List, ◌++◌, length, get_or, drop, eqb, leb}
use Rattle.std.proofs.lemmas.List.Edits.{sets}
use Rattle.scan.specs.Bytes.{run_length_of}
use Rattle.scan.specs.Part.{part}
use Rattle.entities.specs.Reference.{name_length, reference}
use Rattle.entities.specs.Decode.{decoded}
use Rattle.entities.specs.Escape.{escape_byte}

-- ---- references
-- ASCII white space
abbrev pub ascii_white : ℕ → Bool
ascii_white b = eqb b 32 || (leb 9 b && leb b 13)

-- a byte that is taken into a name: any but `;`, `&`, `<` and ASCII white space
unfoldable pub taken_byte : ℕ → Bool
taken_byte b = not (eqb b 59 || eqb b 38 || eqb b 60 || ascii_white b)

-- the bytes taken at p end at r, or go on past the 17th, where r stands
pub record NameEnd (s : List ℕ) (p r : ℕ) : Type 0 where
  pub is : r ≡ p + min (run_length_of taken_byte (drop p s)) 17
  pub within : r ≤ length s

-- the reference at p, after its `&`, is to the character c, and ends before n; or there is none
pub record RefersTo (s : List ℕ) (p c n : ℕ) : Type 0 where
  pub is : reference (drop p s) ≡ Some c
  pub next : n ≡ p + (name_length (drop p s) + 1)
  pub within : n ≤ length s
  pub long : p + 3 ≤ n
  pub char : c < 0x110000

abbrev pub Refers : List ℕ → ℕ → Option (ℕ × ℕ) → Type 0
Refers s p (Some (c, n)) = RefersTo s p c n
Refers s p None = reference (drop p s) ≡ None

-- One `&`, at p, is passed: what is read for it stands in the table from a place on, up to n, and reading goes on at q.
pub record Stepped (s : List ℕ) (p at : ℕ) (t t' : List ℕ) (q n : ℕ) : Type 0 where
  pub piece : List ℕ
  pub next : n ≡ at + length piece
  pub laid : t' ≡ sets t at piece
  pub is : decoded (drop p s) ≡ piece ++ decoded (drop q s)
  pub shorter : p + length piece ≤ q
  pub after : p < q
  pub within : q ≤ length s

-- ---- escapes
-- the bytes written for a run of bytes that stand for themselves, from p to e, and the byte at e
abbrev pub escaped_run : Bool → List ℕ → ℕ → ℕ → List ℕ
escaped_run quotes s p e = part p e s ++ escape_byte quotes (get_or s e 0)
