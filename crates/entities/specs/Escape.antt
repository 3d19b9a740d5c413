-- Escaped text, from the Rust's `escape_text` and `escape_attr` (XML 1.0, 2.4: `&` and `<` must not stand as themselves, `>` and the quote
-- mark may be escaped). Definitions alone.
use Rattle.std.specs.Prelude.{ℕ, Bool, cond, not, ◌&&◌, ◌||◌, List, [], ◌∷◌, ◌++◌, eqb}
use Rattle.scan.specs.Text.{ascii}

-- does the byte stand for itself? `quotes` says that double quote marks are escaped too
unfoldable pub plain : Bool → ℕ → Bool
plain quotes b = not (eqb b 38 || eqb b 60 || eqb b 62 || quotes && eqb b 34)

-- the bytes written for a byte: a reference, or itself
unfoldable pub escape_byte : Bool → ℕ → List ℕ
escape_byte quotes b =
    cond (eqb b 38) (ascii "&amp;")
    (cond (eqb b 60) (ascii "&lt;")
    (cond (eqb b 62) (ascii "&gt;")
    (cond (quotes && eqb b 34) (ascii "&quot;")
    (b ∷ []))))

-- the bytes written for a text
unfoldable pub escaped : Bool → List ℕ → List ℕ
unfolding escape_byte
escaped quotes [] = []
escaped quotes (b ∷ s) = escape_byte quotes b ++ escaped quotes s
