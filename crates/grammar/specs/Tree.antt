-- The tree that a text derives, before its entities are read, and the bytes that the grammar names. Definitions alone.
use Rattle.std.specs.Prelude.{ℕ, Bool, ◌||◌, List, eqb}
use Rattle.scan.specs.Text.{ascii}
use Rattle.grammar.specs.Words.{Bytes}

-- ---- trees

-- "its attributes' names and values in order, values without quote marks"
pub data Attr : Type 0 where
  attr : (name value : Bytes) → Attr

-- "A derived tree is the nodes in their order and nesting: each element with its tag name and its attributes […]; each text with its
-- bytes; each section with those after its opening, up to its end mark or the end of text. Prolog, comments and close tags are no part
-- of it."
mutual
  pub data Tree : Type 0 where
    text : Bytes → Tree
    section : Bytes → Tree
    element : (name : Bytes) → List Attr → Forest → Tree

  -- nodes in their order
  pub data Forest : Type 0 where
    none : Forest
    more : Tree → Forest → Forest

-- ---- marks, each named by its own bytes

abbrev pub `<` : Bytes
`<` = ascii "<"

abbrev pub `>` : Bytes
`>` = ascii ">"

abbrev pub `/` : Bytes
`/` = ascii "/"

abbrev pub `=` : Bytes
`=` = ascii "="

abbrev pub `</` : Bytes
`</` = ascii "</"

abbrev pub `<?` : Bytes
`<?` = ascii "<?"

abbrev pub `?>` : Bytes
`?>` = ascii "?>"

abbrev pub `<!` : Bytes
`<!` = ascii "<!"

abbrev pub `<!--` : Bytes
`<!--` = ascii "<!--"

abbrev pub `-->` : Bytes
`-->` = ascii "-->"

abbrev pub `<![CDATA[` : Bytes
`<![CDATA[` = ascii "<![CDATA["

abbrev pub `]]>` : Bytes
`]]>` = ascii "]]>"

-- a quote mark: `"` or `'` (the other classes of bytes are those of `scan`)
unfoldable pub quote : ℕ → Bool
quote a = eqb a 34 || eqb a 39
