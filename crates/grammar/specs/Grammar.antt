-- Document 01, "Grammar". Definitions alone.
-- A production says which strings it joins and what may follow them: `X after w t` reads "w, where `after` follows it in the text, is an
-- X, and gives t". There is no cursor, no order of trial and no count. Beside each production stands its sentence of document 01.
use Rattle.std.specs.Prelude.{◌≡◌, ℕ, ◌⊎◌, Bool, true, List, [], ◌∷◌}
use Rattle.scan.specs.Bytes.{blank, text_byte, name_byte, attr_name_byte, other}
use Rattle.grammar.specs.Words.{Bytes, ◌then◌, Only, Stops, Run, Begins, Lacks, EndsAtFirst, UpTo}
use Rattle.grammar.specs.Tree.{Attr, attr, Tree, text, section, element, Forest, none, more, quote}
use Rattle.grammar.specs.Tree.{`<`, `>`, `/`, `=`, `</`, `<?`, `?>`, `<!`, `<!--`, `-->`, `<![CDATA[`, `]]>`}

-- "Blanks are space, tab, LF, CR"; blanks may be none
pub record Blanks (b : Bytes) : Type 0 where
  pub all : Only blank b

-- ---- the prolog

pub data Piece (after : Bytes) : Bytes → Type 0 where
  -- "The prolog is blanks,
  one_blank : {a : ℕ} → blank a ≡ true → Piece after (a ∷ [])
  -- `<?` to `?>`,
  instruction : {w : Bytes} → Begins `<?` w → UpTo `?>` after w → Piece after w
  -- `<!--` to `-->`
  comment : {w : Bytes} → Begins `<!--` w → UpTo `-->` after w → Piece after w
  -- and any other `<!` to `>`, […]; each ends at its first end mark, or at the end of text."
  declaration : {w : Bytes} → Begins `<!` w → ¬ Begins `<!--` w → UpTo `>` after w → Piece after w
  -- "A mark may share bytes with the opening: `<?>` and `<!-->` are whole": the end mark is looked for in the whole piece.
  -- "`<![CDATA[` in the prolog ends at `>`": it is a declaration.

pub data Prolog (after : Bytes) : Bytes → Type 0 where
  no_piece : Prolog after []
  piece : {u w : Bytes} → Piece (w then after) u → Prolog after w → Prolog after (u then w)

-- "as far as such pieces go": no piece stands at the front of what follows the prolog
abbrev pub NoPiece : Bytes → Type 0
NoPiece s = (u r : Bytes) → s ≡ u then r → ¬ Piece r u

-- ---- start tags

-- "a longest run, not empty"
pub record Name (p : ℕ → Bool) (after n : Bytes) : Type 0 where
  pub run : Run p after n
  pub some_byte : ¬ (n ≡ [])

pub data Value (after : Bytes) : (w v : Bytes) → Type 0 where
  -- "A value that begins with a quote mark runs to the next like mark."
  quoted : {q : ℕ} {v : Bytes} → quote q ≡ true → Only (other q) v → Value after ((q ∷ []) then v then (q ∷ [])) v
  -- "Any other is a longest run without blank, `>` or `/`, empty only before `>` or `/`."
  unquoted : {v : Bytes} → Stops quote v → Run name_byte after v → (v ≡ [] → Begins `>` after ⊎ Begins `/` after) → Value after v v

-- "an attribute name is one without `=` too": attr_name_byte
pub data Attribute (after : Bytes) : Bytes → Attr → Type 0 where
  -- "An attribute is a name that no `=` follows, blanks skipped;
  alone : {n : Bytes} → Name attr_name_byte after n → ((b r : Bytes) → Blanks b → ¬ (after ≡ b then `=` then r)) → Attribute after n (attr n [])
  -- or a name and blanks, […] then `=`, blanks and a value;
  named : {n b c w v : Bytes} → Name attr_name_byte (b then `=` then c then w then after) n → Blanks b → Blanks c → Value after w v
      → Attribute after (n then b then `=` then c then w) (attr n v)
  -- or an empty name and no blanks, then `=`, blanks and a value."
  nameless : {c w v : Bytes} → Blanks c → Value after w v → Attribute after (`=` then c then w) (attr [] v)

-- "Blanks may stand […] after each attribute."
pub data Attributes (after : Bytes) : Bytes → List Attr → Type 0 where
  no_attribute : Attributes after [] []
  attribute : {u b w : Bytes} {a : Attr} {l : List Attr} → Attribute (b then w then after) u a → Blanks b → Attributes after w l
      → Attributes after (u then b then w) (a ∷ l)

-- "A start tag is `<`, a name, attributes, then `>`, or `/`, blanks, `>`": as far as its `>` or `/`.
-- "A tag name is a longest run, not empty, without blank, `>` or `/`": name_byte. "Blanks may stand after the tag name".
pub data Opening (after : Bytes) : Bytes → Bytes → List Attr → Type 0 where
  opening : {n b w : Bytes} {l : List Attr} → Name name_byte (b then w then after) n → Blanks b → Attributes after w l
      → Opening after (`<` then n then b then w) n l

-- ---- nodes

-- "with comments before, between and after, each ending as in the prolog"; "`<!-->` [is] whole, […] in content too"
pub record Comment (after w : Bytes) : Type 0 where
  pub opens : Begins `<!--` w
  pub ends : UpTo `-->` after w

-- does a comment of this same content directly precede? Only `close_tag` and `before-close` look at it.
pub data Before : Type 0 where
  a_comment no_comment : Before

mutual
  pub data Node : (after w : Bytes) → Tree → Type 0 where
    -- "A node is a text (a longest run, not empty, without `<`),
    a_text : {after w : Bytes} → Name text_byte after w → Node after w (text w)
    -- a CDATA section (`<![CDATA[` to the first `]]>` after it,
    a_section : {after d : Bytes} → EndsAtFirst `]]>` (d then `]]>`) → Node after (`<![CDATA[` then d then `]]>`) (section d)
    -- or to the end of text)
    last_section : {d : Bytes} → Lacks `]]>` d → Node [] (`<![CDATA[` then d) (section d)
    -- or an element." "No element begins with `<!--` or `<![CDATA[`."
    an_element : {after w : Bytes} {t : Tree} → ¬ Begins `<!--` w → ¬ Begins `<![CDATA[` w → Element after w t → Node after w t

  pub data Element : (after w : Bytes) → Tree → Type 0 where
    -- "or `/`, blanks, `>` (no content)"
    without-content : {after o b n : Bytes} {l : List Attr} → Opening (`/` then b then `>` then after) o n l → Blanks b
        → Element after (o then `/` then b then `>`) (element n l none)
    -- "then `>`"; "an element, whose content is again nodes"
    with_content : {after o c n : Bytes} {l : List Attr} {f : Forest} → Opening (`>` then c then after) o n l → Content no_comment after c f
        → Element after (o then `>` then c) (element n l f)

  pub data Content : Before → (after w : Bytes) → Forest → Type 0 where
    -- "Content ends by a close tag that no comment of this same content directly precedes,
    close_tag : {after : Bytes} (d : Bytes) → Only (other 62) d → Content no_comment after (`</` then d then `>`) none
    -- by end of text,
    end_of_text : {p : Before} → Content p [] [] none
    -- or before `</` after such a comment."
    before-close : {after : Bytes} → Begins `</` after → Content a_comment after [] none
    -- "nodes, with comments before, between and after"
    comment : {p : Before} {after u w : Bytes} {f : Forest} → Comment (w then after) u → Content a_comment after w f → Content p after (u then w) f
    node : {p : Before} {after u w : Bytes} {t : Tree} {f : Forest} → Node (w then after) u t → Content no_comment after w f
        → Content p after (u then w) (more t f)

-- ---- documents

pub data Nodes : Bytes → Forest → Type 0 where
  -- "it ends by end of text
  end_of_text : Nodes [] none
  -- or before `</`, any bytes following."
  before-close : {s : Bytes} → Begins `</` s → Nodes s none
  -- "nodes with comments as in content"
  comment : {u s : Bytes} {f : Forest} → Comment s u → Nodes s f → Nodes (u then s) f
  node : {u s : Bytes} {t : Tree} {f : Forest} → Node s u t → Nodes s f → Nodes (u then s) (more t f)

-- "A document is a prolog and nodes with comments as in content"
pub data Document : Bytes → Forest → Type 0 where
  document : {p s : Bytes} {f : Forest} → Prolog s p → NoPiece s → Nodes s f → Document (p then s) f
