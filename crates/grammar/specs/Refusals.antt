-- Which number of 4 to 11 a text meets, and where (document 01, "Limits and what is turned away"). Definitions alone.
-- A place is told by what stands before it and what follows: there is no cursor and no order of trial, as in the grammar. What stands before
-- is a viable prefix: a beginning of the text that the grammar's productions make up, with elements that are still open.
-- docs/DECISIONS.md, readings 2 to 6, has the smallest texts in which the numbers could be read two ways.
use Rattle.std.specs.Prelude.{◌≡◌, ℕ, suc, ◌+◌, ◌≤◌, ◌<◌, ◌⊎◌, ◌↔◌, true, List, [], ◌∷◌, length}
use Rattle.scan.specs.Bytes.{name_byte, attr_name_byte, other}
use Rattle.grammar.specs.Words.{Bytes, ◌then◌, Only, Stops, Begins}
use Rattle.grammar.specs.Tree.{Attr, Tree}
use Rattle.grammar.specs.Tree.{`<`, `>`, `/`, `=`, `</`, `<!--`, `<![CDATA[`}
use Rattle.grammar.specs.Grammar.{Blanks, Prolog, NoPiece, Name, Opening, Comment, Before, a_comment, no_comment, Node}
use Rattle.grammar.specs.Limits.{most_bytes, most_depth, most_nodes, most_attrs, tree_nodes, tree_attrs}
use Rattle.grammar.specs.Demand.{Result, refused}

-- ---- what begins here

-- an element begins: `<`, and no close tag, comment or section
abbrev pub ElementBegins : Bytes → Type 0
ElementBegins s = Begins `<` s × (¬ Begins `</` s) × (¬ Begins `<!--` s) × (¬ Begins `<![CDATA[` s)

-- a node begins: a text, a section or an element
abbrev pub NodeBegins : Bytes → Type 0
NodeBegins s = (¬ (s ≡ [])) × (¬ Begins `</` s) × (¬ Begins `<!--` s)

-- an attribute begins: neither a blank nor the tag's end
abbrev pub AttributeBegins : Bytes → Type 0
AttributeBegins s = (a : ℕ) × (r : Bytes) × (s ≡ a ∷ r) × (name_byte a ≡ true)

-- ---- what stands before

-- w, where `after` follows it, ends between nodes. There d elements are open; in w begin k nodes and j attributes; p says whether a
-- comment of the same content directly precedes.
pub data Viable : (after w : Bytes) (d k j : ℕ) (p : Before) → Type 0 where
  -- the prolog
  prolog : {after w : Bytes} → Prolog after w → NoPiece after → Viable after w 0 0 0 no_comment
  -- a comment more
  comment : {after w u : Bytes} {d k j : ℕ} {p : Before} → Viable (u then after) w d k j p → Comment after u → Viable after (w then u) d k j a_comment
  -- a node more, whole
  node : {after w u : Bytes} {d k j : ℕ} {p : Before} {t : Tree} → Viable (u then after) w d k j p → Node after u t
      → Viable after (w then u) d (k + tree_nodes t) (j + tree_attrs t) no_comment
  -- an element more, as far as its start tag
  start-tag : {after w o n : Bytes} {d k j : ℕ} {p : Before} {l : List Attr} → Viable (o then `>` then after) w d k j p
      → ElementBegins (o then `>` then after) → Opening (`>` then after) o n l
      → Viable after (w then o then `>`) (suc d) (suc k) (j + length l) no_comment

-- w ends in a start tag, after the blanks that follow its name or an attribute; in w begin j attributes
pub data InStartTag : (after w : Bytes) (j : ℕ) → Type 0 where
  in_start_tag : {after w o n : Bytes} {d k j : ℕ} {p : Before} {l : List Attr} → Viable (o then after) w d k j p → ElementBegins (o then after)
      → Opening after o n l → InStartTag after (w then o) (j + length l)

-- ---- the numbers

-- `Meets d k j s number place`, where d elements may be open, and k nodes and j attributes may begin
pub data Meets (d k j : ℕ) : Bytes → (number place : ℕ) → Type 0 where
  -- "4. A 65th element is open (its `<`)."
  too_deep : {after w : Bytes} {k₀ j₀ : ℕ} {p : Before} → Viable after w d k₀ j₀ p → ElementBegins after → Meets d k j (w then after) 4 (length w)
  -- "5. An 8,193rd node begins (its first byte)."
  too_many_nodes : {after w : Bytes} {d₀ j₀ : ℕ} {p : Before} → Viable after w d₀ k j₀ p → NodeBegins after → Meets d k j (w then after) 5 (length w)
  -- "6. A tag name is empty (its `<`)."
  no_tag_name : {after w : Bytes} {d₀ k₀ j₀ : ℕ} {p : Before} → Viable (`<` then after) w d₀ k₀ j₀ p → ElementBegins (`<` then after)
      → Stops name_byte after
      → Meets d k j (w then `<` then after) 6 (length w)
  -- "7. An 8,193rd attribute begins (its first byte)."
  too_many_attributes : {after w : Bytes} → InStartTag after w j → AttributeBegins after → Meets d k j (w then after) 7 (length w)
  -- "8. A `/` in a start tag, outside a quoted value, is not followed, blanks skipped, by `>` (the `/`)." Outside a quoted value no name and
  -- no value has a `/`.
  slash : {after w : Bytes} {j₀ : ℕ} → InStartTag (`/` then after) w j₀ → ((b r : Bytes) → Blanks b → ¬ (after ≡ b then `>` then r))
      → Meets d k j (w then `/` then after) 8 (length w)
  -- "9. Only blanks follow the `=` after an attribute's name to the end (the `=`)." An empty name stands directly before its `=`.
  no_value : {w n b c : Bytes} {j₀ : ℕ} → InStartTag (n then b then `=` then c) w j₀
      → Name attr_name_byte (b then `=` then c) n ⊎ ((n ≡ []) × (b ≡ [])) → Blanks b → Blanks c
      → Meets d k j (w then n then b then `=` then c) 9 (length (w then n then b))
  -- "10. The text ends inside a start tag (its length)." The tag has a name, but no `>` and no `/` after its attributes.
  end_in_tag : {after w n : Bytes} {d₀ k₀ j₀ : ℕ} {p : Before} → Viable (`<` then n then after) w d₀ k₀ j₀ p → ElementBegins (`<` then n then after)
      → Name name_byte after n
      → ((o r m : Bytes) (l : List Attr) → `<` then n then after ≡ o then r → Opening r o m l → ¬ (Begins `>` r ⊎ Begins `/` r))
      → Meets d k j (w then `<` then n then after) 10 (length (w then `<` then n then after))
  -- "11. Inside an element `</` has no `>` (the `<`)." A comment that directly precedes lets the element end before `</`.
  open_close_tag : {after w : Bytes} {d₀ k₀ j₀ : ℕ} → Viable (`</` then after) w (suc d₀) k₀ j₀ no_comment → Only (other 62) after
      → Meets d k j (w then `</` then after) 11 (length w)

-- ---- which of them is answered

-- "Of 4 to 11 the earliest place wins, then the lower number."
pub record FirstMet (d k j : ℕ) (s : Bytes) (number place : ℕ) : Type 0 where
  pub met : Meets d k j s number place
  pub first : (m q : ℕ) → Meets d k j s m q → (place < q) ⊎ ((place ≡ q) × (number ≤ m))

-- what a tree reader answers is met at its place, in a text of at most 65,536 bytes
abbrev pub RefusesTruly : (Bytes → Result) → Type 0
RefusesTruly reader = (s : Bytes) (n p : ℕ) → length s ≤ most_bytes → reader s ≡ refused n p → Meets most_depth most_nodes most_attrs s n p

-- and it answers exactly the first that is met
abbrev pub RefusesExactly : (Bytes → Result) → Type 0
RefusesExactly reader = (s : Bytes) (n p : ℕ) → length s ≤ most_bytes → (reader s ≡ refused n p) ↔ FirstMet most_depth most_nodes most_attrs s n p
