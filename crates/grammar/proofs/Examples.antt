-- Worked cases of the grammar: texts, and what the reader on lists gives for each, computed at once. By `Theorem.taken` a tree given is the
-- one that the grammar derives, as `derived` says of the marked case.
use Prim.Native.Nat.{ℕ}
use mathlib.Core.Path.{◌≡◌, refl}
use mathlib.Core.List.{List, [], ◌∷◌, map}
use Rattle.scan.specs.Text.{ascii}
use Rattle.scan.specs.Bytes.{blank, text_byte, name_byte, attr_name_byte}
use Rattle.grammar.specs.Words.{Bytes}
use Rattle.grammar.specs.Tree.{attr, Tree, Forest, text, section, element, none, more, quote}
use Rattle.grammar.specs.Demand.{Result, tree, refused, Derives}
use Rattle.grammar.specs.Scan.{run, past, from, before, beyond}
use Rattle.grammar.proofs.Reader.{read_content, read_attribute, after_slash, after_close}
use Rattle.grammar.proofs.Counted.{read_document_l, read_text_lem}
use Rattle.grammar.proofs.Theorem.{taken}

-- nodes in a row, and an element without attributes
abbrev forest : List Tree → Forest
forest [] = none
forest (t ∷ l) = more t (forest l)

abbrev plain : Bytes → List Tree → Tree
plain n l = element n [] (forest l)

-- a text, how deep elements may stand and how many nodes and attributes may begin, and what is given
pub record Case : Type 0 where
  pub of : Bytes
  pub depth : ℕ
  pub nodes : ℕ
  pub attrs : ℕ
  pub is : Result

-- far below the limits
abbrev gives : Bytes → Result → Case
gives s r = record { of = s; depth = 9; nodes = 19; attrs = 19; is = r }

abbrev within : (depth nodes attrs : ℕ) → Bytes → Result → Case
within d k j s r = record { of = s; depth = d; nodes = k; attrs = j; is = r }

-- [P] d holds one p, with the text a; the second p, with the text b, is d's sibling
abbrev pub commented : Bytes
commented = ascii "<d><p>a<!--c--></p><p>b</p></d>"

abbrev pub siblings : Forest
siblings = forest (plain (ascii "d") (plain (ascii "p") (text (ascii "a") ∷ []) ∷ []) ∷ plain (ascii "p") (text (ascii "b") ∷ []) ∷ [])

pub cases : List Case
cases =
    -- ---- marks that share bytes with the opening, and marks that never come (document 01, "Grammar")
    gives (ascii "<?>x") (tree (forest (text (ascii "x") ∷ [])))
    ∷ gives (ascii "<!-->x") (tree (forest (text (ascii "x") ∷ [])))
    ∷ gives (ascii "<?xml ?> <!DOCTYPE d [<a>]><d/>") (tree (forest (text (ascii "]>") ∷ plain (ascii "d") [] ∷ [])))
    ∷ gives (ascii "<?xml") (tree none)
    ∷ gives (ascii "<![CDATA[a]]>") (tree none)
    ∷ gives (ascii "x<![CDATA[a") (tree (forest (text (ascii "x") ∷ section (ascii "a") ∷ [])))
    ∷ gives (ascii "<a><!-->x</a>b") (tree (forest (plain (ascii "a") (text (ascii "x") ∷ []) ∷ text (ascii "b") ∷ [])))
    -- ---- attributes
    ∷ gives (ascii "<a b c=d =e f = 'g h' i='j'k l=/>")
    (tree (more (element (ascii "a")
    (attr (ascii "b") [] ∷ attr (ascii "c") (ascii "d") ∷ attr [] (ascii "e") ∷ attr (ascii "f") (ascii "g h") ∷ attr (ascii "i") (ascii "j")
    ∷ attr (ascii "k") [] ∷ attr (ascii "l") [] ∷ []) none) none))
    ∷ gives (ascii "<a b==c>") (tree (more (element (ascii "a") (attr (ascii "b") (ascii "=c") ∷ []) none) none))
    ∷ gives (ascii "<a b='c'd=e/>")
    (tree (more (element (ascii "a") (attr (ascii "b") (ascii "c") ∷ attr (ascii "d") (ascii "e") ∷ []) none) none))
    -- ---- after the prolog `<?` and `<!` begin elements
    ∷ gives (ascii "x<?a>y</a>") (tree (forest (text (ascii "x") ∷ plain (ascii "?a") (text (ascii "y") ∷ []) ∷ [])))
    ∷ gives (ascii "x<!a b/>") (tree (forest (text (ascii "x") ∷ element (ascii "!a") (attr (ascii "b") [] ∷ []) none ∷ [])))
    -- ---- where content ends
    ∷ gives commented (tree siblings)
    ∷ gives (ascii "<a><b><!--c--></b></a>") (tree (forest (plain (ascii "a") (plain (ascii "b") [] ∷ []) ∷ [])))
    ∷ gives (ascii "x</a>y") (tree (forest (text (ascii "x") ∷ [])))
    ∷ gives (ascii "x<!---->y") (tree (forest (text (ascii "x") ∷ text (ascii "y") ∷ [])))
    ∷ gives (ascii "<a><!----></") (tree (forest (plain (ascii "a") [] ∷ [])))
    -- ---- what is turned away, with its number and place (document 01, "Limits and what is turned away")
    ∷ gives (ascii "< a>") (refused 6 0)
    ∷ gives (ascii "<a/b>") (refused 8 2)
    ∷ gives (ascii "<a b=") (refused 9 4)
    ∷ gives (ascii "<a =") (refused 9 3)
    ∷ gives (ascii "<a b='x>") (refused 10 8)
    ∷ gives (ascii "<a b='/") (refused 10 7)
    ∷ gives (ascii "<a></a") (refused 11 3)
    -- ---- with small limits: at one place 4 comes before 5 and 6, 5 before 6, and 7 before 9
    ∷ within 2 9 9 (ascii "<a><b><c/>") (refused 4 6)
    ∷ within 2 9 9 (ascii "<a><b><") (refused 4 6)
    ∷ within 9 2 9 (ascii "<a>x<b/>") (refused 5 4)
    ∷ within 9 2 9 (ascii "<a>x<") (refused 5 4)
    ∷ within 9 9 1 (ascii "<a b c=") (refused 7 5)
    ∷ within 9 9 0 (ascii "<a =") (refused 7 3)
    ∷ []

pub worked : map (λ (c : Case). read_document_l c.depth c.nodes c.attrs c.of) cases ≡ map (λ (c : Case). c.is) cases
unfolding cases read_document_l read_content read_attribute after_slash after_close blank text_byte name_byte attr_name_byte quote run past from before
    beyond
worked = refl

-- the marked case within document 01's own limits, and so in the grammar
pub comment-before_close : read_text_lem commented ≡ tree siblings
unfolding read_text_lem read_content read_attribute after_slash after_close blank text_byte name_byte attr_name_byte quote run past from before beyond
comment-before_close = refl

pub derived : Derives commented siblings
derived = (taken commented siblings).0 comment-before_close
