-- Worked cases of the tree reader (document 01, "Tree" and the numbers 3 to 11): texts, and what each means, computed from the definitions.
use Prim.Native.Nat.{ℕ, zero, suc}
use mathlib.Core.Path.{◌≡◌, refl}
use mathlib.Core.List.{List, [], ◌∷◌, ◌++◌, map}
use Rattle.scan.specs.Text.{ascii}
use Rattle.scan.specs.Loop.{go, loop}
use Rattle.scan.specs.Bytes.{blank, text_byte, name_byte, attr_name_byte, run_end_of}
use Rattle.scan.specs.Marks.{starts_at, seek, past}
use Rattle.utf8.specs.Utf8.{fits_at, first_fit, sequence_at, utf8_end}
use Rattle.tree.specs.Trees.{Attr, nil, text, section, elem, join}
use Rattle.tree.specs.Read.{Out, got, bad, quote_byte, quoted, bare, value_at, attr_at, slash, attr_next, tag_turn, tag_from, start_at, past_comments}
use Rattle.tree.specs.Read.{text_at, section_at, node_here, node_at_of, node_next, close_at, inner_turn, outer_turn, row_of, enclose, tagged, element_by}
use Rattle.tree.specs.Read.{element_of, prolog_turn, prolog_end, meaning}

pub record Case : Type 0 where
  pub of : List ℕ
  pub is : Out

abbrev attribute : (name name_len value value_len : ℕ) → Attr
attribute p n v m = record { name = p; name_len = n; value = v; value_len = m }

pub cases : List Case
cases =
    -- [P] d holds one p, and the second p is d's sibling
    record {
      of = ascii "<d><p>a<!--c--></p><p>b</p></d>";
      is = got (elem 0 1 [] (elem 3 1 [] (text 6 1 nil) nil) (elem 19 1 [] (text 22 1 nil) nil)) 27 5 0;
    }
    -- a value in quote marks, one without, and a name alone
    ∷ record {
      of = ascii "<a x='1' y=2 z><b/></a>t";
      is = got (elem 0 1 (attribute 3 1 6 1 ∷ attribute 9 1 11 1 ∷ attribute 13 1 14 0 ∷ []) (elem 15 1 [] nil nil) (text 23 1 nil)) 24 3 3;
    }
    -- a prolog, and a section
    ∷ record { of = ascii "<?xml?> <a><![CDATA[x<y]]>z</a>"; is = got (elem 8 1 [] (section 20 3 (text 26 1 nil)) nil) 31 3 0 }
    -- the end of the text closes all open elements
    ∷ record { of = ascii "<a><b>t"; is = got (elem 0 1 [] (elem 3 1 [] (text 6 1 nil) nil) nil) 7 3 0 }
    -- a mark may share bytes with the opening
    ∷ record { of = ascii "<!-->t"; is = got (text 5 1 nil) 6 1 0 }
    -- at top level `</` ends reading
    ∷ record { of = ascii "</a>t"; is = got nil 0 0 0 }
    -- a ends before `</`, which then stands at top level
    ∷ record { of = ascii "<a><!----></"; is = got (elem 0 1 [] nil nil) 10 1 0 }
    -- `a` and the byte 255: 3 where the longest valid beginning ends
    ∷ record { of = 97 ∷ 255 ∷ []; is = bad 3 1 }
    -- 6 at the `<`
    ∷ record { of = ascii "t<>"; is = bad 6 1 }
    -- 8 at the `/`
    ∷ record { of = ascii "<a /x>"; is = bad 8 3 }
    -- 9 at the `=`
    ∷ record { of = ascii "<a ="; is = bad 9 3 }
    -- the second `=` is the value, so 10 at the text's length
    ∷ record { of = ascii "<a b=="; is = bad 10 6 }
    -- a quoted value that never closes runs to the end, so 10 and not 8
    ∷ record { of = ascii "<a b='/"; is = bad 10 7 }
    -- 11 at the `<`, where a would take the close tag
    ∷ record { of = ascii "<a><b><!----></"; is = bad 11 13 }
    ∷ []

pub worked : map (λ (c : Case). meaning c.of 49152 32768) cases ≡ map (λ (c : Case). c.is) cases
unfolding cases go loop blank text_byte name_byte attr_name_byte run_end_of starts_at seek past fits_at first_fit sequence_at utf8_end join quote_byte quoted
    bare value_at attr_at slash attr_next tag_turn tag_from start_at past_comments text_at section_at node_here node_at_of node_next close_at inner_turn
    outer_turn row_of enclose tagged element_by element_of prolog_turn prolog_end meaning
worked = refl

-- `<a>` 65 times: 4 at the last `<`
pub opens : ℕ → List ℕ
opens zero = []
opens (suc n) = ascii "<a>" ++ opens n

pub deep : meaning (opens 65) 49152 32768 ≡ bad 4 192
unfolding opens go loop blank text_byte name_byte attr_name_byte run_end_of starts_at seek past fits_at first_fit sequence_at utf8_end join quote_byte quoted
    bare value_at attr_at slash attr_next tag_turn tag_from start_at past_comments text_at section_at node_here node_at_of node_next close_at inner_turn
    outer_turn row_of enclose tagged element_by element_of prolog_turn prolog_end meaning
deep = refl
