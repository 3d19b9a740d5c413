-- Worked cases of `places_of`: where the nodes and attributes of a text stand, whatever its derivation, computed. Assumes nothing.
--     cases, worked, places
use Prim.Native.Nat.{ℕ}
use mathlib.Core.Path.{◌≡◌, refl, sym, ap, ◌∙◌}
use mathlib.Core.List.{List, [], ◌∷◌, map}
use mathlib.Core.Option.{Option, none, some}
use native.Mathlib.Omega.{arith}
use Rattle.scan.specs.Text.{ascii}
use Rattle.scan.specs.Part.{string_at}
use Rattle.scan.specs.Loop.{go, loop}
use Rattle.scan.specs.Bytes.{blank, text_byte, name_byte, attr_name_byte, run_end_of}
use Rattle.scan.specs.Marks.{starts_at, seek, past}
use Rattle.scan.specs.Names.{same_bytes_of}
use Rattle.utf8.specs.Utf8.{fits_at, first_fit, sequence_at, utf8_end, encode, char_at}
use Rattle.utf8.specs.White.{is_white}
use Rattle.entities.specs.Reference as entities
use Rattle.entities.specs.Reference.{starts_white, ends_name, name_length, lookup, reference}
use Rattle.entities.specs.Decode.{decoded_from, decoded}
use Rattle.grammar.specs.Tree.{Forest}
use Rattle.grammar.specs.Demand.{tree}
use Rattle.grammar.specs.Grammar.{Document}
use Rattle.tree.specs.Trees as placed
use Rattle.tree.specs.Trees.{nil, text, section, elem, join}
use Rattle.tree.specs.Read.{Out, got, nothing, bad, quote_byte, quoted, bare, value_at, attr_at, slash, attr_next, tag_turn, tag_from, start_at}
use Rattle.tree.specs.Read.{past_comments}
use Rattle.tree.specs.Read.{text_at, section_at, node_here, node_at_of, node_next, close_at, inner_turn, outer_turn, row_of, enclose, tagged, element_by}
use Rattle.tree.specs.Read.{element_of}
use Rattle.tree.specs.Read.{prolog_turn, prolog_end, meaning}
use Rattle.derivation.specs.Strings.{tree_in}
use Rattle.derivation.specs.Steps.{result_in}
use Rattle.xml.specs.Steps.{read_attrs, read_forest, raw, read_out, strings_of}
use Rattle.xml.specs.Promise.{places_of}
use Rattle.xml.proofs.Parsing.{raw-enough}
use Rattle.xml.proofs.Derived.{placed_as_derived}
use Rattle.xml.proofs.Lengths.{read_placed}
use Rattle.xml.proofs.Theorem.{parsed, taken-fits}

-- ---- from what the reader by places gives, to every derivation
unfoldable pub forest_of : Out → Option placed.Forest
forest_of (got f q k a) = some f
forest_of (nothing q) = none
forest_of (bad n p) = none

unfoldable pub read_in : List ℕ → Option placed.Forest
read_in s = forest_of (read_out s (meaning s 49152 32768))

stands : {s : List ℕ} {f : Forest} (d : Document s f) (h : placed.Forest) → read_in s ≡ some h → places_of d ≡ h
unfolding forest_of read_in read_out result_in
stands {s} d h e = by (meaning s 49152 32768) refl
  where
    by : (o : Out) → meaning s 49152 32768 ≡ o → places_of d ≡ h
    by (got g q k a) m =
        let z : List ℕ = strings_of 65536 s (raw s 49152 32768 65536) in
        let r : raw s 49152 32768 65536 ≡ got g q k a = raw-enough s 49152 32768 65536 (omega arith) ∙ m in
        let t : parsed s 49152 32768 65536 ≡ tree (tree_in z (read_forest s g)) = ap (λ o. result_in z (read_out s o)) r in
        let fits = (taken-fits s 49152 32768 65536 (tree_in z (read_forest s g)) t).0 in
        let w : some (read_forest s g) ≡ some h = rw m at e in
        let v : read_forest s g ≡ h = cc in
        sym (ap (read_forest s) (placed_as_derived d 49152 32768 fits g q k a m) ∙ read_placed d) ∙ v
    by (nothing q) m =
        let w : ◌≡◌ {A = Option placed.Forest} none (some h) = rw m at e in
        let y : ◌≡◌ {A = ℕ} 0 1 = cc in
        absurd (omega arith)
    by (bad n p) m =
        let w : ◌≡◌ {A = Option placed.Forest} none (some h) = rw m at e in
        let y : ◌≡◌ {A = ℕ} 0 1 = cc in
        absurd (omega arith)

-- ---- the cases
pub record Case : Type 0 where
  pub of : List ℕ
  pub is : placed.Forest

abbrev attribute : (name name_len value value_len : ℕ) → placed.Attr
attribute p n v m = record { name = p; name_len = n; value = v; value_len = m }

pub cases : List Case
cases =
    -- a value in quote marks stands after the first of them
    record { of = ascii "<a b='c'/>"; is = elem 0 1 (attribute 3 1 6 1 ∷ []) nil nil }
    -- a value without; and of a name alone, the empty value after it
    ∷ record { of = ascii "<a b = c d>x</a>"; is = elem 0 1 (attribute 3 1 7 1 ∷ attribute 9 1 10 0 ∷ []) (text 11 1 nil) nil }
    -- an empty name stands at its `=`
    ∷ record { of = ascii "<a ='c' =d/>"; is = elem 0 1 (attribute 3 0 5 1 ∷ attribute 8 0 9 1 ∷ []) nil nil }
    -- a section stands behind its opening, its bytes as they are
    ∷ record { of = ascii "x<![CDATA[a&lt;]]>"; is = text 0 1 (section 10 5 nil) }
    -- prolog and comments are no part of the tree, but count as bytes
    ∷ record { of = ascii "<?xml?> <d><!--c--><p/></d>"; is = elem 8 1 [] (elem 19 1 [] nil nil) nil }
    -- a text and a value are as long as they are with their entities read
    ∷ record { of = ascii "a&amp;b<a b='&lt;'/>"; is = text 0 3 (elem 7 1 (attribute 10 1 13 1 ∷ []) nil nil) }
    ∷ []

pub worked : map (λ (c : Case). read_in c.of) cases ≡ map (λ (c : Case). some c.is) cases
unfolding cases forest_of read_in read_out read_forest read_attrs string_at go loop blank text_byte name_byte attr_name_byte run_end_of starts_at seek past
    fits_at first_fit sequence_at utf8_end encode join quote_byte quoted bare value_at attr_at slash attr_next tag_turn tag_from start_at
    past_comments text_at section_at node_here node_at_of node_next close_at inner_turn outer_turn row_of enclose tagged element_by element_of
    prolog_turn prolog_end meaning decoded decoded_from reference starts_white ends_name is_white char_at name_length lookup entities.named same_bytes_of
worked = refl

-- ---- so they stand
abbrev pub Stand : List Case → Type 0
Stand [] = Unit {0}
Stand (c ∷ l) = ((f : Forest) (d : Document c.of f) → places_of d ≡ c.is) × Stand l

stand : (l : List Case) → map (λ (c : Case). read_in c.of) l ≡ map (λ (c : Case). some c.is) l → Stand l
stand [] e = tt
stand (c ∷ l) e = ((λ f d. stands d c.is cc), stand l cc)

pub places : Stand cases
places = stand cases worked
