-- Worked cases of what is asked of a tree, computed from the definitions.
use Rattle.std.specs.Prelude.{Some}
use mathlib.Core.Path.{◌≡◌, refl}
use mathlib.Core.Bool.{true, false}
use mathlib.Core.List.{List, [], ◌∷◌}
use Prim.Native.Nat.{ℕ}
use Rattle.scan.specs.Text.{ascii}
use Rattle.scan.specs.Names.{lower, same_folded, has_colon, after_last_colon}
use Rattle.tree.specs.Trees as placed
use Rattle.scan.specs.Part.{string_at}
use Rattle.grammar.specs.Tree.{attr, text, section, element, none, more}
use Rattle.xml.specs.Find.{named, find_element, found, absent, value, no_value, attr_value, find_row, find_value, is_element}

abbrev body : List ℕ
body = ascii "body"

abbrev id : List ℕ
id = ascii "id"

-- ---- elements
-- `x<tt:BODY>y</tt:BODY><body/>`: texts are passed, the prefix and the case do not count, and the first is taken
pub first_body : find_element body (more (text (ascii "x")) (more (element (ascii "tt:BODY") [] (more (text (ascii "y")) none))
    (more (element body [] none) none)))
    ≡ found (ascii "tt:BODY") [] (more (text (ascii "y")) none)
unfolding find_element named same_folded lower has_colon after_last_colon
first_body = refl

-- `<![CDATA[body]]><a:b:body/>`: a section is passed, and a local name follows the last colon
pub last_colon : find_element body (more (section body) (more (element (ascii "a:b:body") [] none) none))
    ≡ found (ascii "a:b:body") [] none
unfolding find_element named same_folded lower has_colon after_last_colon
last_colon = refl

-- `<p><body/></p><bodys/>`: content is not searched, and a longer name is another
pub not_inside : find_element body (more (element (ascii "p") [] (more (element body [] none) none)) (more (element (ascii "bodys") [] none) none))
    ≡ absent
unfolding find_element named same_folded lower has_colon after_last_colon
not_inside = refl

-- ---- attributes
-- `ID="1" id="2"`: the first of those that differ in case only
pub first-id : attr_value id (attr (ascii "ID") (ascii "1") ∷ attr id (ascii "2") ∷ []) ≡ value (ascii "1")
unfolding attr_value same_folded lower
first-id = refl

-- `x:id="1"`: an attribute's prefix is part of its name
pub whole-name : attr_value id (attr (ascii "x:id") (ascii "1") ∷ []) ≡ no_value
unfolding attr_value same_folded lower
whole-name = refl

-- ---- in the tables: `x<P a="7"/>` has a text in row 0 and an element in row 1
abbrev strings : List ℕ
strings = 120 ∷ 0 ∷ 80 ∷ 0 ∷ 97 ∷ 0 ∷ 0 ∷ 55 ∷ 0 ∷ 0 ∷ 0 ∷ []

abbrev nodes : List ℕ
nodes = 1 ∷ 1 ∷ 0 ∷ 1 ∷ 0 ∷ 0 ∷ 2 ∷ 2 ∷ 1 ∷ 1 ∷ 0 ∷ 1 ∷ []

abbrev owned : List placed.Attr
owned = record { name = 4; name_len = 1; value = 7; value_len = 1 } ∷ []

pub row-1 : find_row strings (ascii "p") 0 (placed.text 0 1 (placed.elem 1 1 owned placed.nil placed.nil)) ≡ Some 1
unfolding find_row named string_at same_folded lower has_colon after_last_colon
row-1 = refl

pub no_element : is_element nodes strings (ascii "p") 0 ≡ false
unfolding is_element
no_element = refl

pub an_element : is_element nodes strings (ascii "p") 1 ≡ true
unfolding is_element named string_at same_folded lower has_colon after_last_colon
an_element = refl

pub value-7 : find_value strings (ascii "A") owned ≡ Some (record { at = 4; place = 7; len = 1 })
unfolding find_value string_at same_folded lower
value-7 = refl
