-- The reader by places. It need not be believed: a step on the way from the program to the grammar, which `derivation` shows equal to what
-- the grammar derives and to what is refused (`derivation/proofs/Theorem`).
-- s is the whole text, p a place in it; k nodes and a attributes were read before. Quoted phrases are document 01's.
use Rattle.std.specs.Prelude.{Result, Err, ℕ, zero, suc, ◌+◌, ◌-◌, ◌*◌, List, [], ◌∷◌, ◌++◌, Bool, cond, ◌||◌, length, get_or, replicate, eqb, ltb}
use Rattle.scan.specs.Text.{ascii}
use Rattle.scan.specs.Loop.{Next, halt, more, loop}
use Rattle.scan.specs.Bytes.{blank, text_byte, name_byte, attr_name_byte, other, run_end_of}
use Rattle.scan.specs.Marks.{starts_at, seek, past}
use Rattle.utf8.specs.Utf8.{utf8_end}
use Rattle.tree.specs.Trees.{Attr, Forest, nil, text, section, elem, size, join, rows, attrs_of, attr_rows}
use Rattle.tree.specs.declared.answers.Refusal.{Refusal}
use Rattle.tree.specs.Answers.{tree_with}
use Rattle.tree.specs.declared.answers.TreeSize.{TreeSize}

-- a forest, where reading stopped and how many nodes and attributes there are then; no node at a place; a refusal, number and place
pub data Out : Type 0 where
  got : Forest → ℕ → ℕ → ℕ → Out
  nothing : ℕ → Out
  bad : ℕ → ℕ → Out

-- ---- marks
abbrev pub gt : List ℕ
gt = ascii ">"

abbrev pub equals : List ℕ
equals = ascii "="

abbrev pub close_mark : List ℕ
close_mark = ascii "</"

abbrev pub comment_mark : List ℕ
comment_mark = ascii "<!--"

abbrev pub comment_end : List ℕ
comment_end = ascii "-->"

abbrev pub cdata_mark : List ℕ
cdata_mark = ascii "<![CDATA["

abbrev pub cdata_end : List ℕ
cdata_end = ascii "]]>"

abbrev pub pi_mark : List ℕ
pi_mark = ascii "<?"

abbrev pub pi_end : List ℕ
pi_end = ascii "?>"

abbrev pub decl_mark : List ℕ
decl_mark = ascii "<!"

-- `"` and `'`
unfoldable pub quote_byte : ℕ → Bool
quote_byte b = eqb b 34 || eqb b 39

-- blanks skipped
abbrev pub skip : List ℕ → ℕ → ℕ
skip s p = run_end_of blank s p

-- ---- one attribute at p: its row and the place after it and its blanks; or a refusal
pub data AttrOut : Type 0 where
  attr : Attr → ℕ → AttrOut
  flaw : ℕ → ℕ → AttrOut

-- "A value that begins with a quote mark runs to the next like mark": the mark c stands at v
unfoldable pub quoted : List ℕ → ℕ → ℕ → ℕ → ℕ → AttrOut
quoted s p e c v =
    let z = run_end_of (other c) s (v + 1) in
    attr (record { name = p; name_len = e - p; value = v + 1; value_len = z - (v + 1) })
    (cond (ltb z (length s)) (skip s (z + 1)) z)

-- "Any other is a longest run without blank, `>` or `/`"
unfoldable pub bare : List ℕ → ℕ → ℕ → ℕ → AttrOut
bare s p e v =
    let z = run_end_of name_byte s v in
    attr (record { name = p; name_len = e - p; value = v; value_len = z - v }) (skip s z)

-- after the `=` at q of an attribute at p whose name ends at e
unfoldable pub value_at : List ℕ → ℕ → ℕ → ℕ → AttrOut
value_at s p e q =
    let v = skip s (q + 1) in
    cond (ltb v (length s))
    (cond (quote_byte (get_or s v 0)) (quoted s p e (get_or s v 0) v) (bare s p e v))
    (flaw 9 q)

unfoldable pub attr_at : List ℕ → ℕ → AttrOut
attr_at s p =
    let e = run_end_of attr_name_byte s p in
    let q = skip s e in
    cond (starts_at s q equals)
    (value_at s p e q)
    (attr (record { name = p; name_len = e - p; value = e; value_len = 0 }) q)

-- ---- a start tag: its attributes, the place after it and the count of attributes; the same of a tag that has no content; a refusal
pub data TagOut : Type 0 where
  opened : List Attr → ℕ → ℕ → TagOut
  shut : List Attr → ℕ → ℕ → TagOut
  torn : ℕ → ℕ → TagOut

pub record TagState : Type 0 where
  pub list : List Attr
  pub count : ℕ

-- "or `/`, blanks, `>` (no content)"
unfoldable pub slash : List ℕ → ℕ → TagState → TagOut
slash s p x = cond (starts_at s (skip s (p + 1)) gt) (shut x.list (skip s (p + 1) + 1) x.count) (torn 8 p)

unfoldable pub attr_next : TagState → AttrOut → Next TagState TagOut
attr_next x (attr y q) = more q (record { list = x.list ++ (y ∷ []); count = x.count + 1 })
attr_next x (flaw n q) = halt (torn n q)

unfoldable pub tag_turn : List ℕ → ℕ → TagState → Next TagState TagOut
tag_turn s p x =
    cond (eqb (get_or s p 0) 62) (halt (opened x.list (p + 1) x.count))
    (cond (eqb (get_or s p 0) 47) (halt (slash s p x))
    (cond (ltb x.count 8192) (attr_next x (attr_at s p)) (halt (torn 7 p))))

-- from p on, where no blank stands
unfoldable pub tag_from : List ℕ → ℕ → TagState → TagOut
tag_from s p x = loop (length s) (tag_turn s) (λ q y. torn 10 q) p x

-- the start tag of the element at p, whose name ends at e
unfoldable pub start_at : List ℕ → ℕ → ℕ → ℕ → TagOut
start_at s p e a = cond (eqb e (p + 1)) (torn 6 p) (tag_from s (skip s e) (record { list = []; count = a }))

-- ---- nodes
abbrev pub Reader : Type 0
Reader = ℕ → ℕ → ℕ → Out

-- past the comments at p
abbrev pub comment_turn : List ℕ → ℕ → Unit {0} → Next (Unit {0}) ℕ
comment_turn s i x = cond (starts_at s i comment_mark) (more (past comment_end s i) x) (halt i)

unfoldable pub past_comments : List ℕ → ℕ → ℕ
past_comments s p = loop (length s) (comment_turn s) (λ i x. i) p tt

unfoldable pub text_at : List ℕ → Reader
text_at s p k a =
    let e = run_end_of text_byte s p in
    cond (ltb k 8192) (got (text p (e - p) nil) e (k + 1) a) (bad 5 p)

unfoldable pub section_at : List ℕ → Reader
section_at s p k a =
    cond (ltb k 8192) (got (section (p + 9) (seek cdata_end s (p + 9) - (p + 9)) nil) (past cdata_end s (p + 9)) (k + 1) a) (bad 5 p)

-- no comment stands at p
unfoldable pub node_here : List ℕ → Reader → Reader
node_here s el p k a =
    cond (ltb p (length s))
    (cond (eqb (get_or s p 0) 60)
    (cond (starts_at s p cdata_mark) (section_at s p k a) (cond (starts_at s p close_mark) (nothing p) (el p k a)))
    (text_at s p k a))
    (nothing p)

unfoldable pub node_at_of : List ℕ → Reader → Reader
node_at_of s el p k a = node_here s el (past_comments s p) k a

-- ---- nodes in a row
pub record State : Type 0 where
  pub forest : Forest
  pub nodes : ℕ
  pub attrs : ℕ

unfoldable pub node_next : State → Out → Next State Out
node_next x (got f q k a) = more q (record { forest = join x.forest f; nodes = k; attrs = a })
node_next x (nothing q) = halt (got x.forest q x.nodes x.attrs)
node_next x (bad n q) = halt (bad n q)

-- "`</`, any bytes but `>`, `>` closes the open element, whatever its name"
unfoldable pub close_at : List ℕ → ℕ → State → Out
close_at s p x =
    let g = run_end_of (other 62) s p in
    cond (ltb g (length s)) (got x.forest (g + 1) x.nodes x.attrs) (bad 11 p)

-- a turn inside an element, where `</` closes; and outside
unfoldable pub inner_turn : List ℕ → Reader → ℕ → State → Next State Out
inner_turn s el p x = cond (starts_at s p close_mark) (halt (close_at s p x)) (node_next x (node_at_of s el p x.nodes x.attrs))

unfoldable pub outer_turn : List ℕ → Reader → ℕ → State → Next State Out
outer_turn s el p x = node_next x (node_at_of s el p x.nodes x.attrs)

unfoldable pub row_of : List ℕ → (ℕ → State → Next State Out) → ℕ → State → Out
row_of s turn p x = loop (length s) turn (λ q y. got y.forest q y.nodes y.attrs) p x

abbrev pub fresh : ℕ → ℕ → State
fresh k a = record { forest = nil; nodes = k; attrs = a }

-- ---- elements, of which d more may be open
unfoldable pub enclose : ℕ → ℕ → List Attr → Out → Out
enclose p n l (got f q k a) = got (elem p n l f nil) q k a
enclose p n l (nothing q) = nothing q
enclose p n l (bad m q) = bad m q

unfoldable pub tagged : Reader → ℕ → ℕ → ℕ → TagOut → Out
tagged inner p n k (opened l q a) = enclose p n l (inner q (k + 1) a)
tagged inner p n k (shut l q a) = got (elem p n l nil nil) q (k + 1) a
tagged inner p n k (torn m q) = bad m q

unfoldable pub element_by : List ℕ → Reader → Reader
element_by s inner p k a =
    let e = run_end_of name_byte s (p + 1) in
    cond (ltb k 8192) (tagged inner p (e - (p + 1)) k (start_at s p e a)) (bad 5 p)

unfoldable pub element_of : ℕ → List ℕ → Reader
element_of zero s p k a = bad 4 p
element_of (suc d) s p k a = element_by s (λ q j b. row_of s (inner_turn s (element_of d s)) q (fresh j b)) p k a

abbrev pub content_of : ℕ → List ℕ → Reader
content_of d s q j b = row_of s (inner_turn s (element_of d s)) q (fresh j b)

-- ---- the prolog
unfoldable pub prolog_turn : List ℕ → ℕ → Unit {0} → Next (Unit {0}) ℕ
prolog_turn s i x =
    cond (starts_at s i pi_mark) (more (skip s (past pi_end s i)) x)
    (cond (starts_at s i comment_mark) (more (skip s (past comment_end s i)) x)
    (cond (starts_at s i decl_mark) (more (skip s (past gt s i)) x) (halt i)))

-- from p on, where no blank stands
abbrev pub prolog_from : List ℕ → ℕ → ℕ
prolog_from s p = loop (length s) (prolog_turn s) (λ i x. i) p tt

unfoldable pub prolog_end : List ℕ → ℕ
prolog_end s = prolog_from s (skip s 0)

-- ---- the whole text, with tables of n and m cells
-- the nodes at top level, from p on
abbrev pub top_of : List ℕ → ℕ → Out
top_of s p = row_of s (outer_turn s (element_of 64 s)) p (fresh 0 0)

unfoldable pub meaning : List ℕ → ℕ → ℕ → Out
meaning s n m =
    cond (ltb n 49152) (bad 1 0)
    (cond (ltb m 32768) (bad 1 0)
    (cond (ltb 65536 (length s)) (bad 2 0)
    (cond (ltb (utf8_end s) (length s)) (bad 3 (utf8_end s))
    (top_of s (prolog_end s)))))

-- the answer, and the cells of the two tables
unfoldable pub answer_of : Out → Result TreeSize Refusal
answer_of (got f q k a) = tree_with (size f) (length (attrs_of f))
answer_of (nothing q) = tree_with 0 0
answer_of (bad n q) = Err (record { number = n; place = q })

unfoldable pub nodes_of : ℕ → Out → List ℕ
nodes_of n (got f q k a) = rows 0 0 f ++ replicate (n - size f * 6) 0
nodes_of n (nothing q) = replicate n 0
nodes_of n (bad m q) = replicate n 0

unfoldable pub attr_cells : ℕ → Out → List ℕ
attr_cells n (got f q k a) = attr_rows (attrs_of f) ++ replicate (n - length (attrs_of f) * 4) 0
attr_cells n (nothing q) = replicate n 0
attr_cells n (bad m q) = replicate n 0
