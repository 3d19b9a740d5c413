-- What the functions ask and ensure, by the cases of their answers. Steps of the program: `TreeRead` alone is a promise to others.
use Rattle.std.specs.Prelude.{Result, Ok, Err, ⊤, ℕ, ◌+◌, ◌*◌, ◌≤◌, ◌<◌, ◌≡◌, Bool, true, false, cond, List, length, get_or, ltb}
use Rattle.std.proofs.lemmas.List.Edits.{sets}
use Rattle.scan.specs.Bytes.{blank, other, run_end_of}
use Rattle.scan.specs.Marks.{starts_at}
use Rattle.utf8.specs.Utf8.{utf8_end}
use Rattle.tree.specs.Trees.{Attr, Forest, size, attrs_of, rows, attr_row, attr_rows}
use Rattle.tree.specs.Read.{Out, got, nothing, bad, AttrOut, attr, flaw, TagOut, opened, shut, torn, gt, skip, past_comments, meaning}
use Rattle.tree.specs.Read.{comment_mark, answer_of, nodes_of, attr_cells}
use Rattle.tree.specs.Answers.{Says}
use Rattle.tree.specs.declared.answers.Cursor.{Cursor}
use Rattle.tree.specs.declared.answers.Spot.{Spot}
use Rattle.tree.specs.declared.answers.Step.{Step}
use Rattle.tree.specs.declared.answers.Tag.{Tag}
use Rattle.tree.specs.declared.answers.Refusal.{Refusal}
use Rattle.tree.specs.declared.answers.TreeSize.{TreeSize}

-- the text s, the tables t of nodes and u of attributes, a place p, k nodes and a attributes: within the limits
pub record Ready (s t u : List ℕ) (p k a : ℕ) : Type 0 where
  pub short : length s ≤ 65536
  pub long : 49152 ≤ length t
  pub wide : 32768 ≤ length u
  pub within : p ≤ length s
  pub most : k ≤ 8192
  pub least : a ≤ 8192

-- ---- an attribute
-- o is an attribute at p, with the place q after it and its blanks; its row is laid as attribute a
pub record PairGot (o : AttrOut) (s u u' : List ℕ) (p a q : ℕ) : Type 0 where
  pub one : Attr
  pub is : o ≡ attr one q
  pub after : p + 1 ≤ q
  pub within : q ≤ length s
  pub solid : q < length s → blank (get_or s q 0) ≡ false
  pub laid : u' ≡ sets u (a * 4) (attr_row one)

abbrev pub PairPost : AttrOut → List ℕ → List ℕ → List ℕ → ℕ → ℕ → Result ℕ Refusal → Type 0
PairPost o s u u' p a (Ok q) = PairGot o s u u' p a q
PairPost o s u u' p a (Err f) = o ≡ flaw f.number f.place

-- ---- a start tag
-- o is made by mk of a list of attributes, read from p or later up to the spot c; their rows are laid from attribute a on
pub record TagGot (mk : List Attr → ℕ → ℕ → TagOut) (o : TagOut) (s u u' : List ℕ) (p a : ℕ) (c : Spot) : Type 0 where
  pub list : List Attr
  pub is : o ≡ mk list c.pos c.attrs
  pub after : p + 1 ≤ c.pos
  pub within : c.pos ≤ length s
  pub counted : c.attrs ≡ a + length list
  pub most : c.attrs ≤ 8192
  pub laid : u' ≡ sets u (a * 4) (attr_rows list)

abbrev pub TagPost : TagOut → List ℕ → List ℕ → List ℕ → ℕ → ℕ → Result Tag Refusal → Type 0
TagPost o s u u' p a (Ok (Tag.Open c)) = TagGot opened o s u u' p a c
TagPost o s u u' p a (Ok (Tag.Shut c)) = TagGot shut o s u u' p a c
TagPost o s u u' p a (Err f) = o ≡ torn f.number f.place

-- the answer at the `/` of a start tag, with n attributes read
unfoldable pub shut_at : List ℕ → ℕ → ℕ → Result Tag Refusal
shut_at s p n =
    let q = skip s (p + 1) in
    cond (starts_at s q gt) (Ok (Tag.Shut (record { pos = q + 1; attrs = n }))) (Err (record { number = 8; place = p }))

-- ---- nodes
-- the comments at p end at r
pub record Skipped (s : List ℕ) (p r : ℕ) : Type 0 where
  pub is : r ≡ past_comments s p
  pub after : p ≤ r
  pub within : r ≤ length s

-- the first bytes of a comment stand at p
pub record Opened (s : List ℕ) (p : ℕ) : Type 0 where
  pub within : p + 4 ≤ length s
  pub first : get_or s p 0 ≡ 60
  pub second : get_or s (p + 1) 0 ≡ 33

-- r says whether a comment opens at p
pub record Opens (s : List ℕ) (p : ℕ) (r : Bool) : Type 0 where
  pub is : r ≡ starts_at s p comment_mark
  pub opened : r ≡ true → Opened s p

-- o is a forest, read from low or later up to the cursor c; its rows are laid from row k and attribute a on
pub record Laid (o : Out) (s t t' u u' : List ℕ) (low k a : ℕ) (c : Cursor) : Type 0 where
  pub forest : Forest
  pub is : o ≡ got forest c.pos c.nodes c.attrs
  pub after : low ≤ c.pos
  pub within : c.pos ≤ length s
  pub counted : c.nodes ≡ k + size forest
  pub tallied : c.attrs ≡ a + length (attrs_of forest)
  pub most : c.nodes ≤ 8192
  pub least : c.attrs ≤ 8192
  pub laid : t' ≡ sets t (k * 6) (rows k a forest)
  pub listed : u' ≡ sets u (a * 4) (attr_rows (attrs_of forest))

-- nothing stands at q, and nothing is written
pub record Idle (o : Out) (s t t' u u' : List ℕ) (p q : ℕ) : Type 0 where
  pub is : o ≡ nothing q
  pub after : p ≤ q
  pub within : q ≤ length s
  pub same : t' ≡ t
  pub alike : u' ≡ u

abbrev pub StepPost : Out → List ℕ → List ℕ → List ℕ → List ℕ → List ℕ → ℕ → ℕ → ℕ → Result Step Refusal → Type 0
StepPost o s t t' u u' p k a (Ok (Step.Node c)) = Laid o s t t' u u' (p + 1) k a c
StepPost o s t t' u u' p k a (Ok (Step.Nothing q)) = Idle o s t t' u u' p q
StepPost o s t t' u u' p k a (Err f) = o ≡ bad f.number f.place

abbrev pub ContentPost : Out → List ℕ → List ℕ → List ℕ → List ℕ → List ℕ → ℕ → ℕ → ℕ → Result Cursor Refusal → Type 0
ContentPost o s t t' u u' p k a (Ok c) = Laid o s t t' u u' p k a c
ContentPost o s t t' u u' p k a (Err f) = o ≡ bad f.number f.place

-- the answer at the `</` of a close tag, with k nodes and a attributes read
unfoldable pub closed_at : List ℕ → ℕ → ℕ → ℕ → Result Cursor Refusal
closed_at s p k a =
    let g = run_end_of (other 62) s p in
    cond (ltb g (length s)) (Ok (record { pos = g + 1; nodes = k; attrs = a })) (Err (record { number = 11; place = p }))

-- ---- the whole text
-- the text s and tables of n and m cells meet none of the numbers 1 to 3
pub record Fits (s : List ℕ) (n m : ℕ) : Type 0 where
  pub long : 49152 ≤ n
  pub wide : 32768 ≤ m
  pub short : length s ≤ 65536
  pub valid : length s ≤ utf8_end s

abbrev pub LimitsPost : List ℕ → ℕ → ℕ → Result ⊤ Refusal → Type 0
LimitsPost s n m (Ok tt) = Fits s n m
LimitsPost s n m (Err f) = meaning s n m ≡ bad f.number f.place

-- the whole call: the tables t and u as they are lent, t' and u' as they are left
pub record TreeRead (s t u : List ℕ) (r : Result TreeSize Refusal) (t' u' : List ℕ) : Type 0 where
  pub answer : r ≡ answer_of (meaning s (length t) (length u))
  -- a refusal is answered with its number and its place
  pub says : (n p : ℕ) → meaning s (length t) (length u) ≡ bad n p → Says r n p
  pub of_nodes : t' ≡ nodes_of (length t) (meaning s (length t) (length u))
  pub of_attrs : u' ≡ attr_cells (length u) (meaning s (length t) (length u))
