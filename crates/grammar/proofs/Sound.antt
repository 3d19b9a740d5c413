-- What the reader without limits gives, the grammar derives. Assumes nothing.
--     value-sound, attribute-sound, attributes-sound, element-sound, node-sound, content_sound, nodes-sound, prolog-sound
--     View, view             what begins at the front of a string, and that the reader's test says it
--     sound, taken-exactly
use mathlib.Core.Path.{◌≡◌, refl, sym, ap, ◌∙◌, subst}
use Prim.Native.Nat.{ℕ, zero, suc, ◌<◌}
use native.Mathlib.Omega.{arith}
use mathlib.Core.Logic.{◌⊎◌, inl, inr, ◌↔◌}
use mathlib.Core.Bool.{Bool, true, false, cond, ◌||◌, true≢false}
use mathlib.Core.List.{List, [], ◌∷◌, ◌++◌, append-nil, append_assoc, cons≢nil, nil≢cons, head-eq_of_cons-eq}
use lib.ListN.{length, drop, length-append}
use lib.Dec.{eqb}
use Rattle.scan.specs.Bytes.{blank, text_byte, name_byte, attr_name_byte, other}
use Rattle.grammar.specs.Words.{Bytes, ◌then◌, Only, Stops, Run, Begins}
use Rattle.grammar.specs.Tree.{Attr, attr, Tree, section, element, Forest, none, more, quote}
use Rattle.grammar.specs.Tree.{`<`, `>`, `/`, `=`, `</`, `<?`, `<!`, `<!--`, `-->`, `<![CDATA[`, `]]>`}
use Rattle.grammar.specs.Grammar.{Blanks, Piece, one_blank, instruction, declaration, Prolog, no_piece, piece, NoPiece, Name, Value, quoted}
use Rattle.grammar.specs.Grammar.{unquoted, Attribute, alone, named, nameless, Attributes, no_attribute, attribute, Opening, opening}
use Rattle.grammar.specs.Grammar.{Comment, Before, a_comment, no_comment, Node, a_text, a_section, last_section, an_element, Element}
use Rattle.grammar.specs.Grammar.{without-content, with_content, Content, Nodes, Document, document}
use Rattle.grammar.specs.Demand.{tree}
use Rattle.grammar.specs.Scan.{run, past, prefix, from, before, beyond}
use Rattle.grammar.proofs.Reader.{Res, next, map_res, value_as, read_value, after_name_as, after_name, read_attribute, tag_end, attributes_as}
use Rattle.grammar.proofs.Reader.{attributes_step, read_attributes, slash_as, after_slash, opened_as, after_opening, after_tag_name, read_element}
use Rattle.grammar.proofs.Reader.{NodeKind, Kind, kind, node_as, after_close, content_as_lem, content_step_lem, read_content, nodes_as, nodes_step}
use Rattle.grammar.proofs.Reader.{read_nodes_lem, PieceKind, piece_kind, prolog_as, past_prolog, finish, read_document, ok, bad, as_text}
use Rattle.grammar.proofs.Reader.{as_section, as_element, as_close, as_comment, as_node, blank-byte, to_mark, no_more}
use Rattle.scan.proofs.Every.{by-test}
use Rattle.grammar.proofs.Tests.{not_both, eqb_eq, not_false, or_true3, equals-byte}
use Rattle.grammar.proofs.Scans.{run_past, run_only, past-stops, past_is, prefix-begins, prefix-not, before-from, Found, found}
use Rattle.grammar.proofs.Scans.{before-lacks, up_to, nowhere, at_first}
use Rattle.grammar.proofs.Complete.{past-none, blank-equals, AtTagEnd, begins_more, begins_piece, open_comment, open_instruction}
use Rattle.grammar.proofs.Complete.{open_declaration, piece-length, kind_instruction, kind_comment_piece, kind_declaration, complete}

-- ---- values

-- what is left is not the end of the text, and the value stands before it
abbrev pub ValueS : Bytes → Res Bytes → Type 0
ValueS s (ok v r) = ¬ (r ≡ []) → (w : Bytes) × (s ≡ w ++ r) × Value r w v
ValueS s (bad n l) = Unit {0}

pub quoted-sound : (q : ℕ) (s : Bytes) → quote q ≡ true → ValueS (q ∷ s) (value_as true q s)
unfolding value_as
quoted-sound q s e = go (past (other q) s) refl (past-stops (other q) s)
  where
    v : Bytes
    v = run (other q) s

    go : (m : Bytes) → past (other q) s ≡ m → Stops (other q) m → ValueS (q ∷ s) (ok v (drop 1 m))
    go [] k h ne = absurd (ne refl)
    go (c ∷ r) k h ne =
        let c_is : c ≡ q = eqb_eq c q (not_false (eqb c q) h) in
        let split : s ≡ v ++ (q ∷ r) = run_past (other q) s ∙ ap (v ++◌) (k ∙ ap (◌∷ r) c_is) in
        ((q ∷ []) then v then (q ∷ []), ap (q ∷◌) (split ∙ sym (append_assoc v (q ∷ []) r)), quoted e (run_only (other q) s))

pub unquoted-sound : (q : ℕ) (s : Bytes) → quote q ≡ false → blank q ≡ false → ValueS (q ∷ s) (value_as false q s)
unfolding value_as run past name_byte
unquoted-sound q s e b ne = (
  run name_byte (q ∷ s),
  run_past name_byte (q ∷ s),
  unquoted {v = run name_byte (q ∷ s)}
      (by-test (name_byte q) (λ t. rw t e) (λ t. rw t tt))
      (record { only = run_only name_byte (q ∷ s); longest = past-stops name_byte (q ∷ s) })
      (λ z. ends (by-test (name_byte q) (λ t. absurd (cons≢nil (sym (ap (λ y. cond y (q ∷ run name_byte s) []) t) ∙ z))) (λ t. t))),
)
  where
    ends : name_byte q ≡ false → Begins `>` (past name_byte (q ∷ s)) ⊎ Begins `/` (past name_byte (q ∷ s))
    ends t = go (or_true3 (blank q) (eqb q 62) (eqb q 47) t b)
      where
        go : (eqb q 62 ≡ true) ⊎ (eqb q 47 ≡ true) → Begins `>` (past name_byte (q ∷ s)) ⊎ Begins `/` (past name_byte (q ∷ s))
        go (inl h) = inl (s, ap (λ y. cond y (past name_byte s) (q ∷ s)) t ∙ ap (◌∷ s) (eqb_eq q 62 h))
        go (inr h) = inr (s, ap (λ y. cond y (past name_byte s) (q ∷ s)) t ∙ ap (◌∷ s) (eqb_eq q 47 h))

pub value-sound : (k : ℕ) (s : Bytes) → Stops blank s → ValueS s (read_value k s)
unfolding read_value
value-sound k [] h = tt
value-sound k (q ∷ s) h = by-test (quote q) (λ e. rw e (quoted-sound q s e)) (λ e. rw e (unquoted-sound q s e h))

-- ---- attributes

-- an attribute and the blanks after it, where the text goes on
abbrev pub AttributeS : Bytes → Res Attr → Type 0
AttributeS s (ok a r) =
    ¬ (past blank r ≡ []) → (u : Bytes) × (b : Bytes) × (s ≡ u ++ (b ++ past blank r)) × Attribute (b ++ past blank r) u a × Blanks b
AttributeS s (bad n l) = Unit {0}

abbrev pub AttributesS : Bytes → Res (List Attr) → Type 0
AttributesS s (ok l r) = AtTagEnd r × ((w : Bytes) × (s ≡ w ++ r) × Attributes r w l)
AttributesS s (bad n l) = Unit {0}

pub all_blanks : (s : Bytes) → Blanks (run blank s)
all_blanks s = record { all = run_only blank s }

pub past-nil : (p : ℕ → Bool) → past p [] ≡ []
unfolding past
past-nil p = refl

-- a value makes an attribute of the name, the `=` and the blanks before it
pub value-attribute : (n s pre : Bytes) (x : Res Bytes) → ValueS s x
    → ((r w v : Bytes) → Value r w v → s ≡ w ++ r → Attribute r (pre ++ w) (attr n v)) → AttributeS (pre ++ s) (map_res (attr n) x)
value-attribute n s pre (bad k l) h f = tt
value-attribute n s pre (ok v r) h f = λ ne.
    let k = h (λ e. ne (ap (past blank) e ∙ past-nil blank)) in
    let w : Bytes = k.0 in
    let split : r ≡ run blank r ++ past blank r = run_past blank r in (
      pre ++ w,
      run blank r,
      ap (pre ++◌) (k.1 ∙ ap (w ++◌) split) ∙ sym (append_assoc pre w (run blank r ++ past blank r)),
      subst (λ z. Attribute z (pre ++ w) (attr n v)) split (f r w v k.2 k.1),
      all_blanks r,
    )

pub nameless-sound : (s : Bytes) → AttributeS (61 ∷ s) (read_attribute (61 ∷ s))
unfolding read_attribute after_name after_name_as run past attr_name_byte blank
nameless-sound s =
    subst (λ z. AttributeS (61 ∷ z) (read_attribute (61 ∷ s))) (sym (run_past blank s))
    (value-attribute [] (past blank s) (61 ∷ run blank s) (read_value (suc (length s)) (past blank s))
    (value-sound (suc (length s)) (past blank s) (past-stops blank s))
    (λ r w v val e. nameless (all_blanks s) val))

pub not_equals : (b t : Bytes) (c : ℕ) → Only blank b → blank c ≡ false → eqb c 61 ≡ false → (b' r : Bytes) → Blanks b'
    → ¬ (b ++ (c ∷ t) ≡ b' then `=` then r)
not_equals b t c o u n b' r o' e =
    let x : past blank (b ++ (c ∷ t)) ≡ c ∷ t = past_is blank b (c ∷ t) o u in
    let y : past blank (b' ++ (61 ∷ r)) ≡ 61 ∷ r = past_is blank b' (61 ∷ r) o'.all blank-equals in
    not_both (eqb c 61) (rw (head-eq_of_cons-eq (sym x ∙ ap (past blank) e ∙ y)) refl) n

pub regroup : (n b c w : Bytes) → (n then b then `=` then c) ++ w ≡ n then b then `=` then c then w
regroup n b c w = simp append_assoc

-- a name, and what follows it, blanks skipped
pub named-sound : (n m : Bytes) → Name attr_name_byte m n → AttributeS (n ++ m) (after_name n (past blank m))
unfolding after_name after_name_as
named-sound n m nm = go (past blank m) refl (past-stops blank m)
  where
    b : Bytes
    b = run blank m

    go : (t : Bytes) → past blank m ≡ t → Stops blank t → AttributeS (n ++ m) (after_name n t)
    go [] e u = λ ne. absurd (ne (past-nil blank))
    go (c ∷ t) e u =
        let m_is : m ≡ b ++ (c ∷ t) = run_past blank m ∙ ap (b ++◌) e in
        by-test (eqb c 61)
        (λ q.
        let c_is : c ≡ 61 = eqb_eq c 61 q in
        let t_is : t ≡ run blank t ++ past blank t = run_past blank t in
        let all : n ++ m ≡ (n then b then `=` then run blank t) ++ past blank t =
        ap (n ++◌) (m_is ∙ ap (λ z. b ++ (z ∷ t)) c_is ∙ ap (λ z. b ++ (61 ∷ z)) t_is) ∙ sym (simp append_assoc) in
        rw q
        (subst (λ z. AttributeS z (map_res (attr n) (read_value (suc (length t)) (past blank t)))) (sym all)
        (value-attribute n (past blank t) (n then b then `=` then run blank t) (read_value (suc (length t)) (past blank t))
        (value-sound (suc (length t)) (past blank t) (past-stops blank t))
        (λ r w v val e₂.
        let m_all : m ≡ b then `=` then run blank t then w then r =
        m_is ∙ ap (λ z. b ++ (z ∷ t)) c_is ∙ ap (λ z. b ++ (61 ∷ z)) (t_is ∙ ap (run blank t ++◌) e₂) in
        subst (λ z. Attribute r z (attr n v)) (sym (regroup n b (run blank t) w))
        (named (subst (λ z. Name attr_name_byte z n) m_all nm) (all_blanks m) (all_blanks t) val)))))
        (λ q. rw q (λ ne.
        let same : past blank (c ∷ t) ≡ c ∷ t = past-none blank (c ∷ t) u in
        subst (λ z. (x : Bytes) × (y : Bytes) × (n ++ m ≡ x ++ (y ++ z)) × Attribute (y ++ z) x (attr n []) × Blanks y) (sym same)
        (n, b, ap (n ++◌) m_is, alone (subst (λ z. Name attr_name_byte z n) m_is nm) (not_equals b t c (run_only blank m) u q), all_blanks m)))

pub begins_name : (a : ℕ) (s : Bytes) → attr_name_byte a ≡ true → ¬ (run attr_name_byte (a ∷ s) ≡ [])
unfolding run
begins_name a s e z = cons≢nil (sym (ap (λ y. cond y (a ∷ run attr_name_byte s) []) e) ∙ z)

pub attribute-sound : (a : ℕ) (s : Bytes) → blank a ≡ false → tag_end a ≡ false → AttributeS (a ∷ s) (read_attribute (a ∷ s))
unfolding read_attribute attr_name_byte
attribute-sound a s u i =
    by-test (attr_name_byte a)
    (λ e. subst (λ z. AttributeS z (read_attribute (a ∷ s))) (sym (run_past attr_name_byte (a ∷ s)))
    (named-sound (run attr_name_byte (a ∷ s)) (past attr_name_byte (a ∷ s))
    (record { run = record { only = run_only attr_name_byte (a ∷ s); longest = past-stops attr_name_byte (a ∷ s) }; some_byte = begins_name a s e })))
    (λ e. subst (λ z. AttributeS (z ∷ s) (read_attribute (z ∷ s)))
    (sym (eqb_eq a 61 (equals-byte (blank a) (eqb a 62) (eqb a 47) (eqb a 61) e u i)))
    (nameless-sound s))

pub no_nil : (w s : Bytes) (a : ℕ) → ¬ (w ++ (a ∷ s) ≡ [])
no_nil [] s a e = cons≢nil e
no_nil (b ∷ w) s a e = cons≢nil e

pub attributes-more : (s r : Bytes) (a : Attr) → AttributeS s (ok a r) → (y : Res (List Attr)) → AttributesS (past blank r) y
    → AttributesS s (map_res (a ∷◌) y)
attributes-more s r a h (bad n l) k = tt
attributes-more s r a h (ok l r₂) k =
    let end : AtTagEnd r₂ = k.0 in
    let w : Bytes = k.1.0 in
    let e : past blank r ≡ w ++ r₂ = k.1.1 in
    let x = h (λ z. no_nil w end.1 end.0 (sym (e ∙ ap (w ++◌) end.2) ∙ z)) in
    let u : Bytes = x.0 in
    let b : Bytes = x.1 in (
      end,
      (
        u then b then w,
        x.2 ∙ ap (λ z. u ++ (b ++ z)) e ∙ sym (regroup3 u b w r₂),
        attribute (subst (λ z. Attribute (b ++ z) u a) e x.3) x.4 k.1.2,
      ),
    )
  where
    regroup3 : (u b w r : Bytes) → (u then b then w) ++ r ≡ u ++ (b ++ (w ++ r))
    regroup3 u b w r = simp append_assoc

pub attributes-next : (rec : Bytes → Res (List Attr)) → ((r : Bytes) → Stops blank r → AttributesS r (rec r))
    → (s : Bytes) (x : Res Attr) → AttributeS s x → AttributesS s (next x (λ a r. map_res (a ∷◌) (rec (past blank r))))
attributes-next rec ih s (bad n l) h = tt
attributes-next rec ih s (ok a r) h = attributes-more s r a h (rec (past blank r)) (ih (past blank r) (past-stops blank r))

pub attributes-step : (rec : Bytes → Res (List Attr)) → ((r : Bytes) → Stops blank r → AttributesS r (rec r))
    → (s : Bytes) → Stops blank s → AttributesS s (attributes_step rec s)
unfolding attributes_step attributes_as
attributes-step rec ih [] h = tt
attributes-step rec ih (a ∷ s) h =
    by-test (tag_end a)
    (λ e. subst (λ z. AttributesS (a ∷ s) (attributes_as rec z (a ∷ s))) (sym e) ((a, s, refl, e), ([], refl, no_attribute)))
    (λ e. subst (λ z. AttributesS (a ∷ s) (attributes_as rec z (a ∷ s))) (sym e)
    (attributes-next rec ih (a ∷ s) (read_attribute (a ∷ s)) (attribute-sound a s h e)))

pub attributes-sound : (n : ℕ) (s : Bytes) → Stops blank s → AttributesS s (read_attributes n s)
unfolding read_attributes
attributes-sound zero s h = tt
attributes-sound (suc n) s h = attributes-step (λ r. read_attributes n r) (λ r k. attributes-sound n r k) s h

-- ---- elements

abbrev pub ContentS : Before → Bytes → Res Forest → Type 0
ContentS p s (ok f r) = (w : Bytes) × (s ≡ w ++ r) × Content p r w f
ContentS p s (bad n l) = Unit {0}

-- the element whose first byte is the first of s
abbrev pub ElementS : Bytes → Res Tree → Type 0
ElementS s (ok t r) = (w : Bytes) × (s ≡ w ++ r) × Element r w t
ElementS s (bad n l) = Unit {0}

pub with_sound : (s o n t : Bytes) (l : List Attr) → s ≡ o ++ (62 ∷ t) → Opening (62 ∷ t) o n l → (y : Res Forest) → ContentS no_comment t y
    → ElementS s (map_res (element n l) y)
with_sound s o n t l e op (bad k z) h = tt
with_sound s o n t l e op (ok f r) h = (
  o then `>` then h.0,
  e ∙ ap (λ z. o ++ (62 ∷ z)) h.1 ∙ sym (append_assoc o (62 ∷ h.0) r),
  with_content (subst (λ z. Opening (62 ∷ z) o n l) h.1 op) h.2,
)

pub without-sound : (s o n t : Bytes) (l : List Attr) (k : ℕ) → s ≡ o ++ (47 ∷ t) → Opening (47 ∷ t) o n l
    → ElementS s (after_slash k (element n l none) (past blank t))
unfolding after_slash slash_as
without-sound s o n t l k e op = go (past blank t) refl
  where
    b : Bytes
    b = run blank t

    go : (m : Bytes) → past blank t ≡ m → ElementS s (after_slash k (element n l none) m)
    go [] q = tt
    go (c ∷ r) q =
        by-test (eqb c 62)
        (λ h.
        let t_is : t ≡ b ++ (62 ∷ r) = run_past blank t ∙ ap (b ++◌) (q ∙ ap (◌∷ r) (eqb_eq c 62 h)) in
        let assoc : (o then `/` then b then `>`) ++ r ≡ o ++ (47 ∷ (b ++ (62 ∷ r))) = simp append_assoc in
        rw h (
          o then `/` then b then `>`,
          e ∙ ap (λ z. o ++ (47 ∷ z)) t_is ∙ sym assoc,
          without-content (subst (λ z. Opening (47 ∷ z) o n l) t_is op) (all_blanks t),
        ))
        (λ h. rw h tt)

pub opened-sound : (rec : Bytes → Res Forest) → ((s : Bytes) → ContentS no_comment s (rec s))
    → (s o n r : Bytes) (l : List Attr) → s ≡ o ++ r → AtTagEnd r → Opening r o n l → ElementS s (after_opening rec n l r)
unfolding after_opening opened_as
opened-sound rec ih s o n [] l e end op = absurd (nil≢cons end.2)
opened-sound rec ih s o n (a ∷ t) l e end op =
    by-test (eqb a 62)
    (λ h. rw h (
    let a_is : a ≡ 62 = eqb_eq a 62 h in
    with_sound s o n t l (e ∙ ap (λ z. o ++ (z ∷ t)) a_is) (subst (λ z. Opening (z ∷ t) o n l) a_is op) (rec t) (ih t)))
    (λ h. rw h (
    let a_is : a ≡ 47 = eqb_eq a 47 (second (eqb a 62) (eqb a 47) (ap tag_end (head-eq_of_cons-eq end.2) ∙ end.3) h) in
    without-sound s o n t l (suc (length t)) (e ∙ ap (λ z. o ++ (z ∷ t)) a_is) (subst (λ z. Opening (z ∷ t) o n l) a_is op)))
  where
    second : (x y : Bool) → (x || y) ≡ true → x ≡ false → y ≡ true
    second true y p q = absurd (true≢false q)
    second false y p q = p

pub tag-sound : (rec : Bytes → Res Forest) → ((s : Bytes) → ContentS no_comment s (rec s))
    → (k : ℕ) (s n m : Bytes) → s ≡ n ++ m → Run name_byte m n → ElementS (60 ∷ s) (after_tag_name rec k n (past blank m))
unfolding after_tag_name
tag-sound rec ih k s [] m e h = tt
tag-sound rec ih k s (c ∷ n) m e h =
    go (read_attributes (suc (length (past blank m))) (past blank m))
    (attributes-sound (suc (length (past blank m))) (past blank m) (past-stops blank m))
  where
    name : Bytes
    name = c ∷ n

    b : Bytes
    b = run blank m

    go : (y : Res (List Attr)) → AttributesS (past blank m) y → ElementS (60 ∷ s) (next y (after_opening rec (c ∷ n)))
    go (bad x y) q = tt
    go (ok l r) q =
        let w : Bytes = q.1.0 in
        let m_is : m ≡ b ++ (w ++ r) = run_past blank m ∙ ap (b ++◌) q.1.1 in
        let assoc : (`<` then name then b then w) ++ r ≡ 60 ∷ (name ++ (b ++ (w ++ r))) = simp append_assoc in
        opened-sound rec ih (60 ∷ s) (`<` then name then b then w) name r l
        (ap (60 ∷◌) (e ∙ ap (name ++◌) m_is) ∙ sym assoc) q.0
        (opening (record { run = subst (λ z. Run name_byte z name) m_is h; some_byte = cons≢nil }) (all_blanks m) q.1.2)

pub element-sound : (rec : Bytes → Res Forest) → ((s : Bytes) → ContentS no_comment s (rec s)) → (s : Bytes) → ElementS (60 ∷ s) (read_element rec s)
unfolding read_element
element-sound rec ih s =
    tag-sound rec ih (suc (length s)) s (run name_byte s) (past name_byte s) (run_past name_byte s)
    (record { only = run_only name_byte s; longest = past-stops name_byte s })

-- ---- what begins here

pub data View (s : Bytes) : Kind → Type 0 where
  closes : Begins `</` s → View s as_close
  comments : Begins `<!--` s → View s as_comment
  sections : Begins `<![CDATA[` s → View s (as_node as_section)
  elements : Begins `<` s → ¬ Begins `<!--` s → ¬ Begins `<![CDATA[` s → View s (as_node as_element)
  texts : ¬ Begins `<` s → View s (as_node as_text)

pub view : (s : Bytes) → View s (kind s)
view s =
    by-test (prefix `</` s) (λ e. rw e (closes (prefix-begins `</` s e))) (λ e₁.
    by-test (prefix `<!--` s) (λ e. rw (e₁, e) (comments (prefix-begins `<!--` s e))) (λ e₂.
    by-test (prefix `<![CDATA[` s) (λ e. rw (e₁, e₂, e) (sections (prefix-begins `<![CDATA[` s e))) (λ e₃.
    by-test (prefix `<` s)
    (λ e. rw (e₁, e₂, e₃, e) (elements (prefix-begins `<` s e) (prefix-not `<!--` s e₂) (prefix-not `<![CDATA[` s e₃)))
    (λ e. rw (e₁, e₂, e₃, e) (texts (prefix-not `<` s e))))))

-- ---- nodes

abbrev pub NodeS : Bytes → Res Tree → Type 0
NodeS s (ok t r) = (u : Bytes) × (s ≡ u ++ r) × Node r u t
NodeS s (bad n l) = Unit {0}

pub text-sound : (rec : Bytes → Res Forest) (a : ℕ) (s : Bytes) → ¬ Begins `<` (a ∷ s) → NodeS (a ∷ s) (node_as rec as_text (a ∷ s))
unfolding node_as text_byte run
text-sound rec a s h = (
  run text_byte (a ∷ s),
  run_past text_byte (a ∷ s),
  a_text (record {
    run = record { only = run_only text_byte (a ∷ s); longest = past-stops text_byte (a ∷ s) };
    some_byte = λ z. cons≢nil (sym (ap (λ y. cond y (a ∷ run text_byte s) []) first) ∙ z);
  }),
)
  where
    first : text_byte a ≡ true
    first = by-test (eqb a 60) (λ e. absurd (h (s, ap (◌∷ s) (eqb_eq a 60 e)))) (λ e. rw e)

pub section-sound : (rec : Bytes → Res Forest) (x : Bytes) → NodeS (`<![CDATA[` ++ x) (node_as rec as_section (`<![CDATA[` ++ x))
unfolding node_as beyond
section-sound rec x = go (found 93 (93 ∷ 62 ∷ []) x)
  where
    d : Bytes
    d = before `]]>` x

    go : Found `]]>` x → NodeS (`<![CDATA[` ++ x) (ok (section d) (drop 3 (from `]]>` x)))
    go (nowhere f l) =
        let d_is : d ≡ x = before-lacks `]]>` x l in
        rw f (subst (λ z. NodeS (`<![CDATA[` ++ x) (ok (section z) [])) (sym d_is) (
          `<![CDATA[` ++ x,
          sym (append-nil (`<![CDATA[` ++ x)),
          last_section l,
        ))
    go (at_first r f l) =
        rw f (
          `<![CDATA[` then d then `]]>`,
          ap (`<![CDATA[` ++◌) (before-from `]]>` x ∙ ap (d ++◌) f ∙ sym (append_assoc d `]]>` r)),
          a_section (record { front = d; ends = refl; first = l }),
        )

pub element-node : (s : Bytes) → ¬ Begins `<!--` s → ¬ Begins `<![CDATA[` s → (y : Res Tree) → ElementS s y → NodeS s y
element-node s h k (bad n l) q = tt
element-node s h k (ok t r) q = (
  q.0,
  q.1,
  an_element (λ b. h (subst (Begins `<!--`) (sym q.1) (begins_more `<!--` q.0 r b)))
      (λ b. k (subst (Begins `<![CDATA[`) (sym q.1) (begins_more `<![CDATA[` q.0 r b))) q.2,
)

pub node-sound : (rec : Bytes → Res Forest) → ((s : Bytes) → ContentS no_comment s (rec s))
    → (a : ℕ) (s : Bytes) (k : NodeKind) → View (a ∷ s) (as_node k) → NodeS (a ∷ s) (node_as rec k (a ∷ s))
unfolding node_as
node-sound rec ih a s as_section (sections h) = subst (λ z. NodeS z (node_as rec as_section z)) (sym h.1) (section-sound rec h.0)
node-sound rec ih a s as_element (elements h k l) =
    element-node (a ∷ s) k l (read_element rec s)
    (subst (λ z. ElementS (z ∷ s) (read_element rec s)) (sym (head-eq_of_cons-eq h.1)) (element-sound rec ih s))
node-sound rec ih a s as_text (texts h) = text-sound rec a s h

-- ---- content

pub close_sound : (k : ℕ) (x : Bytes) → ContentS no_comment (`</` ++ x) (after_close k (past (other 62) (`</` ++ x)))
unfolding after_close past
close_sound k x = go (past (other 62) x) refl (past-stops (other 62) x)
  where
    go : (m : Bytes) → past (other 62) x ≡ m → Stops (other 62) m → ContentS no_comment (`</` ++ x) (after_close k m)
    go [] e h = tt
    go (c ∷ r) e h =
        let d : Bytes = run (other 62) x in
        let x_is : x ≡ d ++ (62 ∷ r) = run_past (other 62) x ∙ ap (d ++◌) (e ∙ ap (◌∷ r) (eqb_eq c 62 (not_false (eqb c 62) h))) in
        (`</` then d then `>`, ap (`</` ++◌) (x_is ∙ sym (append_assoc d `>` r)), Content.close_tag d (run_only (other 62) x))

pub comment-sound : (s : Bytes) → Begins `<!--` s → (w : Bytes) × (s ≡ w ++ beyond `-->` s) × Comment (beyond `-->` s) w
comment-sound s h =
    let k = up_to 45 (45 ∷ 62 ∷ []) s in (
      k.0,
      k.1,
      record {
        opens = begins_piece `<!--` (45 ∷ 45 ∷ []) (beyond `-->` s) k.0 open_comment k.2 (subst (Begins `<!--`) k.1 h);
        ends = k.2;
      },
    )

pub content_comment : (p : Before) (s u r : Bytes) → s ≡ u ++ r → Comment r u → (y : Res Forest) → ContentS a_comment r y → ContentS p s y
content_comment p s u r e c (bad n l) h = tt
content_comment p s u r e c (ok f r₂) h = (
  u then h.0,
  e ∙ ap (u ++◌) h.1 ∙ sym (append_assoc u h.0 r₂),
  Content.comment (subst (λ z. Comment z u) h.1 c) h.2,
)

pub content_node : (p : Before) (s r : Bytes) (t : Tree) → NodeS s (ok t r) → (y : Res Forest) → ContentS no_comment r y
    → ContentS p s (map_res (more t) y)
content_node p s r t x (bad n l) h = tt
content_node p s r t x (ok f r₂) h = (
  x.0 then h.0,
  x.1 ∙ ap (x.0 ++◌) h.1 ∙ sym (append_assoc x.0 h.0 r₂),
  Content.node (subst (λ z. Node z x.0 t) h.1 x.2) h.2,
)

pub content_next : (rec : Bytes → Res Forest) → ((s : Bytes) → ContentS no_comment s (rec s)) → (p : Before) (s : Bytes) (x : Res Tree) → NodeS s x
    → ContentS p s (next x (λ t r. map_res (more t) (rec r)))
content_next rec ih p s (bad n l) h = tt
content_next rec ih p s (ok t r) h = content_node p s r t h (rec r) (ih r)

abbrev pub Sound : (Before → Bytes → Res Forest) → Type 0
Sound rec = (p : Before) (s : Bytes) → ContentS p s (rec p s)

pub content_close : (rec : Before → Bytes → Res Forest) (p : Before) (s : Bytes) → Begins `</` s → ContentS p s (content_as_lem rec p as_close s)
unfolding content_as_lem
content_close rec no_comment s h = subst (λ z. ContentS no_comment z (after_close (length z) (past (other 62) z))) (sym h.1) (close_sound _ h.0)
content_close rec a_comment s h = ([], refl, Content.before-close h)

pub content_as : (rec : Before → Bytes → Res Forest) → Sound rec → (p : Before) (a : ℕ) (s : Bytes) (k : Kind) → View (a ∷ s) k
    → ContentS p (a ∷ s) (content_as_lem rec p k (a ∷ s))
unfolding content_as_lem
content_as rec ih p a s as_close (closes h) = content_close rec p (a ∷ s) h
content_as rec ih p a s as_comment (comments h) =
    let c = comment-sound (a ∷ s) h in
    content_comment p (a ∷ s) c.0 (beyond `-->` (a ∷ s)) c.1 c.2 (rec a_comment (beyond `-->` (a ∷ s))) (ih a_comment (beyond `-->` (a ∷ s)))
content_as rec ih p a s (as_node k) v =
    content_next (rec no_comment) (ih no_comment) p (a ∷ s) (node_as (rec no_comment) k (a ∷ s)) (node-sound (rec no_comment) (ih no_comment) a s k v)

pub content_step : (rec : Before → Bytes → Res Forest) → Sound rec → Sound (content_step_lem rec)
unfolding content_step_lem
content_step rec ih p [] = ([], refl, Content.end_of_text)
content_step rec ih p (a ∷ s) = content_as rec ih p a s (kind (a ∷ s)) (view (a ∷ s))

pub content_sound : (n : ℕ) → Sound (read_content n)
unfolding read_content
content_sound zero p s = tt
content_sound (suc n) p s = content_step (λ q r. read_content n q r) (λ q r. content_sound n q r) p s

-- ---- documents

abbrev pub NodesS : Bytes → Res Forest → Type 0
NodesS s (ok f r) = Nodes s f
NodesS s (bad n l) = Unit {0}

pub nodes-comment : (s u r : Bytes) → s ≡ u ++ r → Comment r u → (y : Res Forest) → NodesS r y → NodesS s y
nodes-comment s u r e c (bad n l) h = tt
nodes-comment s u r e c (ok f r₂) h = subst (λ z. Nodes z f) (sym e) (Nodes.comment c h)

pub nodes-node : (s r : Bytes) (t : Tree) → NodeS s (ok t r) → (y : Res Forest) → NodesS r y → NodesS s (map_res (more t) y)
nodes-node s r t x (bad n l) h = tt
nodes-node s r t x (ok f r₂) h = subst (λ z. Nodes z (more t f)) (sym x.1) (Nodes.node x.2 h)

pub nodes-next : (rec : Bytes → Res Forest) → ((s : Bytes) → NodesS s (rec s)) → (s : Bytes) (x : Res Tree) → NodeS s x
    → NodesS s (next x (λ t r. map_res (more t) (rec r)))
nodes-next rec ih s (bad n l) h = tt
nodes-next rec ih s (ok t r) h = nodes-node s r t h (rec r) (ih r)

pub nodes-as : (content rec : Bytes → Res Forest) → ((s : Bytes) → ContentS no_comment s (content s)) → ((s : Bytes) → NodesS s (rec s))
    → (a : ℕ) (s : Bytes) (k : Kind) → View (a ∷ s) k → NodesS (a ∷ s) (nodes_as content rec k (a ∷ s))
unfolding nodes_as
nodes-as content rec hc ih a s as_close (closes h) = Nodes.before-close h
nodes-as content rec hc ih a s as_comment (comments h) =
    let c = comment-sound (a ∷ s) h in
    nodes-comment (a ∷ s) c.0 (beyond `-->` (a ∷ s)) c.1 c.2 (rec (beyond `-->` (a ∷ s))) (ih (beyond `-->` (a ∷ s)))
nodes-as content rec hc ih a s (as_node k) v = nodes-next rec ih (a ∷ s) (node_as content k (a ∷ s)) (node-sound content hc a s k v)

pub nodes-sound : (n : ℕ) (s : Bytes) → NodesS s (read_nodes_lem n s)
unfolding read_nodes_lem nodes_step
nodes-sound zero s = tt
nodes-sound (suc n) [] = Nodes.end_of_text
nodes-sound (suc n) (a ∷ s) =
    nodes-as (λ r. read_content n no_comment r) (λ r. read_nodes_lem n r) (content_sound n no_comment) (λ r. nodes-sound n r) a s (kind (a ∷ s))
    (view (a ∷ s))

-- ---- the prolog

-- what stands at the front of s: a piece, and how to go past it; or none
pub data PieceView (s : Bytes) : PieceKind → Type 0 where
  blank-here : (a : ℕ) (r : Bytes) → s ≡ a ∷ r → blank a ≡ true → PieceView s blank-byte
  piece-here : (b : ℕ) (m u : Bytes) → s ≡ u ++ beyond (b ∷ m) s → Piece (beyond (b ∷ m) s) u → PieceView s (to_mark b m)
  none_here : piece_kind s ≡ no_more → PieceView s no_more

pub piece-view : (s : Bytes) → PieceView s (piece_kind s)
piece-view [] = none_here refl
piece-view (a ∷ s) =
    let t : Bytes = a ∷ s in
    by-test (blank a) (λ e. rw e (blank-here a s refl e)) (λ e.
    by-test (prefix `<?` t)
    (λ q. let w = up_to 63 (62 ∷ []) t in
    rw (e, q) (piece-here 63 (62 ∷ []) w.0 w.1 (instruction
    (begins_piece `<?` (63 ∷ []) _ w.0 open_instruction w.2 (subst (Begins `<?`) w.1 (prefix-begins `<?` t q))) w.2))) (λ q₁.
    by-test (prefix `<!--` t)
    (λ q. let w = up_to 45 (45 ∷ 62 ∷ []) t in
    rw (e, q₁, q) (piece-here 45 (45 ∷ 62 ∷ []) w.0 w.1
    (Piece.comment (begins_piece `<!--` (45 ∷ 45 ∷ []) _ w.0 open_comment w.2 (subst (Begins `<!--`) w.1 (prefix-begins `<!--` t q)))
    w.2))) (λ q₂.
    by-test (prefix `<!` t)
    (λ q. let w = up_to 62 [] t in
    rw (e, q₁, q₂, q) (piece-here 62 [] w.0 w.1 (declaration
    (begins_piece `<!` [] _ w.0 open_declaration w.2 (subst (Begins `<!`) w.1 (prefix-begins `<!` t q)))
    (λ z. prefix-not `<!--` t q₂ (subst (Begins `<!--`) (sym w.1) (begins_more `<!--` w.0 _ z))) w.2)))
    (λ q₃. rw (e, q₁, q₂, q₃) (none_here (rw (e, q₁, q₂, q₃)))))))

pub some_mark : (b : ℕ) (m : Bytes) (k : PieceKind) → k ≡ to_mark b m → k ≡ no_more → ⊥
some_mark b m k p q = let z : ◌≡◌ {A = ℕ} 0 1 = cc in omega arith

pub some_blank : (k : PieceKind) → k ≡ blank-byte → k ≡ no_more → ⊥
some_blank k p q = let z : ◌≡◌ {A = ℕ} 0 1 = cc in omega arith

pub piece-seen : {r u : Bytes} → Piece r u → piece_kind (u ++ r) ≡ no_more → ⊥
piece-seen {r} (one_blank {a} h) e = some_blank (piece_kind (a ∷ r)) (rw h) e
piece-seen {r} {u} (instruction h x) e = some_mark _ _ _ (kind_instruction (u ++ r) (begins_more `<?` u r h)) e
piece-seen {r} {u} (Piece.comment h x) e = some_mark _ _ _ (kind_comment_piece (u ++ r) (begins_more `<!--` u r h)) e
piece-seen {r} {u} (declaration h k x) e =
    some_mark _ _ _ (kind_declaration (u ++ r) (begins_more `<!` u r h) (λ b. k (begins_piece `<!--` [] r u open_comment x b))) e

pub no_piece-here : (s : Bytes) → piece_kind s ≡ no_more → NoPiece s
no_piece-here s e u r q p = piece-seen p (ap piece_kind (sym q) ∙ e)

abbrev pub PrologS : Bytes → Bytes → Type 0
PrologS s r = (p : Bytes) × (s ≡ p ++ r) × Prolog r p × NoPiece r

pub prolog-piece : (s u m r : Bytes) → s ≡ u ++ m → Piece m u → PrologS m r → PrologS s r
prolog-piece s u m r e x h = (
  u then h.0,
  e ∙ ap (u ++◌) h.1 ∙ sym (append_assoc u h.0 r),
  piece (subst (λ z. Piece z u) h.1 x) h.2,
  h.3,
)

pub prolog-as : (rec : Bytes → Bytes) (n : ℕ) → ((s : Bytes) → length s < n → PrologS s (rec s)) → (s : Bytes) → length s < suc n
    → {k : PieceKind} → PieceView s k → PrologS s (prolog_as rec k s)
unfolding prolog_as
prolog-as rec n ih s g (blank-here a r e h) =
    let short : length r < n = omega (arith, ap length e) in
    subst (λ z. PrologS z (rec (drop 1 z))) (sym e) (prolog-piece (a ∷ r) (a ∷ []) r (rec r) refl (one_blank h) (ih r short))
prolog-as rec n ih s g (piece-here b m u e x) =
    let some_byte : 0 < length u = piece-length x in
    let short : length (beyond (b ∷ m) s) < n = omega (arith, ap length e, length-append u (beyond (b ∷ m) s)) in
    prolog-piece s u (beyond (b ∷ m) s) (rec (beyond (b ∷ m) s)) e x (ih (beyond (b ∷ m) s) short)
prolog-as rec n ih s g (none_here e) = ([], refl, no_piece, no_piece-here s e)

pub prolog-sound : (n : ℕ) (s : Bytes) → length s < n → PrologS s (past_prolog n s)
unfolding past_prolog
prolog-sound zero s g = absurd (omega (arith, g))
prolog-sound (suc n) s g = prolog-as (λ r. past_prolog n r) n (λ r k. prolog-sound n r k) s g (piece-view s)

-- ---- documents

pub document-sound : (size : ℕ) (s r : Bytes) (f : Forest) → PrologS s r → (y : Res Forest) → NodesS r y → finish size y ≡ tree f → Document s f
document-sound size s r f h (bad n l) k e = let z : ◌≡◌ {A = ℕ} 0 1 = cc in absurd (omega arith)
document-sound size s r f h (ok f₂ r₂) k e =
    let f_is : f₂ ≡ f = cc in
    subst (λ z. Document z f) (sym h.1) (document h.2 h.3 (subst (Nodes r) f_is k))

-- The tree that the reader gives, the grammar derives.
pub sound : (s : Bytes) (f : Forest) → read_document s ≡ tree f → Document s f
unfolding read_document
sound s f e =
    let r : Bytes = past_prolog (suc (length s)) s in
    document-sound (length s) s r f (prolog-sound (suc (length s)) s (omega arith)) (read_nodes_lem (suc (length r)) r) (nodes-sound (suc (length r)) r) e

-- A text is taken exactly if the grammar derives a tree for it, and then that tree is given.
pub taken-exactly : (s : Bytes) (f : Forest) → (read_document s ≡ tree f) ↔ Document s f
taken-exactly s f = (sound s f, complete)
