-- The counts that bound the reader's rounds never run out: number 0 is never given. Assumes nothing.
--     value-ends, attribute-ends, attributes-ends, element-ends, node-ends, content_ends, nodes-ends   what is left is no longer than what was
--     never_zero
use mathlib.Core.Path.{◌≡◌, sym, ap, subst}
use Prim.Native.Nat.{ℕ, zero, suc, ◌≤◌, ◌<◌}
use native.Mathlib.Omega.{arith}
use mathlib.Core.Bool.{Bool, true, false}
use mathlib.Core.List.{List, [], ◌∷◌}
use lib.ListN.{length, drop, length-append, length-drop}
use lib.Dec.{eqb}
use Rattle.scan.specs.Bytes.{blank, text_byte, name_byte, attr_name_byte, other}
use Rattle.grammar.specs.Words.{Bytes, Stops, Begins}
use Rattle.grammar.specs.Tree.{Attr, attr, Tree, element, Forest, none, more, quote}
use Rattle.grammar.specs.Tree.{`<`, `<!--`, `-->`, `]]>`}
use Rattle.grammar.specs.Grammar.{Before, a_comment, no_comment}
use Rattle.grammar.specs.Demand.{refused}
use Rattle.grammar.specs.Scan.{run, past, from, before, beyond}
use Rattle.grammar.proofs.Reader.{Res, next, map_res, value_as, read_value, after_name_as, after_name, read_attribute, tag_end, attributes_as}
use Rattle.grammar.proofs.Reader.{attributes_step, read_attributes, slash_as, after_slash, opened_as, after_opening, after_tag_name, read_element}
use Rattle.grammar.proofs.Reader.{NodeKind, Kind, kind, node_as, after_close, content_as_lem, content_step_lem, read_content, nodes_as, nodes_step}
use Rattle.grammar.proofs.Reader.{read_nodes_lem, past_prolog, finish, read_document, ok, bad, as_text, as_section, as_element, as_close}
use Rattle.grammar.proofs.Reader.{as_comment, as_node}
use Rattle.scan.proofs.Every.{by-test}
use Rattle.grammar.proofs.Tests.{eqb_eq, equals-byte}
use Rattle.grammar.proofs.Scans.{run_past, past-stops, before-from}
use Rattle.grammar.proofs.Complete.{comment-length}
use Rattle.grammar.proofs.Sound.{View, view, comment-sound, comments, sections, elements, texts}

-- what is left is no longer than N, and a number is not 0
abbrev pub Ends : {A : Type 0} → ℕ → Res A → Type 0
Ends N (ok a r) = length r ≤ N
Ends N (bad m l) = 0 < m

pub weaken : {A : Type 0} (M N : ℕ) (x : Res A) → M ≤ N → Ends M x → Ends N x
weaken M N (ok a r) h e = omega arith
weaken M N (bad m l) h e = e

pub ends-map : {A B : Type 0} (f : A → B) (N : ℕ) (x : Res A) → Ends N x → Ends N (map_res f x)
ends-map f N (ok a r) e = e
ends-map f N (bad m l) e = e

pub past-length : (p : ℕ → Bool) (s : Bytes) → length (past p s) ≤ length s
past-length p s = omega (arith, ap length (run_past p s), length-append (run p s) (past p s))

pub past_head : (p : ℕ → Bool) (a : ℕ) (s : Bytes) → p a ≡ true → length (past p (a ∷ s)) ≤ length s
unfolding past
past_head p a s e = rw e (past-length p s)

pub from-length : (m s : Bytes) → length (from m s) ≤ length s
from-length m s = omega (arith, ap length (before-from m s), length-append (before m s) (from m s))

pub drop_length : (i : ℕ) (s : Bytes) → length (drop i s) ≤ length s
drop_length i s = simp length-drop (omega arith)

pub beyond-length : (m s : Bytes) → length (beyond m s) ≤ length s
unfolding beyond
beyond-length m s = omega (arith, drop_length (length m) (from m s), from-length m s)

pub text-first : (a : ℕ) (s : Bytes) → ¬ Begins `<` (a ∷ s) → text_byte a ≡ true
unfolding text_byte
text-first a s h = by-test (eqb a 60) (λ e. absurd (h (s, ap (◌∷ s) (eqb_eq a 60 e)))) (λ e. rw e)

-- ---- start tags

pub value-ends : (k : ℕ) (s : Bytes) → Ends (length s) (read_value k s)
unfolding read_value value_as
value-ends k [] = omega arith
value-ends k (q ∷ s) = by-test (quote q)
    (λ e. rw e (omega (arith, drop_length 1 (past (other q) s), past-length (other q) s)))
    (λ e. rw e (past-length name_byte (q ∷ s)))

pub name_ends : (n t : Bytes) → Ends (length t) (after_name n t)
unfolding after_name after_name_as
name_ends n [] = omega arith
name_ends n (a ∷ s) = by-test (eqb a 61)
    (λ e. rw e (ends-map (attr n) (suc (length s)) (read_value (suc (length s)) (past blank s))
    (weaken (length (past blank s)) (suc (length s)) (read_value (suc (length s)) (past blank s)) (omega (arith, past-length blank s))
    (value-ends (suc (length s)) (past blank s)))))
    (λ e. rw e (omega arith))

pub equals-ends : (s : Bytes) → Ends (length s) (read_attribute (61 ∷ s))
unfolding read_attribute after_name after_name_as run past attr_name_byte blank
equals-ends s = ends-map (attr []) (length s) (read_value (suc (length s)) (past blank s))
    (weaken (length (past blank s)) (length s) (read_value (suc (length s)) (past blank s)) (past-length blank s)
    (value-ends (suc (length s)) (past blank s)))

pub attribute-ends : (a : ℕ) (s : Bytes) → blank a ≡ false → tag_end a ≡ false → Ends (length s) (read_attribute (a ∷ s))
unfolding read_attribute attr_name_byte
attribute-ends a s u i = by-test (attr_name_byte a)
    (λ e. let t : Bytes = past blank (past attr_name_byte (a ∷ s)) in
    weaken (length t) (length s) (after_name (run attr_name_byte (a ∷ s)) t)
    (omega (arith, past-length blank (past attr_name_byte (a ∷ s)), past_head attr_name_byte a s e)) (name_ends (run attr_name_byte (a ∷ s)) t))
    (λ e. subst (λ z. Ends (length s) (read_attribute (z ∷ s))) (sym (eqb_eq a 61 (equals-byte (blank a) (eqb a 62) (eqb a 47) (eqb a 61) e u i)))
    (equals-ends s))

pub attributes-next : (n N : ℕ) (x : Res Attr) → Ends N x → N < n
    → ((r : Bytes) → Stops blank r → length r < n → Ends (length r) (read_attributes n r))
    → Ends (suc N) (next x (λ a r. map_res (a ∷◌) (read_attributes n (past blank r))))
attributes-next n N (bad m l) h g ih = h
attributes-next n N (ok a r) h g ih =
    let short : length (past blank r) ≤ N = omega (arith, past-length blank r) in
    ends-map (a ∷◌) (suc N) (read_attributes n (past blank r))
    (weaken (length (past blank r)) (suc N) (read_attributes n (past blank r)) (omega arith) (ih (past blank r) (past-stops blank r) (omega arith)))

pub attributes-ends : (n : ℕ) (s : Bytes) → Stops blank s → length s < n → Ends (length s) (read_attributes n s)
unfolding read_attributes attributes_step attributes_as
attributes-ends zero s h g = absurd (omega (arith, g))
attributes-ends (suc n) [] h g = omega arith
attributes-ends (suc n) (a ∷ s) h g =
    let ih : (r : Bytes) → Stops blank r → length r < n → Ends (length r) (read_attributes n r) = attributes-ends n in
    by-test (tag_end a) (λ e. rw e (omega arith)) (λ e. rw e (attributes-next n (length s) (read_attribute (a ∷ s)) (attribute-ends a s h e)
    (omega arith) ih))

module _ (rec : Bytes → Res Forest) (N : ℕ) (ih : (s : Bytes) → length s < N → Ends (length s) (rec s)) where
  pub slash-ends : (k : ℕ) (t : Tree) (s : Bytes) → 0 < k → Ends (length s) (after_slash k t s)
  unfolding after_slash slash_as
  slash-ends k t [] h = omega arith
  slash-ends k t (a ∷ s) h = by-test (eqb a 62) (λ e. rw e (omega arith)) (λ e. rw e (omega arith))

  pub opened-ends : (n : Bytes) (l : List Attr) (s : Bytes) → length s ≤ N → Ends (length s) (after_opening rec n l s)
  unfolding after_opening opened_as
  opened-ends n l [] g = omega arith
  opened-ends n l (a ∷ s) g = by-test (eqb a 62)
      (λ e. rw e (ends-map (element n l) (suc (length s)) (rec s) (weaken (length s) (suc (length s)) (rec s) (omega arith) (ih s (omega arith)))))
      (λ e. rw e (weaken (length (past blank s)) (suc (length s)) (after_slash (suc (length s)) (element n l none) (past blank s))
      (omega (arith, past-length blank s)) (slash-ends (suc (length s)) (element n l none) (past blank s) (omega arith))))

  pub tag-next : (n r : Bytes) (x : Res (List Attr)) → length r ≤ N → Ends (length r) x → Ends (length r) (next x (after_opening rec n))
  tag-next n r (bad m l) g e = e
  tag-next n r (ok l t) g e = weaken (length t) (length r) (after_opening rec n l t) e (opened-ends n l t (omega arith))

  pub tag-ends : (k : ℕ) (n r : Bytes) → Stops blank r → length r ≤ N → Ends (length r) (after_tag_name rec k n r)
  unfolding after_tag_name
  tag-ends k [] r h g = omega arith
  tag-ends k (a ∷ n) r h g = tag-next (a ∷ n) r (read_attributes (suc (length r)) r) g (attributes-ends (suc (length r)) r h (omega arith))

  pub element-ends : (s : Bytes) → length s ≤ N → Ends (length s) (read_element rec s)
  unfolding read_element
  element-ends s g =
      let r : Bytes = past blank (past name_byte s) in
      let short : length r ≤ length s = omega (arith, past-length blank (past name_byte s), past-length name_byte s) in
      weaken (length r) (length s) (after_tag_name rec (suc (length s)) (run name_byte s) r) short
      (tag-ends (suc (length s)) (run name_byte s) r (past-stops blank (past name_byte s)) (omega arith))

  pub node-ends : (a : ℕ) (s : Bytes) (i : NodeKind) → View (a ∷ s) (as_node i) → length s ≤ N → Ends (length s) (node_as rec i (a ∷ s))
  unfolding node_as
  node-ends a s as_section (sections h) g = omega (arith, beyond-length `]]>` (drop 9 (a ∷ s)), drop_length 8 s)
  node-ends a s as_element (elements h k l) g = element-ends s g
  node-ends a s as_text (texts h) g = past_head text_byte a s (text-first a s h)

-- ---- content

pub comment-ends : (a : ℕ) (s : Bytes) → Begins `<!--` (a ∷ s) → length (beyond `-->` (a ∷ s)) ≤ length s
comment-ends a s h =
    let c = comment-sound (a ∷ s) h in
    omega (arith, ap length c.1, length-append c.0 (beyond `-->` (a ∷ s)), comment-length c.2)

pub node-next : (rec : Bytes → Res Forest) (N : ℕ) → ((s : Bytes) → length s < N → Ends (length s) (rec s)) → (M : ℕ) (x : Res Tree) → Ends M x
    → M < N
    → Ends (suc M) (next x (λ t r. map_res (more t) (rec r)))
node-next rec N ih M (bad m l) h g = h
node-next rec N ih M (ok t r) h g = ends-map (more t) (suc M) (rec r) (weaken (length r) (suc M) (rec r) (omega arith) (ih r (omega arith)))

pub close_ends : (k : ℕ) (s : Bytes) → Ends (length s) (after_close k s)
unfolding after_close
close_ends k [] = omega arith
close_ends k (a ∷ s) = omega arith

pub content_as_ends : (rec : Before → Bytes → Res Forest) (N : ℕ) → ((p : Before) (s : Bytes) → length s < N → Ends (length s) (rec p s))
    → (p : Before) (a : ℕ) (s : Bytes) (k : Kind) → View (a ∷ s) k → length s < N → Ends (suc (length s)) (content_as_lem rec p k (a ∷ s))
unfolding content_as_lem
content_as_ends rec N ih no_comment a s as_close v g =
    weaken (length (past (other 62) (a ∷ s))) (suc (length s)) (after_close (suc (length s)) (past (other 62) (a ∷ s)))
    (past-length (other 62) (a ∷ s)) (close_ends (suc (length s)) (past (other 62) (a ∷ s)))
content_as_ends rec N ih a_comment a s as_close v g = omega arith
content_as_ends rec N ih p a s as_comment (comments h) g =
    let short : length (beyond `-->` (a ∷ s)) ≤ length s = comment-ends a s h in
    weaken (length (beyond `-->` (a ∷ s))) (suc (length s)) (rec a_comment (beyond `-->` (a ∷ s))) (omega arith)
    (ih a_comment (beyond `-->` (a ∷ s)) (omega arith))
content_as_ends rec N ih p a s (as_node i) v g =
    node-next (rec no_comment) N (ih no_comment) (length s) (node_as (rec no_comment) i (a ∷ s))
    (node-ends (rec no_comment) N (ih no_comment) a s i v (omega arith)) g

pub content_ends : (n : ℕ) (p : Before) (s : Bytes) → length s < n → Ends (length s) (read_content n p s)
unfolding read_content content_step_lem
content_ends zero p s g = absurd (omega (arith, g))
content_ends (suc n) p [] g = omega arith
content_ends (suc n) p (a ∷ s) g =
    content_as_ends (λ q r. read_content n q r) n (λ q r h. content_ends n q r h) p a s (kind (a ∷ s)) (view (a ∷ s)) (omega arith)

pub nodes-as_ends : (content rec : Bytes → Res Forest) (N : ℕ) → ((s : Bytes) → length s < N → Ends (length s) (content s))
    → ((s : Bytes) → length s < N → Ends (length s) (rec s))
    → (a : ℕ) (s : Bytes) (k : Kind) → View (a ∷ s) k → length s < N → Ends (suc (length s)) (nodes_as content rec k (a ∷ s))
unfolding nodes_as
nodes-as_ends content rec N hc ih a s as_close v g = omega arith
nodes-as_ends content rec N hc ih a s as_comment (comments h) g =
    let short : length (beyond `-->` (a ∷ s)) ≤ length s = comment-ends a s h in
    weaken (length (beyond `-->` (a ∷ s))) (suc (length s)) (rec (beyond `-->` (a ∷ s))) (omega arith) (ih (beyond `-->` (a ∷ s)) (omega arith))
nodes-as_ends content rec N hc ih a s (as_node i) v g =
    node-next rec N ih (length s) (node_as content i (a ∷ s)) (node-ends content N hc a s i v (omega arith)) g

pub nodes-ends : (n : ℕ) (s : Bytes) → length s < n → Ends (length s) (read_nodes_lem n s)
unfolding read_nodes_lem nodes_step
nodes-ends zero s g = absurd (omega (arith, g))
nodes-ends (suc n) [] g = omega arith
nodes-ends (suc n) (a ∷ s) g =
    nodes-as_ends (λ r. read_content n no_comment r) (λ r. read_nodes_lem n r) n (λ r h. content_ends n no_comment r h) (λ r h. nodes-ends n r h) a s
    (kind (a ∷ s)) (view (a ∷ s)) (omega arith)

pub finish_ends : (size N m p : ℕ) (x : Res Forest) → Ends N x → finish size x ≡ refused m p → 0 < m
finish_ends size N m p (ok f r) h e = let z : ◌≡◌ {A = ℕ} 0 1 = cc in omega arith
finish_ends size N m p (bad a b) h e = let q : a ≡ m = cc in omega arith

-- A text that is not taken is refused with a number of document 01's, never for want of rounds.
pub never_zero : (s : Bytes) (m p : ℕ) → read_document s ≡ refused m p → 0 < m
unfolding read_document
never_zero s m p e =
    let r : Bytes = past_prolog (suc (length s)) s in
    finish_ends (length s) (length r) m p (read_nodes_lem (suc (length r)) r) (nodes-ends (suc (length r)) r (omega arith)) e
