-- Which node stands at a place: the tests by places and the kinds on lists. Assumes nothing.
--     kind_at          the kind on lists, by the marks at the place
--     comment-only     a comment is no close tag
--     Here, here       where no comment stands: the kind on lists, and what is read by places
use mathlib.Core.Path.{◌≡◌, sym, ◌∙◌}
use Prim.Native.Nat.{ℕ, ◌<◌}
use mathlib.Core.Bool.{true, false, cond}
use mathlib.Core.List.{List, [], ◌∷◌}
use lib.ListN.{length, get_or, drop}
use lib.Dec.{eqb}
use borrow.Author.Tests.{lt-ltb, eqb-false}
use Rattle.scan.specs.Marks.{starts_at}
use Rattle.tree.specs.Read.{nothing, close_mark, comment_mark, cdata_mark, Reader, text_at, section_at, node_here}
use Rattle.grammar.proofs.Reader.{as_text, as_section, as_element, as_close, as_comment, as_node, kind}
use Rattle.scan.proofs.Every.{by-test}
use Rattle.grammar.proofs.Scans.{prefix-begins}
use Rattle.derivation.proofs.SearchLaws.{prefix-at}

pub kind_at : (s : List ℕ) (q : ℕ) → kind (drop q s)
    ≡ cond (starts_at s q close_mark) as_close
    (cond (starts_at s q comment_mark) as_comment
    (cond (starts_at s q cdata_mark) (as_node as_section) (cond (starts_at s q (60 ∷ [])) (as_node as_element) (as_node as_text))))
kind_at s q = rw (prefix-at close_mark s q, prefix-at comment_mark s q, prefix-at cdata_mark s q, prefix-at (60 ∷ []) s q)

-- a mark that begins with `<` does not stand where none stands
no_mark : (s : List ℕ) (q : ℕ) (m : List ℕ) → q < length s → eqb (get_or s q 0) 60 ≡ false → starts_at s q (60 ∷ m) ≡ false
unfolding starts_at
no_mark s q m h e = rw (lt-ltb q (length s) h, e)

less_mark : (s : List ℕ) (q : ℕ) → q < length s → eqb (get_or s q 0) 60 ≡ true → starts_at s q (60 ∷ []) ≡ true
unfolding starts_at
less_mark s q h e = rw (lt-ltb q (length s) h, e)

-- no section begins with `</`
close_only : (s : List ℕ) (q : ℕ) → starts_at s q close_mark ≡ true → starts_at s q cdata_mark ≡ false
close_only s q e =
    let b = prefix-begins close_mark (drop q s) (prefix-at close_mark s q ∙ e) in
    sym (prefix-at cdata_mark s q) ∙ rw b.1

-- no close tag begins with `<!--`
pub comment-only : (s : List ℕ) (q : ℕ) → starts_at s q comment_mark ≡ true → starts_at s q close_mark ≡ false
comment-only s q e =
    let b = prefix-begins comment_mark (drop q s) (prefix-at comment_mark s q ∙ e) in
    sym (prefix-at close_mark s q) ∙ rw b.1

-- where no comment stands: the kind on lists, and what is read by places
pub data Here (s : List ℕ) (el : Reader) (q k a : ℕ) : Type 0 where
  closes : kind (drop q s) ≡ as_close → node_here s el q k a ≡ nothing q → Here s el q k a
  a_text : kind (drop q s) ≡ as_node as_text → node_here s el q k a ≡ text_at s q k a → (get_or s q 0 ≡ 60 → ⊥) → Here s el q k a
  a_section : kind (drop q s) ≡ as_node as_section → node_here s el q k a ≡ section_at s q k a → starts_at s q cdata_mark ≡ true → Here s el q k a
  an_element : kind (drop q s) ≡ as_node as_element → node_here s el q k a ≡ el q k a → Here s el q k a

pub here : (s : List ℕ) (el : Reader) (q k a : ℕ) → q < length s → starts_at s q comment_mark ≡ false → Here s el q k a
unfolding node_here
here s el q k a h n =
    by-test (eqb (get_or s q 0) 60)
    (λ e. by-test (starts_at s q close_mark)
    (λ f. closes (kind_at s q ∙ rw f) (rw (lt-ltb q (length s) h, e, close_only s q f, f)))
    (λ f. by-test (starts_at s q cdata_mark)
    (λ g. a_section (kind_at s q ∙ rw (f, n, g)) (rw (lt-ltb q (length s) h, e, g)) g)
    (λ g. an_element (kind_at s q ∙ rw (f, n, g, less_mark s q h e)) (rw (lt-ltb q (length s) h, e, f, g)))))
    (λ e. a_text (kind_at s q ∙ rw (no_mark s q (47 ∷ []) h e, n, no_mark s q (33 ∷ 91 ∷ 67 ∷ 68 ∷ 65 ∷ 84 ∷ 65 ∷ 91 ∷ []) h e, no_mark s q [] h e))
    (rw (lt-ltb q (length s) h, e)) (eqb-false (get_or s q 0) 60 e))
