-- The theorem of the grammar: the reader on lists meets the demand, whatever the reading of entities is. Assumes nothing.
--     taken              the reader takes a text, and gives f, exactly if the grammar derives f for it within the limits
--     takes_exactly, gives-that_tree, no_two     the demand
--     refuses_truly      a number that is answered is met at its place
--     refuses_exactly    the number that is answered is the first that is met
--     too_long           a text past 65,536 bytes meets 2
use mathlib.Core.Path.{◌≡◌, refl, sym, ap, ◌∙◌}
use Prim.Native.Nat.{ℕ, ◌≤◌, ◌<◌}
use native.Mathlib.Omega.{arith}
use mathlib.Core.Logic.{◌↔◌}
use lib.ListN.{length}
use lib.Dec.{leb, leb→le, le→leb}
use Rattle.grammar.specs.Words.{Bytes}
use Rattle.grammar.specs.Tree.{Forest}
use Rattle.grammar.specs.Demand.{Result, tree, refused, Derives, TakesExactly, GivesThatTree, NoTwo, decode_forest}
use Rattle.grammar.specs.Refusals.{RefusesTruly, RefusesExactly}
use Rattle.grammar.proofs.Counted.{read_document_l, text_as, read_text_lem, decode_result, tree_reader}
use Rattle.scan.proofs.Every.{by-test}
use Rattle.grammar.proofs.Tests.{T→is, is→T}
use Rattle.grammar.proofs.Complete.{unique}
use Rattle.grammar.proofs.Simulation.{text-exactly}
use Rattle.grammar.proofs.First.{exactly}

pub taken : (s : Bytes) (f : Forest) → (read_text_lem s ≡ tree f) ↔ Derives s f
taken s f = (
  (λ e. let h = (text-exactly s f).0 e in record { derived = h.0; limits = h.1; size = h.2 }),
  (λ d. (text-exactly s f).1 (d.derived, d.limits, d.size)),
)

gives : (decode : Bytes → Bytes) (s : Bytes) (f : Forest) → Derives s f → tree_reader decode s ≡ tree (decode_forest decode f)
unfolding tree_reader
gives decode s f d = ap (decode_result decode) ((taken s f).1 d)

-- a text is taken exactly when the grammar derives a tree for it within the limits
pub takes_exactly : (decode : Bytes → Bytes) → TakesExactly (tree_reader decode)
unfolding tree_reader
takes_exactly decode s = (λ h. go (read_text_lem s) refl h.0 h.1, λ h. (decode_forest decode h.0, gives decode s h.0 h.1))
  where
    go : (r : Result) → read_text_lem s ≡ r → (g : Forest) → decode_result decode r ≡ tree g → (f : Forest) × Derives s f
    go (tree f) q g e = (f, (taken s f).0 q)
    go (refused n p) q g e = let z : ◌≡◌ {A = ℕ} 0 1 = cc in absurd (omega arith)

-- the tree given is that tree with its entities read
pub gives-that_tree : (decode : Bytes → Bytes) → GivesThatTree decode (tree_reader decode)
gives-that_tree decode s f g d e = let h = gives decode s f d in cc

-- no text, taken or not, has two
pub no_two : NoTwo
no_two s f g d e = unique d e

-- ---- what is turned away

pub too_long : (decode : Bytes → Bytes) (s : Bytes) → 65536 < length s → tree_reader decode s ≡ refused 2 0
unfolding tree_reader read_text_lem text_as
too_long decode s h =
    by-test (leb (length s) 65536)
    (λ e. let small : length s ≤ 65536 = leb→le (length s) 65536 (is→T (leb (length s) 65536) e) in absurd (omega arith))
    (λ e. rw e)

-- a text that is not too long is refused as the reader without entities refuses it
pub refuses_as : (decode : Bytes → Bytes) (s : Bytes) (n p : ℕ) → length s ≤ 65536 → (tree_reader decode s ≡ refused n p)
    ↔ (read_document_l 64 8192 8192 s ≡ refused n p)
unfolding tree_reader read_text_lem text_as
refuses_as decode s n p h = ((λ e. go (read_document_l 64 8192 8192 s) refl (sym short ∙ e)), (λ e. short ∙ ap (decode_result decode) e))
  where
    short : decode_result decode (text_as (leb (length s) 65536) s) ≡ decode_result decode (read_document_l 64 8192 8192 s)
    short = ap (λ b. decode_result decode (text_as b s)) (T→is (leb (length s) 65536) (le→leb (length s) 65536 h))

    go : (r : Result) → read_document_l 64 8192 8192 s ≡ r → decode_result decode (read_document_l 64 8192 8192 s) ≡ refused n p
        → read_document_l 64 8192 8192 s ≡ refused n p
    go (tree f) q z =
        let y : ◌≡◌ {A = Result} (tree (decode_forest decode f)) (refused n p) = ap (decode_result decode) (sym q) ∙ z in
        let o : ◌≡◌ {A = ℕ} 0 1 = cc in
        absurd (omega arith)
    go (refused m a) q z = q ∙ (ap (decode_result decode) (sym q) ∙ z)

pub refuses_exactly : (decode : Bytes → Bytes) → RefusesExactly (tree_reader decode)
refuses_exactly decode s n p h =
    let same_answer = refuses_as decode s n p h in
    let first = exactly 64 8192 8192 s n p in
    ((λ e. first.0 (same_answer.0 e)), (λ f. same_answer.1 (first.1 f)))

pub refuses_truly : (decode : Bytes → Bytes) → RefusesTruly (tree_reader decode)
refuses_truly decode s n p h e = ((refuses_exactly decode s n p h).0 e).met
