-- The grammar's statements, of the reader by places: for every text within the limits 1 to 3 it gives the tree that the grammar derives, or
-- the first number that the text meets. Assumes nothing.
--     derives_exactly          it gives the tree f exactly if the grammar derives f within the limits
--     Gives, gives-exactly     the same of the placed forest that it answers
--     refuses_exactly          it refuses with a number at a place exactly if that is the first that is met
use mathlib.Core.Path.{◌≡◌, refl, sym, ap, ◌∙◌}
use Prim.Native.Nat.{ℕ}
use native.Mathlib.Omega.{arith}
use mathlib.Core.Logic.{◌↔◌}
use mathlib.Core.List.{List}
use lib.ListN.{drop}
use Rattle.tree.specs.Trees as placed
use Rattle.tree.specs.Read.{Out, got, nothing, bad, prolog_end, meaning}
use Rattle.tree.specs.Posts.{Fits}
use Rattle.grammar.specs.Tree.{Forest}
use Rattle.grammar.specs.Demand.{Result, tree, refused, Derives}
use Rattle.grammar.specs.Refusals.{FirstMet}
use Rattle.grammar.proofs.Theorem.{taken}
use Rattle.grammar.proofs.First.{exactly}
use Rattle.grammar.proofs.CountedRounds.{nodes_c}
use Rattle.derivation.specs.Strings.{tree_in}
use Rattle.derivation.specs.Steps.{result_in}
use Rattle.derivation.proofs.Rows.{Same}
use Rattle.derivation.proofs.Agree.{whole_same, short_text, agree}

pub derives_exactly : (s : List ℕ) (n m : ℕ) → Fits s n m → (f : Forest) → (result_in s (meaning s n m) ≡ tree f) ↔ Derives s f
derives_exactly s n m h f = ((λ e. (taken s f).0 (sym (agree s n m h) ∙ e)), (λ d. agree s n m h ∙ (taken s f).1 d))

tree≢refused : (f : Forest) (i p : ℕ) → ◌≡◌ {A = Result} (tree f) (refused i p) → ⊥
tree≢refused f i p e = let z : ◌≡◌ {A = ℕ} 0 1 = cc in omega arith

-- it answers with a placed forest that shows f
abbrev pub Gives : List ℕ → ℕ → ℕ → Forest → Type 0
Gives s n m f = (g : placed.Forest) × (q : ℕ) × (k : ℕ) × (a : ℕ) × (meaning s n m ≡ got g q k a) × (tree_in s g ≡ f)

pub gives-exactly : (s : List ℕ) (n m : ℕ) → Fits s n m → (f : Forest) → Gives s n m f ↔ Derives s f
unfolding result_in
gives-exactly s n m h f = (
  (λ x. (derives_exactly s n m h f).0 (ap (result_in s) x.4 ∙ ap tree x.5)),
  (λ d. go (meaning s n m) refl (whole_same s n m h) ((derives_exactly s n m h f).1 d)),
)
  where
    go : (o : Out) → meaning s n m ≡ o → Same s (prolog_end s) o (nodes_c 64 8192 8192 (drop (prolog_end s) s)) → result_in s o ≡ tree f → Gives s n m f
    go (got g q k a) w t e = (g, q, k, a, w, cc)
    go (nothing q) w t e = absurd t
    go (bad i p) w t e = absurd (tree≢refused f i p (sym e))

refused-is : (s : List ℕ) (o : Out) (i p : ℕ) → result_in s o ≡ refused i p → o ≡ bad i p
unfolding result_in
refused-is s (got f q k a) i p e = absurd (tree≢refused _ i p e)
refused-is s (nothing q) i p e = absurd (tree≢refused _ i p e)
refused-is s (bad n q) i p e =
    let a : n ≡ i = cc in
    let b : q ≡ p = cc in
    rw (a, b)

pub refuses_exactly : (s : List ℕ) (n m : ℕ) → Fits s n m → (i p : ℕ) → (meaning s n m ≡ bad i p) ↔ FirstMet 64 8192 8192 s i p
unfolding result_in
refuses_exactly s n m h i p =
    let same = agree s n m h ∙ short_text s n m h in
    let first = exactly 64 8192 8192 s i p in
    ((λ e. first.0 (sym same ∙ ap (result_in s) e)), (λ f. refused-is s (meaning s n m) i p (same ∙ first.1 f)))
