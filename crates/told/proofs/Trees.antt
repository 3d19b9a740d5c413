-- What the tree reader answers a caller in C, by cases. Assumes nothing.
--     reads_tree, reads_refused, reads_short
--     tree-small        a tree's counts are small
use Rattle.std.specs.Prelude.{Result, Ok, Err}
use Prim.Native.Nat.{ℕ, ◌≤◌, ◌<◌, ◌^◌}
use mathlib.Core.Path.{ap, ◌≡◌, sym, ◌∙◌}
use mathlib.Core.List.{List, [], ◌∷◌}
use lib.ListN.{length, replicate, length-replicate}
use lib.Seq.{sets}
use native.Mathlib.Omega.{arith}
use Rattle.grammar.specs.Limits as count
use Rattle.tree.specs.declared.answers.Refusal.{Refusal}
use Rattle.xml.specs.Promise.{Tables, Parsed, AllZero}
use Rattle.xml.proofs.Promises.{counted}
use Rattle.xml.proofs.Given.{given-tree}
use Rattle.told.specs.Told.{told, tree_told}
use Rattle.told.specs.Trees.{count_cells, ReadInC}
use Rattle.tree.specs.declared.answers.TreeSize.{TreeSize}
use Rattle.tree.specs.Answers.{values_of, tree_with}

-- cleared cells are as many
same_cells : {z : List ℕ} (t : List ℕ) → z ≡ replicate (length t) 0 → length z ≡ length t
same_cells t e = rw (e, length-replicate {A = ℕ} (length t) 0)

-- `z` are the counts cleared
module _ {text : List ℕ} {lent left : Tables} {counts z : List ℕ} {r : ℕ} (c : z ≡ replicate (length counts) 0) where
  pub reads_short : length z < 2 → r ≡ told 1 0 → AllZero lent left → ReadInC text lent counts left z r
  reads_short h e a = record { short = λ g. (e, a, c); reads = λ g. absurd (omega (arith, h, g, same_cells counts c)) }

  pub reads_refused : {a : Result TreeSize Refusal} (q : Refusal) → 2 ≤ length z → a ≡ Err q → Parsed text lent a left
      → r ≡ told q.number q.place → ReadInC text lent counts left z r
  unfolding tree_told count_cells
  reads_refused {a} q h e p t = record {
    short = λ g. absurd (omega (arith, h, g, same_cells counts c));
    reads = λ g. record { answer = a; promised = (p, rw e c); is = rw e t };
  }

  pub reads_tree : {a : Result TreeSize Refusal} {counted : List ℕ} (n m : ℕ) → 2 ≤ length z → a ≡ tree_with n m → Parsed text lent a left
      → r ≡ told 0 0 → counted ≡ sets z 0 (n ∷ m ∷ []) → ReadInC text lent counts left counted r
  unfolding tree_told count_cells
  reads_tree {a} n m h e p t w = record {
    short = λ g. absurd (omega (arith, h, g, same_cells counts c));
    reads = λ g. record { answer = a; promised = (p, rw (e, ← c) w); is = rw e t };
  }

-- a tree within the limits has at most 8,192 of each
pub tree-small : {text : List ℕ} {lent left : Tables} {a : Result TreeSize Refusal} {n m : ℕ} → Parsed text lent a left → a ≡ tree_with n m
    → (n < 2 ^ 32) × (m < 2 ^ 32)
tree-small {n = n} {m = m} p e =
    let g = given-tree p e in
    let c : tree_with n m ≡ tree_with (count.nodes g.tree) (count.attrs g.tree) = sym e ∙ counted p g.tree g.takes in
    let values = ap values_of c in
    let i : n ≡ count.nodes g.tree = cc in
    let j : m ≡ count.attrs g.tree = cc in
    let l = g.takes.derives.limits in
    (omega (arith, i, l.many), omega (arith, j, l.named))
