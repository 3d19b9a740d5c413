-- The answer of the reader by places (`tree/specs/Read`) as one of the grammar's. A step on the way, which need not be believed.
use Rattle.std.specs.Prelude.{List, ℕ}
use Rattle.tree.specs.Read.{Out, got, nothing, bad}
use Rattle.grammar.specs.Tree.{none}
use Rattle.grammar.specs.Demand.{Result, tree, refused}
use Rattle.derivation.specs.Strings.{tree_in}

-- what the reader's answer says: a tree, or a number and its place
unfoldable pub result_in : List ℕ → Out → Result
result_in z (got f q k a) = tree (tree_in z f)
result_in z (nothing q) = tree none
result_in z (bad n p) = refused n p
