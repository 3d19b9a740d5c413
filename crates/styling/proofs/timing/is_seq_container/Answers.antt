-- `is_seq_container` is one of the tests.
use borrow.Author.Rules.{rules}
use Prim.Native.Nat.{ℕ}
use mathlib.Core.List.{List}
use Rattle.scan.specs.Names.{same_folded}
use Rattle.utf8.specs.White.{trimmed}
use Rattle.meaning.specs.Words.{ascii}
use Rattle.meaning.specs.Timing.{is_seq}
use Rattle.styling.proofs.timing.is_seq_container.Goals as goal

pub returns : goal.returns
unfolding is_seq
returns c =
    λ l y. c.says.ensures (λ (v : List ℕ). same_folded (trimmed v) (ascii "seq")) (λ v r k. search rules) l y
