-- `follows` meets its contract. Assumes nothing.
use Rattle.std.proofs.Common.{◌∙◌}
use borrow.Author.Tests.{le-ltb}
use Rattle.tree.proofs.PrologLaws.{byte_on, byte_out}
use Rattle.tree.proofs.prolog.follows.Goals as goal

pub returns-then-pos-src : goal.returns-then-pos-src
returns-then-pos-src c =
    byte_on c.args.src.now _ _ c.if-pos-src.true

pub returns-else-pos-src : goal.returns-else-pos-src
returns-else-pos-src c =
    le-ltb _ _ c.if-pos-src.false ∙ byte_out c.args.src.now _ _ c.if-pos-src.false
