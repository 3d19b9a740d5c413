-- `XmlParser::starts_with` meets its contract. Assumes nothing.
use Rattle.std.proofs.Common.{◌∙◌}
use borrow.Author.Tests.{eq-eqb, ne_eqb}
use Rattle.tree.proofs.PrologLaws.{pair_on, pair_off}
use Rattle.tree.proofs.parser.XmlParser.starts_with.Goals as goal

pub returns-then-peek-first : goal.returns-then-peek-first
returns-then-peek-first c =
    c.follows.ensures
    ∙ pair_on c.args.self.src.now c.args.self.pos c.args.first c.args.second c.peek.result c.peek.ensures (rw (eq-eqb c.peek.result c.args.first c.if-peek-first.true) tt)

pub returns-else-peek-first : goal.returns-else-peek-first
returns-else-peek-first c =
    let e = ne_eqb c.peek.result c.args.first c.if-peek-first.false in
    e ∙ pair_off c.args.self.src.now c.args.self.pos c.args.first c.args.second c.peek.result c.peek.ensures (rw e tt)
