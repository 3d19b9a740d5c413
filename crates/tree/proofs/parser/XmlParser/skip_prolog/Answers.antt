-- Where the root begins at once, by `<t`, there is no prolog. Assumes nothing.
use Rattle.std.proofs.Common.{true, refl, sym, ◌∙◌}
use Rattle.tree.proofs.PrologLaws.{root}
use Rattle.tree.proofs.parser.XmlParser.skip_prolog.Goals as goal

pub returns-then-starts_with : goal.returns-then-starts_with
returns-then-starts_with c =
    (refl, (sym (root c.args.self.src.now c.args.self.pos true tt (sym c.if-starts_with.true ∙ c.starts_with.ensures)), c.requires))
