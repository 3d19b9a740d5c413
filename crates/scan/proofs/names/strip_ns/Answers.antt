use borrow.Author.Rules.{rules}
use Rattle.scan.proofs.Naming.{after_first}
use Rattle.scan.proofs.names.strip_ns.Goals as goal

pub returns : goal.returns
returns c =
    let part = after_first c.args.name.now c.position.result (search rules) (λ i e. (search rules, search rules, search rules)) in
    search rules
