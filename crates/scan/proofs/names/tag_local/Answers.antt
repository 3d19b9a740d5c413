use borrow.Author.Rules.{rules}
use Rattle.scan.proofs.Naming.{after_last}
use Rattle.scan.proofs.names.tag_local.Goals as goal

pub returns : goal.returns
returns c =
    let part = after_last c.args.name.now c.rposition.result (search rules) (λ i e. (search rules, search rules, search rules)) in
    search rules
