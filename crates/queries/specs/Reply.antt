-- What a query answers: a style or that there is none, or a refusal.
use Rattle.std.specs.Prelude.{Result}
use Rattle.tree.specs.declared.answers.Refusal.{Refusal}
use Rattle.queries.specs.declared.query.Resolved.{Resolved}

abbrev pub Reply : Type 0
Reply = Result Resolved Refusal
