-- `tell_found` meets its contract, by what is found.
use Rattle.std.specs.Prelude.{Ok}
use mathlib.Core.Path.{ap}
use Rattle.told.proofs.Queries.{tell_none, tell_style}
use Rattle.told.proofs.answers.tell_found.Goals as goal

pub returns-in-NoStyle : goal.returns-in-NoStyle
returns-in-NoStyle c =
    tell_none _ _ _ (ap Ok c.in-NoStyle.is) c.blank-blank.ensures c.put_answer.ensures

pub returns-in-Style : goal.returns-in-Style
returns-in-Style c =
    tell_style _ _ (ap Ok c.in-Style.is) c.put_answer-in-Style.ensures
