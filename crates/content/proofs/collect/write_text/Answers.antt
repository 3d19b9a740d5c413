-- `write_text` meets its contract: by the mode. Assumes nothing.
use Rattle.meaning.specs.Space.{text_in_of}
use Rattle.content.proofs.collect.write_text.Goals as goal

pub returns-in-Collapse : goal.returns-in-Collapse
unfolding text_in_of
returns-in-Collapse c =
    λ before e. rw c.in-Collapse.is (c.collapse_text.ensures before e)

pub returns-in-Preserve : goal.returns-in-Preserve
unfolding text_in_of
returns-in-Preserve c =
    λ before e. rw c.in-Preserve.is (c.copy_text.ensures before e)
