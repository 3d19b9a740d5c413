-- `white_at` answers the width of the white-space character at the place: from the byte where that is visible ASCII or the space.
use mathlib.Core.Path.{sym}
use Rattle.utf8.proofs.WhiteLaws.{white_at-visible, white_at-space}
use Rattle.scan.proofs.Splits.{whole_part}
use borrow.Author.Rules.{rules}
use Rattle.utf8.proofs.white.white_at.Goals as goal

pub returns-then-lead-lt128 : goal.returns-then-lead-lt128
returns-then-lead-lt128 c =
    record { is = sym (white_at-visible c.args.src.now c.args.pos c.requires (search rules) (search rules)); within_text = search rules }

pub returns-then-lead-eq32 : goal.returns-then-lead-eq32
returns-then-lead-eq32 c =
    record { is = sym (white_at-space c.args.src.now c.args.pos c.requires c.if-lead-eq32.true); within_text = search rules }

pub returns-else-lead-eq32 : goal.returns-else-lead-eq32
returns-else-lead-eq32 c =
    rw (whole_part c.args.src.now) at c.any_white_at.ensures
