-- `align_at` meets its contract. Assumes nothing.
use borrow.Author.Tests.{ne_eqb}
use Rattle.track.specs.Tables.{align_at}
use Rattle.records.proofs.styles.align_at.Goals as goal

pub returns-in-1 : goal.returns-in-1
unfolding align_at
returns-in-1 c =
    rw c.in-1.is

pub returns-in-2 : goal.returns-in-2
unfolding align_at
returns-in-2 c =
    rw c.in-2.is

pub returns-in-3 : goal.returns-in-3
unfolding align_at
returns-in-3 c =
    rw c.in-3.is

pub returns-in-4 : goal.returns-in-4
unfolding align_at
returns-in-4 c =
    rw c.in-4.is

pub returns-in_default : goal.returns-in_default
unfolding align_at
returns-in_default c =
    let x = c.args.c in let r = c.in_default.in_default-own.rest in rw (ne_eqb x 1 r.0.0.0.1, ne_eqb x 2 r.0.0.1, ne_eqb x 3 r.0.1, ne_eqb x 4 r.1)
