-- `put_refusal` tests the room, and writes the four pieces one after the other.
use native.Mathlib.Omega.{arith}
use Rattle.scan.proofs.Stores.{appended_kept}
use Rattle.numerals.proofs.Writing.{width_few}
use Rattle.printed.proofs.Printing.{line_length, line_put, digits_end}
use borrow.Author.Rules.{rules}
use Rattle.printed.proofs.put_refusal.Goals as goal

pub overflow_add-first : goal.overflow_add-first
overflow_add-first c =
    omega (arith, width_few c.args.r.number, width_few c.args.r.place, c.decimal_width-first.ensures, c.decimal_width-second.ensures)

pub overflow_add-first-2 : goal.overflow_add-first-2
overflow_add-first-2 c =
    omega (arith, width_few c.args.r.number, width_few c.args.r.place, c.decimal_width-first.ensures, c.decimal_width-second.ensures)

pub returns-then-out-first : goal.returns-then-out-first
returns-then-out-first c =
    (omega (arith, line_length c.args.r, c.decimal_width-first.ensures, c.decimal_width-second.ensures), search rules)

pub copy-start-requires : goal.copy-start-requires
copy-start-requires c =
    omega (arith, c.if-out-first.false, digits_end _ _ c.put_digits-blank.ensures, appended_kept c.put_digits-blank.ensures)

pub put_digits-end-requires : goal.put_digits-end-requires
put_digits-end-requires c = (
  omega (
    arith,
    c.if-out-first.false,
    digits_end _ _ c.put_digits-blank.ensures,
    appended_kept c.put_digits-blank.ensures,
    c.copy-start.ensures.next,
    appended_kept c.copy-start.ensures,
  ),
  omega arith,
  omega arith,
)

pub copy-requires : goal.copy-requires
copy-requires c =
    omega (
      arith,
      c.if-out-first.false,
      digits_end _ _ c.put_digits-blank.ensures,
      appended_kept c.put_digits-blank.ensures,
      c.copy-start.ensures.next,
      appended_kept c.copy-start.ensures,
      digits_end _ _ c.put_digits-end.ensures,
      appended_kept c.put_digits-end.ensures,
    )

pub returns : goal.returns
returns c =
    line_put c.args.r c.decimal_width-first.ensures c.decimal_width-second.ensures
    c.put_digits-blank.ensures c.copy-start.ensures c.put_digits-end.ensures c.copy.ensures
