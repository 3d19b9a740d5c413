-- `print` leaves the text that is written, or puts the line of a refusal.
use mathlib.Core.Path.{refl}
use Rattle.printed.proofs.Printing.{print_text, print_line}
use Rattle.printed.proofs.print.Goals as goal

pub returns-in-Ok : goal.returns-in-Ok
returns-in-Ok c =
    print_text c.in-Ok.is refl

pub returns-in-Err : goal.returns-in-Err
returns-in-Err c =
    print_line _ _ _ c.in-Err.is c.put_refusal.ensures
