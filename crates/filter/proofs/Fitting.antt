-- What is printed stands in the table that is lent. Assumes nothing.
use Rattle.std.specs.Prelude.{Option, Some, Result, Ok, Err}
use Prim.Native.Nat.{ℕ, ◌≤◌}
use mathlib.Core.Path.{◌≡◌, sym}
use native.Mathlib.Omega.{arith}
use lib.ListN.{length, take}
use lib.Seq.{length-take-le}
use Rattle.scan.proofs.Stores.{appended_kept}
use Rattle.track.specs.Track.{Bytes}
use Rattle.promised.specs.Promise.{Tables}
use Rattle.rewritten.specs.Recaption.{Recaptioned}
use Rattle.rewritten.proofs.Fitting.{recaption_fits}
use Rattle.printed.specs.Printed.{Prints}
use Rattle.tree.specs.declared.answers.Refusal.{Refusal}

module _ {text out written : Bytes} {lent left : Tables} (after : Bytes) where
  fits_by : (answer : Result ℕ Refusal) (n : ℕ) → Recaptioned text lent out answer left written → Prints answer written after (Some n) → n ≤ length after
  fits_by (Ok m) n p q =
      let e : n ≡ m = cc in
      rw q.1 (omega (arith, recaption_fits p))
  fits_by (Err r) n p q = omega (arith, q.within, appended_kept q)

  -- so many bytes of it are there, and a part of so many has them
  pub fitting : {answer : Result ℕ Refusal} {n : ℕ} (w : Option ℕ) → Recaptioned text lent out answer left written → Prints answer written after w → w ≡ Some n
      → n ≤ length after
  fitting {answer = answer} {n = n} w p q e = fits_by answer n p (rw e at q)

  pub counted : {answer : Result ℕ Refusal} {n : ℕ} (w : Option ℕ) → Recaptioned text lent out answer left written → Prints answer written after w → w ≡ Some n
      → n ≡ length (take n after)
  counted {n = n} w p q e = sym (length-take-le n after (fitting w p q e))
