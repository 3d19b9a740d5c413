-- `copy_text` meets its contract. Assumes nothing.
use mathlib.Core.Path.{◌≡◌, sym}
use native.Mathlib.Omega.{arith}
use lib.ListN.{length}
use Rattle.scan.specs.Part.{string_at}
use Rattle.xml.proofs.PassForests.{string_long}
use Rattle.inline.proofs.collapse.copy_text.Goals as goal

pub returns : goal.returns
returns c =
    λ before e. let l : length (string_at c.args.strings.now c.args.place c.args.len) ≡ c.args.len = string_long c.args.strings.now c.args.place c.args.len (omega arith) in
    record {
      laid = unfold string_at in c.copy.ensures.laid;
      long = sym l;
      within = omega arith;
      flag = unfold string_at in c.edge_after.ensures before e;
    }
