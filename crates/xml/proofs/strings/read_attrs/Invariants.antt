-- `read_attrs` meets its contract: the tables are those after the first k attributes.
use mathlib.Core.Path.{◌≡◌}
use Rattle.scan.specs.Bytes.{other}
use Rattle.scan.specs.Posts.{Passes}
use Rattle.xml.specs.Steps.{attrs_read, attr_strings_read}
use Rattle.xml.proofs.strings.read_attrs.Given as goal

abbrev pub invariant-loop-k : goal.invariant-loop-k
invariant-loop-k l = (l.attrs ≡ attrs_read l.src l.initial.attrs l.k) × (l.strings ≡ attr_strings_read l.src l.initial.attrs l.initial.strings l.k)
    × Passes (other 38) l.src l.p.from l.p.end
