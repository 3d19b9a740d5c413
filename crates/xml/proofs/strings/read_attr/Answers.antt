-- `read_attr` meets its contract.
use native.Mathlib.Omega.{arith}
use Rattle.xml.proofs.PassLaws.{value-long, value-short, attr-wrote}
use Rattle.xml.proofs.strings.read_attr.Goals as goal

pub put-requires : goal.put-requires
put-requires c =
    let e = value-long _ c.args.attrs.now c.args.k _ _ _ c.get-value.ensures c.get-2.ensures c.decode-end.ensures.next in
    (omega (arith, c.requires.0), omega (arith, c.requires.0, e, value-short c.args.src.now c.args.attrs.now c.args.k))

pub returns : goal.returns
returns c =
    let w = c.decode-end.ensures in
    let e = value-long c.args.src.now c.args.attrs.now c.args.k _ _ _ c.get-value.ensures c.get-2.ensures w.next in record {
      attrs_after = rw e at c.put.ensures;
      strings_after = attr-wrote _ _ _ _ _ _ _ _ _ _ c.get-name.ensures c.get.ensures c.get-value.ensures c.get-2.ensures
          c.copy.ensures.laid w.laid;
    }
