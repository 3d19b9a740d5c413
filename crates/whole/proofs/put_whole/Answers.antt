-- `put_whole` meets its contract. Assumes nothing.
use native.Mathlib.Omega.{arith}
use Rattle.xml.proofs.RowFacts.{has_rows}
use Rattle.whole.proofs.put_whole.Goals as goal

pub put_head-requires : goal.put_head-requires
put_head-requires c =
    let own = has_rows c.args.attrs.now.room c.args.attrs.now.within in
    let w = (c.lang_of-lang.ensures own.0 own.1).within in (
      c.requires.in_head,
      (
        omega (arith, c.requires.few),
        omega (arith, c.requires.few_styles),
        omega (arith, c.requires.few_regions),
        omega (arith, c.requires.few_cues),
        omega (arith, c.requires.few_rows),
        rw c.unwrap_or.ensures (omega (arith, w, c.requires.short), omega (arith, w, c.requires.short)),
        omega (arith, c.requires.short),
        omega (arith, c.requires.short),
      ),
    )

pub returns : goal.returns
returns c =
    λ l o.
    let v = c.lang_of-lang.ensures l o in
    record { in_head = rw (c.is_some.ensures, c.unwrap_or.ensures, v.has, v.span) at c.put_head.ensures }
