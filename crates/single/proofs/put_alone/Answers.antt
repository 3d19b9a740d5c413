-- `put_alone` meets its contract: the first row, its style as the attributes say. Assumes nothing.
use Rattle.std.specs.Option.{unwrap_or}
use Rattle.std.specs.Option as has
use native.Mathlib.Omega.{arith}
use mir.ValLaws as laws
use mir.Syntax.{w64}
use mir.Val.{to_z, of_z}
use mathlib.Core.Path.{◌≡◌, refl}
use mathlib.Core.Bool.{false}
use Rattle.track.specs.declared.values.Cue.{Cue}
use Rattle.track.specs.Layout.{cue_cells}
use Rattle.xml.proofs.RowFacts.{has_rows}
use Rattle.meaning.specs.Kinds.{attrs_in}
use Rattle.cues.specs.Steps.{nowhere}
use Rattle.single.specs.Steps.{alone_row}
use Rattle.single.proofs.Alone.{row-added, times_added}
use Rattle.single.proofs.put_alone.Goals as goal

pub add_cue-requires : goal.add_cue-requires
add_cue-requires c =
    let own = has_rows c.args.attrs.now.room c.args.attrs.now.within in
    let w = (c.value_of-style.ensures own.0 own.1).within in
    let z = c.requires.short in
    let n = c.requires.few in (
      c.requires.in-cues,
      c.requires.in_times,
      rw c.unwrap_or.ensures (omega (arith, w, z), omega (arith, w, z)),
      (omega arith, omega arith),
      (omega arith, omega (arith, n)),
      (omega arith, omega arith),
    )

pub returns : goal.returns
returns c =
    λ l o.
    let when = c.args.when in
    let from = laws.to_z-of_z w64 when.start (record { sfits = c.struct_told-1.given.0.1 }) in
    let to = laws.to_z-of_z w64 when.end (record { sfits = c.struct_told-1.given.1.0.1 }) in
    let v = c.value_of-style.ensures l o in
    let style = c.value_of-style.result in
    let r = c.add_cue.result in
    let row = rw (c.is_some.ensures, c.unwrap_or.ensures) at c.add_cue.ensures.add_post in
    let times = c.add_cue.ensures.times_post in
    let cue : Cue = record {
      start = to_z w64 (of_z w64 when.start);
      end = to_z w64 (of_z w64 when.end);
      has_style = has.is_some style;
      style = unwrap_or style nowhere;
      has_region = false;
      region = record { place = 0; len = 0 };
      preserve = false;
      segments = record { first = 0; count = c.args.rows };
      extras = record { first = 0; count = 0 };
    } in
    let e : cue_cells cue ≡ cue_cells (alone_row when c.args.rows (attrs_in c.args.attrs.now.strings.now l)) = rw (from, to, v.has, v.span) refl in
    record {
      in_head = c.put_head.ensures;
      in-cues = rw e at (row-added (cue_cells cue) c.args.cues.now c.add_cue.new.cues r row);
      in_times =
          rw (from, to) at
          (times_added (cue_cells cue) c.args.cues.now c.add_cue.new.cues
          (to_z w64 (of_z w64 when.start))
          (to_z w64 (of_z w64 when.end))
          c.args.times.now c.add_cue.new.times r row times);
    }
