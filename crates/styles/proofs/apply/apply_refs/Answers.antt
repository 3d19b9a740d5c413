use Rattle.styles.proofs.Along.{part_length, along_start, along_step, along_done, word_end, word-within, full-in}
use Rattle.styles.proofs.Applying.{stands_name}
use Prim.Native.Nat.{◌+◌, ◌-◌}
use mathlib.Core.Path.{◌≡◌, ◌∙◌}
use native.Mathlib.Omega.{arith}
use lib.ListN.{length}
use Rattle.scan.specs.Part.{part, string_at}
use Rattle.styles.proofs.apply.apply_refs.Goals as goal

pub overflow_add-to : goal.overflow_add-to
overflow_add-to c =
    omega (arith, c.requires.0.within)

pub loop-x-init : goal.loop-x-init
unfolding string_at
loop-x-init c =
    along_start _ _ _ _ _ _ _ _ _ _ c.requires.1

pub slice_bounds-next_word-end : goal.slice_bounds-next_word-end
slice_bounds-next_word-end c =
    omega (arith, c.requires.0.within)

pub next_word-requires : goal.next_word-requires
next_word-requires c =
    c.loop-x.invariant.place

pub overflow_add-from : goal.overflow_add-from
overflow_add-from c =
    let w = rw c.in-Some.is at c.next_word.ensures in
    let k : length (part c.args.from (c.args.from + c.args.len) c.args.own.now) ≡ c.args.from + c.args.len - c.args.from = part_length _ _ _ (omega arith) c.requires.0.within in
    omega (
      arith,
      w.within_text,
      w.some_byte,
      k,
      c.requires.0.within,
      c.requires.0.few,
    )

pub overflow_sub-x : goal.overflow_sub-x
overflow_sub-x c =
    let w = rw c.in-Some.is at c.next_word.ensures in
    omega (arith, w.some_byte)

pub apply_style_ref-requires : goal.apply_style_ref-requires
apply_style_ref-requires c =
    let w = rw c.in-Some.is at c.next_word.ensures in
    let p = c.requires
    in (
      record {
        known = p.0.known;
        is = p.0.is;
        within = word-within _ _ _ _ _ _ _ _ _ _ _ (omega arith) p.0.within _ _ _ _ c.loop-x.invariant _ _ w c.loop-x.ids c.loop-x.heads;
        few = omega (
          arith,
          word_end _ _ _ _ _ _ _ _ _ _ _ (omega arith) p.0.within _ _ _ _ c.loop-x.invariant _ _ w c.loop-x.ids c.loop-x.heads,
          p.0.few,
        );
      },
      c.loop-x.invariant.grown.held,
    )

pub loop-x-smaller : goal.loop-x-smaller
loop-x-smaller c =
    let w = rw c.in-Some.is at c.next_word.ensures in
    omega (arith, w.within_text, w.some_byte, w.after)

pub loop-x-preserved : goal.loop-x-preserved
unfolding string_at
loop-x-preserved c =
    let w = rw c.in-Some.is at c.next_word.ensures in
    along_step _ _ _ _ _ _ _ _ _ _ _ _ _ c.loop-x.invariant _ _ w (stands_name _ _ _ _ _ _ c.requires.0) _ _ _
    c.in_ok-s.ensures

pub returns-in_err-s : goal.returns-in_err-s
unfolding string_at
returns-in_err-s c =
    let w = rw c.in-Some.is at c.next_word.ensures in
    let o = c.in_err-s.ensures in
    rw c.from_residual.ensures (record {
      kept = o.kept ∙ c.loop-x.invariant.grown.kept;
      over = full-in _ _ _ _ _ _ _ _ _ _ _ (omega arith) c.requires.0.within _ _ _ _ c.loop-x.invariant _ _ w _ c.apply_style_ref.new.heads o;
    })

pub returns : goal.returns
unfolding string_at
returns c =
    record {
      grown = c.loop-x.invariant.grown;
      tidy = c.loop-x.invariant.tidy;
      is = along_done _ _ _ _ _ _ _ _ _ _ _ _ _ c.loop-x.invariant
          (stands_name _ _ _ _ _ _ c.requires.0)
          (rw c.in_default.is at c.next_word.ensures);
    }
