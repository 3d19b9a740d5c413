use Prim.Native.Nat.{◌+◌, ◌*◌, ◌<◌}
use mathlib.Core.Path.{refl}
use native.Mathlib.Omega.{arith}
use borrow.Author.Rules.{rules}
use lib.ListN.{length}
use Rattle.names.specs.Lists.{names}
use Rattle.extras.specs.Kept.{extras_of, kept_cells}
use Rattle.extras.proofs.Keeping.{kept_start, kept_on, kept_all, kept_room, room_for, long_after, entry-extra}
use Rattle.extras.proofs.extras.keep_all.Goals as goal

pub loop-i-init : goal.loop-i-init
loop-i-init c =
    (refl, λ l w. kept_start _ _ _ _)

pub offset_bounds-rows-i : goal.offset_bounds-rows-i
offset_bounds-rows-i c =
    let h : c.loop-i.i < length c.args.rows.now = omega (arith, c.loop-i-test.true, c.requires.1, c.requires.2.0) in
    search (rules, h)

pub bounds-rows-i : goal.bounds-rows-i
bounds-rows-i c =
    let h : c.loop-i.i < length c.args.rows.now = omega (arith, c.loop-i-test.true, c.requires.1, c.requires.2.0) in
    search (rules, h)

pub kept_attr-found-requires : goal.kept_attr-found-requires
kept_attr-found-requires c =
    (omega (arith, c.loop-i-test.true, c.requires.2.0), c.requires.0 c.loop-i.i)

pub overflow_add-at : goal.overflow_add-at
overflow_add-at c =
    let own = c.requires.4 in
    let here : c.loop-i.i < length (names c.args.list) = omega (arith, c.requires.2.0, c.loop-i-test.true) in
    let e = entry-extra c.args.attrs.now.attrs.now c.args.attrs.now.strings.now c.args.rows.now c.args.list own.0 c.loop-i.i
    own.1 here c.kept_attr-found.ensures.value in
    let few = kept_room (c.loop-i.invariant.1 own.0 own.1) here c.args.attrs.now.strings.now c.kept_attr-found.result e in
    omega (arith, few, own.2, c.loop-i.invariant.0)

pub keep-n-requires : goal.keep-n-requires
keep-n-requires c =
    let own = c.requires.4 in
    let here : c.loop-i.i < length (names c.args.list) = omega (arith, c.requires.2.0, c.loop-i-test.true) in
    let e = entry-extra c.args.attrs.now.attrs.now c.args.attrs.now.strings.now c.args.rows.now c.args.list own.0 c.loop-i.i
    own.1 here c.kept_attr-found.ensures.value in
    let few = kept_room (c.loop-i.invariant.1 own.0 own.1) here c.args.attrs.now.strings.now c.kept_attr-found.result e in
    room_for c.args.list c.args.attrs.now.strings.now c.loop-i.extras c.args.at (length (extras_of c.args.list own.0))
    c.loop-i.n c.loop-i.i c.kept_attr-found.result c.kept_attr-found.ensures.found_fits c.requires.3 here (omega
    (arith, c.loop-i.invariant.0, own.2)) few

pub overflow_add-n : goal.overflow_add-n
overflow_add-n c =
    let own = c.requires.4 in
    let here : c.loop-i.i < length (names c.args.list) = omega (arith, c.requires.2.0, c.loop-i-test.true) in
    let e = entry-extra c.args.attrs.now.attrs.now c.args.attrs.now.strings.now c.args.rows.now c.args.list own.0 c.loop-i.i
    own.1 here c.kept_attr-found.ensures.value in
    let few = kept_room (c.loop-i.invariant.1 own.0 own.1) here c.args.attrs.now.strings.now c.kept_attr-found.result e in
    omega (arith, few, c.keep-n.ensures.value, own.2, c.loop-i.invariant.0)

pub loop-i-preserved : goal.loop-i-preserved
loop-i-preserved c =
    let here : c.loop-i.i < length (names c.args.list) = omega (arith, c.requires.2.0, c.loop-i-test.true) in
    let row = (c.args.at + c.loop-i.n) * 3 in (
      long_after c.loop-i.extras _ row _ (kept_cells c.loop-i.i c.kept_attr-found.result) c.keep-n.ensures.extras_after
          c.loop-i.invariant.0,
      λ l w. kept_on (c.loop-i.invariant.1 l w) here c.args.attrs.now.strings.now c.kept_attr-found.result c.kept_attr-found.ensures.found_fits
          (entry-extra c.args.attrs.now.attrs.now c.args.attrs.now.strings.now c.args.rows.now c.args.list l c.loop-i.i w here
          c.kept_attr-found.ensures.value) _ c.keep-n.ensures.value _ c.keep-n.ensures.extras_after,
    )

pub shape_of-extras : goal.shape_of-extras
shape_of-extras c =
    c.loop-i.invariant.0

pub returns : goal.returns
returns c =
    let none = c.requires.2 in
    λ l w. kept_all (c.loop-i.invariant.1 l w) c.args.attrs.now.attrs.now c.args.attrs.now.strings.now c.args.rows.now w
    (omega (arith, none.0)) (λ j g. none.1 j (omega (arith, c.loop-i-test.false)))
