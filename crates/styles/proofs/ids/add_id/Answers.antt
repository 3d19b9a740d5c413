-- `add_id` meets its contract. Assumes nothing.
use Prim.Native.Nat.{ℕ, ◌+◌, ◌*◌}
use mathlib.Core.Path.{◌≡◌, refl}
use mathlib.Core.List.{List, [], ◌∷◌}
use native.Mathlib.Omega.{arith}
use native.Mathlib.Numerals.{add-one, add-two, add-three}
use lib.ListN.{set, length-set}
use lib.Seq.{sets}
use Rattle.styles.proofs.Adding.{add_first, add_next, free_link}
use Rattle.styles.proofs.ids.add_id.Goals as goal

pub free_slot-slot-requires : goal.free_slot-slot-requires
free_slot-slot-requires c =
    (c.requires.2, c.requires.3, c.requires.4)

pub bounds-ids-at-2 : goal.bounds-ids-at-2
bounds-ids-at-2 c =
    simp length-set (omega arith)

pub bounds-ids-at-3 : goal.bounds-ids-at-3
bounds-ids-at-3 c =
    simp length-set (omega arith)

pub bounds-ids-at-4 : goal.bounds-ids-at-4
bounds-ids-at-4 c =
    simp length-set (omega arith)

pub bounds-heads-h : goal.bounds-heads-h
bounds-heads-h c =
    omega (arith, c.requires.2.buckets, c.requires.4)

pub returns-then-slot-eq0 : goal.returns-then-slot-eq0
returns-then-slot-eq0 c =
    let t : List ℕ = set (set (set (set c.args.ids.now (c.args.n * 4) c.args.source) (c.args.n * 4 + 1) c.args.place) (c.args.n * 4 + 2) c.args.len) (c.args.n * 4 + 3) 0 in
    let laid : t ≡ sets c.args.ids.now (c.args.n * 4) (c.args.source ∷ c.args.place ∷ c.args.len ∷ 0 ∷ []) = simp (add-one, add-two, add-three) in
    add_first _ _ _ _ _ _ _ c.requires.0 c.requires.1 c.requires.2 t laid _ _ c.free_slot-slot.ensures c.if-slot-eq0.true _ c.requires.3 c.requires.4 _ refl

pub bounds-ids-cell : goal.bounds-ids-cell
bounds-ids-cell c =
    simp length-set (omega (arith, c.free_slot-slot.ensures.some))

pub with_row-requires : goal.with_row-requires
with_row-requires c =
    let t : List ℕ = set (set (set (set c.args.ids.now (c.args.n * 4) c.args.source) (c.args.n * 4 + 1) c.args.place) (c.args.n * 4 + 2) c.args.len) (c.args.n * 4 + 3) 0 in
    let laid : t ≡ sets c.args.ids.now (c.args.n * 4) (c.args.source ∷ c.args.place ∷ c.args.len ∷ 0 ∷ []) = simp (add-one, add-two, add-three) in
    (c.requires.1, free_link _ _ _ _ _ _ _ c.requires.0 c.requires.1 c.requires.2 t laid _ _ c.free_slot-slot.ensures c.if-slot-eq0.false)

pub bounds-ids-cell-2 : goal.bounds-ids-cell-2
bounds-ids-cell-2 c =
    simp length-set (omega (arith, c.free_slot-slot.ensures.some))

pub returns : goal.returns
returns c =
    let t : List ℕ = set (set (set (set c.args.ids.now (c.args.n * 4) c.args.source) (c.args.n * 4 + 1) c.args.place) (c.args.n * 4 + 2) c.args.len) (c.args.n * 4 + 3) 0 in
    let laid : t ≡ sets c.args.ids.now (c.args.n * 4) (c.args.source ∷ c.args.place ∷ c.args.len ∷ 0 ∷ []) = simp (add-one, add-two, add-three) in
    add_next _ _ _ _ _ _ _ c.requires.0 c.requires.1 c.requires.2 t laid _ _ c.free_slot-slot.ensures c.if-slot-eq0.false _ c.with_row.ensures.0
    c.with_row.ensures.1 _ refl
