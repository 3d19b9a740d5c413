-- `apply_style_ref` meets its contract. The measure is how many cells are free: each call of itself comes after a row was added. The
-- loop's invariant is `Along` the words of the chain. Assumes nothing.
use Prim.Native.Nat.{ℕ}
use mathlib.Core.Path.{refl, sym, ◌∙◌}
use mathlib.Core.Logic.{inl, inr}
use native.Mathlib.Omega.{arith}
use Rattle.scan.specs.Part.{string_at}
use Rattle.styles.proofs.Along.{along_start, along_step, along_done, chain_length, chain_here, word_end, word-within, full-in}
use Rattle.styles.proofs.Applying.{stands_name, applied-again, applied-full, Entry, entered_held, applied-first, applied-over}
use Rattle.styles.proofs.apply.+apply_style_ref.Goals as goal
use Rattle.styles.proofs.apply.+apply_style_ref.Goals.{After-add_id}

abbrev Entered : (t : ℕ) → After-add_id t → Type 0
Entered t c = Entry c.args.text.now c.args.named.now.strings.now c.args.own.now c.args.source c.args.at c.args.len c.args.ids.now c.args.heads.now
    c.add_id.new.ids c.add_id.new.heads c.args.w

-- the row that was added
entered : (t : ℕ) (c : After-add_id t) → Entered t c
unfolding string_at
entered t c = record {
  held = c.requires.1;
  new = sym c.is_visited.ensures ∙ c.if-is_visited.false;
  stands = c.requires.0;
  kept = c.add_id.auto.ids;
  post = c.add_id.ensures;
}

pub returns-then-is_visited : goal.returns-then-is_visited
unfolding string_at
returns-then-is_visited t c =
    applied-again _ _ _ _ _ _ _ _ _ c.requires.1 _ (stands_name _ _ _ _ _ _ c.requires.0) (sym c.is_visited.ensures ∙ c.if-is_visited.true)

pub returns-then-count-ge65536 : goal.returns-then-count-ge65536
unfolding string_at
returns-then-count-ge65536 t c =
    applied-full _ _ _ _ _ _ _ _ _ c.requires.1 (sym c.is_visited.ensures ∙ c.if-is_visited.false) (inl c.if-count-ge65536.true)

pub returns-then-ids-count-lt4 : goal.returns-then-ids-count-lt4
unfolding string_at
returns-then-ids-count-lt4 t c =
    applied-full _ _ _ _ _ _ _ _ _ c.requires.1 (sym c.is_visited.ensures ∙ c.if-is_visited.false) (inr c.if-ids-count-lt4.true)

pub loop-x-init : goal.loop-x-init
unfolding string_at
loop-x-init t c = along_start _ _ _ _ _ _ _ _ _ _ (entered_held _ _ _ _ _ _ _ _ _ _ _ (entered t (goal.at.loop-x-init t c).After-add_id))

pub next_word-requires : goal.next_word-requires
next_word-requires t c = c.loop-x.invariant.place

pub apply_style_ref-requires : goal.apply_style_ref-requires
unfolding string_at
apply_style_ref-requires t c =
    let w = rw c.in-Some.is at c.next_word.ensures in
    let g = c.loop-x.invariant.grown in
    let end = c.chain_of-chain.ensures in (
      omega (arith, c.decreases, g.kept, g.more, g.held.tree.rows, c.add_id.auto.ids, c.if-ids-count-lt4.false, c.requires.1.tree.rows),
      (
        record {
          known = omega arith;
          is = refl;
          within = word-within _ _ _ _ _ _ _ _ _ _ _ (omega arith) end.within _ _ _ _ c.loop-x.invariant _ _ w c.loop-x.ids c.loop-x.heads;
          few = let q = word_end _ _ _ _ _ _ _ _ _ _ _ (omega arith) end.within _ _ _ _ c.loop-x.invariant _ _ w c.loop-x.ids c.loop-x.heads in
              omega (arith, q, end.few);
        },
        g.held,
      ),
    )

pub returns-in_err-s : goal.returns-in_err-s
unfolding string_at
returns-in_err-s t c =
    let w = rw c.in-Some.is at c.next_word.ensures in
    let o = c.in_err-s.ensures in
    rw c.from_residual.ensures (applied-over _ _ _ _ _ _ _ _ _ _ _ (entered t (goal.at.returns-in_err-s t c).After-add_id) _ _ _ _ c.chain_of-chain.ensures _ _ (o.kept ∙ c.loop-x.invariant.grown.kept)
    (full-in _ _ _ _ _ _ _ _ _ _ _ (omega arith) c.chain_of-chain.ensures.within _ _ _ _ c.loop-x.invariant _ _ w _
    c.apply_style_ref.new.heads o))

pub loop-x-smaller : goal.loop-x-smaller
loop-x-smaller t c =
    let w = rw c.in-Some.is at c.next_word.ensures in
    omega (arith, w.within_text, w.some_byte, w.after)

pub loop-x-preserved : goal.loop-x-preserved
unfolding string_at
loop-x-preserved t c =
    let w = rw c.in-Some.is at c.next_word.ensures in
    along_step _ _ _ _ _ _ _ _ _ _ _ _ _ c.loop-x.invariant _ _ w (chain_here _ c.chain_of-chain.result) _ _ _
    c.in_ok-s.ensures

pub returns : goal.returns
unfolding string_at
returns t c =
    applied-first _ _ _ _ _ _ _ _ _ _ _ (entered t (goal.at.returns t c).After-add_id) _ _ _ _ c.chain_of-chain.ensures _ _
    _ _ c.loop-x.invariant.grown
    c.loop-x.invariant.tidy
    (rw (chain_length c.chain_of-chain.result) at (along_done _ _ _ _ _ _ _ _ _ _ _ _ _ c.loop-x.invariant (chain_here _ c.chain_of-chain.result)
    (rw c.in_default.is at c.next_word.ensures))) c.own_style.ensures
