-- `own_style` meets its contract. Assumes nothing.
use mathlib.Core.Path.{refl, sym, ◌∙◌}
use mathlib.Core.List.{[]}
use native.Mathlib.Omega.{arith}
use Rattle.styles.proofs.Lookups.{own-row_within, own-at, no_own_at}
use Rattle.styles.proofs.Tidying.{tidy_over, tidy_style}
use Rattle.styles.proofs.apply.own_style.Goals as goal

pub style_at-style-requires : goal.style_at-style-requires
style_at-style-requires c =
    let l = own-row_within _ [] [] _ _ _ _ (sym c.find_style.ensures ∙ c.in-Some.is) in
    let r = c.args.named.now.ready in
    (omega (arith, l, r.chained.named.rows), omega (arith, l, r.sizes), r.color _ l, r.back _ l)

pub returns-in-Some : goal.returns-in-Some
returns-in-Some c =
    let h = sym c.find_style.ensures ∙ c.in-Some.is in
    record {
      count = refl;
      tidy = λ d. rw (c.overlay_style.ensures, c.style_at-style.ensures) (tidy_over _ _ d (tidy_style _ _ _));
      is = λ t. own-at _ _ _ _ _ _ h t c.args.w _ refl refl (c.overlay_style.ensures ∙ rw c.style_at-style.ensures);
    }

pub returns-in-None : goal.returns-in-None
returns-in-None c =
    record {
      count = refl;
      tidy = λ d. d;
      is = λ t. no_own_at _ _ _ _ _ (sym c.find_style.ensures ∙ c.in-None.is) _;
    }
