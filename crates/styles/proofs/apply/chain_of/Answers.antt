-- `chain_of` meets its contract. Assumes nothing.
use mathlib.Core.Path.{sym, ◌∙◌}
use mathlib.Core.List.{[]}
use native.Mathlib.Omega.{arith}
use Rattle.styles.proofs.Lookups.{chain_row_within, chain-at, no_chain_at}
use Rattle.styles.proofs.apply.chain_of.Goals as goal

pub overflow_mul-i : goal.overflow_mul-i
overflow_mul-i c =
    omega (
      arith,
      chain_row_within _ [] [] _ _ _ _ (sym c.find_chain.ensures ∙ c.in-Some.is),
      c.args.named.now.ready.chained.named.rows,
    )

pub overflow_add-i : goal.overflow_add-i
overflow_add-i c =
    omega (
      arith,
      chain_row_within _ [] [] _ _ _ _ (sym c.find_chain.ensures ∙ c.in-Some.is),
      c.args.named.now.ready.chained.named.rows,
    )

pub get-requires : goal.get-requires
get-requires c =
    omega (
      arith,
      chain_row_within _ [] [] _ _ _ _ (sym c.find_chain.ensures ∙ c.in-Some.is),
      c.args.named.now.ready.chained.named.rows,
    )

pub overflow_mul-i-in-Some : goal.overflow_mul-i-in-Some
overflow_mul-i-in-Some c =
    omega (
      arith,
      chain_row_within _ [] [] _ _ _ _ (sym c.find_chain.ensures ∙ c.in-Some.is),
      c.args.named.now.ready.chained.named.rows,
    )

pub overflow_add-i-in-Some : goal.overflow_add-i-in-Some
overflow_add-i-in-Some c =
    omega (
      arith,
      chain_row_within _ [] [] _ _ _ _ (sym c.find_chain.ensures ∙ c.in-Some.is),
      c.args.named.now.ready.chained.named.rows,
    )

pub get-requires-in-Some : goal.get-requires-in-Some
get-requires-in-Some c =
    omega (
      arith,
      chain_row_within _ [] [] _ _ _ _ (sym c.find_chain.ensures ∙ c.in-Some.is),
      c.args.named.now.ready.chained.named.rows,
    )

pub returns-in-Some : goal.returns-in-Some
returns-in-Some c =
    let h = sym c.find_chain.ensures ∙ c.in-Some.is in
    let l = chain_row_within _ [] [] _ _ _ _ h in
    record {
      within = rw (c.get.ensures, c.get-in-Some.ensures) (c.args.named.now.ready.chained.chains _ l);
      few = rw (c.get.ensures, c.get-in-Some.ensures) (c.args.named.now.ready.chained.few _ l);
      is = chain-at _ _ _ _ _ h _ c.get.ensures c.get-in-Some.ensures;
    }

pub returns-in-None : goal.returns-in-None
returns-in-None c =
    record {
      within = omega arith;
      few = omega arith;
      is = no_chain_at _ _ _ _ (sym c.find_chain.ensures ∙ c.in-None.is);
    }
