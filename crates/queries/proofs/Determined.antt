-- Two outcomes that meet the promise are the same. Assumes nothing.
--     determined, determined_value, determined_region, determined_cue     the answer, and every cell of the table
use Rattle.queries.specs.Reply.{Reply}
use Rattle.std.specs.Prelude.{Ok, Err}
use Prim.Native.Nat.{ℕ, ◌<◌}
use mathlib.Core.Path.{◌≡◌, refl, sym, ap, ◌∙◌}
use mathlib.Core.List.{List, []}
use native.Mathlib.Omega.{arith}
use lib.ListN.{length}
use lib.Dec.{eqb}
use borrow.Author.Tests.{eqb-true, eqb-false}
use Rattle.scan.proofs.Every.{by-test}
use Rattle.track.specs.declared.strings.Span.{Span}
use Rattle.track.specs.declared.values.Look as values
use Rattle.track.specs.Track.{Bytes, Track}
use Rattle.track.specs.Tables.{Tables, span, style_count}
use Rattle.styles.specs.Resolve.{Resolution}
use Rattle.styles.specs.Own.{Read, is}
use Rattle.styles.specs.Cells.{blank_look}
use Rattle.styles.specs.Places.{WalkedAt}
use Rattle.styles.proofs.Places.{resolves_only}
use Rattle.queries.specs.declared.query.Resolved.{Resolved}
use Rattle.queries.specs.declared.region.Part.{Part}
use Rattle.queries.specs.Places.{PlacedValues, PlacedPart, region_named, PlacedCue, past, there}
use Rattle.queries.specs.Promise.{
  number_of,
  place_of,
  id_table,
  answer_at,
  Query,
  of_value,
  of_region,
  of_cue_of,
  Takes,
  Queried,
  ReferencedStyle,
  RegionStyle,
  EffectiveStyle,
}

-- an answer with a number is its number and its place
refused_as : (a b : Reply) → 0 < number_of a → number_of a ≡ number_of b → place_of a ≡ place_of b → a ≡ b
unfolding number_of place_of
refused_as (Err p) (Err q) z e f = rw (e, f)
refused_as (Err p) (Ok (Resolved.Style y)) z e f = absurd (omega arith)
refused_as (Err p) (Ok (Resolved.NoStyle m)) z e f = absurd (omega arith)
refused_as (Ok (Resolved.Style x)) b z e f = absurd (omega arith)
refused_as (Ok (Resolved.NoStyle n)) b z e f = absurd (omega arith)

-- a walk with places has one end
abbrev Single : (WalkedAt → Type 0) → Type 0
Single placed = (v u : WalkedAt) → placed v → placed u → v ≡ u

pub determined : (q : Query) (T : Tables) (lent : List ℕ) → Single (q.walks T) → (a b : Reply) (l m : List ℕ)
    → Queried q T lent a l → Queried q T lent b m → (a ≡ b) × (l ≡ m)
determined q T lent single a b l m x y =
    by-test (eqb (number_of a) 0) (λ e. given (x.taken.0 (eqb-true (number_of a) 0 e)))
    (λ e. refuses (omega (arith, eqb-false (number_of a) 0 e)))
  where
    given : ((k : Track Bytes) × (r : Resolution) × Takes q T lent k r) → (a ≡ b) × (l ≡ m)
    given (k, r, t) =
        let g = x.gives k r t in
        let h = y.gives k r t in
        let e = single g.walked h.walked g.is-walk h.is-walk in (
          g.told ∙ (ap (answer_at q.at) e ∙ sym h.told),
          g.table ∙ (ap (λ (v : WalkedAt). id_table v.visited (length lent)) e ∙ sym h.table),
        )

    refuses : 0 < number_of a → (a ≡ b) × (l ≡ m)
    refuses z =
        let s = (y.refused (number_of a) (place_of a) z).1 ((x.refused (number_of a) (place_of a) z).0 (refl, refl)) in
        (refused_as a b z (sym s.0) (sym s.1), x.cleared z ∙ sym (y.cleared (rw s.0 z)))

-- ---- the three queries
module _ (text : Bytes) (T : Tables) where
  values_single : (source : ℕ) (one two : Span) (look : values.Look) → Single (PlacedValues text T source one two look)
  values_single source one two look v u p q = resolves_only text T.styles T.sizes T.strings (style_count T.head) p q

  part-single : (part : Read Part) (two : Span) → Single (PlacedPart text T part two)
  part-single part two v u p q =
      let e : is q.region ≡ is p.region = sym q.said ∙ p.said in
      let g : q.region ≡ p.region = cc in
      values_single 1 p.region.chain two p.region.look v u p.resolved (rw g at q.resolved)

cue_single : (T : Tables) (i : ℕ) → Single (PlacedCue T i)
cue_single T i v u (past h e) (past k q) = e ∙ sym q
cue_single T i v u (past h e) (there k q) = absurd (omega arith)
cue_single T i v u (there h p) (past k q) = absurd (omega arith)
cue_single T i v u (there h p) (there k q) = part-single [] T _ _ v u p q

module _ (T : Tables) (lent : List ℕ) (a b : Reply) (l m : List ℕ) where
  pub determined_value : (value : Bytes) → ReferencedStyle value T lent a l → ReferencedStyle value T lent b m → (a ≡ b) × (l ≡ m)
  determined_value value p q =
      determined (of_value value) T lent (values_single value T 0 (span 0 (length value)) (span 0 0) blank_look) a b l m p.queried q.queried

  pub determined_region : (id : Bytes) → RegionStyle id T lent a l → RegionStyle id T lent b m → (a ≡ b) × (l ≡ m)
  determined_region id p q = determined (of_region id) T lent (part-single id T (region_named T id) (span 0 0)) a b l m p q

  pub determined_cue : (i : ℕ) → EffectiveStyle T i lent a l → EffectiveStyle T i lent b m → (a ≡ b) × (l ≡ m)
  determined_cue i p q = determined (of_cue_of i) T lent (cue_single T i) a b l m p q
