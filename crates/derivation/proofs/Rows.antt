-- Nodes in a row: what the readers by places and on lists answer, side by side; if the turns agree, the row agrees. The counts by places are
-- of what was read; on lists, of what may still begin. Assumes nothing.
--     Stands                        the bounds of a place and of the counts
--     Same, NodeSame, TurnSame      an answer by places says what one on lists says: of a row, of a node, of a turn
--     same_lower, node-lower        from a place on, and from an earlier one
--     node-turn                     a node that agrees makes a turn that agrees
--     row_same                      turns that agree make a row that agrees
use mathlib.Core.Path.{◌≡◌, refl, ap, subst⁻¹, ◌∙◌}
use Prim.Native.Nat.{ℕ, ◌-◌, ◌≤◌, ◌<◌}
use native.Mathlib.Omega.{arith}
use mathlib.Core.List.{List, []}
use lib.ListN.{length, drop, drop_of_length-le}
use Rattle.scan.specs.Loop as loops
use Rattle.scan.proofs.Loop.{loop-out, loop-halt, loop-more}
use Rattle.tree.specs.Read.{Out, got, nothing, bad, State, node_next, row_of}
use Rattle.grammar.specs.Tree.{Forest, none}
use Rattle.grammar.proofs.Counted.{LRes, lok, lbad, lmap, Counted}
use Rattle.derivation.specs.Strings.{tree_in}
use Rattle.derivation.proofs.SearchLaws.{from_end}
use Rattle.derivation.proofs.Joining.{joined, joined-none, tree-join, map_joined}

-- ---- the answers

-- k nodes and a attributes were read up to the place q
pub record Stands (s : List ℕ) (q k a : ℕ) : Type 0 where
  pub within : q ≤ length s
  pub most : k ≤ 8192
  pub least : a ≤ 8192

-- a row by places, from lo on, against one on lists
abbrev pub Same : List ℕ → ℕ → Out → LRes Forest → Type 0
Same s lo (got f q k a) l = (l ≡ lok (tree_in s f) (8192 - k) (8192 - a) (drop q s)) × (lo ≤ q) × Stands s q k a
Same s lo (nothing q) l = ⊥
Same s lo (bad n q) l = (l ≡ lbad n (length s - q)) × (q ≤ length s)

-- a node by places, at p or after comments, where k nodes and a attributes were read before, against a row on lists; rec reads its rest
abbrev pub NodeSame : List ℕ → Counted Forest → ℕ → ℕ → ℕ → Out → LRes Forest → Type 0
NodeSame s rec p k a (got f q k₂ a₂) l = (l ≡ lmap (joined (tree_in s f)) (rec (8192 - k₂) (8192 - a₂) (drop q s))) × (p < q) × Stands s q k₂ a₂
NodeSame s rec p k a (nothing q) l = (l ≡ lok none (8192 - k) (8192 - a) (drop q s)) × (p ≤ q) × (q ≤ length s)
NodeSame s rec p k a (bad n q) l = (l ≡ lbad n (length s - q)) × (q ≤ length s)

-- a turn of the loop at p, with the state x, against the rest of the row on lists
abbrev pub TurnSame : List ℕ → Counted Forest → ℕ → State → loops.Next State Out → LRes Forest → Type 0
TurnSame s rec p x (loops.halt o) l = Same s p o (lmap (joined (tree_in s x.forest)) l)
TurnSame s rec p x (loops.more q y) l =
    (lmap (joined (tree_in s x.forest)) l ≡ lmap (joined (tree_in s y.forest)) (rec (8192 - y.nodes) (8192 - y.attrs) (drop q s)))
    × (p < q) × Stands s q y.nodes y.attrs

pub same_lower : (s : List ℕ) (lo m : ℕ) (o : Out) (l l₂ : LRes Forest) → lo ≤ m → l ≡ l₂ → Same s m o l₂ → Same s lo o l
same_lower s lo m (got f q k a) l l₂ h e t = (e ∙ t.0, omega (arith, t.1), t.2)
same_lower s lo m (nothing q) l l₂ h e t = t
same_lower s lo m (bad n q) l l₂ h e t = (e ∙ t.0, t.1)

pub node-lower : (s : List ℕ) (rec : Counted Forest) (lo m k a : ℕ) (o : Out) (l l₂ : LRes Forest) → lo ≤ m → l ≡ l₂ → NodeSame s rec m k a o l₂
    → NodeSame s rec lo k a o l
node-lower s rec lo m k a (got f q k₂ a₂) l l₂ h e t = (e ∙ t.0, omega (arith, t.1), t.2)
node-lower s rec lo m k a (nothing q) l l₂ h e t = (e ∙ t.0, omega (arith, t.1), t.2)
node-lower s rec lo m k a (bad n q) l l₂ h e t = (e ∙ t.0, t.1)

-- a node is appended to what was read before
pub node-turn : (s : List ℕ) (rec : Counted Forest) (p : ℕ) (x : State) (o : Out) (l : LRes Forest) → Stands s p x.nodes x.attrs
    → NodeSame s rec p x.nodes x.attrs o l → TurnSame s rec p x (node_next x o) l
unfolding node_next
node-turn s rec p x (got f q k a) l b t =
    let X : Forest = tree_in s x.forest in
    (ap (lmap (joined X)) t.0 ∙ map_joined X (tree_in s f) (rec (8192 - k) (8192 - a) (drop q s)) ∙ rw (tree-join s x.forest f), t.1, t.2)
node-turn s rec p x (nothing q) l b t =
    let X : Forest = tree_in s x.forest in
    (ap (lmap (joined X)) t.0 ∙ rw (joined-none X), t.1, record { within = t.2; most = b.most; least = b.least })
node-turn s rec p x (bad n q) l b t = (ap (lmap (joined (tree_in s x.forest))) t.0, t.1)

-- ---- a row: if its turns agree, it agrees
module _ (s : List ℕ) (rec : Counted Forest) (turn : ℕ → State → loops.Next State Out) (ends : (k j : ℕ) → rec k j [] ≡ lok none k j [])
    (turns : (p : ℕ) (x : State) → p < length s → Stands s p x.nodes x.attrs
    → TurnSame s rec p x (turn p x) (rec (8192 - x.nodes) (8192 - x.attrs) (drop p s)))
  where
    -- the rest of the row on lists
    abbrev rest : ℕ → State → LRes Forest
    rest p x = lmap (joined (tree_in s x.forest)) (rec (8192 - x.nodes) (8192 - x.attrs) (drop p s))

    abbrev RowSame : ℕ → Type 0
    RowSame p = (x : State) → Stands s p x.nodes x.attrs → Same s p (row_of s turn p x) (rest p x)

    row_out : (p : ℕ) → length s ≤ p → RowSame p
    unfolding row_of
    row_out p h x b = subst⁻¹ (λ o. Same s p o (rest p x)) (loop-out (length s) turn _ p x h)
        (rw (drop_of_length-le s h, ends (8192 - x.nodes) (8192 - x.attrs), joined-none (tree_in s x.forest)), omega arith, b)

    row_on : (p : ℕ) → p < length s → ((q : ℕ) → p < q → RowSame q) → RowSame p
    unfolding row_of
    row_on p h later x b = by (turn p x) refl (turns p x h b)
      where
        by : (t : loops.Next State Out) → turn p x ≡ t → TurnSame s rec p x t (rec (8192 - x.nodes) (8192 - x.attrs) (drop p s))
            → Same s p (row_of s turn p x) (rest p x)
        by (loops.halt o) w t = subst⁻¹ (λ o. Same s p o (rest p x)) (loop-halt (length s) turn _ p x o h w) t
        by (loops.more q y) w t = subst⁻¹ (λ o. Same s p o (rest p x)) (loop-more (length s) turn _ p x q y h w t.1)
            (same_lower s p q (row_of s turn q y) (rest p x) (rest q y) (omega (arith, t.1)) t.0 (later q t.1 y t.2))

    pub row_same : (p : ℕ) → RowSame p
    row_same = from_end (length s) RowSame row_out row_on
