-- How a style value is resolved (document 01, Styles; the Rust's `apply_style_ref`, `resolve_referenced_style`). Definitions alone.
-- Read `IsWalk`: its equations are the rule, and `proofs/Equations` shows that `walk` meets them and that nothing else does.
use Prim.Native.Nat.{ℕ, zero, suc}
use Rattle.std.specs.Prelude.{◌≡◌, Bool, cond, ◌↔◌, List, [], ◌∷◌, ◌++◌, length}
use Rattle.std.proofs.Math.Bool.{true, false}
use Rattle.std.proofs.Math.Option.{Option, none, some}
use Rattle.utf8.specs.White.{words}
use Rattle.names.specs.Numbers.{is_in}
use Rattle.track.specs.Track.{Bytes, Look, Style}
use Rattle.records.specs.Find.{find_style}
use Rattle.styles.specs.Reaches.{parents, Reaches, Exactly}
use Rattle.styles.specs.Values.{blank, overlay}

-- What is known on the way: the ids visited, in the order of their first visit; whether a style was met; the styles met so far, each laid
-- over those before it.
pub record Walked : Type 0 where
  pub visited : List Bytes
  pub found : Bool
  pub look : Look Bytes

unfoldable pub start : Walked
unfolding blank
start = record { visited = []; found = false; look = blank }

-- an id is visited for the first time
unfoldable pub meet : Bytes → Walked → Walked
meet a w = record { visited = w.visited ++ (a ∷ []); found = w.found; look = w.look }

-- a style is applied
abbrev pub applied : Walked → Option (Style Bytes) → Walked
applied w none = w
applied w (some x) = record { visited = w.visited; found = true; look = overlay w.look x.look }

module _ (styles : List (Style Bytes)) where
  -- the style of this name itself, the first of equal names
  unfoldable pub own : Bytes → Walked → Walked
  own a w = applied w (find_style a styles)

  -- "In a chain each parent is applied before the style itself, and a visited id contributes nothing."
  pub record IsWalk (f : List Bytes → Walked → Walked) : Type 0 where
    pub none : (w : Walked) → f [] w ≡ w
    pub again : (a : Bytes) (ids : List Bytes) (w : Walked) → is_in a w.visited ≡ true → f (a ∷ ids) w ≡ f ids w
    pub first : (a : Bytes) (ids : List Bytes) (w : Walked)
        → is_in a w.visited ≡ false → f (a ∷ ids) w ≡ f ids (own a (f (parents styles a) (meet a w)))

  -- ---- the same as a function. Chains that are open at one time begin at different styles, so n need not exceed their number by more than 1.
  unfoldable pub each : (Bytes → Walked → Walked) → List Bytes → Walked → Walked
  each f [] w = w
  each f (a ∷ ids) w = each f ids (f a w)

  unfoldable pub visit_as : (List Bytes → Walked → Walked) → Bytes → Walked → (before : Bool) → Walked
  unfolding own meet parents
  visit_as walk a w true = w
  visit_as walk a w false = own a (walk (parents styles a) (meet a w))

  unfoldable pub visit_by : ℕ → Bytes → Walked → Walked
  unfolding each visit_as
  visit_by zero a w = w
  visit_by (suc n) a w = visit_as (each (visit_by n)) a w (is_in a w.visited)

  unfoldable pub walk : List Bytes → Walked → Walked
  unfolding each visit_by
  walk ids w = each (visit_by (suc (length styles))) ids w

-- the answer to a query: a style or none, and the ids reached
pub record Resolution : Type 0 where
  pub style : Option (Look Bytes)
  pub ids : List Bytes

unfoldable pub answered : Walked → Resolution
answered w = record { style = cond w.found (some w.look) none; ids = w.visited }

-- the Rust's `resolve_referenced_style`
unfoldable pub resolve : List (Style Bytes) → Bytes → Resolution
unfolding walk start answered
resolve styles value = answered (walk styles (words value) start)

-- what document 01 says of every answer: "gives no style exactly if no id reachable through chains names one. Added: the ids reached, each
-- once, … and their count, equal to the number of distinct ids reachable"
pub record Answers (styles : List (Style Bytes)) (value : Bytes) (r : Resolution) : Type 0 where
  pub ids_reached : Exactly (Reaches styles value) r.ids
  pub count : (others : List Bytes) → Exactly (Reaches styles value) others → length r.ids ≡ length others
  pub no_style : (r.style ≡ none) ↔ ((a : Bytes) → Reaches styles value a → find_style a styles ≡ none)
