-- Where the ids of an answer and its font family stand: the walk of `Resolve`, with strings by their places and not by their bytes. An id is a row
-- of the table of ids, and a look the program's struct, in which a family is a part of the strings. Definitions alone. The walk has one outcome
-- at most (`proofs/Places`); with its places forgotten it is the walk of `Resolve` (`proofs/Forgetting`).
--     s is the styles' table, f the sizes, z the strings, n the number of styles
use Rattle.std.specs.Prelude.{Option, Some, None, ℕ, ◌+◌, ◌-◌, ◌*◌, ◌≡◌, Bool, true, false, cond, not, List, [], ◌∷◌, ◌++◌, get_or, Float}
use Rattle.utf8.specs.White.{WordAt, NextWord}
use Rattle.names.specs.Numbers.{is_in}
use Rattle.track.specs.declared.strings.Span.{Span}
use Rattle.track.specs.declared.values.Look.{Look}
use Rattle.track.specs.Track.{Bytes}
use Rattle.track.specs.Tables.{span, style_at}
use Rattle.track.specs.Meaning.{look_in_of}
use Rattle.records.specs.Find.{first_row, first_with}
use Rattle.styles.specs.Resolve.{Walked}
use Rattle.styles.specs.Cells.{overlaid, blank_look, is_plain}
use Rattle.styles.specs.Ids.{Row, bytes_of, names_of}

-- a string of a source
abbrev pub row : (source : ℕ) → Span → Row
row source x = record { source = source; place = x.place; len = x.len }

-- its part from a to e
abbrev pub within : Row → ℕ → ℕ → Row
within r a e = record { source = r.source; place = r.place + a; len = e - a }

-- what is known on the way, as in `Resolve`
pub record WalkedAt : Type 0 where
  pub visited : List Row
  pub found : Bool
  pub look : Look

-- the same without places
abbrev pub forget : (text z : Bytes) → WalkedAt → Walked
forget text z w = record { visited = names_of text z w.visited; found = w.found; look = look_in_of z w.look }

abbrev pub is_visited : (text z : Bytes) → Row → WalkedAt → Bool
is_visited text z a w = is_in (bytes_of text z a) (names_of text z w.visited)

unfoldable pub start_at : WalkedAt
unfolding blank_look
start_at = record { visited = []; found = false; look = blank_look }

-- an id is visited for the first time
unfoldable pub meet_at : Row → WalkedAt → WalkedAt
meet_at a w = record { visited = w.visited ++ (a ∷ []); found = w.found; look = w.look }

-- the first chain of a style of this name; no bytes where there is none
abbrev pub chain_of : List ℕ → Option ℕ → Span
chain_of s (Some i) = span (get_or s (i * 27 + 2) 0) (get_or s (i * 27 + 3) 0)
chain_of s None = span 0 0

unfoldable pub chain_at : (s z : List ℕ) → ℕ → Bytes → Row
unfolding first_with
chain_at s z n name = row 1 (chain_of s (first_with s z name 27 3 n 0))

-- the style of this name itself, the first of equal names
abbrev pub applied_at : List ℕ → List Float → WalkedAt → Option ℕ → WalkedAt
applied_at s f w (Some i) = record { visited = w.visited; found = true; look = overlaid w.look (style_at s f i).look }
applied_at s f w None = w

unfoldable pub own_at : List ℕ → List Float → List ℕ → ℕ → Bytes → WalkedAt → WalkedAt
unfolding first_row style_at overlaid
own_at s f z n name w = applied_at s f w (first_row s z name 27 n 0)

-- a look laid over what is known, where it is given
abbrev pub laid_at : WalkedAt → Bool → Look → WalkedAt
laid_at w true x = record { visited = w.visited; found = true; look = cond w.found (overlaid w.look x) x }
laid_at w false x = w

module _ (text s : List ℕ) (f : List Float) (z : List ℕ) (n : ℕ) where
  -- "In a chain each parent is applied before the style itself, and a visited id contributes nothing." The words of the string r, from its place p
  -- on, take what is known from w to v: there is none; or the next one, from a to e, was visited before; or it was not.
  pub data Walks : Row → ℕ → WalkedAt → WalkedAt → Type 0 where
    none : {r : Row} {p : ℕ} {w v : WalkedAt} → NextWord (bytes_of text z r) p None → v ≡ w → Walks r p w v
    again : {r : Row} {p a e : ℕ} {w v : WalkedAt} → WordAt (bytes_of text z r) p a e → is_visited text z (within r a e) w ≡ true
        → Walks r e w v → Walks r p w v
    first : {r : Row} {p a e : ℕ} {w m v : WalkedAt} → WordAt (bytes_of text z r) p a e → is_visited text z (within r a e) w ≡ false
        → Walks (chain_at s z n (bytes_of text z (within r a e))) 0 (meet_at (within r a e) w) m
        → Walks r e (own_at s f z n (bytes_of text z (within r a e)) m) v → Walks r p w v

  -- the style of a value, and the ids of two: those of the first, then those that the second adds to them
  pub record Joined (one two : Row) (v : WalkedAt) : Type 0 where
    pub below : WalkedAt
    pub all : WalkedAt
    pub its_style : Walks one 0 start_at below
    pub its_ids : Walks two 0 below all
    pub is : v ≡ record { visited = all.visited; found = below.found; look = below.look }

  -- the same, over its style a look where that says something, and over that the style of the second value by itself
  pub record Resolves (one two : Row) (look : Look) (v : WalkedAt) : Type 0 where
    pub below : WalkedAt
    pub above : WalkedAt
    pub joined : Joined one two below
    pub second : Walks two 0 start_at above
    pub is : v ≡ laid_at (laid_at below (not (is_plain look)) look) above.found above.look
