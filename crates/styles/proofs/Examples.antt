-- Worked cases, each as the Rust answers it. Assumes nothing.
use Prim.Native.Nat.{ℕ}
use Prim.Native.String.{String}
use mathlib.Core.Path.{◌≡◌, refl}
use mathlib.Core.Bool.{Bool, true, false, cond}
use mathlib.Core.List.{List, [], ◌∷◌, map}
use mathlib.Core.Option.{Option, none, some}
use lib.Dec.{eqb}
use lib.IntN.{pos}
use lib.ListN.{length}
use Rattle.scan.specs.Loop.{loop, go}
use Rattle.scan.specs.Names.{same_bytes_of, same_folded}
use Rattle.utf8.specs.Utf8.{sequence_at, char_at}
use Rattle.utf8.specs.White.{is_white, white_at, white_before, trimmed, words}
use Rattle.scan.specs.Marks.{starts_at}
use Rattle.names.specs.Numbers.{is_in}
use Rattle.colors.specs.Colors.{color_in}
use Rattle.records.specs.Find.{find_style, find_chain, find_region}
use Rattle.colors.specs.declared.read.Rgba.{Rgba}
use Rattle.colors.specs.Named.{rgba, named_in}
use Rattle.track.specs.declared.values.Align.{Align}
use Rattle.track.specs.Track.{Bytes, Look, Extra, Style, Region, Cue, Track}
use Rattle.track.specs.Track as abstract
use Rattle.styles.specs.Values.{blank, overlay, unstyled}
use Rattle.styles.specs.Resolve.{Resolution, resolve}
use Rattle.styles.specs.Own.{Read, is, ascii}
use Rattle.styles.specs.Queries.{region_style, effective_style}

data Mark : Type 0 where
  red blue lime bold italic underline strike center end left : Mark

marked : Option Rgba → (bold italic underline strike : Bool) → Align → Look Bytes
marked c b i u s a = record { color = c; back = none; family = none; size = none; bold = b; italic = i; underline = u; strike = s; align = a }

mark : Mark → Look Bytes
unfolding marked
mark red = marked (some (rgba 255 0 0 255)) false false false false Align.Start
mark blue = marked (some (rgba 0 0 255 255)) false false false false Align.Start
mark lime = marked (some (rgba 0 255 0 255)) false false false false Align.Start
mark bold = marked none true false false false Align.Start
mark italic = marked none false true false false Align.Start
mark underline = marked none false false true false Align.Start
mark strike = marked none false false false true Align.Start
mark center = marked none false false false false Align.Center
mark end = marked none false false false false Align.End
mark left = marked none false false false false Align.Left

all : List Mark → Look Bytes
unfolding mark overlay blank
all [] = blank
all (m ∷ l) = overlay (mark m) (all l)

optional : String → Option Bytes
optional s = cond (eqb (length (ascii s)) 0) none (some (ascii s))

style : String → String → List Mark → Style Bytes
unfolding all optional
style name chain l = record { name = ascii name; chain = optional chain; look = all l; extras = [] }

extra : ℕ → String → Extra Bytes
extra n v = record { number = n; value = ascii v }

region : String → List (Extra Bytes) → Region Bytes
region id l = record { id = ascii id; extras = l }

cue : String → String → Cue Bytes
unfolding optional
cue g s = record {
  start = pos 0;
  end = pos 1;
  style = optional s;
  region = optional g;
  preserve = false;
  extras = [];
  segments = abstract.done;
}

track : List (Style Bytes) → List (Region Bytes) → List (Cue Bytes) → Track Bytes
track s g c = record { lang = none; params = []; styles = s; regions = g; cues = c }

no_style_lem : List String → Resolution
no_style_lem ids = record { style = none; ids = map ascii ids }

styled_as : List Mark → List String → Resolution
unfolding all
styled_as l ids = record { style = some (all l); ids = map ascii ids }

-- what the definition gives, and the Rust's answer
record Case : Type 0 where
  given : Read Resolution
  expected : Read Resolution

query : Read Resolution → Resolution → Case
query r e = record { given = r; expected = is e }

case : Resolution → Resolution → Case
case r e = record { given = is r; expected = is e }

cases : List Case
unfolding style region extra cue track no_style_lem styled_as query case
cases =
    -- A style of its own: parents first, then itself
    (case (resolve (style "a" "b" (red ∷ []) ∷ style "b" "" (blue ∷ bold ∷ []) ∷ []) (ascii "a"))
    (styled_as (red ∷ bold ∷ []) ("a" ∷ "b" ∷ [])))
    -- A cycle
    ∷ (case (resolve (style "a" "b" (red ∷ []) ∷ style "b" "a" (blue ∷ italic ∷ []) ∷ []) (ascii "a"))
    (styled_as (red ∷ italic ∷ []) ("a" ∷ "b" ∷ [])))
    -- An id that is its own parent
    ∷ (case (resolve (style "a" "a a" (bold ∷ []) ∷ []) (ascii " a  a ")) (styled_as (bold ∷ []) ("a" ∷ [])))
    -- A diamond: the shared grandparent is visited under its first child
    ∷ (case (resolve (style "a" "b c" (red ∷ []) ∷ style "b" "d" (center ∷ []) ∷ style "c" "d" (end ∷ []) ∷ style "d" "" (underline
    ∷ left ∷ []) ∷ []) (ascii "a")) (styled_as (red ∷ underline ∷ end ∷ []) ("a" ∷ "b" ∷ "d" ∷ "c" ∷ [])))
    -- A parent that is named later too was applied before its child
    ∷ (case (resolve (style "a" "b" (red ∷ []) ∷ style "b" "" (blue ∷ []) ∷ []) (ascii "a b")) (styled_as (red ∷ []) ("a" ∷ "b" ∷ [])))
    -- A visited id contributes nothing the second time
    ∷ (case (resolve (style "a" "" (red ∷ []) ∷ style "b" "" (blue ∷ []) ∷ []) (ascii "a b a")) (styled_as (blue ∷ []) ("a" ∷ "b" ∷ [])))
    -- Of equal names the first gives the values, and the first with a chain the chain
    ∷ (case (resolve (style "a" "" (red ∷ []) ∷ style "a" "b" (blue ∷ bold ∷ []) ∷ style "a" "c" (italic ∷ [])
    ∷ style "b" "" (underline ∷ []) ∷ style "c" "" (strike ∷ []) ∷ []) (ascii "a")) (styled_as (red ∷ underline ∷ []) ("a" ∷ "b" ∷ [])))
    -- Unknown ids are reached and name no style
    ∷ (case (resolve (style "a" "" (bold ∷ []) ∷ []) (ascii "x y")) (no_style_lem ("x" ∷ "y" ∷ [])))
    -- An unknown id among known ones
    ∷ (case (resolve (style "a" "x b" (bold ∷ []) ∷ style "b" "" (italic ∷ []) ∷ []) (ascii "z a"))
    (styled_as (bold ∷ italic ∷ []) ("z" ∷ "a" ∷ "x" ∷ "b" ∷ [])))
    -- A value without ids
    ∷ (case (resolve (style "a" "" (bold ∷ []) ∷ []) (ascii "  ")) (no_style_lem []))
    -- A style without values is a style
    ∷ (case (resolve (style "a" "" [] ∷ []) (ascii "a")) (styled_as [] ("a" ∷ [])))
    -- A cycle of three, entered in the middle
    ∷ (case (resolve (style "a" "b" (red ∷ []) ∷ style "b" "c" (blue ∷ []) ∷ style "c" "a" (lime ∷ []) ∷ []) (ascii "b"))
    (styled_as (blue ∷ []) ("b" ∷ "c" ∷ "a" ∷ [])))
    -- A region: its chain, then its own values
    ∷ (query (region_style (track (style "c" "d" (italic ∷ end ∷ []) ∷ []) (region "r" (extra 39 "center" ∷ extra 50 "c" ∷ [])
    ∷ []) []) (ascii "r")) (styled_as (italic ∷ center ∷ []) ("c" ∷ "d" ∷ [])))
    -- A region that says nothing has no style
    ∷ (query (region_style (track (style "c" "" (bold ∷ []) ∷ []) (region "r" (extra 39 "start" ∷ extra 50 "x" ∷ []) ∷ []) []) (ascii "r"))
    (no_style_lem ("x" ∷ [])))
    -- An unknown region
    ∷ (query (region_style (track (style "r" "" (bold ∷ []) ∷ []) (region "s" (extra 9 "red" ∷ []) ∷ []) []) (ascii "r")) (no_style_lem []))
    -- A cue: its region, then its own value; an id that both reach counts in both, and is given once
    ∷ (query (effective_style (track (style "a" "d" (red ∷ []) ∷ style "d" "" (blue ∷ bold ∷ []) ∷ []) (region "r" (extra 9 "lime"
    ∷ extra 50 "d" ∷ []) ∷ []) (cue "r" "a" ∷ [])) 0) (styled_as (red ∷ bold ∷ []) ("d" ∷ "a" ∷ [])))
    -- The order: an id, then its parents from left to right, each followed out fully; d is listed when it is named again
    ∷ (case (resolve (style "a" "c b" [] ∷ style "b" "d" [] ∷ []) (ascii "a d")) (styled_as [] ("a" ∷ "c" ∷ "b" ∷ "d" ∷ [])))
    -- Of a cue the region's ids first, then those of its style that are new
    ∷ (query (effective_style (track (style "a" "c b" [] ∷ style "b" "d" [] ∷ []) (region "r" (extra 50 "b e" ∷ []) ∷ []) (cue "r" "a d" ∷ [])) 0)
    (styled_as [] ("b" ∷ "d" ∷ "e" ∷ "a" ∷ "c" ∷ [])))
    -- A cue index past the end
    ∷ (query (effective_style (track (style "a" "" (red ∷ []) ∷ []) [] (cue "" "a" ∷ [])) 1) (no_style_lem []))
    ∷ []

as_the_rust : map (λ (c : Case). c.given) cases ≡ map (λ (c : Case). c.expected) cases
unfolding cases resolve region_style effective_style unstyled is_in find_style find_chain find_region same_bytes_of words loop go white_at sequence_at
    is_white char_at trimmed white_before same_folded color_in starts_at named_in
as_the_rust = refl
