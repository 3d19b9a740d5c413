-- The three queries on a track (document 01, Styles). Definitions alone.
-- The style's name in an answer: `trimmed` of the value asked for, the region's id, and nothing for a cue.
use Rattle.std.specs.Prelude.{ℕ, zero, suc, cond, List, [], ◌∷◌, ◌++◌}
use Rattle.std.proofs.Math.Option.{Option, none, some}
use Rattle.names.specs.Numbers.{is_in}
use Rattle.track.specs.Track.{Bytes, Look, Style, Region, Cue, Track}
use Rattle.records.specs.Find.{find_region}
use Rattle.styles.specs.Values.{unstyled, laid_over}
use Rattle.styles.specs.Resolve.{Resolution, resolve}
use Rattle.styles.specs.Own.{Read, is, next, value_of, own_values}

-- ---- a value that may be absent
unfoldable pub nothing : Resolution
nothing = record { style = none; ids = [] }

abbrev pub resolve_optional : List (Style Bytes) → Option Bytes → Resolution
resolve_optional styles none = nothing
resolve_optional styles (some v) = resolve styles v

-- the Rust's `resolve_referenced_style`
abbrev pub referenced_style : Track Bytes → Bytes → Resolution
referenced_style t value = resolve t.styles value

-- ---- a region: its chain, and over it what it says itself
abbrev pub styled : Look Bytes → Option (Look Bytes)
styled x = cond (unstyled x) none (some x)

abbrev pub with_own : Resolution → Look Bytes → Resolution
with_own r x = record { style = laid_over r.style (styled x); ids = r.ids }

abbrev pub region_found : List (Style Bytes) → Option (Region Bytes) → Read Resolution
region_found styles none = is nothing
region_found styles (some g) =
    next (own_values g.extras) λ own. is (with_own (resolve_optional styles (value_of "style" g.extras)) own)

-- the Rust's `region_style`
unfoldable pub region_style : Track Bytes → Bytes → Read Resolution
unfolding nothing resolve own_values value_of
region_style t id = region_found t.styles (find_region id t.regions)

-- ---- a cue: its region, and over it its own value. These are two resolutions; the ids of both are given, each once.
unfoldable pub others : List Bytes → List Bytes → List Bytes
others l [] = []
others l (a ∷ ids) = cond (is_in a l) (others l ids) (a ∷ others l ids)

abbrev pub both : Resolution → Resolution → Resolution
both r s = record { style = laid_over r.style s.style; ids = r.ids ++ others r.ids s.ids }

abbrev pub region_optional : Track Bytes → Option Bytes → Read Resolution
region_optional t none = is nothing
region_optional t (some id) = region_style t id

abbrev pub cue_found : Track Bytes → Option (Cue Bytes) → Read Resolution
cue_found t none = is nothing
cue_found t (some c) = next (region_optional t c.region) λ r. is (both r (resolve_optional t.styles c.style))

unfoldable pub nth : {A : Type 0} → List A → ℕ → Option A
nth [] i = none
nth (x ∷ l) zero = some x
nth (x ∷ l) (suc i) = nth l i

-- the Rust's `effective_style_for_cue_index`: "A cue index past the end gives no style."
unfoldable pub effective_style : Track Bytes → ℕ → Read Resolution
unfolding nothing resolve region_style others nth
effective_style t i = cue_found t (nth t.cues i)
