-- How a style and a region of the head stand in their tables. Definitions alone.
use Rattle.std.specs.Prelude.{Option, Some, None, Result, Ok, Err, ℕ, ◌+◌, ◌*◌, ◌≡◌, cond, List, [], ◌∷◌, eqb, length, Float}
use Rattle.std.proofs.Math.Option.{none, some}
use Rattle.std.proofs.lemmas.List.Edits.{sets}
use Rattle.names.specs.Lists.{style_extra, region_attr}
use Rattle.track.specs.declared.strings.Span.{Span}
use Rattle.track.specs.Track.{Look, Style, Region}
use Rattle.track.specs.Layout.{style_cells, region_cells, size_value}
use Rattle.xml.specs.Reading as xml
use Rattle.meaning.specs.Words.{ascii}
use Rattle.meaning.specs.Answers.{Answer, is, ◌>>=◌, within}
use Rattle.meaning.specs.Nodes.{Attr, valued, id_of}
use Rattle.meaning.specs.Kinds.{with_places}
use Rattle.meaning.specs.Styling.{chain_in, extra_of_style, every_extra, extras_from, style_of, region_of}
use Rattle.laid.specs.Laid.{laid_style, laid_region}
use Rattle.styling.specs.Posts.{turned}
use Rattle.extras.specs.Kept.{placed_cells}
use Rattle.tree.specs.declared.answers.Refusal.{Refusal}

-- a string without bytes is absent: place 0
abbrev pub emptied : Span → Span
emptied c = cond (eqb c.len 0) (record { place = 0; len = 0 }) c

-- ---- a style
-- `style_of` when its look is known
abbrev pub style_of_look : (id : xml.Placed) → List (Attr xml.Placed) → Look xml.Placed → Style xml.Placed
style_of_look id l look = record {
  name = id;
  chain = chain_in with_places (valued with_places (ascii "style") l);
  look = look;
  extras = extras_from with_places extra_of_style 0 style_extra l;
}

-- s stands in the n-th row, and its r extras from row `at` on; all else is as it was
pub record Styled (s : Style xml.Placed) (n at : ℕ) (t t' : List ℕ) (f f' : List Float) (e e' : List ℕ) (r : ℕ) : Type 0 where
  pub count : r ≡ length s.extras
  pub row : t' ≡ sets t (n * 27) (style_cells (laid_style at s).style)
  pub float : f' ≡ sets f n (size_value (laid_style at s).style.look.has_size (laid_style at s).style.look.size ∷ [])
  pub rows : e' ≡ sets e (at * 3) (placed_cells s.extras)

-- evaluated with its limit, it is the one that stands there; or it is refused, and nothing is written
abbrev pub style_within : (id : xml.Placed) → List (Attr xml.Placed) → (place n : ℕ) → Answer (Style xml.Placed)
style_within id l place n = style_of with_places id l >>= λ s. within 256 (n + 1) place s

abbrev pub NamedMade : (id : xml.Placed) → List (Attr xml.Placed) → (place n at : ℕ) → (t t' : List ℕ) (f f' : List Float) (e e' : List ℕ)
    → Result (Option ℕ) Refusal
    → Type 0
NamedMade id l place n at t t' f f' e e' (Ok (Some m)) =
    (s : Style xml.Placed) × (style_within id l place n ≡ is s) × Styled s n at t t' f f' e e' m
NamedMade id l place n at t t' f f' e e' (Ok None) = ⊥
NamedMade id l place n at t t' f f' e e' (Err r) = (style_within id l place n ≡ turned r) × (t' ≡ t) × (f' ≡ f) × (e' ≡ e)

abbrev pub StyleMade : List (Attr xml.Placed) → (place n at : ℕ) → (t t' : List ℕ) (f f' : List Float) (e e' : List ℕ)
    → Result (Option ℕ) Refusal → Type 0
StyleMade l place n at t t' f f' e e' (Ok (Some m)) =
    (id : xml.Placed) × (id_of with_places l ≡ some id) × NamedMade id l place n at t t' f f' e e' (Ok (Some m))
StyleMade l place n at t t' f f' e e' (Ok None) = (id_of with_places l ≡ none) × (t' ≡ t) × (f' ≡ f) × (e' ≡ e)
StyleMade l place n at t t' f f' e e' (Err r) =
    (id : xml.Placed) × (id_of with_places l ≡ some id) × NamedMade id l place n at t t' f f' e e' (Err r)

-- ---- a region
abbrev pub region_with : (id : xml.Placed) → List (Attr xml.Placed) → Region xml.Placed
region_with id l = record { id = id; extras = extras_from with_places every_extra 0 region_attr l }

pub record Placed (s : Region xml.Placed) (n at : ℕ) (t t' : List ℕ) (e e' : List ℕ) (r : ℕ) : Type 0 where
  pub count : r ≡ length s.extras
  pub row : t' ≡ sets t (n * 4) (region_cells (laid_region at s).region)
  pub rows : e' ≡ sets e (at * 3) (placed_cells s.extras)

abbrev pub region_within : (id : xml.Placed) → List (Attr xml.Placed) → (place n : ℕ) → Answer (Region xml.Placed)
region_within id l place n = region_of with_places id l >>= λ s. within 256 (n + 1) place s

abbrev pub RegionMade : List (Attr xml.Placed) → (place n at : ℕ) → (t t' : List ℕ) (e e' : List ℕ) → Result (Option ℕ) Refusal → Type 0
RegionMade l place n at t t' e e' (Ok (Some m)) =
    (id : xml.Placed) × (id_of with_places l ≡ some id)
    × ((s : Region xml.Placed) × (region_within id l place n ≡ is s) × Placed s n at t t' e e' m)
RegionMade l place n at t t' e e' (Ok None) = (id_of with_places l ≡ none) × (t' ≡ t) × (e' ≡ e)
RegionMade l place n at t t' e e' (Err r) =
    (id : xml.Placed) × (id_of with_places l ≡ some id) × (region_within id l place n ≡ turned r) × (t' ≡ t) × (e' ≡ e)
