-- What the readers of the head ask and ensure. This file need not be believed: `parse` promises what is left in the end.
use Rattle.std.specs.Prelude.{Result, Ok, Err, ℕ, ◌+◌, ◌≤◌, ◌<◌, ◌^◌, ◌≡◌, List, [], length, replicate, Float}
use Rattle.tree.specs.Trees.{Forest, size, attrs_of}
use Rattle.track.specs.Track.{Style, Region}
use Rattle.track.specs.Tables.{Lengths, zero_float}
use Rattle.track.specs.Layout.{each, filled, filled_sizes, joined_cells, style_cells, style_size, region_cells}
use Rattle.track.specs.Layout as placing
use Rattle.xml.specs.Find.{Holds}
use Rattle.xml.specs.Reading.{Placed}
use Rattle.meaning.specs.Answers.{Answer, is, ◌>>=◌}
use Rattle.meaning.specs.Words.{ascii}
use Rattle.meaning.specs.Nodes.{Nodes}
use Rattle.meaning.specs.Kinds.{with_places, nodes_in}
use Rattle.meaning.specs.Styling.{style_of, region_of}
use Rattle.meaning.specs.Meaning.{inside, listed}
use Rattle.laid.specs.Laid.{laid_styles, laid_regions, total, style_extras, region_extras}
use Rattle.styling.specs.Posts.{turned}
use Rattle.extras.specs.Counts.{attrs_named}
use Rattle.heads.specs.declared.collect.Count.{Count}
use Rattle.heads.specs.declared.collect.Heads.{Heads}
use Rattle.tree.specs.declared.answers.Refusal.{Refusal}

-- ---- siblings

-- those in rows `from` up to `end`, with all that stands in them
pub record Children (t u z : List ℕ) (from end : ℕ) : Type 0 where
  pub own : ℕ
  pub forest : Forest
  pub holds : Holds t u z from own forest
  pub rows : from + size forest ≡ end

-- how many attributes they have with all that stands in them; and how many the first styling, layout or head among them has
abbrev pub in_all : (z : List ℕ) → Forest → ℕ
in_all z f = length (attrs_of f)

abbrev pub in_styling : (z : List ℕ) → Forest → ℕ
in_styling z f = attrs_named z (ascii "styling") f

abbrev pub in_layout : (z : List ℕ) → Forest → ℕ
in_layout z f = attrs_named z (ascii "layout") f

abbrev pub in_head_of : (z : List ℕ) → Forest → ℕ
in_head_of z f = attrs_named z (ascii "head") f

-- ---- a list of styles, or of regions

-- m is what elements of `many` attributes mean, where `rows` extras stand before theirs
module _ {A : Type 0} (extras : A → ℕ) (m : Answer (List A)) (rows many : ℕ) (Standing : List A → Type 0) where
  pub record Listing (r : Count) : Type 0 where
    pub all : List A
    pub means : m ≡ is all
    pub count : r.rows ≡ length all
    pub few : length all ≤ 256
    pub kept : r.extras ≡ rows + total extras all
    pub within : r.extras ≤ rows + many
    pub standing : Standing all

  abbrev pub Outcome : Result Count Refusal → Type 0
  Outcome (Ok r) = Listing r
  Outcome (Err q) = m ≡ turned q

-- ---- styles

abbrev pub extras_of_style : Style Placed → ℕ
extras_of_style x = length x.extras

-- the styles among siblings; those of the first styling
abbrev pub listed_styles : Nodes Placed → Answer (List (Style Placed))
listed_styles f = listed with_places (ascii "style") (style_of with_places) 0 f

abbrev pub styles_in : Nodes Placed → Answer (List (Style Placed))
styles_in f = listed_styles (inside with_places (ascii "styling") f)

-- the styles l stand in their tables, so long each, and no others; their extras in the table that was e before
pub record StylesStand (n : Lengths) (e : List ℕ) (l : List (Style Placed)) (s : List ℕ) (f : List Float) (e' : List ℕ) : Type 0 where
  pub in_styles : s ≡ filled n.styles (joined_cells (λ x. style_cells x.style) (laid_styles 0 l))
  pub in_sizes : f ≡ filled_sizes n.sizes (each style_size (laid_styles 0 l))
  pub in_extras : e' ≡ placing.style_extras e (laid_styles 0 l)

-- no style stands in tables that are long enough, and there is room for the extras
pub record AsksStyles (many : List ℕ → Forest → ℕ) (t u z : List ℕ) (from end : ℕ) (s : List ℕ) (f : List Float) (e : List ℕ) : Type 0 where
  pub small : length z < 2 ^ 32
  pub long_styles : 6912 ≤ length s
  pub long_sizes : 256 ≤ length f
  pub long_extras : 24576 ≤ length e
  pub lengths : Lengths
  pub none : StylesStand lengths e [] s f e
  pub children : Children t u z from end
  pub room : many z children.forest ≤ 8192

abbrev pub StylesPost : (m : Nodes Placed → Answer (List (Style Placed))) (many : List ℕ → Forest → ℕ) (t u z : List ℕ) (from end : ℕ)
    (s s' : List ℕ) (f f' : List Float) (e e' : List ℕ) → Result Count Refusal → Type 0
StylesPost m many t u z from end s s' f f' e e' r =
    (n : Lengths) → StylesStand n e [] s f e → (x : Children t u z from end)
    → Outcome extras_of_style (m (nodes_in z x.forest)) 0 (many z x.forest) (λ l. StylesStand n e l s' f' e') r

-- ---- regions

abbrev pub extras_of_region : Region Placed → ℕ
extras_of_region x = length x.extras

-- the regions among siblings; those of the first layout
abbrev pub listed_regions : Nodes Placed → Answer (List (Region Placed))
listed_regions f = listed with_places (ascii "region") (region_of with_places) 0 f

abbrev pub regions_in : Nodes Placed → Answer (List (Region Placed))
regions_in f = listed_regions (inside with_places (ascii "layout") f)

-- the regions l stand in their table, and no others; their extras from row `rows` on in the table that was e before
pub record RegionsStand (n : Lengths) (rows : ℕ) (e : List ℕ) (l : List (Region Placed)) (s e' : List ℕ) : Type 0 where
  pub in_regions : s ≡ filled n.regions (joined_cells (λ x. region_cells x.region) (laid_regions rows l))
  pub in_extras : e' ≡ placing.region_extras e (laid_regions rows l)

pub record AsksRegions (many : List ℕ → Forest → ℕ) (t u z : List ℕ) (from end rows : ℕ) (s e : List ℕ) : Type 0 where
  pub small : length z < 2 ^ 32
  pub long_regions : 1024 ≤ length s
  pub long_extras : 24576 ≤ length e
  pub lengths : Lengths
  pub none : RegionsStand lengths rows e [] s e
  pub children : Children t u z from end
  pub room : rows + many z children.forest ≤ 8192

abbrev pub RegionsPost : (m : Nodes Placed → Answer (List (Region Placed))) (many : List ℕ → Forest → ℕ) (t u z : List ℕ) (from end rows : ℕ)
    (s s' e e' : List ℕ) → Result Count Refusal → Type 0
RegionsPost m many t u z from end rows s s' e e' r =
    (n : Lengths) → RegionsStand n rows e [] s e → (x : Children t u z from end)
    → Outcome extras_of_region (m (nodes_in z x.forest)) rows (many z x.forest) (λ l. RegionsStand n rows e l s' e') r

-- ---- the head

abbrev pub paired : {A B : Type 0} → Answer A → Answer B → Answer (A × B)
paired a b = a >>= λ x. b >>= λ y. is (x, y)

-- what the head's content means; what tt's content means, as far as its head
abbrev pub head_of : Nodes Placed → Answer (List (Style Placed) × List (Region Placed))
head_of f = paired (styles_in f) (regions_in f)

abbrev pub inside_head : Nodes Placed → Nodes Placed
inside_head f = inside with_places (ascii "head") f

abbrev pub head_in : Nodes Placed → Answer (List (Style Placed) × List (Region Placed))
head_in f = head_of (inside_head f)

pub record HeadTables : Type 0 where
  pub styles : List ℕ
  pub regions : List ℕ
  pub sizes : List Float
  pub extras : List ℕ

abbrev pub four : (styles regions : List ℕ) (sizes : List Float) (extras : List ℕ) → HeadTables
four s r f e = record { styles = s; regions = r; sizes = f; extras = e }

-- every cell is zero
pub record Cleared (n : Lengths) (T : HeadTables) : Type 0 where
  pub styles : T.styles ≡ replicate n.styles 0
  pub regions : T.regions ≡ replicate n.regions 0
  pub sizes : T.sizes ≡ replicate n.sizes zero_float
  pub extras : T.extras ≡ replicate n.extras 0

pub record AsksHead (t u z : List ℕ) (from end : ℕ) (T : HeadTables) : Type 0 where
  pub small : length z < 2 ^ 32
  pub long_styles : 6912 ≤ length T.styles
  pub long_regions : 1024 ≤ length T.regions
  pub long_sizes : 256 ≤ length T.sizes
  pub long_extras : 24576 ≤ length T.extras
  pub lengths : Lengths
  pub cleared : Cleared lengths T
  pub children : Children t u z from end
  pub room : in_all z children.forest ≤ 8192

-- f is the head's content, of `many` attributes: its styles and regions stand in the tables, and nothing else does; r counts them
pub record Headed (n : Lengths) (f : Nodes Placed) (many : ℕ) (T : HeadTables) (r : Heads) : Type 0 where
  pub styles : List (Style Placed)
  pub regions : List (Region Placed)
  pub means_styles : styles_in f ≡ is styles
  pub means_regions : regions_in f ≡ is regions
  pub count_styles : r.styles ≡ length styles
  pub count_regions : r.regions ≡ length regions
  pub few_styles : length styles ≤ 256
  pub few_regions : length regions ≤ 256
  pub kept : r.extras ≡ style_extras styles + region_extras regions
  pub within : r.extras ≤ many
  pub in_styles : T.styles ≡ filled n.styles (joined_cells (λ x. style_cells x.style) (laid_styles 0 styles))
  pub in_regions : T.regions ≡ filled n.regions (joined_cells (λ x. region_cells x.region) (laid_regions (style_extras styles) regions))
  pub in_sizes : T.sizes ≡ filled_sizes n.sizes (each style_size (laid_styles 0 styles))
  pub in_extras : T.extras
      ≡ placing.region_extras (placing.style_extras (replicate n.extras 0) (laid_styles 0 styles)) (laid_regions (style_extras styles) regions)

abbrev pub HeadOutcome : Lengths → Nodes Placed → (many : ℕ) → HeadTables → Result Heads Refusal → Type 0
HeadOutcome n f many T (Ok r) = Headed n f many T r
HeadOutcome n f many T (Err q) = head_of f ≡ turned q

-- Of the nodes f that stand there, `content f` is the head's content: they themselves, or what stands in the first head.
abbrev pub alone : Nodes Placed → Nodes Placed
alone f = f

abbrev pub HeadPost : (content : Nodes Placed → Nodes Placed) (many : List ℕ → Forest → ℕ) (t u z : List ℕ) (from end : ℕ) (T T' : HeadTables)
    → Result Heads Refusal → Type 0
HeadPost content many t u z from end T T' r =
    (n : Lengths) → Cleared n T → (x : Children t u z from end) → HeadOutcome n (content (nodes_in z x.forest)) (many z x.forest) T' r
