-- What the lookups in the tables give the walk. Assumes nothing.
--     look-over                    an overlay of what the program holds means the overlay
--     chain_row, chain_none          the parents of an id, where a row with a chain is found, and where none is
--     chain-at, no_chain_at, own-at, no_own_at      chain and own style with places
use Rattle.std.specs.Prelude.{Some, None}
use Prim.Native.Nat.{ℕ, ◌+◌, ◌*◌, ◌<◌}
use mathlib.Core.Path.{◌≡◌, refl, sym}
use mathlib.Core.Bool.{Bool, true, false, cond, ◌||◌}
use mathlib.Core.List.{List, []}
use mathlib.Core.Option.{some}
use native.Mathlib.Omega.{arith}
use lib.ListN.{get_or}
use lib.Dec.{eqb}
use lib.Ieee.{Float}
use borrow.Author.Tests.{not-true}
use Rattle.scan.specs.Part.{string_at}
use Rattle.utf8.specs.White.{words}
use Rattle.utf8.proofs.WhiteLaws.{words_from-none, white_end-low}
use Rattle.scan.proofs.Every.{both}
use Rattle.track.specs.declared.strings.Span.{Span}
use Rattle.track.specs.Track.{Bytes}
use Rattle.track.specs.Tables.{Tables, cell, span, style_at}
use Rattle.track.specs.Meaning.{bytes_at, given, look_in_of, style_in}
use Rattle.records.specs.Find.{first_row, first_with}
use Rattle.records.proofs.Finding.{named_with}
use Rattle.records.proofs.FoundRows.{First, row_first, with_first, chain_found}
use Rattle.track.specs.declared.values.Look.{Look}
use Rattle.styles.specs.declared.apply.Walk.{Walk}
use Rattle.styles.specs.Reaches.{parents}
use Rattle.styles.specs.Values.{or_else, overlay}
use Rattle.styles.specs.Cells.{overlaid}
use Rattle.styles.specs.Places.{row, WalkedAt, chain_at, own_at}
use Rattle.styles.specs.Steps.{bare, styles_in, state_at}

-- ---- overlays
given-over : {A : Type 0} (b c : Bool) (x y : A) → given (c || b) (cond c y x) ≡ or_else (given b x) (given c y)
given-over b true x y = refl
given-over b false x y = refl

family_over : (z : List ℕ) (b c : Bool) (x y : Span) → given (c || b) (bytes_at z (cond c y x)) ≡ or_else (given b (bytes_at z x)) (given c (bytes_at z
    y))
family_over z b true x y = refl
family_over z b false x y = refl

pub look-over : (z : List ℕ) (x y : Look) → look_in_of z (overlaid x y) ≡ overlay (look_in_of z x) (look_in_of z y)
unfolding look_in_of overlaid overlay
look-over z x y =
    rw (
      given-over x.has_color y.has_color x.color y.color,
      given-over x.has_back y.has_back x.back y.back,
      family_over z x.has_family y.has_family x.family y.family,
      given-over x.has_size y.has_size x.size y.size,
    )

-- ---- lookups
pub no_words : words [] ≡ []
unfolding words
no_words = words_from-none [] 0 [] (white_end-low [] 0)

module _ (s : List ℕ) (f : List Float) (e z : List ℕ) (n : ℕ) (name : Bytes) where
  abbrev tables : Tables
  tables = bare s f e z

  some_chain : (i : ℕ) → eqb (get_or s (i * 27 + 3) 0) 0 ≡ false → (style_in tables i).chain ≡ some (string_at z (get_or s (i * 27 + 2) 0) (get_or s (i * 27
      + 3) 0))
  unfolding style_in style_at cell
  some_chain i h = rw h

  module _ (i : ℕ) (h : first_with s z name 27 3 n 0 ≡ Some i) where
    first-chain : First (named_with s z name 27 3) n 0 i
    first-chain = with_first s z name 27 n 3 i h

    pub chain_row_within : i < n
    chain_row_within = omega (arith, first-chain.within)

    has_chain : eqb (get_or s (i * 27 + 3) 0) 0 ≡ false
    has_chain = not-true _ (both first-chain.passes).0

    pub chain_row : parents (styles_in s f e z n) name ≡ words (string_at z (get_or s (i * 27 + 2) 0) (get_or s (i * 27 + 3) 0))
    unfolding parents
    chain_row = rw (chain_found tables name n, h, some_chain i has_chain)

  pub chain_none : first_with s z name 27 3 n 0 ≡ None → parents (styles_in s f e z n) name ≡ words (string_at z 0 0)
  unfolding parents string_at
  chain_none h = rw (chain_found tables name n, h) (sym no_words)

  -- what a row says
  pub row-look : (i : ℕ) → (style_in tables i).look ≡ look_in_of z (style_at s f i).look
  unfolding style_in style_at look_in_of
  row-look i = refl

  module _ (i : ℕ) (h : first_row s z name 27 n 0 ≡ Some i) where
    pub own-row_within : i < n
    own-row_within = omega (arith, (row_first s z name 27 n i h).within)

-- ---- with places
module _ (s z : List ℕ) (n : ℕ) (name : Bytes) where
  pub chain-at : (i : ℕ) → first_with s z name 27 3 n 0 ≡ Some i → (r : Span) → r.place ≡ get_or s (i * 27 + 2) 0 → r.len ≡ get_or s (i * 27 + 3) 0
      → row 1 r ≡ chain_at s z n name
  unfolding chain_at
  chain-at i h r p l = rw (h, p, l)

  pub no_chain_at : first_with s z name 27 3 n 0 ≡ None → row 1 (span 0 0) ≡ chain_at s z n name
  unfolding chain_at
  no_chain_at h = rw h

  pub own-at : (f : List Float) (i : ℕ) → first_row s z name 27 n 0 ≡ Some i → (t : List ℕ) (w r : Walk) → r.count ≡ w.count → r.found ≡ true
      → r.look ≡ overlaid w.look (style_at s f i).look → state_at t r ≡ own_at s f z n name (state_at t w)
  unfolding own_at
  own-at f i h t w r a b c = rw (h, a, b, c)

  pub no_own_at : (f : List Float) → first_row s z name 27 n 0 ≡ None → (w : WalkedAt) → w ≡ own_at s f z n name w
  unfolding own_at
  no_own_at f h w = rw h
