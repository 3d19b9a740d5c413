-- The rows of a track that passes the check can be written. Assumes nothing.
--     whole_ready
use Prim.Native.Nat.{ℕ, ◌+◌, ◌≤◌, ◌<◌}
use mathlib.Core.Path.{◌≡◌}
use mathlib.Core.Bool.{true, false, not, ◌&&◌}
use mathlib.Core.List.{List}
use native.Mathlib.Omega.{arith}
use lib.ListN.{length, get_or}
use lib.Dec.{eqb, leb}
use lib.Ieee.{Float}
use borrow.Author.Tests.{not-true}
use Rattle.decimals.specs.declared.size.Size.{Size}
use Rattle.decimals.specs.Size.{is_size}
use Rattle.decimals.proofs.Sizes.{size-says}
use Rattle.scan.proofs.Every.{both}
use Rattle.names.specs.declared.tables.Listed.TheVariants.{RegionAttr, StyleExtra}
use Rattle.track.specs.Tables.{Tables, cell, param_at, style_at, look_at, size_at, region_at, cue_at, optional, param_count, style_count, region_count, size_cell}
use Rattle.track.specs.Meaning.{is_track, is_size_at}
use Rattle.track.specs.Steps.{is_full}
use Rattle.track.proofs.Spans.{span-within}
use Rattle.track.proofs.Accepted.{used_strings, param_ok, style_ok, region_ok, lang_ok}
use Rattle.track.proofs.RowParts.{param_parts, StyleParts, style_parts, RegionParts, region_parts}
use Rattle.records.proofs.FoundRows.{styles_named}
use Rattle.writer.specs.Rows.{ExtrasReady}
use Rattle.writer.proofs.Accepting.{extras_ready, cue_ready, there, long, rest, low, fewer_strings}
use Rattle.document.specs.Styles.{StyleRow, StylesReady}
use Rattle.document.specs.Regions.{RegionReady}
use Rattle.document.specs.Roots.{ParamReady, RootReady, WholeReady}

-- a size that is there is written with at most ten digits after the point
near : (c d s : ℕ) (v : Float) → is_size_at c d s v ≡ true → not (eqb c 0) ≡ true → (size_at c d s v).scale ≤ 10
unfolding is_size_at size_at
near c d s v h e =
    let q : eqb c 0 ≡ false = not-true (eqb c 0) e in
    let x : Size = record { value = v; negative = eqb c 2; digits = d; scale = s } in
    let g : leb c 2 && is_size x ≡ true = rw q at h in
    rw q (size-says x (both {a = leb c 2} {b = is_size x} g).1).near

module _ (T : Tables) (f : is_full T ≡ true) (h : is_track T ≡ true) where
  abbrev z' : List ℕ
  z' = used_strings T

  few : length z' ≤ length T.strings
  few = fewer_strings T f h

  module _ (i : ℕ) where
    param_row : i < param_count T.head → ParamReady T.params T.strings i
    unfolding param_at
    param_row l =
        let a = param_parts T.params z' i (param_ok T h i l) in
        record {
          row = omega (arith, (low T f h).params, (long T f h).params);
          name = omega (arith, span-within z' (cell 4 T.params i 0) (cell 4 T.params i 1) a.name, few);
          value = omega (arith, span-within z' (cell 4 T.params i 2) (cell 4 T.params i 3) a.value, few);
        }

    module _ (l : i < style_count T.head) where
      style_is : StyleParts T.styles T.sizes T.extras z' i
      style_is = style_parts T.styles T.sizes T.extras z' i (style_ok T h i l)

      style_kept : ExtrasReady StyleExtra T.extras T.strings (cell 27 T.styles i 25) (cell 27 T.styles i 26)
      style_kept =
          extras_ready StyleExtra T.extras z' T.strings (cell 27 T.styles i 25) (cell 27 T.styles i 26) style_is.extras
          (long T f h).extras few

      style_chain : cell 27 T.styles i 2 + cell 27 T.styles i 3 ≤ length T.strings
      style_chain = omega (arith, span-within z' (cell 27 T.styles i 2) (cell 27 T.styles i 3) style_is.chain, few)

      style_row : StyleRow T.styles T.sizes T.strings i
      unfolding style_at look_at cell
      style_row = record {
        row = omega (arith, (low T f h).styles, (long T f h).styles);
        size = omega (arith, (low T f h).styles, (rest T f h).sizes);
        color = style_is.color;
        back = style_is.back;
        look = (
          there z' T.strings (cell 27 T.styles i 14) (cell 27 T.styles i 15) (cell 27 T.styles i 16) style_is.family few,
          near (cell 27 T.styles i 17) (cell 27 T.styles i 18) (cell 27 T.styles i 19) (size_cell T.sizes i) style_is.size,
        );
      }

    module _ (l : i < region_count T.head) where
      region_is : RegionParts T.regions T.extras z' i
      region_is = region_parts T.regions T.extras z' i (region_ok T h i l)

      region_kept : ExtrasReady RegionAttr T.extras T.strings (cell 4 T.regions i 2) (cell 4 T.regions i 3)
      region_kept =
          extras_ready RegionAttr T.extras z' T.strings (cell 4 T.regions i 2) (cell 4 T.regions i 3) region_is.extras
          (long T f h).extras few

      region_row : RegionReady T i
      unfolding region_at
      region_row = record {
        row = omega (arith, (low T f h).regions, (long T f h).regions);
        id = omega (arith, span-within z' (cell 4 T.regions i 0) (cell 4 T.regions i 1) region_is.id, few);
        extras = region_kept;
      }

  styles_ready : StylesReady T (style_count T.head)
  styles_ready = record {
    named =
        styles_named T.styles T.sizes T.extras z' T.strings (style_count T.head) (style_ok T h)
        (omega (arith, (low T f h).styles, (long T f h).styles)) few;
    chains = style_chain;
    kept = style_kept;
    rows = style_row;
  }

  root_ready : RootReady T
  unfolding optional cell cue_at
  root_ready = record {
    head = (long T f h).head;
    params = param_row;
    styles = record { rows = omega (arith, (low T f h).styles, (long T f h).styles); two = omega arith; extras = style_kept };
    regions = record { rows = omega (arith, (low T f h).regions, (long T f h).regions); two = omega arith; extras = region_kept };
    cues = record {
      rows = omega (arith, (low T f h).cues, (long T f h).cues);
      two = omega arith;
      extras = λ i l. (cue_ready T f h i l).extras;
    };
    lang = λ e. rw e at (there z' T.strings (get_or T.head 5 0) (get_or T.head 6 0) (get_or T.head 7 0) (lang_ok T h) few e);
  }

  pub whole_ready : WholeReady T
  whole_ready = record { root = root_ready; styles = styles_ready; regions = region_row; cues = cue_ready T f h }
