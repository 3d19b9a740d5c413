-- A worked case of the layout: a small track that fits, and what its tables mean. Assumes nothing.
--     small_fits, small_means
use Prim.Native.Nat.{ℕ, ◌≤◌}
use mathlib.Core.Path.{◌≡◌, refl, sym}
use mathlib.Core.Bool.{true, false}
use mathlib.Core.List.{List, [], ◌∷◌}
use mathlib.Core.Logic.{inl}
use mathlib.Core.Option.{none, some}
use native.Mathlib.Omega.{arith}
use lib.IntN.{pos}
use Rattle.decimals.proofs.Tests.{no}
use Rattle.scan.specs.Loop.{go, loop}
use Rattle.scan.specs.Part.{string_at}
use Rattle.scan.specs.Bytes.{attr_name_byte}
use Rattle.utf8.specs.Utf8.{fits_at, first_fit, sequence_at, utf8_end, boundary}
use Rattle.track.specs.declared.values.Align.{Align}
use Rattle.track.specs.Track.{segment_rows}
use Rattle.track.specs.Track as track
use Rattle.track.specs.Tables.{Lengths, span, rows_of, zero_float}
use Rattle.track.specs.Meaning.{is_span, is_utf8, look_in_of, track_in}
use Rattle.track.specs.Layout.{Placed, each, preorder, wrapper_of, all_segments, layout}
use Rattle.track.specs.Placing.{Fits, depth, laid, laid_style, laid_region, laid_cue}
use Rattle.track.specs.Shown.{shown_extra, shown_param, shown_chain, shown_style, shown_region, shown_wrapper, shown_segments, shown_cue, shown}
use Rattle.track.proofs.LayoutLaws.{layout-means}

-- e n s r, and A B
abbrev letters : List ℕ
letters = 101 ∷ 110 ∷ 115 ∷ 114 ∷ []

abbrev words : List ℕ
words = 65 ∷ 66 ∷ []

-- a language, a parameter, a bold style and a region with one extra each, and a cue with a bold A and a B
unfoldable pub small : Placed
small = record {
  has_lang = true;
  lang = span 0 2;
  params = record { name = span 2 1; value = span 3 1 } ∷ [];
  styles = record {
    style = record {
      name = span 2 1;
      chain = span 0 0;
      look = record {
        has_color = true;
        color = record { r = 255; g = 0; b = 0; a = 255 };
        has_back = false;
        back = record { r = 0; g = 0; b = 0; a = 0 };
        has_family = false;
        family = span 0 0;
        has_size = false;
        size = record { value = zero_float; negative = false; digits = 0; scale = 0 };
        bold = true;
        italic = false;
        underline = false;
        strike = false;
        align = Align.Center;
      };
      extras = rows_of 0 1;
    };
    extras = record { number = 3; value = span 3 1 } ∷ [];
  } ∷ [];
  regions = record { region = record { id = span 3 1; extras = rows_of 1 1 }; extras = record { number = 5; value = span 2 1 } ∷ [] } ∷ [];
  cues = record {
    cue = record {
      start = pos 1;
      end = pos 2;
      has_style = true;
      style = span 2 1;
      has_region = false;
      region = span 0 0;
      preserve = true;
      segments = rows_of 0 3;
      extras = rows_of 0 0;
    };
    extras = [];
    segments = track.wrap track.bold (track.text (span 0 1) track.done) (track.text (span 1 1) track.done);
  } ∷ [];
}

pub small_fits : Fits small letters words 4 2
unfolding small laid laid_style laid_region laid_cue each segment_rows preorder wrapper_of all_segments depth is_span boundary attr_name_byte string_at
    is_utf8 utf8_end loop go sequence_at first_fit fits_at
small_fits = record {
  few_params = omega arith;
  few_styles = omega arith;
  few_regions = omega arith;
  few_cues = omega arith;
  few_segments = omega arith;
  few_strings = omega arith;
  few_texts = omega arith;
  all_strings = omega arith;
  all_texts = omega arith;
  strings = refl;
  texts = refl;
  lang = λ e. refl;
  params = (record { name = refl; value = refl; letters = refl }, tt);
  styles = (
    record {
      name = refl;
      chain = refl;
      color = λ e. (omega arith, omega arith, omega arith, omega arith);
      back = λ e. (omega arith, omega arith, omega arith, omega arith);
      family = λ e. refl;
      size = λ e. no (sym e);
      extras = record { many = refl; room = omega arith; rising = (omega arith, omega arith, refl, tt) };
    },
    tt,
  );
  regions = (record { id = refl; extras = record { many = refl; room = omega arith; rising = (omega arith, omega arith, refl, tt) } }, tt);
  cues = (
    record {
      style = λ e. refl;
      region = λ e. refl;
      extras = record { many = refl; room = omega arith; rising = tt };
      segments = (tt, (refl, tt), (refl, tt));
      nested = omega arith;
    },
    tt,
  );
  in_turn = (refl, refl, tt);
  apart = ((λ a b. inl (omega arith), (λ a b. absurd (omega arith), tt)), ((λ a b. absurd (omega arith), tt), (tt, tt)));
}

pub small_means : (n : Lengths) → 24576 ≤ n.extras → track_in (layout n small letters words 4 2) ≡ some (record {
  lang = some (101 ∷ 110 ∷ []);
  params = record { name = 115 ∷ []; value = 114 ∷ [] } ∷ [];
  styles = record {
    name = 115 ∷ [];
    chain = none;
    look = record {
      color = some (record { r = 255; g = 0; b = 0; a = 255 });
      back = none;
      family = none;
      size = none;
      bold = true;
      italic = false;
      underline = false;
      strike = false;
      align = Align.Center;
    };
    extras = record { number = 3; value = 114 ∷ [] } ∷ [];
  } ∷ [];
  regions = record { id = 114 ∷ []; extras = record { number = 5; value = 115 ∷ [] } ∷ [] } ∷ [];
  cues = record {
    start = pos 1;
    end = pos 2;
    style = some (115 ∷ []);
    region = none;
    preserve = true;
    extras = [];
    segments = track.wrap track.bold (track.text (65 ∷ []) track.done) (track.text (66 ∷ []) track.done);
  } ∷ [];
})
unfolding small shown shown_param shown_style shown_region shown_cue shown_segments shown_wrapper shown_extra shown_chain look_in_of each string_at
small_means n l = layout-means n small letters words 4 2 l small_fits
