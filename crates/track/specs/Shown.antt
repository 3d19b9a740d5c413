-- What a placed track (`Layout`) shows: the track with the bytes of its strings. Definitions alone.
use Rattle.std.specs.Prelude.{ℕ, Bool, cond, List, eqb}
use Rattle.std.proofs.Math.Option.{Option, none, some}
use Rattle.scan.specs.Part.{string_at}
use Rattle.track.specs.declared.strings.Span.{Span}
use Rattle.track.specs.declared.values.Param.{Param}
use Rattle.track.specs.declared.values.Extra.{Extra}
use Rattle.track.specs.declared.values.Look.{Look}
use Rattle.track.specs.Track.{Bytes, Wrapper, Segments, Track}
use Rattle.track.specs.Track as track
use Rattle.track.specs.Layout.{Placed, PlacedStyle, PlacedRegion, PlacedCue, each}

abbrev pub bytes_at : List ℕ → Span → List ℕ
bytes_at z x = string_at z x.place x.len

-- a part that is there where its flag is set
abbrev pub given : {A : Type 0} → Bool → A → Option A
given b x = cond b (some x) none

-- In what follows z are the bytes of the strings, y those of the texts.

-- what a style says
unfoldable pub look_in_of : List ℕ → Look → track.Look Bytes
look_in_of z l = record {
  color = given l.has_color l.color;
  back = given l.has_back l.back;
  family = given l.has_family (bytes_at z l.family);
  size = given l.has_size l.size;
  bold = l.bold;
  italic = l.italic;
  underline = l.underline;
  strike = l.strike;
  align = l.align;
}

unfoldable pub shown_extra : List ℕ → Extra → track.Extra Bytes
shown_extra z x = record { number = x.number; value = bytes_at z x.value }

unfoldable pub shown_param : List ℕ → Param → track.Param Bytes
shown_param z x = record { name = bytes_at z x.name; value = bytes_at z x.value }

-- a chain without bytes is none
unfoldable pub shown_chain : List ℕ → Span → Option Bytes
shown_chain z x = cond (eqb x.len 0) none (some (bytes_at z x))

unfoldable pub shown_style : List ℕ → PlacedStyle → track.Style Bytes
unfolding each shown_extra shown_chain look_in_of
shown_style z x =
    let s = x.style in
    record {
      name = bytes_at z s.name;
      chain = shown_chain z s.chain;
      look = look_in_of z s.look;
      extras = each (shown_extra z) x.extras;
    }

unfoldable pub shown_region : List ℕ → PlacedRegion → track.Region Bytes
unfolding each shown_extra
shown_region z x = record { id = bytes_at z x.region.id; extras = each (shown_extra z) x.extras }

unfoldable pub shown_wrapper : List ℕ → Wrapper Span → Wrapper Bytes
shown_wrapper z track.bold = track.bold
shown_wrapper z track.italic = track.italic
shown_wrapper z track.underline = track.underline
shown_wrapper z track.strike = track.strike
shown_wrapper z (track.color c) = track.color c
shown_wrapper z (track.font none s) = track.font none s
shown_wrapper z (track.font (some a) s) = track.font (some (bytes_at z a)) s

unfoldable pub shown_segments : (z y : List ℕ) → Segments Span → Segments Bytes
unfolding shown_wrapper
shown_segments z y track.done = track.done
shown_segments z y (track.text s x) = track.text (bytes_at y s) (shown_segments z y x)
shown_segments z y (track.break x) = track.break (shown_segments z y x)
shown_segments z y (track.timestamp t x) = track.timestamp t (shown_segments z y x)
shown_segments z y (track.wrap w c x) = track.wrap (shown_wrapper z w) (shown_segments z y c) (shown_segments z y x)

unfoldable pub shown_cue : (z y : List ℕ) → PlacedCue → track.Cue Bytes
unfolding each shown_extra shown_segments
shown_cue z y x =
    let c = x.cue in
    record {
      start = c.start;
      end = c.end;
      style = given c.has_style (bytes_at z c.style);
      region = given c.has_region (bytes_at z c.region);
      preserve = c.preserve;
      extras = each (shown_extra z) x.extras;
      segments = shown_segments z y x.segments;
    }

unfoldable pub shown : Placed → (z y : List ℕ) → Track Bytes
unfolding each shown_param shown_style shown_region shown_cue
shown k z y = record {
  lang = given k.has_lang (bytes_at z k.lang);
  params = each (shown_param z) k.params;
  styles = each (shown_style z) k.styles;
  regions = each (shown_region z) k.regions;
  cues = each (shown_cue z y) k.cues;
}
