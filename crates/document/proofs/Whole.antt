-- The whole text. Assumes nothing.
--     whole_is      what the program writes one after the other is the track's text
--     whole-writes  the same of a text that is written
use Rattle.std.specs.Prelude.{Option, ⊤}
use mathlib.Core.Path.{◌≡◌, sym, ap, ap₂, ◌∙◌}
use mathlib.Core.List.{◌++◌, append_assoc}
use Rattle.track.specs.Track.{Bytes}
use Rattle.track.specs.Tables.{Tables, rows_from, style_count, region_count, cue_count}
use Rattle.track.specs.Meaning.{style_in, region_in, cue_in, track_at}
use Rattle.track.proofs.ShownLaws.{styles-in, regions-in, cues-in}
use Rattle.scan.specs.Text.{ascii}
use Rattle.written.specs.Attributes.{root_attrs}
use Rattle.written.specs.Written.{tag, lines, cue_text, head_lines, written_of}
use Rattle.writer.specs.declared.buffer.Out.{Out}
use Rattle.writer.specs.Puts.{Writes}
use Rattle.document.specs.Roots.{root_text, head_text}
use Rattle.document.proofs.RootLaws.{root_is}

module _ (T : Tables) where
  abbrev head : Bytes
  head =
      head_text (rows_from (style_in T) (style_count T.head) 0) (rows_from (region_in T) (region_count T.head) 0)

  head_is : head_lines (track_at T) ≡ head
  unfolding head_lines head_text style_in region_in
  head_is = ap₂ head_text (styles-in T) (regions-in T)

  abbrev root : Bytes
  root = root_text T

  abbrev declaration : Bytes
  declaration = ascii "<?xml version=\"1.0\" encoding=\"UTF-8\"?>\n"

  regroup : (d a e h c : Bytes) → d ++ (a ++ (e ++ (h ++ c))) ≡ d ++ ((a ++ e) ++ (h ++ c))
  regroup d a e h c = ap (λ (w : Bytes). d ++ w) (sym (append_assoc a e (h ++ c)))

  abbrev rest : Bytes → Bytes
  rest c = ascii "  <body>\n    <div>\n" ++ (c ++ ascii "    </div>\n  </body>\n</tt>\n")

  pub whole_is : written_of (track_at T) ≡ declaration ++ (root ++ (head ++ rest (lines cue_text (rows_from (cue_in T) (cue_count T.head) 0))))
  unfolding written_of
  whole_is =
      regroup declaration (tag "tt" (root_attrs (track_at T))) (ascii ">\n") (head_lines (track_at T)) (rest (lines cue_text (track_at T).cues))
      ∙ (ap (λ (w : Bytes). declaration ++ (w ++ (head_lines (track_at T) ++ rest (lines cue_text (track_at T).cues)))) (root_is T)
      ∙ (ap (λ (w : Bytes). declaration ++ (root ++ (w ++ rest (lines cue_text (track_at T).cues)))) head_is
      ∙ ap (λ (w : Bytes). declaration ++ (root ++ (head ++ rest w))) (ap (lines cue_text) (cues-in T))))

  pub whole-writes :
      (o o' : Out) (r : Option ⊤)
      → Writes (declaration ++ (root ++ (head ++ rest (lines cue_text (rows_from (cue_in T) (cue_count T.head) 0))))) o o' r
      → Writes (written_of (track_at T)) o o' r
  whole-writes o o' r p = rw whole_is p
