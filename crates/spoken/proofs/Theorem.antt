-- Of a track that passes the check, the call gives the text of the cue. Assumes nothing.
--     track_long     its tables are long enough for the call
--     cues_are       its cues are those of the counted rows
--     row-there      each of them is there, and says its text
--     cue_past       no other is there
use Prim.Native.Nat.{ℕ, zero, suc, ◌+◌, ◌≤◌, ◌<◌}
use mathlib.Core.Path.{◌≡◌, refl, sym, ap, ◌∙◌}
use mathlib.Core.Bool.{true}
use mathlib.Core.Option.{some}
use native.Mathlib.Omega.{arith}
use lib.ListN.{length}
use Rattle.scan.proofs.Every.{by-test}
use Rattle.track.specs.Track.{Bytes, Track}
use Rattle.track.specs.Tables.{lengths, cue_count, rows_from}
use Rattle.track.specs.Tables as track
use Rattle.track.specs.Meaning.{is_track, cue_in, track_at, track_in}
use Rattle.track.proofs.Answers.{limits_low}
use Rattle.track.proofs.Accepted.{limits_ok}
use Rattle.track.proofs.Exactly.{no_some, track_some, track_none}
use Rattle.track.proofs.ShownLaws.{cues-in}
use Rattle.walk.specs.Text.{text_of}
use Rattle.walk.proofs.TextLaws.{cue_within, cue_rows}
use Rattle.spoken.specs.Promise.{of_track_of, LongEnough, HasCue, says}

rows-many : {A : Type 0} (g : ℕ → A) (n i : ℕ) → length (rows_from g n i) ≡ n
unfolding rows_from
rows-many g zero i = refl
rows-many g (suc n) i = ap suc (rows-many g n (i + 1))

module _ (T : track.Tables) where
  pub track_long : track.LongEnough (lengths T) → LongEnough (of_track_of T)
  track_long l = record { of_head = l.head; of_cues = l.cues; of_segments = l.segments; of_texts = l.texts }

  -- tables that mean a track
  module _ (t : Track Bytes) (e : track_in T ≡ some t) where
    pub is-track : is_track T ≡ true
    is-track = by-test (is_track T) (λ h. h) (λ h. no_some (sym (track_none T h) ∙ e))

    pub is-that : track_at T ≡ t
    is-that = let q : some (track_at T) ≡ some t = sym (track_some T is-track) ∙ e in cc

    pub row-there : (i : ℕ) → i < cue_count T.head → HasCue (of_track_of T) i × (says (of_track_of T) i ≡ text_of (cue_in T i).segments)
    row-there i l =
        let w = cue_within T is-track i l in (
          record {
            counted = l;
            row = omega (arith, l, (limits_low T.head (limits_ok T is-track)).cues);
            rows = w.0;
            within-texts = w.1;
          },
          cue_rows T is-track i l,
        )

    pub cues_are : rows_from (cue_in T) (cue_count T.head) 0 ≡ t.cues
    cues_are = sym (cues-in T) ∙ ap (λ (k : Track Bytes). k.cues) is-that

    pub cue_past : (i : ℕ) → length t.cues ≤ i → ¬ HasCue (of_track_of T) i
    cue_past i h c =
        let n : cue_count T.head ≡ length t.cues = sym (rows-many (cue_in T) (cue_count T.head) 0) ∙ ap length cues_are in
        omega (arith, h, n, c.counted)
