-- `clear_track` meets its contract: one table after the other. Assumes nothing.
use Rattle.blank.proofs.clear_track.Goals as goal

pub returns : goal.returns
returns c =
    let h = c.clear_head.ensures in
    let b = c.clear_body.ensures in
    record {
      head = c.clear.ensures;
      params = c.clear-2.ensures;
      styles = h.0;
      regions = h.1;
      cues = b.0;
      times = b.1;
      segments = b.2;
      sizes = h.2;
      extras = h.3;
      texts = b.3;
    }
