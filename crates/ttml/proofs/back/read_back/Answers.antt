-- `read_back` meets its contract: what is written is read, and where nothing is written no text.
use Rattle.ttml.proofs.Returning.{count_fits, count_stands, returned}
use Rattle.ttml.proofs.back.read_back.Goals as goal

pub slice_bounds-parse-end : goal.slice_bounds-parse-end
slice_bounds-parse-end c =
    count_fits _ c.count-n.ensures c.write-answer.ensures

pub slice_bounds-parse-end-2 : goal.slice_bounds-parse-end-2
slice_bounds-parse-end-2 c =
    count_stands _ c.count-n.ensures c.write-answer.ensures

pub shape_of-out : goal.shape_of-out
shape_of-out c =
    c.out-1.given

pub shape_of-nodes : goal.shape_of-nodes
shape_of-nodes c =
    c.nodes-1.given

pub shape_of-attrs : goal.shape_of-attrs
shape_of-attrs c =
    c.attrs-1.given

pub shape_of-back_head : goal.shape_of-back_head
shape_of-back_head c =
    c.back_head-1.given

pub shape_of-back_params : goal.shape_of-back_params
shape_of-back_params c =
    c.back_params-1.given

pub shape_of-back_styles : goal.shape_of-back_styles
shape_of-back_styles c =
    c.back_styles-1.given

pub shape_of-back_regions : goal.shape_of-back_regions
shape_of-back_regions c =
    c.back_regions-1.given

pub shape_of-back_cues : goal.shape_of-back_cues
shape_of-back_cues c =
    c.back_cues-1.given

pub shape_of-back_times : goal.shape_of-back_times
shape_of-back_times c =
    c.back_times-1.given

pub shape_of-back_segments : goal.shape_of-back_segments
shape_of-back_segments c =
    c.back_segments-1.given

pub shape_of-back_sizes : goal.shape_of-back_sizes
shape_of-back_sizes c =
    c.back_sizes-1.given

pub shape_of-back_extras : goal.shape_of-back_extras
shape_of-back_extras c =
    c.back_extras-1.given

pub shape_of-back_strings : goal.shape_of-back_strings
shape_of-back_strings c =
    c.back_strings-1.given

pub shape_of-back_texts : goal.shape_of-back_texts
shape_of-back_texts c =
    c.back_texts-1.given

pub returns : goal.returns
returns c =
    returned c.all_signed.ensures _ _ c.count-n.ensures c.outcome.ensures c.write-answer.ensures c.parse-read.ensures
