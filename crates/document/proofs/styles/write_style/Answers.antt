-- `write_style` meets its contract.
use Rattle.writer.proofs.Chaining.{writes_stop, writes_then}
use Rattle.track.specs.Handed.{lists}
use Rattle.document.proofs.StyleLaws.{style_writes, name_within}
use Rattle.document.proofs.styles.write_style.Goals as goal

pub style_at-x-requires : goal.style_at-x-requires
style_at-x-requires c =
    let r = c.requires.0.rows c.args.i c.requires.1 in
    (r.row, r.size, r.color, r.back)

pub span_attr-requires : goal.span_attr-requires
span_attr-requires c =
    rw c.style_at-x.ensures (name_within _ _ c.requires.0 _ c.requires.1)

pub put_chain-requires : goal.put_chain-requires
put_chain-requires c =
    (c.requires.0.named, c.requires.0.chains, rw c.style_at-x.ensures (name_within _ _ c.requires.0 _ c.requires.1))

pub put_look-requires : goal.put_look-requires
put_look-requires c =
    rw c.style_at-x.ensures (c.requires.0.rows c.args.i c.requires.1).look

pub put_kept-requires : goal.put_kept-requires
put_kept-requires c =
    (c.requires.0.named, c.requires.0.kept, rw c.style_at-x.ensures (name_within _ _ c.requires.0 _ c.requires.1))

pub returns-in_err-span_attr : goal.returns-in_err-span_attr
returns-in_err-span_attr c =
    rw c.from_residual.ensures (style_writes (lists c.args.t.now) c.args.n c.args.i _ c.style_at-x.ensures _ _ _ (writes_stop _ c.in_err-span_attr.ensures))

pub returns-in_err-put_chain : goal.returns-in_err-put_chain
returns-in_err-put_chain c =
    rw c.from_residual-in_err-put_chain.ensures (style_writes (lists c.args.t.now) c.args.n c.args.i _ c.style_at-x.ensures _ _ _ (writes_then c.in_ok-span_attr.ensures (writes_stop _ c.in_err-put_chain.ensures)))

pub returns-in_err-put_look : goal.returns-in_err-put_look
returns-in_err-put_look c =
    rw c.from_residual-in_err-put_look.ensures (style_writes (lists c.args.t.now) c.args.n c.args.i _ c.style_at-x.ensures _ _ _ (writes_then c.in_ok-span_attr.ensures (writes_then c.in_ok-put_chain.ensures (writes_stop _ c.in_err-put_look.ensures))))

pub returns-in_err-put_flags : goal.returns-in_err-put_flags
returns-in_err-put_flags c =
    rw c.from_residual-in_err-put_flags.ensures (style_writes (lists c.args.t.now) c.args.n c.args.i _ c.style_at-x.ensures _ _ _ (writes_then c.in_ok-span_attr.ensures (writes_then c.in_ok-put_chain.ensures (writes_then c.in_ok-put_look.ensures (writes_stop _ c.in_err-put_flags.ensures)))))

pub returns-in_err-put_kept : goal.returns-in_err-put_kept
returns-in_err-put_kept c =
    rw c.from_residual-in_err-put_kept.ensures (style_writes (lists c.args.t.now) c.args.n c.args.i _ c.style_at-x.ensures _ _ _ (writes_then c.in_ok-span_attr.ensures (writes_then c.in_ok-put_chain.ensures (writes_then c.in_ok-put_look.ensures (writes_then c.in_ok-put_flags.ensures (writes_stop _ c.in_err-put_kept.ensures))))))

pub returns : goal.returns
returns c =
    style_writes (lists c.args.t.now) c.args.n c.args.i _ c.style_at-x.ensures _ _ _ (writes_then c.in_ok-span_attr.ensures (writes_then c.in_ok-put_chain.ensures (writes_then c.in_ok-put_look.ensures (writes_then c.in_ok-put_flags.ensures (writes_then c.in_ok-put_kept.ensures c.put.ensures)))))
