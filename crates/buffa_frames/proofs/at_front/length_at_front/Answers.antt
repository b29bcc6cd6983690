use Rattle.buffa_frames.proofs.FrontLemmas.{has_length, length_there, refused_long, too_long_whole}
use Rattle.buffa_frames.proofs.at_front.length_at_front.Goals as goal

pub returns-then-length-maximum : goal.returns-then-length-maximum
returns-then-length-maximum c =
    let there = length_there c.in-Ok.length c.args.bytes.now c.decode_varint.new.buf.now c.in-Ok.ensures.reads in
    refused_long c.args.maximum c.args.bytes.now (too_long_whole c.args.maximum c.in-Ok.length c.args.bytes.now c.decode_varint.new.buf.now there c.if-length-maximum.true)

pub returns : goal.returns
returns c = has_length c.args.maximum c.in-Ok.length c.args.bytes.now c.decode_varint.new.buf.now c.in-Ok.ensures.reads c.if-length-maximum.false
