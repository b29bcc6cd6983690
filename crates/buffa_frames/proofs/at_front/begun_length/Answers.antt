use Rattle.std.proofs.Common.{arith}
use Rattle.buffa_frames.proofs.FrontLemmas.{begins_length, low_nine, refused_begun, refused_ten}
use Rattle.buffa_frames.proofs.at_front.begun_length.Goals as goal

pub returns-then-low-maximum : goal.returns-then-low-maximum
returns-then-low-maximum c =
    let low = low_nine c.number_of-low.result c.min.result c.args.bytes.now c.number_of-low.ensures c.min.ensures in
    refused_begun c.args.maximum c.args.bytes.now c.requires.0 c.requires.1 (omega (arith, low, c.if-low-maximum.true))

pub returns-then-bytes-lt10 : goal.returns-then-bytes-lt10
returns-then-bytes-lt10 c =
    let low = low_nine c.number_of-low.result c.min.result c.args.bytes.now c.number_of-low.ensures c.min.ensures in
    begins_length c.args.maximum c.number_of-low.result c.args.bytes.now c.requires.0 c.requires.1 c.if-bytes-lt10.true low c.if-low-maximum.false

pub returns : goal.returns
returns c =
    let low = low_nine c.number_of-low.result c.min.result c.args.bytes.now c.number_of-low.ensures c.min.ensures in
    refused_ten c.args.maximum c.args.bytes.now c.requires.0 c.requires.1 c.if-bytes-lt10.false (omega (arith, low, c.if-low-maximum.false))
