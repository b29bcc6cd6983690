use Rattle.std.proofs.Common.{arith, refl, ◌∙◌, ◌+◌, ◌*◌, ◌^◌, ◌≤◌}
use Rattle.buffa_bytes.proofs.DigitLemmas.{digit_room, next_scale, next_scale_is, next_below}
use Rattle.buffa_bytes.proofs.UnreadLemmas.{left_none, left_one, left_tenth}
use Rattle.buffa_bytes.proofs.StepLemmas.{behind_none, digit_end, digit_long, digit_last, digit_more}
use Rattle.buffa_bytes.proofs.TailLemmas.{tail_whole, tail_more}
use Rattle.buffa_bytes.specs.Readings.{varint_at}
use Rattle.buffa_bytes.proofs.varint.decode_digits.Goals as goal
use Rattle.buffa_bytes.proofs.varint.decode_digits.Goals.{After-from}

pub loop-place-init : goal.loop-place-init
unfolding varint_at
loop-place-init g c = record { scale = refl; below = omega arith; place = refl; tail = tail_whole _; kept = refl; read = behind_none _ }

pub returns-in_default-clause-reads : goal.returns-in_default-clause-reads
returns-in_default-clause-reads g c = digit_end _ _ _ _ _ c.in_default.ensures.taken.0 c.loop-place.invariant.read

pub returns-in_default-clause-left : goal.returns-in_default-clause-left
returns-in_default-clause-left g c =
    left_none _ _ _ _ (omega arith) c.loop-place.invariant.place c.in_default.ensures.taken.0 c.in_default.ensures.taken.1

pub returns-then-byte-gt1-clause-left : goal.returns-then-byte-gt1-clause-left
returns-then-byte-gt1-clause-left g c =
    left_tenth _ _ _ _ _ c.if-place-eq9.true c.loop-place.invariant.place c.in-Some.ensures.taken

pub returns-then-byte-gt1-clause-reads : goal.returns-then-byte-gt1-clause-reads
returns-then-byte-gt1-clause-reads g c = digit_long _ _ _ _ _ _ _ c.if-place-eq9.true c.if-byte-gt1.true c.in-Some.ensures.taken c.loop-place.invariant.read

room : (g : _) (c : After-from g) → c.from.result * c.loop-place.scale + c.loop-place.scale ≤ 2 ^ 64
room g c = let p = c.loop-place in digit_room p.place p.scale c.from.result c.in-Some.byte (omega arith) p.invariant.scale c.from.ensures c.else-place-eq9.either

pub overflow_mul-value : goal.overflow_mul-value
overflow_mul-value g c = omega (arith, room g c, c.loop-place.invariant.below)

pub overflow_add-value : goal.overflow_add-value
overflow_add-value g c = omega (arith, room g c, c.loop-place.invariant.below)

pub overflow_mul-scale : goal.overflow_mul-scale
overflow_mul-scale g c =
    let p = c.loop-place in
    omega (arith, next_scale p.place p.scale c.in-Some.byte (omega arith) p.invariant.scale c.if-byte-lt128.false c.else-place-eq9.either)

pub returns-then-byte-lt128-clause-reads : goal.returns-then-byte-lt128-clause-reads
returns-then-byte-lt128-clause-reads g c =
    digit_last _ _ _ _ _ _ _ _ _ (omega arith) c.else-place-eq9.either c.if-byte-lt128.true c.from.ensures refl c.in-Some.ensures.taken c.loop-place.invariant.read

pub loop-place-preserved : goal.loop-place-preserved
loop-place-preserved g c =
    let p = c.loop-place in
    record {
      scale = next_scale_is p.place p.scale p.invariant.scale;
      below = next_below p.value p.scale c.from.result c.in-Some.byte p.invariant.below c.from.ensures;
      place = left_one p.place c.in-Some.byte (g.B.Buf.unread c.args.buf.now) (g.B.Buf.unread p.buf) (g.B.Buf.unread c.take_byte.new.buf) p.invariant.place c.in-Some.ensures.taken;
      tail = tail_more _ _ _ c.in-Some.ensures.tail p.invariant.tail;
      kept = c.in-Some.ensures.kept ∙ p.invariant.kept;
      read = digit_more _ _ _ _ _ _ _ _ (omega arith) c.else-place-eq9.either c.if-byte-lt128.false c.from.ensures c.in-Some.ensures.taken p.invariant.read;
    }
