use Rattle.std.proofs.lemmas.Result.{err_from_is_err_and}
use Rattle.buffa_bytes.proofs.SinkLemmas.{sent_none, sent_digit, sent_last, sent_room, sent_refused, sent_full}
use Rattle.buffa_bytes.proofs.varint.encode_varint.Goals as goal

pub loop-rest-init : goal.loop-rest-init
loop-rest-init g c = sent_none _ _ _

pub loop-rest-preserved : goal.loop-rest-preserved
loop-rest-preserved g c =
    sent_digit _ _ _ _ _ _ _ _ c.loop-rest-test.true c.loop-rest.invariant c.in_ok-put_byte.ensures.writes c.in_ok-put_byte.ensures.room

pub returns : goal.returns
returns g c = record {
  writes = sent_last _ _ _ _ _ _ _ _ c.loop-rest-test.false c.loop-rest.invariant c.put_byte-2.ensures.writes;
  room = sent_room _ _ _ _ _ _ _ _ c.loop-rest-test.false c.loop-rest.invariant c.put_byte-2.ensures.room;
}

pub returns-in_err-put_byte : goal.returns-in_err-put_byte
returns-in_err-put_byte g c =
    let p = err_from_is_err_and c.from_residual.result c.from_residual.ensures.1 in
    record {
      writes = sent_refused p.1 p.2 _ _ _ _ _ _ _ c.loop-rest-test.true c.loop-rest.invariant c.in_err-put_byte.ensures.writes;
      room = sent_full p.1 _ _ _ _ _ _ _ c.loop-rest-test.true c.loop-rest.invariant c.in_err-put_byte.ensures.room;
    }
