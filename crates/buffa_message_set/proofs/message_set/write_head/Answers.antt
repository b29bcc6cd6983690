use Rattle.std.proofs.Common.{refl}
use Rattle.buffa_wire.proofs.ShortLemmas.{encoding_one, encoding_two, room_same, writes_same}
use Rattle.buffa_message_set.proofs.ItemEncodingLemmas.{short_head}
use Rattle.buffa_message_set.proofs.message_set.write_head.Goals as goal

pub returns-then-number-lt128-clause-writes : goal.returns-then-number-lt128-clause-writes
returns-then-number-lt128-clause-writes g c =
    writes_same _ _ _ _ _ (short_head c.args.number c.args.len _ (encoding_one c.args.number c.args.number c.if-number-lt128.true refl) c.if-len-ge128.false) c.put_slice.ensures.writes

pub returns-then-number-lt128-clause-room : goal.returns-then-number-lt128-clause-room
returns-then-number-lt128-clause-room g c =
    room_same _ _ _ _ _ (short_head c.args.number c.args.len _ (encoding_one c.args.number c.args.number c.if-number-lt128.true refl) c.if-len-ge128.false) c.put_slice.ensures.room

pub returns-clause-writes : goal.returns-clause-writes
returns-clause-writes g c =
    writes_same _ _ _ _ _ (short_head c.args.number c.args.len _ (encoding_two c.args.number _ _ c.if-number-lt128.false c.if-number-ge16384.false refl refl) c.if-len-ge128.false) c.put_slice-2.ensures.writes

pub returns-clause-room : goal.returns-clause-room
returns-clause-room g c =
    room_same _ _ _ _ _ (short_head c.args.number c.args.len _ (encoding_two c.args.number _ _ c.if-number-lt128.false c.if-number-ge16384.false refl refl) c.if-len-ge128.false) c.put_slice-2.ensures.room
