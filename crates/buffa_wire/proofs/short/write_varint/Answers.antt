use Rattle.std.proofs.Common.{refl}
use Rattle.buffa_wire.proofs.ShortLemmas.{encoding_one, encoding_two, encoding_three, writes_same, room_same}
use Rattle.buffa_wire.proofs.short.write_varint.Goals as goal

pub returns-then-n-lt128-clause-writes : goal.returns-then-n-lt128-clause-writes
returns-then-n-lt128-clause-writes g c = writes_same _ _ _ _ _ (encoding_one c.args.n _ c.if-n-lt128.true refl) c.put_byte.ensures.writes

pub returns-then-n-lt128-clause-room : goal.returns-then-n-lt128-clause-room
returns-then-n-lt128-clause-room g c = room_same _ _ _ _ _ (encoding_one c.args.n _ c.if-n-lt128.true refl) c.put_byte.ensures.room

pub returns-then-n-lt16384-clause-writes : goal.returns-then-n-lt16384-clause-writes
returns-then-n-lt16384-clause-writes g c = writes_same _ _ _ _ _ (encoding_two c.args.n _ _ c.if-n-lt128.false c.if-n-lt16384.true refl refl) c.put_slice.ensures.writes

pub returns-then-n-lt16384-clause-room : goal.returns-then-n-lt16384-clause-room
returns-then-n-lt16384-clause-room g c = room_same _ _ _ _ _ (encoding_two c.args.n _ _ c.if-n-lt128.false c.if-n-lt16384.true refl refl) c.put_slice.ensures.room

pub returns-then-n-lt2097152-clause-writes : goal.returns-then-n-lt2097152-clause-writes
returns-then-n-lt2097152-clause-writes g c =
    writes_same _ _ _ _ _ (encoding_three c.args.n _ _ _ c.if-n-lt16384.false c.if-n-lt2097152.true refl refl refl) c.put_slice-then-n-lt2097152.ensures.writes

pub returns-then-n-lt2097152-clause-room : goal.returns-then-n-lt2097152-clause-room
returns-then-n-lt2097152-clause-room g c =
    room_same _ _ _ _ _ (encoding_three c.args.n _ _ _ c.if-n-lt16384.false c.if-n-lt2097152.true refl refl refl) c.put_slice-then-n-lt2097152.ensures.room
