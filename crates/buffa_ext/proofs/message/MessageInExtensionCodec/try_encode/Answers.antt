use Rattle.std.proofs.Common.{sym, subst}
use Rattle.buffa_wire.specs.RecordsOfValues.{field_data_of}
use Rattle.buffa_codec.specs.Decoded.{KeepsCapacity}
use Rattle.buffa_codec.proofs.CapacityLemmas.{capacity_more, capacity_stays}
use Rattle.buffa_ext.proofs.message.MessageInExtensionCodec.try_encode.Goals as goal

pub returns-clause-room : goal.returns-clause-room
returns-clause-room g c = capacity_more c.args.fields.now c.args.fields.now c.push.new.self (c.args.number, field_data_of c.in_ok-payload.payload) (capacity_stays c.args.fields.now) c.in_ok-push.ensures.ok c.in_ok-push.ensures.room

pub returns-in_err-push-clause-room : goal.returns-in_err-push-clause-room
returns-in_err-push-clause-room g c = subst (KeepsCapacity c.args.fields.now) (sym c.in_err-push.ensures.err) (capacity_stays c.args.fields.now)
