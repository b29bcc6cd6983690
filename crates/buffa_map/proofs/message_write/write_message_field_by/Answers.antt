use Rattle.std.proofs.Common.{◌≡◌, List, [], ◌∷◌, ◌++◌, length, sym, ap, ◌∙◌, Some, None, subst, arith, append-nil, append_assoc, length-append}
use Rattle.std.specs.List.{Contains}
use Rattle.std.specs.Map.{values_of}
use Rattle.std.proofs.lemmas.Result.{err_from_is_err_and}
use Rattle.buffa_wire.proofs.ByValueLemmas.{length_cut, length_last}
use Rattle.buffa_wire.specs.Passes.{IsNext, cap}
use Rattle.buffa_wire.proofs.PassLemmas.{next_front, next_past, written_err, written_none, written_short, written_then}
use Rattle.buffa_wire.specs.Pinned.{done}
use Rattle.buffa_map.specs.MessageField.{IsFieldWritten, IsSmallField, IsSmallPair, field_slots}
use Rattle.buffa_map.specs.Pairs.{mean, means}
use Rattle.buffa_map.specs.Scalars.{delimited_writing}
use Rattle.buffa_map.specs.Encoding.{field_encoding, record_encoding}
use Rattle.buffa_map.proofs.MessageFieldLemmas.{here, small_at}
use Rattle.buffa_map.proofs.WalkLemmas.{no_pairs}
use Rattle.buffa_map.proofs.WriteLemmas.{field_by_value}
use Rattle.buffa_map.proofs.message_write.write_message_field_by.Goals as goal

pub returns-then-storage_len-eq0-clause-written : goal.returns-then-storage_len-eq0-clause-written
returns-then-storage_len-eq0-clause-written g c =
    let key = g.KC.MapCodec.writing in
    let encoding = g.M.MessageSpec.encoding in
    let written = g.S.EncodeSink.written in
    let walked = means g.KC.Value.Blank.meaning g.M.Blank.meaning (g.C.MapWalk.left c.storage_iter-walk.result) in
    let none : walked ≡ [] = no_pairs g.met.C.MapStorage.equivalence _ walked c.storage_len.ensures.distinct c.storage_iter-walk.ensures.pairs (sym c.storage_len.ensures.len ∙ c.if-storage_len-eq0.true) in
    let same : [] ≡ g.C.StableOrder.walk c.args.map.now = sym none ∙ g.met.C.StableOrder.stable c.args.map.now walked c.storage_iter-walk.ensures.walk in
    subst (λ l. IsFieldWritten key encoding g.M.MessageSpec.slots c.args.number l c.args.cache.now (written c.args.sink.now) done c.args.cache.now (written c.args.sink.now)) same
    (written_none (IsSmallField key encoding []) c.args.cache.now (written c.args.sink.now))

pub loop-key-init : goal.loop-key-init
loop-key-init g c =
    let key = g.KC.MapCodec.writing in
    let m = means g.KC.Value.Blank.meaning g.M.Blank.meaning in
    let encoding = g.M.MessageSpec.encoding in
    let slots = g.M.MessageSpec.slots in
    let written = g.S.EncodeSink.written in
    let same : m (g.C.MapWalk.left c.into_iter-key-iterator.result) ≡ g.C.StableOrder.walk c.args.map.now =
    ap (λ z. m (g.C.MapWalk.left z)) c.into_iter-key-iterator.ensures.into_iter_gives ∙ g.met.C.StableOrder.stable c.args.map.now (m (g.C.MapWalk.left c.storage_iter-walk.result)) c.storage_iter-walk.ensures.walk in
    record {
      within = ([], sym same);
      next = subst (λ l. IsNext (field_slots encoding slots l) c.args.cache.now) (sym same) c.requires.next;
      whole = λ r d b h. subst (λ l. IsFieldWritten key encoding slots c.args.number l c.args.cache.now (written c.args.sink.now) r d b) same h;
      spare = λ keeps small. omega arith;
    }

pub write_message_record_by-requires-clause-next : goal.write_message_record_by-requires-clause-next
write_message_record_by-requires-clause-next g c =
    let encoding = g.M.MessageSpec.encoding in
    let slots = g.M.MessageSpec.slots in
    let i = c.loop-key.invariant in
    let p : g.row.KC-Value.Denot × g.row.M.Denot = (c.in-Some.key.now, c.in-Some.value.now) in
    let m : g.row.KC-Value-Meaning.Denot × g.row.M-Meaning.Denot = mean g.KC.Value.Blank.meaning g.M.Blank.meaning p in
    let rest : List (g.row.KC-Value-Meaning.Denot × g.row.M-Meaning.Denot) = means g.KC.Value.Blank.meaning g.M.Blank.meaning (g.C.MapWalk.left c.next.new.self) in
    let now : List (g.row.KC-Value-Meaning.Denot × g.row.M-Meaning.Denot) = means g.KC.Value.Blank.meaning g.M.Blank.meaning (g.C.MapWalk.left c.loop-key.key-iterator) in
    let step : g.C.MapWalk.left c.loop-key.key-iterator ≡ p ∷ g.C.MapWalk.left c.next.new.self = c.storage_iter-walk.ensures.steps c.loop-key.key-iterator (Some (c.in-Some.key, c.in-Some.value)) c.next.new.self c.in-Some.ensures.steps in
    let n : now ≡ m ∷ rest = ap (λ (z : List (g.row.KC-Value.Denot × g.row.M.Denot)). means g.KC.Value.Blank.meaning g.M.Blank.meaning z) step in
    next_front (cap (length (encoding m.1)) ∷ slots m.1) (field_slots encoding slots rest) c.loop-key.cache (subst (λ l. IsNext (field_slots encoding slots l) c.loop-key.cache) n i.next)

pub write_message_record_by-requires-clause-may : goal.write_message_record_by-requires-clause-may
write_message_record_by-requires-clause-may g c =
    let i = c.loop-key.invariant in
    let p : g.row.KC-Value.Denot × g.row.M.Denot = (c.in-Some.key.now, c.in-Some.value.now) in
    let m : g.row.KC-Value-Meaning.Denot × g.row.M-Meaning.Denot = mean g.KC.Value.Blank.meaning g.M.Blank.meaning p in
    let rest : List (g.row.KC-Value-Meaning.Denot × g.row.M-Meaning.Denot) = means g.KC.Value.Blank.meaning g.M.Blank.meaning (g.C.MapWalk.left c.next.new.self) in
    let step : g.C.MapWalk.left c.loop-key.key-iterator ≡ p ∷ g.C.MapWalk.left c.next.new.self = c.storage_iter-walk.ensures.steps c.loop-key.key-iterator (Some (c.in-Some.key, c.in-Some.value)) c.next.new.self c.in-Some.ensures.steps in
    let e = i.within.1 ∙ ap (λ (z : List (g.row.KC-Value.Denot × g.row.M.Denot)). i.within.0 ++ means g.KC.Value.Blank.meaning g.M.Blank.meaning z) step in
    let h : Contains (values_of (g.C.StableOrder.walk c.args.map.now)) m.1 = here m rest (g.C.StableOrder.walk c.args.map.now) i.within.0 e in
    λ x d s is k. c.requires.may x d s (subst (λ z. Contains (values_of (g.C.StableOrder.walk c.args.map.now)) (g.M.Blank.meaning z)) (sym is) h) k

pub write_message_record_by-requires-clause-keeps : goal.write_message_record_by-requires-clause-keeps
write_message_record_by-requires-clause-keeps g c =
    let i = c.loop-key.invariant in
    let p : g.row.KC-Value.Denot × g.row.M.Denot = (c.in-Some.key.now, c.in-Some.value.now) in
    let m : g.row.KC-Value-Meaning.Denot × g.row.M-Meaning.Denot = mean g.KC.Value.Blank.meaning g.M.Blank.meaning p in
    let rest : List (g.row.KC-Value-Meaning.Denot × g.row.M-Meaning.Denot) = means g.KC.Value.Blank.meaning g.M.Blank.meaning (g.C.MapWalk.left c.next.new.self) in
    let step : g.C.MapWalk.left c.loop-key.key-iterator ≡ p ∷ g.C.MapWalk.left c.next.new.self = c.storage_iter-walk.ensures.steps c.loop-key.key-iterator (Some (c.in-Some.key, c.in-Some.value)) c.next.new.self c.in-Some.ensures.steps in
    let e = i.within.1 ∙ ap (λ (z : List (g.row.KC-Value.Denot × g.row.M.Denot)). i.within.0 ++ means g.KC.Value.Blank.meaning g.M.Blank.meaning z) step in
    let h : Contains (values_of (g.C.StableOrder.walk c.args.map.now)) m.1 = here m rest (g.C.StableOrder.walk c.args.map.now) i.within.0 e in
    λ x d s r f t is k. c.requires.keeps x d s r f t (subst (λ z. Contains (values_of (g.C.StableOrder.walk c.args.map.now)) (g.M.Blank.meaning z)) (sym is) h) k

pub loop-key-preserved : goal.loop-key-preserved
loop-key-preserved g c =
    let key = g.KC.MapCodec.writing in
    let encoding = g.M.MessageSpec.encoding in
    let slots = g.M.MessageSpec.slots in
    let written = g.S.EncodeSink.written in
    let i = c.loop-key.invariant in
    let p : g.row.KC-Value.Denot × g.row.M.Denot = (c.in-Some.key.now, c.in-Some.value.now) in
    let m : g.row.KC-Value-Meaning.Denot × g.row.M-Meaning.Denot = mean g.KC.Value.Blank.meaning g.M.Blank.meaning p in
    let rest : List (g.row.KC-Value-Meaning.Denot × g.row.M-Meaning.Denot) = means g.KC.Value.Blank.meaning g.M.Blank.meaning (g.C.MapWalk.left c.next.new.self) in
    let now : List (g.row.KC-Value-Meaning.Denot × g.row.M-Meaning.Denot) = means g.KC.Value.Blank.meaning g.M.Blank.meaning (g.C.MapWalk.left c.loop-key.key-iterator) in
    let step : g.C.MapWalk.left c.loop-key.key-iterator ≡ p ∷ g.C.MapWalk.left c.next.new.self = c.storage_iter-walk.ensures.steps c.loop-key.key-iterator (Some (c.in-Some.key, c.in-Some.value)) c.next.new.self c.in-Some.ensures.steps in
    let n : now ≡ m ∷ rest = ap (λ (z : List (g.row.KC-Value.Denot × g.row.M.Denot)). means g.KC.Value.Blank.meaning g.M.Blank.meaning z) step in
    let e = i.within.1 ∙ ap (λ (z : List (g.row.KC-Value-Meaning.Denot × g.row.M-Meaning.Denot)). i.within.0 ++ z) n in
    let w = rw c.in_ok-write_message_record_by.was at c.write_message_record_by.ensures.written in
    let slot = cap (length (encoding m.1)) ∷ slots m.1 in
    let number = c.args.number in
    record {
      within = (i.within.0 ++ m ∷ [], e ∙ sym (append_assoc i.within.0 (m ∷ []) rest));
      next = subst (λ d. IsNext (field_slots encoding slots rest) d) (sym w.2.0) (next_past slot (field_slots encoding slots rest) c.loop-key.cache (subst (λ l. IsNext (field_slots encoding slots l) c.loop-key.cache) n i.next));
      whole = λ r d b h. i.whole r d b
          (subst (λ l. IsFieldWritten key encoding slots number l c.loop-key.cache (written c.loop-key.sink) r d b) (sym n)
          (written_then (IsSmallPair key encoding m) (IsSmallField key encoding rest) (IsSmallField key encoding (m ∷ rest)) (record_encoding key (delimited_writing encoding) number m) (field_encoding key (delimited_writing encoding) number rest) slot (field_slots encoding slots rest)
          c.loop-key.cache c.write_message_record_by.new.cache d (written c.loop-key.sink) (written c.write_message_record_by.new.sink) b (λ z. z) r w h));
      spare = λ keeps small.
          let one = c.in_ok-write_message_record_by.ensures.room keeps (small_at key encoding (g.C.StableOrder.walk c.args.map.now) i.within.0 m rest e small) in
          omega (arith, i.spare keeps small, one, length_last (field_by_value key (delimited_writing encoding) number) i.within.0 m);
    }

pub returns-in_err-write_message_record_by-clause-some : goal.returns-in_err-write_message_record_by-clause-some
returns-in_err-write_message_record_by-clause-some g c =
    let q = err_from_is_err_and c.from_residual.result c.from_residual.ensures.1 in
    let i = c.loop-key.invariant in
    let p : g.row.KC-Value.Denot × g.row.M.Denot = (c.in-Some.key.now, c.in-Some.value.now) in
    let m : g.row.KC-Value-Meaning.Denot × g.row.M-Meaning.Denot = mean g.KC.Value.Blank.meaning g.M.Blank.meaning p in
    let rest : List (g.row.KC-Value-Meaning.Denot × g.row.M-Meaning.Denot) = means g.KC.Value.Blank.meaning g.M.Blank.meaning (g.C.MapWalk.left c.next.new.self) in
    let step : g.C.MapWalk.left c.loop-key.key-iterator ≡ p ∷ g.C.MapWalk.left c.next.new.self = c.storage_iter-walk.ensures.steps c.loop-key.key-iterator (Some (c.in-Some.key, c.in-Some.value)) c.next.new.self c.in-Some.ensures.steps in
    let e = i.within.1 ∙ ap (λ (z : List (g.row.KC-Value.Denot × g.row.M.Denot)). i.within.0 ++ means g.KC.Value.Blank.meaning g.M.Blank.meaning z) step in
    rw q.1 (λ none. absurd (omega (arith, ap length none, ap length e, length-append i.within.0 (m ∷ rest))))

pub returns-in_err-write_message_record_by-clause-written : goal.returns-in_err-write_message_record_by-clause-written
returns-in_err-write_message_record_by-clause-written g c =
    let q = err_from_is_err_and c.from_residual.result c.from_residual.ensures.1 in
    let key = g.KC.MapCodec.writing in
    let encoding = g.M.MessageSpec.encoding in
    let slots = g.M.MessageSpec.slots in
    let written = g.S.EncodeSink.written in
    let i = c.loop-key.invariant in
    let p : g.row.KC-Value.Denot × g.row.M.Denot = (c.in-Some.key.now, c.in-Some.value.now) in
    let m : g.row.KC-Value-Meaning.Denot × g.row.M-Meaning.Denot = mean g.KC.Value.Blank.meaning g.M.Blank.meaning p in
    let rest : List (g.row.KC-Value-Meaning.Denot × g.row.M-Meaning.Denot) = means g.KC.Value.Blank.meaning g.M.Blank.meaning (g.C.MapWalk.left c.next.new.self) in
    let now : List (g.row.KC-Value-Meaning.Denot × g.row.M-Meaning.Denot) = means g.KC.Value.Blank.meaning g.M.Blank.meaning (g.C.MapWalk.left c.loop-key.key-iterator) in
    let step : g.C.MapWalk.left c.loop-key.key-iterator ≡ p ∷ g.C.MapWalk.left c.next.new.self = c.storage_iter-walk.ensures.steps c.loop-key.key-iterator (Some (c.in-Some.key, c.in-Some.value)) c.next.new.self c.in-Some.ensures.steps in
    let n : now ≡ m ∷ rest = ap (λ (z : List (g.row.KC-Value.Denot × g.row.M.Denot)). means g.KC.Value.Blank.meaning g.M.Blank.meaning z) step in
    let w = rw c.in_err-write_message_record_by.was at c.write_message_record_by.ensures.written in
    let slot = cap (length (encoding m.1)) ∷ slots m.1 in
    let number = c.args.number in
    let r = c.from_residual.result in
    let c2 = c.write_message_record_by.new.cache in
    let b2 = written c.write_message_record_by.new.sink in
    i.whole r c2 b2
    (subst (λ l. IsFieldWritten key encoding slots number l c.loop-key.cache (written c.loop-key.sink) r c2 b2) (sym n)
    (written_err (IsSmallField key encoding (m ∷ rest)) (field_encoding key (delimited_writing encoding) number (m ∷ rest)) (field_slots encoding slots (m ∷ rest)) c.loop-key.cache c2 (written c.loop-key.sink) b2 r _ _ q.1 q.2
    (written_short (IsSmallPair key encoding m) (IsSmallField key encoding rest) (IsSmallField key encoding (m ∷ rest)) (record_encoding key (delimited_writing encoding) number m) (field_encoding key (delimited_writing encoding) number rest) slot (field_slots encoding slots rest)
    c.loop-key.cache c2 c2 (written c.loop-key.sink) b2 b2 (λ z. z.0) _ w)))

pub returns-clause-written : goal.returns-clause-written
returns-clause-written g c =
    let key = g.KC.MapCodec.writing in
    let encoding = g.M.MessageSpec.encoding in
    let slots = g.M.MessageSpec.slots in
    let written = g.S.EncodeSink.written in
    let step = c.storage_iter-walk.ensures.steps c.loop-key.key-iterator None c.next.new.self c.in-None.ensures.steps in
    let now : List (g.row.KC-Value-Meaning.Denot × g.row.M-Meaning.Denot) = means g.KC.Value.Blank.meaning g.M.Blank.meaning (g.C.MapWalk.left c.loop-key.key-iterator) in
    let n : now ≡ [] = ap (λ (z : List (g.row.KC-Value.Denot × g.row.M.Denot)). means g.KC.Value.Blank.meaning g.M.Blank.meaning z) step.0 in
    c.loop-key.invariant.whole done c.loop-key.cache (written c.loop-key.sink)
    (subst (λ l. IsFieldWritten key encoding slots c.args.number l c.loop-key.cache (written c.loop-key.sink) done c.loop-key.cache (written c.loop-key.sink)) (sym n)
    (written_none (IsSmallField key encoding []) c.loop-key.cache (written c.loop-key.sink)))

pub returns-in_err-write_message_record_by-clause-room : goal.returns-in_err-write_message_record_by-clause-room
returns-in_err-write_message_record_by-clause-room g c keeps small =
    let q = err_from_is_err_and c.from_residual.result c.from_residual.ensures.1 in
    let key = g.KC.MapCodec.writing in
    let encoding = g.M.MessageSpec.encoding in
    let i = c.loop-key.invariant in
    let p : g.row.KC-Value.Denot × g.row.M.Denot = (c.in-Some.key.now, c.in-Some.value.now) in
    let m : g.row.KC-Value-Meaning.Denot × g.row.M-Meaning.Denot = mean g.KC.Value.Blank.meaning g.M.Blank.meaning p in
    let rest : List (g.row.KC-Value-Meaning.Denot × g.row.M-Meaning.Denot) = means g.KC.Value.Blank.meaning g.M.Blank.meaning (g.C.MapWalk.left c.next.new.self) in
    let step : g.C.MapWalk.left c.loop-key.key-iterator ≡ p ∷ g.C.MapWalk.left c.next.new.self = c.storage_iter-walk.ensures.steps c.loop-key.key-iterator (Some (c.in-Some.key, c.in-Some.value)) c.next.new.self c.in-Some.ensures.steps in
    let e = i.within.1 ∙ ap (λ (z : List (g.row.KC-Value.Denot × g.row.M.Denot)). i.within.0 ++ means g.KC.Value.Blank.meaning g.M.Blank.meaning z) step in
    let all = g.C.StableOrder.walk c.args.map.now in
    let one = c.in_err-write_message_record_by.ensures.room keeps (small_at key encoding all i.within.0 m rest e small) in
    rw q.1 (omega (arith, i.spare keeps small, one, length_cut (field_by_value key (delimited_writing encoding) c.args.number) i.within.0 m rest all e))

pub returns-clause-room : goal.returns-clause-room
returns-clause-room g c keeps small =
    let key = g.KC.MapCodec.writing in
    let encoding = g.M.MessageSpec.encoding in
    let i = c.loop-key.invariant in
    let step = c.storage_iter-walk.ensures.steps c.loop-key.key-iterator None c.next.new.self c.in-None.ensures.steps in
    let whole = i.within.1 ∙ ap (λ (z : List (g.row.KC-Value.Denot × g.row.M.Denot)). i.within.0 ++ means g.KC.Value.Blank.meaning g.M.Blank.meaning z) step.0 ∙ append-nil i.within.0 in
    omega (arith, i.spare keeps small, ap (λ z. length (field_encoding key (delimited_writing encoding) c.args.number z)) whole)
