use Rattle.std.proofs.Common.{◌+◌, false}
use Rattle.std.specs.BTreeMap.{insert_entry}
use Rattle.std.proofs.lemmas.Result.{err_from_is_err_and}
use Rattle.buffa_bytes.proofs.SequenceLemmas.{err_same}
use Rattle.buffa_bytes.specs.PayloadValue.{bytes_in}
use Rattle.buffa_wire.specs.Message.{merged_in}
use Rattle.buffa_map.proofs.InsertLemmas.{is_put_by}
use Rattle.buffa_map.proofs.ChargeLemmas.{entry_limited}
use Rattle.buffa_map.specs.Message.{message_reading}
use Rattle.buffa_map.specs.MessageFacts.{merged_no_limit}
use Rattle.buffa_map.specs.Pairs.{means}
use Rattle.buffa_fields.proofs.OrderedLemmas.{means_ascend}
use Rattle.buffa_fields.proofs.MapLemmas.{map_err, map_full, map_ok, map_refused, other_refused}
use Rattle.buffa_recursive.proofs.ordered_maps.take_pair_by.Goals as goal

pub returns-clause-taken : goal.returns-clause-taken
returns-clause-taken g c =
    let order = g.KC.Value.OrderedKey.order in
    let key = g.KC.Value.Blank.meaning in
    let value = g.M.Blank.meaning in
    let val = message_reading g.M.Blank.blank_is g.M.MessageSpec.merged g.M.MessageSpec.cost in
    let old = c.args.map.now.entries in
    let answer = c.merge_message_entry_by-answer in
    let new = answer.new.map.entries in
    let m = c.in_ok-answer.ensures.ok in
    let first = means_ascend order key value g.KC.Value.Ord.cmp g.met.KC.Value.OrderedKey.compares old c.len-old.ensures.ordered in
    let last = means_ascend order key value g.KC.Value.Ord.cmp g.met.KC.Value.OrderedKey.compares new c.len-new.ensures.ordered in
    map_ok g.KC.MapValueDecode.reading val g.KC.Value.MapKey.same false (insert_entry order) (g.KC.MapValueDecode.COST + g.M.MessageSpec.COST) c.args.depth c.args.tag.number c.args.tag.wire_type
    c.args.buf.now.now answer.new.buf.now _ _ c.in_ok-check_wire_type.ensures (means key value old) (means key value new) m
    (is_put_by g.KC.Value.OrderedKey.total (means key value old) (means key value new) m.says first last g.KC.Value.MapKey.same g.met.KC.Value.OrderedKey.ties m.put)

pub returns-in_err-answer-clause-taken : goal.returns-in_err-answer-clause-taken
returns-in_err-answer-clause-taken g c =
    let val = message_reading g.M.Blank.blank_is g.M.MessageSpec.merged g.M.MessageSpec.cost in
    let answer = c.merge_message_entry_by-answer in
    let p = err_from_is_err_and c.from_residual-in_err-answer.result c.from_residual-in_err-answer.ensures.1 in
    rw (p.1, p.2) (map_err g.KC.MapValueDecode.reading val g.KC.Value.MapKey.same false (insert_entry g.KC.Value.OrderedKey.order) (g.KC.MapValueDecode.COST + g.M.MessageSpec.COST) c.args.depth c.args.tag.number c.args.tag.wire_type
    c.args.buf.now.now answer.new.buf.now _ _ c.in_ok-check_wire_type.ensures
    (means g.KC.Value.Blank.meaning g.M.Blank.meaning c.args.map.now.entries) (means g.KC.Value.Blank.meaning g.M.Blank.meaning answer.new.map.entries)
    (λ d cost extra left bs f h l. entry_limited g.KC.MapValueDecode.reading val d g.met.KC.MapValueDecode.no_limit (λ d old k x h. merged_no_limit (merged_in g.M.MessageSpec.merged d old (bytes_in k)) x h) cost extra left bs f h l)
    c.in_err-answer.field-0.0 c.in_err-answer.ensures.err)

pub returns-in_err-answer-clause-full : goal.returns-in_err-answer-clause-full
returns-in_err-answer-clause-full g c =
    let val = message_reading g.M.Blank.blank_is g.M.MessageSpec.merged g.M.MessageSpec.cost in
    let p = err_from_is_err_and c.from_residual-in_err-answer.result c.from_residual-in_err-answer.ensures.1 in
    rw (p.1, p.2) (λ full. map_full g.KC.MapValueDecode.reading val g.KC.Value.MapKey.same false (insert_entry g.KC.Value.OrderedKey.order) (g.KC.MapValueDecode.COST + g.M.MessageSpec.COST) c.args.depth c.args.tag.number c.args.tag.wire_type c.args.buf.now.now c.args.budget.now c.in_ok-check_wire_type.ensures
    (c.in_err-answer.ensures.err.memory full))

pub returns-in_err-check_wire_type-clause-refused : goal.returns-in_err-check_wire_type-clause-refused
returns-in_err-check_wire_type-clause-refused g c =
    let val = message_reading g.M.Blank.blank_is g.M.MessageSpec.merged g.M.MessageSpec.cost in
    let p = err_from_is_err_and c.from_residual.result c.from_residual.ensures.1 in
    rw (p.1, p.2) (λ e same. other_refused g.KC.MapValueDecode.reading val g.KC.Value.MapKey.same false (insert_entry g.KC.Value.OrderedKey.order) (g.KC.MapValueDecode.COST + g.M.MessageSpec.COST) c.args.depth (means g.KC.Value.Blank.meaning g.M.Blank.meaning c.args.map.now.entries)
    c.args.tag.number c.args.tag.wire_type c.args.buf.now.now c.args.budget.now c.in_err-check_wire_type.field-0.0 e c.in_err-check_wire_type.ensures (err_same same))

pub returns-in_err-answer-clause-refused : goal.returns-in_err-answer-clause-refused
returns-in_err-answer-clause-refused g c =
    let val = message_reading g.M.Blank.blank_is g.M.MessageSpec.merged g.M.MessageSpec.cost in
    let answer = c.merge_message_entry_by-answer in
    let p = err_from_is_err_and c.from_residual-in_err-answer.result c.from_residual-in_err-answer.ensures.1 in
    rw (p.1, p.2) (λ e same. map_refused g.KC.MapValueDecode.reading val g.KC.Value.MapKey.same false (insert_entry g.KC.Value.OrderedKey.order) (g.KC.MapValueDecode.COST + g.M.MessageSpec.COST) c.args.depth c.args.tag.number c.args.tag.wire_type
    c.args.buf.now.now answer.new.buf.now _ _ c.in_ok-check_wire_type.ensures c.in_err-answer.field-0.0 e (err_same same) c.in_err-answer.ensures.err)
