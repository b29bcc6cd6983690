use Rattle.std.proofs.Common.{arith, ◌≡◌, ℕ, ◌+◌, ◌++◌, List, [], ◌∷◌, refl, sym, ◌∙◌, ap, Some, None, Ok, subst}
use Rattle.std.specs.List.{Contains}
use Rattle.std.specs.Map.{values_of}
use Rattle.std.proofs.lemmas.Result.{err_from_is_err_and}
use Rattle.buffa_wire.specs.Cache.{appended}
use Rattle.buffa_wire.specs.Passes.{cap}
use Rattle.buffa_wire.proofs.PassLemmas.{appended_none, appended_twice, longer_through, longer_twice, set_ok, slots_step}
use Rattle.buffa_map.specs.MessageField.{IsFieldSized, IsSmallField, field_slots}
use Rattle.buffa_map.specs.Pairs.{mean, means}
use Rattle.buffa_map.specs.Scalars.{delimited_writing}
use Rattle.buffa_map.specs.Encoding.{field_size, saturated}
use Rattle.buffa_map.proofs.MessageFieldLemmas.{here, onward, size_capped, size_exact}
use Rattle.buffa_map.proofs.WalkLemmas.{has_pairs, no_pairs}
use Rattle.buffa_map.proofs.message_size.message_field_len_by.Goals as goal

pub returns-then-storage_len-eq0-clause-sized : goal.returns-then-storage_len-eq0-clause-sized
returns-then-storage_len-eq0-clause-sized g c =
    let walked = means g.KC.Value.Blank.meaning g.M.Blank.meaning (g.C.MapWalk.left c.storage_iter-walk.result) in
    let none : walked ≡ [] = no_pairs g.met.C.MapStorage.equivalence _ walked c.storage_len.ensures.distinct c.storage_iter-walk.ensures.pairs (sym c.storage_len.ensures.len ∙ c.if-storage_len-eq0.true) in
    let same : [] ≡ g.C.StableOrder.walk c.args.map.now = sym none ∙ g.met.C.StableOrder.stable c.args.map.now walked c.storage_iter-walk.ensures.walk in
    subst (λ l. IsFieldSized g.KC.MapCodec.writing g.M.MessageSpec.encoding g.M.MessageSpec.slots c.args.outer_tag_len l c.args.cache.now (Ok 0) c.args.cache.now) same
    (refl, λ _. refl, sym (appended_none c.args.cache.now))

pub loop-key-init : goal.loop-key-init
loop-key-init g c =
    let m = means g.KC.Value.Blank.meaning g.M.Blank.meaning in
    let encoding = g.M.MessageSpec.encoding in
    let same : m (g.C.MapWalk.left c.into_iter-key-iterator.result) ≡ g.C.StableOrder.walk c.args.map.now =
    ap (λ z. m (g.C.MapWalk.left z)) c.into_iter-key-iterator.ensures.into_iter_gives ∙ g.met.C.StableOrder.stable c.args.map.now (m (g.C.MapWalk.left c.storage_iter-walk.result)) c.storage_iter-walk.ensures.walk in
    record {
      within = ([], sym same);
      capped = ap (λ l. cap (0 + field_size g.KC.MapCodec.writing (delimited_writing encoding) c.args.outer_tag_len l)) same ∙ ap cap (omega arith);
      exact = λ h. (subst (λ l. IsSmallField g.KC.MapCodec.writing encoding l) (sym same) h, ap (λ l. saturated (0 + field_size g.KC.MapCodec.writing (delimited_writing encoding) c.args.outer_tag_len l)) same ∙ ap saturated (omega arith));
      bound = omega arith;
      cache = ap (λ z. appended (field_slots encoding g.M.MessageSpec.slots (m (g.C.MapWalk.left c.into_iter-key-iterator.result))) z) c.make_room.ensures.slots
          ∙ ap (λ l. appended (field_slots encoding g.M.MessageSpec.slots l) c.args.cache.now) same;
      longer = ([], c.make_room.ensures.slots ∙ sym (appended_none c.args.cache.now));
    }

pub size-requires : goal.size-requires
size-requires g c =
    let i = c.loop-key.invariant in
    let p : g.row.KC-Value.Denot × g.row.M.Denot = (c.in-Some.key.now, c.in-Some.value.now) in
    let m = mean g.KC.Value.Blank.meaning g.M.Blank.meaning p in
    let rest = means g.KC.Value.Blank.meaning g.M.Blank.meaning (g.C.MapWalk.left c.next.new.self) in
    let step : g.C.MapWalk.left c.loop-key.key-iterator ≡ p ∷ g.C.MapWalk.left c.next.new.self = c.storage_iter-walk.ensures.steps c.loop-key.key-iterator (Some (c.in-Some.key, c.in-Some.value)) c.next.new.self c.in-Some.ensures.steps in
    let e = i.within.1 ∙ ap (λ (z : List (g.row.KC-Value.Denot × g.row.M.Denot)). i.within.0 ++ means g.KC.Value.Blank.meaning g.M.Blank.meaning z) step in
    let h : Contains (values_of (g.C.StableOrder.walk c.args.map.now)) m.1 = here m rest (g.C.StableOrder.walk c.args.map.now) i.within.0 e in
    c.requires.may _ _ h

pub set-requires : goal.set-requires
set-requires g c =
    let i = c.loop-key.invariant in
    let p : g.row.KC-Value.Denot × g.row.M.Denot = (c.in-Some.key.now, c.in-Some.value.now) in
    let m = mean g.KC.Value.Blank.meaning g.M.Blank.meaning p in
    let rest = means g.KC.Value.Blank.meaning g.M.Blank.meaning (g.C.MapWalk.left c.next.new.self) in
    let step : g.C.MapWalk.left c.loop-key.key-iterator ≡ p ∷ g.C.MapWalk.left c.next.new.self = c.storage_iter-walk.ensures.steps c.loop-key.key-iterator (Some (c.in-Some.key, c.in-Some.value)) c.next.new.self c.in-Some.ensures.steps in
    let e = i.within.1 ∙ ap (λ (z : List (g.row.KC-Value.Denot × g.row.M.Denot)). i.within.0 ++ means g.KC.Value.Blank.meaning g.M.Blank.meaning z) step in
    let h : Contains (values_of (g.C.StableOrder.walk c.args.map.now)) m.1 = here m rest (g.C.StableOrder.walk c.args.map.now) i.within.0 e in
    let s = c.requires.keeps _ _ _ _ h c.size.ensures in
    let t = rw c.in_ok-inner.was at s in
    set_ok _ _ _ _ _ c.in_ok-slot.ensures.place c.in_ok-slot.ensures.ok t.1

pub returns-in_err-inner-clause-sized : goal.returns-in_err-inner-clause-sized
returns-in_err-inner-clause-sized g c =
    let q = err_from_is_err_and c.from_residual-in_err-inner.result c.from_residual-in_err-inner.ensures.1 in
    let i = c.loop-key.invariant in
    let p : g.row.KC-Value.Denot × g.row.M.Denot = (c.in-Some.key.now, c.in-Some.value.now) in
    let m = mean g.KC.Value.Blank.meaning g.M.Blank.meaning p in
    let rest = means g.KC.Value.Blank.meaning g.M.Blank.meaning (g.C.MapWalk.left c.next.new.self) in
    let step : g.C.MapWalk.left c.loop-key.key-iterator ≡ p ∷ g.C.MapWalk.left c.next.new.self = c.storage_iter-walk.ensures.steps c.loop-key.key-iterator (Some (c.in-Some.key, c.in-Some.value)) c.next.new.self c.in-Some.ensures.steps in
    let e = i.within.1 ∙ ap (λ (z : List (g.row.KC-Value.Denot × g.row.M.Denot)). i.within.0 ++ means g.KC.Value.Blank.meaning g.M.Blank.meaning z) step in
    let h : Contains (values_of (g.C.StableOrder.walk c.args.map.now)) m.1 = here m rest (g.C.StableOrder.walk c.args.map.now) i.within.0 e in
    let s = c.requires.keeps _ _ _ _ h c.size.ensures in
    let t = rw c.in_err-inner.was at s in
    rw q.1 (q.2 ∙ t.0, longer_through _ _ _ _ i.longer c.in_ok-slot.ensures.ok t.1)

pub loop-key-preserved : goal.loop-key-preserved
loop-key-preserved g c =
    let key = g.KC.MapCodec.writing in
    let encoding = g.M.MessageSpec.encoding in
    let slots = g.M.MessageSpec.slots in
    let i = c.loop-key.invariant in
    let p : g.row.KC-Value.Denot × g.row.M.Denot = (c.in-Some.key.now, c.in-Some.value.now) in
    let m : g.row.KC-Value-Meaning.Denot × g.row.M-Meaning.Denot = mean g.KC.Value.Blank.meaning g.M.Blank.meaning p in
    let all = g.C.StableOrder.walk c.args.map.now in
    let rest : List (g.row.KC-Value-Meaning.Denot × g.row.M-Meaning.Denot) = means g.KC.Value.Blank.meaning g.M.Blank.meaning (g.C.MapWalk.left c.next.new.self) in
    let now : List (g.row.KC-Value-Meaning.Denot × g.row.M-Meaning.Denot) = means g.KC.Value.Blank.meaning g.M.Blank.meaning (g.C.MapWalk.left c.loop-key.key-iterator) in
    let step : g.C.MapWalk.left c.loop-key.key-iterator ≡ p ∷ g.C.MapWalk.left c.next.new.self = c.storage_iter-walk.ensures.steps c.loop-key.key-iterator (Some (c.in-Some.key, c.in-Some.value)) c.next.new.self c.in-Some.ensures.steps in
    let n : now ≡ m ∷ rest = ap (λ (z : List (g.row.KC-Value.Denot × g.row.M.Denot)). means g.KC.Value.Blank.meaning g.M.Blank.meaning z) step in
    let e : all ≡ i.within.0 ++ m ∷ rest = i.within.1 ∙ ap (λ (z : List (g.row.KC-Value-Meaning.Denot × g.row.M-Meaning.Denot)). i.within.0 ++ z) n in
    let h : Contains (values_of all) m.1 = here m rest all i.within.0 e in
    let s = c.requires.keeps _ _ _ _ h c.size.ensures in
    let t = rw c.in_ok-inner.was at s in
    let added = slots_step _ _ _ _ _ _ _ c.in_ok-slot.ensures.place c.in_ok-slot.ensures.ok t.1 c.set.ensures in
    let left = field_size key (delimited_writing encoding) c.args.outer_tag_len rest in
    record {
      within = onward m rest all i.within.0 e;
      capped = size_capped key encoding m c.in_ok-inner.inner t.0 c.args.outer_tag_len c.loop-key.total left c.message_record_len.result c.saturating_add-total.result c.message_record_len.ensures c.saturating_add-total.ensures
          ∙ ap (λ l. cap (c.loop-key.total + field_size key (delimited_writing encoding) c.args.outer_tag_len l)) (sym n) ∙ i.capped;
      exact = λ small.
          let o : IsSmallField key encoding now = (i.exact small).0 in
          let u : IsSmallField key encoding (m ∷ rest) = subst (λ l. IsSmallField key encoding l) n o in (
            u.1,
            size_exact key encoding m c.in_ok-inner.inner t.0 c.args.outer_tag_len c.loop-key.total left c.message_record_len.result c.saturating_add-total.result c.message_record_len.ensures c.saturating_add-total.ensures u.0.0 u.0.1
                ∙ ap (λ l. saturated (c.loop-key.total + field_size key (delimited_writing encoding) c.args.outer_tag_len l)) (sym n) ∙ (i.exact small).1,
          );
      cache = appended_twice _ (field_slots encoding slots rest) _ _ added
          ∙ ap (λ (x : ℕ). appended (x ∷ slots m.1 ++ field_slots encoding slots rest) c.loop-key.cache) t.0
          ∙ ap (λ l. appended (field_slots encoding slots l) c.loop-key.cache) (sym n) ∙ i.cache;
      bound = omega (arith, c.saturating_add-total.ensures);
      longer = longer_twice _ _ _ _ i.longer added;
    }

pub returns-clause-sized : goal.returns-clause-sized
returns-clause-sized g c =
    let key = g.KC.MapCodec.writing in
    let encoding = g.M.MessageSpec.encoding in
    let slots = g.M.MessageSpec.slots in
    let i = c.loop-key.invariant in
    let step = c.storage_iter-walk.ensures.steps c.loop-key.key-iterator None c.next.new.self c.in-None.ensures.steps in
    let now : List (g.row.KC-Value-Meaning.Denot × g.row.M-Meaning.Denot) = means g.KC.Value.Blank.meaning g.M.Blank.meaning (g.C.MapWalk.left c.loop-key.key-iterator) in
    let n : now ≡ [] = ap (λ (z : List (g.row.KC-Value.Denot × g.row.M.Denot)). means g.KC.Value.Blank.meaning g.M.Blank.meaning z) step.0 in (
      ap cap (omega arith) ∙ ap (λ l. cap (c.loop-key.total + field_size key (delimited_writing encoding) c.args.outer_tag_len l)) (sym n) ∙ i.capped,
      λ small. omega (arith, i.bound) ∙ ap (λ l. saturated (c.loop-key.total + field_size key (delimited_writing encoding) c.args.outer_tag_len l)) (sym n) ∙ (i.exact small).1,
      sym (appended_none c.loop-key.cache) ∙ ap (λ l. appended (field_slots encoding slots l) c.loop-key.cache) (sym n) ∙ i.cache,
    )

pub returns-in_err-slot-clause-some : goal.returns-in_err-slot-clause-some
returns-in_err-slot-clause-some g c =
    let q = err_from_is_err_and c.from_residual-in_err-slot.result c.from_residual-in_err-slot.ensures.1 in
    let i = c.loop-key.invariant in
    let walked = means g.KC.Value.Blank.meaning g.M.Blank.meaning (g.C.MapWalk.left c.storage_iter-walk.result) in
    let p : g.row.KC-Value.Denot × g.row.M.Denot = (c.in-Some.key.now, c.in-Some.value.now) in
    let step : g.C.MapWalk.left c.loop-key.key-iterator ≡ p ∷ g.C.MapWalk.left c.next.new.self = c.storage_iter-walk.ensures.steps c.loop-key.key-iterator (Some (c.in-Some.key, c.in-Some.value)) c.next.new.self c.in-Some.ensures.steps in
    let e = i.within.1 ∙ ap (λ (z : List (g.row.KC-Value.Denot × g.row.M.Denot)). i.within.0 ++ means g.KC.Value.Blank.meaning g.M.Blank.meaning z) step in
    rw q.1 (has_pairs g.met.C.MapStorage.equivalence _ walked i.within.0 _ _ c.storage_len.ensures.distinct c.storage_iter-walk.ensures.pairs (g.met.C.StableOrder.stable c.args.map.now walked c.storage_iter-walk.ensures.walk ∙ e))

pub returns-in_err-inner-clause-some : goal.returns-in_err-inner-clause-some
returns-in_err-inner-clause-some g c =
    let q = err_from_is_err_and c.from_residual-in_err-inner.result c.from_residual-in_err-inner.ensures.1 in
    let i = c.loop-key.invariant in
    let walked = means g.KC.Value.Blank.meaning g.M.Blank.meaning (g.C.MapWalk.left c.storage_iter-walk.result) in
    let p : g.row.KC-Value.Denot × g.row.M.Denot = (c.in-Some.key.now, c.in-Some.value.now) in
    let step : g.C.MapWalk.left c.loop-key.key-iterator ≡ p ∷ g.C.MapWalk.left c.next.new.self = c.storage_iter-walk.ensures.steps c.loop-key.key-iterator (Some (c.in-Some.key, c.in-Some.value)) c.next.new.self c.in-Some.ensures.steps in
    let e = i.within.1 ∙ ap (λ (z : List (g.row.KC-Value.Denot × g.row.M.Denot)). i.within.0 ++ means g.KC.Value.Blank.meaning g.M.Blank.meaning z) step in
    rw q.1 (has_pairs g.met.C.MapStorage.equivalence _ walked i.within.0 _ _ c.storage_len.ensures.distinct c.storage_iter-walk.ensures.pairs (g.met.C.StableOrder.stable c.args.map.now walked c.storage_iter-walk.ensures.walk ∙ e))
