use Rattle.std.proofs.Common.{ap, sym, arith, length}
use Rattle.buffa_wire.specs.Records.{Held}
use Rattle.buffa_wire.proofs.RecordLemmas.{held_eq_no, length-records_in, more_equal, not_same, all_same}
use Rattle.buffa_wire.specs.Equal.{field_eq-Decides}
use Rattle.buffa_wire.proofs.unknown_fields.equal.+equal.Goals as goal

pub UnknownFieldsPartialEq::eq-returns-then-n-len :
    goal.UnknownFieldsPartialEq::eq-returns-then-n-len
UnknownFieldsPartialEq::eq-returns-then-n-len t c =
    sym (held_eq_no c.args.self.now c.args.other.now (λ e.
    let p = ap (λ (h : Held). length h.records) c.self.view_is in
    let q = ap (λ (h : Held). length h.records) c.other.view_is in
    let k = ap length e in
    absurd (omega (arith, length-records_in c.self.inside.fields.items, length-records_in c.other.inside.fields.items))))

pub UnknownFieldsPartialEq::eq-returns-then-not-same :
    goal.UnknownFieldsPartialEq::eq-returns-then-not-same
UnknownFieldsPartialEq::eq-returns-then-not-same t c =
    not_same c.args.self.now c.args.other.now c.self.inside.fields.items c.other.inside.fields.items c.loop-i.i c.index-a.result.now c.index-b.result.now
    (ap (λ (h : Held). h.records) c.self.view_is) (ap (λ (h : Held). h.records) c.other.view_is) (omega arith) (omega arith) c.index-a.ensures c.index-b.ensures (sym c.if-not-same.ensures)

pub UnknownFieldsPartialEq::eq-loop-i-preserved : goal.UnknownFieldsPartialEq::eq-loop-i-preserved
UnknownFieldsPartialEq::eq-loop-i-preserved t c =
    more_equal c.self.inside.fields.items c.other.inside.fields.items c.loop-i.i c.index-a.result.now c.index-b.result.now _ _ (omega arith) (omega arith) c.index-a.ensures c.index-b.ensures ((field_eq-Decides c.index-a.result.now c.index-b.result.now).0 (sym c.if-not-same.ensures)) c.loop-i.invariant

pub UnknownFieldsPartialEq::eq-returns : goal.UnknownFieldsPartialEq::eq-returns
UnknownFieldsPartialEq::eq-returns t c =
    all_same c.args.self.now c.args.other.now c.self.inside.fields.items c.other.inside.fields.items c.loop-i.i (ap (λ (h : Held). h.records) c.self.view_is) (ap (λ (h : Held). h.records) c.other.view_is) (omega arith) (omega arith) c.loop-i.invariant
