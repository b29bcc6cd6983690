use Rattle.std.proofs.Common.{[], append-nil, map, sym}
use Rattle.std.proofs.lemmas.Result.{err_from_is_err_and}
use Rattle.buffa_wire.specs.Enums.{numbers}
use Rattle.buffa_fields.proofs.ClosedEnumListLemmas.{front_more, puts_done, puts_fail, puts_next, puts_none}
use Rattle.buffa_fields.proofs.members.closed_enum_list.sift.Goals as goal

pub loop-varint-init : goal.loop-varint-init
loop-varint-init g c = record {
  puts = puts_none (numbers g.E.Enumeration.of_number g.E.Blank.blank_is) c.args.number (map g.E.Blank.meaning c.args.values.now.items, c.args.unknowns.now.records) c.args.budget.now;
  front = ([], sym (append-nil c.args.values.now.items));
}

pub loop-varint-preserved : goal.loop-varint-preserved
loop-varint-preserved g c =
    let m = g.E.Blank.meaning in
    record {
      puts = puts_next (numbers g.E.Enumeration.of_number g.E.Blank.blank_is) c.args.number c.args.varints.now c.loop-varint.varint-index c.loop-varint-test.true
          (map m c.args.values.now.items, c.args.unknowns.now.records) (map m c.loop-varint.values.items, c.loop-varint.unknowns.records) (map m c.sift_one.new.values.items, c.sift_one.new.unknowns.records)
          c.args.budget.now c.loop-varint.budget c.sift_one.new.budget c.loop-varint.invariant.puts c.in_ok-sift_one.ensures.puts;
      front = front_more c.args.values.now.items c.loop-varint.values.items c.sift_one.new.values.items c.loop-varint.invariant.front c.sift_one.ensures.front;
    }

pub returns-in_err-sift_one-clause-puts : goal.returns-in_err-sift_one-clause-puts
returns-in_err-sift_one-clause-puts g c =
    let m = g.E.Blank.meaning in
    let p = err_from_is_err_and c.from_residual.result c.from_residual.ensures.1 in
    rw (p.1, p.2) (puts_fail (numbers g.E.Enumeration.of_number g.E.Blank.blank_is) c.args.number c.args.varints.now c.loop-varint.varint-index c.loop-varint-test.true
    (map m c.args.values.now.items, c.args.unknowns.now.records) (map m c.loop-varint.values.items, c.loop-varint.unknowns.records) (map m c.sift_one.new.values.items, c.sift_one.new.unknowns.records)
    c.args.budget.now c.loop-varint.budget c.sift_one.new.budget c.in_err-sift_one.field-0.0 c.loop-varint.invariant.puts c.in_err-sift_one.ensures.puts)

pub returns-in_err-sift_one-clause-front : goal.returns-in_err-sift_one-clause-front
returns-in_err-sift_one-clause-front g c =
    front_more c.args.values.now.items c.loop-varint.values.items c.sift_one.new.values.items c.loop-varint.invariant.front c.sift_one.ensures.front

pub returns-clause-puts : goal.returns-clause-puts
returns-clause-puts g c =
    let m = g.E.Blank.meaning in
    puts_done (numbers g.E.Enumeration.of_number g.E.Blank.blank_is) c.args.number c.args.varints.now c.loop-varint.varint-index c.loop-varint-test.false
    (map m c.args.values.now.items, c.args.unknowns.now.records) (map m c.loop-varint.values.items, c.loop-varint.unknowns.records)
    c.args.budget.now c.loop-varint.budget c.loop-varint.invariant.puts
