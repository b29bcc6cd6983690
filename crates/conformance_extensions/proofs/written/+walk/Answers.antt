use Rattle.std.proofs.Common.{◌≤◌, sym, ap, subst, ◌∙◌, arith}
use Rattle.buffa_wire.specs.DepthFacts.{height-records}
use Rattle.buffa_wire.specs.Parse.{FitsFieldData, IsValidFieldData}
use Rattle.buffa_wire.specs.Records.{field_data_height}
use Rattle.buffa_wire.specs.RecordsOfValues.{field_data_of, records_in}
use Rattle.conformance_extensions.specs.Normal.{AreWritten}
use Rattle.conformance_extensions.proofs.FrontLemmas.{written_from, written_none}
use Rattle.conformance_extensions.proofs.written.+walk.Goals as goal

pub is_payload_written-returns-then-levels-gt0 : goal.is_payload_written-returns-then-levels-gt0
is_payload_written-returns-then-levels-gt0 t c =
    λ yes. let inner = c.are_written.ensures yes in
    subst (λ p. IsValidFieldData (field_data_of p) × FitsFieldData (field_data_of p) × (field_data_height (field_data_of p) ≤ c.args.levels)) (sym c.in-Group.is)
    (inner.0, inner.1, omega (arith, inner.2, height-records c.in-Group.fields.records))

pub are_written-loop-field-preserved : goal.are_written-loop-field-preserved
are_written-loop-field-preserved t c =
    λ rest. c.loop-field.invariant (written_from c.args.levels c.as_slice-field-items.result.now c.loop-field.field-index c.field-item.result c.loop-field-test.true c.field-item.is
    (c.is_number.ensures c.if-not-is_number.false) (c.is_payload_written.ensures c.if-not-is_payload_written.false) rest)

pub are_written-returns : goal.are_written-returns
are_written-returns t c =
    λ _. subst (AreWritten c.args.levels) (ap records_in c.as_slice-field-items.ensures.value ∙ c.iter.ensures)
    (c.loop-field.invariant (written_none c.args.levels c.as_slice-field-items.result.now c.loop-field.field-index c.loop-field-test.false))
