use Rattle.std.proofs.Common.{arith, refl, sym, ◌∙◌, ap}
use Rattle.std.proofs.lemmas.List.{nil_from_length}
use Rattle.std.proofs.lemmas.Result.{err_from_is_err_and}
use Rattle.buffa_bytes.proofs.SequenceLemmas.{not_nil}
use Rattle.buffa_bytes.proofs.FieldLemmas.{skip_falls, tag_falls}
use Rattle.buffa_bytes.proofs.TailLemmas.{tail_more, tail_whole}
use Rattle.buffa_map.specs.Scalars.{int32_reading, text_reading}
use Rattle.buffa_map.proofs.RunLemmas.{entry_falls}
use Rattle.sample_types.specs.Census.{census_field, census_merged, counts_by_name}
use Rattle.sample_types.proofs.CensusLemmas.{census_shortens, entry_counted, entry_none, has_some, other_passed, skip_none, tail_of_entry, wire_none}
use Rattle.sample_types.proofs.MergedLemmas.{none_merged, untagged_refused}
use Rattle.sample_types.proofs.census.Census.merge.Goals as goal

pub fields-init : goal.fields-init
fields-init g c = (refl, tail_whole _, refl)

pub fields-preserved-in-Continue-branch-3 : goal.fields-preserved-in-Continue-branch-3
fields-preserved-in-Continue-branch-3 g c =
    let (met, tail, kept) = c.fields.invariant in
    let ok = c.in_ok-merge_entry.ensures.ok in
    let five = sym c.field_number.ensures ∙ c.if-field_number-eq5.true in
    let counts = counts_by_name c.fields.self.counts.entries in
    let new_counts = counts_by_name c.merge_entry.new.map.entries in (
      met ∙ entry_counted c.args.ctx.depth counts new_counts (g.B.Buf.unread c.fields.buf) (g.B.Buf.unread c.decode.new.buf) (g.B.Buf.unread c.merge_entry.new.buf) c.in_ok-tag.tag.number c.in_ok-tag.tag.wire_type c.in_ok-tag.ensures.reads five c.in_ok-check_wire_type.ensures ok.entry ok.says ok.read (ok.order refl),
      tail_more (g.B.Buf.unread c.args.buf.now) (g.B.Buf.unread c.fields.buf) (g.B.Buf.unread c.merge_entry.new.buf) (tail_more (g.B.Buf.unread c.fields.buf) (g.B.Buf.unread c.decode.new.buf) (g.B.Buf.unread c.merge_entry.new.buf) (tail_of_entry c.args.ctx.depth (g.B.Buf.unread c.decode.new.buf) ok.entry ok.says (g.B.Buf.unread c.merge_entry.new.buf) ok.read) c.decode.ensures.tail) tail,
      c.merge_entry.ensures.kept ∙ c.decode.ensures.kept ∙ kept,
    )

pub fields-preserved : goal.fields-preserved
fields-preserved g c =
    let (met, tail, kept) = c.fields.invariant in
    let counts = counts_by_name c.fields.self.counts.entries in (
      met ∙ other_passed c.args.ctx.depth counts counts (g.B.Buf.unread c.fields.buf) (g.B.Buf.unread c.decode.new.buf) (g.B.Buf.unread c.skip_field_depth.new.buf) c.in_ok-tag.tag.number c.in_ok-tag.tag.wire_type c.in_ok-tag.ensures.reads (λ e. c.if-field_number-eq5.false (c.field_number.ensures ∙ e)) c.in_ok-skip_field_depth.ensures.reads refl,
      tail_more (g.B.Buf.unread c.args.buf.now) (g.B.Buf.unread c.fields.buf) (g.B.Buf.unread c.skip_field_depth.new.buf) (tail_more (g.B.Buf.unread c.fields.buf) (g.B.Buf.unread c.decode.new.buf) (g.B.Buf.unread c.skip_field_depth.new.buf) c.skip_field_depth.ensures.tail c.decode.ensures.tail) tail,
      c.skip_field_depth.ensures.kept ∙ c.decode.ensures.kept ∙ kept,
    )

pub returns-clause-merged : goal.returns-clause-merged
returns-clause-merged g c =
    let empty = nil_from_length (g.B.Buf.unread c.fields.buf) (omega (arith, c.remaining.ensures, c.fields-test.false)) in
    c.fields.invariant.0 ∙ ap (census_merged c.args.ctx.depth (counts_by_name c.fields.self.counts.entries)) empty ∙ none_merged (census_field c.args.ctx.depth) (census_shortens c.args.ctx.depth) (counts_by_name c.fields.self.counts.entries)

pub returns-in_err-tag-clause-refused : goal.returns-in_err-tag-clause-refused
returns-in_err-tag-clause-refused g c =
    let p = err_from_is_err_and c.from_residual.result c.from_residual.ensures.1 in
    let some = not_nil (g.B.Buf.unread c.fields.buf) (omega (arith, c.remaining.ensures, c.fields-test.true)) in
    rw (p.1, p.2) (λ full limit. c.fields.invariant.0 ∙ untagged_refused (census_field c.args.ctx.depth) (census_shortens c.args.ctx.depth) (counts_by_name c.fields.self.counts.entries) (g.B.Buf.unread c.fields.buf) c.in_err-tag.field-0.0 some c.in_err-tag.ensures.reads)

pub returns-in_err-check_wire_type-clause-refused : goal.returns-in_err-check_wire_type-clause-refused
returns-in_err-check_wire_type-clause-refused g c =
    let counts = counts_by_name c.fields.self.counts.entries in
    let p = err_from_is_err_and c.from_residual-in_err-check_wire_type.result c.from_residual-in_err-check_wire_type.ensures.1 in
    let five = sym c.field_number.ensures ∙ c.if-field_number-eq5.true in
    rw (p.1, p.2) (λ full limit. c.fields.invariant.0 ∙ wire_none c.args.ctx.depth counts (g.B.Buf.unread c.fields.buf) (g.B.Buf.unread c.decode.new.buf) c.in_ok-tag.tag.number c.in_ok-tag.tag.wire_type c.in_ok-tag.ensures.reads five c.in_err-check_wire_type.field-0.0 c.in_err-check_wire_type.ensures)

pub returns-in_err-merge_entry-clause-refused : goal.returns-in_err-merge_entry-clause-refused
returns-in_err-merge_entry-clause-refused g c =
    let counts = counts_by_name c.fields.self.counts.entries in
    let p = err_from_is_err_and c.from_residual-in_err-merge_entry.result c.from_residual-in_err-merge_entry.ensures.1 in
    let five = sym c.field_number.ensures ∙ c.if-field_number-eq5.true in
    rw (p.1, p.2) (λ full limit. c.fields.invariant.0 ∙ entry_none c.args.ctx.depth counts (g.B.Buf.unread c.fields.buf) (g.B.Buf.unread c.decode.new.buf) c.in_ok-tag.tag.number c.in_ok-tag.tag.wire_type c.in_ok-tag.ensures.reads five c.in_ok-check_wire_type.ensures
    _ _ c.in_err-merge_entry.field-0.0 (c.in_err-merge_entry.ensures.err.fault full) limit)

pub returns-in_err-skip_field_depth-clause-refused : goal.returns-in_err-skip_field_depth-clause-refused
returns-in_err-skip_field_depth-clause-refused g c =
    let counts = counts_by_name c.fields.self.counts.entries in
    let p = err_from_is_err_and c.from_residual-in_err-skip_field_depth.result c.from_residual-in_err-skip_field_depth.ensures.1 in
    rw (p.1, p.2) (λ full limit. c.fields.invariant.0 ∙ skip_none c.args.ctx.depth counts (g.B.Buf.unread c.fields.buf) (g.B.Buf.unread c.decode.new.buf) c.in_ok-tag.tag.number c.in_ok-tag.tag.wire_type c.in_ok-tag.ensures.reads (λ e. c.if-field_number-eq5.false (c.field_number.ensures ∙ e))
    c.in_err-skip_field_depth.field-0.0 c.in_err-skip_field_depth.ensures.reads)

pub returns-in_err-tag-clause-some : goal.returns-in_err-tag-clause-some
returns-in_err-tag-clause-some g c =
    let p = err_from_is_err_and c.from_residual.result c.from_residual.ensures.1 in
    rw p.1 (has_some (g.B.Buf.unread c.args.buf.now) (g.B.Buf.unread c.fields.buf) c.fields.invariant.1 (omega (arith, c.remaining.ensures, c.fields-test.true)))

pub returns-in_err-check_wire_type-clause-some : goal.returns-in_err-check_wire_type-clause-some
returns-in_err-check_wire_type-clause-some g c =
    let p = err_from_is_err_and c.from_residual-in_err-check_wire_type.result c.from_residual-in_err-check_wire_type.ensures.1 in
    rw p.1 (has_some (g.B.Buf.unread c.args.buf.now) (g.B.Buf.unread c.fields.buf) c.fields.invariant.1 (omega (arith, c.remaining.ensures, c.fields-test.true)))

pub returns-in_err-merge_entry-clause-some : goal.returns-in_err-merge_entry-clause-some
returns-in_err-merge_entry-clause-some g c =
    let p = err_from_is_err_and c.from_residual-in_err-merge_entry.result c.from_residual-in_err-merge_entry.ensures.1 in
    rw p.1 (has_some (g.B.Buf.unread c.args.buf.now) (g.B.Buf.unread c.fields.buf) c.fields.invariant.1 (omega (arith, c.remaining.ensures, c.fields-test.true)))

pub returns-in_err-skip_field_depth-clause-some : goal.returns-in_err-skip_field_depth-clause-some
returns-in_err-skip_field_depth-clause-some g c =
    let p = err_from_is_err_and c.from_residual-in_err-skip_field_depth.result c.from_residual-in_err-skip_field_depth.ensures.1 in
    rw p.1 (has_some (g.B.Buf.unread c.args.buf.now) (g.B.Buf.unread c.fields.buf) c.fields.invariant.1 (omega (arith, c.remaining.ensures, c.fields-test.true)))

pub fields-smaller-in-Continue-branch-3 : goal.fields-smaller-in-Continue-branch-3
fields-smaller-in-Continue-branch-3 g c =
    let ok = c.in_ok-merge_entry.ensures.ok in
    let entry = entry_falls text_reading int32_reading c.args.ctx.depth 5 (g.B.Buf.unread c.decode.new.buf) ok.entry ok.says (g.B.Buf.unread c.merge_entry.new.buf) ok.read in
    omega (arith, tag_falls _ _ c.in_ok-tag.ensures.reads, entry)

pub fields-smaller : goal.fields-smaller
fields-smaller g c =
    omega (arith, tag_falls _ _ c.in_ok-tag.ensures.reads, skip_falls _ _ _ _ _ c.in_ok-skip_field_depth.ensures.reads)
