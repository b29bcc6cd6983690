use Rattle.std.proofs.Common.{inr, subst, ◌≢◌}
use Rattle.buffa_bytes.specs.declared.error.DecodeError.TheVariants.{OutOfMemory}
use Rattle.buffa_wire.specs.Message.{MergeFault}
use Rattle.buffa_wire.specs.BudgetLeft.{defaults}
use Rattle.buffamap.specs.Again.{IsReadAgain}
use Rattle.buffamap.specs.Fault.{IsOfBytes}
use Rattle.buffamap.proofs.AgainReplyLemmas.{passed_on, refused}
use Rattle.buffamap.proofs.again.again_bytes.Goals as goal

pub returns-in_err-merge_from_slice-clause-fault : goal.returns-in_err-merge_from_slice-clause-fault
returns-in_err-merge_from_slice-clause-fault g c =
    let m = g.M.MessageSpec in
    let bytes = c.args.bytes.now in
    let e = c.in_err-merge_from_slice.field-0.0 in
    let says : e ≢ OutOfMemory → MergeFault (m.merged 100 g.M.Blank.blank_is bytes) (m.cost 100 bytes) defaults e
    = subst (λ v. e ≢ OutOfMemory → MergeFault (m.merged 100 v bytes) (m.cost 100 bytes) defaults e) c.blank-message.ensures c.in_err-merge_from_slice.ensures.merged in
    passed_on (IsReadAgain m.merged m.cost m.encoding g.M.Blank.blank_is bytes) (IsOfBytes e) c.from_residual.result c.from_residual.ensures.1
    (λ f is real. inr (refused (m.merged 100 g.M.Blank.blank_is bytes) (m.cost 100 bytes) e f is says real))
