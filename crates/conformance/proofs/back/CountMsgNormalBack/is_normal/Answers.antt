use Rattle.std.proofs.Common.{arith}
use Rattle.conformance.proofs.CountLemmas.{count_fits}
use Rattle.conformance.proofs.back.CountMsgNormalBack.is_normal.Goals as goal

pub returns : goal.returns
returns c = λ _. (omega arith, omega arith, count_fits c.args.self.now.count)
