use Rattle.std.proofs.Common.{subst, ◌↔◌, IfOk, IsSome, string_bytes}
use Rattle.buffa_types.specs.TypeUrl.{NamesType}
use Rattle.buffa_types.proofs.messages.any.Any.unpack.Goals as goal

pub returns-clause-there : goal.returns-clause-there
returns-clause-there g c =
    subst (λ name. IfOk c.unpack_as.result (λ m. IsSome m ↔ NamesType (string_bytes c.args.self.now.type_url) name))
    c.full_name.ensures c.unpack_as.ensures.there
