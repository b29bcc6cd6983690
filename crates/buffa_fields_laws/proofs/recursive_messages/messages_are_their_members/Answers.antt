use Rattle.buffa_recursive.specs.facts.FixpointFacts.{is_normal, levels_are, normal_is, records_are, slots_are}
use Rattle.buffa_fields_laws.proofs.recursive_messages.messages_are_their_members.Goals as goal

pub returns : goal.returns
returns g c =
    let v = c.args.message.now in
    record {
      records = records_are g.M.RecursiveType.COST g.M.RecursiveType.schema g.M.RecursiveType.sound v;
      slots = slots_are g.M.RecursiveType.COST g.M.RecursiveType.schema g.M.RecursiveType.sound v;
      levels = levels_are g.M.RecursiveType.COST g.M.RecursiveType.schema g.M.RecursiveType.sound v;
      normal = normal_is g.M.RecursiveType.COST g.M.RecursiveType.schema g.M.RecursiveType.sound v;
      is_normal = is_normal g.M.RecursiveType.COST g.M.RecursiveType.schema g.M.RecursiveType.sound v;
    }
