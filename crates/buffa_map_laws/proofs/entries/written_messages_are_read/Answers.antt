use Rattle.std.proofs.lemmas.List.{length-map}
use Rattle.std.proofs.Common.{◌∙◌, ◌<◌, arith, refl, sym, map}
use Rattle.buffa_wire.specs.Parse.{Fits}
use Rattle.buffa_wire.specs.Passes.{IsSmall}
use Rattle.buffa_wire.specs.Records.{records_of}
use Rattle.buffa_map.specs.Message.{message_reading}
use Rattle.buffa_map.specs.Scalars.{delimited_writing}
use Rattle.buffa_map.proofs.BackLemmas.{all_declared, all_small, as_record, both_hold, fold_back, message_back, implicit_back, run_back, small_encoding}
use Rattle.buffa_map_laws.proofs.entries.written_messages_are_read.Goals as goal

pub returns : goal.returns
returns g c d n l num small fits normal deep distinct =
    let key = g.KC.MapValueDecode.reading in
    let kw = g.KC.MapCodec.writing in
    let encoding = g.M.MessageSpec.encoding in
    let val = message_reading g.M.Blank.blank_is g.M.MessageSpec.merged g.M.MessageSpec.cost in
    let vw = delimited_writing encoding in
    let say = as_record kw vw in
    let both = both_hold g.KC.MapCodec.fits g.KC.MapCodec.normal (λ v. Fits (records_of (g.M.MessageSpec.records v))) g.M.MessageSpec.normal l fits normal in
    let all = both_hold (λ k. g.KC.MapCodec.fits k × g.KC.MapCodec.normal k) (λ k. Unit {0}) (λ v. Fits (records_of (g.M.MessageSpec.records v)) × g.M.MessageSpec.normal v) (λ v. g.M.MessageSpec.levels v < d) l both deep in record {
      entries = map say l;
      run = run_back key val kw vw (g.met.KC.MapCodec.written_wire ∙ sym g.met.KC.MapValueDecode.wire) refl d (λ k. (g.KC.MapCodec.fits k × g.KC.MapCodec.normal k) × Unit {0}) (λ v. ((Fits (records_of (g.M.MessageSpec.records v)) × g.M.MessageSpec.normal v) × (g.M.MessageSpec.levels v < d)) × IsSmall (encoding v))
          (λ v h. implicit_back key kw d v g.met.KC.MapCodec.plain (g.met.KC.MapCodec.reads_back d key.blank v h.0.0 h.0.1))
          (λ v h. message_back g.M.Blank.blank_is g.M.MessageSpec.merged g.M.MessageSpec.cost encoding d v h.1 (omega (arith, h.0.1)) (λ e is. g.met.M.MessageSpec.merged_encoding e v h.0.0.0 h.0.0.1 (omega (arith, is, h.0.1))))
          n l num (small_encoding kw encoding l small) (all_small kw encoding (λ k. (g.KC.MapCodec.fits k × g.KC.MapCodec.normal k) × Unit {0}) (λ v. (Fits (records_of (g.M.MessageSpec.records v)) × g.M.MessageSpec.normal v) × (g.M.MessageSpec.levels v < d)) l small all);
      folded = fold_back g.met.C.MapStorage.equivalence say (λ p. refl) l distinct;
      declared = all_declared say (λ p. refl) l;
      many = length-map l say;
    }
