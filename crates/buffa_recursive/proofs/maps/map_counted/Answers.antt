use Rattle.std.proofs.Common.{refl}
use Rattle.buffa_bytes.specs.declared.error.EncodeError.TheVariants.{OutOfMemory}
use Rattle.buffa_map.specs.Pairs.{means}
use Rattle.buffa_fields.proofs.MapOfMessagesLemmas.{all_sized}
use Rattle.buffa_recursive.specs.MapKeys.{keys_by}
use Rattle.buffa_fields.specs.facts.SchemaFacts.{failed}
use Rattle.buffa_recursive.specs.MapShape.{pairs_shape}
use Rattle.buffa_recursive.specs.Fixpoint.{semantics}
use Rattle.buffa_recursive.specs.facts.MemberPassFacts.{other_counted, other_failed}
use Rattle.buffa_recursive.specs.InnerMessages.{encoding_by}
use Rattle.buffa_recursive.proofs.maps.map_counted.Goals as goal

pub returns-in-Ok : goal.returns-in-Ok
returns-in-Ok g c = λ name z h.
    let o = g.M.RecursiveType.schema in
    let keys = keys_by g.KC.MapValueDecode.reading g.KC.MapCodec.writing g.KC.MapValueDecode.COST g.KC.Value.OrderedKey.order g.KC.MapCodec.fits g.KC.MapCodec.normal in
    let ps = means g.KC.Value.Blank.meaning g.M.Blank.meaning c.args.map.now.entries in
    other_counted (λ qs. o.of_pairs qs) (λ a. o.pairs_from a) (λ qs. o.pairs_again qs) (pairs_shape keys (semantics g.M.RecursiveType.COST o g.M.RecursiveType.sound)) c.args.number ps z name c.args.cache.now c.pairs_len_by.new.cache c.args.total _ _ h c.in-Ok.ensures.sized c.saturating_add.ensures

pub returns-in-Err : goal.returns-in-Err
returns-in-Err g c = λ name z h.
    let o = g.M.RecursiveType.schema in
    let w = semantics g.M.RecursiveType.COST o g.M.RecursiveType.sound in
    let keys = keys_by g.KC.MapValueDecode.reading g.KC.MapCodec.writing g.KC.MapValueDecode.COST g.KC.Value.OrderedKey.order g.KC.MapCodec.fits g.KC.MapCodec.normal in
    let ps = means g.KC.Value.Blank.meaning g.M.Blank.meaning c.args.map.now.entries in
    other_failed (λ qs. o.of_pairs qs) (λ a. o.pairs_from a) (λ qs. o.pairs_again qs) (pairs_shape keys w) c.args.number ps z name c.args.cache.now c.pairs_len_by.new.cache c.args.total OutOfMemory h (refl, c.in-Err.ensures.sized.1)
    (λ none. all_sized (encoding_by w) w.slots ps (failed OutOfMemory) c.in-Err.ensures.some none)
