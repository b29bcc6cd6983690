use Rattle.std.proofs.Common.{◌≤◌, [], refl, subst, sym}
use Rattle.buffa_map.specs.Pairs.{means}
use Rattle.buffa_bytes.specs.declared.error.EncodeError.TheVariants.{OutOfMemory}
use Rattle.buffa_wire.specs.Passes.{IsWritten}
use Rattle.buffa_wire.specs.Pinned.{done, refusal}
use Rattle.buffa_recursive.specs.MapKeys.{keys_by}
use Rattle.buffa_fields.specs.facts.SchemaFacts.{follow_none}
use Rattle.buffa_recursive.specs.MapShape.{pairs_shape}
use Rattle.buffa_recursive.specs.Fixpoint.{semantics}
use Rattle.buffa_recursive.specs.facts.MemberPassFacts.{other_put, other_rest}
use Rattle.buffa_recursive.specs.InnerMessages.{encoding_by}
use Rattle.buffa_recursive.proofs.maps.map_put.Goals as goal

pub write_pairs_by-requires-clause-keeps : goal.write_pairs_by-requires-clause-keeps
write_pairs_by-requires-clause-keeps g c = λ x k s r d t is post.
    let o = g.M.RecursiveType.schema in
    let w = semantics g.M.RecursiveType.COST o g.M.RecursiveType.sound in
    let ps = means g.KC.Value.Blank.meaning g.M.Blank.meaning c.args.map.now.entries in
    let same = g.met.M.RecursiveMeaning.means x.now in
    let written = g.S.EncodeSink.written in
    let low = subst (λ v. o.height v ≤ o.pairs_height (o.of_pairs ps)) same (o.pair_low ps (g.M.Blank.meaning x.now) is) in
    subst (λ v. IsWritten (encoding_by w v) (w.slots v) k.now (written s.now) r d.now (written t.now)) (sym same) (c.requires.keeps x k s r d t low post)

pub returns-in-Ok-clause-seen : goal.returns-in-Ok-clause-seen
returns-in-Ok-clause-seen g c = λ name of z h.
    let o = g.M.RecursiveType.schema in
    let keys = keys_by g.KC.MapValueDecode.reading g.KC.MapCodec.writing g.KC.MapValueDecode.COST g.KC.Value.OrderedKey.order g.KC.MapCodec.fits g.KC.MapCodec.normal in
    let ps = means g.KC.Value.Blank.meaning g.M.Blank.meaning c.args.map.now.entries in
    let written = g.S.EncodeSink.written in
    let k = c.write_pairs_by in
    other_put (λ qs. o.of_pairs qs) (λ a. o.pairs_from a) (λ qs. o.pairs_again qs) (pairs_shape keys (semantics g.M.RecursiveType.COST o g.M.RecursiveType.sound)) c.args.number ps z name of (written c.args.sink.now) (written k.new.sink) c.args.cache.now k.new.cache done h c.in-Ok.ensures

pub returns-in-Ok-clause-waits : goal.returns-in-Ok-clause-waits
returns-in-Ok-clause-waits g c = λ rest h.
    let o = g.M.RecursiveType.schema in
    let keys = keys_by g.KC.MapValueDecode.reading g.KC.MapCodec.writing g.KC.MapValueDecode.COST g.KC.Value.OrderedKey.order g.KC.MapCodec.fits g.KC.MapCodec.normal in
    let ps = means g.KC.Value.Blank.meaning g.M.Blank.meaning c.args.map.now.entries in
    let written = g.S.EncodeSink.written in
    let k = c.write_pairs_by in
    other_rest (λ qs. o.of_pairs qs) (λ a. o.pairs_from a) (λ qs. o.pairs_again qs) (pairs_shape keys (semantics g.M.RecursiveType.COST o g.M.RecursiveType.sound)) c.args.number ps rest (written c.args.sink.now) (written k.new.sink) c.args.cache.now k.new.cache done c.in-Ok.ensures h

pub returns-in-Err-clause-seen : goal.returns-in-Err-clause-seen
returns-in-Err-clause-seen g c = λ name of z h.
    let o = g.M.RecursiveType.schema in
    let keys = keys_by g.KC.MapValueDecode.reading g.KC.MapCodec.writing g.KC.MapValueDecode.COST g.KC.Value.OrderedKey.order g.KC.MapCodec.fits g.KC.MapCodec.normal in
    let ps = means g.KC.Value.Blank.meaning g.M.Blank.meaning c.args.map.now.entries in
    let written = g.S.EncodeSink.written in
    let k = c.write_pairs_by in
    let e = c.in-Err.ensures in
    other_put (λ qs. o.of_pairs qs) (λ a. o.pairs_from a) (λ qs. o.pairs_again qs) (pairs_shape keys (semantics g.M.RecursiveType.COST o g.M.RecursiveType.sound)) c.args.number ps z name of (written c.args.sink.now) (written k.new.sink) c.args.cache.now k.new.cache (refusal OutOfMemory) h (e.0, e.1, (refl, e.2.1, e.2.2))

pub returns-in-Err-clause-waits : goal.returns-in-Err-clause-waits
returns-in-Err-clause-waits g c = λ rest h. follow_none [] rest c.write_pairs_by.new.cache OutOfMemory
