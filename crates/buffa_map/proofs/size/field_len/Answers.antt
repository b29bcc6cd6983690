use Rattle.std.proofs.Common.{arith, ◌≡◌, ℕ, ◌+◌, ◌++◌, List, [], ◌∷◌, refl, sym, ◌∙◌, ap, append-nil, append_assoc, Some, None}
use Rattle.buffa_map.specs.Pairs.{mean, means}
use Rattle.buffa_map.specs.Encoding.{field_size, saturated}
use Rattle.buffa_map.proofs.SizeLemmas.{field_size-append, saturated-add}
use Rattle.buffa_map.proofs.WalkLemmas.{counted}
use Rattle.buffa_map.proofs.size.field_len.Goals as goal

pub loop-key-init : goal.loop-key-init
loop-key-init g c = (
  means g.KC.Value.Blank.meaning g.VC.Value.Blank.meaning (g.C.MapWalk.left c.storage_iter-walk.result),
  [],
  c.storage_iter-walk.ensures.walk,
  c.storage_iter-walk.ensures.pairs,
  ap (λ z. means g.KC.Value.Blank.meaning g.VC.Value.Blank.meaning (g.C.MapWalk.left z)) (sym c.into_iter-key-iterator.ensures.into_iter_gives),
  refl,
)

pub loop-key-preserved : goal.loop-key-preserved
loop-key-preserved g c =
    let inv = c.loop-key.invariant in
    let key = g.KC.MapCodec.writing in
    let val = g.VC.MapCodec.writing in
    let t = c.args.outer_tag_len in
    let p : g.row.KC-Value.Denot × g.row.VC-Value.Denot = (c.in-Some-2.key.now, c.in-Some-2.value.now) in
    let m : g.row.KC-Value-Meaning.Denot × g.row.VC-Value-Meaning.Denot = mean g.KC.Value.Blank.meaning g.VC.Value.Blank.meaning p in
    let step : g.C.MapWalk.left c.loop-key.key-iterator ≡ p ∷ g.C.MapWalk.left c.next.new.self = c.storage_iter-walk.ensures.steps c.loop-key.key-iterator (Some (c.in-Some-2.key, c.in-Some-2.value)) c.next.new.self c.in-Some-2.ensures.steps in
    let one : c.record_len.result ≡ saturated (field_size key val t (m ∷ [])) = c.record_len.ensures ∙ ap saturated (omega arith) in (
      inv.0,
      inv.1 ++ m ∷ [],
      inv.2,
      inv.3,
      inv.4 ∙ ap (λ (z : List (g.row.KC-Value.Denot × g.row.VC-Value.Denot)). inv.1 ++ means g.KC.Value.Blank.meaning g.VC.Value.Blank.meaning z) step ∙ sym (append_assoc inv.1 (m ∷ []) (means g.KC.Value.Blank.meaning g.VC.Value.Blank.meaning (g.C.MapWalk.left c.next.new.self))),
      c.saturating_add-total.ensures ∙ ap (λ (n : ℕ). saturated (n + c.record_len.result)) inv.5 ∙ ap (λ (n : ℕ). saturated (saturated (field_size key val t inv.1) + n)) one
          ∙ saturated-add (field_size key val t inv.1) (field_size key val t (m ∷ [])) ∙ ap saturated (sym (field_size-append key val t inv.1 (m ∷ []))),
    )

pub returns : goal.returns
returns g c =
    let inv = c.loop-key.invariant in
    let step = c.storage_iter-walk.ensures.steps c.loop-key.key-iterator None c.next.new.self c.in-None.ensures.steps in
    let all : inv.0 ≡ inv.1 = inv.4 ∙ ap (λ (z : List (g.row.KC-Value.Denot × g.row.VC-Value.Denot)). inv.1 ++ means g.KC.Value.Blank.meaning g.VC.Value.Blank.meaning z) step.0 ∙ append-nil inv.1 in
    (inv.0, inv.2, inv.3, rw all inv.5)

pub returns-in-Some : goal.returns-in-Some
returns-in-Some g c =
    let walk = c.storage_iter-walk.ensures in
    let l = means g.KC.Value.Blank.meaning g.VC.Value.Blank.meaning (g.C.MapWalk.left c.storage_iter-walk.result) in
    (l, walk.walk, walk.pairs, counted _ _ g.met.C.MapStorage.equivalence _ _ _ _ _ l c.in-Some.ensures c.storage_len.ensures.distinct walk.pairs c.storage_len.ensures.len c.saturating_mul.ensures)
