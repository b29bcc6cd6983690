-- Passing a map field on has one answer.
use Rattle.std.proofs.Common.{◌≡◌, ◌∙◌, ℕ, ℤ, false, List, [], subst, sym}
use Rattle.std.specs.Cmp.{IsEquivalence}
use Rattle.buffa_bytes.specs.declared.error.DecodeError.TheVariants as decode
use Rattle.buffa_bytes.specs.declared.error.EncodeError.TheVariants as encode
use Rattle.buffa_wire.specs.BudgetLeft.{defaults, nothing}
use Rattle.buffa_bytes.specs.PayloadValue.{PayloadValue}
use Rattle.buffa_map.specs.Enums.{ClosedFits, closed_writing}
use Rattle.buffa_map.specs.Merge.{ReadsRun, state}
use Rattle.buffa_map.specs.Pairs.{SamePairs}
use Rattle.buffa_map.specs.declared.rewrite.RewriteError.{RewriteError}
use Rattle.buffa_map.specs.declared.rewrite.RewriteError.TheVariants as rewriting
use Rattle.buffa_map_laws.proofs.PinLemmas.{run_is_pinned}
use Rattle.buffa_map_laws.proofs.PinEncodingLemmas.{rewrite_is_pinned}
use Rattle.sample_types.specs.Passed.{IsRewrittenByOlder, NotRewritten, Proxy}
use Rattle.sample_types.specs.Pinned.{IsFullRewrite, PassIsPinned}

module _ {K : Type 0} (p : Proxy K) (KeyFits : K → Type 0) (walks : List (K × ℤ) → Type 0) (d n : ℕ) (bytes : List ℕ) (laws : IsEquivalence (p.older d n).same)
    (key_free : (p.older d n).key.nested ≡ false → (e : ℕ) (c : PayloadValue) → (p.older d n).key.cost e c ≡ nothing)
    (val_free : (p.older d n).val.nested ≡ false → (e : ℕ) (c : PayloadValue) → (p.older d n).val.cost e c ≡ nothing)
    (new_key_free : (p.newer d n).key.nested ≡ false → (e : ℕ) (c : PayloadValue) → (p.newer d n).key.cost e c ≡ nothing)
    (new_val_free : (p.newer d n).val.nested ≡ false → (e : ℕ) (c : PayloadValue) → (p.newer d n).val.cost e c ≡ nothing) where
  -- two rewrites fill the same map, and are one encoding where one walk was written
  one : (x y : List (K × ℤ)) (v w : List ℕ) (h : IsRewrittenByOlder p KeyFits d n bytes x v) (k : IsRewrittenByOlder p KeyFits d n bytes y w) →
      SamePairs (p.older d n).same x y × (h.rewrites.rewrite.0 ≡ k.rewrites.rewrite.0 → v ≡ w)
  one x y v w h k =
      let pins = (rewrite_is_pinned (p.older d n) laws key_free val_free p.key closed_writing KeyFits (ClosedFits p.numbers) (λ _. Unit {0}) (λ _. Unit {0}) defaults bytes x y h.left k.left [] [] [] v w 0).rewritten 0 0 h.rewrites k.rewrites in
      (pins.0, pins.4)

  no_refusal : (x y : List (K × ℤ)) (v : List ℕ) (e : RewriteError) → IsRewrittenByOlder p KeyFits d n bytes x v → NotRewritten p KeyFits d n bytes walks y e → IsFullRewrite e
  no_refusal x y v (rewriting.Decode decode.OutOfMemory) h k = tt
  no_refusal x y v (rewriting.Encode encode.OutOfMemory) h k = tt
  no_refusal x y v (rewriting.Decode f) h k =
      absurd ((rewrite_is_pinned (p.older d n) laws key_free val_free p.key closed_writing KeyFits (ClosedFits p.numbers) (λ _. Unit {0}) walks defaults bytes x y h.left k.0 [] k.1 [] v k.2 0).read 0 f h.rewrites k.3 (λ e. cc))
  no_refusal x y v (rewriting.Encode f) h k =
      absurd ((rewrite_is_pinned (p.older d n) laws key_free val_free p.key closed_writing KeyFits (ClosedFits p.numbers) (λ _. Unit {0}) walks defaults bytes x y h.left k.0 [] k.1 [] v k.2 0).written 0 f h.rewrites k.3 (λ e. cc))

  pub pass_is_pinned : PassIsPinned p KeyFits walks d n bytes
  pass_is_pinned = record {
    records = λ old a b run h k. h run.newer_entries run.newer_run ∙ sym (k run.newer_entries run.newer_run);
    ordered = λ old a b es fs s t o h k q. sym (h es fs s t o q) ∙ k es fs s t o q;
    filled = λ x y m a b u v w h k. (one x y h.out k.out h.rewritten k.rewritten).0;
    read = λ x y m a b u v w h k walk.
        let encoding = (one x y h.out k.out h.rewritten k.rewritten).1 walk in
        let both = (run_is_pinned (p.newer d n) new_key_free new_val_free).read (state m u.records defaults) k.out (state a v.records h.over) (state b w.records k.over) [] []
        (subst (λ (z : List ℕ). ReadsRun (p.newer d n) (state m u.records defaults) z (state a v.records h.over) []) encoding h.reads) k.reads in
        (both.0.pairs, both.0.records);
    rewritten = λ x y m a u v e h k. no_refusal x y h.out e h.rewritten k;
    stopped = λ x y m a b u v w f h k walk ne.
        let encoding = (one x y h.out k.out h.rewritten k.rewritten).1 walk in
        (run_is_pinned (p.newer d n) new_key_free new_val_free).refused (state m u.records defaults) k.out (state a v.records h.over) (state b w.records k.over) [] k.unread f
        (subst (λ (z : List ℕ). ReadsRun (p.newer d n) (state m u.records defaults) z (state a v.records h.over) []) encoding h.reads) k.stops ne;
  }
