-- A put into pairs, of which one has the key.
use Rattle.std.proofs.Common.{◌≡◌, Bool, false, true, List, [], ◌∷◌, Some, refl, sym, ◌∙◌, arith}
use Rattle.std.specs.Cmp.{IsEquivalence}
use Rattle.std.specs.Map.{keys_of, lookup_entry}
use Rattle.buffa_map.specs.Pairs.{put}
use Rattle.buffa_map.proofs.PutLemmas.{lookup_entry-put}
use Rattle.buffa.specs.Keys.{KeepsStoredKeys}

module _ {K V : Type 0} (eq : K → K → Bool) (k : K) (v : V) (e : K × V) where
  abbrev Kept : List (K × V) → Type 0
  Kept m = keys_of (put eq m k v) ≡ keys_of m

  kept_head : (p : K × V) (ps : List (K × V)) (b : Bool) → eq k p.0 ≡ b → (lookup_entry (eq k) ps ≡ Some e → Kept ps) → lookup_entry (eq k) (p ∷ ps) ≡ Some e → Kept (p ∷ ps)
  kept_head p ps true h rec f = grind (arith, h, f)
  kept_head p ps false h rec f =
      let g : lookup_entry (eq k) ps ≡ Some e = grind (arith, h, f) in
      grind (arith, h, rec g)

  pub kept : (m : List (K × V)) → lookup_entry (eq k) m ≡ Some e → Kept m
  kept [] f = grind (arith, f)
  kept (p ∷ ps) f = kept_head p ps (eq k p.0) refl (kept ps) f

pub keeps_stored_keys : {K : Type 0} (V : Type 0) (eq : K → K → Bool) → IsEquivalence eq → KeepsStoredKeys V eq
keeps_stored_keys V eq laws = record {
  stored = λ old new k q v e put found same.
      sym (put q) ∙ lookup_entry-put laws old k v q ∙ rw (same, found) refl;
  others = λ old new k q v put other. sym (put q) ∙ lookup_entry-put laws old k v q ∙ rw other refl;
  places = λ old k v e found. kept eq k v e old found;
}
