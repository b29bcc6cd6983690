-- A map's way through its bytes has one answer.
use Rattle.std.proofs.Common.{◌≡◌, ℕ, ◌^◌, ◌*◌, ◌<◌, ◌≤◌, Bool, List, ◌∷◌, ◌++◌, length, ap, refl, subst, sym, ◌∙◌, arith}
use Rattle.std.specs.Cmp.{IsEquivalence}
use Rattle.std.specs.List.{All}
use Rattle.std.specs.List.Sorted.{IsPermutation}
use Rattle.std.proofs.lemmas.List.Sorted.{All-permutation, length_permutation}
use Rattle.buffa_bytes.specs.declared.error.DecodeError.TheVariants as decode
use Rattle.buffa_bytes.specs.declared.error.EncodeError.TheVariants as encode
use Rattle.buffa_map.specs.Codec.{Writing}
use Rattle.buffa_map.specs.Pairs.{InOrder}
use Rattle.buffa_map.specs.Encoding.{HasEncoding, entry_encoding}
use Rattle.buffa_map.proofs.WalkLemmas.{permuted}
use Rattle.sample_types.specs.Pinned.{IsFull, TripIsPinned}
use Rattle.sample_types.specs.RoundTrip.{RefusesPairs}
use Rattle.sample_types.specs.declared.round_trip.TripFault.{TripFault}
use Rattle.sample_types.specs.declared.round_trip.TripFault.TheVariants.{Decode, Encode}
use Rattle.buffa_map_laws.proofs.PinEncodingLemmas.{IsShort, all_short, short_in}

module _ {K V : Type 0} (key : Writing K) (val : Writing V) where
  -- what has an encoding has no entry that is too long, in whatever order
  pub no_long : (l m done : List (K × V)) (p : K × V) (rest : List (K × V)) → HasEncoding key val l → IsPermutation l m → m ≡ done ++ p ∷ rest → 2 ^ 64 ≤ length (entry_encoding key val p) → ⊥
  no_long l m done p rest has turn is long =
      let few : length (entry_encoding key val p) < 2 ^ 64 = short_in key val done p rest (subst (All (IsShort key val)) is (All-permutation (IsShort key val) l m turn (all_short key val l has))) in
      absurd (omega (arith, few, long))

  module _ {eq : K → K → Bool} (laws : IsEquivalence eq) (cost : ℕ) (m : List (K × V)) (Walk : List (K × V) → Type 0) where
    refused_pairs : (l w : List (K × V)) (f : TripFault) → IsPermutation l w → HasEncoding key val l → length l * cost ≤ 268435456 → RefusesPairs key val cost w f → IsFull f
    refused_pairs l w (Encode encode.OutOfMemory) turn has paid h = tt
    refused_pairs l w (Encode encode.MessageTooLarge) turn has paid h = absurd (no_long l w h.0 h.1 h.2 has turn h.3 h.4)
    refused_pairs l w (Encode (encode.GroupRefused e)) turn has paid h = absurd h
    refused_pairs l w (Decode decode.OutOfMemory) turn has paid h = tt
    refused_pairs l w (Decode f) turn has paid h =
        let more = (h.2 (λ e. cc)).1 in
        absurd (omega (arith, paid, subst (λ z. 268435456 < z * cost) (length_permutation l w turn) more))

    one_fault : (l w : List (K × V)) (f g : TripFault) → IsPermutation l w → IsPermutation w l → RefusesPairs key val cost l f → RefusesPairs key val cost w g → (IsFull f → ⊥) → (IsFull g → ⊥) → f ≡ g
    one_fault l w (Encode encode.OutOfMemory) g to back h k nf ng = absurd (nf tt)
    one_fault l w f (Encode encode.OutOfMemory) to back h k nf ng = absurd (ng tt)
    one_fault l w (Encode (encode.GroupRefused e)) g to back h k nf ng = absurd h
    one_fault l w f (Encode (encode.GroupRefused e)) to back h k nf ng = absurd k
    one_fault l w (Encode encode.MessageTooLarge) (Encode encode.MessageTooLarge) to back h k nf ng = refl
    one_fault l w (Encode encode.MessageTooLarge) (Decode g) to back h k nf ng = absurd (no_long w l h.0 h.1 h.2 k.1 back h.3 h.4)
    one_fault l w (Decode f) (Encode encode.MessageTooLarge) to back h k nf ng = absurd (no_long l w k.0 k.1 k.2 h.1 to k.3 k.4)
    one_fault l w (Decode f) (Decode g) to back h k nf ng =
        ap (λ z. Decode z) ((h.2 (λ e. nf (subst (λ z. IsFull (Decode z)) (sym e) tt))).0 ∙ sym (k.2 (λ e. ng (subst (λ z. IsFull (Decode z)) (sym e) tt))).0)

    pub trip_is_pinned : (keeps : Bool) → ((l : List (K × V)) → Walk l → InOrder keeps m l) → TripIsPinned key val cost eq keeps m Walk
    trip_is_pinned keeps walked = record {
      same = λ a b h k q. sym (h q) ∙ k q;
      order = λ a b h k is. k.2 is ∙ walked k.0 k.1 is ∙ sym (h.2 is ∙ walked h.0 h.1 is);
      refused = λ f h k. refused_pairs h.0 k.0 f (permuted laws m h.0 k.0 h.2 k.2) h.3 h.4 k.3;
      faults = λ f g h k. one_fault h.0 k.0 f g (permuted laws m h.0 k.0 h.2 k.2) (permuted laws m k.0 h.0 k.2 h.2) h.3 k.3;
    }
