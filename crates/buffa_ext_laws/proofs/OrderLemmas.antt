-- Items field by field, from the front.
use Rattle.std.proofs.Common.{◌≡◌, ◌≢◌, inl, inr, ℕ, List, [], ◌++◌, length, Option, None, Some, refl, sym, subst, ◌∙◌, append-nil}
use Rattle.buffa_bytes.specs.Field.{Field, IsTag}
use Rattle.buffa_bytes.specs.Varint.{IsVarint}
use Rattle.buffa_bytes.specs.declared.wire_type.WireType.{WireType}
use Rattle.buffa_bytes.specs.declared.wire_type.WireType.TheVariants.{Varint, LengthDelimited, EndGroup}
use Rattle.buffa_bytes.specs.declared.error.DecodeError.TheVariants.{InvalidMessageSet}
use Rattle.buffa_bytes.specs.declared.error.MessageSetFault.TheVariants.{MissingTypeId}
use Rattle.buffa_bytes.proofs.SequenceLemmas.{ParsesTo-more}
use Rattle.buffa_message_set.specs.Item.{IsItemField, IsTypeId, Item, ItemFault, Reaches, Said, said, unsaid}

module _ (d : ℕ) where
  -- fields that say s, and whatever follows them
  onto : (fs r : List ℕ) (s : Said) → Reaches d fs s [] → Reaches d (fs ++ r) s r
  onto fs r s (ps, cut, each) = (ps, subst (λ z. fs ++ r ≡ z ++ r) (cut ∙ append-nil _) refl, each)

  one_more : (fs f : List ℕ) (s t : Said) → Reaches d fs s [] → IsItemField d s f t → Reaches d (fs ++ f) t []
  one_more fs f s t h k = ParsesTo-more (IsItemField d) (fs ++ f) unsaid s t f f [] (onto fs f s h) k (sym (append-nil f))

  pub id_more : (n : ℕ) (fs tag p : List ℕ) (o : Option ℕ) (msg : List ℕ) → IsTag tag 2 Varint → IsVarint p n → IsTypeId n → Reaches d fs (said o msg) [] →
      Reaches d (fs ++ (tag ++ p)) (said (Some n) msg) []
  id_more n fs tag p o msg is_tag v range h = one_more fs (tag ++ p) (said o msg) (said (Some n) msg) h (inl (tag, p, n, is_tag, v, range, refl, refl))

  pub message_more : (fs tag l m : List ℕ) (o : Option ℕ) (msg : List ℕ) → IsTag tag 3 LengthDelimited → IsVarint l (length m) → Reaches d fs (said o msg) [] →
      Reaches d (fs ++ (tag ++ (l ++ m))) (said o (msg ++ m)) []
  message_more fs tag l m o msg is_tag v h = one_more fs (tag ++ (l ++ m)) (said o msg) (said o (msg ++ m)) h (inr (inl (tag, l, m, is_tag, v, refl, refl)))

  pub other_more : (n : ℕ) (w : WireType) (fs f : List ℕ) (o : Option ℕ) (msg : List ℕ) → Field d n w f → (n ≡ 2 → w ≢ Varint) → (n ≡ 3 → w ≢ LengthDelimited) → (n ≡ 1 → w ≢ EndGroup) →
      Reaches d fs (said o msg) [] → Reaches d (fs ++ f) (said o msg) []
  other_more n w fs f o msg field a b c h = one_more fs f (said o msg) (said o msg) h (inr (inr (n, w, (a, b, c), field, refl)))

  pub ended : (id : ℕ) (fs end msg : List ℕ) → IsTag end 1 EndGroup → Reaches d fs (said (Some id) msg) [] → Item d (fs ++ end) id msg
  ended id fs end msg is h = (end, is, onto fs end (said (Some id) msg) h)

  pub no_id : (fs end rest msg : List ℕ) → IsTag end 1 EndGroup → Reaches d fs (said None msg) [] → ItemFault d (fs ++ (end ++ rest)) (InvalidMessageSet MissingTypeId)
  no_id fs end rest msg is h = (said None msg, end ++ rest, onto fs (end ++ rest) (said None msg) h, inr (rest, (end, is, refl), refl, refl))
