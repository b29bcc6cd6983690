-- What is answered of a run that is rewritten.
use Rattle.std.proofs.Common.{◌≡◌, inl, ℕ, ◌^◌, ◌≤◌, ℤ, List, [], ◌∷◌, ◌++◌, Result, Ok, Err, false, true, refl, sym, ap, ◌∙◌, subst, length, arith}
use Rattle.std.specs.Prelude.{FitsSigned, OnOk, IfErr}
use Rattle.std.specs.Int.{w32}
use Rattle.std.specs.List.Sorted.{IsStrictlySortedBy}
use Rattle.std.specs.Map.{keys_of}
use Rattle.std.specs.Ordering.{int_cmp, int_eq}
use Rattle.std.proofs.lemmas.Result.{on_ok_weaker, IfErr-weaker}
use Rattle.buffa_bytes.specs.declared.error.DecodeError.{DecodeError}
use Rattle.buffa_bytes.specs.declared.error.EncodeError.TheVariants.{GroupRefused, MessageTooLarge, OutOfMemory}
use Rattle.buffa_wire.specs.BudgetLeft.{BudgetLeft, defaults}
use Rattle.buffa_map.specs.Enums.{ClosedFits, closed_writing}
use Rattle.buffa_map.proofs.ReaderRules.{keeping}
use Rattle.buffa_map.specs.Rewrite.{MatchRefusal, RefusesDecoding, RefusesEncoding, RewritesRun}
use Rattle.buffa_map.specs.Run.{ArePaid, Run}
use Rattle.buffa_map.specs.Encoding.{HasEncoding, entry_encoding}
use Rattle.buffa_map.specs.declared.rewrite.RewriteError.{RewriteError}
use Rattle.buffa_map.specs.declared.rewrite.RewriteError.TheVariants.{Decode, Encode}
use Rattle.buffa_map.proofs.RunLemmas.{run_complete}
use Rattle.buffamap.specs.declared.choice.Choice.{Choice}
use Rattle.buffamap.specs.Choice.{two_numbers}
use Rattle.buffa_map.specs.Scalars.{int32_reading, int32_writing}
use Rattle.buffamap.specs.Reply.{success, hex_line}
use Rattle.buffamap.specs.Rewrite.{Entry, IsRewritten, ChoicePair, IsRewriteError, RunHasNoRewrite, RunRewritesTo, choice_reading, choices_of, choice_run}
use Rattle.buffamap.proofs.RunReplyLemmas.{stops}

keys_seen : (es : List (ℤ × Choice)) → keys_of (choices_of es) ≡ keys_of es
keys_seen [] = refl
keys_seen (e ∷ es) = ap (λ z. e.0 ∷ z) (keys_seen es)

-- a walk of a map has its keys in order
walked : (es : List (ℤ × Choice)) (l : List ChoicePair) → IsStrictlySortedBy int_cmp (keys_of es) → l ≡ choices_of es → IsStrictlySortedBy int_cmp (keys_of l)
walked es l s e = subst (λ (z : List ChoicePair). IsStrictlySortedBy int_cmp (keys_of z)) (sym e) (subst (λ (z : List ℤ). IsStrictlySortedBy int_cmp z) (sym (keys_seen es)) s)

-- a list with an entry that is too long has no encoding
too_long : (done : List ChoicePair) (p : ChoicePair) (rest : List ChoicePair) → 2 ^ 64 ≤ length (entry_encoding int32_writing closed_writing p) → HasEncoding int32_writing closed_writing (done ++ p ∷ rest) → ⊥
too_long [] p rest h k = omega (arith, h, k.0)
too_long (q ∷ done) p rest h k = too_long done p rest h k.1

refusal : DecodeError → Result ℕ DecodeError
refusal f = Err f

-- a run that a reader of the two values rewrites
module _ (d n : ℕ) (left over : BudgetLeft) (bs rest old new : List ℕ) (before after : ℕ) (pairs : List ChoicePair) (es : List (ℤ × Choice)) (is_d : d ≡ 100) (is_left : left ≡ defaults) (empty : old ≡ [])
    (sorted : IsStrictlySortedBy int_cmp (keys_of es)) where
  abbrev pub Walks : List ChoicePair → Type 0
  Walks l = l ≡ choices_of es

  abbrev pub Rewrites : Type 0
  Rewrites = RewritesRun (keeping int32_reading choice_reading int_eq false d n 8) int32_writing closed_writing (FitsSigned w32) (ClosedFits two_numbers) Walks left bs pairs over rest old new before after

  abbrev pub Refuses : RewriteError → Type 0
  Refuses r = MatchRefusal r (RefusesDecoding (keeping int32_reading choice_reading int_eq false d n 8) left bs pairs over rest old new)
      (RefusesEncoding (keeping int32_reading choice_reading int_eq false d n 8) int32_writing closed_writing Walks left bs pairs over rest old new before)

  is_run : (xs : List Entry) → Run int32_reading choice_reading d n bs xs → ArePaid int32_reading choice_reading d 8 1 left xs over → choice_run n bs ≡ Ok (xs, over)
  is_run xs run paid =
      run_complete int32_reading choice_reading 100 n 8 1 (λ _ d c. refl) (λ _ d c. refl) defaults bs xs over (subst (λ z. Run int32_reading choice_reading z n bs xs) is_d run)
      (subst (λ z. ArePaid int32_reading choice_reading z 8 1 defaults xs over) is_d (subst (λ z. ArePaid int32_reading choice_reading d 8 1 z xs over) is_left paid))

  -- what was written is a rewrite
  pub rewritten : {T E : Type 0} (r : Result T E) → OnOk r Rewrites → OnOk r (RunRewritesTo n (choice_run n bs) new)
  rewritten r h = on_ok_weaker r wrote h
    where
      wrote : Rewrites → RunRewritesTo n (choice_run n bs) new
      wrote k =
          let w = k.rewrite in
          subst (λ z. RunRewritesTo n z new) (sym (is_run k.read.entries k.read.run k.read.paid))
          ((w.0, w.1, w.2, w.3, k.encoding ∙ ap (λ z. z ++ k.out) empty ∙ w.4), walked es w.0 sorted k.walks)

  why : (r : RewriteError) → Refuses r → IsRewriteError (choice_run n bs) r
  why (Decode f) k = λ real. stops int32_reading choice_reading int_eq 8 true (λ _ d c. refl) (λ _ d c. refl) refl refl (refusal f) d n left over bs [] pairs [] k.0 is_d is_left rest f k.1 real
  why (Encode MessageTooLarge) k = λ real.
      let long = k.encoding in
      (refl, subst RunHasNoRewrite (sym (is_run k.read.entries k.read.run k.read.paid)) (k.walk, k.once, walked es k.walk sorted k.walks, λ h. too_long long.0 long.1 long.2 long.5 (subst (HasEncoding int32_writing closed_writing) long.3 h)))
  why (Encode OutOfMemory) k = λ real. absurd (real refl)
  why (Encode (GroupRefused e)) k = λ real. absurd k.encoding

  pub refused : {T : Type 0} (r : Result T RewriteError) → IfErr r Refuses → IfErr r (IsRewriteError (choice_run n bs))
  refused r h = IfErr-weaker r _ _ why h

-- what was written, in hexadecimal, is the reply
pub replied : (n : ℕ) (run : Result (List Entry × BudgetLeft) DecodeError) (out text : List ℕ) → RunRewritesTo n run out → text ≡ hex_line out → IsRewritten n run (success text)
replied n (Ok r) out text h e = inl (out, h, ap success e)
replied n (Err f) out text h e = absurd h
