-- Each command has a reply to every input.
use Rattle.std.proofs.Common.{◌≡◌, ◌⊎◌, inl, inr, ℕ, ◌^◌, ◌<◌, ◌≤◌, ℤ, List, [], ◌∷◌, ◌++◌, length, Option, Some, None, Result, Ok, Err, refl, subst, codes, FitsSigned, arith}
use Rattle.std.proofs.lemmas.Bool.{cases_lt}
use Rattle.std.proofs.lemmas.Cmp.{int_cmp_total}
use Rattle.std.specs.Cmp.Lexicographic.{nat_list_cmp_total, slice_cmp}
use Rattle.std.specs.Int.{w32}
use Rattle.std.specs.Ordering.{int_cmp, int_eq, nat_cmp}
use Rattle.buffa_bytes.specs.declared.error.DecodeError.{DecodeError}
use Rattle.buffa_bytes.specs.declared.error.DecodeError.TheVariants.{UnexpectedEof}
use Rattle.buffa_wire.specs.BudgetLeft.{BudgetLeft, Lacks, defaults}
use Rattle.buffa_bytes.specs.ErrorText.{decode_error_text}
use Rattle.buffa_wire.specs.Records.{FieldData}
use Rattle.buffa_wire.specs.Encoding.{records_encoding}
use Rattle.buffa_map.specs.Enums.{ClosedFits, closed_writing}
use Rattle.buffa_map_laws.specs.Laws.{RunsAreRead}
use Rattle.buffa_map.specs.Pairs.{ListsOnce}
use Rattle.buffa_map.specs.Run.{EntryRecord, fold_entries, undeclared_records}
use Rattle.buffa_map.specs.Encoding.{AllHold, HasEncoding, entry_encoding, field_encoding}
use Rattle.buffamap.specs.Again.{IsEncoded, IsReadAgainIn, RefusesMessageBytes, RepliesToAgain, encoding_reply}
use Rattle.buffamap.specs.Choice.{two_numbers}
use Rattle.buffa_map.specs.Scalars.{int32_reading, int32_writing}
use Rattle.buffamap.specs.Ext.{IsShown, IsShownOf, RepliesToExt, ext_text, records_from}
use Rattle.buffamap.specs.Forms.{hex_bytes, without_newline}
use Rattle.buffamap.specs.Item.{IsFound, IsFoundIn, RepliesToItem, item_of_input, item_lines}
use Rattle.buffamap.specs.Lines.{ListedInOrder, Pair, lines_of, map_in, same_key}
use Rattle.buffamap.specs.Pinned.{HasReply}
use Rattle.buffamap.specs.Read.{RepliesToBytes, RepliesToRead, RepliesToRun, run_from}
use Rattle.buffamap.specs.Reply.{Reply, bad_input, success, fault, hex_line}
use Rattle.buffamap.specs.Rewrite.{Entry, IsRewritten, IsRewrittenOf, RepliesToRewrite, choice_reading, ChoicePair, choice_run}
use Rattle.buffamap.specs.Write.{RepliesToMap, RepliesToWrite, field_reply}
use Rattle.buffa_codec.specs.RecordsOfNumber.{sub}
use Rattle.buffamap.proofs.FitLemmas.{pairs_fit, run_fits}
use Rattle.buffamap.proofs.OrderedLemmas.{same_test}
use Rattle.buffamap.proofs.OrderLemmas.{ordered, ordered_holds, ordered_once, ordered_sorted}

-- a map has a list of its pairs in order
listed : (m : List Pair) → (ps : List Pair) × ListedInOrder m ps
listed m = (ordered (slice_cmp nat_cmp) m, (subst (λ eq. ListsOnce eq m (ordered (slice_cmp nat_cmp) m)) same_test (ordered_once nat_list_cmp_total m), ordered_sorted nat_list_cmp_total m))

run_there : (r : Result (List (EntryRecord (List ℕ) ℤ) × BudgetLeft) DecodeError) → (reply : Reply) × RepliesToRun r reply
run_there (Ok r) = let l = listed (fold_entries same_key [] r.0) in (success (lines_of l.0), (l.0, l.1, refl))
run_there (Err f) = (fault (decode_error_text f), refl)

bytes_there : (n : ℕ) (o : Option (List ℕ)) → (reply : Reply) × RepliesToBytes n o reply
bytes_there n None = (bad_input, refl)
bytes_there n (Some bytes) = run_there (run_from n bytes)

pub read_there : (n : ℕ) → HasReply (RepliesToRead n)
read_there n input = bytes_there n (hex_bytes (without_newline input))

map_there : (n : ℕ) (o : Option (List Pair)) → (reply : Reply) × RepliesToMap n o reply
map_there n None = (bad_input, refl)
map_there n (Some m) = let l = listed m in (field_reply n l.0, (l.0, l.1, refl))

pub write_there : (n : ℕ) → HasReply (RepliesToWrite n)
write_there n input = map_there n (map_in input)

shown_there : (n : ℕ) (r : Result (List (ℕ × FieldData)) DecodeError) → (reply : Reply) × IsShown n r reply
shown_there n (Ok records) = (success (ext_text (sub n records)), refl)
shown_there n (Err f) = (fault (decode_error_text f), refl)

shown_of_there : (n : ℕ) (o : Option (List ℕ)) → (reply : Reply) × IsShownOf n o reply
shown_of_there n None = (bad_input, refl)
shown_of_there n (Some bytes) = shown_there n (records_from bytes)

pub ext_there : (n : ℕ) → HasReply (RepliesToExt n)
ext_there n input = shown_of_there n (hex_bytes (without_newline input))

found_there : (r : Result (ℕ × List ℕ × List ℕ) DecodeError) → (reply : Reply) × IsFound r reply
found_there (Ok item) = (success (item_lines item.0 item.1 item.2), refl)
found_there (Err f) = (fault (decode_error_text f), refl)

found_in_there : (o : Option (List ℕ)) → (reply : Reply) × IsFoundIn o reply
found_in_there None = (bad_input, refl)
found_in_there (Some bytes) = found_there (item_of_input bytes)

pub item_there : HasReply RepliesToItem
item_there input = found_in_there (hex_bytes (without_newline input))

-- ---- a message again

-- a budget has what bytes cost, or it hasn't
affords : (cost : BudgetLeft) → Lacks defaults cost ⊎ (Lacks defaults cost → ⊥)
affords cost = both (cases_lt defaults.unknown cost.unknown) (cases_lt defaults.memory cost.memory)
  where
    both : (defaults.unknown < cost.unknown) ⊎ (cost.unknown ≤ defaults.unknown) → (defaults.memory < cost.memory) ⊎ (cost.memory ≤ defaults.memory) → Lacks defaults cost ⊎ (Lacks defaults cost → ⊥)
    both (inl a) b = inl (inl a)
    both (inr a) (inl b) = inl (inr b)
    both (inr a) (inr b) = inr (none a b)
      where
        none : (cost.unknown ≤ defaults.unknown) → (cost.memory ≤ defaults.memory) → Lacks defaults cost → ⊥
        none a b (inl h) = omega (arith, a, h)
        none a b (inr h) = omega (arith, b, h)

module _ {X : Type 0} (text : X → List ℕ) (cost : BudgetLeft) where
  abbrev Told : Option X → Type 0
  Told meant = (reply : Reply) × (IsEncoded meant cost text reply ⊎ RefusesMessageBytes meant cost reply)

  again_there_of : (meant : Option X) → Lacks defaults cost ⊎ (Lacks defaults cost → ⊥) → Told meant
  again_there_of None b = (fault (decode_error_text UnexpectedEof), inr (UnexpectedEof, λ e. cc, inr (refl, λ h. h), refl))
  again_there_of (Some v) (inl lacks) = (fault (decode_error_text UnexpectedEof), inr (UnexpectedEof, λ e. cc, inl lacks, refl))
  again_there_of (Some v) (inr paid) = (encoding_reply (text v), inl (v, refl, paid, refl))

module _ {X : Type 0} (merged : ℕ → X → List ℕ → Option X) (cost : ℕ → List ℕ → BudgetLeft) (text : X → List ℕ) (blank : X) where
  again_in_there : (o : Option (List ℕ)) → (reply : Reply) × IsReadAgainIn merged cost text blank o reply
  again_in_there None = (bad_input, refl)
  again_in_there (Some bytes) = again_there_of text (cost 100 bytes) (merged 100 blank bytes) (affords (cost 100 bytes))

  pub again_there : HasReply (RepliesToAgain merged cost text blank)
  again_there input = again_in_there (hex_bytes (without_newline input))

-- ---- a rewrite

has_or_not : (l : List ChoicePair) → HasEncoding int32_writing closed_writing l ⊎ (HasEncoding int32_writing closed_writing l → ⊥)
has_or_not [] = inl tt
has_or_not (p ∷ l) = both (cases_lt (length (entry_encoding int32_writing closed_writing p)) (2 ^ 64)) (has_or_not l)
  where
    both : (length (entry_encoding int32_writing closed_writing p) < 2 ^ 64) ⊎ (2 ^ 64 ≤ length (entry_encoding int32_writing closed_writing p)) →
        HasEncoding int32_writing closed_writing l ⊎ (HasEncoding int32_writing closed_writing l → ⊥) →
        HasEncoding int32_writing closed_writing (p ∷ l) ⊎ (HasEncoding int32_writing closed_writing (p ∷ l) → ⊥)
    both (inl a) (inl b) = inl (a, b)
    both (inl a) (inr b) = inr (λ h. b h.1)
    both (inr a) b = inr (λ h. omega (arith, a, h.0))

module _ (n : ℕ) (read : RunsAreRead int32_reading choice_reading) where
  rewritten_there : (bytes : List ℕ) (r : Result (List Entry × BudgetLeft) DecodeError) → choice_run n bytes ≡ r → (reply : Reply) × IsRewritten n r reply
  rewritten_there bytes (Err f) is = (fault (decode_error_text f), refl)
  rewritten_there bytes (Ok r) is = reported (has_or_not l)
    where
      m : List ChoicePair
      m = fold_entries int_eq [] r.0

      l : List ChoicePair
      l = ordered int_cmp m

      fits : AllHold (FitsSigned w32) (ClosedFits two_numbers) l
      fits = ordered_holds int_cmp (FitsSigned w32) (ClosedFits two_numbers) m (pairs_fit r.0 [] (run_fits 100 n bytes r.0 ((read.ok 100 n 8 1 defaults bytes r.0 r.1).0 is).0) tt)

      out : List ℕ
      out = field_encoding int32_writing closed_writing n l ++ records_encoding (undeclared_records n r.0)

      reported : HasEncoding int32_writing closed_writing l ⊎ (HasEncoding int32_writing closed_writing l → ⊥) → (reply : Reply) × IsRewritten n (Ok r) reply
      reported (inl h) = (success (hex_line out), inl (out, ((l, ordered_once int_cmp_total m, h, fits, refl), ordered_sorted int_cmp_total m), refl))
      reported (inr h) = (fault (codes "MessageTooLarge"), inr ((l, ordered_once int_cmp_total m, ordered_sorted int_cmp_total m, h), refl))

  rewritten_of_there : (o : Option (List ℕ)) → (reply : Reply) × IsRewrittenOf n o reply
  rewritten_of_there None = (bad_input, refl)
  rewritten_of_there (Some bytes) = rewritten_there bytes (choice_run n bytes) refl

  pub rewrite_there : HasReply (RepliesToRewrite n)
  rewrite_there input = rewritten_of_there (hex_bytes (without_newline input))
