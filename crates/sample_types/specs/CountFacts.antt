-- What a message owes that is a count of repeated fields.
use Rattle.std.proofs.Common.{◌≡◌, ◌≢◌, ℕ, zero, suc, ◌+◌, ◌*◌, ◌^◌, ◌==◌, ◌<◌, List, ◌++◌, length, Some, Result, Ok, Err, refl, ap, sym, subst, ◌∙◌, arith, append_assoc, append-nil, length-append}
use Rattle.buffa_bytes.proofs.ShortestLemmas.{varint_encoding-last}
use Rattle.buffa_bytes.proofs.SinkLemmas.{exits_first, writes_then}
use Rattle.buffa_bytes.proofs.StepLemmas.{agree_if}
use Rattle.buffa_bytes.proofs.VarintLemmas.{IsVarint-varint_encoding, varint_complete}
use Rattle.buffa_bytes.specs.Readings.{varint_at}
use Rattle.buffa_bytes.specs.Written.{Writes, WritesFront}
use Rattle.buffa_bytes.specs.declared.error.EncodeError.{EncodeError}
use Rattle.buffa_bytes.specs.declared.error.EncodeError.TheVariants.{OutOfMemory}
use Rattle.buffa_bytes.specs.declared.wire_type.WireType.TheVariants.{EndGroup, Varint}
use Rattle.buffa_bytes.specs.declared.error.DecodeError.TheVariants as error
use Rattle.buffa_wire.specs.Encoding.{records_encoding}
use Rattle.buffa_wire.specs.Parse.{AreValid}
use Rattle.buffa_wire.specs.Records.{records_of}
use Rattle.buffa_bytes.specs.Values.{tag_encoding}
use Rattle.buffa_bytes.specs.Varint.{varint_encoding}
use Rattle.buffa_wire.specs.ByField.{merged_by}
use Rattle.sample_types.specs.Fields.{skipped_field, varint_field}
use Rattle.buffa_wire.proofs.ByFieldLemmas.{IsSame, IsSound, empty, read}
use Rattle.sample_types.specs.FieldsFacts.{Ends, ends_if, number_tag, one_same, one_sound, same_if, skipped_ends, skipped_same, skipped_sound, tag_one, varint_takes}
use Rattle.sample_types.specs.Count.{count_field, count_merged, count_records, count_encoding, one_more, one_encoding}

pub count_sound : (d : ℕ) → IsSound d (count_field d)
count_sound d v n w bs = agree_if (n == 9) (λ _. one_sound d n 9 varint_at (λ _. one_more v) varint_takes w bs) (λ _. skipped_sound d v n w bs)

pub count_same : (d : ℕ) → IsSame d (count_field d)
count_same d v n w p h = same_if (varint_field 9 (λ _. one_more v) w) (skipped_field d v n w) p (n == 9) (one_same d n 9 varint_at (λ _. one_more v) (λ k. k) (λ q x k. varint_complete q k x) w p h) (skipped_same d v n w p h)

varint_ends : (v : ℕ) (bs : List ℕ) → varint_field 9 (λ _. one_more v) EndGroup bs ≢ Err error.OutOfMemory
varint_ends v bs h = cc

pub count_ends : (d : ℕ) → Ends (count_field d)
count_ends d v n bs = ends_if (n == 9) (varint_field 9 (λ _. one_more v) EndGroup bs) (skipped_field d v n EndGroup bs) (varint_ends v bs) (skipped_ends d v n bs)

pub count_cost_some : 0 < 8
count_cost_some = omega arith

pub count_encoding_records : (n : ℕ) → count_encoding n ≡ records_encoding (count_records n)
count_encoding_records zero = refl
count_encoding_records (suc n) = ap (λ (z : List ℕ). one_encoding ++ z) (count_encoding_records n)

length_one : length one_encoding ≡ 2
length_one = omega (arith, length-append (tag_encoding 9 Varint) (varint_encoding 0), tag_one 9 (omega arith), ap length (varint_encoding-last 0 (omega arith)))

pub length_count : (n : ℕ) → length (count_encoding n) ≡ 2 * n
length_count zero = refl
length_count (suc n) = omega (arith, length-append one_encoding (count_encoding n), length_one, length_count n)

pub count_valid : (n : ℕ) → AreValid (records_of (count_records n))
count_valid zero = tt
count_valid (suc n) = ((omega arith, omega arith), omega arith, count_valid n)

-- ---- the encoding reads back
counted : (d k n : ℕ) → k + n < 2 ^ 64 → count_merged d k (count_encoding n) ≡ Some (k + n)
counted d k zero h = let e : k ≡ k + 0 = omega arith in empty d (count_field d) (count_sound d) (count_same d) k ∙ ap (λ z. Some z) e
counted d k (suc n) h =
    let more : one_more k ≡ k + 1 = omega (arith, h) in
    let field : count_field d k 9 Varint (varint_encoding 0 ++ count_encoding n) ≡ Ok (k + 1, count_encoding n) = rw (varint_complete (varint_encoding 0) 0 (count_encoding n) (IsVarint-varint_encoding 0 (omega arith))) (ap (λ z. Ok (z, count_encoding n)) more) in
    let all : (k + 1) + n ≡ k + suc n = omega arith in
    ap (merged_by (count_field d) k) (append_assoc (tag_encoding 9 Varint) (varint_encoding 0) (count_encoding n))
    ∙ read d (count_field d) (count_sound d) (count_same d) k 9 Varint (tag_encoding 9 Varint) (number_tag 9 (omega arith, omega arith) (omega arith)) (k + 1) (varint_encoding 0 ++ count_encoding n) (count_encoding n) field
    ∙ counted d (k + 1) n (omega (arith, h)) ∙ ap (λ z. Some z) all

pub count_back : (d n : ℕ) → n < 2 ^ 64 → count_merged d 0 (count_encoding n) ≡ Some n
count_back d n h = let e : 0 + n ≡ n = omega arith in counted d 0 n (omega (arith, h)) ∙ ap (λ z. Some z) e

-- ---- writing a field, and then the others
pub count_turn : {T : Type 0} (r : Result T EncodeError) (old mid new : List ℕ) (left less : ℕ) → left ≡ suc less → mid ≡ old ++ one_encoding → Writes r mid (count_encoding less) new → Writes r old (count_encoding left) new
count_turn r old mid new left less is e h = subst (λ z. Writes r old (count_encoding z) new) (sym is) (writes_then r old one_encoding (count_encoding less) mid new e h)

pub nothing_counted : (old : List ℕ) (left : ℕ) → left ≡ 0 → old ≡ old ++ count_encoding left
nothing_counted old left is = sym (append-nil old) ∙ ap (λ z. old ++ count_encoding z) (sym is)

pub count_short : {T : Type 0} {r : Result T EncodeError} {e f : EncodeError} → r ≡ Err e → e ≡ f → (old new : List ℕ) (left less : ℕ) → left ≡ suc less → (f ≡ OutOfMemory) × WritesFront old one_encoding new → Writes r old (count_encoding left) new
count_short {r = r} is same old new left less more h = subst (λ z. Writes r old (count_encoding z) new) (sym more) (exits_first is same old one_encoding (count_encoding less) new h)
