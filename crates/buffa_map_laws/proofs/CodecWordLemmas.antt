-- What codecs read, in the words of bytes.
use Rattle.std.proofs.Common.{arith, ◌≡◌, ◌++◌, inl, inr, ℕ, zero, suc, ℤ, Bool, true, false, List, Option, None, Result, Ok, Err, ap, append_assoc, refl, sym, subst, ◌∙◌, cond}
use Rattle.buffa_bytes.proofs.DelimitedLemmas.{delimited_complete, delimited_faulty}
use Rattle.buffa_bytes.proofs.StepLemmas.{err_same}
use Rattle.buffa_bytes.specs.PayloadValue.PayloadValue.{bytes, number}
use Rattle.std.specs.Prelude.{is_some, pos, IsOk}
use Rattle.std.specs.Str.{is_utf8}
use Rattle.buffa_bytes.specs.PayloadValue.{PayloadValue, payload_value_at, number_in, bytes_in}
use Rattle.buffa_bytes.specs.Delimited.{bytes_as, string_as, text_as}
use Rattle.buffa_bytes.specs.Readings.{delimited_at, varint_at, taken, ◌>>=◌}
use Rattle.buffa_bytes.specs.Values.{int32_of}
use Rattle.buffa_bytes.specs.Scalars.{eight_as, four_as, varint_as}
use Rattle.buffa_bytes.specs.declared.wire_type.WireType.{WireType}
use Rattle.buffa_bytes.specs.declared.wire_type.WireType.TheVariants.{Varint, Fixed64, Fixed32, LengthDelimited}
use Rattle.buffa_bytes.specs.declared.error.DecodeError.{DecodeError}
use Rattle.buffa_bytes.specs.declared.error.DecodeError.TheVariants.{RecursionLimitExceeded, UnexpectedEof}
use Rattle.buffa_wire.specs.BudgetLeft.{BudgetLeft, Lacks, nothing, IsLimit}
use Rattle.buffa_wire.specs.Enums.{numbers, open_number}
use Rattle.buffa_wire.specs.Message.{merged_in}
use Rattle.buffa_wire.proofs.KeepLemmas.{payload_value_no_limit}
use Rattle.buffa_map.specs.Codec.{Reading, ValueFault, value_at, value_charge}
use Rattle.buffa_map_laws.specs.CodecWords.{AtBytes, Never, Reader, IsReadAs, MessagesAreReadAs, always, any_number, declared_number}
use Rattle.buffa_map.specs.Enums.{closed_reading, open_reading}
use Rattle.buffa_map.specs.Message.{merged_value, message_reading}
use Rattle.buffa_map.specs.MessageFacts.{merged_no_limit}
use Rattle.buffa_map.specs.Scalars.{bytes_reading, number_reading, string_reading}

-- ---- payloads that are no messages, read by what they hold
abbrev plain_reading : {V : Type 0} → V → WireType → (V → PayloadValue → Result (V × Bool) DecodeError) → Bool → Bool → Reading V
plain_reading blank w f undeclared memory = record { blank = blank; wire = w; reads = λ d old c. f old c; nested = false; undeclared = undeclared; takes_memory = memory; cost = λ d c. nothing }

module _ {V : Type 0} (blank : V) (w : WireType) (f : V → PayloadValue → Result (V × Bool) DecodeError) (undeclared memory : Bool) where
  -- a payload is whole, where what it holds is read
  whole_if : (old : V) (c : Result (PayloadValue × List ℕ) DecodeError) (r : Result ((V × Bool) × List ℕ) DecodeError) → (c >>= (λ x. f old x.0 >>= (λ v. Ok (v, x.1)))) ≡ r → IsOk r → IsOk c
  whole_if old (Ok c) r h ok = refl
  whole_if old (Err e) r h ok = rw (sym h) at ok

  plain_read : (at : Reader V) (Takes : List ℕ → Type 0) → ((old : V) (bs : List ℕ) → value_at (plain_reading blank w f undeclared memory) 0 old bs ≡ at old bs) →
      ((bs : List ℕ) → memory ≡ true → IsOk (payload_value_at w bs) → Takes bs) → IsReadAs (plain_reading blank w f undeclared memory) at Takes
  plain_read at Takes same takes = record {
    value = λ d old bs. same old bs;
    fault = λ d old bs left e. ((λ h. sym (same old bs) ∙ h), (λ h. same old bs ∙ h));
    memory = λ d bs h. takes bs h.0 h.2;
    spends = λ r d bs left over h. h;
    whole = λ d bs old ok. (refl, whole_if old (payload_value_at w bs) (at old bs) (same old bs) ok);
  }

-- ---- numbers: a varint, or four or eight bytes
varint_value : {V : Type 0} (blank : V) (of : ℕ → V) (old : V) (bs : List ℕ) (r : Result (ℕ × List ℕ) DecodeError) → varint_at bs ≡ r → value_at (number_reading Varint blank of) 0 old bs ≡ always (varint_as of) old bs
varint_value blank of old bs (Ok n) h = rw h refl
varint_value blank of old bs (Err e) h = rw h refl

four_value : {V : Type 0} (blank : V) (of : ℕ → V) (old : V) (bs : List ℕ) (r : Result (List ℕ × List ℕ) DecodeError) → taken 4 bs ≡ r → value_at (number_reading Fixed32 blank of) 0 old bs ≡ always (four_as of) old bs
four_value blank of old bs (Ok p) h = rw h refl
four_value blank of old bs (Err e) h = rw h refl

eight_value : {V : Type 0} (blank : V) (of : ℕ → V) (old : V) (bs : List ℕ) (r : Result (List ℕ × List ℕ) DecodeError) → taken 8 bs ≡ r → value_at (number_reading Fixed64 blank of) 0 old bs ≡ always (eight_as of) old bs
eight_value blank of old bs (Ok p) h = rw h refl
eight_value blank of old bs (Err e) h = rw h refl

pub varints_read : {V : Type 0} (blank : V) (of : ℕ → V) → IsReadAs (number_reading Varint blank of) (always (varint_as of)) Never
varints_read blank of = plain_read blank Varint (λ old c. Ok (of (number_in c), true)) false false (always (varint_as of)) Never (λ old bs. varint_value blank of old bs (varint_at bs) refl) (λ bs h. cc)

pub fours_read : {V : Type 0} (blank : V) (of : ℕ → V) → IsReadAs (number_reading Fixed32 blank of) (always (four_as of)) Never
fours_read blank of = plain_read blank Fixed32 (λ old c. Ok (of (number_in c), true)) false false (always (four_as of)) Never (λ old bs. four_value blank of old bs (taken 4 bs) refl) (λ bs h. cc)

pub eights_read : {V : Type 0} (blank : V) (of : ℕ → V) → IsReadAs (number_reading Fixed64 blank of) (always (eight_as of)) Never
eights_read blank of = plain_read blank Fixed64 (λ old c. Ok (of (number_in c), true)) false false (always (eight_as of)) Never (λ old bs. eight_value blank of old bs (taken 8 bs) refl) (λ bs h. cc)

-- ---- a length and so many bytes
bytes_value : {V : Type 0} (blank : V) (of : List ℕ → V) (old : V) (bs : List ℕ) (r : Result (List ℕ × List ℕ) DecodeError) → delimited_at bs ≡ r → value_at (bytes_reading blank of) 0 old bs ≡ always (bytes_as of) old bs
bytes_value blank of old bs (Ok p) h = rw h refl
bytes_value blank of old bs (Err e) h = rw h refl

these_value : (blank old bs : List ℕ) (r : Result (List ℕ × List ℕ) DecodeError) → delimited_at bs ≡ r → value_at (bytes_reading blank (λ b. b)) 0 old bs ≡ always delimited_at old bs
these_value blank old bs (Ok p) h = rw h refl
these_value blank old bs (Err e) h = rw h refl

abbrev known : {V : Type 0} → V → Result (V × Bool) DecodeError
known v = Ok (v, true)

abbrev before : {A : Type 0} → List ℕ → A → Result (A × List ℕ) DecodeError
before rest v = Ok (v, rest)

abbrev declared : {V : Type 0} → V × List ℕ → Result ((V × Bool) × List ℕ) DecodeError
declared v = Ok ((v.0, true), v.1)

text_value : {V : Type 0} (of : List ℕ → V) (p : List ℕ × List ℕ) (b : Bool) → is_utf8 p.0 ≡ b → (text_as of p.0 >>= known >>= before p.1) ≡ (text_as of p.0 >>= before p.1 >>= declared)
text_value of p true h = rw h refl
text_value of p false h = rw h refl

string_value : {V : Type 0} (blank : V) (of : List ℕ → V) (old : V) (bs : List ℕ) (r : Result (List ℕ × List ℕ) DecodeError) → delimited_at bs ≡ r → value_at (string_reading blank of) 0 old bs ≡ always (string_as of) old bs
string_value blank of old bs (Ok p) h = rw h (text_value of p (is_utf8 p.0) refl)
string_value blank of old bs (Err e) h = rw h refl

bytes_there : (bs : List ℕ) (r : Result (List ℕ × List ℕ) DecodeError) → delimited_at bs ≡ r → IsOk (payload_value_at LengthDelimited bs) → AtBytes bs
bytes_there bs (Ok p) h ok = rw h refl
bytes_there bs (Err e) h ok = let none = rw h at ok in cc

pub bytes_read : {V : Type 0} (blank : V) (of : List ℕ → V) → IsReadAs (bytes_reading blank of) (always (bytes_as of)) AtBytes
bytes_read blank of = plain_read blank LengthDelimited (λ old c. Ok (of (bytes_in c), true)) false true (always (bytes_as of)) AtBytes (λ old bs. bytes_value blank of old bs (delimited_at bs) refl) (λ bs h. bytes_there bs (delimited_at bs) refl)

pub these_read : (blank : List ℕ) → IsReadAs (bytes_reading blank (λ b. b)) (always delimited_at) AtBytes
these_read blank = plain_read blank LengthDelimited (λ old c. Ok (bytes_in c, true)) false true (always delimited_at) AtBytes (λ old bs. these_value blank old bs (delimited_at bs) refl) (λ bs h. bytes_there bs (delimited_at bs) refl)

pub strings_read : {V : Type 0} (blank : V) (of : List ℕ → V) → IsReadAs (string_reading blank of) (always (string_as of)) AtBytes
strings_read blank of = plain_read blank LengthDelimited (λ old c. text_as of (bytes_in c) >>= known) false true (always (string_as of)) AtBytes (λ old bs. string_value blank of old bs (delimited_at bs) refl) (λ bs h. bytes_there bs (delimited_at bs) refl)

-- ---- enums
closed_value : {E : Type 0} (of : ℤ → Option E) (blank old : ℤ) (bs : List ℕ) (r : Result (ℕ × List ℕ) DecodeError) → varint_at bs ≡ r → value_at (closed_reading (numbers of blank)) 0 old bs ≡ declared_number of old bs
closed_value of blank old bs (Ok n) h = rw h refl
closed_value of blank old bs (Err e) h = rw h refl

pub closed_read : {E : Type 0} (of : ℤ → Option E) (blank : ℤ) → IsReadAs (closed_reading (numbers of blank)) (declared_number of) Never
closed_read of blank = plain_read blank Varint (λ old c. Ok (cond (is_some (of (int32_of (number_in c)))) (int32_of (number_in c), true) (old, false))) true false (declared_number of) Never (λ old bs. closed_value of blank old bs (varint_at bs) refl) (λ bs h. cc)

open_value : {E : Type 0} (of : ℤ → Option E) (old : Bool × ℤ) (bs : List ℕ) (r : Result (ℕ × List ℕ) DecodeError) → varint_at bs ≡ r → value_at (open_reading of) 0 old bs ≡ always (any_number of) old bs
open_value of old bs (Ok n) h = rw h refl
open_value of old bs (Err e) h = rw h refl

pub open_read : {E : Type 0} (of : ℤ → Option E) → IsReadAs (open_reading of) (always (any_number of)) Never
open_read of = plain_read (open_number of (pos 0)) Varint (λ old c. Ok (open_number of (int32_of (number_in c)), true)) false false (always (any_number of)) Never (λ old bs. open_value of old bs (varint_at bs) refl) (λ bs h. cc)

-- ---- messages
module _ {V : Type 0} (blank : V) (merged : ℕ → V → List ℕ → Option V) (cost : ℕ → List ℕ → BudgetLeft) where
  refused_so : (o : Option V) (rest : List ℕ) → o ≡ None → (f : DecodeError) × ((merged_value o >>= before rest) ≡ Err f)
  refused_so o rest h = (UnexpectedEof, rw h refl)

  no_limit_in : (d : ℕ) (old : V) (bs : List ℕ) (f : DecodeError) → ValueFault (message_reading blank merged cost) d old bs f → IsLimit f → ⊥
  no_limit_in zero old bs RecursionLimitExceeded (inl h) l = l
  no_limit_in zero old bs f (inl h) l = cc
  no_limit_in (suc d) old bs f (inl h) l = cc
  no_limit_in d old bs f (inr (inl h)) l = payload_value_no_limit LengthDelimited bs f h.1 l
  no_limit_in d old bs f (inr (inr (room, c, rest, x, t, h, inl same))) l = merged_no_limit (merged_in merged d old (bytes_in c)) x h (subst IsLimit same l)
  no_limit_in d old bs f (inr (inr (room, c, rest, x, t, h, inr other))) l = other l

  nothing_lacks : (left charge : BudgetLeft) → charge ≡ nothing → Lacks left charge → ⊥
  nothing_lacks left charge h (inl few) = omega (arith, few, ap (λ z. z.unknown) h)
  nothing_lacks left charge h (inr few) = omega (arith, few, ap (λ z. z.memory) h)

  free_at : (bs : List ℕ) (r : Result (List ℕ × List ℕ) DecodeError) → delimited_at bs ≡ r → value_charge (message_reading blank merged cost) 0 bs ≡ nothing
  free_at bs (Ok p) h = rw h refl
  free_at bs (Err e) h = rw h refl

  level_fault : (old : V) (bs : List ℕ) (f : DecodeError) → ValueFault (message_reading blank merged cost) 0 old bs f → f ≡ RecursionLimitExceeded
  level_fault old bs f (inl h) = sym (err_same h)
  level_fault old bs f (inr (inl h)) = cc
  level_fault old bs f (inr (inr h)) = cc

  bytes_fault : (d : ℕ) (old : V) (bs : List ℕ) (f g : DecodeError) → delimited_at bs ≡ Err f → ValueFault (message_reading blank merged cost) (suc d) old bs g → g ≡ f
  bytes_fault d old bs f g none (inl h) = cc
  bytes_fault d old bs f g none (inr (inl h)) = err_same (sym (delimited_faulty bs g h.1) ∙ none)
  bytes_fault d old bs f g none (inr (inr (room, bytes b, rest, x, (p, (t, v, is), split), reads, reported))) =
      let there : delimited_at bs ≡ Ok (b, rest) = ap delimited_at (split ∙ ap (λ z. z ++ rest) is ∙ append_assoc t b rest) ∙ delimited_complete t b rest v in
      let no = sym none ∙ there in cc
  bytes_fault d old bs f g none (inr (inr (room, number n, rest, x, (p, none_is, split), reads, reported))) = absurd none_is

  pub messages_read : MessagesAreReadAs (message_reading blank merged cost) merged cost
  messages_read = record {
    too_deep = λ old bs. refl;
    no_bytes = λ d old bs f h. rw h refl;
    merges = λ d old new bs b rest h k. rw (h, k) refl;
    refuses = λ d old bs b rest h k. let q = refused_so (merged d old b) rest k in (q.0, rw h q.1);
    costs = λ d bs b rest h. rw h refl;
    limits = λ d old bs left f h l. elim h [ inl few ↦ few | inr bad ↦ absurd (no_limit_in d old bs f bad l) ];
    no_cost = λ bs. free_at bs (delimited_at bs) refl;
    no_bytes_cost = λ d bs f h. rw h refl;
    level_reported = λ old bs left f h. elim h [ inl few ↦ absurd (nothing_lacks left _ (free_at bs (delimited_at bs) refl) few) | inr bad ↦ level_fault old bs f bad ];
    bytes_reported = λ d old bs left f g none h. elim h [ inl few ↦ absurd (nothing_lacks left _ (rw none refl) few) | inr bad ↦ bytes_fault d old bs f g none bad ];
  }
