-- Messages field by field, and what reading bytes never answers.
use Rattle.std.proofs.Common.{◌≡◌, ◌≢◌, inl, inr, ℕ, ◌+◌, ◌≤◌, List, [], ◌++◌, Option, Ok, sym, ap, subst, ◌∙◌, arith, append-nil, append_assoc}
use Rattle.buffa_bytes.specs.declared.wire_type.WireType.{WireType}
use Rattle.buffa_bytes.specs.declared.wire_type.WireType.TheVariants.{EndGroup}
use Rattle.buffa_bytes.specs.declared.error.DecodeError.{DecodeError}
use Rattle.buffa_bytes.specs.declared.error.DecodeError.TheVariants as error
use Rattle.buffa_bytes.specs.Varint.{VarintFault}
use Rattle.buffa_bytes.specs.Field.{LengthFault, Payload, PayloadFault, SomeField, TagFault}
use Rattle.buffa_bytes.specs.Join.{Join}
use Rattle.buffa_bytes.specs.Join.Join.{none, more}
use Rattle.buffa_bytes.specs.Readings.{tag_at}
use Rattle.buffa_bytes.proofs.FaultLemmas.{IsOfBytes, length_fault, payload_fault, tag_fault, varint_fault}
use Rattle.buffa_bytes.proofs.FieldLemmas.{tag_complete}
use Rattle.buffa_wire.specs.BudgetLeft.{BudgetLeft, Lacks, PaysAtMost, IsLimit}
use Rattle.buffa_wire.specs.Message.{BeginsField, MergeFault}

-- ---- no fault of bytes is a limit's
abbrev pub NoLimit : DecodeError → Type 0
NoLimit e = IsLimit e → ⊥

pub as_no_limit : (e f : DecodeError) → e ≡ f → NoLimit f → NoLimit e
as_no_limit e f h k = subst (λ z. NoLimit z) (sym h) k

pub no_limit : (e : DecodeError) → IsOfBytes e → NoLimit e
no_limit error.UnknownFieldLimitExceeded h l = h
no_limit error.ElementMemoryLimitExceeded h l = h
no_limit _ h l = l

pub var_no_limit : (bs : List ℕ) (e : DecodeError) → VarintFault bs e → NoLimit e
var_no_limit bs e h = no_limit e (varint_fault bs e h)

pub tag_no_limit : (bs : List ℕ) (e : DecodeError) → TagFault bs e → NoLimit e
tag_no_limit bs e h = no_limit e (tag_fault bs e h)

pub length_no_limit : (bs : List ℕ) (e : DecodeError) → LengthFault bs e → NoLimit e
length_no_limit bs e h = no_limit e (length_fault bs e h)

pub payload_no_limit : (d f : ℕ) (w : WireType) (bs : List ℕ) (e : DecodeError) → PayloadFault d f w bs e → NoLimit e
payload_no_limit d f w bs e h = no_limit e (payload_fault d f w bs e h)

-- ---- a message, field by field
-- what is lacked of what is left is lacked of all
lacks_all : (start now all rest : BudgetLeft) → now.unknown + all.unknown ≡ start.unknown + rest.unknown → now.memory + all.memory ≡ start.memory + rest.memory → Lacks now rest → Lacks start all
lacks_all start now all rest u m (inl few) = inl (omega (arith, u, few))
lacks_all start now all rest u m (inr few) = inr (omega (arith, m, few))

-- why what is left isn't merged is why all isn't
pub loop_fault : {X : Type 0} (o p : Option X) (start now over all rest : BudgetLeft) (e : DecodeError) → o ≡ p →
    now.unknown + all.unknown ≡ start.unknown + rest.unknown → now.memory + all.memory ≡ start.memory + rest.memory → now.unknown ≤ start.unknown → now.memory ≤ start.memory →
    PaysAtMost now rest over × (e ≢ error.OutOfMemory → MergeFault p rest now e) → PaysAtMost start all over × (e ≢ error.OutOfMemory → MergeFault o all start e)
loop_fault o p start now over all rest e same u m no_unknown no_unit (spent, why) = (
  (omega (arith, no_unknown, spent.0), omega (arith, u, spent.1), omega (arith, no_unit, spent.2), omega (arith, m, spent.3)),
  λ ne. elim (why ne) [ inl few ↦ inl (lacks_all start now all rest u m few) | inr bad ↦ inr (same ∙ bad.0, bad.1) ],
)

-- ---- how far merging came

pub join_more : {P : List ℕ → Type 0} (f x : List ℕ) → Join P f → P x → Join P (f ++ x)
join_more {P = P} f x none h = subst (λ z. Join P z) (append-nil x) (more x [] h none)
join_more {P = P} f x (more first rest a j) h = subst (λ z. Join P z) (sym (append_assoc first rest x)) (more first (rest ++ x) a (join_more rest x j h))

-- bytes that fields begin, and then a tag, a field begins
pub reaches_tag : (d : ℕ) (f bs rest : List ℕ) (tag : ℕ × WireType × List ℕ) → Join (SomeField d) f → bs ≡ f ++ rest → tag_at rest ≡ Ok tag → tag.1 ≢ EndGroup → BeginsField bs
reaches_tag d _ bs rest tag none whole e o = (tag.0, tag.1, tag.2, ap tag_at whole ∙ e, o)
reaches_tag d _ bs rest tag (more f r (n, w, (t, p, is_tag, payload, is)) j) whole e o = (
  n,
  w,
  p ++ (r ++ rest),
  ap tag_at (whole ∙ append_assoc f r rest ∙ ap (λ z. z ++ (r ++ rest)) is ∙ append_assoc t p (r ++ rest)) ∙ tag_complete t n w (p ++ (r ++ rest)) is_tag,
  λ end. subst (λ v. Payload d n v p) end payload,
)
