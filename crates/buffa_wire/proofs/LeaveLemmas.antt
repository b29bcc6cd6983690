-- What readers leave of a refused payload.
use Rattle.std.proofs.Common.{◌≡◌, List, ℕ, Result, refl, sym, ap, subst, ◌∙◌}
use Rattle.buffa_bytes.specs.declared.wire_type.WireType.{WireType}
use Rattle.buffa_bytes.specs.declared.wire_type.WireType.TheVariants.{Varint, LengthDelimited}
use Rattle.buffa_bytes.specs.declared.error.DecodeError.{DecodeError}
use Rattle.buffa_bytes.specs.Unread.{LeavesUnlessFull, past_no_payload, past_no_delimited, past_no_varint}
use Rattle.buffa_bytes.proofs.UnreadLemmas.{left_read}

-- the rest of one wire type
leaves_in : {X : Type 0} (r : Result X DecodeError) (w v : WireType) (bs rest new : List ℕ) → w ≡ v → past_no_payload v bs ≡ rest → LeavesUnlessFull r rest new → LeavesUnlessFull r (past_no_payload w bs) new
leaves_in r w v bs rest new k is h = subst (λ z. LeavesUnlessFull r z new) (sym (ap (λ z. past_no_payload z bs) k ∙ is)) h

past_varint : (bs : List ℕ) → past_no_payload Varint bs ≡ past_no_varint bs
unfolding past_no_payload
past_varint bs = refl

past_delimited : (bs : List ℕ) → past_no_payload LengthDelimited bs ≡ past_no_delimited bs
unfolding past_no_payload
past_delimited bs = refl

pub leaves_varint : {X : Type 0} (r : Result X DecodeError) (w : WireType) (bs new : List ℕ) → w ≡ Varint → new ≡ past_no_varint bs → LeavesUnlessFull r (past_no_payload w bs) new
leaves_varint r w bs new k e = leaves_in r w Varint bs (past_no_varint bs) new k (past_varint bs) (left_read r (past_no_varint bs) new e)

pub leaves_delimited : {X : Type 0} (r : Result X DecodeError) (w : WireType) (bs new : List ℕ) → w ≡ LengthDelimited → LeavesUnlessFull r (past_no_delimited bs) new → LeavesUnlessFull r (past_no_payload w bs) new
leaves_delimited r w bs new k h = leaves_in r w LengthDelimited bs (past_no_delimited bs) new k (past_delimited bs) h

-- of four or eight bytes, and of an end tag, all are left
pub leaves_all : {X : Type 0} (r : Result X DecodeError) (w v : WireType) (bs new : List ℕ) → w ≡ v → past_no_payload v bs ≡ bs → new ≡ bs → LeavesUnlessFull r (past_no_payload w bs) new
leaves_all r w v bs new k is e = leaves_in r w v bs bs new k is (left_read r bs new e)
