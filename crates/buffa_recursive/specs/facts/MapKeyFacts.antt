-- What is proved of the keys of a map of messages.
use Rattle.std.proofs.Common.{◌≡◌, ℕ, true, false, Ok}
use Rattle.std.specs.Cmp.{IsTotalOrder}
use Rattle.std.specs.declared.cmp.Ordering.{Ordering}
use Rattle.buffa_bytes.specs.PayloadValue.{PayloadValue, HasPayloadValue}
use Rattle.buffa_map.proofs.BackLemmas.{implicit_back}
use Rattle.buffa_wire.specs.Parse.{Fits}
use Rattle.buffa_map.specs.Codec.{Reading, Writing}
use Rattle.buffa_recursive.specs.MapKeys.{KeysReadBack, keys_by}

-- what the keys of a codec owe, where it does: it is plain, of one wire type, and reads back
pub codec_reads_back : {K : Type 0} (reading : Reading K) (writing : Writing K) (cost : ℕ) (order : K → K → Ordering) (Fits Normal : K → Type 0) → reading.nested ≡ false → writing.wire ≡ reading.wire →
    ((d : ℕ) (old v : K) → Fits v → Normal v → (c : PayloadValue) × HasPayloadValue writing.wire (writing.encoding v) c × (reading.reads d old c ≡ Ok (v, true))) → IsTotalOrder order → KeysReadBack (keys_by reading writing cost order Fits Normal)
codec_reads_back reading writing cost order Fits Normal plain wires back total = record {
  wires = wires;
  back = λ d v h. implicit_back reading writing d v plain (back d reading.blank v h.0 h.1);
  total = total;
}
