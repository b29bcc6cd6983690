-- The encoding of records, one after another.
use Rattle.std.proofs.Common.{◌≡◌, ℕ, ◌+◌, ◌<◌, ◌≤◌, Bool, true, false, is_ok, is_err, Ok, List, ◌++◌, length, refl}
use Rattle.std.specs.Prelude.{Result, Err}
use Rattle.buffa_bytes.specs.declared.error.EncodeError.{EncodeError}
use Rattle.buffa_bytes.specs.Written.{UsesRoom, Writes, WritesFront}
use Rattle.buffa_wire.specs.Records.{FieldData}
use Rattle.buffa_wire.specs.Encoding.{records_encoding, tagged_encoding, write_outcome}
use Rattle.buffa_wire.proofs.ByValueLemmas.{ByValue, both}

abbrev pub records_by_value : ByValue (ℕ × FieldData)
records_by_value = record { list = records_encoding; value = λ r. tagged_encoding r.0 r.1; none = refl; next = λ r rs. refl }

pub records_encoding-append : (rs qs : List (ℕ × FieldData)) → records_encoding (rs ++ qs) ≡ records_encoding rs ++ records_encoding qs
records_encoding-append rs qs = both records_by_value rs qs

-- what was written, told in one bit
pub reported_of : {T : Type 0} (r : Result T EncodeError) (b : Bool) → b ≡ is_ok r → (old encoding new : List ℕ) → Writes r old encoding new → Writes (write_outcome b) old encoding new
reported_of (Ok x) b is old encoding new w = rw is w
reported_of (Err e) b is old encoding new w = rw is (refl, w.1)

pub reported_room : {T : Type 0} (r : Result T EncodeError) (b : Bool) → b ≡ is_ok r → (room left : ℕ) (encoding : List ℕ) → UsesRoom r room encoding left → UsesRoom (write_outcome b) room encoding left
reported_room (Ok x) b is room left encoding w = rw is w
reported_room (Err e) b is room left encoding w = rw is w

pub reported_yes : (b : Bool) → b ≡ true → (old encoding new : List ℕ) → Writes (write_outcome b) old encoding new → new ≡ old ++ encoding
reported_yes b is old encoding new w = rw is at w

pub reported_no : (b : Bool) → b ≡ false → (old encoding new : List ℕ) → Writes (write_outcome b) old encoding new → WritesFront old encoding new
reported_no b is old encoding new w = let v : Writes (write_outcome false) old encoding new = rw is at w in v.1

pub room_yes : (b : Bool) → b ≡ true → (room left : ℕ) (encoding : List ℕ) → UsesRoom (write_outcome b) room encoding left → room ≤ left + length encoding
room_yes b is room left encoding w = rw is at w

pub room_no : (b : Bool) → b ≡ false → (room left : ℕ) (encoding : List ℕ) → UsesRoom (write_outcome b) room encoding left → room < length encoding
room_no b is room left encoding w = rw is at w

-- what stands where it was not refused
pub ok_whole : {T : Type 0} (r : Result T EncodeError) → is_err r ≡ false → (old encoding new : List ℕ) → Writes r old encoding new → new ≡ old ++ encoding
ok_whole (Ok x) is old encoding new w = w
ok_whole (Err e) is old encoding new w = cc

-- what stands where it was refused
pub err_front : {T : Type 0} (r : Result T EncodeError) → is_err r ≡ true → (old encoding new : List ℕ) → Writes r old encoding new → WritesFront old encoding new
err_front (Ok x) is old encoding new w = cc
err_front (Err e) is old encoding new w = w.1
