use Rattle.std.proofs.Common.{◌≡◌, ℕ, zero, suc, ◌<◌, ◌∙◌, ◌==◌, List, [], ◌∷◌, ◌++◌, Bool, Result, Ok, Err, true, false, ap, arith, length, map, subst, sym}
use Rattle.std.specs.List.{AllByRecursion}
use Rattle.std.proofs.lemmas.Bool.{eqb-true, eq-eqb, false≢true}
use Rattle.std.proofs.lemmas.List.{append-nil}
use Rattle.std.proofs.lemmas.Result.{err_from_is_err_and}
use Rattle.std.specs.Result.{OnErr, OnOk}
use Rattle.buffa_bytes.proofs.ResultLemmas.{OnOk-always}
use Rattle.buffa_wire.specs.Records.{FieldData, Held, bytes}
use Rattle.buffa_codec.specs.Decoded.{Adds, AddsSome, packed_record}
use Rattle.buffa_codec.specs.RecordsOfNumber.{tagged}
use Rattle.buffa_codec.proofs.ListLemmas.{packed_some}
use Rattle.buffa_codec.proofs.CapacityLemmas.{capacity_stays}
use Rattle.buffa_codec.proofs.TurnLemmas.{writes_none}
use Rattle.buffa_codec.proofs.packed.PackedRepeatedExtensionCodec.try_encode.Goals as goal
use Rattle.buffa_wire.specs.Encoding.{encodings}

-- a test of a length
is_none : (r : Bool) (n m : ℕ) → r ≡ (n == 0) → n ≡ m → r ≡ true → m ≡ 0
is_none r n m e same h = sym same ∙ eqb-true n 0 (sym e ∙ h)

is_some : (r : Bool) (n m : ℕ) → r ≡ (n == 0) → n ≡ m → r ≡ false → 0 < m
is_some r n zero e same h = absurd (false≢true (sym h ∙ e ∙ eq-eqb n 0 same))
is_some r n (suc m) e same h = omega arith

-- no values have no record
packs_none : {V M : Type 0} (encoding : M → List ℕ) (meaning : V → M) (n : ℕ) (vs : List V) (old : List (ℕ × FieldData)) → length vs ≡ 0 → old ≡ old ++ tagged n (packed_record encoding (map meaning vs))
packs_none encoding meaning n [] old none = sym (append-nil old)
packs_none encoding meaning n (v ∷ vs) old none = absurd (omega (arith, none))

each_none : {V M : Type 0} (P : M → Type 0) (meaning : V → M) (vs : List V) → length vs ≡ 0 → AllByRecursion P (map meaning vs)
each_none P meaning [] none = tt
each_none P meaning (v ∷ vs) none = absurd (omega (arith, none))

-- the record of some values
packs_one : {V M : Type 0} (encoding : M → List ℕ) (meaning : V → M) (n : ℕ) (vs : List V) (b : List ℕ) → 0 < length vs → b ≡ encodings encoding (map meaning vs) → (n, bytes b) ∷ [] ≡ tagged n (packed_record encoding (map meaning vs))
packs_one encoding meaning n [] b some e = absurd (omega (arith, some))
packs_one encoding meaning n (v ∷ vs) b some e = ap (λ z. (n, bytes z) ∷ []) e

-- a list that stayed as it was has a front of the records
stayed : {T E : Type 0} (r : Result T E) (old new : Held) (ds : List (ℕ × FieldData)) → 0 < length ds → OnErr r (new ≡ old) → OnErr r (AddsSome old.records ds new.records)
stayed (Ok u) old new ds some e = tt
stayed (Err u) old new ds some e = (0, some, ap (λ h. h.records) e ∙ sym (append-nil old.records))

pub returns-then-is_empty-clause-ok : goal.returns-then-is_empty-clause-ok
returns-then-is_empty-clause-ok g c =
    packs_none g.C.PackableCodec.packed_encoding g.C.Value.Blank.meaning c.args.number c.args.value.items c.args.fields.now.records
    (is_none c.is_empty.result _ _ c.is_empty.ensures c.args.value.ok.0 c.if-is_empty.true)

pub returns-then-is_empty-clause-fits : goal.returns-then-is_empty-clause-fits
returns-then-is_empty-clause-fits g c =
    each_none g.C.SingularCodec.fits g.C.Value.Blank.meaning c.args.value.items
    (is_none c.is_empty.result _ _ c.is_empty.ensures c.args.value.ok.0 c.if-is_empty.true)

pub returns-then-is_empty-clause-room : goal.returns-then-is_empty-clause-room
returns-then-is_empty-clause-room g c = capacity_stays c.args.fields.now

pub returns-in_err-bytes-clause-ok : goal.returns-in_err-bytes-clause-ok
returns-in_err-bytes-clause-ok g c =
    let p = err_from_is_err_and c.from_residual.result c.from_residual.ensures.1 in
    rw p.1 tt

pub returns-in_err-bytes-clause-err : goal.returns-in_err-bytes-clause-err
returns-in_err-bytes-clause-err g c =
    let m = g.C.Value.Blank.meaning in
    writes_none c.from_residual.result c.args.fields.now.records (tagged c.args.number (packed_record g.C.PackableCodec.packed_encoding (map m c.args.value.items)))
    (packed_some g.C.PackableCodec.packed_encoding m c.args.number c.args.value.items (is_some c.is_empty.result _ _ c.is_empty.ensures c.args.value.ok.0 c.if-is_empty.false))

pub returns-in_err-bytes-clause-refused : goal.returns-in_err-bytes-clause-refused
returns-in_err-bytes-clause-refused g c =
    let p = err_from_is_err_and c.from_residual.result c.from_residual.ensures.1 in
    rw (p.1, p.2) c.in_err-bytes.ensures.refused

pub returns-in_err-bytes-clause-room : goal.returns-in_err-bytes-clause-room
returns-in_err-bytes-clause-room g c = capacity_stays c.args.fields.now

pub returns-in_err-bytes-clause-fits : goal.returns-in_err-bytes-clause-fits
returns-in_err-bytes-clause-fits g c =
    let p = err_from_is_err_and c.from_residual.result c.from_residual.ensures.1 in
    rw p.1 tt

pub returns-clause-ok : goal.returns-clause-ok
returns-clause-ok g c =
    let one = packs_one g.C.PackableCodec.packed_encoding g.C.Value.Blank.meaning c.args.number c.args.value.items c.in_ok-bytes.bytes.items
    (is_some c.is_empty.result _ _ c.is_empty.ensures c.args.value.ok.0 c.if-is_empty.false)
    (c.in_ok-bytes.ensures.bytes ∙ ap (λ l. encodings g.C.PackableCodec.packed_encoding (map g.C.Value.Blank.meaning l)) c.as_slice.ensures.value) in
    subst (λ ds. OnOk c.push_record.result (Adds c.args.fields.now.records ds c.push_record.new.fields.records)) one c.push_record.ensures.ok

pub returns-clause-err : goal.returns-clause-err
returns-clause-err g c =
    let m = g.C.Value.Blank.meaning in
    stayed c.push_record.result c.args.fields.now c.push_record.new.fields (tagged c.args.number (packed_record g.C.PackableCodec.packed_encoding (map m c.args.value.items)))
    (packed_some g.C.PackableCodec.packed_encoding m c.args.number c.args.value.items (is_some c.is_empty.result _ _ c.is_empty.ensures c.args.value.ok.0 c.if-is_empty.false))
    c.push_record.ensures.err

pub returns-clause-refused : goal.returns-clause-refused
returns-clause-refused g c = c.push_record.ensures.refused

pub returns-clause-room : goal.returns-clause-room
returns-clause-room g c = c.push_record.ensures.room

pub returns-clause-fits : goal.returns-clause-fits
returns-clause-fits g c =
    OnOk-always c.push_record.result
    (subst (λ l. AllByRecursion g.C.SingularCodec.fits (map g.C.Value.Blank.meaning l)) c.as_slice.ensures.value c.in_ok-bytes.ensures.fits)
