-- Records written one after another.
use Rattle.std.proofs.Common.{◌≡◌, ℕ, ◌+◌, ◌^◌, ◌<◌, ◌≤◌, List, [], ◌∷◌, ◌++◌, length, arith, Result, Err, OnOk, inl, inr, refl, sym, ap, subst, ◌∙◌, append_assoc, append-nil, length-append}
use Rattle.std.proofs.lemmas.Result.{MatchResult-weaker}
use Rattle.buffa_bytes.specs.Varint.{varint_encoding}
use Rattle.buffa_bytes.specs.Values.{tag_encoding}
use Rattle.buffa_bytes.specs.Written.{UsesRoom, Writes, WritesFront}
use Rattle.buffa_bytes.specs.declared.wire_type.WireType.TheVariants.{LengthDelimited}
use Rattle.buffa_bytes.specs.declared.error.EncodeError.{EncodeError}
use Rattle.buffa_bytes.specs.declared.error.EncodeError.TheVariants.{MessageTooLarge, GroupRefused, OutOfMemory}
use Rattle.buffa_bytes.proofs.ListLemmas.{AllByRecursion-last}
use Rattle.buffa_bytes.proofs.SinkLemmas.{front_first, front_second, room_then}
use Rattle.buffa_wire.proofs.ByValueLemmas.{ByValue, length_cut, length_last, write_last}
use Rattle.buffa_wire.specs.Records.{FieldData}
use Rattle.buffa_wire.specs.Encoding as records
use Rattle.buffa_map.specs.Codec.{Writing}
use Rattle.buffa_map.specs.Pairs.{means}
use Rattle.buffa_map.specs.Rewrite.{RefusesRewrite, WritesRewrite}
use Rattle.buffa_map.specs.Encoding.{entry_encoding, record_encoding, field_encoding, AllHold, HasEncoding, RefusesRecord, WritesRecord, RefusesField, UsesRoomOf, WritesField}

-- the room of two encodings, of which the first was written
pub room_of_both : {T : Type 0} (r : Result T EncodeError) (room mid left : ℕ) (a b : List ℕ) → room ≤ mid + length a → UsesRoom r mid b left → UsesRoomOf r room (a ++ b) left
room_of_both r room mid left a b wrote h = MatchResult-weaker r (room_then r room mid left a b wrote h) (λ x w. w) (λ e w _. w)

-- a refusal of the first of two encodings, as `?` hands it on
pub no_room_for_both : {T : Type 0} {r : Result T EncodeError} {e d : EncodeError} → r ≡ Err e → e ≡ d → (room left : ℕ) (a b : List ℕ) → (d ≡ OutOfMemory → room < length a) → UsesRoomOf r room (a ++ b) left
no_room_for_both is same room left a b w = rw (is, same) (λ o. omega (arith, w o, length-append a b))

module _ {K W : Type 0} (key : Writing K) (val : Writing W) (n : ℕ) where
  -- a record's encoding: its head, and its entry
  record_whole : (p : K × W) (len : ℕ) → len ≡ length (entry_encoding key val p) → (tag_encoding n LengthDelimited ++ varint_encoding len) ++ entry_encoding key val p ≡ record_encoding key val n p
  record_whole p len e = ap (λ k. (tag_encoding n LengthDelimited ++ varint_encoding k) ++ entry_encoding key val p) e ∙ append_assoc (tag_encoding n LengthDelimited) (varint_encoding (length (entry_encoding key val p))) (entry_encoding key val p)

  -- a refusal of the head, as `?` hands it on
  pub head_refused : {T : Type 0} {r : Result T EncodeError} {e d : EncodeError} → r ≡ Err e → e ≡ d → (old new : List ℕ) (p : K × W) (len : ℕ) → len ≡ length (entry_encoding key val p) → length (entry_encoding key val p) < 2 ^ 64 →
      (d ≡ OutOfMemory) × WritesFront old (tag_encoding n LengthDelimited ++ varint_encoding len) new → WritesRecord key val n old new r p
  head_refused is same old new p len l fits w =
      rw (is, same, w.0) (fits, subst (λ z. WritesFront old z new) (record_whole p len l) (front_first old (tag_encoding n LengthDelimited ++ varint_encoding len) (entry_encoding key val p) new w.1))

  -- the room of a record, whose head was refused, or written
  pub head_no_room : {T : Type 0} {r : Result T EncodeError} {e : EncodeError} → r ≡ Err e → (room left : ℕ) (p : K × W) (len : ℕ) → len ≡ length (entry_encoding key val p) →
      room < length (tag_encoding n LengthDelimited ++ varint_encoding len) → UsesRoomOf r room (record_encoding key val n p) left
  head_no_room {r = r} is room left p len l w =
      subst (λ z. UsesRoomOf r room z left) (record_whole p len l) (no_room_for_both is refl room left (tag_encoding n LengthDelimited ++ varint_encoding len) (entry_encoding key val p) (λ _. w))

  pub entry_room : {T : Type 0} (r : Result T EncodeError) (room mid left : ℕ) (p : K × W) (len : ℕ) → len ≡ length (entry_encoding key val p) →
      room ≤ mid + length (tag_encoding n LengthDelimited ++ varint_encoding len) → UsesRoom r mid (entry_encoding key val p) left → UsesRoomOf r room (record_encoding key val n p) left
  entry_room r room mid left p len l e w =
      subst (λ z. UsesRoomOf r room z left) (record_whole p len l) (room_of_both r room mid left (tag_encoding n LengthDelimited ++ varint_encoding len) (entry_encoding key val p) e w)

  -- the entry behind the head
  pub entry_written : {T : Type 0} (r : Result T EncodeError) (old mid new : List ℕ) (p : K × W) (len : ℕ) → len ≡ length (entry_encoding key val p) → length (entry_encoding key val p) < 2 ^ 64 →
      mid ≡ old ++ (tag_encoding n LengthDelimited ++ varint_encoding len) → Writes r mid (entry_encoding key val p) new → WritesRecord key val n old new r p
  entry_written r old mid new p len l fits m h = MatchResult-weaker r h
      (λ x w. (fits, w ∙ ap (λ z. z ++ entry_encoding key val p) m ∙ append_assoc old (tag_encoding n LengthDelimited ++ varint_encoding len) (entry_encoding key val p) ∙ ap (λ z. old ++ z) (record_whole p len l)))
      (λ e w. subst (RefusesRecord key val n old new p) (sym w.0) (fits, subst (λ z. WritesFront old z new) (record_whole p len l) (front_second old (tag_encoding n LengthDelimited ++ varint_encoding len) (entry_encoding key val p) mid new m w.1)))

  abbrev pub field_by_value : ByValue (K × W)
  field_by_value = record { list = field_encoding key val n; value = record_encoding key val n; none = refl; next = λ p ps. refl }

  refused : (old mid new : List ℕ) (all done : List (K × W)) (p : K × W) (rest : List (K × W)) → all ≡ done ++ p ∷ rest → HasEncoding key val done → mid ≡ old ++ field_encoding key val n done →
      (e : EncodeError) → RefusesRecord key val n mid new p e → RefusesField key val n old new all e
  refused old mid new all done p rest is has m OutOfMemory w = (done, p, rest, is, has, w.0, subst (λ z. WritesFront z (record_encoding key val n p) new) m w.1)
  refused old mid new all done p rest is has m MessageTooLarge w = (done, p, rest, is, has, w.0, w.1 ∙ m)
  refused old mid new all done p rest is has m (GroupRefused e) w = absurd w

  -- a refusal of a record after those of done, as `?` hands it on
  pub field_refused : {T : Type 0} {r : Result T EncodeError} {e d : EncodeError} → r ≡ Err e → e ≡ d → (old mid new : List ℕ) (all done : List (K × W)) (p : K × W) (rest : List (K × W)) →
      all ≡ done ++ p ∷ rest → HasEncoding key val done → mid ≡ old ++ field_encoding key val n done → RefusesRecord key val n mid new p d → WritesField key val n old new r all
  field_refused {d = d} eq same old mid new all done p rest is has m w = rw (eq, same) (refused old mid new all done p rest is has m d w)

AllHold-last : {K W : Type 0} (P : K → Type 0) (Q : W → Type 0) (ps : List (K × W)) (p : K × W) → AllHold P Q ps → P p.0 → Q p.1 → AllHold P Q (ps ++ p ∷ [])
AllHold-last P Q [] p h a b = (a, b, tt)
AllHold-last P Q (q ∷ ps) p h a b = (h.0, h.1, AllHold-last P Q ps p h.2 a b)

-- ---- the pairs of a walk, one after another
module _ {K W A B : Type 0} (mk : A → K) (mv : B → W) (key : Writing K) (val : Writing W) (n : ℕ) (P : K → Type 0) (Q : W → Type 0) (all : List (K × W)) (old : List ℕ) (room : ℕ) where
  -- of all pairs the records of some are written, and the others are left
  abbrev pub IsSent : List (A × B) → List ℕ → ℕ → Type 0
  IsSent left now spare = (done : List (K × W)) × (all ≡ done ++ means mk mv left) × HasEncoding key val done × AllHold P Q done
      × (now ≡ old ++ field_encoding key val n done) × (room ≤ spare + length (field_encoding key val n done))

  pub sent_none : (l : List (A × B)) → all ≡ means mk mv l → IsSent l old room
  sent_none l e = ([], e, tt, tt, sym (append-nil old), omega arith)

  pub sent_more : (l rest : List (A × B)) (a : A) (b : B) → l ≡ (a, b) ∷ rest → (mid new : List ℕ) (spare less : ℕ) → IsSent l mid spare →
      length (entry_encoding key val (mk a, mv b)) < 2 ^ 64 → new ≡ mid ++ record_encoding key val n (mk a, mv b) → spare ≤ less + length (record_encoding key val n (mk a, mv b)) →
      P (mk a) → Q (mv b) → IsSent rest new less
  sent_more l rest a b e mid new spare less s fits w k p q =
      let m : K × W = (mk a, mv b) in (
        s.0 ++ m ∷ [],
        s.1 ∙ ap (λ (z : List (A × B)). s.0 ++ means mk mv z) e ∙ sym (append_assoc s.0 (m ∷ []) (means mk mv rest)),
        AllByRecursion-last (λ q. length (entry_encoding key val q) < 2 ^ 64) s.0 m s.2 fits,
        AllHold-last P Q s.0 m s.3 p q,
        write_last (field_by_value key val n) s.0 m old mid new s.4 w,
        omega (arith, k, s.5, length_last (field_by_value key val n) s.0 m),
      )

  -- what a refusal of the next record, as `?` hands it on, says of all
  module _ {T : Type 0} {r : Result T EncodeError} {e d : EncodeError} (is : r ≡ Err e) (same : e ≡ d) (l rest : List (A × B)) (a : A) (b : B) (next : l ≡ (a, b) ∷ rest) (mid new : List ℕ) (spare left : ℕ) (s : IsSent l mid spare) where
    split : all ≡ s.0 ++ (mk a, mv b) ∷ means mk mv rest
    split = s.1 ∙ ap (λ (z : List (A × B)). s.0 ++ means mk mv z) next

    pub sent_stops : RefusesRecord key val n mid new (mk a, mv b) d → (d ≡ OutOfMemory → spare < length (record_encoding key val n (mk a, mv b))) →
        WritesField key val n old new r all × OnOk r (AllHold P Q all) × UsesRoomOf r room (field_encoding key val n all) left
    sent_stops w k = (
      field_refused key val n is same old mid new all s.0 (mk a, mv b) (means mk mv rest) split s.2 s.4 w,
      rw is tt,
      rw (is, same) (λ o. omega (arith, k o, s.5, length_cut (field_by_value key val n) s.0 (mk a, mv b) (means mk mv rest) all split)),
    )

  pub sent_all : (l : List (A × B)) → l ≡ [] → (now : List ℕ) (spare : ℕ) → IsSent l now spare →
      (HasEncoding key val all × (now ≡ old ++ field_encoding key val n all)) × AllHold P Q all × (room ≤ spare + length (field_encoding key val n all))
  sent_all l e now spare s =
      let whole : all ≡ s.0 = s.1 ∙ ap (λ (z : List (A × B)). s.0 ++ means mk mv z) e ∙ append-nil s.0 in
      rw whole ((s.2, s.4), s.3, s.5)

-- ---- a map, and kept records behind it
module _ {K W : Type 0} (key : Writing K) (val : Writing W) (n : ℕ) (kept : List (ℕ × FieldData)) where
  rewrite_stops : (old new : List ℕ) (l : List (K × W)) (e : EncodeError) → RefusesField key val n old new l e → RefusesRewrite key val n kept old new l e
  rewrite_stops old new l OutOfMemory w = inl w
  rewrite_stops old new l MessageTooLarge w = w
  rewrite_stops old new l (GroupRefused e) w = absurd w

  -- a refusal of the map, as `?` hands it on
  pub rewrite_refused : {T : Type 0} {r : Result T EncodeError} {e d : EncodeError} → r ≡ Err e → e ≡ d → (old new : List ℕ) (l : List (K × W)) → RefusesField key val n old new l d → WritesRewrite key val n kept old new r l
  rewrite_refused {d = d} is same old new l w = rw (is, same) (rewrite_stops old new l d w)

  -- the records behind the map
  pub rewrite_written : {T : Type 0} (r : Result T EncodeError) (old mid new : List ℕ) (l : List (K × W)) → HasEncoding key val l → mid ≡ old ++ field_encoding key val n l → Writes r mid (records.records_encoding kept) new → WritesRewrite key val n kept old new r l
  rewrite_written r old mid new l has m h = MatchResult-weaker r h
      (λ x w. (has, w ∙ ap (λ z. z ++ records.records_encoding kept) m ∙ append_assoc old (field_encoding key val n l) (records.records_encoding kept)))
      (λ e w. subst (RefusesRewrite key val n kept old new l) (sym w.0) (inr (has, subst (λ z. WritesFront z (records.records_encoding kept) new) m w.1)))
