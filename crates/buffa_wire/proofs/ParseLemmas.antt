-- Records and their encodings: an encoding has one reading, and what is written is read.
use Rattle.std.proofs.Common.{◌≡◌, ℕ, ◌+◌, ◌-◌, ◌*◌, ◌^◌, ◌<◌, ◌≤◌, List, [], ◌∷◌, ◌++◌, length, refl, sym, ap, ◌∙◌, arith, append_assoc, length-append}
use Rattle.std.specs.Int.{from_le_bytes, w32, w64}
use Rattle.std.proofs.lemmas.Nat.{from_le_bytes-to_le_bytes_4, from_le_bytes-to_le_bytes_8}
use Rattle.buffa_bytes.specs.declared.wire_type.WireType.TheVariants as wire
use Rattle.buffa_bytes.specs.Varint.{base128, Continue, IsVarint, varint_encoding}
use Rattle.buffa_bytes.specs.Values.{tag_encoding}
use Rattle.buffa_bytes.specs.Number.{IsNumber, wire_number}
use Rattle.buffa_bytes.proofs.VarintLemmas.{IsVarint-varint_encoding, Spells, varint_encoding-spells}
use Rattle.buffa_wire.specs.Records.{FieldData, varint, fixed32, fixed64, bytes, group, Records, no_records, one, records_height, field_data_height}
use Rattle.buffa_wire.specs.Encoding.{wire_of, payload_encoding, fields_encoding, tagged_encoding}
use Rattle.buffa_wire.specs.Parse.{Parse, IsPayload, Fits, FitsFieldData, InRange, FieldDataInRange}
use Rattle.buffa_wire.specs.ReadableFacts.{Readable, ReadableFieldData}
use Rattle.buffa_bytes.proofs.FieldLemmas.{is_tag, onward}

-- ---- more depth changes nothing
mutual
  pub Parse-deeper : (rs : Records) (c d : ℕ) (b : List ℕ) → c ≤ d → Parse c b rs → Parse d b rs
  Parse-deeper no_records c d b h p = p
  Parse-deeper (one n x rs) c d b h (f, r, (t, q, tag, payload, is), more, all) =
      (f, r, (t, q, tag, payload-deeper x c d n q h payload, is), Parse-deeper rs c d r h more, all)

  payload-deeper : (x : FieldData) (c d n : ℕ) (p : List ℕ) → c ≤ d → IsPayload c n x p → IsPayload d n x p
  payload-deeper (varint v) c d n p h a = a
  payload-deeper (fixed32 v) c d n p h a = a
  payload-deeper (fixed64 v) c d n p h a = a
  payload-deeper (bytes v) c d n p h a = a
  payload-deeper (group rs) c d n p h (o, b, t, q, tag, is) = (omega arith, b, t, Parse-deeper rs (c - 1) (d - 1) b (omega arith) q, tag, is)

-- ---- the encoding of records is theirs
mutual
  pub encoding_parses : (rs : Records) (d : ℕ) → Readable rs → records_height rs ≤ d → Parse d (fields_encoding rs) rs
  encoding_parses no_records d h k = refl
  encoding_parses (one n x rs) d h k =
      (tagged_encoding n x, fields_encoding rs, (tag_encoding n (wire_of x), payload_encoding n x, is_tag n (wire_of x) h.0, payload_parses x d n h.0 h.1 (omega arith), refl), encoding_parses rs d h.2 (omega arith), refl)

  payload_parses : (x : FieldData) (d n : ℕ) → IsNumber n → ReadableFieldData x → field_data_height x ≤ d → IsPayload d n x (payload_encoding n x)
  payload_parses (varint v) d n i h k = IsVarint-varint_encoding v h
  payload_parses (fixed32 v) d n i h k = (refl, sym (from_le_bytes-to_le_bytes_4 v h))
  payload_parses (fixed64 v) d n i h k = (refl, sym (from_le_bytes-to_le_bytes_8 v h))
  payload_parses (bytes v) d n i h k = (varint_encoding (length v), IsVarint-varint_encoding (length v) h, refl)
  payload_parses (group rs) d n i h k = (omega arith, fields_encoding rs, tag_encoding n wire.EndGroup, encoding_parses rs (d - 1) h (omega arith), is_tag n wire.EndGroup i, refl)

-- ---- an encoding of less than 2^64 bytes has no length of 2^64 or more
mutual
  pub short_fits : (rs : Records) → length (fields_encoding rs) < 2 ^ 64 → Fits rs
  short_fits no_records h = tt
  short_fits (one n x rs) h =
      let both = length-append (tagged_encoding n x) (fields_encoding rs) in
      let parts = length-append (tag_encoding n (wire_of x)) (payload_encoding n x) in
      (short_field_data x n (omega (arith, h, both, parts)), short_fits rs (omega (arith, h, both)))

  short_field_data : (x : FieldData) (n : ℕ) → length (payload_encoding n x) < 2 ^ 64 → FitsFieldData x
  short_field_data (varint v) n h = tt
  short_field_data (fixed32 v) n h = tt
  short_field_data (fixed64 v) n h = tt
  short_field_data (bytes v) n h = omega (arith, h, length-append (varint_encoding (length v)) v)
  short_field_data (group rs) n h = short_fits rs (omega (arith, h, length-append (fields_encoding rs) (tag_encoding n wire.EndGroup)))

-- ---- an encoding has one reading
spelled : (p : List ℕ) (n : ℕ) → IsVarint p n → Spells p n
spelled p n v = record { front = v.front; last = v.last; is = v.spelled; continue = v.continue; ends = v.ends; value = v.value }

fronts : (a b : List ℕ) (m n : ℕ) (x y : List ℕ) → Continue a → Continue b → m < 128 → n < 128 → a ++ (m ∷ x) ≡ b ++ (n ∷ y) → (a ≡ b) × (m ≡ n) × (x ≡ y)
fronts [] [] m n x y p q h k e = (refl, cc, cc)
fronts [] (c ∷ b) m n x y p q h k e = let f : m ≡ c = cc in absurd (omega (arith, q.0))
fronts (c ∷ a) [] m n x y p q h k e = let f : c ≡ n = cc in absurd (omega (arith, p.0))
fronts (c ∷ a) (d ∷ b) m n x y p q h k e =
    let f : c ≡ d = cc in
    let g : a ++ (m ∷ x) ≡ b ++ (n ∷ y) = cc in
    let r = fronts a b m n x y p.1 q.1 h k g in
    ((λ i. f i ∷ r.0 i), r.1, r.2)

Spells-one : (a b x y : List ℕ) (m n : ℕ) → Spells a m → Spells b n → a ++ x ≡ b ++ y → (a ≡ b) × (m ≡ n) × (x ≡ y)
Spells-one a b x y m n p q e =
    let l : a ++ x ≡ p.front ++ (p.last ∷ x) = ap (λ z. z ++ x) p.is ∙ append_assoc p.front (p.last ∷ []) x in
    let r : b ++ y ≡ q.front ++ (q.last ∷ y) = ap (λ z. z ++ y) q.is ∙ append_assoc q.front (q.last ∷ []) y in
    let s = fronts p.front q.front p.last q.last x y p.continue q.continue p.ends q.ends (sym l ∙ e ∙ r) in
    let same : a ≡ b = p.is ∙ (λ i. s.0 i ++ (s.1 i ∷ [])) ∙ sym q.is in
    (same, p.value ∙ ap base128 same ∙ sym q.value, s.2)

-- b is a join of fields that are these records, with any numbers and nested in any way
abbrev mutual
  Loose : List ℕ → Records → Type 0
  Loose b no_records = b ≡ []
  Loose b (one n x rs) = (t : List ℕ) × (p : List ℕ) × (r : List ℕ) × Spells t (8 * n + wire_number (wire_of x)) × LoosePayload n x p × Loose r rs × (b ≡ t ++ (p ++ r))

  LoosePayload : ℕ → FieldData → List ℕ → Type 0
  LoosePayload n (varint v) p = Spells p v
  LoosePayload n (fixed32 v) p = (length p ≡ 4) × (v ≡ from_le_bytes w32 p)
  LoosePayload n (fixed64 v) p = (length p ≡ 8) × (v ≡ from_le_bytes w64 p)
  LoosePayload n (bytes v) p = (t : List ℕ) × Spells t (length v) × (p ≡ t ++ v)
  LoosePayload n (group rs) p = (b : List ℕ) × (t : List ℕ) × Loose b rs × Spells t (8 * n + 4) × (p ≡ b ++ t)

split_field : (b f r t p : List ℕ) → b ≡ f ++ r → f ≡ t ++ p → b ≡ t ++ (p ++ r)
split_field b f r t p e h = e ∙ ap (λ z. z ++ r) h ∙ append_assoc t p r

mutual
  parse_loose : (rs : Records) (d : ℕ) (b : List ℕ) → Parse d b rs → Loose b rs
  parse_loose no_records d b p = p
  parse_loose (one n x rs) d b (f, r, (t, q, tag, payload, is), more, all) = (t, q, r, spelled t _ tag.1, payload_loose x d n q payload, parse_loose rs d r more, split_field b f r t q all is)

  payload_loose : (x : FieldData) (d n : ℕ) (p : List ℕ) → IsPayload d n x p → LoosePayload n x p
  payload_loose (varint v) d n p h = spelled p v h
  payload_loose (fixed32 v) d n p h = h
  payload_loose (fixed64 v) d n p h = h
  payload_loose (bytes v) d n p (t, h, is) = (t, spelled t (length v) h, is)
  payload_loose (group rs) d n p (o, b, t, h, tag, is) = (b, t, parse_loose rs (d - 1) b h, spelled t _ tag.1, is)

mutual
  encoding_loose : (rs : Records) → InRange rs → Loose (fields_encoding rs) rs
  encoding_loose no_records h = refl
  encoding_loose (one n x rs) h = (tag_encoding n (wire_of x), payload_encoding n x, fields_encoding rs, varint_encoding-spells _, payload_encoding_loose x n h.0, encoding_loose rs h.1, append_assoc (tag_encoding n (wire_of x)) (payload_encoding n x) (fields_encoding rs))

  payload_encoding_loose : (x : FieldData) (n : ℕ) → FieldDataInRange x → LoosePayload n x (payload_encoding n x)
  payload_encoding_loose (varint v) n h = varint_encoding-spells v
  payload_encoding_loose (fixed32 v) n h = (refl, sym (from_le_bytes-to_le_bytes_4 v h))
  payload_encoding_loose (fixed64 v) n h = (refl, sym (from_le_bytes-to_le_bytes_8 v h))
  payload_encoding_loose (bytes v) n h = (varint_encoding (length v), varint_encoding-spells _, refl)
  payload_encoding_loose (group rs) n h = (fields_encoding rs, tag_encoding n wire.EndGroup, encoding_loose rs h, varint_encoding-spells _, refl)

split_eq : (a b x y : List ℕ) → length a ≡ length b → a ++ x ≡ b ++ y → (a ≡ b) × (x ≡ y)
split_eq [] [] x y n e = (refl, e)
split_eq [] (c ∷ b) x y n e = absurd (omega arith)
split_eq (c ∷ a) [] x y n e = absurd (omega arith)
split_eq (c ∷ a) (d ∷ b) x y n e =
    let t : a ++ x ≡ b ++ y = cc in
    let h = split_eq a b x y (omega arith) t in
    let f : c ∷ a ≡ d ∷ b = cc in (f, h.1)

wire_small : (x : FieldData) → wire_number (wire_of x) < 8
wire_small (varint v) = omega arith
wire_small (fixed32 v) = omega arith
wire_small (fixed64 v) = omega arith
wire_small (bytes v) = omega arith
wire_small (group rs) = omega arith

wire_not_end : (x : FieldData) → wire_number (wire_of x) ≡ 4 → ⊥
wire_not_end (varint v) e = absurd (omega arith)
wire_not_end (fixed32 v) e = absurd (omega arith)
wire_not_end (fixed64 v) e = absurd (omega arith)
wire_not_end (bytes v) e = absurd (omega arith)
wire_not_end (group rs) e = absurd (omega arith)

-- no field begins here
abbrev ParseStops : List ℕ → Type 0
ParseStops u = (t rest : List ℕ) (n : ℕ) (x : FieldData) → Spells t (8 * n + wire_number (wire_of x)) → t ++ rest ≡ u → ⊥

stops_end : (e r : List ℕ) (n : ℕ) → Spells e (8 * n + 4) → ParseStops (e ++ r)
stops_end e r n v t rest m x w h =
    let q = (Spells-one t e rest r _ _ w v h).1 in
    let s = wire_small x in
    let f : wire_number (wire_of x) ≡ 4 = omega arith in wire_not_end x f

stops_none : ParseStops []
stops_none t rest n x w h = absurd (omega (arith, ap length w.is, length-append w.front (w.last ∷ []), ap length h, length-append t rest))

spread : (b t p r v : List ℕ) → b ≡ t ++ (p ++ r) → b ++ v ≡ t ++ (p ++ (r ++ v))
spread b t p r v e = rw e (simp append_assoc)

mutual
  same_records : (rs qs : Records) (a b u v : List ℕ) → Loose a rs → Loose b qs → ParseStops u → ParseStops v → a ++ u ≡ b ++ v → (rs ≡ qs) × (u ≡ v)
  same_records no_records no_records a b u v p q i j e = (refl, ap (λ z. z ++ u) (sym p) ∙ e ∙ ap (λ z. z ++ v) q)
  same_records no_records (one m y qs) a b u v p (t, l, r, s, _, _, is) i j e = absurd (i t (l ++ (r ++ v)) m y s (sym (spread b t l r v is) ∙ sym e ∙ ap (λ z. z ++ u) p))
  same_records (one n x rs) no_records a b u v (t, l, r, s, _, _, is) q i j e = absurd (j t (l ++ (r ++ u)) n x s (sym (spread a t l r u is) ∙ e ∙ ap (λ z. z ++ v) q))
  same_records (one n x rs) (one m y qs) a b u v (t, l, r, s, f, p, is) (t2, l2, r2, s2, f2, q, is2) i j e =
      let h = Spells-one t t2 (l ++ (r ++ u)) (l2 ++ (r2 ++ v)) (8 * n + wire_number (wire_of x)) (8 * m + wire_number (wire_of y)) s s2 (sym (spread a t l r u is) ∙ e ∙ spread b t2 l2 r2 v is2) in
      let small = wire_small x in let small2 = wire_small y in
      let w : wire_number (wire_of x) ≡ wire_number (wire_of y) = omega arith in
      let k : n ≡ m = omega arith in
      let g = same_payload x y n m l l2 (r ++ u) (r2 ++ v) w f f2 h.2 in
      let o = same_records rs qs r r2 u v p q i j g.1 in
      (λ z. one (k z) (g.0 z) (o.0 z), o.1)

  same_payload : (x y : FieldData) (n m : ℕ) (p q r s : List ℕ) → wire_number (wire_of x) ≡ wire_number (wire_of y) → LoosePayload n x p → LoosePayload m y q → p ++ r ≡ q ++ s → (x ≡ y) × (r ≡ s)
  same_payload (varint v) (varint w) n m p q r s k a b e = let h = Spells-one p q r s v w a b e in (ap varint h.1, h.2)
  same_payload (fixed32 v) (fixed32 w) n m p q r s k a b e = let h = split_eq p q r s (a.0 ∙ sym b.0) e in (ap fixed32 (a.1 ∙ ap (from_le_bytes w32) h.0 ∙ sym b.1), h.1)
  same_payload (fixed64 v) (fixed64 w) n m p q r s k a b e = let h = split_eq p q r s (a.0 ∙ sym b.0) e in (ap fixed64 (a.1 ∙ ap (from_le_bytes w64) h.0 ∙ sym b.1), h.1)
  same_payload (bytes v) (bytes w) n m p q r s k a b e =
      let h = Spells-one a.0 b.0 (v ++ r) (w ++ s) (length v) (length w) a.1 b.1 (sym (onward p a.0 v r a.2) ∙ e ∙ onward q b.0 w s b.2) in
      let l = split_eq v w r s h.1 h.2 in
      (ap bytes l.0, l.1)
  same_payload (group v) (group w) n m p q r s k a b e =
      let l = same_records v w a.0 b.0 (a.1 ++ r) (b.1 ++ s) a.2 b.2 (stops_end a.1 r n a.3) (stops_end b.1 s m b.3) (sym (onward p a.0 a.1 r a.4) ∙ e ∙ onward q b.0 b.1 s b.4) in
      let h = Spells-one a.1 b.1 r s (8 * n + 4) (8 * m + 4) a.3 b.3 l.1 in
      (ap group l.0, h.2)
  same_payload _ _ n m p q r s k a b e = absurd (omega arith)

one_loose : (b : List ℕ) (rs qs : Records) → Loose b rs → Loose b qs → rs ≡ qs
one_loose b rs qs p q = (same_records rs qs b b [] [] p q stops_none stops_none refl).0

pub one_reading : (b : List ℕ) (c d : ℕ) (rs qs : Records) → Parse c b rs → Parse d b qs → rs ≡ qs
one_reading b c d rs qs p q = one_loose b rs qs (parse_loose rs c b p) (parse_loose qs d b q)

pub encoding_is_theirs : (d : ℕ) (rs qs : Records) → InRange rs → Parse d (fields_encoding rs) qs → qs ≡ rs
encoding_is_theirs d rs qs h p = one_loose (fields_encoding rs) qs rs (parse_loose qs d (fields_encoding rs) p) (encoding_loose rs h)
