-- One run read under two enums, of which one declares more; and its rewrite by the reader of the other.
use Rattle.std.proofs.Common.{◌≡◌, ◌≢◌, ◌⊎◌, inl, inr, ℕ, ℤ, ◌<◌, ◌^◌, Bool, true, false, cond, List, [], ◌∷◌, ◌++◌, length, map, Option, Some, None, Ok, refl, sym, ap, subst, ◌∙◌, arith}
use Rattle.std.specs.Prelude.{IfSome, if◌then◌else◌}
use Rattle.std.specs.Cmp.{IsEquivalence}
use Rattle.std.specs.List.{IsDistinct, filter}
use Rattle.std.specs.Map.{lookup_entry, keys_of}
use Rattle.std.proofs.lemmas.Map.Entries.{none_past_head}
use Rattle.std.proofs.lemmas.Map.Keys.{IsDistinct-tail}
use Rattle.buffa_bytes.specs.PayloadValue.{PayloadValue, HasPayloadValue, number_in}
use Rattle.buffa_wire.specs.Enums.{Numbers, DeclaresBlank, Refines}
use Rattle.buffa_bytes.specs.Number.{IsNumber}
use Rattle.buffa_wire.specs.Records.{bytes}
use Rattle.buffa_wire.specs.Encoding.{records_encoding}
use Rattle.buffa_bytes.specs.Values.{int32_of, tag_encoding}
use Rattle.buffa_bytes.specs.Varint.{varint_encoding}
use Rattle.buffa_wire.specs.BudgetLeft.{BudgetLeft, nothing, plus}
use Rattle.buffa_bytes.specs.declared.wire_type.WireType.TheVariants.{LengthDelimited}
use Rattle.buffa_bytes.proofs.VarintLemmas.{IsVarint-varint_encoding}
use Rattle.buffa_bytes.specs.Scan.{ParsesEach}
use Rattle.buffa_map.specs.Codec.{Reading, Writing}
use Rattle.buffa_map.specs.Entry.{IsEntry, IsEntryField}
use Rattle.buffa_map.specs.EntryReading.{blanks}
use Rattle.buffa_map.specs.EnumFacts.{closed_reads_back}
use Rattle.buffa_map.specs.Enums.{ClosedFits, closed_reading, closed_writing}
use Rattle.buffa_map.specs.Pairs.{ListsOnce, SamePairs, put}
use Rattle.buffa_map.specs.Rewrite.{IsOrderedClass, IsRewrite, KeepsMeaning, Ordered, SeenByTwo, first, is_new, last, seen}
use Rattle.buffa_map.specs.Run.{fold_entries, undeclared, Run, EntryRecord, cost_inside, undeclared_records}
use Rattle.buffa_map.specs.Encoding.{AllHold, field_encoding}
use Rattle.buffa_map.specs.declared.map_entry.MapEntry.{MapEntry}
use Rattle.buffa_bytes.proofs.SequenceLemmas.{ok_same}
use Rattle.buffa_map.proofs.BackLemmas.{as_record, implicit_back, run_back}
use Rattle.buffa_bytes.proofs.FieldLemmas.{is_tag}
use Rattle.buffa_map_laws.proofs.ClassLemmas.{AreNew, IsLater, IsOrderedKinds, Kind, exact, first_key, older, newer, kept_meaning, last_kind, later, nothing_known, put_all}
use Rattle.buffa_map_laws.proofs.ClassLemmas.Kind.{Both, Later, Neither}
use Rattle.buffa_map.proofs.PutLemmas.{lookup_entry-none}
use Rattle.buffa_map.proofs.RunLemmas.{undeclared-append, Run-join, run_complete}

-- ---- the declared pairs of a run
abbrev pub declared : {K V : Type 0} → List (EntryRecord K V) → List (K × V)
declared [] = []
declared (x ∷ xs) = cond x.parts.known ((x.parts.key, x.parts.value) ∷ declared xs) (declared xs)

module _ {K V : Type 0} (eq : K → K → Bool) where
  fold_one : (b : Bool) (m : List (K × V)) (k : K) (v : V) (es : List (EntryRecord K V)) → ((z : List (K × V)) → fold_entries eq z es ≡ put_all eq z (declared es)) → fold_entries eq (cond b (put eq m k v) m) es ≡ put_all eq m (cond b ((k, v) ∷ declared es) (declared es))
  fold_one true m k v es h = h (put eq m k v)
  fold_one false m k v es h = h m

  pub fold_entries-declared : (m : List (K × V)) (es : List (EntryRecord K V)) → fold_entries eq m es ≡ put_all eq m (declared es)
  fold_entries-declared m [] = refl
  fold_entries-declared m (x ∷ es) = fold_one x.parts.known m x.parts.key x.parts.value es (λ z. fold_entries-declared z es)

declared_first : {K V : Type 0} (b : Bool) (p : K × V) (xs ys zs : List (K × V)) → xs ≡ ys ++ zs → cond b (p ∷ xs) xs ≡ cond b (p ∷ ys) ys ++ zs
declared_first true p xs ys zs h = ap (λ z. p ∷ z) h
declared_first false p xs ys zs h = h

pub declared-append : {K V : Type 0} (es fs : List (EntryRecord K V)) → declared (es ++ fs) ≡ declared es ++ declared fs
declared-append [] fs = refl
declared-append (x ∷ es) fs = declared_first x.parts.known (x.parts.key, x.parts.value) (declared (es ++ fs)) (declared es) (declared fs) (declared-append es fs)

-- ---- what holds of the keys that are put holds of those of a walk
module _ {K V : Type 0} {eq : K → K → Bool} (laws : IsEquivalence eq) (P : K → Type 0) where
  abbrev pub KeysHold : List (K × V) → Type 0
  KeysHold l = AllHold P (λ (v : V). Unit {0}) l

  put_in : (b : Bool) (e : K × V) (es : List (K × V)) (v : V) (more : List (K × V)) → P e.0 → KeysHold es → KeysHold more → KeysHold (if b then (e.0, v) ∷ es else e ∷ more)
  put_in true e es v more h i j = (h, tt, i)
  put_in false e es v more h i j = (h, tt, j)

  put_holds : (m : List (K × V)) (k : K) (v : V) → KeysHold m → P k → KeysHold (put eq m k v)
  put_holds [] k v h i = (i, tt, tt)
  put_holds (e ∷ es) k v h i = put_in (eq k e.0) e es v (put eq es k v) h.0 h.2 (put_holds es k v h.2 i)

  pub put_all_holds : (m ps : List (K × V)) → KeysHold m → KeysHold ps → KeysHold (put_all eq m ps)
  put_all_holds m [] h i = h
  put_all_holds m (p ∷ ps) h i = put_all_holds (put eq m p.0 p.1) ps (put_holds m p.0 p.1 h i.0) i.2

  found_in : (b : Bool) (e : K × V) (o : Option (K × V)) → P e.0 → IfSome o (λ p. P p.0) → IfSome (cond b (Some e) o) (λ p. P p.0)
  found_in true e o h i = h
  found_in false e o h i = i

  found_holds : (t : K → Bool) (m : List (K × V)) → KeysHold m → IfSome (lookup_entry t m) (λ p. P p.0)
  found_holds t [] h = tt
  found_holds t (e ∷ es) h = found_in (t e.0) e (lookup_entry t es) h.0 (found_holds t es h.2)

  past : (q : K) (p : K × V) (l : List (K × V)) → IsDistinct eq (keys_of (p ∷ l)) → (b : Bool) → eq q p.0 ≡ b → IfSome (cond b (Some p) (lookup_entry (eq q) l)) (λ z. P z.0) → IfSome (lookup_entry (eq q) l) (λ z. P z.0)
  past q p l d true h i = rw (lookup_entry-none (eq q) l (none_past_head laws q p l d h)) tt
  past q p l d false h i = i

  walk_holds : (l : List (K × V)) → IsDistinct eq (keys_of l) → ((q : K) → IfSome (lookup_entry (eq q) l) (λ p. P p.0)) → KeysHold l
  walk_holds [] d h = tt
  walk_holds (p ∷ l) d h =
      let here : IfSome (cond (eq p.0 p.0) (Some p) (lookup_entry (eq p.0) l)) (λ z. P z.0) = h p.0 in
      let own : P p.0 = rw (laws.refl p.0) at here in
      (own, tt, walk_holds l (IsDistinct-tail eq p.0 (keys_of l) d) (λ q. past q p l d (eq q p.0) refl (h q)))

  pub walked_holds : (m l : List (K × V)) → ListsOnce eq m l → KeysHold m → KeysHold l
  walked_holds m l e h = walk_holds l e.0 (λ q. subst (λ z. IfSome z (λ p. P p.0)) (e.1 q) (found_holds (eq q) m h))

-- ---- one run under two enums
abbrev Declared : Numbers → ℤ → Type 0
Declared e v = e.declares v ≡ true

-- what two readers make of the value fields of one entry: both have one declared value; only the second has; or neither
abbrev SeesMore : Numbers → Bool → ℤ → Bool → ℤ → Type 0
SeesMore e a v b w = ((a ≡ true) × (b ≡ true) × (v ≡ w) × Declared e w) ⊎ (((a ≡ false) × (b ≡ true) × ((u : ℤ) → Declared e u → u ≢ w)) ⊎ ((a ≡ false) × (b ≡ false)))

module _ {K : Type 0} (Normal : K → Type 0) (e : Numbers) where
  -- an entry read twice: the keys are one, and the second reader's enum declares more
  abbrev Twin : MapEntry K ℤ → MapEntry K ℤ → Type 0
  Twin s t = (s.key ≡ t.key) × Normal t.key × SeesMore e s.known s.value t.known t.value

  abbrev pub Twins : List (EntryRecord K ℤ) → List (EntryRecord K ℤ) → Type 0
  Twins [] [] = Unit {0}
  Twins [] (y ∷ fs) = ⊥
  Twins (x ∷ es) [] = ⊥
  Twins (x ∷ es) (y ∷ fs) = (x.bytes ≡ y.bytes) × Twin x.parts y.parts × Twins es fs

module _ {K : Type 0} (key : Reading K) (Normal : K → Type 0) (blank_normal : Normal key.blank)
    (stays : (d : ℕ) (old : K) (c : PayloadValue) (new : K) (known : Bool) → Normal old → key.reads d old c ≡ Ok (new, known) → Normal new)
    (e f : Numbers) (has_blank : DeclaresBlank e) (refines : Refines e f) where
  not_declared : (n u : ℤ) → e.declares n ≡ false → Declared e u → u ≢ n
  not_declared n u h k same = let m : e.declares n ≡ true = subst (Declared e) same k in cc

  value_twin : (n v w : ℤ) (a b : Bool) → e.declares n ≡ a → f.declares n ≡ b →
      SeesMore e (let x : ℤ × Bool = cond a (n, true) (v, false) in x.1) (let x : ℤ × Bool = cond a (n, true) (v, false) in x.0) (let x : ℤ × Bool = cond b (n, true) (w, false) in x.1) (let x : ℤ × Bool = cond b (n, true) (w, false) in x.0)
  value_twin n v w true true h k = inl (refl, refl, refl, h)
  value_twin n v w true false h k = let m = refines.0 n h in cc
  value_twin n v w false true h k = inr (inl (refl, refl, λ u i. not_declared n u h i))
  value_twin n v w false false h k = inr (inr (refl, refl))

  field_twin : (d : ℕ) (s r t : MapEntry K ℤ) (p : List ℕ) → Twin Normal e s r → IsEntryField key (closed_reading e) d s p t → (u : MapEntry K ℤ) × IsEntryField key (closed_reading f) d r p u × Twin Normal e t u
  field_twin d s r t p h (inl (k, known, (tag, body, c, is, level_left, has, reads, split), st)) =
      let u : MapEntry K ℤ = record r { key = k } in
      let again : key.reads d r.key c ≡ Ok (k, known) = subst (λ z. key.reads d z c ≡ Ok (k, known)) h.0 reads in
      let twin : Twin Normal e (record s { key = k }) u = (refl, stays d r.key c k known h.1 again, h.2) in
      (u, inl (k, known, (tag, body, c, is, level_left, has, again, split), refl), subst (λ z. Twin Normal e z u) (sym st) twin)
  field_twin d s r t p h (inr (inl (v, known, (tag, body, c, is, level_left, has, reads, split), st))) =
      let n : ℤ = int32_of (number_in c) in
      let x : ℤ × Bool = cond (e.declares n) (n, true) (s.value, false) in
      let y : ℤ × Bool = cond (f.declares n) (n, true) (r.value, false) in
      let u : MapEntry K ℤ = record r { value = y.0; known = y.1 } in
      let both : SeesMore e x.1 x.0 y.1 y.0 = value_twin n s.value r.value (e.declares n) (f.declares n) refl refl in
      let made : x ≡ (v, known) = ok_same reads in
      let twin : Twin Normal e (record s { value = v; known = known }) u = (h.0, h.1, subst (λ (z : ℤ × Bool). SeesMore e z.1 z.0 y.1 y.0) made both) in
      (u, inr (inl (y.0, y.1, (tag, body, c, is, level_left, has, refl, split), refl)), subst (λ z. Twin Normal e z u) (sym st) twin)
  field_twin d s r t p h (inr (inr (n, w, not_one, not_two, field, st))) =
      (r, inr (inr (n, w, not_one, not_two, field, refl)), subst (λ z. Twin Normal e z r) (sym st) h)

  along_twin : (d : ℕ) (ps : List (List ℕ)) (s r t : MapEntry K ℤ) → Twin Normal e s r → ParsesEach (IsEntryField key (closed_reading e) d) s ps t → (u : MapEntry K ℤ) × ParsesEach (IsEntryField key (closed_reading f) d) r ps u × Twin Normal e t u
  along_twin d [] s r t h a = (r, refl, subst (λ z. Twin Normal e z r) a h)
  along_twin d (p ∷ ps) s r t h (m, field, a) =
      let one = field_twin d s r m p h field in
      let rest = along_twin d ps m one.0 t one.2 a in
      (rest.0, (one.0, one.1, rest.1), rest.2)

  entry_twin : (d : ℕ) (bs : List ℕ) (s : MapEntry K ℤ) → IsEntry key (closed_reading e) d bs s → (t : MapEntry K ℤ) × IsEntry key (closed_reading f) d bs t × Twin Normal e s t
  entry_twin d bs s (ps, is, a) =
      let start : Twin Normal e (blanks key (closed_reading e) d) (blanks key (closed_reading f) d) = (refl, blank_normal, inl (refl, refl, refines.1, subst (Declared e) refines.1 has_blank)) in
      let i = along_twin d ps (blanks key (closed_reading e) d) (blanks key (closed_reading f) d) s start a in
      (i.0, (ps, is, i.1), i.2)

  pub run_twin : (d n : ℕ) (b : List ℕ) (es : List (EntryRecord K ℤ)) → Run key (closed_reading e) d n b es → (fs : List (EntryRecord K ℤ)) × Run key (closed_reading f) d n b fs × Twins Normal e es fs
  run_twin d n b [] h = ([], h, tt)
  run_twin d n b (x ∷ es) (r, rest, (t, l, tag, len, is, entry), split, more) =
      let one = entry_twin d x.bytes x.parts entry in
      let i = run_twin d n rest es more in
      let y : EntryRecord K ℤ = record { bytes = x.bytes; parts = one.0 } in
      (y ∷ i.0, (r, rest, (t, l, tag, len, is, one.1), split, i.1), (refl, one.2, i.2))

  -- two readings of one run
  pub twins : (key.nested ≡ false → (d : ℕ) (c : PayloadValue) → key.cost d c ≡ nothing) → (d n : ℕ) (b : List ℕ) (es fs : List (EntryRecord K ℤ)) → Run key (closed_reading e) d n b es → Run key (closed_reading f) d n b fs → Twins Normal e es fs
  twins free d n bs es fs h k =
      let i = run_twin d n bs es h in
      let a = cost_inside key (closed_reading f) d i.0 in
      let b = cost_inside key (closed_reading f) d fs in
      let both : BudgetLeft = plus a b in
      let same : i.0 ≡ fs = ap (λ z. z.0) (ok_same (sym (run_complete key (closed_reading f) d n 0 0 free (λ _ d c. refl) both bs i.0 b i.1 (omega arith, omega arith)) ∙ run_complete key (closed_reading f) d n 0 0 free (λ _ d c. refl) both bs fs a k (omega arith, omega arith))) in
      subst (λ z. Twins Normal e es z) same i.2

-- ---- the two readings as a list of kinds
abbrev kind_of : Bool → Bool → ℤ → Kind ℤ
kind_of a b w = cond a (Both w) (cond b (Later w) Neither)

abbrev pub kinds : {K : Type 0} → List (EntryRecord K ℤ) → List (EntryRecord K ℤ) → List (K × Kind ℤ)
kinds [] fs = []
kinds (x ∷ es) [] = []
kinds (x ∷ es) (y ∷ fs) = (y.parts.key, kind_of x.parts.known y.parts.known y.parts.value) ∷ kinds es fs

-- the entries that the first reader keeps, as the second one reads them
abbrev pub unread : {K V : Type 0} → List (EntryRecord K V) → List (EntryRecord K V) → List (EntryRecord K V)
unread [] fs = []
unread (x ∷ es) [] = []
unread (x ∷ es) (y ∷ fs) = cond x.parts.known (unread es fs) (y ∷ unread es fs)

module _ {K : Type 0} (Normal : K → Type 0) (e : Numbers) where
  pub older-kinds : (es fs : List (EntryRecord K ℤ)) → Twins Normal e es fs → older (kinds es fs) ≡ declared es
  older-kinds [] [] h = refl
  older-kinds [] (y ∷ fs) h = absurd h
  older-kinds (x ∷ es) [] h = absurd h
  older-kinds (x ∷ es) (y ∷ fs) (same, (k, n, inl (a, b, v, d)), h) = rw (a, k, v) (ap (λ z. (y.parts.key, y.parts.value) ∷ z) (older-kinds es fs h))
  older-kinds (x ∷ es) (y ∷ fs) (same, (k, n, inr (inl (a, b, new))), h) = rw (a, b) (older-kinds es fs h)
  older-kinds (x ∷ es) (y ∷ fs) (same, (k, n, inr (inr (a, b))), h) = rw (a, b) (older-kinds es fs h)

  pub newer-kinds : (es fs : List (EntryRecord K ℤ)) → Twins Normal e es fs → newer (kinds es fs) ≡ declared fs
  newer-kinds [] [] h = refl
  newer-kinds [] (y ∷ fs) h = absurd h
  newer-kinds (x ∷ es) [] h = absurd h
  newer-kinds (x ∷ es) (y ∷ fs) (same, (k, n, inl (a, b, v, d)), h) = rw (a, b) (ap (λ z. (y.parts.key, y.parts.value) ∷ z) (newer-kinds es fs h))
  newer-kinds (x ∷ es) (y ∷ fs) (same, (k, n, inr (inl (a, b, new))), h) = rw (a, b) (ap (λ z. (y.parts.key, y.parts.value) ∷ z) (newer-kinds es fs h))
  newer-kinds (x ∷ es) (y ∷ fs) (same, (k, n, inr (inr (a, b))), h) = rw (a, b) (newer-kinds es fs h)

  pub later-kinds : (es fs : List (EntryRecord K ℤ)) → Twins Normal e es fs → declared (unread es fs) ≡ later (kinds es fs)
  later-kinds [] [] h = refl
  later-kinds [] (y ∷ fs) h = absurd h
  later-kinds (x ∷ es) [] h = absurd h
  later-kinds (x ∷ es) (y ∷ fs) (same, (k, n, inl (a, b, v, d)), h) = rw a (later-kinds es fs h)
  later-kinds (x ∷ es) (y ∷ fs) (same, (k, n, inr (inl (a, b, new))), h) = rw (a, b) (ap (λ z. (y.parts.key, y.parts.value) ∷ z) (later-kinds es fs h))
  later-kinds (x ∷ es) (y ∷ fs) (same, (k, n, inr (inr (a, b))), h) = rw (a, b) (later-kinds es fs h)

  pub new-kinds : (es fs : List (EntryRecord K ℤ)) → Twins Normal e es fs → AreNew (Declared e) (kinds es fs)
  new-kinds [] [] h = tt
  new-kinds [] (y ∷ fs) h = absurd h
  new-kinds (x ∷ es) [] h = absurd h
  new-kinds (x ∷ es) (y ∷ fs) (same, (k, n, inl (a, b, v, d)), h) = rw a (d, new-kinds es fs h)
  new-kinds (x ∷ es) (y ∷ fs) (same, (k, n, inr (inl (a, b, new))), h) = rw (a, b) (new, new-kinds es fs h)
  new-kinds (x ∷ es) (y ∷ fs) (same, (k, n, inr (inr (a, b))), h) = rw (a, b) (new-kinds es fs h)

  -- what neither declares stays kept
  pub undeclared-unread : (es fs : List (EntryRecord K ℤ)) → Twins Normal e es fs → undeclared (unread es fs) ≡ undeclared fs
  undeclared-unread [] [] h = refl
  undeclared-unread [] (y ∷ fs) h = absurd h
  undeclared-unread (x ∷ es) [] h = absurd h
  undeclared-unread (x ∷ es) (y ∷ fs) (same, (k, n, inl (a, b, v, d)), h) = rw (a, b) (undeclared-unread es fs h)
  undeclared-unread (x ∷ es) (y ∷ fs) (same, (k, n, inr (inl (a, b, new))), h) = rw (a, b) (undeclared-unread es fs h)
  undeclared-unread (x ∷ es) (y ∷ fs) (same, (k, n, inr (inr (a, b))), h) = rw (a, b) (ap (λ z. y.bytes ∷ z) (undeclared-unread es fs h))

  key_normal : (b : Bool) (k : K) (v : ℤ) (l : List (K × ℤ)) → Normal k → AllHold Normal (λ (v : ℤ). Unit {0}) l → AllHold Normal (λ (v : ℤ). Unit {0}) (cond b ((k, v) ∷ l) l)
  key_normal true k v l h i = (h, tt, i)
  key_normal false k v l h i = i

  pub keys_normal : (es fs : List (EntryRecord K ℤ)) → Twins Normal e es fs → AllHold Normal (λ (v : ℤ). Unit {0}) (declared es)
  keys_normal [] [] h = tt
  keys_normal [] (y ∷ fs) h = absurd h
  keys_normal (x ∷ es) [] h = absurd h
  keys_normal (x ∷ es) (y ∷ fs) (same, (k, n, sees), h) = key_normal x.parts.known x.parts.key x.parts.value (declared es) (subst Normal (sym k) n) (keys_normal es fs h)

module _ {K : Type 0} (key : Reading K) (Normal : K → Type 0) (e f : Numbers) where
  kept_one : (d n : ℕ) (b : Bool) (bs : List ℕ) (ks : List (List ℕ)) (y : EntryRecord K ℤ) (us : List (EntryRecord K ℤ)) → IsNumber n → bs ≡ y.bytes → length y.bytes < 2 ^ 64 → IsEntry key (closed_reading f) d y.bytes y.parts →
      Run key (closed_reading f) d n (records_encoding (map (λ k. (n, bytes k)) ks)) us → Run key (closed_reading f) d n (records_encoding (map (λ k. (n, bytes k)) (cond b ks (bs ∷ ks)))) (cond b us (y ∷ us))
  kept_one d n true bs ks y us num same fits entry h = h
  kept_one d n false bs ks y us num same fits entry h =
      let tag = tag_encoding n LengthDelimited in
      (tag ++ (varint_encoding (length bs) ++ bs), records_encoding (map (λ k. (n, bytes k)) ks), (tag, varint_encoding (length y.bytes), is_tag n LengthDelimited num, IsVarint-varint_encoding (length y.bytes) fits, ap (λ z. tag ++ (varint_encoding (length z) ++ z)) same, entry), refl, h)

  -- the encoding of the kept records is a run of them
  pub unread_run : (d n : ℕ) (b : List ℕ) (es fs : List (EntryRecord K ℤ)) → IsNumber n → Twins Normal e es fs → Run key (closed_reading f) d n b fs → Run key (closed_reading f) d n (records_encoding (undeclared_records n es)) (unread es fs)
  unread_run d n b [] [] num h k = refl
  unread_run d n b [] (y ∷ fs) num h k = absurd h
  unread_run d n b (x ∷ es) [] num h k = absurd h
  unread_run d n b (x ∷ es) (y ∷ fs) num (same, twin, h) (r, rest, (t, l, tag, len, is, entry), split, more) =
      kept_one d n x.parts.known x.bytes (undeclared es) y (unread es fs) num same len.fits entry (unread_run d n rest es fs num h more)

-- ---- the order condition, of kinds
module _ {K : Type 0} where
  abbrev as_seen : K × Kind ℤ → SeenByTwo K
  as_seen x = elim x.1 as (λ _. SeenByTwo K) [ Both v ↦ record { key = x.0; known_to_older = true; known_to_newer = true } | Later w ↦ record { key = x.0; known_to_older = false; known_to_newer = true } | Neither ↦ record { key = x.0; known_to_older = false; known_to_newer = false } ]

  filter-seen : (t : K → Bool) (xs : List (K × Kind ℤ)) → filter (λ x. t x.key) (map as_seen xs) ≡ map as_seen (filter (λ x. t x.0) xs)
  filter-seen t [] = refl
  filter-seen t ((k, Both v) ∷ xs) = grind (arith, filter-seen t xs)
  filter-seen t ((k, Later w) ∷ xs) = grind (arith, filter-seen t xs)
  filter-seen t ((k, Neither) ∷ xs) = grind (arith, filter-seen t xs)

  none_new : (c : List (K × Kind ℤ)) → later c ≡ [] → filter is_new (map as_seen c) ≡ []
  none_new [] h = refl
  none_new ((k, Both v) ∷ c) h = none_new c h
  none_new ((k, Later w) ∷ c) h = cc
  none_new ((k, Neither) ∷ c) h = none_new c h

  none_later : (c : List (K × Kind ℤ)) → filter is_new (map as_seen c) ≡ [] → later c ≡ []
  none_later [] h = refl
  none_later ((k, Both v) ∷ c) h = none_later c h
  none_later ((k, Later w) ∷ c) h = cc
  none_later ((k, Neither) ∷ c) h = none_later c h

  -- the last that the second reader knows
  abbrev LastSeen : Kind ℤ → Option (SeenByTwo K) → Type 0
  LastSeen (Both v) o = (x : SeenByTwo K) × (o ≡ Some x) × (is_new x ≡ false)
  LastSeen (Later w) o = (x : SeenByTwo K) × (o ≡ Some x) × (is_new x ≡ true)
  LastSeen Neither o = o ≡ None

  abbrev last_known : List (K × Kind ℤ) → Option (SeenByTwo K)
  last_known c = last (filter (λ x. x.known_to_newer) (map as_seen c))

  last_seen-cons : (k : K) (x : Kind ℤ) (c : List (K × Kind ℤ)) (r : Kind ℤ) → LastSeen r (last_known c) → LastSeen (elim r as (λ _. Kind ℤ) [ Both v ↦ Both v | Later w ↦ Later w | Neither ↦ x ]) (last_known ((k, x) ∷ c))
  last_seen-cons k (Both v) c (Both u) h = (h.0, rw h.1 refl, h.2)
  last_seen-cons k (Both v) c (Later w) h = (h.0, rw h.1 refl, h.2)
  last_seen-cons k (Both v) c Neither h = (as_seen (k, Both v), rw h refl, refl)
  last_seen-cons k (Later v) c (Both u) h = (h.0, rw h.1 refl, h.2)
  last_seen-cons k (Later v) c (Later w) h = (h.0, rw h.1 refl, h.2)
  last_seen-cons k (Later v) c Neither h = (as_seen (k, Later v), rw h refl, refl)
  last_seen-cons k Neither c (Both u) h = h
  last_seen-cons k Neither c (Later w) h = h
  last_seen-cons k Neither c Neither h = h

  last_seen : (c : List (K × Kind ℤ)) → LastSeen (last_kind c) (last_known c)
  last_seen [] = refl
  last_seen ((k, x) ∷ c) = last_seen-cons k x c (last_kind c) (last_seen c)

  first_seen : (c : List (K × Kind ℤ)) (k : K) → IfSome (first (filter (λ x. x.known_to_older) (map as_seen c))) (λ x. k ≡ x.key) → IfSome (first_key (older c)) (λ (y : K). Some k ≡ Some y)
  first_seen [] k h = tt
  first_seen ((j, Both v) ∷ c) k h = ap (λ (z : K). Some z) h
  first_seen ((j, Later w) ∷ c) k h = first_seen c k h
  first_seen ((j, Neither) ∷ c) k h = first_seen c k h

  seen_first : (c : List (K × Kind ℤ)) (k : K) → IfSome (first_key (older c)) (λ (y : K). Some k ≡ Some y) → IfSome (first (filter (λ x. x.known_to_older) (map as_seen c))) (λ x. k ≡ x.key)
  seen_first [] k h = tt
  seen_first ((j, Both v) ∷ c) k h = cc
  seen_first ((j, Later w) ∷ c) k h = seen_first c k h
  seen_first ((j, Neither) ∷ c) k h = seen_first c k h

  abbrev FirstSeen : List (K × Kind ℤ) → Type 0
  FirstSeen c = IfSome (first (filter (λ x. x.known_to_older) (map as_seen c))) (λ x. IfSome (first (filter (λ y. y.known_to_newer) (map as_seen c))) (λ y. y.key ≡ x.key))

  abbrev FirstKind : List (K × Kind ℤ) → Type 0
  FirstKind c = IfSome (first_key (older c)) (λ k. first_key (newer c) ≡ Some k)

  first_kind : (c : List (K × Kind ℤ)) → FirstSeen c → FirstKind c
  first_kind [] h = tt
  first_kind ((j, Both v) ∷ c) h = refl
  first_kind ((j, Later w) ∷ c) h = first_seen c j h
  first_kind ((j, Neither) ∷ c) h = first_kind c h

  kind_first : (c : List (K × Kind ℤ)) → FirstKind c → FirstSeen c
  kind_first [] h = tt
  kind_first ((j, Both v) ∷ c) h = refl
  kind_first ((j, Later w) ∷ c) h = seen_first c j h
  kind_first ((j, Neither) ∷ c) h = kind_first c h

  last_later : (c : List (K × Kind ℤ)) (r : Kind ℤ) (o : Option (SeenByTwo K)) → last_kind c ≡ r → later c ≢ [] → LastSeen r o → IfSome o (λ x. is_new x ≡ true) → IsLater r
  last_later c (Both v) o e some h i = let m : is_new h.0 ≡ true = subst (λ z. IfSome z (λ x. is_new x ≡ true)) h.1 i in let n = h.2 in cc
  last_later c (Later w) o e some h i = tt
  last_later c Neither o e some h i = absurd (some (nothing_known c e))

  later_last : (r : Kind ℤ) (o : Option (SeenByTwo K)) → LastSeen r o → IsLater r → IfSome o (λ x. is_new x ≡ true)
  later_last (Both v) o h i = absurd i
  later_last (Later w) o h i = subst (λ z. IfSome z (λ x. is_new x ≡ true)) (sym h.1) h.2
  later_last Neither o h i = absurd i

  class_kinds : (c : List (K × Kind ℤ)) → IsOrderedClass (map as_seen c) → IsOrderedKinds c
  class_kinds c h some =
      let o = h (λ z. some (none_later c z)) in
      (last_later c (last_kind c) (last_known c) refl some (last_seen c) o.0, first_kind c o.1)

  kinds_class : (c : List (K × Kind ℤ)) → IsOrderedKinds c → IsOrderedClass (map as_seen c)
  kinds_class c h some =
      let o = h (λ z. some (none_new c z)) in
      (later_last (last_kind c) (last_known c) (last_seen c) o.0, kind_first c o.1)

module _ {K : Type 0} (Normal : K → Type 0) (e : Numbers) where
  seen-kinds : (es fs : List (EntryRecord K ℤ)) → Twins Normal e es fs → seen es fs ≡ map as_seen (kinds es fs)
  seen-kinds [] [] h = refl
  seen-kinds [] (y ∷ fs) h = absurd h
  seen-kinds (x ∷ es) [] h = absurd h
  seen-kinds (x ∷ es) (y ∷ fs) (same, (k, n, inl (a, b, v, d)), h) = rw (a, b) (ap (λ z. record { key = y.parts.key; known_to_older = true; known_to_newer = true } ∷ z) (seen-kinds es fs h))
  seen-kinds (x ∷ es) (y ∷ fs) (same, (k, n, inr (inl (a, b, new))), h) = rw (a, b) (ap (λ z. record { key = y.parts.key; known_to_older = false; known_to_newer = true } ∷ z) (seen-kinds es fs h))
  seen-kinds (x ∷ es) (y ∷ fs) (same, (k, n, inr (inr (a, b))), h) = rw (a, b) (ap (λ z. record { key = y.parts.key; known_to_older = false; known_to_newer = false } ∷ z) (seen-kinds es fs h))

  pub ordered_kinds : (eq : K → K → Bool) (es fs : List (EntryRecord K ℤ)) → Twins Normal e es fs → Ordered eq es fs → (q : K) → IsOrderedKinds (filter (λ x. eq q x.0) (kinds es fs))
  ordered_kinds eq es fs h o q = class_kinds (filter (λ x. eq q x.0) (kinds es fs)) (subst IsOrderedClass (ap (filter (λ x. eq q x.key)) (seen-kinds es fs h) ∙ filter-seen (eq q) (kinds es fs)) (o q))

  pub kinds_ordered : (eq : K → K → Bool) (es fs : List (EntryRecord K ℤ)) → Twins Normal e es fs → ((q : K) → IsOrderedKinds (filter (λ x. eq q x.0) (kinds es fs))) → Ordered eq es fs
  kinds_ordered eq es fs h o q = subst IsOrderedClass (sym (ap (filter (λ x. eq q x.key)) (seen-kinds es fs h) ∙ filter-seen (eq q) (kinds es fs))) (kinds_class (filter (λ x. eq q x.0) (kinds es fs)) (o q))

-- ---- the rewrite
all_fit : {K : Type 0} (P N : K → Type 0) (e f : Numbers) → ((n : ℤ) → e.declares n ≡ true → f.declares n ≡ true) → (l : List (K × ℤ)) → AllHold P (ClosedFits e) l → AllHold N (λ (v : ℤ). Unit {0}) l → AllHold (λ k. P k × N k) (ClosedFits f) l
all_fit P N e f more [] h k = tt
all_fit P N e f more (p ∷ l) h k = ((h.0, k.0), (h.1.0, more p.1 h.1.1), all_fit P N e f more l h.2 k.2)

module _ {K : Type 0} (key : Reading K) (write : Writing K) (same_wire : write.wire ≡ key.wire) (plain : key.nested ≡ false) (free : key.nested ≡ false → (d : ℕ) (c : PayloadValue) → key.cost d c ≡ nothing) (Fits Normal : K → Type 0) (blank_normal : Normal key.blank)
    (stays : (d : ℕ) (old : K) (c : PayloadValue) (new : K) (known : Bool) → Normal old → key.reads d old c ≡ Ok (new, known) → Normal new)
    (back : (d : ℕ) (old v : K) → Fits v → Normal v → (c : PayloadValue) × HasPayloadValue write.wire (write.encoding v) c × (key.reads d old c ≡ Ok (v, true)))
    (e f : Numbers) (has_blank : DeclaresBlank e) (refines : Refines e f) (eq : K → K → Bool) (laws : IsEquivalence eq) where
  -- a number that f declares is read back
  value_back : (d : ℕ) (old v : ℤ) → ClosedFits f v → (c : PayloadValue) × HasPayloadValue closed_writing.wire (closed_writing.encoding v) c × ((closed_reading f).reads d old c ≡ Ok (v, true))
  value_back = closed_reads_back f

  key_back : (d : ℕ) (old v : K) → Fits v × Normal v → (c : PayloadValue) × HasPayloadValue write.wire (write.encoding v) c × (key.reads d old c ≡ Ok (v, true))
  key_back d old v h = back d old v h.0 h.1

  -- a pair of the map, as its record is read
  abbrev says : K × ℤ → EntryRecord K ℤ
  says p = as_record write closed_writing p

  undeclared-says : (l : List (K × ℤ)) → undeclared (map says l) ≡ []
  undeclared-says [] = refl
  undeclared-says (p ∷ l) = undeclared-says l

  declared-says : (l : List (K × ℤ)) → declared (map says l) ≡ l
  declared-says [] = refl
  declared-says (p ∷ l) = ap (λ z. p ∷ z) (declared-says l)

  module _ (es fs : List (EntryRecord K ℤ)) (t : Twins Normal e es fs) (l : List (K × ℤ)) (enum : ListsOnce eq (fold_entries eq [] es) l) where
    -- what the rewrite says to the second reader
    abbrev said_again : List (EntryRecord K ℤ)
    said_again = map says l ++ unread es fs

    keys_of_walk : AllHold Normal (λ (v : ℤ). Unit {0}) l
    keys_of_walk =
        let put_keys = put_all_holds laws Normal [] (declared es) tt (keys_normal Normal e es fs t) in
        walked_holds laws Normal (fold_entries eq [] es) l enum (subst (λ z. AllHold Normal (λ (v : ℤ). Unit {0}) z) (sym (fold_entries-declared eq [] es)) put_keys)

    again_declared : declared said_again ≡ l ++ later (kinds es fs)
    again_declared = declared-append (map says l) (unread es fs) ∙ ap (λ z. z ++ declared (unread es fs)) (declared-says l) ∙ ap (λ z. l ++ z) (later-kinds Normal e es fs t)

    again_kept : undeclared said_again ≡ undeclared fs
    again_kept = undeclared-append (map says l) (unread es fs) ∙ ap (λ z. z ++ undeclared (unread es fs)) (undeclared-says l) ∙ undeclared-unread Normal e es fs t

    again_folds : (m : List (K × ℤ)) → fold_entries eq m said_again ≡ put_all eq m (l ++ later (kinds es fs))
    again_folds m = fold_entries-declared eq m said_again ∙ ap (put_all eq m) again_declared

    run_folds : (m : List (K × ℤ)) → fold_entries eq m fs ≡ put_all eq m (newer (kinds es fs))
    run_folds m = fold_entries-declared eq m fs ∙ ap (put_all eq m) (sym (newer-kinds Normal e es fs t))

    walks : ListsOnce eq (put_all eq [] (older (kinds es fs))) l
    walks = subst (λ z. ListsOnce eq z l) (fold_entries-declared eq [] es ∙ ap (put_all eq []) (sym (older-kinds Normal e es fs t))) enum

    again_same : Ordered eq es fs → (m : List (K × ℤ)) → SamePairs eq (fold_entries eq m said_again) (fold_entries eq m fs)
    again_same o m q =
        ap (lookup_entry (eq q)) (again_folds m) ∙ kept_meaning laws (kinds es fs) l walks (ordered_kinds Normal e eq es fs t o) m q ∙ ap (lookup_entry (eq q)) (sym (run_folds m))

    same_again : SamePairs eq (fold_entries eq [] said_again) (fold_entries eq [] fs) → Ordered eq es fs
    same_again same = kinds_ordered Normal e eq es fs t
        (exact laws (kinds es fs) l walks (Declared e) (new-kinds Normal e es fs t)
        (λ q. ap (lookup_entry (eq q)) (sym (again_folds [])) ∙ same q ∙ ap (lookup_entry (eq q)) (run_folds [])))

  -- what the rewrite's encoding means to the second reader
  abbrev pub Means : ℕ → ℕ → List (EntryRecord K ℤ) → List (EntryRecord K ℤ) → List ℕ → Type 0
  Means d n es fs out = (gs : List (EntryRecord K ℤ)) × Run key (closed_reading f) d n out gs × KeepsMeaning eq es fs gs

  pub rewrite_means : (d n : ℕ) (b out : List ℕ) (es fs : List (EntryRecord K ℤ)) → IsNumber n → Run key (closed_reading e) d n b es → Run key (closed_reading f) d n b fs → IsRewrite eq write closed_writing Fits (ClosedFits e) n es out → Means d n es fs out
  rewrite_means d n b out es fs num h k (l, enum, has, fits, is) =
      let t = twins key Normal blank_normal stays e f has_blank refines free d n b es fs h k in
      let ok = all_fit Fits Normal e f refines.0 l fits (keys_of_walk es fs t l enum) in
      let one = run_back key (closed_reading f) write closed_writing same_wire refl d (λ k. Fits k × Normal k) (ClosedFits f) (λ v ok. implicit_back key write d v plain (key_back d key.blank v ok)) (λ v ok. implicit_back (closed_reading f) closed_writing d v refl (value_back d f.blank v ok)) n l num has ok in
      let two = unread_run key Normal e f d n b es fs num t k in
      let both = Run-join key (closed_reading f) d n (field_encoding write closed_writing n l) (records_encoding (undeclared_records n es)) (map says l) (unread es fs) one two in (
        said_again es fs t l enum,
        subst (λ z. Run key (closed_reading f) d n z (said_again es fs t l enum)) (sym is) both,
        (again_kept es fs t l enum, again_same es fs t l enum, same_again es fs t l enum),
      )
