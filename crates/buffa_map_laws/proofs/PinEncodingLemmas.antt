-- Sizes, encodings, rewrites and puts have one answer.
use Rattle.std.proofs.Common.{◌≡◌, ◌≢◌, ℕ, ◌^◌, ◌<◌, ◌≤◌, Bool, false, cond, List, [], ◌∷◌, ◌++◌, Some, Result, Ok, Err, length, ap, refl, subst, sym, ◌∙◌, arith, length-append}
use Rattle.std.specs.Cmp.{IsEquivalence}
use Rattle.std.specs.List.{All}
use Rattle.std.specs.Map.{lookup_entry}
use Rattle.std.proofs.lemmas.List.Elements.{All-cons, All-head, All-nil, All-tail}
use Rattle.std.proofs.lemmas.List.Sorted.{All-permutation}
use Rattle.buffa_bytes.specs.declared.error.DecodeError.{DecodeError}
use Rattle.buffa_bytes.specs.declared.error.DecodeError.TheVariants as decoding
use Rattle.buffa_bytes.specs.declared.error.EncodeError.{EncodeError}
use Rattle.buffa_bytes.specs.declared.error.EncodeError.TheVariants.{GroupRefused, MessageTooLarge, OutOfMemory}
use Rattle.buffa_bytes.specs.declared.wire_type.WireType.TheVariants.{LengthDelimited}
use Rattle.buffa_bytes.proofs.SequenceLemmas.{ok_no_err, heads, tails}
use Rattle.buffa_wire.specs.BudgetLeft.{BudgetLeft, nothing}
use Rattle.buffa_wire.specs.Cache.{Cache}
use Rattle.buffa_bytes.specs.PayloadValue.{PayloadValue}
use Rattle.buffa_wire.specs.Records.{FieldData}
use Rattle.buffa_wire.specs.Encoding.{records_encoding}
use Rattle.buffa_bytes.specs.Values.{tag_encoding}
use Rattle.buffa_map.specs.Codec.{Writing}
use Rattle.buffa_map.specs.MessageField.{IsFieldSized, IsFieldWritten, IsSmallField}
use Rattle.buffa_map.specs.Merge.{Rules, state, unknown_cost}
use Rattle.buffa_map.specs.Pairs.{ListsOnce, SamePairs, put}
use Rattle.buffa_map_laws.specs.LeftOpenEncodings.{MapFieldIsPinned, MessagesArePinned, NoneIsFull, PutIsPinned, RewriteIsPinned}
use Rattle.buffa_map.specs.Rewrite.{RefusesDecoding, RefusesEncoding, RefusesRewrite, RewritesRun}
use Rattle.buffa_map.specs.Run.{EntryRecord, ArePaid, Run, fold_entries, undeclared_records}
use Rattle.buffa_map.specs.Encoding.{HasEncoding, RefusesField, WritesField, entry_encoding, field_encoding, saturated}
use Rattle.buffa_map_laws.proofs.PinLemmas.{one_over, run_is_pinned, run_one}
use Rattle.buffa_map.proofs.PutLemmas.{key_or, lookup_entry-put}
use Rattle.buffa_map.proofs.RunLemmas.{run_complete, run_faulty}
use Rattle.buffa_map.proofs.SizeLemmas.{length-field_encoding}
use Rattle.buffa_map.proofs.StopLemmas.{run_fault}
use Rattle.buffa_map.proofs.WalkLemmas.{one_size, permuted}

module _ {K V : Type 0} (key : Writing K) (val : Writing V) where
  abbrev pub IsShort : K × V → Type 0
  IsShort p = length (entry_encoding key val p) < 2 ^ 64

  pub all_short : (l : List (K × V)) → HasEncoding key val l → All IsShort l
  all_short [] h = All-nil IsShort
  all_short (p ∷ ps) h = All-cons IsShort p ps h.0 (all_short ps h.1)

  pub short_in : (done : List (K × V)) (p : K × V) (rest : List (K × V)) → All IsShort (done ++ p ∷ rest) → IsShort p
  short_in [] p rest h = All-head IsShort p rest h
  short_in (x ∷ done) p rest h = short_in done p rest (All-tail IsShort x (done ++ p ∷ rest) h)

  -- no entry of an encoding is too long, in whatever order
  no_long : (l m done : List (K × V)) (p : K × V) (rest : List (K × V)) → HasEncoding key val l → All IsShort l → m ≡ done ++ p ∷ rest → (All IsShort l → All IsShort m) → 2 ^ 64 ≤ length (entry_encoding key val p) → ⊥
  no_long l m done p rest has all is turn long =
      let few : length (entry_encoding key val p) < 2 ^ 64 = short_in done p rest (subst (All IsShort) is (turn all)) in
      absurd (omega (arith, few, long))

  first_long : (done more : List (K × V)) (p q : K × V) (rest tail : List (K × V)) → done ++ p ∷ rest ≡ more ++ q ∷ tail → HasEncoding key val done → HasEncoding key val more →
      2 ^ 64 ≤ length (entry_encoding key val p) → 2 ^ 64 ≤ length (entry_encoding key val q) → done ≡ more
  first_long [] [] p q rest tail e h k a b = refl
  first_long [] (y ∷ more) p q rest tail e h k a b = absurd (omega (arith, a, k.0, ap (λ z. length (entry_encoding key val z)) (heads e)))
  first_long (x ∷ done) [] p q rest tail e h k a b = absurd (omega (arith, b, h.0, ap (λ z. length (entry_encoding key val z)) (heads e)))
  first_long (x ∷ done) (y ∷ more) p q rest tail e h k a b =
      let first = heads e in
      let others = first_long done more p q rest tail (tails e) h.1 k.1 a b in
      (λ i. first i ∷ others i)

  one_refusal : (n : ℕ) (old a b : List ℕ) (l : List (K × V)) → RefusesField key val n old a l MessageTooLarge → RefusesField key val n old b l MessageTooLarge → a ≡ b
  one_refusal n old a b l (done, p, rest, is, has, long, encoding) (more, q, tail, was, short, large, words) =
      encoding ∙ ap (λ z. old ++ field_encoding key val n z) (first_long done more p q rest tail (sym is ∙ was) has short long large) ∙ sym words

  one_encoding : (n : ℕ) (old a b : List ℕ) (l : List (K × V)) (r s : Result (Unit {0}) EncodeError) →
      WritesField key val n old a r l → WritesField key val n old b s l → NoneIsFull r s → (r ≡ s) × (a ≡ b)
  one_encoding n old a b l (Ok u) (Ok w) h k none = (refl, h.1 ∙ sym k.1)
  one_encoding n old a b l (Err OutOfMemory) s h k none = absurd (none.0 refl)
  one_encoding n old a b l r (Err OutOfMemory) h k none = absurd (none.1 refl)
  one_encoding n old a b l (Err (GroupRefused e)) s h k none = absurd h
  one_encoding n old a b l r (Err (GroupRefused e)) h k none = absurd k
  one_encoding n old a b l (Ok u) (Err MessageTooLarge) h k none = absurd (no_long l l k.0 k.1 k.2 h.0 (all_short l h.0) k.3 (λ z. z) k.5)
  one_encoding n old a b l (Err MessageTooLarge) (Ok u) h k none = absurd (no_long l l h.0 h.1 h.2 k.0 (all_short l k.0) h.3 (λ z. z) h.5)
  one_encoding n old a b l (Err MessageTooLarge) (Err MessageTooLarge) h k none = (refl, one_refusal n old a b l h k)

  pub field_is_pinned : {eq : K → K → Bool} → IsEquivalence eq → MapFieldIsPinned key val eq
  field_is_pinned laws = record {
    size = λ t m a b h k. ap saturated (one_size key val laws t m a b h k);
    written = λ n old a b l r s h k none. one_encoding n old a b l r s h k none;
  }

-- ---- messages

module _ {K M : Type 0} (key : Writing K) (encoding slots : M → List ℕ) where
  one_sized : (t : ℕ) (l : List (K × M)) (old a b : Cache) (r s : Result ℕ EncodeError) → IsSmallField key encoding l →
      IsFieldSized key encoding slots t l old r a → IsFieldSized key encoding slots t l old s b → NoneIsFull r s → (r ≡ s) × (a ≡ b)
  one_sized t l old a b (Ok n) (Ok m) small h k none = (ap (λ z. Ok z) (h.1 small ∙ sym (k.1 small)), h.2 ∙ sym k.2)
  one_sized t l old a b (Err e) s small h k none = absurd (none.0 (ap (λ z. Err z) h.0))
  one_sized t l old a b (Ok n) (Err e) small h k none = absurd (none.1 (ap (λ z. Err z) k.0))

  one_written : (n : ℕ) (l : List (K × M)) (old a b : Cache) (before x y : List ℕ) (r s : Result (Unit {0}) EncodeError) → IsSmallField key encoding l →
      IsFieldWritten key encoding slots n l old before r a x → IsFieldWritten key encoding slots n l old before s b y → NoneIsFull r s → (r ≡ s) × (a ≡ b) × (x ≡ y)
  one_written n l old a b before x y (Ok u) (Ok w) small h k none = (refl, h.2.0 ∙ sym k.2.0, h.1 ∙ ap (λ z. before ++ z) (h.2.1 small ∙ sym (k.2.1 small)) ∙ sym k.1)
  one_written n l old a b before x y (Err e) s small h k none = absurd (none.0 (ap (λ z. Err z) h.2.0))
  one_written n l old a b before x y (Ok u) (Err e) small h k none = absurd (none.1 (ap (λ z. Err z) k.2.0))

  pub messages_are_pinned : MessagesArePinned key encoding slots
  messages_are_pinned = record { sized = one_sized; written = one_written }

-- ---- rewrites

module _ {K V : Type 0} (r : Rules K V) (laws : IsEquivalence r.same)
    (key_free : r.key.nested ≡ false → (d : ℕ) (c : PayloadValue) → r.key.cost d c ≡ nothing) (val_free : r.val.nested ≡ false → (d : ℕ) (c : PayloadValue) → r.val.cost d c ≡ nothing)
    (key : Writing K) (val : Writing V) (KeyFits : K → Type 0) (ValFits : V → Type 0) (A B : List (K × V) → Type 0)
    (left : BudgetLeft) (bytes : List ℕ) (a b : List (K × V)) (over last : BudgetLeft) (x y old v w : List ℕ) (room : ℕ) where
  abbrev Rewritten : ℕ → Type 0
  Rewritten m = RewritesRun r key val KeyFits ValFits A left bytes a over x old v room m

  read_no_fault : (es : List (EntryRecord K V)) (f : DecodeError) → Run r.key r.val r.depth r.number bytes es → ArePaid r.key r.val r.depth r.cost (unknown_cost r) left es over → RefusesDecoding r left bytes b last y old w f → f ≢ decoding.OutOfMemory → ⊥
  read_no_fault es f run paid k ne =
      ok_no_err (sym (run_complete r.key r.val r.depth r.number r.cost (unknown_cost r) key_free val_free left bytes es over run paid)
      ∙ (run_faulty r.key r.val r.depth r.number r.cost (unknown_cost r) key_free val_free left bytes f (run_fault r (state [] [] left) bytes (state b k.0 last) y f k.1 ne)).1)

  same_runs : (es fs : List (EntryRecord K V)) → Run r.key r.val r.depth r.number bytes es → Run r.key r.val r.depth r.number bytes fs → es ≡ fs
  same_runs es fs h k = run_one r.key r.val r.depth r.number r.cost (unknown_cost r) key_free val_free bytes es fs h k

  once_more : (es fs : List (EntryRecord K V)) → es ≡ fs → (l : List (K × V)) → ListsOnce r.same (fold_entries r.same [] fs) l → ListsOnce r.same (fold_entries r.same [] es) l
  once_more es fs e l h = subst (λ z. ListsOnce r.same (fold_entries r.same [] z) l) (sym e) h

  one_rewrite : (m n : ℕ) (h : Rewritten m) (k : RewritesRun r key val KeyFits ValFits B left bytes b last y old w room n) →
      SamePairs r.same a b × (over ≡ last) × (x ≡ y) × (length v ≡ length w) × (h.rewrite.0 ≡ k.rewrite.0 → v ≡ w)
  one_rewrite m n h k =
      let e = same_runs h.read.entries k.read.entries h.read.run k.read.run in
      let t = length (tag_encoding r.number LengthDelimited) in
      let size = one_size key val laws t (fold_entries r.same [] h.read.entries) h.rewrite.0 k.rewrite.0 h.rewrite.1 (once_more h.read.entries k.read.entries e k.rewrite.0 k.rewrite.1) in
      let first = ap length (h.encoding ∙ ap (λ z. old ++ z) h.rewrite.4) in
      let second = ap length (k.encoding ∙ ap (λ z. old ++ z) k.rewrite.4) in
      let kept = ap (λ z. length (records_encoding (undeclared_records r.number z))) e in (
        λ q. sym (h.read.folded q) ∙ ap (λ z. lookup_entry (r.same q) (fold_entries r.same [] z)) e ∙ k.read.folded q,
        one_over r.key r.val r.depth r.number r.cost (unknown_cost r) key_free val_free left over last h.read.entries k.read.entries e h.read.paid k.read.paid,
        h.read.whole ∙ sym k.read.whole,
        omega (
          arith,
          first,
          second,
          kept,
          size,
          length-field_encoding key val r.number h.rewrite.0,
          length-field_encoding key val r.number k.rewrite.0,
          length-append old (field_encoding key val r.number h.rewrite.0 ++ records_encoding (undeclared_records r.number h.read.entries)),
          length-append old (field_encoding key val r.number k.rewrite.0 ++ records_encoding (undeclared_records r.number k.read.entries)),
          length-append (field_encoding key val r.number h.rewrite.0) (records_encoding (undeclared_records r.number h.read.entries)),
          length-append (field_encoding key val r.number k.rewrite.0) (records_encoding (undeclared_records r.number k.read.entries)),
        ),
        λ same. h.encoding ∙ ap (λ z. old ++ z) (h.rewrite.4 ∙ ap (λ z. field_encoding key val r.number z ++ records_encoding (undeclared_records r.number h.read.entries)) same
            ∙ ap (λ z. field_encoding key val r.number k.rewrite.0 ++ records_encoding (undeclared_records r.number z)) e ∙ sym k.rewrite.4) ∙ sym k.encoding,
      )

  written_no_refusal : (m : ℕ) (h : Rewritten m) (e : EncodeError) (k : RefusesEncoding r key val B left bytes b last y old w room e) → RefusesRewrite key val r.number (undeclared_records r.number k.read.entries) old w k.walk e → e ≢ OutOfMemory → ⊥
  written_no_refusal m h OutOfMemory k encoding ne = ne refl
  written_no_refusal m h (GroupRefused e) k encoding ne = encoding
  written_no_refusal m h MessageTooLarge k (done, p, rest, is, has, long, whole) ne =
      let e = same_runs h.read.entries k.read.entries h.read.run k.read.run in
      let turned = permuted laws (fold_entries r.same [] h.read.entries) h.rewrite.0 k.walk h.rewrite.1 (once_more h.read.entries k.read.entries e k.walk k.once) in
      no_long key val h.rewrite.0 k.walk done p rest h.rewrite.2 (all_short key val h.rewrite.0 h.rewrite.2) is (All-permutation (IsShort key val) h.rewrite.0 k.walk turned) long

  -- two refused encodings
  one_error : (d e : EncodeError) (kept more : List (ℕ × FieldData)) (l m : List (K × V)) → RefusesRewrite key val r.number kept old v l d → RefusesRewrite key val r.number more old w m e →
      d ≢ OutOfMemory → e ≢ OutOfMemory → (d ≡ e) × (l ≡ m → v ≡ w)
  one_error OutOfMemory e kept more l m h k ne nf = absurd (ne refl)
  one_error d OutOfMemory kept more l m h k ne nf = absurd (nf refl)
  one_error (GroupRefused x) e kept more l m h k ne nf = absurd h
  one_error d (GroupRefused x) kept more l m h k ne nf = absurd k
  one_error MessageTooLarge MessageTooLarge kept more l m h k ne nf =
      (refl, λ same. one_refusal key val r.number old v w m (subst (λ z. RefusesField key val r.number old v z MessageTooLarge) same h) k)

  two_encodings : (d e : EncodeError) (h : RefusesEncoding r key val A left bytes a over x old v room d) (k : RefusesEncoding r key val B left bytes b last y old w room e) →
      SamePairs r.same a b × (over ≡ last) × (x ≡ y) × (d ≢ OutOfMemory → e ≢ OutOfMemory → (d ≡ e) × (h.walk ≡ k.walk → v ≡ w))
  two_encodings d e h k =
      let same = same_runs h.read.entries k.read.entries h.read.run k.read.run in (
        λ q. sym (h.read.folded q) ∙ ap (λ z. lookup_entry (r.same q) (fold_entries r.same [] z)) same ∙ k.read.folded q,
        one_over r.key r.val r.depth r.number r.cost (unknown_cost r) key_free val_free left over last h.read.entries k.read.entries same h.read.paid k.read.paid,
        h.read.whole ∙ sym k.read.whole,
        one_error d e (undeclared_records r.number h.read.entries) (undeclared_records r.number k.read.entries) h.walk k.walk h.encoding k.encoding,
      )

  pub rewrite_is_pinned : RewriteIsPinned r key val KeyFits ValFits A B left bytes a b over last x y old v w room
  rewrite_is_pinned = record {
    rewritten = one_rewrite;
    read = λ m f h k ne. read_no_fault h.read.entries f h.read.run h.read.paid k ne;
    written = λ m e h k ne. written_no_refusal m h e k k.encoding ne;
    either = λ f e h k ne.
        ok_no_err (sym (run_complete r.key r.val r.depth r.number r.cost (unknown_cost r) key_free val_free left bytes k.read.entries last k.read.run k.read.paid)
        ∙ (run_faulty r.key r.val r.depth r.number r.cost (unknown_cost r) key_free val_free left bytes f (run_fault r (state [] [] left) bytes (state a h.0 over) x f h.1 ne)).1);
    faults = λ plain f g h k ne nf.
        let same = (run_is_pinned r key_free val_free).faults plain (state [] [] left) bytes (state a h.0 over) (state b k.0 last) x y f g h.1 k.1 ne nf in
        let stops = (run_is_pinned r key_free val_free).stops (state [] [] left) bytes (state a h.0 over) (state b k.0 last) x y f g h.1 k.1 ne nf in
        (same.0, same.1.pairs, same.1.left, stops.4, h.2 ∙ sym k.2);
    encodings = two_encodings;
  }

-- ---- puts

module _ {K V : Type 0} {eq : K → K → Bool} (laws : IsEquivalence eq) where
  put_found : (m a : List (K × V)) (k : K) (v : V) → SamePairs eq (put eq m k v) a → lookup_entry (eq k) a ≡ Some (key_or k (lookup_entry (eq k) m), v)
  put_found m a k v h = sym (h k) ∙ lookup_entry-put laws m k v k ∙ ap (λ z. cond z (Some (key_or k (lookup_entry (eq k) m), v)) (lookup_entry (eq k) m)) (laws.refl k)

  pub put_is_pinned : (keeps : Bool) → PutIsPinned V eq keeps
  put_is_pinned keeps = record {
    same = λ m a b k v h i q. sym (h q) ∙ i q;
    order = λ m a b k v h i is. i is ∙ sym (h is);
    there = λ m a k v e h is. put_found m a k v h ∙ ap (λ z. Some (key_or k z, v)) is;
    new = λ m a k v h is. put_found m a k v h ∙ ap (λ z. Some (key_or k z, v)) is;
    others = λ m a k q v h no. sym (h q) ∙ lookup_entry-put laws m k v q ∙ ap (λ z. cond z (Some (key_or k (lookup_entry (eq k) m), v)) (lookup_entry (eq q) m)) no;
  }
