-- What the contracts of sizes, encodings, rewrites and storages leave open: nothing, but for what is said here.
use Rattle.std.specs.Prelude.{◌≡◌, ◌≢◌, ℕ, Bool, false, true, List, Some, None, Result, Err, length}
use Rattle.std.specs.Map.{lookup_entry}
use Rattle.buffa_bytes.specs.declared.error.DecodeError.{DecodeError}
use Rattle.buffa_bytes.specs.declared.error.DecodeError.TheVariants as decoding
use Rattle.buffa_bytes.specs.declared.error.EncodeError.{EncodeError}
use Rattle.buffa_bytes.specs.declared.error.EncodeError.TheVariants.{OutOfMemory}
use Rattle.buffa_wire.specs.BudgetLeft.{BudgetLeft}
use Rattle.buffa_wire.specs.Cache.{Cache}
use Rattle.buffa_map.specs.Codec.{Reading, Writing}
use Rattle.buffa_map_laws.specs.Laws.{ArePlain}
use Rattle.buffa_map.specs.MessageField.{IsFieldSized, IsFieldWritten, IsSmallField}
use Rattle.buffa_map.specs.Merge.{Rules}
use Rattle.buffa_map.specs.Pairs.{InOrder, ListsOnce, SamePairs, put}
use Rattle.buffa_map.specs.Rewrite.{RefusesDecoding, RefusesEncoding, RewritesRun}
use Rattle.buffa_map.specs.Encoding.{WritesField, field_size, saturated}

-- two results, of which none is out of memory
abbrev pub NoneIsFull : {T : Type 0} → Result T EncodeError → Result T EncodeError → Type 0
NoneIsFull r s = (r ≢ Err OutOfMemory) × (s ≢ Err OutOfMemory)

module _ {K V : Type 0} (key : Writing K) (val : Writing V) (eq : K → K → Bool) where
  -- A map has one size, however it is walked. One walk is written in one way only, or refused at one entry, memory aside.
  pub record MapFieldIsPinned : Type 0 where
    pub size : (t : ℕ) (m a b : List (K × V)) → ListsOnce eq m a → ListsOnce eq m b → saturated (field_size key val t a) ≡ saturated (field_size key val t b)
    pub written : (n : ℕ) (old a b : List ℕ) (l : List (K × V)) (r s : Result (Unit {0}) EncodeError) →
        WritesField key val n old a r l → WritesField key val n old b s l → NoneIsFull r s → (r ≡ s) × (a ≡ b)

-- A map of small messages has one size and one encoding, and leaves one cache, memory aside.
pub record MessagesArePinned {K M : Type 0} (key : Writing K) (encoding slots : M → List ℕ) : Type 0 where
  pub sized : (t : ℕ) (l : List (K × M)) (old a b : Cache) (r s : Result ℕ EncodeError) → IsSmallField key encoding l →
      IsFieldSized key encoding slots t l old r a → IsFieldSized key encoding slots t l old s b → NoneIsFull r s → (r ≡ s) × (a ≡ b)
  pub written : (n : ℕ) (l : List (K × M)) (old a b : Cache) (before x y : List ℕ) (r s : Result (Unit {0}) EncodeError) → IsSmallField key encoding l →
      IsFieldWritten key encoding slots n l old before r a x → IsFieldWritten key encoding slots n l old before s b y → NoneIsFull r s → (r ≡ s) × (a ≡ b) × (x ≡ y)

-- A run is rewritten in one way only, where one walk is written, and what is rewritten can't have been refused, memory
-- aside; nor can the bytes, where the encoding was. Two faults of the bytes are one, and find the same pairs. So do two
-- refused encodings; memory aside they have one error, and of one walk the same of the encoding was written.
module _ {K V : Type 0} (r : Rules K V) (key : Writing K) (val : Writing V) (KeyFits : K → Type 0) (ValFits : V → Type 0) (A B : List (K × V) → Type 0)
    (left : BudgetLeft) (bytes : List ℕ) (a b : List (K × V)) (over last : BudgetLeft) (x y old v w : List ℕ) (room : ℕ) where
  pub record RewriteIsPinned : Type 0 where
    pub rewritten : (m n : ℕ) (h : RewritesRun r key val KeyFits ValFits A left bytes a over x old v room m) (k : RewritesRun r key val KeyFits ValFits B left bytes b last y old w room n) →
        SamePairs r.same a b × (over ≡ last) × (x ≡ y) × (length v ≡ length w) × (h.rewrite.0 ≡ k.rewrite.0 → v ≡ w)
    pub read : (m : ℕ) (f : DecodeError) → RewritesRun r key val KeyFits ValFits A left bytes a over x old v room m → RefusesDecoding r left bytes b last y old w f → f ≢ decoding.OutOfMemory → ⊥
    pub written : (m : ℕ) (e : EncodeError) → RewritesRun r key val KeyFits ValFits A left bytes a over x old v room m → RefusesEncoding r key val B left bytes b last y old w room e → e ≢ OutOfMemory → ⊥
    pub either : (f : DecodeError) (e : EncodeError) → RefusesDecoding r left bytes a over x old v f → RefusesEncoding r key val B left bytes b last y old w room e → f ≢ decoding.OutOfMemory → ⊥
    pub faults : ArePlain r.key r.val → (f g : DecodeError) → RefusesDecoding r left bytes a over x old v f → RefusesDecoding r left bytes b last y old w g → f ≢ decoding.OutOfMemory → g ≢ decoding.OutOfMemory →
        (f ≡ g) × SamePairs r.same a b × (over ≡ last) × (x ≡ y) × (v ≡ w)
    pub encodings : (d e : EncodeError) (h : RefusesEncoding r key val A left bytes a over x old v room d) (k : RefusesEncoding r key val B left bytes b last y old w room e) →
        SamePairs r.same a b × (over ≡ last) × (x ≡ y) × (d ≢ OutOfMemory → e ≢ OutOfMemory → (d ≡ e) × (h.walk ≡ k.walk → v ≡ w))

-- the same by these codecs and a storage that is walked so, whatever the rules beside them
module _ {K V M : Type 0} (key : Reading K) (val : Reading V) (eq : K → K → Bool) (keeps : Bool) (Walks : M → List (K × V) → Type 0)
    (kw : Writing K) (vw : Writing V) (KeyFits : K → Type 0) (ValFits : V → Type 0) where
  abbrev pub RewritesArePinned : Type 0
  RewritesArePinned =
      (d n cost : ℕ) (one other : M) (left : BudgetLeft) (bytes : List ℕ) (a b : List (K × V)) (over last : BudgetLeft) (x y old v w : List ℕ) (room : ℕ) →
      RewriteIsPinned (record { key = key; val = val; same = eq; keeps_order = keeps; depth = d; number = n; cost = cost; keeps_undeclared = true })
      kw vw KeyFits ValFits (Walks one) (Walks other) left bytes a b over last x y old v w room

-- A storage puts in one way only: a key that is there stays as it is stored, and finds the value; a new key is stored as
-- it is; other keys find what they found. Where the order is kept, two maps after one put are one list.
module _ {K : Type 0} (V : Type 0) (eq : K → K → Bool) (keeps : Bool) where
  pub record PutIsPinned : Type 0 where
    pub same : (m a b : List (K × V)) (k : K) (v : V) → SamePairs eq (put eq m k v) a → SamePairs eq (put eq m k v) b → SamePairs eq a b
    pub order : (m a b : List (K × V)) (k : K) (v : V) → InOrder keeps (put eq m k v) a → InOrder keeps (put eq m k v) b → InOrder keeps a b
    pub there : (m a : List (K × V)) (k : K) (v : V) (e : K × V) → SamePairs eq (put eq m k v) a → lookup_entry (eq k) m ≡ Some e → lookup_entry (eq k) a ≡ Some (e.0, v)
    pub new : (m a : List (K × V)) (k : K) (v : V) → SamePairs eq (put eq m k v) a → lookup_entry (eq k) m ≡ None → lookup_entry (eq k) a ≡ Some (k, v)
    pub others : (m a : List (K × V)) (k q : K) (v : V) → SamePairs eq (put eq m k v) a → eq q k ≡ false → lookup_entry (eq q) a ≡ lookup_entry (eq q) m
