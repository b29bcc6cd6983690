-- What a contract leaves open: nothing, but for what is said here.
use Rattle.std.specs.Prelude.{◌≡◌, ◌≢◌, ◌↔◌, ℕ, ◌+◌, ◌<◌, ◌≤◌, Bool, true, List, [], ◌∷◌, length, take, drop, Result, Ok, Err, IsOk, OnErr, ◌⊎◌}
use denote.Param.Members.{Mut}
use denote.Ref.{Bor, MutBor}
use Rattle.std.specs.Fn.{CalledAt}
use Rattle.buffa_bytes.specs.Delimited.{Lends}
use Rattle.buffa_bytes.specs.Readings.{FullOnlyIf, Gives, GivesUnlessFull}
use Rattle.buffa_bytes.specs.Unread.{LeavesUnlessFull, IsChunkOf, IsFrontOf, MovesUnlessFull}
use Rattle.buffa_bytes.specs.Written.{UsesRoom, Writes}
use Rattle.buffa_bytes.specs.declared.error.DecodeError.{DecodeError}
use Rattle.buffa_bytes.specs.declared.error.DecodeError.TheVariants.{OutOfMemory}
use Rattle.buffa_bytes.specs.declared.error.EncodeError.{EncodeError}
use Rattle.buffa_bytes.specs.declared.error.EncodeError.TheVariants as encode

-- Two answers to one reading are one, bytes that are read are not refused, and refused bytes have one fault and leave one rest.
pub record AnswerIsPinned (X Y : Type 0) : Type 0 where
  pub one : (f g : X → Y) (x y : X) (read : Result Y DecodeError) → Gives f (Ok x) read → Gives g (Ok y) read → f x ≡ g y
  pub taken : (f g : X → Y) (x : X) (e : DecodeError) (read : Result Y DecodeError) → Gives f (Ok x) read → Gives g (Err e) read → ⊥
  pub fault : (f g : X → Y) (d e : DecodeError) (read : Result Y DecodeError) → Gives f (Err d) read → Gives g (Err e) read → d ≡ e
  pub left : (d e : DecodeError) (rest a b : List ℕ) → OnErr {T = X} (Err d) (a ≡ rest) → OnErr {T = Y} (Err e) (b ≡ rest) → a ≡ b

-- The same, memory aside; out of memory is not returned where the whole that is asked for isn't there, and what is never refused, as
-- no bytes are not, is what is read.
pub record AnswerIsPinnedUnlessFull (X Y Z : Type 0) : Type 0 where
  pub one : (f g : X → Y) (x y : X) (read : Result Y DecodeError) → GivesUnlessFull f (Ok x) read → GivesUnlessFull g (Ok y) read → f x ≡ g y
  pub taken : (f g : X → Y) (x : X) (e : DecodeError) (read : Result Y DecodeError) → e ≢ OutOfMemory → GivesUnlessFull f (Ok x) read → GivesUnlessFull g (Err e) read → ⊥
  pub fault : (f g : X → Y) (d e : DecodeError) (read : Result Y DecodeError) → d ≢ OutOfMemory → e ≢ OutOfMemory → GivesUnlessFull f (Err d) read → GivesUnlessFull g (Err e) read → d ≡ e
  pub full : (f : X → Y) (d e : DecodeError) (read : Result Y DecodeError) (whole : Result Z DecodeError) → whole ≡ Err e → FullOnlyIf {X = X} (Err d) (IsOk whole) → GivesUnlessFull f (Err d) read → read ≡ Err d
  pub sure : (f : X → Y) (r : Result X DecodeError) (read : Result Y DecodeError) → IsOk r → GivesUnlessFull f r read → Gives f r read
  pub left : (e : DecodeError) (rest a b : List ℕ) → e ≢ OutOfMemory → LeavesUnlessFull {X = X} (Err e) rest a → LeavesUnlessFull {X = X} (Err e) rest b → a ≡ b

-- Bytes that are there are given to f, once, and what follows them is left, unless memory ran out, as it never does of no
-- bytes; f is as it was where it was given none; and where no bytes are there their fault is returned.
pub record LentIsPinned {F T : Type 0} (g : Mut F (Bor (List ℕ) × Unit {0}) (Result T DecodeError)) : Type 0 where
  pub given : (f h : F) (r : Result T DecodeError) (p rest left : List ℕ) → r ≢ Err OutOfMemory → Lends g f (Ok (p, rest)) r h left → CalledAt g f p r h × (left ≡ rest)
  pub none : (f h : F) (r : Result T DecodeError) (rest left : List ℕ) → Lends g f (Ok ([], rest)) r h left → CalledAt g f [] r h × (left ≡ rest)
  pub full : (f h : F) (r : Result T DecodeError) (p rest left : List ℕ) → Lends g f (Ok (p, rest)) r h left → CalledAt g f p r h ⊎ (h ≡ f)
  pub fault : (f h : F) (r : Result T DecodeError) (e : DecodeError) (left : List ℕ) → Lends g f (Err e) r h left → (r ≡ Err e) × (h ≡ f)

-- Of an encoding that is written one encoding stands in the sink; an encoding that fits is not refused; of a refused
-- one not all stands, and of two refused writes the one begins the other.
pub record WriteIsPinned (T : Type 0) : Type 0 where
  pub one : (x y : T) (old encoding a b : List ℕ) → Writes (Ok x) old encoding a → Writes (Ok y) old encoding b → a ≡ b
  pub fits : (e : EncodeError) (room left : ℕ) (encoding : List ℕ) → length encoding ≤ room → UsesRoom {T = T} (Err e) room encoding left → ⊥
  pub error : (e : EncodeError) (old encoding new : List ℕ) → Writes {T = T} (Err e) old encoding new → e ≡ encode.OutOfMemory
  pub short : (e : EncodeError) (old encoding new : List ℕ) → Writes {T = T} (Err e) old encoding new → length new < length old + length encoding
  pub fronts : (d e : EncodeError) (old encoding a b : List ℕ) → length a ≤ length b → Writes {T = T} (Err d) old encoding a → Writes {T = T} (Err e) old encoding b → a ≡ take (length a) b

-- Of two chunks of the same bytes the one begins the other, and none is empty while bytes are left; fronts of one length are one.
pub record ChunkIsPinned : Type 0 where
  pub one : (p q all : List ℕ) → length p ≤ length q → IsChunkOf p all → IsChunkOf q all → p ≡ take (length p) q
  pub some : (all : List ℕ) → IsChunkOf [] all → all ≡ []
  pub fronts : (n : ℕ) (p q all : List ℕ) → IsFrontOf p n all → IsFrontOf q n all → p ≡ q
  pub moved : (n : ℕ) (old a b held x y : List ℕ) → MovesUnlessFull (Ok tt) n old a held x → MovesUnlessFull (Ok tt) n old b held y → (a ≡ b) × (x ≡ y)

-- ---- types of our own

-- a value means what of makes of it, and the default means zero
pub record Means {A M : Type 0} (of : A → M) (zero : M) (meaning : A → M) (blank : M) : Type 0 where
  pub value : (v : A) → meaning v ≡ of v
  pub default : blank ≡ zero

-- two values are one key only where they are one
abbrev pub SameIsOne : {M : Type 0} → (M → M → Bool) → Type 0
SameIsOne {M} same = (a b : M) → (same a b ≡ true) ↔ (a ≡ b)

-- a copy of a value is the value, and making it doesn't fail
pub record IsCopied {A : Type 0} (is_clone : A → A → Type 0) (is_infallible : A → Type 0) : Type 0 where
  pub same : (a b : A) → is_clone a b → a ≡ b
  pub made : (a : A) → is_infallible a

-- a text is its bytes, and any bytes are the text of themselves
abbrev pub IsItsBytes : (List ℕ → List ℕ) → (List ℕ → List ℕ) → Type 0
IsItsBytes bytes of = (b : List ℕ) → (bytes b ≡ b) × (of b ≡ b)

-- a buffer shows these bytes, and none past them
pub record ShowsBytes {A : Type 0} (bytes unread : A → List ℕ) (beyond : A → List (ℕ × List ℕ)) : Type 0 where
  pub shown : (s : A) → unread s ≡ bytes s
  pub past : (s : A) → beyond s ≡ []

-- a lent buffer shows its first bytes, and past them what stays
pub record ShowsFront {A B : Type 0} (unread : A → List ℕ) (beyond : A → List (ℕ × List ℕ)) (inner : A → MutBor B) (limit : A → ℕ) (inner_unread : B → List ℕ) (inner_beyond : B → List (ℕ × List ℕ)) : Type 0 where
  pub shown : (s : A) → unread s ≡ take (limit s) (inner_unread (inner s).now)
  pub past : (s : A) → beyond s ≡ ((inner s).ghost_name, drop (limit s) (inner_unread (inner s).now)) ∷ inner_beyond (inner s).now
