-- What an option is read as, or its default.
use Rattle.std.proofs.Common.{◌≡◌, ◌⊎◌, inl, inr, ℕ, List, [], ◌∷◌, ◌++◌, Option, Some, None, Result, Ok, Err, unwrap_or, refl, sym, subst, Global}
use Rattle.std.specs.List.{cons_option, filter_map, last_or}
use Rattle.std.specs.Result.{IfErr, IsOk, OnErr}
use Rattle.std.specs.declared.alloc.AllocError.{AllocError}
use Rattle.buffa_wire.specs.Records.{FieldData}
use Rattle.buffa_codec.specs.Decoded.{HasByte, HasLast, last_read}
use Rattle.buffa_bytes.specs.declared.error.DecodeError.{DecodeError}
use Rattle.buffa_codec.specs.Strict.{IsFaultOrFull}
use Rattle.buffa_ext.specs.Defaults.{IsDefaulted}
use Rattle.std.proofs.lemmas.Option.{none-some, same_Some}

some_read : {V : Type 0} (r : Option V) (v d : V) → Some v ≡ r → v ≡ unwrap_or r d
some_read r v d e = rw (sym e) refl

none_read : {V : Type 0} (r : Option V) (v d : V) → None ≡ r → v ≡ d → v ≡ unwrap_or r d
none_read r v d e h = rw (sym e) h

-- the value that is read, or else the one that is declared
pub default_of : {V : Type 0} {reads declared : Option V → Type 0} {blank : Type 0} {v : V} (r : Option V) (d : V)
    → IsDefaulted reads declared blank v
    → ((o : Option V) → reads o → o ≡ r) → ((o : Option V) → declared o → o ≡ Some d)
    → v ≡ unwrap_or r d
default_of {v = v} r d (inl h) is says = some_read r v d (is (Some v) h)
default_of {v = v} r d (inr (h, inl k)) is says = none_read r v d (is None h) (same_Some v d (says (Some v) k))
default_of {v = v} r d (inr (h, inr k)) is says = absurd (none-some d (says None k.0))

made : {V : Type 0} {Q : Global → V → Type 0} (d : V) → ((a : Global) (w : V) → Q a w → w ≡ d) → (o : Option V)
    → ((a : Global) × (w : V) × Q a w × (o ≡ Some w)) → o ≡ Some d
made d says o (a, w, q, e) = rw (sym (says a w q)) e

-- the same of a default that a function makes
pub made_or : {V : Type 0} {reads : Option V → Type 0} {Q : Global → V → Type 0} {blank : Type 0} {v : V} (r : Option V) (d : V)
    → IsDefaulted reads (λ o. (a : Global) × (w : V) × Q a w × (o ≡ Some w)) blank v
    → ((o : Option V) → reads o → o ≡ r) → ((a : Global) (w : V) → Q a w → w ≡ d)
    → v ≡ unwrap_or r d
made_or r d h is says = default_of r d h is (made d says)

-- no record's reading takes memory, and making the default is never refused
pub never_refused : {V E M : Type 0} {Q : Global → AllocError → Type 0} (reads : Type 0) (one : FieldData → Option M) (r : Result V E) (ds : List FieldData)
    → OnErr r (HasLast (λ d. ⊥) one ds ⊎ (reads × ((a : Global) × (e : AllocError) × Q a e))) → ((a : Global) (e : AllocError) → Q a e → ⊥)
    → IsOk r
never_refused reads one (Ok v) ds h made_it = refl
never_refused reads one (Err e) ds (inl h) made_it = absurd h.3
never_refused reads one (Err e) ds (inr h) made_it = absurd (made_it h.1.0 h.1.1 h.1.2)

-- ---- a record whose text has a byte, and behind which none is read, is the one that counts

byte_there : (o found : Option (List ℕ)) (xs : List (List ℕ)) → xs ≡ [] → HasByte found → HasByte (last_or o (cons_option found xs))
byte_there o None xs e h = absurd h
byte_there o (Some b) xs e h = subst (λ l. HasByte (last_or (Some b) l)) (sym e) h

byte_behind : (o found : Option (List ℕ)) (xs : List (List ℕ)) → ((p : Option (List ℕ)) → HasByte (last_or p xs)) → HasByte (last_or o (cons_option found xs))
byte_behind o None xs h = h o
byte_behind o (Some v) xs h = h (Some v)

byte_of : (one : FieldData → Option (List ℕ)) (front : List FieldData) (d : FieldData) (back : List FieldData) (o : Option (List ℕ)) → filter_map one back ≡ []
    → HasByte (one d) → HasByte (last_or o (filter_map one (front ++ d ∷ back)))
byte_of one [] d back o none h = byte_there o (one d) (filter_map one back) none h
byte_of one (x ∷ front) d back o none h = byte_behind o (one x) (filter_map one (front ++ d ∷ back)) (λ p. byte_of one front d back p none h)

pub last_has_byte : (one : FieldData → Option (List ℕ)) (ds : List FieldData) → HasLast (λ d. HasByte (one d)) one ds → HasByte (last_read one ds)
last_has_byte one ds (front, d, back, h, none, e) = subst (λ l. HasByte (last_read one l)) (sym e) (byte_of one front d back None none h)

-- a fault is told where no memory is asked for
pub only_fault : {T : Type 0} (r : Result T DecodeError) (F G : DecodeError → Type 0) (asks : Type 0) → (asks → ⊥) → ((e : DecodeError) → F e → G e) → IfErr r (IsFaultOrFull F asks) → IfErr r G
only_fault (Ok x) F G asks never to h = tt
only_fault (Err e) F G asks never to (inl h) = to e h
only_fault (Err e) F G asks never to (inr h) = absurd (never h.1)
