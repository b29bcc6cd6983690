-- Lists of values, one more at a time.
use Rattle.std.proofs.Common.{◌≡◌, ℕ, ◌+◌, ◌<◌, List, [], ◌∷◌, ◌++◌, Option, Some, None, refl, sym, ◌∙◌, ap, map, take, drop, length, get_or, arith, subst, ◌⊎◌, inl, inr}
use Rattle.std.specs.List.{AllByRecursion}
use Rattle.buffa_bytes.specs.declared.error.EncodeError.{EncodeError}
use Rattle.buffa_bytes.specs.declared.error.EncodeError.TheVariants.{OutOfMemory}
use Rattle.buffa_codec.specs.Decoded.{first_refusal, packed_record}
use Rattle.buffa_codec.specs.RecordsOfNumber.{tagged}
use Rattle.buffa_bytes.proofs.ListLemmas.{AllByRecursion-last, AllByRecursion-middle, means_cut, means_more}

-- what holds of each value, and of one more; and of one of them
pub AllByRecursion-more : {V M : Type 0} (P : M → Type 0) (meaning : V → M) (xs : List V) (i : ℕ) (x : V) → i < length xs → x ≡ get_or xs i x
    → AllByRecursion P (map meaning (take i xs)) → P (meaning x) → AllByRecursion P (map meaning (take (i + 1) xs))
AllByRecursion-more P meaning xs i x lt e h k = subst (AllByRecursion P) (sym (means_more meaning xs i x lt e)) (AllByRecursion-last P (map meaning (take i xs)) (meaning x) h k)

pub AllByRecursion-at : {V M : Type 0} (P : M → Type 0) (meaning : V → M) (xs : List V) (i : ℕ) (x : V) → i < length xs → x ≡ get_or xs i x → AllByRecursion P (map meaning xs) → P (meaning x)
AllByRecursion-at P meaning xs i x lt e h = AllByRecursion-middle P (map meaning (take i xs)) (meaning x) (map meaning (drop (i + 1) xs)) (subst (AllByRecursion P) (means_cut meaning xs i x lt e) h)

-- a list that has a value isn't empty
pub some_there : {A : Type 0} (xs ys : List A) (y : A) → xs ++ y ∷ ys ≡ [] → ⊥
some_there [] ys y e = cc
some_there (x ∷ xs) ys y e = cc

-- no refusal before, and then that of the next, or of what follows
abbrev refused_by : {M : Type 0} → (M → Option EncodeError) → List M → Option EncodeError → Option EncodeError
refused_by refusal ms (Some e) = Some e
refused_by refusal ms None = first_refusal refusal ms

passed_over : {M : Type 0} (refusal : M → Option EncodeError) (ms ks : List M) (o : Option EncodeError)
    → (first_refusal refusal ms ≡ None → first_refusal refusal (ms ++ ks) ≡ first_refusal refusal ks)
    → refused_by refusal ms o ≡ None → refused_by refusal (ms ++ ks) o ≡ first_refusal refusal ks
passed_over refusal ms ks (Some e) again h = cc
passed_over refusal ms ks None again h = again h

pub first_refusal-append : {M : Type 0} (refusal : M → Option EncodeError) (ms ks : List M) → first_refusal refusal ms ≡ None → first_refusal refusal (ms ++ ks) ≡ first_refusal refusal ks
first_refusal-append refusal [] ks h = refl
first_refusal-append refusal (m ∷ ms) ks h = passed_over refusal ms ks (refusal m) (first_refusal-append refusal ms ks) h

pub first_refusal-one : {M : Type 0} (refusal : M → Option EncodeError) (m : M) (ks : List M) (e : EncodeError) → refusal m ≡ Some e → first_refusal refusal (m ∷ ks) ≡ Some e
first_refusal-one refusal m ks e h = ap (refused_by refusal ks) h

pub first_refusal-pass : {M : Type 0} (refusal : M → Option EncodeError) (m : M) (ks : List M) → refusal m ≡ None → first_refusal refusal (m ∷ ks) ≡ first_refusal refusal ks
first_refusal-pass refusal m ks h = ap (refused_by refusal ks) h

-- a packed list that has a value has a record
pub packed_some : {V M : Type 0} (encoding : M → List ℕ) (meaning : V → M) (n : ℕ) (vs : List V) → 0 < length vs → 0 < length (tagged n (packed_record encoding (map meaning vs)))
packed_some encoding meaning n [] some = some
packed_some encoding meaning n (v ∷ vs) some = omega arith

-- a refusal after values that are not refused is that of the whole list
pub refused_whole : {M : Type 0} (refusal : M → Option EncodeError) (ms : List M) (m : M) (ks all : List M) (e : EncodeError)
    → all ≡ ms ++ m ∷ ks → first_refusal refusal ms ≡ None → (e ≡ OutOfMemory) ⊎ (refusal m ≡ Some e) → (e ≡ OutOfMemory) ⊎ (first_refusal refusal all ≡ Some e)
refused_whole refusal ms m ks all e cut none (inl a) = inl a
refused_whole refusal ms m ks all e cut none (inr b) = inr (ap (first_refusal refusal) cut ∙ first_refusal-append refusal ms (m ∷ ks) none ∙ first_refusal-one refusal m ks e b)
