-- Values written one after another: the encoding of a list, value by value.
use Rattle.std.proofs.Common.{◌≡◌, ℕ, ◌+◌, ◌<◌, ◌≤◌, List, [], ◌∷◌, ◌++◌, length, map, take, drop, get_or, refl, sym, ap, subst, ◌∙◌, arith, append_assoc, append-nil, length-append}
use Rattle.buffa_bytes.proofs.ListLemmas.{means_cut, means_more}
use Rattle.buffa_bytes.proofs.SinkLemmas.{front_first, front_second}
use Rattle.buffa_bytes.specs.Written.{WritesFront}
use Rattle.buffa_wire.specs.Encoding.{encodings}

-- an encoding of lists that joins those of the values
pub record ByValue (V : Type 0) : Type 0 where
  pub list : List V → List ℕ
  pub value : V → List ℕ
  pub none : list [] ≡ []
  pub next : (v : V) (vs : List V) → list (v ∷ vs) ≡ value v ++ list vs

abbrev pub encodings_by_value : {V : Type 0} → (V → List ℕ) → ByValue V
encodings_by_value encoding = record { list = encodings encoding; value = encoding; none = refl; next = λ v vs. refl }

module _ {V : Type 0} (encoding : ByValue V) where
  pub both : (us vs : List V) → encoding.list (us ++ vs) ≡ encoding.list us ++ encoding.list vs
  both [] vs = ap (λ z. z ++ encoding.list vs) (sym encoding.none)
  both (u ∷ us) vs =
      encoding.next u (us ++ vs) ∙ ap (λ z. encoding.value u ++ z) (both us vs) ∙ sym (append_assoc (encoding.value u) (encoding.list us) (encoding.list vs))
      ∙ ap (λ z. z ++ encoding.list vs) (sym (encoding.next u us))

  -- ---- done, and then v
  module _ (done : List V) (v : V) where
    abbrev before : List ℕ
    before = encoding.list done

    abbrev here : List ℕ
    here = encoding.value v

    pub last : encoding.list (done ++ v ∷ []) ≡ before ++ here
    last = both done (v ∷ []) ∙ ap (λ z. before ++ z) (encoding.next v [] ∙ ap (λ z. here ++ z) encoding.none ∙ append-nil here)

    pub length_last : length (encoding.list (done ++ v ∷ [])) ≡ length before + length here
    length_last = ap length last ∙ length-append before here

    pub write_last : (old mid new : List ℕ) → mid ≡ old ++ before → new ≡ mid ++ here → new ≡ old ++ encoding.list (done ++ v ∷ [])
    write_last old mid new m e = e ∙ ap (λ z. z ++ here) m ∙ append_assoc old before here ∙ ap (λ z. old ++ z) (sym last)

    -- ---- of all, of which rest is left
    module _ (rest all : List V) (is : all ≡ done ++ v ∷ rest) where
      abbrev after : List ℕ
      after = encoding.list rest

      pub cut : encoding.list all ≡ before ++ (here ++ after)
      cut = ap encoding.list is ∙ both done (v ∷ rest) ∙ ap (λ z. before ++ z) (encoding.next v rest)

      pub length_cut : length before + length here ≤ length (encoding.list all)
      length_cut = omega (arith, ap length cut, length-append before (here ++ after), length-append here after)

      -- v was refused
      pub write_cut : (old mid new : List ℕ) → mid ≡ old ++ before → WritesFront mid here new → WritesFront old (encoding.list all) new
      write_cut old mid new m front = subst (λ z. WritesFront old z new) (sym cut) (front_second old before (here ++ after) mid new m (front_first mid here after new front))

  -- ---- of the values that these mean, the one at i is next
  module _ {P : Type 0} (meaning : P → V) (xs : List P) (i : ℕ) (x : P) (lt : i < length xs) (is : x ≡ get_or xs i x) where
    abbrev first : ℕ → List V
    first k = map meaning (take k xs)

    abbrev later : List V
    later = map meaning (drop (i + 1) xs)

    abbrev all_of : List V
    all_of = map meaning xs

    more : first (i + 1) ≡ first i ++ meaning x ∷ []
    more = means_more meaning xs i x lt is

    whole : all_of ≡ first i ++ meaning x ∷ later
    whole = means_cut meaning xs i x lt is

    pub one_more : encoding.list (first (i + 1)) ≡ encoding.list (first i) ++ encoding.value (meaning x)
    one_more = ap encoding.list more ∙ last (first i) (meaning x)

    pub parts : encoding.list all_of ≡ encoding.list (first i) ++ (encoding.value (meaning x) ++ encoding.list later)
    parts = cut (first i) (meaning x) later all_of whole

    pub length_more : length (encoding.list (first (i + 1))) ≡ length (encoding.list (first i)) + length (encoding.value (meaning x))
    length_more = ap (λ z. length (encoding.list z)) more ∙ length_last (first i) (meaning x)

    pub length_parts : length (encoding.list (first i)) + length (encoding.value (meaning x)) ≤ length (encoding.list all_of)
    length_parts = length_cut (first i) (meaning x) later all_of whole

    pub write_more : (old mid new : List ℕ) → mid ≡ old ++ encoding.list (first i) → new ≡ mid ++ encoding.value (meaning x) → new ≡ old ++ encoding.list (first (i + 1))
    write_more old mid new m e = write_last (first i) (meaning x) old mid new m e ∙ ap (λ z. old ++ encoding.list z) (sym more)

    -- it was refused, after those before it
    pub write_stops : (old mid new : List ℕ) → mid ≡ old ++ encoding.list (first i) → WritesFront mid (encoding.value (meaning x)) new → WritesFront old (encoding.list all_of) new
    write_stops old mid new m front = write_cut (first i) (meaning x) later all_of whole old mid new m front
