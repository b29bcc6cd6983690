-- Which words are a command.
use Rattle.std.proofs.Common.{rules, ◌≡◌, ◌≤◌, ◌⊎◌, inl, inr, ℕ, List, [], ◌∷◌, Bool, true, false, if◌then◌else◌, Option, Some, None, codes, ap, refl, subst}
use Rattle.std.specs.Bool.{Decides}
use Rattle.std.specs.Str.{bytes_eq}
use Rattle.std.proofs.lemmas.Slice.Eq.{bytes_eq-Decides}
use Rattle.buffamap.specs.declared.command.Command.{Command}
use Rattle.buffamap.specs.declared.command.Command.TheVariants.{AgainNode, AgainSet, Ext, Item, Read, Rewrite, Write}
use Rattle.buffamap.specs.Command.{IsNamed, SpellsNumber, again, alone, command_of, in_range, named, numbered}
use Rattle.buffamap.specs.Forms.{decimal}

-- what a test gives, it gives where the test holds
tested : {A P : Type 0} (b : Bool) (x c : A) (other : Option A) → Decides b P → (if b then Some x else other) ≡ Some c → (P × (x ≡ c)) ⊎ (other ≡ Some c)
tested true x c other d h = inl (d.0 refl, cc)
tested false x c other d h = inr h

ranged : (o : Option ℕ) (n : ℕ) → in_range o ≡ Some n → (o ≡ Some n) × (1 ≤ n) × (n ≤ 536870911)
ranged None n h = cc
ranged (Some m) n h = search rules

module _ (name word : List ℕ) (c : Command) where
  of_number : (n : ℕ) → SpellsNumber word n → named name n ≡ Some c → IsNamed (name ∷ word ∷ []) c
  of_number n spells h = by_read (tested _ _ _ _ (bytes_eq-Decides name (codes "read")) h)
    where
      is : (other : List ℕ) → name ≡ other → name ∷ word ∷ [] ≡ other ∷ word ∷ []
      is other e = ap (λ z. z ∷ word ∷ []) e

      by_ext : ((name ≡ codes "ext") × (Ext n ≡ c)) ⊎ (None ≡ Some c) → IsNamed (name ∷ word ∷ []) c
      by_ext (inl h) = subst (IsNamed (name ∷ word ∷ [])) h.1 (word, is _ h.0, spells)
      by_ext (inr h) = cc

      by_rewrite : ((name ≡ codes "rewrite") × (Rewrite n ≡ c)) ⊎ ((if bytes_eq name (codes "ext") then Some (Ext n) else None) ≡ Some c) → IsNamed (name ∷ word ∷ []) c
      by_rewrite (inl h) = subst (IsNamed (name ∷ word ∷ [])) h.1 (word, is _ h.0, spells)
      by_rewrite (inr h) = by_ext (tested _ _ _ _ (bytes_eq-Decides name (codes "ext")) h)

      by_write : ((name ≡ codes "write") × (Write n ≡ c)) ⊎ ((if bytes_eq name (codes "rewrite") then Some (Rewrite n) else if bytes_eq name (codes "ext") then Some (Ext n) else None) ≡ Some c) → IsNamed (name ∷ word ∷ []) c
      by_write (inl h) = subst (IsNamed (name ∷ word ∷ [])) h.1 (word, is _ h.0, spells)
      by_write (inr h) = by_rewrite (tested _ _ _ _ (bytes_eq-Decides name (codes "rewrite")) h)

      by_read : ((name ≡ codes "read") × (Read n ≡ c)) ⊎ ((if bytes_eq name (codes "write") then Some (Write n) else if bytes_eq name (codes "rewrite") then Some (Rewrite n) else if bytes_eq name (codes "ext") then Some (Ext n) else None) ≡ Some c) → IsNamed (name ∷ word ∷ []) c
      by_read (inl h) = subst (IsNamed (name ∷ word ∷ [])) h.1 (word, is _ h.0, spells)
      by_read (inr h) = by_write (tested _ _ _ _ (bytes_eq-Decides name (codes "write")) h)

  of_digits : (o : Option ℕ) → in_range (decimal 9 word) ≡ o → numbered name o ≡ Some c → IsNamed (name ∷ word ∷ []) c
  of_digits None r h = cc
  of_digits (Some n) r h = of_number n (ranged (decimal 9 word) n r) h

  of_message : name ≡ codes "again" → again word ≡ Some c → IsNamed (name ∷ word ∷ []) c
  of_message e h = by_node (tested _ _ _ _ (bytes_eq-Decides word (codes "node")) h)
    where
      by_set : ((word ≡ codes "set") × (AgainSet ≡ c)) ⊎ (None ≡ Some c) → IsNamed (name ∷ word ∷ []) c
      by_set (inl h) = subst (IsNamed (name ∷ word ∷ [])) h.1 cc
      by_set (inr h) = cc

      by_node : ((word ≡ codes "node") × (AgainNode ≡ c)) ⊎ ((if bytes_eq word (codes "set") then Some AgainSet else None) ≡ Some c) → IsNamed (name ∷ word ∷ []) c
      by_node (inl h) = subst (IsNamed (name ∷ word ∷ [])) h.1 cc
      by_node (inr h) = by_set (tested _ _ _ _ (bytes_eq-Decides word (codes "set")) h)

  of_two : (b : Bool) → Decides b (name ≡ codes "again") → (if b then again word else numbered name (in_range (decimal 9 word))) ≡ Some c → IsNamed (name ∷ word ∷ []) c
  of_two true d h = of_message (d.0 refl) h
  of_two false d h = of_digits _ refl h

of_one : (name : List ℕ) (c : Command) → alone name ≡ Some c → IsNamed (name ∷ []) c
of_one name c h = by (tested _ _ _ _ (bytes_eq-Decides name (codes "item")) h)
  where
    by : ((name ≡ codes "item") × (Item ≡ c)) ⊎ (None ≡ Some c) → IsNamed (name ∷ []) c
    by (inl h) = subst (IsNamed (name ∷ [])) h.1 cc
    by (inr h) = cc

-- the words of a command are its name, and what its name is followed by
pub named_so : (words : List (List ℕ)) (c : Command) → command_of words ≡ Some c → IsNamed words c
named_so [] c h = cc
named_so (name ∷ []) c h = of_one name c h
named_so (name ∷ word ∷ []) c h = of_two name word c _ (bytes_eq-Decides name (codes "again")) h
named_so (name ∷ word ∷ more ∷ rest) c h = cc
