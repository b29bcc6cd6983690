-- What is asked of messages that hold themselves: of one with those in it, and of those in a member.
use Rattle.std.specs.Prelude.{◌≡◌, Bool, true, List, Option, None, Some, refl}
use Rattle.std.specs.List.{list_all}
use Rattle.buffa_recursive.specs.MessageTree.{MessageTree, of_list, of_option}
use Rattle.buffa_recursive.specs.MapTree.{pairs_in}
use Rattle.buffa_recursive.specs.RecursiveSchema.{RecursiveSchema}
use Rattle.buffa_recursive.specs.Initialized.{trees_have, tree_has, maybe_has}
use Rattle.buffa_recursive.specs.facts.InitializedFacts.{each_has, each_value_has}

-- Whether a message X has all that is required, and those in a member, which is told as `RecursiveSchema` has it.
pub record Asking {X TreeList Maybe : Type 0} {Pairs : Type 0 → Type 0} (of_list : List X → TreeList) (of_option : Option X → Maybe) (of_pairs : (K : Type 0) → List (K × X) → Pairs K) : Type 1 where
  pub whole : X → Bool
  pub listed : TreeList → Bool
  pub there : Maybe → Bool
  pub mapped : {K : Type 0} → Pairs K → Bool
  -- those in a member have it where each of them does
  pub listed_is : (xs : List X) → listed (of_list xs) ≡ list_all whole xs
  pub none_is : there (of_option None) ≡ true
  pub there_is : (x : X) → there (of_option (Some x)) ≡ whole x
  pub mapped_is : {K : Type 0} (ps : List (K × X)) → mapped (of_pairs K ps) ≡ list_all (λ p. whole p.1) ps

abbrev pub AskingOf : {X : Type 0} → RecursiveSchema X → Type 1
AskingOf o = Asking o.of_list o.of_option (λ K ps. o.of_pairs ps)

-- by what is asked of each message
abbrev pub each_asked : {W : Type 0} → (MessageTree W → Bool) → Asking {X = MessageTree W} of_list of_option (λ K ps. pairs_in ps)
each_asked asked = record {
  whole = tree_has asked;
  listed = trees_have asked;
  there = maybe_has asked;
  mapped = λ a. trees_have asked a.1;
  listed_is = each_has asked;
  none_is = refl;
  there_is = λ x. refl;
  mapped_is = λ ps. each_value_has asked ps;
}
