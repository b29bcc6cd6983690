-- A node's members, as its type lists them, and that those of other types read back.
use Rattle.std.proofs.Common.{ℕ, ℤ, ◌==◌, List, [], FitsSigned, Ok, true, refl, ap}
use Rattle.std.specs.BTreeMap.{insert_entry}
use Rattle.std.specs.Cmp.{int_cmp_total}
use Rattle.std.specs.Cmp.Lexicographic.{nat_list_cmp_total}
use Rattle.std.specs.Int.{cast_unsigned, w32, w64}
use Rattle.std.specs.Ordering.{int_cmp}
use Rattle.buffa_bytes.proofs.IntLemmas.{int32_below, int32_means}
use Rattle.buffa_bytes.proofs.VarintLemmas.{IsVarint-varint_encoding}
use Rattle.buffa_bytes.specs.PayloadValue.{number}
use Rattle.buffa_bytes.specs.Number.{IsNumber}
use Rattle.buffa_wire.specs.Encoding.{records_encoding}
use Rattle.buffa_wire.specs.ReadableFacts.{Readable}
use Rattle.buffa_wire.specs.Records.{records_of}
use Rattle.buffa_wire.specs.Takes.{ReadsBack}
use Rattle.buffa_map.proofs.BackLemmas.{IsReadBack, implicit_back}
use Rattle.buffa_map.specs.Encoding.{AllHold}
use Rattle.buffa_map.specs.EnumFacts.{closed_reads_back}
use Rattle.buffa_map.specs.Enums.{ClosedFits, closed_writing}
use Rattle.buffa_map.specs.ScalarFacts.{string_reads_back}
use Rattle.buffa_map.specs.Scalars.{IsText, int32_reading, int32_writing, text_reading, text_writing}
use Rattle.buffa_recursive.specs.MapKeys.{Keys, KeysReadBack, keys_by}
use Rattle.buffa_fields.specs.facts.ClosedEnumMapFacts.{kept_map_back, kept_pair_again}
use Rattle.buffa_fields.specs.facts.LevelKindFacts.{entry_numbers, exact_flat, exact_flat_unknowns, kept_pair_low}
use Rattle.buffa_recursive.specs.RecursiveSchema.{RecursiveSchema}
use Rattle.buffa_fields.specs.facts.MapFacts.{map_back}
use Rattle.buffa_fields.specs.MapFields.{entry_records}
use Rattle.buffa_fields.specs.facts.OrderedFacts.{ascending_put}
use Rattle.buffa_fields.specs.OrderedMaps.{KeysAscend}
use Rattle.buffa_recursive.specs.Layers.{IsSound}
use Rattle.buffa_recursive.specs.Fixpoint.{semantics}
use Rattle.buffa_fields.specs.facts.ValidRecordFacts.{entry_valid}
use Rattle.buffa_recursive.specs.InnerMessages.{Semantics}
use Rattle.sample_node.specs.Branch.{Branch, Scores, Shades, shade_numbers}
use Rattle.sample_node.specs.NodeMeaning.{scores_take, shade_reading, shades_take, text_cmp}
use Rattle.sample_node.specs.contracts.node.NodeRecursiveType.TheImpl.{ghosts}

-- the members, and what is told of nodes by them
abbrev pub members : RecursiveSchema Branch
members = ghosts.schema

abbrev pub members_sound : IsSound members
members_sound = ghosts.sound

abbrev pub node_words : Semantics Branch
node_words = semantics 96 members members_sound

-- the children's keys
abbrev pub node_keys : Keys ℤ
node_keys = keys_by int32_reading int32_writing 4 int_cmp (FitsSigned w32) (λ _. Unit {0})

-- those that read back, as the members say it
abbrev pub AreNormalScores : Scores → Type 0
AreNormalScores a = AllHold (λ k. IsText k × Unit {0}) (λ v. FitsSigned w32 v × Unit {0}) a × KeysAscend text_cmp a

abbrev pub AreNormalShades : Shades → Type 0
AreNormalShades h = AllHold (λ k. FitsSigned w32 k × Unit {0}) (λ v. ClosedFits shade_numbers v × Unit {0}) h × KeysAscend int_cmp h

-- ---- what was written is read back
int32_back : (d : ℕ) (v : ℤ) → FitsSigned w32 v → IsReadBack int32_reading int32_writing d v
int32_back d v h = (refl, number (cast_unsigned w64 v), IsVarint-varint_encoding (cast_unsigned w64 v) (int32_below v h), ap (λ z. Ok (z, true)) (int32_means v h))

node_keys_back : KeysReadBack node_keys
node_keys_back = record { wires = refl; back = λ d v h. int32_back d v h.0; total = int_cmp_total }

scores_back : (n : ℕ) → IsNumber n → (d : ℕ) (a : Scores) → Readable (records_of (entry_records text_writing int32_writing n a)) → AreNormalScores a →
    ReadsBack scores_take (λ j. j == n) d [] (records_encoding (entry_records text_writing int32_writing n a)) a
unfolding entry_records
scores_back n some d a fits normal =
    map_back text_reading int32_reading text_writing int32_writing refl refl (insert_entry text_cmp) (λ k. IsText k × Unit {0}) (λ v. FitsSigned w32 v × Unit {0}) d
    (λ t h. implicit_back text_reading text_writing d t refl (string_reads_back (λ (x : List ℕ). x) (λ (x : List ℕ). x) t h.0 refl)) (λ v h. int32_back d v h.0) n some a fits normal.0 (ascending_put nat_list_cmp_total a normal.1)

shades_back : (n : ℕ) → IsNumber n → (d : ℕ) (h : Shades) → Readable (records_of (entry_records int32_writing closed_writing n h)) → AreNormalShades h →
    ReadsBack shades_take (λ j. j == n) d ([], []) (records_encoding (entry_records int32_writing closed_writing n h)) (h, [])
unfolding entry_records
shades_back n some d h fits normal =
    kept_map_back int32_reading shade_reading int32_writing closed_writing refl refl (insert_entry int_cmp) (λ k. FitsSigned w32 k × Unit {0}) (λ v. ClosedFits shade_numbers v × Unit {0}) d
    (λ k x. int32_back d k x.0) (λ v x. implicit_back shade_reading closed_writing d v refl (closed_reads_back shade_numbers d shade_numbers.blank v x.0)) n some h fits normal.0 (ascending_put int_cmp_total h normal.1)

pub members_owe : members.Owes
members_owe = (
  record { valid = λ k some v normal. entry_valid k some text_writing int32_writing v; back = λ k some d v fits normal low. scores_back k some d v fits normal; exact = λ _. exact_flat _ (entry_numbers text_writing int32_writing) (λ v i. 0) },
  (
    node_keys_back,
    (
      record {
        valid = λ k some v normal. entry_valid k some int32_writing closed_writing v;
        back = λ k some d v fits normal low. shades_back k some d v fits normal;
        again = λ k d v x p unknowns low payload. kept_pair_again int32_reading shade_reading (insert_entry int_cmp) k d v x p unknowns low payload;
        exact = λ _. exact_flat_unknowns _ _ (entry_numbers int32_writing closed_writing) (λ v i. 0) (kept_pair_low int32_reading shade_reading (insert_entry int_cmp));
      },
      tt,
    ),
  ),
)

pub members_exact : members.Exact
members_exact = (tt, (tt, (tt, tt)))
