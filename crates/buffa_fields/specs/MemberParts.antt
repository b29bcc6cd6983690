-- Members are parts of a message: k is a member's number, and get finds it in the message.
-- Source: the protobuf encoding guide, "Message Structure".
use Rattle.std.specs.Prelude.{◌≡◌, ℕ, ◌==◌, ◌&&◌, not, max, []}
use Rattle.std.specs.Option.{option_map}
use Rattle.buffa_bytes.specs.Number.{IsNumber}
use Rattle.buffa_fields.specs.UnknownsOfMembers.{AllUnknowns, Unknowns, ReadsBackWithUnknowns, TookWithUnknowns, unknowns_levels, kept_among}
use Rattle.buffa_fields.specs.UndeclaredFields.{AllNumbers}
use Rattle.buffa_fields.specs.Schema.{ReadsBackTo, Shape, Took, is_number, visited}
use Rattle.buffa_fields.specs.MessageParts.{Part}

module _ {M P A : Type 0} (k : ℕ) (get : M → P) (s : Shape P A) where
  -- a member
  abbrev pub member_part : Part M A
  member_part = record {
    meaning = λ m. s.meaning (get m);
    blank = s.blank;
    mine = λ n. n == k;
    sound = λ D keeps sound. is_number k && not (D k) && (s.whole && sound);
    takes = λ adds d v n w p. option_map (λ x. (x, v.1)) (s.takes d v.0 n w p);
    asks = λ left d n w bs. s.asks d n w bs;
    charge = s.charge;
    records = λ v. s.records k v;
    slots = s.slots;
    levels = λ v m kept. max (s.levels v) m;
    normal = s.normal;
    WithUnknowns = λ kept. AllNumbers (λ n. not (n == k)) kept;
    Same = λ a b. get b ≡ get a;
    Took = λ d old kept n w bs before r new keeps after rest. Took s d (get old) n w bs before r (get new) after rest;
    Others = λ S E a b. S a b;
    seen = λ m z. visited s k (get m) z;
    Owes = ReadsBackTo s;
    Exact = s.Exact;
    Fine = IsNumber k;
  }

  -- one that puts aside what it doesn't understand, among the fields that are kept
  abbrev pub part_with_unknowns : Unknowns A → Part M A
  part_with_unknowns a = record {
    meaning = λ m. s.meaning (get m);
    blank = s.blank;
    mine = λ n. n == k;
    sound = λ D keeps sound. is_number k && not (D k) && (keeps && sound);
    takes = λ adds d v n w p. option_map (kept_among adds v.1) (a.takes d (v.0, []) n w p);
    asks = a.asks;
    charge = a.charge;
    records = λ v. s.records k v;
    slots = s.slots;
    levels = λ v m kept. max (s.levels v) (max m (unknowns_levels k a.levels kept));
    normal = s.normal;
    WithUnknowns = λ kept. AllUnknowns k a.AreUnknowns kept;
    Same = λ a b. get b ≡ get a;
    Took = λ d old kept n w bs before r new keeps after rest. TookWithUnknowns s a d (get old) kept n w bs before r (get new) keeps after rest;
    Others = λ S E a b. E a b;
    seen = λ m z. visited s k (get m) z;
    Owes = ReadsBackWithUnknowns s a;
    Exact = s.Exact;
    Fine = IsNumber k;
  }
