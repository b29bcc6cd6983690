-- Each command has one reply to an input, and each call one answer.
use Rattle.std.proofs.Common.{◌≡◌, ◌≢◌, ◌⊎◌, ℕ, ℤ, List, [], ◌++◌, Bool, true, false, Option, Some, None, Result, Ok, Err, sym, ap, subst, ◌∙◌, inl, inr}
use Rattle.std.specs.Io.KnownBytes.{Appends}
use Rattle.std.specs.List.Sorted.{IsStrictlySortedBy}
use Rattle.std.specs.Map.{keys_of}
use Rattle.std.specs.Ordering.{int_cmp, int_eq}
use Rattle.std.proofs.lemmas.Cmp.{int_cmp_total}
use Rattle.std.proofs.lemmas.Bool.{false≢true}
use Rattle.buffa_bytes.specs.declared.error.DecodeError.{DecodeError}
use Rattle.buffa_wire.specs.BudgetLeft.{BudgetLeft, defaults}
use Rattle.buffa_wire.specs.Message.{MergeFault}
use Rattle.buffa_wire.specs.Records.{FieldData}
use Rattle.buffa_wire.specs.Encoding.{records_encoding}
use Rattle.buffa_map.specs.Enums.{closed_writing}
use Rattle.buffa_map.specs.Pairs.{ListsOnce}
use Rattle.buffa_map.specs.Run.{EntryRecord, fold_entries, undeclared_records}
use Rattle.buffa_map.specs.Encoding.{HasEncoding, field_encoding}
use Rattle.sample_node.specs.Branch.{blank_node}
use Rattle.sample_node.specs.NodeMeaning.{node_cost, node_merged}
use Rattle.sample_node.specs.NodeEncoding.{node_encoding}
use Rattle.buffa_sets.specs.Set.{set_cost, set_merged, set_encoding}
use Rattle.buffamap.specs.Again.{IsEncoded, IsReadAgainIn, RefusesMessageBytes, RepliesToAgain, encoding_reply}
use Rattle.buffa_map.specs.Scalars.{int32_writing}
use Rattle.buffa_map.proofs.SortedLemmas.{same_sorted}
use Rattle.buffamap.specs.declared.command.Command.{Command}
use Rattle.buffamap.specs.declared.command.Command.TheVariants.{AgainNode, AgainSet, Ext, Item, Read, Rewrite, Write}
use Rattle.buffamap.specs.Command.{command_of, texts}
use Rattle.buffamap.specs.Engine.{Answers, RepliesTo}
use Rattle.buffamap.specs.Ext.{IsShown, IsShownOf, RepliesToExt, records_from}
use Rattle.buffamap.specs.Forms.{hex_bytes, without_newline}
use Rattle.buffamap.specs.Item.{IsFound, IsFoundIn, RepliesToItem, item_of_input}
use Rattle.buffamap.specs.Lines.{Pair, lines_of, map_in, same_key}
use Rattle.buffamap.specs.Pinned.{AnyCallIsPinned, CallIsPinned, HasFaultLine, LeavesFaultOpen, MayDiffer, NamesFault, ReplyIsPinned, ReplyIsPinnedButForFaults, SureCallIsPinned, having, holding}
use Rattle.buffamap.specs.Read.{RepliesToBytes, RepliesToRead, RepliesToRun, run_from}
use Rattle.buffamap.specs.Reply.{GivesReply, Reply, broken, success, hex_line}
use Rattle.buffamap.specs.Rewrite.{Entry, IsRewritten, IsRewrittenOf, RepliesToRewrite, ChoicePair, choice_run}
use Rattle.buffamap.specs.Streams.{StreamChange, Known, WritesOrBreaks, WritesAll}
use Rattle.buffamap.specs.Write.{RepliesToMap, RepliesToWrite, field_reply}
use Rattle.buffamap.proofs.OrderedLemmas.{one_order}
use denote.Ref.{Bor}

-- where one input has one reply, what is accepted isn't refused
pinned : (R : List ℕ → Reply → Type 0) → ((input : List ℕ) (a b : Reply) → R input a → R input b → a ≡ b) → ReplyIsPinned R
pinned R one = record { one = one; refused = λ input text b h k. ap (λ (r : Reply). r.status) (sym (one input (success text) b h k)) }

-- ---- the commands

run_one : (r : Result (List (EntryRecord (List ℕ) ℤ) × BudgetLeft) DecodeError) (a b : Reply) → RepliesToRun r a → RepliesToRun r b → a ≡ b
run_one (Ok r) a b h k = h.2 ∙ ap (λ z. success (lines_of z)) (one_order (fold_entries same_key [] r.0) h.0 k.0 h.1 k.1) ∙ sym k.2
run_one (Err f) a b h k = h ∙ sym k

bytes_one : (n : ℕ) (o : Option (List ℕ)) (a b : Reply) → RepliesToBytes n o a → RepliesToBytes n o b → a ≡ b
bytes_one n None a b h k = h ∙ sym k
bytes_one n (Some bytes) a b h k = run_one (run_from n bytes) a b h k

pub read_pinned : (n : ℕ) → ReplyIsPinned (RepliesToRead n)
read_pinned n = pinned (RepliesToRead n) (λ input a b h k. bytes_one n (hex_bytes (without_newline input)) a b h k)

map_one : (n : ℕ) (o : Option (List Pair)) (a b : Reply) → RepliesToMap n o a → RepliesToMap n o b → a ≡ b
map_one n None a b h k = h ∙ sym k
map_one n (Some m) a b h k = h.2 ∙ ap (field_reply n) (one_order m h.0 k.0 h.1 k.1) ∙ sym k.2

pub write_pinned : (n : ℕ) → ReplyIsPinned (RepliesToWrite n)
write_pinned n = pinned (RepliesToWrite n) (λ input a b h k. map_one n (map_in input) a b h k)

-- a map has one list of its pairs in the order of their keys
one_list : (m l k : List ChoicePair) → ListsOnce int_eq m l → ListsOnce int_eq m k → IsStrictlySortedBy int_cmp (keys_of l) → IsStrictlySortedBy int_cmp (keys_of k) → l ≡ k
one_list m l k once again s t = same_sorted int_cmp_total l k s t (λ q. sym (once.1 q) ∙ again.1 q)

rewrite_one : (n : ℕ) (r : Result (List Entry × BudgetLeft) DecodeError) (a b : Reply) → IsRewritten n r a → IsRewritten n r b → a ≡ b
rewrite_one n (Ok r) a b (inl h) (inl k) =
    let v = h.1.0 in
    let w = k.1.0 in
    let same = one_list (fold_entries int_eq [] r.0) v.0 w.0 v.1 w.1 h.1.1 k.1.1 in
    h.2 ∙ ap (λ z. success (hex_line z)) (v.4 ∙ ap (λ z. field_encoding int32_writing closed_writing n z ++ records_encoding (undeclared_records n r.0)) same ∙ sym w.4) ∙ sym k.2
rewrite_one n (Ok r) a b (inl h) (inr k) =
    let v = h.1.0 in
    let same = one_list (fold_entries int_eq [] r.0) v.0 k.0.0 v.1 k.0.1 h.1.1 k.0.2 in
    absurd (k.0.3 (subst (HasEncoding int32_writing closed_writing) same v.2))
rewrite_one n (Ok r) a b (inr h) (inl k) =
    let w = k.1.0 in
    let same = one_list (fold_entries int_eq [] r.0) w.0 h.0.0 w.1 h.0.1 k.1.1 h.0.2 in
    absurd (h.0.3 (subst (HasEncoding int32_writing closed_writing) same w.2))
rewrite_one n (Ok r) a b (inr h) (inr k) = h.1 ∙ sym k.1
rewrite_one n (Err f) a b h k = h ∙ sym k

rewritten_one : (n : ℕ) (o : Option (List ℕ)) (a b : Reply) → IsRewrittenOf n o a → IsRewrittenOf n o b → a ≡ b
rewritten_one n None a b h k = h ∙ sym k
rewritten_one n (Some bytes) a b h k = rewrite_one n (choice_run n bytes) a b h k

pub rewrite_pinned : (n : ℕ) → ReplyIsPinned (RepliesToRewrite n)
rewrite_pinned n = pinned (RepliesToRewrite n) (λ input a b h k. rewritten_one n (hex_bytes (without_newline input)) a b h k)

shown_one : (n : ℕ) (r : Result (List (ℕ × FieldData)) DecodeError) (a b : Reply) → IsShown n r a → IsShown n r b → a ≡ b
shown_one n (Ok records) a b h k = h ∙ sym k
shown_one n (Err f) a b h k = h ∙ sym k

shown_of_one : (n : ℕ) (o : Option (List ℕ)) (a b : Reply) → IsShownOf n o a → IsShownOf n o b → a ≡ b
shown_of_one n None a b h k = h ∙ sym k
shown_of_one n (Some bytes) a b h k = shown_one n (records_from bytes) a b h k

pub ext_pinned : (n : ℕ) → ReplyIsPinned (RepliesToExt n)
ext_pinned n = pinned (RepliesToExt n) (λ input a b h k. shown_of_one n (hex_bytes (without_newline input)) a b h k)

found_one : (r : Result (ℕ × List ℕ × List ℕ) DecodeError) (a b : Reply) → IsFound r a → IsFound r b → a ≡ b
found_one (Ok item) a b h k = h ∙ sym k
found_one (Err f) a b h k = h ∙ sym k

found_in_one : (o : Option (List ℕ)) (a b : Reply) → IsFoundIn o a → IsFoundIn o b → a ≡ b
found_in_one None a b h k = h ∙ sym k
found_in_one (Some bytes) a b h k = found_one (item_of_input bytes) a b h k

pub item_pinned : ReplyIsPinned RepliesToItem
item_pinned = pinned RepliesToItem (λ input a b h k. found_in_one (hex_bytes (without_newline input)) a b h k)

-- ---- a message again

module _ {X : Type 0} (text : X → List ℕ) (meant : Option X) (cost : BudgetLeft) where
  -- one value has one encoding
  encoded_one : (a b : Reply) → IsEncoded meant cost text a → IsEncoded meant cost text b → a ≡ b
  encoded_one a b h k =
      let same : h.0 ≡ k.0 = ap (λ (x : Option X). elim x as (λ _. X) [ Some v ↦ v | None ↦ h.0 ]) (sym h.1 ∙ k.1) in
      h.3 ∙ ap (λ v. encoding_reply (text v)) same ∙ sym k.3

  -- bytes that are encoded aren't refused
  not_both : (a b : Reply) → IsEncoded meant cost text a → RefusesMessageBytes meant cost b → ⊥
  not_both a b h k = by k.2
    where
      by : MergeFault meant cost defaults k.0 → ⊥
      by (inl lacks) = h.2 lacks
      by (inr none) = let no : None ≡ Some h.0 = sym none.0 ∙ h.1 in cc

  names_fault : (a : Reply) → RefusesMessageBytes meant cost a → NamesFault a
  names_fault a h = (h.0, h.3)

  again_one : (a b : Reply) → IsEncoded meant cost text a ⊎ RefusesMessageBytes meant cost a → IsEncoded meant cost text b ⊎ RefusesMessageBytes meant cost b → (a ≡ b) ⊎ (NamesFault a × NamesFault b)
  again_one a b (inl h) (inl k) = inl (encoded_one a b h k)
  again_one a b (inl h) (inr k) = absurd (not_both a b h k)
  again_one a b (inr h) (inl k) = absurd (not_both b a k h)
  again_one a b (inr h) (inr k) = inr (names_fault a h, names_fault b k)

-- a reply that names a fault has status 1
fault_status : (a : Reply) → NamesFault a → a.status ≡ 1
fault_status a h = ap (λ (r : Reply). r.status) h.1

not_done : {A : Type 0} (text : List ℕ) → NamesFault (success text) → A
not_done text h = absurd (let no : 0 ≡ 1 = fault_status (success text) h in cc)

accepted : (text : List ℕ) (b : Reply) → (success text ≡ b) ⊎ (NamesFault (success text) × NamesFault b) → b ≡ success text
accepted text b (inl e) = sym e
accepted text b (inr h) = not_done text h.0

module _ {X : Type 0} (merged : ℕ → X → List ℕ → Option X) (cost : ℕ → List ℕ → BudgetLeft) (text : X → List ℕ) (blank : X) where
  abbrev Again : List ℕ → Reply → Type 0
  Again = RepliesToAgain merged cost text blank

  again_in_one : (o : Option (List ℕ)) (a b : Reply) → IsReadAgainIn merged cost text blank o a → IsReadAgainIn merged cost text blank o b → (a ≡ b) ⊎ (NamesFault a × NamesFault b)
  again_in_one None a b h k = inl (h ∙ sym k)
  again_in_one (Some bytes) a b h k = again_one text (merged 100 blank bytes) (cost 100 bytes) a b h k

  again_of_one : (input : List ℕ) (a b : Reply) → Again input a → Again input b → (a ≡ b) ⊎ (NamesFault a × NamesFault b)
  again_of_one input a b h k = again_in_one (hex_bytes (without_newline input)) a b h k

  pub again_pinned : ReplyIsPinnedButForFaults Again
  again_pinned = record { one = again_of_one; accepted = λ input out b h k. accepted out b (again_of_one input (success out) b h k) }

-- ---- a call

-- two replies are one, or two names of a fault that is open
abbrev AreOne : Option Command → Reply → Reply → Type 0
AreOne o a b = (a ≡ b) ⊎ (LeavesFaultOpen o × NamesFault a × NamesFault b)

or_open : (o : Option Command) (a b : Reply) → LeavesFaultOpen o → (a ≡ b) ⊎ (NamesFault a × NamesFault b) → AreOne o a b
or_open o a b left (inl e) = inl e
or_open o a b left (inr h) = inr (left, h.0, h.1)

command_one : (c : Command) (input : List ℕ) (a b : Reply) → RepliesTo c input a → RepliesTo c input b → AreOne (Some c) a b
command_one (Read n) input a b h k = inl ((read_pinned n).one input a b h k)
command_one (Write n) input a b h k = inl ((write_pinned n).one input a b h k)
command_one (Rewrite n) input a b h k = inl ((rewrite_pinned n).one input a b h k)
command_one (Ext n) input a b h k = inl ((ext_pinned n).one input a b h k)
command_one Item input a b h k = inl (item_pinned.one input a b h k)
command_one AgainNode input a b h k = or_open (Some AgainNode) a b tt (again_of_one node_merged node_cost node_encoding blank_node input a b h k)
command_one AgainSet input a b h k = or_open (Some AgainSet) a b tt (again_of_one set_merged set_cost set_encoding [] input a b h k)

module _ (o : Option Command) (a b : Reply) where
  one_status : AreOne o a b → a.status ≡ b.status
  one_status (inl e) = ap (λ (r : Reply). r.status) e
  one_status (inr h) = fault_status a h.1 ∙ sym (fault_status b h.2)

  one_complaint : AreOne o a b → a.complaint ≡ b.complaint
  one_complaint (inl e) = ap (λ (r : Reply). r.complaint) e
  one_complaint (inr h) = ap (λ (r : Reply). r.complaint) h.1.1 ∙ sym (ap (λ (r : Reply). r.complaint) h.2.1)

-- the reply of a command to its input, where neither memory nor the reader is told
known_reply : (c : Command) (f : Bool) (input : List ℕ) (a : Reply) → Answers (Some c) (having f input) a → a.status ≢ 4 → (a ≡ broken → f ≡ true → ⊥) → RepliesTo c input a
known_reply c f input a (inl h) memory whole = rw (sym h.1) h.2
known_reply c f input a (inr (inl h)) memory whole = absurd (memory (ap (λ (r : Reply). r.status) h.0))
known_reply c f input a (inr (inr h)) memory whole = absurd (whole h.0 h.1)

reply_one : (o : Option Command) (f g : Bool) (input : List ℕ) (a b : Reply) → Answers o (having f input) a → Answers o (having g input) b → (a.status ≢ 4) × (b.status ≢ 4) →
    (a ≡ broken → f ≡ true → ⊥) × (b ≡ broken → g ≡ true → ⊥) → AreOne o a b
reply_one None f g input a b h k memory whole = inl (h ∙ sym k)
reply_one (Some c) f g input a b h k memory whole = command_one c input a b (known_reply c f input a h memory.0 whole.0) (known_reply c g input b k memory.1 whole.1)

grown : (old text : List ℕ) (a : Known) → Appends (Some old) a text → a ≡ Some (old ++ text)
grown old text None h = absurd h
grown old text (Some ys) h = ap Some h

-- what is given of a reply where no output has failed, and what where nothing fails
given : (r : Reply) (out err : StreamChange) (s : ℕ) → GivesReply r out err s → (s ≡ 3 → out.failed ≡ true → ⊥) → (s ≡ r.status) × WritesAll out r.text × WritesOrBreaks err r.complaint
given r out err s (inl h) whole = h
given r out err s (inr h) whole = absurd (whole h.0 h.1.1)

reported_whole : (old text : List ℕ) (p : Known) → WritesOrBreaks (holding false old p) text → p ≡ Some (old ++ text)
reported_whole old text p (inl w) = grown old text p w
reported_whole old text p (inr w) = absurd (false≢true w.1)

has_line : (out : List ℕ) (x : Reply) (a : Known) → NamesFault x → a ≡ Some (out ++ x.text) → HasFaultLine out a
has_line out x a names h = (names.0, h ∙ ap (λ (r : Reply). Some (out ++ r.text)) names.1)

-- what stands on the output of two replies
one_output : (words : List (Bor (List ℕ))) (out : List ℕ) (x y : Reply) (a b : Known) (s : ℕ) → AreOne (command_of (texts words)) x y → s ≡ x.status → a ≡ Some (out ++ x.text) → b ≡ Some (out ++ y.text) →
    (a ≡ b) ⊎ MayDiffer words out a b s
one_output words out x y a b s (inl e) status h k = inl (h ∙ ap (λ (r : Reply). Some (out ++ r.text)) e ∙ sym k)
one_output words out x y a b s (inr o) status h k =
    inr (o.0, status ∙ fault_status x o.1, has_line out x a o.1 h, has_line out y b o.2 k)

sure_pinned : (words : List (Bor (List ℕ))) (input out err : List ℕ) → SureCallIsPinned words input out err
sure_pinned words input out err a b p q s t h k (x, y) =
    let g = given h.0 (holding false out a) (holding false err p) s h.2 (λ _ e. absurd (false≢true e)) in
    let f = given k.0 (holding false out b) (holding false err q) t k.2 (λ _ e. absurd (false≢true e)) in
    let o : Option Command = command_of (texts words) in
    let same : AreOne o h.0 k.0 = reply_one o false false input h.0 k.0 h.1 k.1 (λ e. x (g.0 ∙ e), λ e. y (f.0 ∙ e)) (λ _ e. absurd (false≢true e), λ _ e. absurd (false≢true e)) in (
      g.0 ∙ one_status o h.0 k.0 same ∙ sym f.0,
      one_output words out h.0 k.0 a b s same g.0 (grown out h.0.text a g.1) (grown out k.0.text b f.1),
      reported_whole err h.0.complaint p g.2 ∙ ap (λ z. Some (err ++ z)) (one_complaint o h.0 k.0 same) ∙ sym (reported_whole err k.0.complaint q f.2),
    )

any_pinned : (words : List (Bor (List ℕ))) (input out err : List ℕ) → AnyCallIsPinned words input out err
any_pinned words input out err m n l u v w a b p q s t h k x y =
    let g = given h.0 (holding n out a) (holding l err p) s h.2 (λ e _. x.0 e) in
    let f = given k.0 (holding v out b) (holding w err q) t k.2 (λ e _. y.0 e) in
    let o : Option Command = command_of (texts words) in
    let same : AreOne o h.0 k.0 = reply_one o m u input h.0 k.0 h.1 k.1 (λ e. x.1 (g.0 ∙ e), λ e. y.1 (f.0 ∙ e))
    (λ e _. x.0 (g.0 ∙ ap (λ (r : Reply). r.status) e), λ e _. y.0 (f.0 ∙ ap (λ (r : Reply). r.status) e)) in (
      g.0 ∙ one_status o h.0 k.0 same ∙ sym f.0,
      one_output words out h.0 k.0 a b s same g.0 (grown out h.0.text a g.1) (grown out k.0.text b f.1),
    )

pub call_pinned : (words : List (Bor (List ℕ))) → CallIsPinned words
call_pinned words input out err = (sure_pinned words input out err, any_pinned words input out err)
