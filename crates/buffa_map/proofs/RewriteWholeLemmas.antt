-- What the clauses of a rewrite say together.
use Rattle.std.proofs.Common.{◌≡◌, ◌+◌, ◌<◌, ◌≤◌, ◌++◌, length, ℕ, List, [], Result, Ok, Err, ap, arith, length-append, refl, ◌∙◌}
use Rattle.std.specs.Prelude.{IfErr, OnOk}
use Rattle.buffa_bytes.specs.declared.error.EncodeError.{EncodeError}
use Rattle.buffa_bytes.specs.declared.error.EncodeError.TheVariants.{OutOfMemory}
use Rattle.buffa_wire.specs.BudgetLeft.{BudgetLeft}
use Rattle.buffa_wire.specs.Encoding.{records_encoding}
use Rattle.buffa_wire.specs.Records.{FieldData}
use Rattle.buffa_map.specs.Codec.{Writing}
use Rattle.buffa_map.specs.Encoding.{AllHold, HasEncoding, field_encoding}
use Rattle.buffa_map.specs.Merge.{ReadsRun, RefusesRun, Rules, state}
use Rattle.buffa_map.specs.Pairs.{InOrder, ListsOnce}
use Rattle.buffa_map.specs.Rewrite.{ForEntriesOf, IfNotDecoded, IfNotEncoded, MatchRefusal, RefusesDecoding, RefusesEncoding, RewritesRun, StopsRewrite, WhereDecoded, field_writing, rewrite_encoding}
use Rattle.buffa_map.specs.Run.{undeclared_records}
use Rattle.buffa_map.specs.declared.rewrite.RewriteError.{RewriteError}
use Rattle.buffa_map.specs.declared.rewrite.RewriteError.TheVariants.{Decode, Encode}

module _ {K V : Type 0} (r : Rules K V) (key : Writing K) (val : Writing V) (KeyFits : K → Type 0) (ValFits : V → Type 0) (Walks : List (K × V) → Type 0)
    (left over : BudgetLeft) (bs rest : List ℕ) (pairs : List (K × V)) (old written : List ℕ) (before after : ℕ) (ordered : (l : List (K × V)) → Walks l → InOrder r.keeps_order pairs l) where
  abbrev pub IsRead : Type 0
  IsRead = (kept : List (ℕ × FieldData)) × ReadsRun r (state [] [] left) bs (state pairs kept over) rest

  abbrev pub IsWritten : Type 0
  IsWritten = ForEntriesOf r bs (λ es. (l : List (K × V)) × Walks l × ListsOnce r.same pairs l × (written ≡ old ++ rewrite_encoding (field_writing key val r.number) l es))

  abbrev pub IsStopped : EncodeError → Type 0
  IsStopped e = ForEntriesOf r bs (λ es. (l : List (K × V)) × Walks l × ListsOnce r.same pairs l × StopsRewrite (field_writing key val r.number) l es old written e)

  abbrev pub IsFull : EncodeError → Type 0
  IsFull e = e ≡ OutOfMemory → ForEntriesOf r bs (λ es. (l : List (K × V)) → ListsOnce r.same pairs l → before < length (rewrite_encoding (field_writing key val r.number) l es))

  abbrev AreShort : Type 0
  AreShort = (l : List (K × V)) → ListsOnce r.same pairs l → HasEncoding key val l

  abbrev Fit : Type 0
  Fit = (l : List (K × V)) → ListsOnce r.same pairs l → AllHold KeyFits ValFits l

  pub whole : IsRead → IsWritten → AreShort → Fit → before + length old ≤ after + length written →
      RewritesRun r key val KeyFits ValFits Walks left bs pairs over rest old written before after
  whole (kept, read) wrote short fits room =
      let w = wrote read.entries read.run in
      record {
        kept = kept;
        read = read;
        out = rewrite_encoding (field_writing key val r.number) w.0 read.entries;
        rewrite = (w.0, (w.2.0, λ q. read.folded q ∙ w.2.1 q), short w.0 w.2, fits w.0 w.2, refl);
        walks = w.1;
        encoding = w.3;
        ordered = λ k. ap (λ (z : List (K × V)). field_encoding key val r.number z ++ records_encoding (undeclared_records r.number read.entries)) (ordered w.0 w.1 k ∙ read.order k);
        room = omega (arith, room, ap length w.3, length-append old (rewrite_encoding (field_writing key val r.number) w.0 read.entries));
      }

  pub unencoded : (e : EncodeError) → IsRead → IsStopped e → IsFull e → RefusesEncoding r key val Walks left bs pairs over rest old written before e
  unencoded e (kept, read) stops full =
      let w = stops read.entries read.run in
      record {
        kept = kept;
        read = read;
        walk = w.0;
        once = (w.2.0, λ q. read.folded q ∙ w.2.1 q);
        walked = λ k. ordered w.0 w.1 k ∙ read.order k;
        walks = w.1;
        encoding = w.3;
        room = λ o. full o read.entries read.run w.0 w.2;
      }

  -- the same of a call's result
  module _ {T : Type 0} where
    pub all_written : (x : Result T RewriteError) → WhereDecoded x IsRead → OnOk x IsWritten → OnOk x AreShort → OnOk x Fit → OnOk x (before + length old ≤ after + length written) →
        OnOk x (RewritesRun r key val KeyFits ValFits Walks left bs pairs over rest old written before after)
    all_written (Ok u) read wrote short fits room = whole read wrote short fits room
    all_written (Err e) read wrote short fits room = tt

    pub why_not : (x : Result T RewriteError) → WhereDecoded x IsRead →
        IfNotDecoded x (λ f. (kept : List (ℕ × FieldData)) × RefusesRun r (state [] [] left) bs (state pairs kept over) rest f) → IfNotDecoded x (λ _. written ≡ old) →
        IfNotEncoded x IsStopped → IfNotEncoded x IsFull →
        IfErr x (λ e. MatchRefusal e (RefusesDecoding r left bs pairs over rest old written) (RefusesEncoding r key val Walks left bs pairs over rest old written before))
    why_not (Ok u) read fault unwritten stops full = tt
    why_not (Err (Decode f)) read fault unwritten stops full = (fault.0, fault.1, unwritten)
    why_not (Err (Encode e)) read fault unwritten stops full = unencoded e read stops full
