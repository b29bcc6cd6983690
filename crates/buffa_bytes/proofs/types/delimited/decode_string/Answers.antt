use Rattle.buffa_bytes.specs.declared.error.DecodeError.TheVariants.{InvalidUtf8}
use Rattle.std.proofs.Common.{◌≡◌, Err, ℕ, true, false, List, ap, refl, subst, Vec, Global}
use Rattle.std.specs.Prelude.{string_bytes}
use Rattle.std.specs.Str.{is_utf8}
use Rattle.std.proofs.lemmas.Bool.{false_from_ne_true}
use Rattle.std.proofs.lemmas.Str.{IsUtf8-from_is_utf8, is_utf8-from_IsUtf8, IsUtf8-string_bytes}
use Rattle.std.proofs.lemmas.Result.{err_from_is_err_and}
use Rattle.buffa_bytes.proofs.OwnLemmas.{string_in_place, whole_in_place, length_no_full, none_in_place, none_taken}
use Rattle.buffa_bytes.proofs.UnreadLemmas.{left_no_length, left_passed, left_refused, left_taken}
use Rattle.buffa_bytes.proofs.types.delimited.decode_string.Goals as goal

pub returns-in_err-len-clause-full : goal.returns-in_err-len-clause-full
returns-in_err-len-clause-full g c =
    let p = err_from_is_err_and c.from_residual.result c.from_residual.ensures.1 in
    length_no_full p.1 p.2 (g.B.Buf.unread c.args.buf.now) c.in_err-len.ensures.reads

pub returns-in-Some-clause-reads : goal.returns-in-Some-clause-reads
returns-in-Some-clause-reads g c =
    string_in_place _ _ c.from_wire-read.result _ _ _ _ _ c.in_ok-len.ensures.reads c.in-Some.ensures c.advance.ensures.rest c.from_wire-read.ensures.reads

pub returns-in-Some-clause-full : goal.returns-in-Some-clause-full
returns-in-Some-clause-full g c =
    whole_in_place c.from_wire-read.result _ _ _ _ c.in_ok-len.ensures.reads c.in-Some.ensures

pub returns-in-Ok-clause-reads : goal.returns-in-Ok-clause-reads
returns-in-Ok-clause-reads g c =
    let same : string_bytes c.in-Ok.text ≡ c.in_ok-bytes.bytes.items = ap (λ (v : Vec ℕ Global). v.items) c.in-Ok.ensures.ok in
    let good : is_utf8 c.in_ok-bytes.bytes.items ≡ true = subst (λ (z : List ℕ). is_utf8 z ≡ true) same (is_utf8-from_IsUtf8 (string_bytes c.in-Ok.text) (IsUtf8-string_bytes c.in-Ok.text)) in
    rw (c.in_ok-len.ensures.reads, c.in_ok-bytes.ensures.reads, good, same) refl

pub returns-clause-reads : goal.returns-clause-reads
returns-clause-reads g c ne =
    let bad : is_utf8 c.in_ok-bytes.bytes.items ≡ false = false_from_ne_true (is_utf8 c.in_ok-bytes.bytes.items) (λ h. let k : false ≡ true = c.in-Err.ensures.succeeds (IsUtf8-from_is_utf8 c.in_ok-bytes.bytes.items h) in cc) in
    rw (c.in_ok-len.ensures.reads, c.in_ok-bytes.ensures.reads, bad) refl

pub returns-in_err-len-clause-left : goal.returns-in_err-len-clause-left
returns-in_err-len-clause-left g c =
    let p = err_from_is_err_and c.from_residual.result c.from_residual.ensures.1 in
    left_no_length p.1 p.2 (g.B.Buf.unread c.args.buf.now) _ c.in_err-len.ensures.reads c.in_err-len.ensures.left

pub returns-in-Some-clause-left : goal.returns-in-Some-clause-left
returns-in-Some-clause-left g c =
    left_passed c.from_wire-read.result _ _ _ _ _ c.in_ok-len.ensures.reads c.in-Some.ensures c.advance.ensures.rest

pub returns-in_err-bytes-clause-left : goal.returns-in_err-bytes-clause-left
returns-in_err-bytes-clause-left g c =
    let p = err_from_is_err_and c.from_residual-in_err-bytes.result c.from_residual-in_err-bytes.ensures.1 in
    left_refused p.1 p.2 _ (g.B.Buf.unread c.args.buf.now) _ _ c.in_ok-len.ensures.reads c.in_err-bytes.ensures.reads c.in_err-bytes.ensures.short c.in_err-bytes.ensures.within

pub returns-clause-left : goal.returns-clause-left
returns-clause-left g c =
    left_taken {X = ℕ} (Err InvalidUtf8) _ (g.B.Buf.unread c.args.buf.now) _ _ _ c.in_ok-len.ensures.reads c.in_ok-bytes.ensures.reads

pub returns-in-Some-clause-free : goal.returns-in-Some-clause-free
returns-in-Some-clause-free g c = λ rest is. c.from_wire-read.ensures.free (none_in_place _ _ _ _ rest c.in_ok-len.ensures.reads c.in-Some.ensures is)

pub returns-in_err-bytes-clause-free : goal.returns-in_err-bytes-clause-free
returns-in_err-bytes-clause-free g c = λ rest is. absurd (let e = c.in_err-bytes.ensures.free (none_taken _ _ _ rest c.in_ok-len.ensures.reads is) in cc)
