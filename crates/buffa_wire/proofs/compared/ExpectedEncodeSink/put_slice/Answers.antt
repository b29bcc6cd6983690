use Rattle.std.proofs.Common.{◌≡◌, ℕ, ◌+◌, ◌-◌, ◌≤◌, List, ◌++◌, length, length-drop, take, drop, sym, ap, ◌∙◌, arith}
use Rattle.std.proofs.lemmas.Bool.Decides.{Decides-eqb}
use Rattle.std.proofs.lemmas.List.{take-append-drop, take_all}
use Rattle.std.proofs.lemmas.Slice.Eq.{starts_is}
use Rattle.std.proofs.Math.Seq.{length-take-le, take-append-add, take-append_seam}
use Rattle.buffa_wire.proofs.compared.ExpectedEncodeSink.put_slice.Goals as goal

-- what comes next after the first n bytes, taken besides
next_taken : (bytes b : List ℕ) (n : ℕ) → length (take n bytes) ≡ n → drop n bytes ≡ b ++ drop (length b) (drop n bytes) → take (n + length b) bytes ≡ take n bytes ++ b
next_taken bytes b n len is =
    ap (take (n + length b)) (sym (take-append-drop n bytes))
    ∙ ap (λ k. take (k + length b) (take n bytes ++ drop n bytes)) (sym len)
    ∙ take-append-add (take n bytes) (drop n bytes) (length b)
    ∙ ap (λ z. take n bytes ++ z) (ap (take (length b)) is ∙ take-append_seam b (drop (length b) (drop n bytes)))

pub returns-clause-writes : goal.returns-clause-writes
returns-clause-writes c =
    let n = c.args.self.now.len in
    let bs = c.args.self.now.bytes.now in
    let b = c.args.b.now in
    let within : n ≤ length bs = c.args.self.now.within in
    let rest : take (length bs - n) (drop n bs) ≡ drop n bs = take_all (length bs - n) (drop n bs) (omega (arith, length-drop n bs)) in
    let begins = (starts_is Decides-eqb (take (length bs - n) (drop n bs)) b c.starts_with.result c.starts_with.ensures.value).0 c.if-not-starts_with.false in
    let len : length (take n bs) ≡ n = length-take-le n bs within in
    next_taken bs b n len (sym rest ∙ begins ∙ ap (λ z. b ++ drop (length b) z) rest)
