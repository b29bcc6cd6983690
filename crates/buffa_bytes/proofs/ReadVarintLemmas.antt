-- Varints of one to three bytes.
use Rattle.std.proofs.Common.{◌≡◌, ℕ, ◌+◌, ◌*◌, ◌%◌, ◌<◌, ◌≤◌, List, ◌∷◌, ◌++◌, Ok, length, drop, refl, sym, ap, ◌∙◌, arith}
use Rattle.std.proofs.lemmas.Bool.{lt-ltb, le-ltb}
use Rattle.std.proofs.lemmas.List.{take-append-drop, drop-append-le}
use Rattle.buffa_bytes.specs.Readings.{varint_at, varint_within}
use Rattle.buffa_bytes.specs.Unread.{IsChunkOf}
use Rattle.buffa_bytes.proofs.StepLemmas.{agree_ok}
use Rattle.buffa_bytes.proofs.VarintLemmas.{varint_sound, varint_complete}
use Rattle.buffa_bytes.proofs.FieldLemmas.{onward}

pub read_one : (bs rest : List ℕ) (a n : ℕ) → bs ≡ a ∷ rest → a < 128 → n ≡ a → varint_at bs ≡ Ok (n, drop 1 bs)
unfolding varint_at varint_within
read_one bs rest a n e h m = rw (e, m, lt-ltb a 128 h) refl

pub read_two : (bs more rest : List ℕ) (a b n : ℕ) → bs ≡ a ∷ more → more ≡ b ∷ rest → 128 ≤ a → b < 128 → n ≡ a % 128 + b * 128 → varint_at bs ≡ Ok (n, drop 2 bs)
unfolding varint_at varint_within
read_two bs more rest a b n e f h k m = let s : a % 128 + 128 * b ≡ n = omega arith in rw (e, f, le-ltb a 128 h, lt-ltb b 128 k) (ap (λ x. Ok (x, rest)) s)

pub read_three : (bs more last rest : List ℕ) (a b c n : ℕ) → bs ≡ a ∷ more → more ≡ b ∷ last → last ≡ c ∷ rest → 128 ≤ a → 128 ≤ b → c < 128 → n ≡ (a % 128 + (b % 128) * 128) + c * 16384 → varint_at bs ≡ Ok (n, drop 3 bs)
unfolding varint_at varint_within
read_three bs more last rest a b c n e f g h k l m =
    let s : a % 128 + 128 * (b % 128 + 128 * c) ≡ n = omega arith in rw (e, f, g, le-ltb a 128 h, le-ltb b 128 k, lt-ltb c 128 l) (ap (λ x. Ok (x, rest)) s)

-- what is read of the bytes that lie together at the front is read of all
pub read_of_all : (n k : ℕ) (part all : List ℕ) → IsChunkOf part all → k ≤ length part → varint_at part ≡ Ok (n, drop k part) → varint_at all ≡ Ok (n, drop k all)
read_of_all n k part all c h e =
    let more = drop (length part) all in
    let whole : part ++ more ≡ all = ap (λ z. z ++ more) (sym c.front) ∙ take-append-drop (length part) all in
    let t = agree_ok (varint_at part) (n, drop k part) (varint_sound part) e in
    ap varint_at (sym whole ∙ onward part t.0 (drop k part) more t.2) ∙ varint_complete t.0 n (drop k part ++ more) t.1
    ∙ ap (λ z. Ok (n, z)) (sym (drop-append-le k part more h) ∙ ap (drop k) whole)
