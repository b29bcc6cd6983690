-- A varint is written in bytes.
use Rattle.std.proofs.Common.{ℕ, zero, suc, ◌/◌, ◌%◌, ◌<◌, ◌≤◌, ◌+◌, [], inl, inr, arith}
use Rattle.std.proofs.lemmas.Bool.{cases_lt}
use Rattle.std.specs.List.{All}
use Rattle.std.proofs.lemmas.List.Elements.{All-cons, All-nil}
use Rattle.buffa_bytes.specs.Varint.{IsByte, shortest, varint_encoding}
use Rattle.buffa_bytes.proofs.ShortestLemmas.{one_byte, more_bytes}

bytes_in : (k n : ℕ) → n ≤ k → All IsByte (shortest k n)
unfolding shortest
bytes_in zero n h = All-cons IsByte n [] (omega arith) (All-nil IsByte)
bytes_in (suc k) n h = elim (cases_lt n 128) [
  | inl small ↦ rw (one_byte (suc k) n small) (All-cons IsByte n [] (omega arith) (All-nil IsByte))
  | inr large ↦ rw (more_bytes k n large) (All-cons IsByte (n % 128 + 128) (shortest k (n / 128)) (omega arith) (bytes_in k (n / 128) (omega arith)))
]

pub encoding_bytes : (n : ℕ) → All IsByte (varint_encoding n)
unfolding varint_encoding
encoding_bytes n = bytes_in n n (omega arith)
