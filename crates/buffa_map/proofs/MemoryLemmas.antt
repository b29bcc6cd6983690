-- Where reading takes memory, and where out of memory is never told.
use Rattle.std.proofs.Common.{◌≡◌, ◌<◌, ℕ, zero, suc, true, List, Result, Ok, Err, ap, arith}
use Rattle.buffa_bytes.proofs.FullLemmas.{varint_no_full}
use Rattle.buffa_bytes.specs.declared.error.DecodeError.{DecodeError}
use Rattle.buffa_bytes.specs.declared.error.DecodeError.TheVariants.{OutOfMemory}
use Rattle.buffa_bytes.specs.Readings.{varint_at, ◌>>=◌}
use Rattle.buffa_bytes.specs.Values.{int32_at}
use Rattle.buffa_map.specs.Codec.{level}

-- a level is left to no depth of 0
pub depth_left : (d : ℕ) → level true d ≡ Ok tt → 0 < d
depth_left zero h = cc
depth_left (suc d) h = omega arith

bind_fault : {A B : Type 0} (r : Result A DecodeError) (f : A → B) (e : DecodeError) → (r >>= (λ p. let x : B = f p in Ok x)) ≡ Err e → r ≡ Err e
bind_fault (Ok p) f e h = cc
bind_fault (Err d) f e h = let same : d ≡ e = cc in ap (λ z. Err z) same

pub int32_no_full : {P : Type 0} (bs : List ℕ) (e : DecodeError) → int32_at bs ≡ Err e → e ≡ OutOfMemory → P
int32_no_full bs e h = varint_no_full bs e (bind_fault (varint_at bs) _ e h)
