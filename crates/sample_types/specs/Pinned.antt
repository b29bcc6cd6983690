-- What a map's way through its bytes, and a proxy, leave open: where memory runs out; and where no order is kept, the order
-- of the pairs, and which walk is written.
use Rattle.std.specs.Prelude.{◌≡◌, ◌≢◌, ℕ, ℤ, Bool, List}
use Rattle.buffa_bytes.specs.declared.error.DecodeError.{DecodeError}
use Rattle.buffa_bytes.specs.declared.error.DecodeError.TheVariants as decode
use Rattle.buffa_bytes.specs.declared.error.EncodeError.TheVariants as encode
use Rattle.buffa_map.specs.Codec.{Writing}
use Rattle.buffa_map.specs.Pairs.{InOrder, SamePairs}
use Rattle.buffa_wire.specs.Records.{Held}
use Rattle.buffa_map.specs.Rewrite.{Ordered}
use Rattle.buffa_map.specs.Run.{EntryRecord}
use Rattle.buffa_map.specs.declared.rewrite.RewriteError.{RewriteError}
use Rattle.buffa_map.specs.declared.rewrite.RewriteError.TheVariants as rewriting
use Rattle.sample_types.specs.Passed.{IsRun, KeepsRun, MeansRun, NotRewritten, Proxy, ReadsRewrite, RunTo, Stopped}
use Rattle.sample_types.specs.RoundTrip.{FitsTrip, RefusesTrip}
use Rattle.sample_types.specs.declared.round_trip.TripFault.{TripFault}
use Rattle.sample_types.specs.declared.round_trip.TripFault.TheVariants.{Decode, Encode}

-- memory ran out
abbrev pub IsFull : TripFault → Type 0
IsFull (Encode encode.OutOfMemory) = Unit {0}
IsFull (Decode decode.OutOfMemory) = Unit {0}
IsFull _ = ⊥

-- A map m comes back in one way only; what came back can't have been refused, memory aside; and there is one fault.
module _ {K V : Type 0} (key : Writing K) (val : Writing V) (cost : ℕ) (eq : K → K → Bool) (keeps : Bool)
    (m : List (K × V)) (Walk : List (K × V) → Type 0) where
  pub record TripIsPinned : Type 0 where
    pub same : (a b : List (K × V)) → SamePairs eq m a → SamePairs eq m b → SamePairs eq a b
    pub order : (a b : List (K × V)) → ((l : List (K × V)) × Walk l × InOrder keeps l a) → ((l : List (K × V)) × Walk l × InOrder keeps l b) → InOrder keeps a b
    pub refused : (f : TripFault) → FitsTrip key val cost eq m Walk → RefusesTrip key val cost eq m Walk f → IsFull f
    pub faults : (f g : TripFault) → RefusesTrip key val cost eq m Walk f → RefusesTrip key val cost eq m Walk g → (IsFull f → ⊥) → (IsFull g → ⊥) → f ≡ g

-- memory ran out as a field was rewritten
abbrev pub IsFullRewrite : RewriteError → Type 0
IsFullRewrite (rewriting.Decode decode.OutOfMemory) = Unit {0}
IsFullRewrite (rewriting.Encode encode.OutOfMemory) = Unit {0}
IsFullRewrite _ = ⊥

-- A field is passed on in one way only: the same entries are kept; where the run is ordered, or the same walk was written,
-- the map has the same pairs; the older reader's map has in any case. What was passed on can't have been refused, memory
-- aside: not to be rewritten, nor, where the same walk was written, to be read.
module _ {K : Type 0} (p : Proxy K) (KeyFits : K → Type 0) (walks : List (K × ℤ) → Type 0) (d n : ℕ) (bytes : List ℕ) where
  abbrev Reads : List (K × ℤ) → List (K × ℤ) → Held → List (K × ℤ) → Held → Type 0
  Reads = ReadsRewrite p KeyFits d n bytes

  pub record PassIsPinned : Type 0 where
    pub records : (old a b : Held) → IsRun p KeyFits d n bytes → KeepsRun p KeyFits d n bytes old a → KeepsRun p KeyFits d n bytes old b → a.records ≡ b.records
    pub ordered : (old a b : List (K × ℤ)) (es fs : List (EntryRecord K ℤ)) → RunTo (p.older d n) bytes es → RunTo (p.newer d n) bytes fs → Ordered (p.newer d n).same es fs →
        MeansRun p KeyFits d n bytes old a → MeansRun p KeyFits d n bytes old b → SamePairs (p.newer d n).same a b
    pub filled : (x y m a b : List (K × ℤ)) (u v w : Held) → Reads x m u a v → Reads y m u b w → SamePairs (p.older d n).same x y
    pub read : (x y m a b : List (K × ℤ)) (u v w : Held) (h : Reads x m u a v) (k : Reads y m u b w) →
        h.rewritten.rewrites.rewrite.0 ≡ k.rewritten.rewrites.rewrite.0 → SamePairs (p.newer d n).same a b × (v.records ≡ w.records)
    pub rewritten : (x y m a : List (K × ℤ)) (u v : Held) (e : RewriteError) → Reads x m u a v → NotRewritten p KeyFits d n bytes walks y e → IsFullRewrite e
    pub stopped : (x y m a b : List (K × ℤ)) (u v w : Held) (f : DecodeError) (h : Reads x m u a v) (k : Stopped p KeyFits d n bytes y m u b w f) →
        h.rewritten.rewrites.rewrite.0 ≡ k.rewritten.rewrites.rewrite.0 → f ≢ decode.OutOfMemory → ⊥
