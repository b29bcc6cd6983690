-- Frames: bodies one after the other, each behind its length.
-- Source: the documentation of Protocol Buffers, "Techniques", "Streaming Multiple Messages"; the length is a varint, as in the encoding
-- guide's "Length-Delimited Records".
use Rattle.std.specs.Prelude.{◌≡◌, ℕ, ◌<◌, ◌≤◌, List, [], ◌∷◌, ◌++◌, length}
use Rattle.std.specs.List.{All}
use Rattle.buffa_bytes.specs.Varint.{IsByte, IsVarint, TakesVarint, VarintFault}
use Rattle.buffa_bytes.specs.Field.{TakesDelimited}
use Rattle.buffa_bytes.specs.Values.{delimited_encoding}
use Rattle.buffa_bytes.specs.declared.error.DecodeError.TheVariants.{VarintTooLong}
use Rattle.buffa_frames.specs.declared.error.FrameFault.{FrameFault}
use Rattle.buffa_frames.specs.declared.error.FrameFault.TheVariants.{MalformedLength, TooLong}

-- frame is a length, in any spelling of a varint, and the body, which has so many bytes
abbrev pub IsFrame : List ℕ → List ℕ → Type 0
IsFrame frame body = (spelling : List ℕ) × IsVarint spelling (length body) × (frame ≡ spelling ++ body)

-- bytes are frames of these bodies, one after the other
abbrev pub AreFrames : List (List ℕ) → List ℕ → Type 0
AreFrames [] bytes = bytes ≡ []
AreFrames (body ∷ bodies) bytes = (frame : List ℕ) × (rest : List ℕ) × IsFrame frame body × (bytes ≡ frame ++ rest) × AreFrames bodies rest

-- the frames that are written for these bodies: each length in its shortest spelling
abbrev pub frames_encoding : List (List ℕ) → List ℕ
frames_encoding [] = []
frames_encoding (body ∷ bodies) = delimited_encoding body ++ frames_encoding bodies

-- ---- the front of some bytes, of which more may follow

-- a frame of a body of at most so many bytes begins these bytes, and rest follows it
abbrev pub TakesFrame : ℕ → List ℕ → List ℕ → List ℕ → Type 0
TakesFrame maximum bytes body rest = TakesDelimited bytes body rest × (length body ≤ maximum)

-- with more behind them, such a frame begins these bytes
abbrev pub Completes : ℕ → List ℕ → List ℕ → Type 0
Completes maximum bytes more = (body : List ℕ) × (rest : List ℕ) × TakesFrame maximum (bytes ++ more) body rest

-- such a frame begins these bytes where others follow them: at least so many, and so many can do
pub record NeedsMore (maximum : ℕ) (bytes : List ℕ) (fewest : ℕ) : Type 0 where
  pub some : 0 < fewest
  pub least : (more : List ℕ) → Completes maximum bytes more → fewest ≤ length more
  pub more : List ℕ
  pub bytes_all : All IsByte more
  pub many : length more ≡ fewest
  pub completes : Completes maximum bytes more

-- Some beginning of these bytes begins lengths, and all that it begins are above the maximum.
pub record IsTooLong (maximum : ℕ) (bytes : List ℕ) : Type 0 where
  pub front : List ℕ
  pub rest : List ℕ
  pub split : bytes ≡ front ++ rest
  pub begins : (more : List ℕ) × (n : ℕ) × (behind : List ℕ) × TakesVarint (front ++ more) n behind
  pub above : (more : List ℕ) (n : ℕ) (behind : List ℕ) → TakesVarint (front ++ more) n behind → maximum < n

-- why: some beginning of the bytes shows that the length is above the maximum; or none does, and the first ten bytes are no varint
abbrev pub WhyRefused : ℕ → List ℕ → FrameFault → Type 0
WhyRefused maximum bytes MalformedLength = VarintFault bytes VarintTooLong × (IsTooLong maximum bytes → ⊥)
WhyRefused maximum bytes TooLong = IsTooLong maximum bytes

-- nothing that may follow these bytes makes such a frame of them, and why
pub record IsNoFrame (maximum : ℕ) (bytes : List ℕ) (fault : FrameFault) : Type 0 where
  pub never : (more : List ℕ) → Completes maximum bytes more → ⊥
  pub why : WhyRefused maximum bytes fault
