-- What a reading of the front of some bytes answers.
use Rattle.std.specs.Prelude.{◌≡◌, ℕ, ◌+◌, ◌<◌, ◌≤◌, List, ◌++◌, length}
use Rattle.buffa_bytes.specs.Varint.{Continue, IsVarint, base128}
use Rattle.buffa_frames.specs.Frames.{IsNoFrame, NeedsMore}
use Rattle.buffa_frames.specs.declared.at_front.Front.{Front}
use Rattle.buffa_frames.specs.declared.at_front.Front.TheVariants.{Frame, More, Refused}
use Rattle.buffa_frames.specs.declared.at_front.LengthFront.{LengthFront}
use Rattle.buffa_frames.specs.declared.at_front.LengthFront.TheVariants as of_length

-- a frame of a body of at most so many bytes begins these bytes: the body's begin and end are these places
pub record IsFrameAt (maximum : ℕ) (bytes : List ℕ) (start end : ℕ) : Type 0 where
  pub spelling : List ℕ
  pub body : List ℕ
  pub rest : List ℕ
  pub split : bytes ≡ spelling ++ (body ++ rest)
  pub is_length : IsVarint spelling (length body)
  pub within : length body ≤ maximum
  pub starts : start ≡ length spelling
  pub ends : end ≡ start + length body

-- the answer is what the bytes have at the front
abbrev pub ReadsFront : ℕ → List ℕ → Front → Type 0
ReadsFront maximum bytes (Frame start end) = IsFrameAt maximum bytes start end
ReadsFront maximum bytes (More fewest) = NeedsMore maximum bytes fewest
ReadsFront maximum bytes (Refused fault) = IsNoFrame maximum bytes fault

-- a spelling of a length that isn't above the maximum begins these bytes, and has so many
abbrev pub HasLength : ℕ → List ℕ → ℕ → ℕ → Type 0
HasLength maximum bytes n digits = (spelling : List ℕ) × (rest : List ℕ) × IsVarint spelling n × (bytes ≡ spelling ++ rest) × (digits ≡ length spelling) × (n ≤ maximum)

-- these bytes begin spellings of lengths, of which the lowest, which isn't above the maximum, is low
abbrev pub BeginsLength : ℕ → List ℕ → ℕ → Type 0
BeginsLength maximum bytes low = Continue bytes × (length bytes < 10) × (low ≡ base128 bytes) × (low ≤ maximum)

-- the answer is what the bytes have of a length at the front
abbrev pub ReadsLength : ℕ → List ℕ → LengthFront → Type 0
ReadsLength maximum bytes (of_length.Whole n digits) = HasLength maximum bytes n digits
ReadsLength maximum bytes (of_length.Begun low) = BeginsLength maximum bytes low
ReadsLength maximum bytes (of_length.Bad fault) = IsNoFrame maximum bytes fault
