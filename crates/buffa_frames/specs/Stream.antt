-- What is read of a stream of frames, and what of it is held.
use Rattle.std.specs.Prelude.{◌≡◌, ◌≢◌, ℕ, ◌+◌, ◌<◌, ◌≤◌, Bool, true, false, List, [], ◌++◌, length, Option, None, Some, if◌then◌else◌}
use Rattle.std.specs.Io.KnownBytes.{Consumes, IsAtEnd, Keeps}
use Rattle.buffa_frames.specs.Frames.{IsFrame, IsNoFrame, NeedsMore, TakesFrame}
use Rattle.buffa_frames.specs.declared.error.FrameFault.{FrameFault}
use Rattle.buffa_frames.specs.declared.error.FrameError.{FrameError}
use Rattle.buffa_frames.specs.declared.error.FrameError.TheVariants.{Refused, Cut, Stream, OutOfMemory}

-- the bytes that a stream is known to have
abbrev pub StreamBytes : Type 0
StreamBytes = Option (List ℕ)

-- these bytes are a frame of a body of at most so many bytes
abbrev pub IsFrameWithin : ℕ → List ℕ → Type 0
IsFrameWithin maximum frame = (body : List ℕ) × IsFrame frame body × (length body ≤ maximum)

-- such a frame begins these bytes where others follow them, and not yet
abbrev pub IsBegun : ℕ → List ℕ → Type 0
IsBegun maximum held = (fewest : ℕ) × NeedsMore maximum held fewest

-- No byte was read in vain: no beginning of the bytes that isn't all of them has a frame at its front, and none is refused.
abbrev pub IsPart : ℕ → List ℕ → Type 0
IsPart maximum held =
    (front rest : List ℕ) → held ≡ front ++ rest → 0 < length rest →
    ((body behind : List ℕ) → TakesFrame maximum front body behind → ⊥) × ((fault : FrameFault) → IsNoFrame maximum front fault → ⊥)

-- the bytes that are held of a frame that wasn't given
abbrev pub pending : Bool → List ℕ → List ℕ
pending given held = if given then [] else held

-- what was read of the stream stands behind what was held
abbrev pub ReadsOn : List ℕ → List ℕ → StreamBytes → StreamBytes → Type 0
ReadsOn held holds old new = (read : List ℕ) × (holds ≡ held ++ read) × Consumes old new read

-- a frame is held; or the stream ends, and nothing is held
abbrev pub Fills : ℕ → List ℕ → StreamBytes → Bool → Type 0
Fills maximum held left true = IsFrameWithin maximum held
Fills maximum held left false = (held ≡ []) × IsAtEnd left

-- the next frame's body is given, behind what was held of it; or the stream ends in front of one
abbrev pub GivesNext : ℕ → List ℕ → StreamBytes → StreamBytes → Option (List ℕ) → Type 0
GivesNext maximum held old left (Some body) = (frame : List ℕ) × IsFrame frame body × (length body ≤ maximum) × ReadsOn held frame old left
GivesNext maximum held old left None = (held ≡ []) × Consumes old left [] × IsAtEnd left

-- why no frame is held: the bytes that are held are refused; or more are wanted, and the stream ends behind some of them, or it
-- failed, or there was no room for them
abbrev pub StopsFrame : ℕ → List ℕ → StreamBytes → FrameError → Type 0
StopsFrame maximum held left (Refused fault) = IsNoFrame maximum held fault
StopsFrame maximum held left Cut = IsBegun maximum held × (held ≢ []) × IsAtEnd left
StopsFrame maximum held left (Stream error) = IsBegun maximum held
StopsFrame maximum held left OutOfMemory = IsBegun maximum held

-- ---- one read

-- so many bytes are missing of the frame at the front: with fewer it has only begun, and where none is, it is there
abbrev pub IsMissing : ℕ → List ℕ → ℕ → Type 0
IsMissing maximum held missing =
    ((more : List ℕ) → length more < missing → IsBegun maximum (held ++ more))
    × (0 < missing → length held + missing ≤ maximum + 10)
    × (missing ≡ 0 → (body : List ℕ) × (rest : List ℕ) × TakesFrame maximum held body rest)

-- n bytes were read, no more than were missing, and none only at the stream's end
abbrev pub ReadsBehind : ℕ → ℕ → List ℕ → List ℕ → StreamBytes → StreamBytes → Type 0
ReadsBehind n missing held holds old new =
    (read : List ℕ) × (holds ≡ held ++ read) × (length read ≡ n) × (n ≤ missing) × Consumes old new read × (n ≡ 0 → IsAtEnd new)

-- the stream failed, or there was no room
abbrev pub IsOfStream : FrameError → Type 0
IsOfStream (Stream error) = Unit {0}
IsOfStream OutOfMemory = Unit {0}
IsOfStream _ = ⊥

-- so nothing was read
abbrev pub IsHindered : FrameError → List ℕ → List ℕ → StreamBytes → StreamBytes → Type 0
IsHindered e held holds old new = IsOfStream e × (holds ≡ held) × Keeps old new
