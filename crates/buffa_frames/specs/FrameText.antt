-- The texts of faults of frames, and of a reader's errors.
use Rattle.std.specs.Prelude.{ℕ, List, Option, None, Some, codes}
use Rattle.buffa_frames.specs.declared.error.FrameFault.{FrameFault}
use Rattle.buffa_frames.specs.declared.error.FrameFault.TheVariants.{MalformedLength, TooLong}
use Rattle.buffa_frames.specs.declared.error.FrameError.{FrameError}
use Rattle.buffa_frames.specs.declared.error.FrameError.TheVariants.{Refused, Cut, Stream, OutOfMemory}

-- the text of a fault of a frame
abbrev pub frame_fault_text : FrameFault → List ℕ
frame_fault_text MalformedLength = codes "MalformedLength"
frame_fault_text TooLong = codes "TooLong"

-- the text of an error of a reader; that of a stream's own error isn't known
abbrev pub frame_error_text : FrameError → Option (List ℕ)
frame_error_text (Refused fault) = Some (frame_fault_text fault)
frame_error_text Cut = Some (codes "Cut")
frame_error_text (Stream error) = None
frame_error_text OutOfMemory = Some (codes "OutOfMemory")
