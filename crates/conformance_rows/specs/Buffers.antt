-- What a buffer of any kind has left.
use Rattle.std.specs.Prelude.{List, ℕ}
use Rattle.conformance_rows.specs.declared.any_buf.AnyBuf.{AnyBuf}
use Rattle.conformance_rows.specs.declared.any_buf.AnyBuf.TheVariants.{Cut, Shared, Slice}

abbrev pub bytes_left : AnyBuf → List ℕ
bytes_left (Slice bytes) = bytes.now
bytes_left (Shared bytes) = bytes
bytes_left (Cut pieces) = pieces
