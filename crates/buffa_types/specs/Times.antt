-- Points in time and lengths of time, as the comments of google/protobuf/timestamp.proto and duration.proto have them.
use Rattle.std.specs.Prelude.{ℤ, pos, neg_ℤ, ◌+ℤ◌, ◌*ℤ◌, ◌≤ℤ◌, ◌<ℤ◌}

abbrev pub IsBetween : ℤ → ℤ → ℤ → Type 0
IsBetween low high z = (low ≤ℤ z) × (z ≤ℤ high)

-- Seconds and nanoseconds as nanoseconds alone.
abbrev pub nanoseconds : ℤ → ℤ → ℤ
nanoseconds seconds nanos = seconds *ℤ pos 1_000_000_000 +ℤ nanos

-- The seconds since 1970-01-01T00:00:00Z, and the nanoseconds behind them, of a point from 0001-01-01T00:00:00Z, which is
-- 719,162 days of 86,400 seconds before, to the last nanosecond of 9999-12-31, whose end is 2,932,897 days behind.
abbrev pub IsTimestamp : ℤ → ℤ → Type 0
IsTimestamp seconds nanos = IsBetween (neg_ℤ (pos 62_135_596_800)) (pos 253_402_300_799) seconds × IsBetween (pos 0) (pos 999_999_999) nanos

-- The nanoseconds since 1970-01-01T00:00:00Z of such a point.
abbrev pub IsInstant : ℤ → Type 0
IsInstant = IsBetween (neg_ℤ (pos 62_135_596_800_000_000_000)) (pos 253_402_300_799_999_999_999)

-- One isn't more than 0 where the other is less.
abbrev pub HaveOneSign : ℤ → ℤ → Type 0
HaveOneSign a b = (pos 0 <ℤ a → pos 0 ≤ℤ b) × (a <ℤ pos 0 → b ≤ℤ pos 0)

-- The seconds of a length of time, and the nanoseconds besides: some 10,000 years of 365.25 days at most, forward or back.
abbrev pub IsDuration : ℤ → ℤ → Type 0
IsDuration seconds nanos = IsBetween (neg_ℤ (pos 315_576_000_000)) (pos 315_576_000_000) seconds
    × IsBetween (neg_ℤ (pos 999_999_999)) (pos 999_999_999) nanos × HaveOneSign seconds nanos

-- The nanoseconds of such a length.
abbrev pub IsLength : ℤ → Type 0
IsLength = IsBetween (neg_ℤ (pos 315_576_000_000_999_999_999)) (pos 315_576_000_000_999_999_999)
