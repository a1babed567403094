-- The version of the library.
-- Assumes nothing.
use Rattle.std.specs.Prelude.{ℕ, ◌+◌, ◌*◌}

-- a version as one number
abbrev pub version_number : (major minor patch : ℕ) → ℕ
version_number major minor patch = major * 10000 + minor * 100 + patch
