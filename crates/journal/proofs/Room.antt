-- A tick below the capacity has its place in the journal.
-- By arithmetic.
use Prim.Native.Nat.{ℕ, ◌+◌, ◌*◌, ◌≤◌, ◌<◌}
use native.Mathlib.Omega.{arith}
use Rattle.record.specs.Record.{record_width}
use Rattle.record.specs.Times.{most_ticks}
use Rattle.journal.specs.Journal.{capacity}

pub room : (n length : ℕ) → n < capacity length → (n < most_ticks) × (record_width * n + record_width ≤ length)
unfolding capacity
room n length h = (omega arith, omega arith)
