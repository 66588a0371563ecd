-- Step 10: what lets a cause go, and which are held then.
use Rattle.std.specs.Prelude.{ℕ, Bool, not, ◌&&◌, ◌||◌, cond, leb, eqb}
use Rattle.record.specs.declared.Record.{Record}
use Rattle.record.specs.declared.Keys.{Keys}
use Rattle.causes.specs.Causes.{Causes}

-- a vigilance press lets go NZ1, NZ3 if v = 0; NZ2 if v ≤ P; NZ4 if v = 0 and remote stop off; NZ5 always
unfoldable pub released : ℕ → Record → Keys → Causes
released p reading keys =
    record {
      nz1 = keys.vigilance && eqb reading.v 0;
      nz2 = keys.vigilance && leb reading.v p;
      nz3 = keys.vigilance && eqb reading.v 0;
      nz4 = keys.vigilance && eqb reading.v 0 && not keys.remote;
      nz5 = keys.vigilance;
    }

-- a triggered cause is held; one not triggered is let go where it may be
abbrev pub keeps : Bool → Bool → Bool → Bool
keeps held triggered free = triggered || (held && not free)

abbrev pub lets_go : Bool → Bool → Bool → Bool
lets_go held triggered free = held && not triggered && free

unfoldable pub step_10_held : Causes → Causes → Causes → Causes
step_10_held held triggered free =
    record {
      nz1 = keeps held.nz1 triggered.nz1 free.nz1;
      nz2 = keeps held.nz2 triggered.nz2 free.nz2;
      nz3 = keeps held.nz3 triggered.nz3 free.nz3;
      nz4 = keeps held.nz4 triggered.nz4 free.nz4;
      nz5 = keeps held.nz5 triggered.nz5 free.nz5;
    }

-- letting NZ3 go sets d = 0
unfoldable pub step_10_wrongway : ℕ → Causes → Causes → Causes → ℕ
step_10_wrongway wrongway held triggered free = cond (lets_go held.nz3 triggered.nz3 free.nz3) 0 wrongway
