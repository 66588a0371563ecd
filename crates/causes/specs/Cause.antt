-- The five causes by name, and whether one is among causes that are held, or triggered.
use Rattle.std.specs.Prelude.{Bool}
use Rattle.causes.specs.Causes.{Causes}

pub data Cause : Type 0 where
  NZ1 : Cause
  NZ2 : Cause
  NZ3 : Cause
  NZ4 : Cause
  NZ5 : Cause

unfoldable pub among : Cause → Causes → Bool
among NZ1 causes = causes.nz1
among NZ2 causes = causes.nz2
among NZ3 causes = causes.nz3
among NZ4 causes = causes.nz4
among NZ5 causes = causes.nz5
