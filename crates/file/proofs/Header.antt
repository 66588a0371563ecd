-- A good header gives the file its length, that of the counts, so that each of the cards and runs that it counts is there.
-- The test taken apart into its facts. Assumes nothing.
use Prim.Native.Nat.{ℕ}
use native.Mathlib.Omega.{arith}
use mathlib.Core.Path.{◌≡◌}
use mathlib.Core.Bool.{true}
use mathlib.Core.Logic.{◌↔◌}
use mathlib.Core.List.{List}
use lib.Dec.{eqb}
use lib.ListN.{length}
use borrow.Author.Tests.{eqb-true, eq-eqb}
use Rattle.numbers.proofs.Tests.{and_iff, leb_iff}
use Rattle.file.specs.File.{file_end, header_good}

eqb_iff : (a b : ℕ) → (eqb a b ≡ true) ↔ (a ≡ b)
eqb_iff a b = (eqb-true a b, eq-eqb a b)

pub header_length : (file : List ℕ) → header_good file ≡ true → length file ≡ file_end file
unfolding header_good
header_length file h = omega (arith, simp (and_iff, leb_iff, eqb_iff) at h)
