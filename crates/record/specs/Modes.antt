-- The modes by their names.
use Rattle.std.specs.Prelude.{ℕ, Bool, ◌||◌, eqb}

abbrev pub pos : ℕ
pos = 1

abbrev pub pre : ℕ
pre = 2

abbrev pub vyl : ℕ
vyl = 3

abbrev pub zav : ℕ
zav = 4

abbrev pub pre_or_vyl : ℕ → Bool
pre_or_vyl mode = eqb mode pre || eqb mode vyl
