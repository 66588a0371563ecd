-- A float as a quantity, which is never below zero.
use Rattle.std.specs.Prelude.{ℕ, ◌*◌, ◌&&◌, cond, ltb, Float}
use Rattle.std.specs.Float.{nan, inf, fin}
use Rattle.std.specs.Float.Ieee.{up, down}

-- "Refused: NaN, infinity, below zero, .. Minus zero counts as zero." Any other float is exactly a fraction n / d, and gets the answer `taken n d`.
-- A float is no number, an infinity, or ± m * 2 ^ e, where 2 ^ e is the fraction up e / down e.
unfoldable pub quantity : {A : Type 0} → A → (ℕ → ℕ → A) → Float → A
quantity refused taken nan = refused
quantity refused taken (inf minus) = refused
quantity refused taken (fin minus m e) = cond (minus && ltb 0 m) refused (taken (m * up e) (down e))
