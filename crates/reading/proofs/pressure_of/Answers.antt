-- `pressure_of` meets its contract: of an x that is at least zero each test of the code is one of the definition's on its fraction.
use mathlib.Core.Path.{◌≡◌, refl, sym, ◌∙◌}
use Prim.Native.Nat.{◌*◌}
use native.Mathlib.Nat.{one-mul}
use mathlib.Core.Bool.{Bool, true, false, cond, ◌&&◌}
use lib.Dec.{leb, ltb}
use lib.IntN.{pos, negsuc}
use lib.Ieee.{Float, nan, inf, fin, up, le, lt, of_bits}
use Rattle.reading.specs.Number.{quantity}
use Rattle.reading.specs.Pressure.{band_at, pressure_at, pressure_of}
use Rattle.std.proofs.Common.{ℕ, Result, Ok, Err}
use Rattle.refusal.specs.declared.Refusal.{Refusal}
use Rattle.refusal.specs.declared.Refusal.TheVariants.{BadPressure}
use Rattle.reading.proofs.Number.{zero, refused, lt_is, le_is}
use Rattle.reading.proofs.pressure_of.Goals as goal

-- the answer, by what `x <= 10.0`, `x < 3.5` and `x < 4.5` say
abbrev answer : Bool → Bool → Bool → Result ℕ Refusal
answer a b c = cond a (Ok (cond b 0 (cond c 1 2))) (Err BadPressure)

by_tests : (x : Float) (a b c : Bool) → le zero x ≡ true
    → le x (fin false 5 (pos 1)) ≡ a → lt x (fin false 7 (negsuc 0)) ≡ b → lt x (fin false 9 (negsuc 0)) ≡ c
    → answer a b c ≡ pressure_of x
unfolding quantity pressure_of pressure_at band_at
by_tests x a b c h α β γ = go x (sym (le_is x 5 (pos 1) h) ∙ α) (sym (lt_is x 7 (negsuc 0) h) ∙ β) (sym (lt_is x 9 (negsuc 0) h) ∙ γ)
  where
    go : (x : Float) → quantity false (λ n d. leb (1 * n) (10 * d)) x ≡ a
        → quantity false (λ n d. ltb (2 * n) (7 * d)) x ≡ b → quantity false (λ n d. ltb (2 * n) (9 * d)) x ≡ c
        → answer a b c ≡ pressure_of x
    go nan α β γ = rw (← α)
    go (inf s) α β γ = rw (← α)
    go (fin s m e) α β γ = rw (← α, ← β, ← γ, one-mul (m * up e)) (spread (s && ltb 0 m) _ _ _)
      where
        spread : (t a b c : Bool) → answer (cond t false a) (cond t false b) (cond t false c) ≡ cond t (Err BadPressure) (answer a b c)
        spread true a b c = refl
        spread false a b c = refl

pub returns-then-x-3 : goal.returns-then-x-3
unfolding of_bits
returns-then-x-3 c = by_tests _ true true _ c.if-x.true c.if-x-2.true c.if-x-3.true refl

pub returns-then-x-4 : goal.returns-then-x-4
unfolding of_bits
returns-then-x-4 c = by_tests _ true false true c.if-x.true c.if-x-2.true c.if-x-3.false c.if-x-4.true

pub returns-then-x-2 : goal.returns-then-x-2
unfolding of_bits
returns-then-x-2 c = by_tests _ true false false c.if-x.true c.if-x-2.true c.if-x-3.false c.if-x-4.false

pub returns-else-x-2 : goal.returns-else-x-2
unfolding of_bits
returns-else-x-2 c = by_tests _ false _ _ c.if-x.true c.if-x-2.false refl refl

pub returns-else-x : goal.returns-else-x
unfolding of_bits pressure_of
returns-else-x c = sym (refused _ _ _ c.if-x.false)
