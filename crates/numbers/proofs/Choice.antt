-- A choice by a yes or no: what holds of it, from what holds of its arms, of which each may use the answer.
-- By cases on the Bool. Assumes nothing.
use Prim.Native.Nat.{ℕ, ◌≤◌}
use mathlib.Core.Path.{◌≡◌, refl}
use mathlib.Core.Bool.{Bool, true, false, cond, true≢false, false≢true}
use mathlib.Core.Logic.{◌↔◌}
use native.Mathlib.Omega.{arith}

pub cond_iff : {A : Type 0} (P : A → Type 0) (b : Bool) (x y : A) → P (cond b x y) ↔ ((b ≡ true → P x) × (b ≡ false → P y))
cond_iff P true x y = (λ p. (λ e. p, λ e. absurd (true≢false e)), λ h. h.0 refl)
cond_iff P false x y = (λ p. (λ e. absurd (false≢true e), λ e. p), λ h. h.1 refl)

pub cond_has : {A : Type 0} (P : A → Type 0) (b : Bool) {x y : A} → P x → P y → P (cond b x y)
cond_has P b {x} {y} p q = (cond_iff P b x y).1 (λ e. p, λ e. q)

-- `simp most_iff` leaves the bound of each arm to `omega`
pub most_iff : (b : Bool) (x y n : ℕ) → (cond b x y ≤ n) ↔ ((b ≡ true → x ≤ n) × (b ≡ false → y ≤ n))
most_iff b x y n = cond_iff (λ i. i ≤ n) b x y

-- what a yes or no weighs
pub weight_most : (b : Bool) (w : ℕ) → cond b w 0 ≤ w
weight_most b w = simp most_iff (omega arith)
