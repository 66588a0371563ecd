-- The curve's value is the largest w, and the only one; speeds are compared with it by their squares; and a curve that is not over is within its range of E.
-- A square grows with its side, by multiplying out. Assumes nothing.
use Prim.Native.Nat.{ℕ, zero, suc, ◌+◌, ◌*◌, ◌/◌, ◌^◌, ◌≤◌, ◌<◌}
use mathlib.Core.Path.{◌≡◌, refl, sym, ◌∙◌}
use mathlib.Core.Bool.{Bool, true, false}
use mathlib.Core.Logic.{⊎_elim}
use native.Mathlib.Nat.{mul-le-mul, mul-le-mul_left}
use native.Mathlib.Omega.{arith}
use borrow.Author.Tests.{leb-true, leb-false, ltb-false, lt-ltb, le-ltb, eq-eqb, ne_eqb, eqb-false}
use lib.Dec.{leb, ltb, eqb}
use Rattle.numbers.proofs.Tests.{le_or_lt}
use Rattle.card.specs.declared.Card.{Card}
use Rattle.card.specs.Card.{CardRanges, most_deceleration}
use Rattle.reading.specs.Speed.{top_speed}
use Rattle.signal.specs.declared.Curve.{Curve}
use Rattle.signal.specs.Ranges.{CurveRanges, farthest, farthest_ahead}
use Rattle.signal.specs.Value.{five_squares, Largest, curve_bound, next_if_fits, largest_of, curve_value}

pub squares_grow : {a b : ℕ} → a ≤ b → five_squares a ≤ five_squares b
squares_grow p = mul-le-mul_left 5 (mul-le-mul p p)

-- what fits under the square of the highest speed is no higher
pub speed_by_squares : {w : ℕ} → five_squares w ≤ five_squares top_speed → w ≤ top_speed
speed_by_squares {w} h =
    ⊎_elim (λ p. p) (λ p. absurd (omega (arith, squares_grow {a = top_speed + 1} {b = w} (omega arith)))) (le_or_lt w top_speed)

-- from the largest for a quarter of the bound to that for the bound
doubled : (bound w : ℕ) → Largest (bound / 4) w → Largest bound (next_if_fits bound (2 * w))
doubled bound w quarter = go (leb (five_squares (2 * w + 1)) bound) refl
  where
    go : (t : Bool) → leb (five_squares (2 * w + 1)) bound ≡ t → Largest bound (next_if_fits bound (2 * w))
    go true e = rw e (record { fits = leb-true _ _ e; next_does_not = omega (arith, quarter) })
    go false e = rw e (record { fits = omega (arith, quarter); next_does_not = leb-false _ _ e })

-- so many digits are enough below five times their power of 4
pub found : (digits bound : ℕ) → bound < 5 * 4 ^ digits → Largest bound (largest_of digits bound)
unfolding largest_of
found zero bound h = record { fits = omega arith; next_does_not = omega arith }
found (suc digits) bound h = doubled bound (largest_of digits (bound / 4)) (found digits (bound / 4) (omega arith))

module _ {bound w : ℕ} (largest : Largest bound w) where
  -- what fits is no larger
  pub fits_most : {x : ℕ} → five_squares x ≤ bound → x ≤ w
  fits_most {x} h = ⊎_elim (λ p. p) (λ p. absurd (omega (arith, largest.next_does_not, squares_grow {a = w + 1} {b = x} (omega arith)))) (le_or_lt x w)

  -- a speed is above the largest exactly when its square is above the bound
  pub above_by_squares : (x : ℕ) → ltb w x ≡ ltb bound (five_squares x)
  above_by_squares x =
      ⊎_elim
      (λ p. le-ltb w x p ∙ sym (le-ltb bound (five_squares x) (omega (arith, largest.fits, squares_grow p))))
      (λ p. lt-ltb w x p ∙ sym (lt-ltb bound (five_squares x) (omega (arith, largest.next_does_not, squares_grow {a = w + 1} {b = x} (omega arith)))))
      (le_or_lt x w)

-- the root of a fifth of the bound
pub root_largest : {bound w : ℕ} → w * w ≤ bound / 5 → bound / 5 < (w + 1) * (w + 1) → Largest bound w
root_largest p q = omega arith

-- there is one such w
pub only : {bound a b : ℕ} → Largest bound a → Largest bound b → a ≡ b
only p q = omega (arith, fits_most p q.fits, fits_most q p.fits)

-- a number that is no lower than another equals it where it is below the next
least_equal : {least x : ℕ} → least ≤ x → eqb x least ≡ ltb x (least + 1)
least_equal {least} {x} p =
    ⊎_elim
    (λ q. eq-eqb x least (omega arith) ∙ sym (lt-ltb x (least + 1) (omega arith)))
    (λ q. ne_eqb x least (omega arith) ∙ sym (le-ltb x (least + 1) (omega arith)))
    (le_or_lt x least)

-- r·E fits a u32
pub spent_most : (card : Card) (driven : ℕ) → CardRanges card → driven ≤ farthest_ahead
    → card.deceleration * driven ≤ most_deceleration * farthest_ahead
spent_most card driven good p = mul-le-mul good.deceleration_most p

module _ (card : Card) (curve : Curve) (t driven : ℕ) (good : CurveRanges curve) (t_most : t ≤ top_speed) where
  pub bound_most : curve_bound card curve t driven ≤ five_squares top_speed
  unfolding curve_bound
  bound_most = omega (arith, squares_grow t_most, squares_grow good.start_most)

  pub value_largest : Largest (curve_bound card curve t driven) (curve_value card curve t driven)
  unfolding curve_value
  value_largest = found 12 (curve_bound card curve t driven) (omega (arith, bound_most))

  -- the root of a fifth of the bound is the curve's value
  pub root_value : (w : ℕ) → w * w ≤ curve_bound card curve t driven / 5 → curve_bound card curve t driven / 5 < (w + 1) * (w + 1)
      → w ≡ curve_value card curve t driven
  root_value w p q = only (root_largest p q) value_largest

  pub value_most : curve_value card curve t driven ≤ top_speed
  value_most = speed_by_squares (omega (arith, value_largest.fits, bound_most))

  pub value_least : t ≤ curve_value card curve t driven
  unfolding curve_bound
  value_least = fits_most value_largest (omega arith)

  -- a curve is over exactly when the next speed above T does not fit
  pub over_by_squares : eqb (curve_value card curve t driven) t ≡ ltb (curve_bound card curve t driven) (five_squares (t + 1))
  over_by_squares = least_equal value_least ∙ above_by_squares value_largest (t + 1)

  -- with r ≥ 5 and V0 ≤ 2500, r·E is 5·V0² or more from E = 6,250,000 on
  pub unspent : CardRanges card → (curve_value card curve t driven ≡ t → ⊥) → driven < farthest
  unfolding curve_bound
  unspent card_good n =
      let higher : five_squares (t + 1) ≤ curve_bound card curve t driven = ltb-false _ _ (sym over_by_squares ∙ ne_eqb _ _ n) in
      omega (arith, squares_grow good.start_most, mul-le-mul_left driven card_good.deceleration_least)

  -- so where the next speed above T fits, E is in range
  pub not_over_most : CardRanges card → ltb (curve_bound card curve t driven) (five_squares (t + 1)) ≡ false → driven ≤ farthest
  not_over_most card_good e = omega (arith, unspent card_good (eqb-false _ _ (over_by_squares ∙ e)))
