-- What is left is written from its place on: at first that is all, one u16 more leaves the rest, and at the end nothing is left.
use Prim.Native.Nat.{ℕ, ◌+◌, ◌*◌, ◌-◌, ◌≤◌, ◌<◌}
use native.Mathlib.Nat.{add-zero}
use native.Mathlib.Numerals.{add-one}
use native.Mathlib.Omega.{arith}
use mathlib.Core.Path.{◌≡◌, sym, ◌∙◌}
use mathlib.Core.List.{List, [], ◌∷◌, flat_map}
use lib.ListN.{length, get_or, drop, length-drop, drop_of_length-le}
use lib.Seq.{drop-cons}
use Rattle.layout.specs.Layout.{u16_bytes, written}
use Rattle.layout.proofs.Written.{written-append, written-nil}
use Rattle.layout.proofs.U16.{u16s_length}
use Rattle.layout.proofs.put_u16s.Goals as goal

-- one u16 more
again : (l next new : List ℕ) (at i : ℕ) → i < length new → at + 2 * length new ≤ length l
    → next ≡ written l (at + 2 * i) (u16_bytes (get_or new i 0))
    → written next (at + 2 * (i + 1)) (flat_map u16_bytes (drop (i + 1) new)) ≡ written l (at + 2 * i) (flat_map u16_bytes (drop i new))
unfolding flat_map
again l next new at i h fits e =
    let left : length (flat_map u16_bytes (drop (i + 1) new)) ≡ 2 * (length new - (i + 1)) = u16s_length (drop (i + 1) new) ∙ simp length-drop in
    let place : at + 2 * (i + 1) ≡ at + 2 * i + 2 = omega arith in
    let next_left : drop i new ≡ get_or new i 0 ∷ drop (i + 1) new = rw add-one (drop-cons new i 0 h) in
    rw (e, place, next_left)
    (written-append l (at + 2 * i) (u16_bytes (get_or new i 0)) (flat_map u16_bytes (drop (i + 1) new)) (omega arith))

pub loop-i-init : goal.loop-i-init
loop-i-init c = (omega arith, rw add-zero)

pub loop-i-preserved : goal.loop-i-preserved
loop-i-preserved c = (omega arith, again _ _ _ _ _ c.loop-i-test.true (omega arith) c.put_u16.ensures ∙ c.loop-i.invariant.1)

pub returns : goal.returns
unfolding flat_map
returns c =
    let none : drop c.loop-i.i c.args.new.now ≡ [] = drop_of_length-le c.args.new.now {i = c.loop-i.i} (omega arith) in
    sym (written-nil _ _) ∙ rw none at c.loop-i.invariant.1
