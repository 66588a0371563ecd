-- `put_u16s` writes the two bytes of each u16. The loop's invariant: what is left, written from its place on, makes the whole.
use Prim.Native.Nat.{◌+◌, ◌*◌, ◌≤◌}
use mathlib.Core.Path.{◌≡◌}
use mathlib.Core.List.{flat_map}
use lib.ListN.{length, drop}
use Rattle.layout.specs.Layout.{u16_bytes, written}
use Rattle.layout.proofs.put_u16s.Given as goal

abbrev pub invariant-loop-i : goal.invariant-loop-i
invariant-loop-i l =
    (l.i ≤ length l.new)
    × (written l.bytes (l.at + 2 * l.i) (flat_map u16_bytes (drop l.i l.new)) ≡ written l.initial.bytes l.at (flat_map u16_bytes l.new))
