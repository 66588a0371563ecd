-- What a turn reads stands behind what was filled before it.
use Rattle.std.proofs.Common.{◌≡◌, ℕ, ◌+◌, ◌-◌, ◌≤◌, List, ◌++◌, arith, rules, length, take, slice_range, sym, ap, ◌∙◌, subst, le_refl}
use Rattle.std.proofs.Common.{drop_at, length-take-le}
use Rattle.std.proofs.lemmas.Slice.{take-put_mid_below}
use Rattle.std.proofs.KnownBytes.{Consumes-trans}
use Rattle.std.specs.Io.KnownBytes.{Consumes}
use borrow.Rule.Slice.PartMut.{put_mid, post_of}
use lib.Seq.{take-add, take-append-le}
use Rattle.input.proofs.fill.Goals as goal

-- the list up to b is what it was up to a, and then its part from a to b
take_split : (a b : ℕ) (old new : List ℕ) → a ≤ b → take a new ≡ take a old → take a old ++ slice_range new a b ≡ take b new
take_split a b old new h front =
    let same : a + (b - a) ≡ b = omega arith in
    ap (λ l. l ++ slice_range new a b) (sym front) ∙ sym (take-add a (b - a) new) ∙ ap (λ n. take n new) same

-- the part that was written over from a on begins with what was written
part_written : (a k n : ℕ) (xs ys : List ℕ) → a ≤ length xs → n ≤ length ys → slice_range (put_mid a k xs ys) a (a + n) ≡ take n ys
part_written a k n xs ys within fits =
    let same : (a + n) - a ≡ n = omega arith in
    let after = post_of a k xs in
    let from_here = ap (take ((a + n) - a)) (drop_at (take a xs) (ys ++ after) a (length-take-le a xs within)) in
    from_here ∙ ap (λ m. take m (ys ++ after)) same ∙ take-append-le n ys after fits

pub loop-n-preserved : goal.loop-n-preserved
loop-n-preserved g c =
    let from = c.loop-n.n in
    let more = c.in_ok-more.more in
    let old = c.loop-n.buffer in
    let room = length old - from in
    let new = put_mid from room old c.read.new.buf in
    let within = c.loop-n.invariant.1 in
    let part = part_written from room more old c.read.new.buf within c.in_ok-more.ensures.bound.0 in
    let joined = take_split from (from + more) old new (omega arith) (take-put_mid_below _ _ _ _ _ (le_refl _) within) in
    let taken = Consumes-trans _ _ _ _ _ c.loop-n.invariant.2 c.in_ok-more.ensures.bytes.0 in
    (search rules, search rules, subst (Consumes _ _) (ap (λ l. take from old ++ l) (sym part) ∙ joined) taken)
