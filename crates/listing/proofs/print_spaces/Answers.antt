-- Spaces behind spaces are as many as both.
use Rattle.std.proofs.Common.{◌≡◌, ℕ, ◌+◌, ◌*◌, ◌%◌, List, OnOk, Result, arith, ap, ◌∙◌, subst}
use Rattle.std.proofs.lemmas.List.{replicate-append-replicate, take-replicate}
use Rattle.std.proofs.KnownBytes.{Appends-trans}
use Rattle.std.specs.Io.KnownBytes.{Appends}
use Rattle.std.specs.declared.option.Option.{Option}
use Rattle.std.specs.declared.result.Result.TheVariants.{Ok, Err}
use Rattle.listing.specs.Printed.{spaces}
use Rattle.listing.proofs.print_spaces.Goals as goal

more : (a b c : Option (List ℕ)) (n m count : ℕ) → n + m ≡ count → Appends a b (spaces n) → Appends b c (spaces m) → Appends a c (spaces count)
more a b c n m count all before then = subst (Appends a c) (replicate-append-replicate n m 32 ∙ ap spaces all) (Appends-trans a b c _ _ before then)

last : {E : Type 0} (a b c : Option (List ℕ)) (r : Result (Unit {0}) E) (n m count : ℕ) (written : List ℕ) → n + m ≡ count → written ≡ spaces m
    → Appends a b (spaces n) → OnOk r (Appends b c written) → OnOk r (Appends a c (spaces count))
last a b c (Ok u) n m count written all is before then = more a b c n m count all before (subst (Appends b c) is then)
last a b c (Err e) n m count written all is before then = tt

pub loop-preserved : goal.loop-preserved
loop-preserved g c = more _ _ _ (16 * c.loop.counter) 16 _ (omega arith) c.loop.invariant c.in_ok-write_all.ensures.bytes

pub returns : goal.returns
returns g c =
    let count = c.args.count in
    let written = take-replicate (count % 16) 16 32 (omega arith) in
    let inv = c.loop.invariant in
    record { bytes = last _ _ _ c.write_all-2.result (16 * c.loop.counter) (count % 16) count _ (omega arith) written inv c.write_all-2.ensures.bytes }
