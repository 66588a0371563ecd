-- What is put piece by piece into a list, each piece at the place after the last, is put there as one.
-- By `written-append`, piece after piece. Assumes nothing.
use Prim.Native.Nat.{ℕ, ◌+◌, ◌≤◌, ◌<◌}
use mathlib.Core.Path.{◌≡◌, sym, ap, ◌∙◌, refl}
use mathlib.Core.List.{List, [], ◌∷◌, ◌++◌, append_assoc, append-nil}
use native.Mathlib.Nat.{add-zero}
use native.Mathlib.Numerals.{add-one}
use native.Mathlib.Omega.{arith}
use lib.ListN.{length, get_or, take, length-append, set}
use lib.Seq.{take-suc, sets-eq}
use Rattle.layout.specs.Layout.{written}
use Rattle.layout.proofs.Written.{written-nil, written-append}
use Rattle.line.specs.Line.{space, line_end, decimal, spaced}

-- `new` was put into `before` at `at`: then the list is `after`, and `end` is the next place
pub record Put (before : List ℕ) (at : ℕ) (new after : List ℕ) (end : ℕ) : Type 0 where
  pub place : end ≡ at + length new
  pub list : after ≡ written before at new

-- of no bytes nothing is put
pub written_none : (l : List ℕ) (at : ℕ) → l ≡ written l at []
written_none l at = sym (written-nil l at)

pub put_none : (l : List ℕ) (at : ℕ) → Put l at [] l at
put_none l at = record { place = sym (add-zero at); list = written_none l at }

pub put_one : (l : List ℕ) (at x : ℕ) → at < length l → Put l at (x ∷ []) (set l at x) (at + 1)
unfolding written
put_one l at x h = record { place = refl; list = sets-eq (x ∷ []) l at (omega arith) }

pub put_then : {l m n : List ℕ} {a b c : ℕ} {x y : List ℕ} → c ≤ length l → Put l a x m b → Put m b y n c → Put l a (x ++ y) n c
put_then {l} {m} {n} {a} {b} {c} {x} {y} fits p q =
    record {
      place = omega (arith, length-append x y, p.place, q.place);
      list =
          q.list
          ∙ ap (λ (k : List ℕ). written k b y) p.list
          ∙ ap (λ (i : ℕ). written (written l a x) i y) p.place
          ∙ written-append l a x y (omega (arith, p.place, q.place));
    }

pub put_four : {k l m n o : List ℕ} {a b c d e : ℕ} {w x y z : List ℕ} → e ≤ length k
    → Put k a w l b → Put l b x m c → Put m c y n d → Put n d z o e → Put k a (w ++ x ++ y ++ z) o e
put_four fits p q r s =
    put_then fits (put_then (omega (arith, s.place)) (put_then (omega (arith, r.place, s.place)) p q) r) s

-- as the contracts say it
pub put : {l m new : List ℕ} {at end most : ℕ} → record { place : (end ≡ at + length new) × (end ≤ most); text : m ≡ written l at new } → Put l at new m end
put p = record { place = p.place.0; list = p.text }

pub spaced-append : (xs ys : List ℕ) → spaced (xs ++ ys) ≡ spaced xs ++ spaced ys
unfolding spaced
spaced-append [] ys = refl
spaced-append (x ∷ xs) ys =
    ap (λ (l : List ℕ). (space ∷ decimal x) ++ l) (spaced-append xs ys) ∙ sym (append_assoc (space ∷ decimal x) (spaced xs) (spaced ys))

module _ (numbers : List ℕ) (i : ℕ) (h : i < length numbers) where
  -- one number more, with the space before it
  pub spaced_more : spaced (take i numbers) ++ ((space ∷ []) ++ decimal (get_or numbers i 0)) ≡ spaced (take (i + 1) numbers)
  unfolding spaced
  spaced_more = rw (add-one, take-suc numbers i 0 h, spaced-append (take i numbers) (get_or numbers i 0 ∷ []), append-nil)

-- the first number, the others and the line end
pub put_line : {k l m : List ℕ} {a b : ℕ} {first others : List ℕ} → b < length k → length m ≡ length k
    → Put k 0 first l a → Put l a others m b → Put k 0 (first ++ others ++ (line_end ∷ [])) (set m b line_end) (b + 1)
put_line {m = m} {b = b} fits same p q =
    put_then (omega arith) (put_then (omega arith) p q) (put_one m b line_end (omega arith))
