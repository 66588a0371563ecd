-- The contracts of `text_place`, `Tables::text` and `text` determine the answer: two that satisfy one are equal, of a part both its address and its bytes.
-- They ask nothing of their caller. `requires` and `Post` are the contract as the check reads it off the source;
-- `s.1.1.1.1.0` is the refusal, the fifth parameter, at exit.
-- `at_exit` is what the parameters hold afterwards, by their types: a table that is lent to be read holds what it held.
use Rattle.std.specs.Prelude.{ℕ, List, Result, Ok, Err, IfOk}
use Rattle.std.specs.Borrow.{Bor}
use mathlib.Core.Path.{◌≡◌, refl}
use base.Logic.{emp}
use contract.Lifetimes.{Lfts}
use borrow.Fn.World.{World}
use denote.Triple.Clauses.{Lasts, at_exit}
use Rattle.numbers.proofs.Alike.{alike}
use Rattle.refusal.specs.Number.{number_of}
use Rattle.refusal.specs.declared.Refusal.{Refusal}
use Rattle.texts.specs.Text.{chosen}
use Rattle.texts.specs.Told.{bytes_of}
use Rattle.texts.specs.contracts.text_place as place
use Rattle.texts.proofs.text_place.Reads as placing
use Rattle.texts.specs.contracts.Tables.text as found
use Rattle.texts.proofs.Tables.text.Reads as finding
use Rattle.texts.specs.contracts.text as text
use Rattle.texts.proofs.text.Reads as telling

pub place_asks_nothing : (κs : Lfts 1) (a : _) (w : World) → placing.requires κs a tt w ≡ emp w.𝓤
place_asks_nothing κs a w = refl

pub place_determined : (κs : Lfts 1) (a : _) (x y : _) (s t : _) → placing.Post κs a x s → placing.Post κs a y t → x ≡ y
place_determined κs a x y s t p q = alike p q

pub place_reads : (κs : Lfts 1) (a : _) (last : Lasts place.ended κs a)
    → ((at_exit place.ended κs a last).0.now ≡ a.0.now) × ((at_exit place.ended κs a last).1.0.now ≡ a.1.0.now)
place_reads κs a last = (refl, refl)

-- where two calls answer a part, both parts lie at one address
abbrev pub OnePlace : Result (Bor (List ℕ)) Refusal → Result (Bor (List ℕ)) Refusal → Type 0
OnePlace x y = IfOk x (λ part. IfOk y (λ other. part.ref_ptr ≡ other.ref_ptr))

one_place : (place : ℕ × ℕ) (x y : Result (Bor (List ℕ)) Refusal) → IfOk x (λ part. part.ref_ptr ≡ place) → IfOk y (λ part. part.ref_ptr ≡ place)
    → OnePlace x y
one_place place (Ok part) (Ok other) p q = alike p q
one_place place (Ok part) (Err refusal) p q = tt
one_place place (Err refusal) y p q = tt

pub found_asks_nothing : (κs : Lfts 1) (a : _) (w : World) → finding.requires κs a tt w ≡ emp w.𝓤
found_asks_nothing κs a w = refl

pub found_determined : (κs : Lfts 1) (a : _) (x y : _) (s t : _) → finding.Post κs a x s → finding.Post κs a y t
    → (number_of x ≡ number_of y) × (bytes_of x ≡ bytes_of y) × OnePlace x y
found_determined κs a x y s t p q = (alike p.0 q.0, alike p.1.0 q.1.0, one_place _ x y p.1.1 q.1.1)

pub found_reads : (κs : Lfts 1) (a : _) (last : Lasts found.ended κs a)
    → ((at_exit found.ended κs a last).0.first.now ≡ a.0.first.now) × ((at_exit found.ended κs a last).0.second.now ≡ a.0.second.now)
found_reads κs a last = (refl, refl)

pub text_asks_nothing : (κs : Lfts 2) (a : _) (w : World) → telling.requires κs a tt w ≡ emp w.𝓤
text_asks_nothing κs a w = refl

pub text_determined : (κs : Lfts 2) (a : _) (x y : _) (s t : _) → telling.Post κs a x s → telling.Post κs a y t
    → (x.now ≡ y.now) × (x.ref_ptr ≡ y.ref_ptr) × (s.1.1.1.1.0.now ≡ t.1.1.1.1.0.now)
text_determined κs a x y s t p q = (alike p.0 q.0, alike p.1.0 q.1.0, alike p.1.1 q.1.1)

pub text_reads : (κs : Lfts 2) (a : _) (last : Lasts text.ended κs a)
    → ((at_exit text.ended κs a last).0.now ≡ a.0.now) × ((at_exit text.ended κs a last).1.0.now ≡ a.1.0.now)
text_reads κs a last = (refl, refl)

-- ---- the other table has no influence: two calls whose chosen tables have the same bytes answer alike,
-- and where the chosen table is one and the same, by the same part of it
module _ (first second first' second' : Bor (List ℕ)) (language number : ℕ) where
  pub place_alone : (κs : Lfts 1) (x y : _) (s t : _) → (chosen language first second).now ≡ (chosen language first' second').now
      → placing.Post κs (first, (second, (language, (number, tt)))) x s → placing.Post κs (first', (second', (language, (number, tt)))) y t
      → x ≡ y
  place_alone κs x y s t same p q = alike (rw same at p) q

  module _
      (κs : Lfts 1) (x y : _) (s t : _) (p : finding.Post κs (record { first = first; second = second }, (language, (number, tt))) x s)
      (q : finding.Post κs (record { first = first'; second = second' }, (language, (number, tt))) y t) where
    pub found_alone : (chosen language first second).now ≡ (chosen language first' second').now
        → (number_of x ≡ number_of y) × (bytes_of x ≡ bytes_of y)
    found_alone same = (alike (rw same at p.0) q.0, alike (rw same at p.1.0) q.1.0)

    pub found_address_alone : chosen language first second ≡ chosen language first' second' → OnePlace x y
    found_address_alone same = one_place _ x y (rw same at p.1.1) q.1.1

  module _
      (κs : Lfts 2) (refusal : _) (x y : _) (s t : _) (p : telling.Post κs (first, (second, (language, (number, (refusal, tt))))) x s)
      (q : telling.Post κs (first', (second', (language, (number, (refusal, tt))))) y t) where
    pub text_alone : (chosen language first second).now ≡ (chosen language first' second').now
        → (x.now ≡ y.now) × (s.1.1.1.1.0.now ≡ t.1.1.1.1.0.now)
    text_alone same = (alike (rw same at p.0) q.0, alike (rw same at p.1.1) q.1.1)

    pub address_alone : chosen language first second ≡ chosen language first' second' → x.ref_ptr ≡ y.ref_ptr
    address_alone same = alike (rw same at p.1.0) q.1.0
