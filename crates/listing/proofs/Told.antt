-- What is printed of a message, from what the call for its text answers: the text, or the number of the refusal.
-- By the answer, and by the definitions of what is printed. Assumes nothing.
use Prim.Native.Nat.{ℕ}
use mathlib.Core.Path.{◌≡◌, refl, sym, ap, ◌∙◌}
use mathlib.Core.Bool.{Bool, true, false, ◌&&◌, cond, true≢false}
use mathlib.Core.List.{List, []}
use lib.Dec.{eqb}
use borrow.Author.Tests.{ne_eqb}
use Rattle.std.specs.Prelude.{Result, Ok, Err}
use Rattle.std.specs.Result.{is_err, result_unwrap_or}
use Rattle.std.specs.Borrow.{Bor}
use Rattle.refusal.specs.Number.{number, number_of}
use Rattle.refusal.specs.declared.Refusal.{Refusal}
use Rattle.refusal.proofs.Number.{number_some, number_of_ok, number_of_err}
use Rattle.texts.specs.Text.{chosen, text_place, text_part}
use Rattle.texts.specs.Told.{bytes_of}
use Rattle.listing.specs.Printed.{refusal_of, text_of, one, refused, line_end, side_by_side, widest, row, rows, shown, all_refusal, all}

-- the bytes of the chosen table are the chosen bytes
pub chosen_now : (first second : Bor (List ℕ)) (language : ℕ) → (chosen language first second).now ≡ chosen language first.now second.now
chosen_now first second language = go (eqb language 2)
  where
    go : (b : Bool) → (let table : Bor (List ℕ) = cond b second first in table.now) ≡ cond b second.now first.now
    go true = refl
    go false = refl

module _ (first second : Bor (List ℕ)) (language n : ℕ) where
  -- what is said of the chosen table, of the chosen bytes
  refusal_now : (text_place (chosen language first second).now language n).refusal ≡ refusal_of first.now second.now language n
  refusal_now = ap (λ (t : List ℕ). (text_place t language n).refusal) (chosen_now first second language)

  text_now : text_part (chosen language first second).now language n ≡ text_of first.now second.now language n
  text_now = ap (λ (t : List ℕ). text_part t language n) (chosen_now first second language)

  -- of one message
  pub one_text : (text : Bor (List ℕ)) → number_of (Ok text) ≡ (text_place (chosen language first second).now language n).refusal
      → text.now ≡ text_part (chosen language first second).now language n → one first.now second.now language n ≡ text.now
  unfolding one
  one_text text told bytes =
      let zero : 0 ≡ refusal_of first.now second.now language n = sym (number_of_ok text) ∙ told ∙ refusal_now in
      rw (← zero) (sym (bytes ∙ text_now))

  pub one_refused : (r : Refusal) → number_of {A = Bor (List ℕ)} (Err r) ≡ (text_place (chosen language first second).now language n).refusal
      → one first.now second.now language n ≡ refused (number r) []
  unfolding one
  one_refused r told =
      let same : number r ≡ refusal_of first.now second.now language n = sym (number_of_err (Bor (List ℕ)) r) ∙ told ∙ refusal_now in
      rw (← same, ne_eqb (number r) 0 (number_some r))

-- the text, or none
pub unwrapped : (r : Result (Bor (List ℕ)) Refusal) (none : Bor (List ℕ)) → none.now ≡ [] → (result_unwrap_or r none).now ≡ bytes_of r
unwrapped (Ok text) none e = refl
unwrapped (Err refusal) none e = e

module _ (first second : List ℕ) where
  pub shown_texts : (width n : ℕ) (left right : List ℕ) → left ≡ text_of first second 1 n → right ≡ text_of first second 2 n
      → shown first second width n ≡ side_by_side n left width right
  unfolding shown
  shown_texts width n left right e f = rw (e, f)

  -- ---- of both tables: a line where one of them has the message
  module _ (width n : ℕ) (left right : Result (Bor (List ℕ)) Refusal) (e : number_of left ≡ refusal_of first second 1 n)
      (f : number_of right ≡ refusal_of first second 2 n) where
    pub row_none : (is_err left && is_err right) ≡ true → row first second width n ≡ []
    unfolding row number_of
    row_none h = go left right e f h
      where
        go : (l r : Result (Bor (List ℕ)) Refusal) → number_of l ≡ refusal_of first second 1 n → number_of r ≡ refusal_of first second 2 n
            → (is_err l && is_err r) ≡ true → row first second width n ≡ []
        go (Ok text) r e f h = absurd (true≢false (sym h))
        go (Err refusal) (Ok text) e f h = absurd (true≢false (sym h))
        go (Err refusal) (Err other) e f h =
            rw (← e, ← f, ne_eqb (number refusal) 0 (number_some refusal), ne_eqb (number other) 0 (number_some other))

    pub row_some : (is_err left && is_err right) ≡ false → row first second width n ≡ shown first second width n
    unfolding row number_of
    row_some h = go left right e f h
      where
        go : (l r : Result (Bor (List ℕ)) Refusal) → number_of l ≡ refusal_of first second 1 n → number_of r ≡ refusal_of first second 2 n
            → (is_err l && is_err r) ≡ false → row first second width n ≡ shown first second width n
        go (Ok text) r e f h = rw (← e)
        go (Err refusal) (Ok text) e f h = rw (← e, ← f, ne_eqb (number refusal) 0 (number_some refusal))
        go (Err refusal) (Err other) e f h = absurd (true≢false h)

  -- ---- whether both are good
  pub first_bad : (r : Refusal) → number r ≡ refusal_of first second 1 0 → number r ≡ all_refusal first second
  unfolding all_refusal
  first_bad r e = rw (← e, ne_eqb (number r) 0 (number_some r))

  pub second_told : (k : ℕ) → 0 ≡ refusal_of first second 1 0 → k ≡ refusal_of first second 2 0 → k ≡ all_refusal first second
  unfolding all_refusal
  second_told k e f = rw (← e) f

  pub all_refused : (r : Refusal) → number_of {A = Unit {0}} (Err r) ≡ all_refusal first second → all first second ≡ refused (number r) line_end
  unfolding all number_of
  all_refused r e = rw (← e, ne_eqb (number r) 0 (number_some r))

  pub all_rows : (width : ℕ) → number_of {A = Unit {0}} (Ok tt) ≡ all_refusal first second → width ≡ widest first second 64
      → all first second ≡ rows first second width 64
  unfolding all number_of
  all_rows width e wide = rw (← e, wide)
