-- What a tick of a moving train leaves: the mode, and NZ1, NZ3 and NZ4 where they are held. And what lets NZ2 and NZ5 go: a press, NZ2 at v up to P.
-- By the definitions of steps 1 and 10. Assumes nothing.
use Prim.Native.Nat.{◌≤◌}
use mathlib.Core.Path.{◌≡◌, refl, sym, ap, ◌∙◌}
use mathlib.Core.Bool.{Bool, true, false, true≢false}
use lib.Dec.{leb}
use borrow.Author.Tests.{ne_eqb, leb-true}
use Rattle.numbers.proofs.Tests.{and_iff, and_false}
use Rattle.card.specs.declared.Card.{Card}
use Rattle.record.specs.declared.Keys.{Keys}
use Rattle.record.specs.declared.Record.{Record}
use Rattle.record.specs.Flags.{keys_of}
use Rattle.causes.specs.Causes.{Causes}
use Rattle.causes.specs.Held.{held_in}
use Rattle.causes.specs.Keeping.{released, keeps, step_10_held}
use Rattle.state.specs.declared.State.{State}
use Rattle.state.specs.Mode.{mode_now, step_1_mode}
use Rattle.rules.specs.declared.AfterTick.{AfterTick}
use Rattle.rules.specs.Tick.{triggers_in, releases_in, held_next, state_next, answer_now, steps_2_to_10, advance}
use Rattle.rules.proofs.Valve.{advance_held}

kept : (h t f : Bool) → h ≡ true → f ≡ false → keeps h t f ≡ true
kept true true f h e = refl
kept true false f h e = rw e
kept false t f h e = absurd (true≢false (sym h))

freed : (h t f : Bool) → h ≡ true → keeps h t f ≡ false → f ≡ true
freed true true f h e = absurd (true≢false e)
freed true false true h e = refl
freed true false false h e = absurd (true≢false e)
freed false t f h e = absurd (true≢false (sym h))

module _ (card : Card) (state : State) (reading : Record) where
  abbrev after : AfterTick
  after = advance card state reading

  abbrev keys : Keys
  keys = keys_of reading.flags state.buttons

  -- the causes held before, triggered, free to be let go, held after
  abbrev old : Causes
  old = held_in state.causes

  abbrev due : Causes
  due = triggers_in card (step_1_mode state reading) reading

  abbrev free : Causes
  free = released after.answer.permitted reading keys

  abbrev new : Causes
  new = held_in after.state.causes

  new_is : new ≡ step_10_held old due free
  unfolding held_next step_1_mode releases_in answer_now steps_2_to_10 advance
  new_is = advance_held card state reading

  pub nz2_freed : old.nz2 ≡ true → new.nz2 ≡ false → (keys.vigilance ≡ true) × (reading.v ≤ after.answer.permitted)
  unfolding step_10_held released
  nz2_freed h e =
      let gone = freed old.nz2 due.nz2 free.nz2 h (sym (ap (λ (x : Causes). x.nz2) new_is) ∙ e) in
      let both = (and_iff keys.vigilance (leb reading.v after.answer.permitted)).0 gone in
      (both.0, leb-true reading.v after.answer.permitted both.1)

  pub nz5_freed : old.nz5 ≡ true → new.nz5 ≡ false → keys.vigilance ≡ true
  unfolding step_10_held released
  nz5_freed h e = freed old.nz5 due.nz5 free.nz5 h (sym (ap (λ (x : Causes). x.nz5) new_is) ∙ e)

  module _ (moves : reading.v ≡ 0 → ⊥) where
    pub mode_stays : after.state.mode ≡ state.mode
    unfolding mode_now step_1_mode state_next steps_2_to_10 advance
    mode_stays = simp (ne_eqb reading.v 0 moves)

    pub nz1_stays : old.nz1 ≡ true → new.nz1 ≡ true
    unfolding step_10_held released
    nz1_stays h =
        ap (λ (x : Causes). x.nz1) new_is ∙ kept old.nz1 due.nz1 free.nz1 h (simp (ne_eqb reading.v 0 moves, and_false))

    pub nz3_stays : old.nz3 ≡ true → new.nz3 ≡ true
    unfolding step_10_held released
    nz3_stays h =
        ap (λ (x : Causes). x.nz3) new_is ∙ kept old.nz3 due.nz3 free.nz3 h (simp (ne_eqb reading.v 0 moves, and_false))

    pub nz4_stays : old.nz4 ≡ true → new.nz4 ≡ true
    unfolding step_10_held released
    nz4_stays h =
        ap (λ (x : Causes). x.nz4) new_is ∙ kept old.nz4 due.nz4 free.nz4 h (simp (ne_eqb reading.v 0 moves, and_false))
