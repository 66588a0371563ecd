-- The last tick that made a cause held began its present holding, and no other tick did.
-- By induction on the ticks, of any sequence of yes and no that begins with no; then by step 10: what was not held and is held was triggered.
use Prim.Native.Nat.{ℕ, zero, suc, ◌-◌, ◌≤◌, ◌<◌}
use native.Mathlib.Nat.{le_refl}
use native.Mathlib.Decide.{dec_le}
use native.Mathlib.Omega.{arith}
use mathlib.Core.Path.{◌≡◌, refl, sym, ap, ◌∙◌}
use mathlib.Core.Bool.{Bool, true, false, not, cond, ◌&&◌, true≢false, false≢true}
use Rattle.numbers.specs.Last.{last_of}
use Rattle.card.specs.declared.Card.{Card}
use Rattle.record.specs.declared.Record.{Record}
use Rattle.causes.specs.Causes.{Causes}
use Rattle.causes.specs.Held.{held_in}
use Rattle.causes.specs.Keeping.{keeps, step_10_held}
use Rattle.causes.specs.Cause.{Cause, NZ1, NZ2, NZ3, NZ4, NZ5, among}
use Rattle.state.specs.Mode.{step_1_mode}
use Rattle.rules.specs.Tick.{triggers_in, releases_in, held_next}
use Rattle.rules.specs.After.{after}
use Rattle.rules.proofs.Valve.{advance_held}
use Rattle.why.specs.Why.{held_after, began}
use Rattle.why.specs.Promise.{triggered_at, Began}

-- ---- any sequence that begins with no

module _ (x : ℕ → Bool) where
  abbrev made : ℕ → Bool
  made t = x t && not (x (t - 1))

  record Since (n s : ℕ) : Type 0 where
    first : 1 ≤ s
    last : s ≤ n
    not_before : x (s - 1) ≡ false
    ever : (t : ℕ) → s ≤ t → t ≤ n → x t ≡ true

  at_top : (n t : ℕ) → x (suc n) ≡ true → suc n ≤ t → t ≤ suc n → x t ≡ true
  at_top n t e p q = let h : t ≡ suc n = omega arith in rw h e

  since_next : (n s : ℕ) (before : Bool) → x n ≡ before → x (suc n) ≡ true → (before ≡ true → Since n s)
      → Since (suc n) (cond (x (suc n) && not before) (suc n) s)
  since_next n s true e now w =
      let so_far = w refl in
      rw now
      (record {
        first = so_far.first;
        last = let h = so_far.last in omega arith;
        not_before = so_far.not_before;
        ever = λ t p q. go t p q (dec_le t n);
      })
    where
      go : (t : ℕ) → s ≤ t → t ≤ suc n → Dec (t ≤ n) → x t ≡ true
      go t p q (yes h) = (w refl).ever t p h
      go t p q (no h) = at_top n t now (omega arith) q
  since_next n s false e now w =
      rw now
      (record {
        first = omega arith;
        last = le_refl (suc n);
        not_before = ap x (let z : suc n - 1 ≡ n = omega arith in z) ∙ e;
        ever = λ t p q. at_top n t now p q;
      })

  since : x 0 ≡ false → (n : ℕ) → x n ≡ true → Since n (last_of made n)
  unfolding last_of
  since z zero e = absurd (false≢true (sym z ∙ e))
  since z (suc n) e =
      let k : suc n - 1 ≡ n = omega arith in
      rw k (since_next n (last_of made n) (x n) refl e (since z n))

-- ---- the causes

made_held : (held triggered free : Bool) → keeps held triggered free ≡ true → held ≡ false → triggered ≡ true
made_held true triggered free e n = absurd (true≢false n)
made_held false true free e n = refl
made_held false false free e n = absurd (false≢true e)

among_held : (cause : Cause) (held triggered free : Causes)
    → among cause (step_10_held held triggered free) ≡ keeps (among cause held) (among cause triggered) (among cause free)
unfolding among step_10_held
among_held NZ1 held triggered free = refl
among_held NZ2 held triggered free = refl
among_held NZ3 held triggered free = refl
among_held NZ4 held triggered free = refl
among_held NZ5 held triggered free = refl

module _ (card : Card) (H : ℕ → Record) (cause : Cause) where
  abbrev held : ℕ → Bool
  held n = held_after card H cause n

  none_held : (c : Cause) → among c (held_in 0) ≡ false
  unfolding among held_in
  none_held NZ1 = refl
  none_held NZ2 = refl
  none_held NZ3 = refl
  none_held NZ4 = refl
  none_held NZ5 = refl

  fresh_held : held 0 ≡ false
  unfolding after
  fresh_held = none_held cause

  fired : (n : ℕ) → held (suc n) ≡ true → held n ≡ false → triggered_at card H cause (suc n) ≡ true
  unfolding after held_next step_1_mode
  fired n now before =
      let s = step_1_mode (after card H n).state (H n) in
      let triggers = triggers_in card s (H n) in
      let releases = releases_in card s (H n) in
      let step = ap (among cause) (advance_held card (after card H n).state (H n)) ∙ among_held cause (held_in s.causes) triggers releases in
      let z : suc n - 1 ≡ n = omega arith in
      rw z (made_held (held n) (among cause triggers) (among cause releases) (sym step ∙ now) before)

  fired_at : (s : ℕ) → 1 ≤ s → held s ≡ true → held (s - 1) ≡ false → triggered_at card H cause s ≡ true
  fired_at zero h now before = absurd (omega arith)
  fired_at (suc n) h now before = fired n now (let z : suc n - 1 ≡ n = omega arith in rw z at before)

  pub began_then : (n : ℕ) → held n ≡ true → Began card H cause n (began card H cause n)
  unfolding began
  began_then n now =
      let w = since held fresh_held n now in
      record {
        first = w.first;
        last = w.last;
        triggered = fired_at _ w.first (w.ever _ (le_refl _) w.last) w.not_before;
        not_before = w.not_before;
        ever_since = w.ever;
      }

  later : (n s t : ℕ) → Began card H cause n s → Began card H cause n t → s < t → ⊥
  later n s t a b h =
      true≢false (sym (a.ever_since (t - 1) (omega arith) (let l = b.last in omega arith)) ∙ b.not_before)

  pub began_once : (n s t : ℕ) → Began card H cause n s → Began card H cause n t → s ≡ t
  began_once n s t a b = go (dec_le s t) (dec_le t s)
    where
      go : Dec (s ≤ t) → Dec (t ≤ s) → s ≡ t
      go (yes p) (yes q) = omega arith
      go (no p) q = absurd (later n t s b a (omega arith))
      go (yes p) (no q) = absurd (later n s t a b (omega arith))
