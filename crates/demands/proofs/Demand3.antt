-- Demand 3, `demand3`, of our functions, and `demand3_exported` of the exported calls: calls that they made are those of the definitions, of which
-- Replay.antt has it.
-- From the contracts' equations, by induction on the calls. Assumes nothing.
use Prim.Native.Nat.{ℕ, ◌+◌, ◌-◌, ◌≤◌, ◌<◌}
use native.Mathlib.Omega.{arith}
use mathlib.Core.Path.{◌≡◌, refl, sym, ap, ap₂, ◌∙◌}
use mathlib.Core.Bool.{Bool, true, false}
use mathlib.Core.List.{List, ◌∷◌, map}
use lib.ListN.{length}
use lib.Seq.{length-take-le}
use Rattle.card.specs.declared.Card.{Card}
use Rattle.card.specs.Card.{card_in_range}
use Rattle.record.specs.declared.Sample.{Sample}
use Rattle.record.specs.Sample.{sample_refusal}
use Rattle.rules.specs.After.{after}
use Rattle.journal.specs.Journal.{capacity, records}
use Rattle.desk.specs.declared.Outcome.{Outcome}
use Rattle.desk.specs.Calls.{open_outcome}
use Rattle.desk.proofs.Calls as Calls
use Rattle.why.specs.declared.Reasons.{Reasons}
use Rattle.why.proofs.Calls.{why_number}
use Rattle.demands.specs.Reasons.{ExactlyFrom}
use Rattle.demands.specs.Demand3.{Call, Tick, Back, Restart, Drive, survivors, next, opened}
use Rattle.demands.specs.Demand3.{Room, Returns, Called, done, then, Same, Fed, LastAnswer, NoneLeft, Demand3}
use Rattle.demands.proofs.Functions.{functions, exported, exported_same, opens_is, ticks_is, steps_back_is, steps_back_reads, restarts_is}
use Rattle.demands.proofs.Functions.{tells_is}
use Rattle.demands.proofs.Exactly.{exactly}
use Rattle.demands.proofs.Refusals.{sample_first}
use Rattle.demands.proofs.Replay as Replay
use Rattle.demands.proofs.Replay.{Kept, Fine, outcome, journal_after, call, calls, outcomes}

-- ---- what was called is what the definitions give
returned : (s : Drive) (c : Call) (o : Outcome) (K : List ℕ) → Returns functions s c o K → (o ≡ outcome s c) × (K ≡ journal_after s c)
unfolding Returns outcome journal_after
returned s (Tick x) o K r = ticks_is s.desk x s.journal o K r
returned s (Back k) o K r = (steps_back_is s.desk k s.journal o K r, steps_back_reads s.desk k s.journal o K r)
returned s Restart o K r = (restarts_is s.desk o r.0, r.1)

went : (s : Drive) (c : Call) (o : Outcome) (K : List ℕ) → Returns functions s c o K → next s c o K ≡ call s c
unfolding call
went s c o K r = let e = returned s c o K r in ap₂ (next s c) e.0 e.1

came : {s t : Drive} {cs : List Call} {os : List Outcome} → Called functions s cs os t → (os ≡ outcomes s cs) × (t ≡ calls s cs)
unfolding outcomes calls
came done = (refl, refl)
came (then {drive = s} {call = c} {calls = cs} {out = o} K r rest) =
    let e = returned s c o K r in
    let g = went s c o K r in
    let h = came rest in
    (ap₂ (λ (x : Outcome) (xs : List Outcome). x ∷ xs) e.0 (h.0 ∙ ap (λ (u : Drive). outcomes u cs) g), h.1 ∙ ap (λ (u : Drive). calls u cs) g)

-- ---- an opening that was not refused
opened_good : (card : Card) (o : Outcome) → functions.opens card o → o.refusal ≡ 0 → card_in_range card ≡ true
unfolding open_outcome
opened_good card o f z = go (card_in_range card) refl
  where
    go : (b : Bool) → card_in_range card ≡ b → card_in_range card ≡ true
    go true e = e
    go false e = absurd (omega (arith, rw (opens_is card o f, e) at z))

drove : (card : Card) (o : Outcome) (J : List ℕ) (cs : List Call) (os : List Outcome) (s : Drive) → card_in_range card ≡ true
    → functions.opens card o → Called functions (opened o J) cs os s → Kept card (length J) s
drove card o J cs os s ok f c =
    rw ((came c).1, opens_is card o f) (Replay.all_called card (length J) ok (opened (open_outcome card) J) (Replay.begun card J ok) cs)

-- ---- room for a tick
good_sample : (s : Drive) (x : Sample) → Room s x → sample_refusal x ≡ 0
unfolding ExactlyFrom
good_sample s x r = (exactly _ _ refl (sample_first x)).1.1.1.1 (((tt, r.speed), r.pressure), λ n. n r.switches)

room_for : (s : Drive) (x : Sample) → Room s x → length s.kept < capacity (length s.journal)
unfolding capacity
room_for s x r = omega arith

abbrev number : Outcome → ℕ
number o = o.refusal

-- ---- s after any calls; t a fresh desk fed the survivors, or all of them but the last
module _ (card : Card) (L : ℕ) (ok : card_in_range card ≡ true) (s : Drive) (v : Kept card L s) where
  fed : (xs : List Sample) (t : Drive) → Fed functions card L xs t → Fine xs → length xs ≤ length s.kept → Kept card L t × (t.kept ≡ xs)
  fed xs t f fine few =
      let K = f.journal in
      let begun : Kept card L (opened (open_outcome card) K) = rw f.long at (Replay.begun card K ok) in
      let is : t ≡ calls (opened (open_outcome card) K) (map Tick xs) = rw (opens_is card f.opening f.opens) at (came f.called).1 in (
        rw f.long at (drove card f.opening K (map Tick xs) f.outs t ok f.opens f.called),
        ap (λ (u : Drive). u.kept) is ∙ Replay.fed card L ok (opened (open_outcome card) K) begun xs fine (let h = v.fits in omega arith),
      )

  tick_taken : (x : Sample) (o : Outcome) (K : List ℕ) → Returns functions s (Tick x) o K → Room s x → o.refusal ≡ 0
  unfolding outcome
  tick_taken x o K r room =
      let left = rw v.long at (room_for s x room) in
      ap number (returned s (Tick x) o K r).0 ∙ ap number (Calls.tick_yes _ _ _ (Replay.tick_open card L ok s v x (good_sample s x room) left)).0

  back_taken : (k : ℕ) (o : Outcome) (K : List ℕ) → Returns functions s (Back k) o K → k ≤ length s.kept → o.refusal ≡ 0
  unfolding outcome
  back_taken k o K r h = ap number (returned s (Back k) o K r).0 ∙ ap number (Calls.back_yes _ _ _ (Replay.back_open card L ok s v k h))

  same : (t : Drive) → Kept card L t → t.kept ≡ s.kept → Same functions s t
  same t w e = record {
    all_fed = e;
    same_desk = Replay.desks_same card L ok s t v w e;
    counted = Replay.n_is card L ok s v;
    from_here = λ cs os ps s' t' a b. (came a).0 ∙ Replay.from_here card L ok s t v w e cs ∙ sym (came b).0;
    tell_alike = λ x y K M a b. (tells_is _ _ x K a).0 ∙ Replay.told_same card L ok s t v w e ∙ sym (tells_is _ _ y M b).0;
    tells = λ x K a h. ap (λ (y : Reasons). y.refusal) (tells_is _ _ x K a).0 ∙ why_number _ _ ∙ Replay.why_open card L ok s v h;
    ticks = tick_taken;
    steps_back = back_taken;
    restarts = λ o K r. ap number (returned s Restart o K r).0 ∙ ap number (Replay.restart_is card L ok s v);
    refused = λ c o K r n. went s c o K r ∙ Replay.refused_is card L ok s v c (λ z. n (ap number (returned s c o K r).0 ∙ z));
  }

  last_answer : LastAnswer functions card s
  unfolding survivors
  last_answer k xs x t few is f o a M N r q =
      let fine = (Replay.fine_front xs x (rw is at (Replay.fine_take (length s.kept - k) s.kept v.fine))).0 in
      let left = length-take-le (length s.kept - k) s.kept (omega arith) in
      let long : length s.kept - k ≡ length xs + 1 = sym left ∙ ap length is ∙ Replay.length-snoc xs x in
      let g = fed xs t (rw v.long at f) fine (omega arith) in
      ap (λ (u : Outcome). u.answer) (returned s (Back k) o M r).0
      ∙ Replay.answers_same card L ok s t v g.0 k xs x few is g.1
      ∙ sym (ap (λ (u : Outcome). u.answer) (returned t (Tick x) a N q).0)

  none_left : NoneLeft functions s
  unfolding outcome after
  none_left o M r =
      let k = length s.kept in
      let gone : s.desk.n - k ≡ 0 = omega (arith, Replay.n_is card L ok s v) in
      ap (λ (u : Outcome). u.answer) (returned s (Back k) o M r).0
      ∙ ap (λ (u : Outcome). u.answer) (Calls.back_yes _ _ _ (Replay.back_open card L ok s v k (omega arith)))
      ∙ ap (λ (i : ℕ). (after s.desk.card (records s.journal) i).answer) gone

pub demand3 : Demand3 functions
demand3 card o J cs os s f z c =
    let ok = opened_good card o f z in
    let v = drove card o J cs os s ok f c in
    let L = length J in (
      λ t f. let h = fed card L ok s v s.kept t f v.fine (omega arith) in same card L ok s v t h.0 h.1,
      last_answer card L ok s v,
      none_left card L ok s v,
    )

pub demand3_exported : Demand3 exported
demand3_exported = rw exported_same demand3
