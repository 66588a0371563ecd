-- Demand 3 by the definitions. What every call keeps: the desk is the one that the journal's first records rebuild, and those are the
-- survivors' records. Of a tick it uses only that it keeps the ranges; it never looks into it. Assumes nothing.
use Prim.Native.Nat.{ℕ, zero, suc, ◌+◌, ◌-◌, ◌*◌, ◌≤◌, ◌<◌}
use native.Mathlib.Omega.{arith}
use native.Mathlib.Decide.{dec_le, ℕ_discrete}
use mathlib.Core.Path.{◌≡◌, refl, sym, ap, ap₂, ◌∙◌}
use mathlib.Core.Bool.{true}
use mathlib.Core.List.{List, [], ◌∷◌, ◌++◌, map, append_assoc, append-nil}
use borrow.Author.Tests.{ne_eqb}
use lib.ListN.{length, get_or, take, length-append}
use lib.Seq.{length-take-le}
use Rattle.refusal.specs.Refusal.{back_too_far}
use Rattle.card.specs.declared.Card.{Card}
use Rattle.card.specs.Card.{card_in_range}
use Rattle.card.specs.Laws.{card_ranges}
use Rattle.record.specs.declared.Record.{Record}
use Rattle.record.specs.declared.Sample.{Sample}
use Rattle.record.specs.Record.{record_width, record_in_range, no_record, put_record}
use Rattle.record.specs.Sample.{sample_refusal, sample_record}
use Rattle.record.specs.Laws.{record_ranges}
use Rattle.record.proofs.Bytes.{put_length, put_before, put_back}
use Rattle.record.proofs.Refusal.{sample_in_range, sample_v}
use Rattle.rules.specs.declared.AfterTick.{AfterTick}
use Rattle.rules.specs.Tick.{advance}
use Rattle.rules.specs.After.{after}
use Rattle.rules.proofs.After.{after_next, after_same, after_ranges}
use Rattle.desk.specs.declared.Desk.{Desk}
use Rattle.desk.specs.declared.Outcome.{Outcome}
use Rattle.journal.specs.Journal.{capacity, records}
use Rattle.desk.specs.Desk.{desk_in_range, fresh_desk}
use Rattle.desk.specs.Calls.{refused, accepted, open_outcome, tick_refusal, tick_outcome, tick_journal, back_refusal, back_outcome, restart_outcome}
use Rattle.numbers.proofs.All.{each_all}
use Rattle.journal.proofs.Room.{room}
use Rattle.desk.specs.Laws.{ranges_desk}
use Rattle.desk.proofs.Calls as Calls
use Rattle.why.specs.Why.{rebuilt, why_refusal, why_outcome}
use Rattle.why.proofs.Calls as Why
use Rattle.why.proofs.Alike.{told_alike}
use Rattle.demands.specs.Demand3.{Call, Tick, Back, Restart, Drive, survivors, next, opened}

-- ---- what the definitions give
unfoldable pub outcome : Drive → Call → Outcome
outcome s (Tick x) = tick_outcome s.desk x s.journal
outcome s (Back k) = back_outcome s.desk k s.journal
outcome s Restart = restart_outcome s.desk

unfoldable pub journal_after : Drive → Call → List ℕ
journal_after s (Tick x) = tick_journal s.desk x s.journal
journal_after s (Back k) = s.journal
journal_after s Restart = s.journal

unfoldable pub call : Drive → Call → Drive
call s c = next s c (outcome s c) (journal_after s c)

unfoldable pub calls : Drive → List Call → Drive
calls s [] = s
calls s (c ∷ cs) = calls (call s c) cs

unfoldable pub outcomes : Drive → List Call → List Outcome
outcomes s [] = []
outcomes s (c ∷ cs) = outcome s c ∷ outcomes (call s c) cs

-- ---- the survivors and their records
abbrev survivor : List Sample → ℕ → Record
survivor kept i = get_or (map sample_record kept) i no_record

-- every sample was accepted
abbrev pub Fine : List Sample → Type 0
Fine [] = Unit {0}
Fine (x ∷ xs) = (sample_refusal x ≡ 0) × Fine xs

fine_append : (xs : List Sample) (x : Sample) → Fine xs → sample_refusal x ≡ 0 → Fine (xs ++ (x ∷ []))
fine_append [] x f e = (e, tt)
fine_append (y ∷ xs) x f e = (f.0, fine_append xs x f.1 e)

pub fine_take : (m : ℕ) (xs : List Sample) → Fine xs → Fine (take m xs)
fine_take zero xs f = tt
fine_take (suc m) [] f = tt
fine_take (suc m) (x ∷ xs) f = (f.0, fine_take m xs f.1)

fine_each : (xs : List Sample) → Fine xs → (i : ℕ) → i < length xs → record_in_range (survivor xs i) ≡ true
fine_each [] f i h = absurd (omega arith)
fine_each (x ∷ xs) f zero h = sample_in_range x f.0
fine_each (x ∷ xs) f (suc i) h = fine_each xs f.1 i (omega arith)

survivor_old : (xs ys : List Sample) (i : ℕ) → i < length xs → survivor (xs ++ ys) i ≡ survivor xs i
survivor_old [] ys i h = absurd (omega arith)
survivor_old (x ∷ xs) ys zero h = refl
survivor_old (x ∷ xs) ys (suc i) h = survivor_old xs ys i (omega arith)

survivor_new : (xs : List Sample) (x : Sample) → survivor (xs ++ (x ∷ [])) (length xs) ≡ sample_record x
survivor_new [] x = refl
survivor_new (y ∷ xs) x = survivor_new xs x

survivor_take : (m : ℕ) (xs : List Sample) (i : ℕ) → i < m → survivor (take m xs) i ≡ survivor xs i
survivor_take zero xs i h = absurd (omega arith)
survivor_take (suc m) [] i h = refl
survivor_take (suc m) (x ∷ xs) zero h = refl
survivor_take (suc m) (x ∷ xs) (suc i) h = survivor_take m xs i (omega arith)

pub length-snoc : (xs : List Sample) (x : Sample) → length (xs ++ (x ∷ [])) ≡ length xs + 1
length-snoc xs x = length-append xs (x ∷ [])

held_more : (xs : List Sample) (x : Sample) (H : ℕ → Record) → ((i : ℕ) → i < length xs → H i ≡ survivor xs i)
    → H (length xs) ≡ sample_record x
    → (i : ℕ) → i < length (xs ++ (x ∷ [])) → H i ≡ survivor (xs ++ (x ∷ [])) i
held_more xs x H old new i h = go (dec_le (suc i) (length xs))
  where
    go : Dec (suc i ≤ length xs) → H i ≡ survivor (xs ++ (x ∷ [])) i
    go (yes l) = old i l ∙ sym (survivor_old xs (x ∷ []) i l)
    go (no l) =
        let e : i ≡ length xs = omega (arith, length-snoc xs x) in
        ap H e ∙ new ∙ sym (survivor_new xs x) ∙ ap (survivor (xs ++ (x ∷ []))) (sym e)

-- ---- a written record
module _ (J : List ℕ) (n : ℕ) (r : Record) where
  records_old : (i : ℕ) → i < n → records (put_record J (record_width * n) r) i ≡ records J i
  unfolding records
  records_old i h = put_before J (record_width * n) r (record_width * i) (omega arith)

  records_new : record_width * n + record_width ≤ length J → r.v < 65536 → records (put_record J (record_width * n) r) n ≡ r
  unfolding records
  records_new h l = put_back J (record_width * n) r h l

-- ---- what every call keeps
abbrev desk_at : Card → (ℕ → Record) → ℕ → Desk
desk_at card H m = record { card = card; n = m; state = (after card H m).state }

pub record Kept (card : Card) (L : ℕ) (s : Drive) : Type 0 where
  pub is : s.desk ≡ desk_at card (records s.journal) (length s.kept)
  pub held : (i : ℕ) → i < length s.kept → records s.journal i ≡ survivor s.kept i
  pub fine : Fine s.kept
  pub long : length s.journal ≡ L
  pub fits : length s.kept ≤ capacity L

pub after_desk : (card : Card) (H K : ℕ → Record) (m : ℕ) → ((i : ℕ) → i < m → H i ≡ K i) → desk_at card H m ≡ desk_at card K m
after_desk card H K m h = ap (λ (a : AfterTick). record { card = card; n = m; state = a.state }) (after_same card H K m h)

module _ (card : Card) (L : ℕ) (ok : card_in_range card ≡ true) (s : Drive) (v : Kept card L s) where
  pub n_is : s.desk.n ≡ length s.kept
  n_is = ap (λ (d : Desk). d.n) v.is

  small : record_width * length s.kept ≤ L
  unfolding capacity
  small = let h = v.fits in omega arith

  good : (i : ℕ) → i < length s.kept → record_in_range (records s.journal i) ≡ true
  good i h = rw (v.held i h) (fine_each s.kept v.fine i h)

  desk_good : desk_in_range s.desk ≡ true
  unfolding capacity
  desk_good =
      rw v.is
      (ranges_desk _
      (record {
        card = card_ranges card ok;
        n_most = let h = v.fits in omega arith;
        state = after_ranges card (records s.journal) (length s.kept) (card_ranges card ok) (λ i h. record_ranges _ (good i h));
      }))

  -- ---- what is accepted: 5, 6 and 9 never come up
  desk_fit : Calls.DeskTaken s.desk (length s.journal)
  desk_fit =
      let n = n_is in
      let l = v.long in
      let m = small in
      record { desk_good = desk_good; long = omega arith }

  pub tick_open : (x : Sample) → sample_refusal x ≡ 0 → length s.kept < capacity L → tick_refusal s.desk x s.journal ≡ 0
  tick_open x f h =
      let n = n_is in
      Calls.taken_tick _ _ _ (record { desk = desk_fit; below = rw v.long (omega arith); fine = f })

  pub back_open : (k : ℕ) → k ≤ length s.kept → back_refusal s.desk k s.journal ≡ 0
  back_open k h =
      let n = n_is in
      Calls.taken_back _ _ _ (record { desk = desk_fit; few = omega arith; good = each_all _ _ (λ i l. good i (omega arith)) })

  pub why_open : (s.desk.state.causes ≡ 0 → ⊥) → why_refusal s.desk s.journal ≡ 0
  why_open h =
      let n = n_is in
      let is : s.desk ≡ rebuilt s.desk s.journal =
      v.is ∙ ap (λ (d : Desk). desk_at d.card (records s.journal) d.n) (sym v.is) in
      Why.taken_why _ _ (record { fit = desk_fit; good = each_all _ _ (λ i l. good i (omega arith)); same = is; held = h })

  back_closed : (k : ℕ) → length s.kept < k → back_outcome s.desk k s.journal ≡ refused s.desk back_too_far
  back_closed k h =
      let n = n_is in
      let e : back_refusal s.desk k s.journal ≡ back_too_far = Calls.back_many _ _ _ desk_fit (omega arith) in
      Calls.back_no _ _ _ (λ z. omega (arith, e, z)) ∙ ap (refused s.desk) e

  pub restart_is : outcome s Restart ≡ refused (fresh_desk s.desk.card) 0
  unfolding outcome restart_outcome
  restart_is = rw desk_good

  tick_adds : (x : Sample) → sample_refusal x ≡ 0 → length s.kept < capacity L → (call s (Tick x)).kept ≡ s.kept ++ (x ∷ [])
  unfolding call next outcome survivors
  tick_adds x f h = rw (Calls.tick_yes s.desk x s.journal (tick_open x f h)).0

  -- ---- an accepted call keeps it
  ticked : (x : Sample) → tick_refusal s.desk x s.journal ≡ 0 → Kept card L (call s (Tick x))
  unfolding call next outcome journal_after survivors
  ticked x e =
      let yes = Calls.tick_yes s.desk x s.journal e in
      let t = Calls.tick_taken _ _ _ e in
      let n = length s.kept in
      let J = s.journal in
      let r = sample_record x in
      let K = put_record J (record_width * n) r in
      let fit : record_width * n + record_width ≤ length J = rw n_is at (room _ _ t.below).1 in
      let old : (i : ℕ) → i < n → records K i ≡ records J i = records_old J n r in
      let new : records K n ≡ r = records_new J n r fit (let q = sample_v x in omega arith) in
      let there : put_record J (record_width * s.desk.n) r ≡ K = ap (λ (m : ℕ). put_record J (record_width * m) r) n_is in
      let one_more : advance card (after card (records J) n).state r ≡ after card (records K) (n + 1) =
      sym (after_next card (records K) n
      ∙ ap₂ (λ (a : AfterTick) (q : Record). advance card a.state q) (after_same card (records K) (records J) n old) new) in
      rw (yes.0, yes.1, there)
      (record {
        is =
            ap (λ (d : Desk). record { card = d.card; n = d.n + 1; state = (advance d.card d.state r).state }) v.is
            ∙ ap (λ (a : AfterTick). record { card = card; n = n + 1; state = a.state }) one_more
            ∙ ap (desk_at card (records K)) (sym (length-snoc s.kept x));
        held = λ i h. held_more s.kept x (records K) (λ i l. old i l ∙ v.held i l) new i h;
        fine = fine_append s.kept x v.fine t.fine;
        long = put_length J (record_width * n) r ∙ v.long;
        fits = rw length-snoc (let q = n_is in let b = rw v.long at t.below in omega arith);
      })

  backed : (k : ℕ) → back_refusal s.desk k s.journal ≡ 0 → Kept card L (call s (Back k))
  unfolding call next outcome journal_after survivors
  backed k e =
      let n = length s.kept in
      let H = records s.journal in
      let long : length (take (n - k) s.kept) ≡ n - k = length-take-le (n - k) s.kept (omega arith) in
      rw (Calls.back_yes s.desk k s.journal e)
      (record {
        is =
            ap (λ (d : Desk). desk_at d.card H (d.n - k)) v.is
            ∙ ap (desk_at card H) (sym long);
        held = λ i h. let l : i < n - k = rw long at h in v.held i (omega arith) ∙ sym (survivor_take (n - k) s.kept i l);
        fine = fine_take (n - k) s.kept v.fine;
        long = v.long;
        fits = rw long (let h = v.fits in omega arith);
      })

  restarted : Kept card L (call s Restart)
  unfolding call next journal_after survivors after
  restarted =
      rw restart_is
      (record {
        is = ap (λ (d : Desk). fresh_desk d.card) v.is;
        held = λ i h. absurd (omega arith);
        fine = tt;
        long = v.long;
        fits = omega arith;
      })

  -- ---- and a refused one leaves the drive as it was
  tick_refused_lem : (x : Sample) → (tick_refusal s.desk x s.journal ≡ 0 → ⊥) → call s (Tick x) ≡ s
  unfolding call next outcome journal_after
  tick_refused_lem x f = let no = Calls.tick_no s.desk x s.journal f in rw (no.0, no.1, ne_eqb _ _ f)

  back_refused_lem : (k : ℕ) → (back_refusal s.desk k s.journal ≡ 0 → ⊥) → call s (Back k) ≡ s
  unfolding call next outcome journal_after
  back_refused_lem k f = rw (Calls.back_no s.desk k s.journal f, ne_eqb _ _ f)

  called : (c : Call) → Kept card L (call s c)
  called (Tick x) = go (ℕ_discrete (tick_refusal s.desk x s.journal) 0)
    where
      go : Dec (tick_refusal s.desk x s.journal ≡ 0) → Kept card L (call s (Tick x))
      go (yes e) = ticked x e
      go (no f) = rw (tick_refused_lem x f) v
  called (Back k) = go (ℕ_discrete (back_refusal s.desk k s.journal) 0)
    where
      go : Dec (back_refusal s.desk k s.journal ≡ 0) → Kept card L (call s (Back k))
      go (yes e) = backed k e
      go (no f) = rw (back_refused_lem k f) v
  called Restart = restarted

pub all_called : (card : Card) (L : ℕ) → card_in_range card ≡ true → (s : Drive) → Kept card L s → (cs : List Call) → Kept card L (calls s cs)
unfolding calls
all_called card L ok s v [] = v
all_called card L ok s v (c ∷ cs) = all_called card L ok (call s c) (called card L ok s v c) cs

pub begun : (card : Card) (J : List ℕ) → card_in_range card ≡ true → Kept card (length J) (opened (open_outcome card) J)
unfolding open_outcome after
begun card J ok = rw ok (record { is = refl; held = λ i h. absurd (omega arith); fine = tt; long = refl; fits = omega arith })

-- ---- a fresh desk takes every survivor
pub fed : (card : Card) (L : ℕ) → card_in_range card ≡ true → (s : Drive) → Kept card L s → (xs : List Sample) → Fine xs
    → length s.kept + length xs ≤ capacity L → (calls s (map Tick xs)).kept ≡ s.kept ++ xs
unfolding calls
fed card L ok s v [] f h = sym (append-nil s.kept)
fed card L ok s v (x ∷ xs) f h =
    let more : (call s (Tick x)).kept ≡ s.kept ++ (x ∷ []) = tick_adds card L ok s v x f.0 (omega arith) in
    fed card L ok (call s (Tick x)) (called card L ok s v (Tick x)) xs f.1 (rw (more, length-snoc) (omega arith))
    ∙ ap (λ (l : List Sample). l ++ xs) more
    ∙ append_assoc s.kept (x ∷ []) xs

-- ---- two drives with the same survivors answer alike from there on
tick_by_length : (d : Desk) (x : Sample) (J K : List ℕ) → length J ≡ length K → tick_outcome d x J ≡ tick_outcome d x K
unfolding tick_outcome
tick_by_length d x J K e = rw e

module _ (card : Card) (L : ℕ) (ok : card_in_range card ≡ true) (s t : Drive) (v : Kept card L s) (w : Kept card L t) (e : t.kept ≡ s.kept) where
  same_records : (i : ℕ) → i < length s.kept → records s.journal i ≡ records t.journal i
  same_records i h = v.held i h ∙ ap (λ (l : List Sample). survivor l i) (sym e) ∙ sym (w.held i (rw e h))

  pub desks_same : s.desk ≡ t.desk
  desks_same =
      v.is ∙ after_desk card (records s.journal) (records t.journal) (length s.kept) same_records
      ∙ ap (λ (l : List Sample). desk_at card (records t.journal) (length l)) (sym e)
      ∙ sym w.is

  pub told_same : why_outcome s.desk s.journal ≡ why_outcome t.desk t.journal
  told_same =
      let n = n_is card L ok s v in
      told_alike s.desk s.journal t.journal (v.long ∙ sym w.long) (λ i l. same_records i (omega arith))
      ∙ ap (λ (d : Desk). why_outcome d t.journal) desks_same

  outcomes_same : (c : Call) → outcome s c ≡ outcome t c
  unfolding outcome
  outcomes_same (Tick x) =
      ap (λ (d : Desk). tick_outcome d x s.journal) desks_same ∙ tick_by_length t.desk x s.journal t.journal (v.long ∙ sym w.long)
  outcomes_same (Back k) = go (dec_le k (length s.kept))
    where
      go : Dec (k ≤ length s.kept) → back_outcome s.desk k s.journal ≡ back_outcome t.desk k t.journal
      go (yes h) =
          let n = n_is card L ok t w in
          let m = ap length e in
          Calls.back_yes _ _ _ (back_open card L ok s v k h)
          ∙ ap (λ (d : Desk). accepted d.card (d.n - k) (after d.card (records s.journal) (d.n - k))) desks_same
          ∙ ap (accepted t.desk.card (t.desk.n - k))
          (after_same _ (records s.journal) (records t.journal) (t.desk.n - k) (λ i l. same_records i (omega arith)))
          ∙ sym (Calls.back_yes _ _ _ (back_open card L ok t w k (omega arith)))
      go (no h) =
          let m = ap length e in
          back_closed card L ok s v k (omega arith)
          ∙ ap (λ (d : Desk). refused d back_too_far) desks_same
          ∙ sym (back_closed card L ok t w k (omega arith))
  outcomes_same Restart = ap restart_outcome desks_same

  kept_same : (c : Call) → (call t c).kept ≡ (call s c).kept
  unfolding call next
  kept_same c = rw (outcomes_same c, e)

pub from_here : (card : Card) (L : ℕ) → card_in_range card ≡ true → (s t : Drive) → Kept card L s → Kept card L t → t.kept ≡ s.kept
    → (cs : List Call) → outcomes s cs ≡ outcomes t cs
unfolding outcomes
from_here card L ok s t v w e [] = refl
from_here card L ok s t v w e (c ∷ cs) =
    ap₂ (λ (x : Outcome) (xs : List Outcome). x ∷ xs) (outcomes_same card L ok s t v w e c)
    (from_here card L ok (call s c) (call t c) (called card L ok s v c) (called card L ok t w c) (kept_same card L ok s t v w e c) cs)

pub refused_is : (card : Card) (L : ℕ) (ok : card_in_range card ≡ true) (s : Drive) (v : Kept card L s) (c : Call)
    → ((outcome s c).refusal ≡ 0 → ⊥) → call s c ≡ s
unfolding outcome
refused_is card L ok s v (Tick x) f = tick_refused_lem card L ok s v x (λ e. f (ap (λ (o : Outcome). o.refusal) (Calls.tick_yes _ _ _ e).0))
refused_is card L ok s v (Back k) f = back_refused_lem card L ok s v k (λ e. f (ap (λ (o : Outcome). o.refusal) (Calls.back_yes _ _ _ e)))
refused_is card L ok s v Restart f = absurd (f (ap (λ (o : Outcome). o.refusal) (restart_is card L ok s v)))

-- ---- the answer of a step back
pub fine_front : (xs : List Sample) (x : Sample) → Fine (xs ++ (x ∷ [])) → Fine xs × (sample_refusal x ≡ 0)
fine_front [] x f = (tt, f.0)
fine_front (y ∷ xs) x f = let r = fine_front xs x f.1 in ((f.0, r.0), r.1)

module _ (card : Card) (L : ℕ) (ok : card_in_range card ≡ true) (s t : Drive) (v : Kept card L s) (w : Kept card L t)
    (k : ℕ) (xs : List Sample) (x : Sample)
    (few : k ≤ length s.kept) (is : take (length s.kept - k) s.kept ≡ xs ++ (x ∷ [])) (e : t.kept ≡ xs) where
  count : length s.kept - k ≡ length xs + 1
  count = sym (length-take-le (length s.kept - k) s.kept (omega arith)) ∙ ap length is ∙ length-snoc xs x

  there : (i : ℕ) → i < length xs + 1 → records s.journal i ≡ survivor (xs ++ (x ∷ [])) i
  there i h =
      let c = count in
      v.held i (omega arith) ∙ sym (survivor_take (length s.kept - k) s.kept i (omega arith)) ∙ ap (λ (l : List Sample). survivor l i) is

  front : (i : ℕ) → i < length xs → records s.journal i ≡ records t.journal i
  front i h =
      there i (omega arith) ∙ survivor_old xs (x ∷ []) i h ∙ ap (λ (l : List Sample). survivor l i) (sym e) ∙ sym (w.held i (rw e h))

  fine_both : Fine xs × (sample_refusal x ≡ 0)
  fine_both = fine_front xs x (rw is at (fine_take (length s.kept - k) s.kept v.fine))

  room_left : length t.kept < capacity L
  room_left = let c = count in let f = v.fits in rw e (omega arith)

  pub answers_same : (outcome s (Back k)).answer ≡ (outcome t (Tick x)).answer
  unfolding outcome
  answers_same =
      let n = n_is card L ok s v in
      let m = length xs in
      let d : t.desk ≡ desk_at card (records t.journal) m = w.is ∙ ap (λ (l : List Sample). desk_at card (records t.journal) (length l)) e in
      ap (λ (o : Outcome). o.answer) (Calls.back_yes _ _ _ (back_open card L ok s v k few))
      ∙ ap (λ (q : Desk). (after q.card (records s.journal) (q.n - k)).answer) v.is
      ∙ ap (λ (i : ℕ). (after card (records s.journal) i).answer) count
      ∙ ap (λ (a : AfterTick). a.answer) (after_next card (records s.journal) m)
      ∙ ap₂ (λ (a : AfterTick) (q : Record). (advance card a.state q).answer)
      (after_same card (records s.journal) (records t.journal) m front) (there m (omega arith) ∙ survivor_new xs x)
      ∙ sym (ap (λ (q : Desk). (advance q.card q.state (sample_record x)).answer) d)
      ∙ sym (ap (λ (o : Outcome). o.answer) (Calls.tick_yes _ _ _ (tick_open card L ok t w x fine_both.1 room_left)).0)
