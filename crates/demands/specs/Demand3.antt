-- Demand 3: whatever was called before, a desk is that of a fresh desk fed only the surviving ticks, both answer every later call alike,
-- and a refused call never happened.
use Rattle.std.specs.Prelude.{ℕ, ◌+◌, ◌-◌, ◌*◌, ◌≤◌, ◌<◌, ◌≡◌, List, [], ◌∷◌, ◌++◌, map, cond, eqb, length, take}
use Rattle.card.specs.declared.Card.{Card}
use Rattle.record.specs.declared.Sample.{Sample}
use Rattle.desk.specs.declared.Desk.{Desk}
use Rattle.desk.specs.declared.Outcome.{Outcome}
use Rattle.why.specs.declared.Reasons.{Reasons}
use Rattle.demands.specs.Functions.{Functions}
use Rattle.demands.specs.Ranges.{zero_answer}
use Rattle.demands.specs.Reasons.{BadSpeed, BadPressure, SwitchesFit}

-- why is none of them: it gives back no desk and leaves the journal as it is, by demands 1 and 2
pub data Call : Type 0 where
  Tick : Sample → Call
  Back : ℕ → Call
  Restart : Call

-- the desk and the journal as the last call left them, and the samples that survive
pub record Drive : Type 0 where
  pub desk : Desk
  pub journal : List ℕ
  pub kept : List Sample

-- an accepted tick appends, a step back by k drops the last k, a restart empties
unfoldable pub survivors : List Sample → Call → List Sample
survivors kept (Tick sample) = kept ++ (sample ∷ [])
survivors kept (Back k) = take (length kept - k) kept
survivors kept Restart = []

abbrev pub opened : Outcome → List ℕ → Drive
opened out journal = record { desk = out.desk; journal = journal; kept = [] }

-- the drive after a call: a refused one changes nothing of the survivors
unfoldable pub next : Drive → Call → Outcome → List ℕ → Drive
next drive call out left =
    record { desk = out.desk; journal = left; kept = cond (eqb out.refusal 0) (survivors drive.kept call) drive.kept }

-- the sample is good, and the journal has room for one more of 7,200 records
pub record Room (drive : Drive) (sample : Sample) : Type 0 where
  pub speed : BadSpeed sample.speed → ⊥
  pub pressure : BadPressure sample.pressure → ⊥
  pub switches : SwitchesFit sample
  pub below : length drive.kept < 7200
  pub fits : 8 * length drive.kept + 8 ≤ length drive.journal

module _ (F : Functions) where
  -- what a call may return, and the journal that it may leave
  unfoldable pub Returns : Drive → Call → Outcome → List ℕ → Type 0
  Returns drive (Tick sample) out left = F.ticks drive.desk sample drive.journal out left
  Returns drive (Back k) out left = F.steps_back drive.desk k drive.journal out left
  Returns drive Restart out left = F.restarts drive.desk out × (left ≡ drive.journal)

  -- calls one after the other, what each of them returned, and the drive at the end
  pub data Called : Drive → List Call → List Outcome → Drive → Type 0 where
    done : {drive : Drive} → Called drive [] [] drive
    then : {drive end : Drive} {call : Call} {calls : List Call} {out : Outcome} {outs : List Outcome} (left : List ℕ) →
        Returns drive call out left → Called (next drive call out left) calls outs end → Called drive (call ∷ calls) (out ∷ outs) end

  -- a drive after any calls, and a fresh desk that was fed its survivors
  pub record Same (drive fresh : Drive) : Type 0 where
    pub all_fed : fresh.kept ≡ drive.kept
    pub same_desk : drive.desk ≡ fresh.desk
    pub counted : drive.desk.n ≡ length drive.kept
    pub from_here : (calls : List Call) (outs others : List Outcome) (end other : Drive) →
        Called drive calls outs end → Called fresh calls others other → outs ≡ others
    -- asked why, both tell the same, and are refused only where the valve is closed
    pub tell_alike : (reasons others : Reasons) (left beside : List ℕ) → F.tells drive.desk drive.journal reasons left →
        F.tells fresh.desk fresh.journal others beside → reasons ≡ others
    pub tells : (reasons : Reasons) (left : List ℕ) → F.tells drive.desk drive.journal reasons left →
        (drive.desk.state.causes ≡ 0 → ⊥) → reasons.refusal ≡ 0
    -- what is accepted; and what is refused never happened
    pub ticks : (sample : Sample) (out : Outcome) (left : List ℕ) → Returns drive (Tick sample) out left → Room drive sample → out.refusal ≡ 0
    pub steps_back : (k : ℕ) (out : Outcome) (left : List ℕ) → Returns drive (Back k) out left → k ≤ length drive.kept → out.refusal ≡ 0
    pub restarts : (out : Outcome) (left : List ℕ) → Returns drive Restart out left → out.refusal ≡ 0
    pub refused : (call : Call) (out : Outcome) (left : List ℕ) → Returns drive call out left →
        (out.refusal ≡ 0 → ⊥) → next drive call out left ≡ drive

  -- a desk opened with the card, over a journal of so many bytes that hold anything, and fed these samples
  pub record Fed (card : Card) (bytes : ℕ) (samples : List Sample) (fresh : Drive) : Type 0 where
    pub opening : Outcome
    pub opens : F.opens card opening
    pub journal : List ℕ
    pub long : length journal ≡ bytes
    pub outs : List Outcome
    pub called : Called (opened opening journal) (map Tick samples) outs fresh

  -- a step back answers as the last survivor's tick does on a fresh desk fed those before it
  abbrev pub LastAnswer : Card → Drive → Type 0
  LastAnswer card drive =
      (k : ℕ) (samples : List Sample) (last : Sample) (fresh : Drive) → k ≤ length drive.kept →
      survivors drive.kept (Back k) ≡ samples ++ (last ∷ []) → Fed card (length drive.journal) samples fresh →
      (out other : Outcome) (left beside : List ℕ) → Returns drive (Back k) out left → Returns fresh (Tick last) other beside →
      out.answer ≡ other.answer

  -- and with zeros where none is left
  abbrev pub NoneLeft : Drive → Type 0
  NoneLeft drive =
      (out : Outcome) (left : List ℕ) → Returns drive (Back (length drive.kept)) out left → out.answer ≡ zero_answer

-- for every opening that was not refused, all calls, and any two journals of one length, whatever they hold.
-- That there are such drives is demand 1: every call returns something
abbrev pub Demand3 : Functions → Type 0
Demand3 F =
    (card : Card) (out : Outcome) (journal : List ℕ) (calls : List Call) (outs : List Outcome) (drive : Drive) →
    F.opens card out → out.refusal ≡ 0 → Called F (opened out journal) calls outs drive →
    ((fresh : Drive) → Fed F card (length journal) drive.kept fresh → Same F drive fresh)
    × LastAnswer F card drive × NoneLeft F drive
