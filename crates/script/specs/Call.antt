-- The header and the calls of a script: how long each is, what it does to the desk and the journal, and what is replied.
use Rattle.std.specs.Prelude.{ℕ, ◌+◌, List, Bool, cond, ltb, eqb, length, get_or, Result, Ok, Err}
use Rattle.layout.specs.Layout.{u16_at}
use Rattle.card.specs.Card.{card_width, card_at}
use Rattle.desk.specs.declared.Desk.{Desk}
use Rattle.desk.specs.declared.Outcome.{Outcome}
use Rattle.desk.specs.Calls.{open_outcome, tick_outcome, tick_journal, back_outcome, restart_outcome}
use Rattle.why.specs.Why.{why_outcome}
use Rattle.script.specs.declared.Call.{Call}
use Rattle.script.specs.declared.Call.TheVariants.{Tick, StepBack, Restart, Why}
use Rattle.script.specs.declared.BadScript.{BadScript}
use Rattle.script.specs.declared.BadScript.TheVariants.{UnknownCall, CutShort}
use Rattle.script.specs.declared.Reply.{Reply}
use Rattle.script.specs.declared.Reply.TheVariants.{Line}
use Rattle.script.specs.declared.Reply.TheVariants as replies
use Rattle.script.specs.Sample.{sample_width, sample_at}

-- the card, then the journal's length as a u16
abbrev pub header_width : ℕ
header_width = card_width + 2

unfoldable pub journal_length : List ℕ → ℕ
journal_length header = u16_at header card_width

-- a header cut short is a bad script
unfoldable pub open_reply : List ℕ → Result Outcome BadScript
open_reply header = cond (ltb (length header) header_width) (Err CutShort) (Ok (open_outcome (card_at header 0)))

-- the byte that each call begins with
abbrev pub tick : ℕ
tick = 1

abbrev pub step_back : ℕ
step_back = 2

abbrev pub restart : ℕ
restart = 3

abbrev pub why : ℕ
why = 4

-- the call that a byte begins
unfoldable pub call_of : ℕ → Result Call BadScript
call_of kind =
    cond (eqb kind tick) (Ok Tick)
    (cond (eqb kind step_back) (Ok StepBack)
    (cond (eqb kind restart) (Ok Restart)
    (cond (eqb kind why) (Ok Why)
    (Err UnknownCall))))

-- the most bytes of a call: those of a tick
abbrev pub call_most : ℕ
call_most = 1 + sample_width

-- the bytes of a call, the first among them: a sample, k as a u16 or nothing follows
unfoldable pub width : Call → ℕ
width Tick = call_most
width StepBack = 1 + 2
width Restart = 1
width Why = 1

-- by the first byte; 0 for an unknown call
unfoldable pub call_width : ℕ → ℕ
call_width kind = elim (call_of kind) [ Ok call ↦ width call | Err bad ↦ 0 ]

module _ (desk : Desk) (call journal : List ℕ) where
  -- of a call that is known, and all there
  unfoldable pub reply_of : Call → Reply
  reply_of Tick = Line (tick_outcome desk (sample_at call 1) journal)
  reply_of StepBack = Line (back_outcome desk (u16_at call 1) journal)
  reply_of Restart = Line (restart_outcome desk)
  reply_of Why = replies.Why (why_outcome desk journal)

  -- a tick alone writes to the journal
  unfoldable pub journal_of : Call → List ℕ
  journal_of Tick = tick_journal desk (sample_at call 1) journal
  journal_of StepBack = journal
  journal_of Restart = journal
  journal_of Why = journal

  abbrev pub cut_short : Call → Bool
  cut_short kind = ltb (length call) (width kind)

  -- an unknown call and one cut short are a bad script
  unfoldable pub play_reply : Result Reply BadScript
  play_reply =
      elim (call_of (get_or call 0 0)) [
        | Ok kind ↦ cond (cut_short kind) (Err CutShort) (Ok (reply_of kind))
        | Err bad ↦ Err bad
      ]

  -- and leave the journal as it was
  unfoldable pub play_journal : List ℕ
  play_journal = elim (call_of (get_or call 0 0)) [ Ok kind ↦ cond (cut_short kind) journal (journal_of kind) | Err bad ↦ journal ]
