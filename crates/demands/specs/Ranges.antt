-- The ranges of card, record and desk, a desk with nothing in it, an answer of zeros and reasons of zeros, as the paper writes them.
-- In numbers and not by the names that the rules use, so that this page is held against the paper and the rules against this page.
use Rattle.std.specs.Prelude.{ℕ, ◌≤◌, ◌≡◌, ◌⊎◌}
use Rattle.card.specs.declared.Card.{Card}
use Rattle.record.specs.declared.Record.{Record}
use Rattle.rules.specs.declared.Answer.{Answer}
use Rattle.desk.specs.declared.Desk.{Desk}
use Rattle.why.specs.declared.Reason.{Reason}
use Rattle.why.specs.declared.Reasons.{Reasons}

abbrev pub Between : ℕ → ℕ → ℕ → Type 0
Between least x most = (least ≤ x) × (x ≤ most)

pub record CardFits (card : Card) : Type 0 where
  pub design : Between 1 card.design 2500
  pub set : Between 1 card.set 2500
  pub highest : Between 1 card.highest 2500
  pub pos : Between 1 card.pos 2500
  pub zav : Between 1 card.zav 2500
  pub tolerance : card.tolerance ≤ 100
  pub stop : card.stop ≤ 400
  pub deceleration : Between 5 card.deceleration 40
  pub cycle : Between 150 card.cycle 600
  pub wait : (card.wait ≡ 250) ⊎ (card.wait ≡ 1000)

pub record RecordFits (rec : Record) : Type 0 where
  pub v : rec.v ≤ 2500
  pub code : rec.code ≤ 4
  pub mode : Between 1 rec.mode 4
  pub lever : rec.lever ≤ 2
  -- bit 7 zero
  pub flags : rec.flags ≤ 127
  pub band : rec.band ≤ 2
  pub sense : rec.sense ≤ 2

pub record DeskFits (desk : Desk) : Type 0 where
  pub card : CardFits desk.card
  pub n : desk.n ≤ 7200
  pub mode : Between 1 desk.state.mode 4
  -- the last three buttons
  pub buttons : desk.state.buttons ≤ 7
  pub last_code : desk.state.signal.codes.last ≤ 4
  -- k
  pub gap_code : desk.state.signal.codes.interrupted ≤ 4
  -- g
  pub gap : desk.state.signal.codes.gap ≤ 51
  pub raise : desk.state.signal.codes.raise ≤ 4
  -- V0
  pub curve_start : desk.state.signal.curve.start ≤ 2500
  -- E
  pub curve_driven : desk.state.signal.curve.driven ≤ 6250000
  -- M
  pub man_speed : desk.state.signal.man ≤ 2500
  -- w
  pub one_time_given : desk.state.signal.curve.prompted ≤ 1
  -- u
  pub one_time_prompt : desk.state.prompt.ticks ≤ 35
  -- the kind of u
  pub one_time_kind : desk.state.prompt.kind ≤ 1
  pub vigilance_kind : desk.state.cyclic.kind ≤ 2
  -- q
  pub vigilance_ticks : desk.state.cyclic.ticks ≤ 599
  -- d
  pub wrong_way : desk.state.wrongway ≤ 3600
  -- h
  pub standing : desk.state.standing ≤ 1000
  pub causes : desk.state.causes ≤ 31

-- a desk of a card and a mode, all else 0
abbrev pub bare_desk : Card → ℕ → Desk
bare_desk card mode = record {
  card = card;
  n = 0;
  state = record {
    mode = mode;
    buttons = 0;
    signal = record {
      codes = record { last = 0; interrupted = 0; gap = 0; raise = 0 };
      curve = record { start = 0; driven = 0; prompted = 0 };
      man = 0;
    };
    prompt = record { ticks = 0; kind = 0 };
    cyclic = record { kind = 0; ticks = 0 };
    wrongway = 0;
    standing = 0;
    causes = 0;
  };
}

-- fresh: its card, mode 1
abbrev pub fresh_of : Card → Desk
fresh_of card = bare_desk card 1

-- of zeros: card and mode too
abbrev pub zero_card : Card
zero_card =
    record { design = 0; set = 0; highest = 0; pos = 0; zav = 0; tolerance = 0; stop = 0; deceleration = 0; cycle = 0; wait = 0 }

abbrev pub zero_desk : Desk
zero_desk = bare_desk zero_card 0

abbrev pub zero_answer : Answer
zero_answer = record { permitted = 0; target = 0; marks = 0; causes = 0; lowest = 0; held = 0 }

abbrev pub zero_reason : Reason
zero_reason = record { tick = 0; reading = record { v = 0; code = 0; mode = 0; lever = 0; flags = 0; band = 0; sense = 0 } }

-- a number of refusal and nothing else
abbrev pub zero_reasons : ℕ → Reasons
zero_reasons number = record { refusal = number; nz1 = zero_reason; nz2 = zero_reason; nz3 = zero_reason; nz4 = zero_reason; nz5 = zero_reason }
