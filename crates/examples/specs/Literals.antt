-- Cards, desks and samples of literal numbers, and the numbers of a desk, an answer and reasons, in the paper's order. Only here do the tables name fields.
use Rattle.std.specs.Prelude.{ℕ, List, [], ◌∷◌, ◌++◌, get_or}
use Rattle.reading.specs.Bits.{float_of_bits}
use Rattle.card.specs.declared.Card.{Card}
use Rattle.record.specs.declared.Sample.{Sample}
use Rattle.state.specs.declared.State.{State}
use Rattle.rules.specs.declared.Answer.{Answer}
use Rattle.desk.specs.declared.Desk.{Desk}
use Rattle.why.specs.declared.Reason.{Reason}
use Rattle.why.specs.declared.Reasons.{Reasons}
use Rattle.examples.specs.Drive.{card_k}

-- ten numbers
abbrev pub card_of : List ℕ → Card
card_of x = record {
  design = get_or x 0 0;
  set = get_or x 1 0;
  highest = get_or x 2 0;
  pos = get_or x 3 0;
  zav = get_or x 4 0;
  tolerance = get_or x 5 0;
  stop = get_or x 6 0;
  deceleration = get_or x 7 0;
  cycle = get_or x 8 0;
  wait = get_or x 9 0;
}

-- 28 numbers: the card's, then n and the rest of what the desk holds
abbrev pub desk_of : List ℕ → Desk
desk_of x = record {
  card = card_of x;
  n = get_or x 10 0;
  state = record {
    mode = get_or x 11 0;
    buttons = get_or x 12 0;
    signal = record {
      codes = record { last = get_or x 13 0; interrupted = get_or x 14 0; gap = get_or x 15 0; raise = get_or x 16 0 };
      curve = record { start = get_or x 17 0; driven = get_or x 18 0; prompted = get_or x 20 0 };
      man = get_or x 19 0;
    };
    prompt = record { ticks = get_or x 21 0; kind = get_or x 22 0 };
    cyclic = record { kind = get_or x 23 0; ticks = get_or x 24 0 };
    wrongway = get_or x 25 0;
    standing = get_or x 26 0;
    causes = get_or x 27 0;
  };
}

-- the bits of speed and pressure, then the switches
abbrev pub sample_of : ℕ → ℕ → ℕ → ℕ → ℕ → ℕ → ℕ → Sample
sample_of speed pressure code mode lever flags sense = record {
  speed = float_of_bits speed;
  pressure = float_of_bits pressure;
  code = code;
  mode = mode;
  lever = lever;
  flags = flags;
  sense = sense;
}

abbrev pub card_numbers : Card → List ℕ
card_numbers c =
    c.design ∷ c.set ∷ c.highest ∷ c.pos ∷ c.zav ∷ c.tolerance ∷ c.stop ∷ c.deceleration ∷ c.cycle ∷ c.wait ∷ []

abbrev pub state_numbers : State → List ℕ
state_numbers s =
    s.mode
    ∷ s.buttons
    ∷ s.signal.codes.last
    ∷ s.signal.codes.interrupted
    ∷ s.signal.codes.gap
    ∷ s.signal.codes.raise
    ∷ s.signal.curve.start
    ∷ s.signal.curve.driven
    ∷ s.signal.man
    ∷ s.signal.curve.prompted
    ∷ s.prompt.ticks
    ∷ s.prompt.kind
    ∷ s.cyclic.kind
    ∷ s.cyclic.ticks
    ∷ s.wrongway
    ∷ s.standing
    ∷ s.causes
    ∷ []

abbrev pub desk_numbers : Desk → List ℕ
desk_numbers d = card_numbers d.card ++ (d.n ∷ state_numbers d.state)

abbrev pub answer_numbers : Answer → List ℕ
answer_numbers a = a.permitted ∷ a.target ∷ a.marks ∷ a.causes ∷ a.lowest ∷ a.held ∷ []

-- the numbers of a desk of card K, from n on
abbrev pub desk_k : List ℕ → List ℕ
desk_k rest = card_numbers card_k ++ rest

-- of a cause: the tick and the record's fields
abbrev of_cause : Reason → List ℕ
of_cause reason =
    reason.tick ∷ reason.reading.v ∷ reason.reading.code ∷ reason.reading.mode ∷ reason.reading.lever ∷ reason.reading.flags
    ∷ reason.reading.band ∷ reason.reading.sense ∷ []

-- 41 numbers: the refusal, then the causes' in their order
abbrev pub reason_numbers : Reasons → List ℕ
reason_numbers reasons =
    reasons.refusal ∷ of_cause reasons.nz1 ++ of_cause reasons.nz2 ++ of_cause reasons.nz3 ++ of_cause reasons.nz4 ++ of_cause reasons.nz5
