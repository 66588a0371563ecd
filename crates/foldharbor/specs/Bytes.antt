-- A card and an answer from the first bytes of a list, and to them. Too few bytes give zeros, and nothing is put there.
use Rattle.std.specs.Prelude.{ℕ, cond, List, ltb, length}
use Rattle.card.specs.declared.Card.{Card}
use Rattle.card.specs.Card.{card_width, card_at, no_card}
use Rattle.rules.specs.declared.Answer.{Answer}
use Rattle.rules.specs.Answer.{answer_width, answer_at, no_answer}

unfoldable pub card_from : List ℕ → Card
card_from bytes = cond (ltb (length bytes) card_width) no_card (card_at bytes 0)

unfoldable pub answer_from : List ℕ → Answer
answer_from bytes = cond (ltb (length bytes) answer_width) no_answer (answer_at bytes 0)

-- how many bytes are put where there are so many: all or none
unfoldable pub bytes_put : ℕ → ℕ → ℕ
bytes_put width room = cond (ltb room width) 0 width
