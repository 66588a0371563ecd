-- What a host keeps in a file is there again: a card or an answer that is put is read back, and too few bytes give zeros and stay as they are.
-- From the laws of `card`, `rules` and `layout`. Assumes nothing.
use Prim.Native.Nat.{◌≤◌, ◌<◌}
use native.Mathlib.Omega.{arith}
use mathlib.Core.Path.{◌≡◌}
use mathlib.Core.List.{flat_map}
use lib.ListN.{length}
use contract.Lifetimes.{Lfts}
use borrow.Author.Tests.{le-ltb, lt-ltb, lt-leb}
use Rattle.layout.proofs.Put.{put_no}
use Rattle.card.specs.declared.Card.{Card}
use Rattle.card.specs.Card.{card_width, card_bytes, put_card, no_card}
use Rattle.card.proofs.Bytes as card
use Rattle.rules.specs.declared.Answer.{Answer}
use Rattle.rules.specs.Answer.{answer_width, answer_bytes, put_answer, no_answer}
use Rattle.rules.proofs.Bytes as rules
use Rattle.foldharbor.specs.Bytes.{card_from, answer_from, bytes_put}
use Rattle.foldharbor.proofs.foldharbor_card_at.Reads as card_reading
use Rattle.foldharbor.proofs.foldharbor_put_card.Reads as card_putting
use Rattle.foldharbor.proofs.foldharbor_answer_at.Reads as answer_reading
use Rattle.foldharbor.proofs.foldharbor_put_answer.Reads as answer_putting

-- ---- what was put, and then read
pub card_kept : (κs κs' : Lfts 1) (c : Card) (b b' r s x t : _)
    → card_putting.Post κs (c, (b, tt)) r s → card_reading.Post κs' (b', tt) x t → b'.now ≡ s.1.0.now
    → card_width ≤ length b.now → card.CardU16 c → (r ≡ card_width) × (x ≡ c)
unfolding card_from bytes_put
card_kept κs κs' c b b' r s x t put read same fits small =
    let all = le-ltb (length b.now) card_width fits in
    (rw (put.0, all), rw (read, same, put.1, card.put_length b.now 0 c, all) (card.put_back b.now 0 c (omega arith) small))

pub answer_kept : (κs κs' : Lfts 1) (a : Answer) (b b' r s x t : _)
    → answer_putting.Post κs (a, (b, tt)) r s → answer_reading.Post κs' (b', tt) x t → b'.now ≡ s.1.0.now
    → answer_width ≤ length b.now → a.permitted < 65536 → a.target < 65536 → (r ≡ answer_width) × (x ≡ a)
unfolding answer_from bytes_put
answer_kept κs κs' a b b' r s x t put read same fits small small-too =
    let all = le-ltb (length b.now) answer_width fits in
    (rw (put.0, all), rw (read, same, put.1, rules.put_length b.now 0 a, all) (rules.put_back b.now 0 a (omega arith) small small-too))

-- ---- of too few bytes
pub card_of_few : (κs : Lfts 1) (b x t : _) → card_reading.Post κs (b, tt) x t → length b.now < card_width → x ≡ no_card
unfolding card_from
card_of_few κs b x t read few = rw (read, lt-ltb _ _ few)

pub answer_of_few : (κs : Lfts 1) (b x t : _) → answer_reading.Post κs (b, tt) x t → length b.now < answer_width → x ≡ no_answer
unfolding answer_from
answer_of_few κs b x t read few = rw (read, lt-ltb _ _ few)

pub put_card_of_few : (κs : Lfts 1) (c : Card) (b r s : _) → card_putting.Post κs (c, (b, tt)) r s → length b.now < card_width
    → (r ≡ 0) × (s.1.0.now ≡ b.now)
unfolding bytes_put put_card flat_map
put_card_of_few κs c b r s put few = (rw (put.0, lt-ltb _ _ few), rw put.1 (put_no b.now 0 (card_bytes c) (lt-leb _ _ few)))

pub put_answer_of_few : (κs : Lfts 1) (a : Answer) (b r s : _) → answer_putting.Post κs (a, (b, tt)) r s → length b.now < answer_width
    → (r ≡ 0) × (s.1.0.now ≡ b.now)
unfolding bytes_put put_answer
put_answer_of_few κs a b r s put few = (rw (put.0, lt-ltb _ _ few), rw put.1 (put_no b.now 0 (answer_bytes a) (lt-leb _ _ few)))
