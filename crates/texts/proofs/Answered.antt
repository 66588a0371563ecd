-- What `text_place`, `Tables::text` and `text` answer, from their contracts: the refusal for its reason, 17 for no language whatever the tables are;
-- UTF-8 in any case; where nothing is refused, the message; where it is refused, nothing.
-- Of the two that answer a text by one law, of the number of its refusal and its bytes.
-- `Post` is the contract as the check reads it off the source; `s.1.1.1.1.0` is the refusal, the fifth parameter, at exit.
use Prim.Native.Nat.{ℕ}
use mathlib.Core.Path.{◌≡◌, sym, ◌∙◌}
use mathlib.Core.Logic.{◌⊎◌}
use mathlib.Core.List.{List, []}
use contract.Lifetimes.{Lfts}
use Rattle.refusal.specs.Number.{number_of}
use Rattle.utf8.specs.Utf8.{Utf8}
use Rattle.texts.specs.Table.{message}
use Rattle.texts.specs.Text.{chosen, text_place, text_part}
use Rattle.texts.specs.Told.{bytes_of}
use Rattle.texts.proofs.Answers.{Reason, no_language, bad_table_lem, no_message, accepted, Answer, answer}
use Rattle.texts.proofs.text_place.Reads as placing
use Rattle.texts.proofs.Tables.text.Reads as finding
use Rattle.texts.proofs.text.Reads as telling

pub place_answer : (κs : Lfts 1) (first second language number : _) (x s : _)
    → placing.Post κs (first, (second, (language, (number, tt)))) x s → Answer (chosen language first second).now language number x
place_answer κs first second language number x s post = rw post (answer _ _ _)

-- ---- what a text is, by the number of its refusal and by its bytes
record Text (table : List ℕ) (language number refusal : ℕ) (bytes : List ℕ) : Type 0 where
  reason : Reason table language number refusal
  unknown : ((language ≡ 1) ⊎ (language ≡ 2) → ⊥) → refusal ≡ 17
  utf8 : Utf8 bytes
  accepted : refusal ≡ 0 → bytes ≡ message table number
  refused : (refusal ≡ 0 → ⊥) → bytes ≡ []

module _
    (table : List ℕ) (language number refusal : ℕ) (bytes : List ℕ) (told : refusal ≡ (text_place table language number).refusal)
    (part : bytes ≡ text_part table language number) where
  text_why : Reason table language number refusal
  text_why = rw told (answer table language number).reason

  text_unknown : ((language ≡ 1) ⊎ (language ≡ 2) → ⊥) → refusal ≡ 17
  text_unknown unknown = go text_why
    where
      go : Reason table language number refusal → refusal ≡ 17
      go (no_language e _) = e
      go (bad_table_lem _ known _) = absurd (unknown known)
      go (no_message _ known _ _) = absurd (unknown known)
      go (accepted _ known _ _) = absurd (unknown known)

  text_is : Text table language number refusal bytes
  text_is = record {
    reason = text_why;
    unknown = text_unknown;
    utf8 = rw part (answer table language number).utf8;
    accepted = λ e. part ∙ (answer table language number).accepted (sym told ∙ e);
    refused = λ n. let zeros = (answer table language number).refused (λ e. n (told ∙ e)) in part ∙ rw (zeros.0, zeros.1);
  }

module _
    (κs : Lfts 1) (tables language number : _) (x s : _) (post : finding.Post κs (tables, (language, (number, tt))) x s) where
  found_is : Text (chosen language tables.first tables.second).now language number (number_of x) (bytes_of x)
  found_is = text_is _ _ _ _ _ post.0 post.1.0

  pub found_reason : Reason (chosen language tables.first tables.second).now language number (number_of x)
  found_reason = found_is.reason

  pub found_unknown_language : ((language ≡ 1) ⊎ (language ≡ 2) → ⊥) → number_of x ≡ 17
  found_unknown_language = found_is.unknown

  pub found_utf8 : Utf8 (bytes_of x)
  found_utf8 = found_is.utf8

  pub found_message : number_of x ≡ 0 → bytes_of x ≡ message (chosen language tables.first tables.second).now number
  found_message = found_is.accepted

  pub found_nothing : (number_of x ≡ 0 → ⊥) → bytes_of x ≡ []
  found_nothing = found_is.refused

module _
    (κs : Lfts 2) (first second language number refusal : _) (x s : _)
    (post : telling.Post κs (first, (second, (language, (number, (refusal, tt))))) x s) where
  answer_is : Text (chosen language first second).now language number s.1.1.1.1.0.now x.now
  answer_is = text_is _ _ _ _ _ post.1.1 post.0

  pub text_reason : Reason (chosen language first second).now language number s.1.1.1.1.0.now
  text_reason = answer_is.reason

  pub unknown_language : ((language ≡ 1) ⊎ (language ≡ 2) → ⊥) → s.1.1.1.1.0.now ≡ 17
  unknown_language = answer_is.unknown

  pub answer_utf8 : Utf8 x.now
  answer_utf8 = answer_is.utf8

  pub accepted_message : s.1.1.1.1.0.now ≡ 0 → x.now ≡ message (chosen language first second).now number
  accepted_message = answer_is.accepted

  pub refused_empty : (s.1.1.1.1.0.now ≡ 0 → ⊥) → x.now ≡ []
  refused_empty = answer_is.refused
