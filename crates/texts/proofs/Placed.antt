-- Where a message lies, by the tests that the code makes one after the other: what each refusal says, and what is said of a message that is there.
-- By the definitions of the refusal and of the place, unfolded. Assumes nothing.
use Prim.Native.Nat.{ℕ, ◌+◌, ◌-◌, ◌≤◌, ◌<◌}
use mathlib.Core.Path.{◌≡◌, ap, ◌∙◌}
use mathlib.Core.Bool.{true, false, ◌||◌}
use mathlib.Core.List.{List, []}
use lib.Dec.{eqb}
use lib.ListN.{length, take, drop}
use lib.Seq.{slice}
use borrow.Author.Tests.{le-leb, lt-leb}
use Rattle.std.specs.Prelude.{Result, Ok, Err}
use Rattle.std.specs.Borrow.{Bor}
use Rattle.refusal.specs.Number.{number}
use Rattle.refusal.specs.declared.Refusal.{Refusal}
use Rattle.refusal.specs.declared.Refusal.TheVariants.{BadTable, NoSuchMessage, NoSuchLanguage}
use Rattle.texts.specs.Table.{count, offset, table_good}
use Rattle.texts.specs.Text.{chosen, text_refusal, text_place, text_part}
use Rattle.texts.specs.Told.{language_number, place_of}
use Rattle.texts.specs.declared.Language.{Language}
use Rattle.texts.specs.declared.Language.TheVariants.{First, Second}
use Rattle.texts.specs.declared.Place.{Place}
use Rattle.layout.proofs.Slices.{cut_slice}
use Rattle.refusal.proofs.Number.{number_some}
use Rattle.texts.proofs.Answers.{answer}

module _ (table : List ℕ) (n : ℕ) where
  pub place_bad : table_good table ≡ false → place_of (Err BadTable) ≡ text_place table 1 n
  unfolding text_place text_refusal number
  place_bad bad = rw bad

  pub place_beyond : table_good table ≡ true → count table ≤ n → place_of (Err NoSuchMessage) ≡ text_place table 1 n
  unfolding text_place text_refusal number
  place_beyond good beyond = rw (good, le-leb _ _ beyond)

  pub place_there : {start end : ℕ} → table_good table ≡ true → n < count table → start ≡ offset table n → end ≡ offset table (n + 1)
      → place_of (Ok (start, end)) ≡ text_place table 1 n
  unfolding text_place text_refusal
  place_there good there from to = rw (good, lt-leb _ _ there, from, to)

  -- every language that is spoken is looked up alike
  spoken_alike : {language : ℕ} (l : Language) → language_number l ≡ language → text_place table 1 n ≡ text_place table language n
  unfolding text_place text_refusal
  spoken_alike First e = rw (← e)
  spoken_alike Second e = rw (← e)

module _ (first second : Bor (List ℕ)) (language n : ℕ) where
  pub place_unspoken : (eqb language 1 || eqb language 2) ≡ false → place_of (Err NoSuchLanguage) ≡ text_place (chosen language first second).now language n
  unfolding text_place text_refusal number
  place_unspoken unspoken = rw unspoken

  module _ (l : Language) (table : Bor (List ℕ)) (spoken : language_number l ≡ language) (of : table ≡ chosen (language_number l) first second) where
    pub table_spoken : table ≡ chosen language first second
    table_spoken = of ∙ ap (λ (k : ℕ). chosen k first second) spoken

    pub place_spoken : (found : Result (ℕ × ℕ) Refusal) → place_of found ≡ text_place table.now 1 n
        → place_of found ≡ text_place (chosen language first second).now language n
    place_spoken found here = here ∙ ap (λ (t : Bor (List ℕ)). text_place t.now 1 n) table_spoken ∙ spoken_alike (chosen language first second).now n l spoken

-- ---- what is cut out of the table at a place
module _ (table : List ℕ) (language n : ℕ) where
  -- a refusal: no bytes
  pub record Refused (refusal : Refusal) : Type 0 where
    pub told : number refusal ≡ (text_place table language n).refusal
    pub nothing : [] ≡ text_part table language n

  pub refused_part : (refusal : Refusal) → place_of (Err refusal) ≡ text_place table language n → Refused refusal
  refused_part refusal e = record { told = ap (λ (p : Place). p.refusal) e; nothing = ap (λ (p : Place). slice p.start p.end table) e }

  -- and it begins at the head of the table
  pub refused_start : (refusal : Refusal) → number refusal ≡ (text_place table language n).refusal → (text_place table language n).start ≡ 0
  refused_start refusal e = ((answer table language n).refused (λ z. number_some refusal (e ∙ z))).0

  pub record Part (start end : ℕ) : Type 0 where
    pub accepted : 0 ≡ (text_place table language n).refusal
    pub from : start ≡ (text_place table language n).start
    pub rising : start ≤ end
    pub most : end ≤ length table
    pub cut : take (end - start) (drop start table) ≡ text_part table language n

  pub found_part : (start end : ℕ) → place_of (Ok (start, end)) ≡ text_place table language n → Part start end
  found_part start end e =
      let from : start ≡ (text_place table language n).start = ap (λ (p : Place). p.start) e in
      let to : end ≡ (text_place table language n).end = ap (λ (p : Place). p.end) e in
      let all = answer table language n in
      record {
        accepted = ap (λ (p : Place). p.refusal) e;
        from = from;
        rising = rw (from, to) all.rising;
        most = rw to all.most;
        cut = cut_slice table start end ∙ ap (λ (p : Place). slice p.start p.end table) e;
      }
