-- What the calls answer, read as C and the definitions of texts read it.
use Rattle.std.specs.Prelude.{ℕ, ◌≡◌, false, ◌||◌, List, [], eqb, Result, Ok, Err}
use Rattle.std.specs.Borrow.{Bor}
use Rattle.refusal.specs.Number.{number}
use Rattle.refusal.specs.declared.Refusal.{Refusal}
use Rattle.refusal.specs.declared.Refusal.TheVariants.{NoSuchLanguage}
use Rattle.texts.specs.declared.Language.{Language}
use Rattle.texts.specs.declared.Language.TheVariants.{First, Second}
use Rattle.texts.specs.declared.Place.{Place}

-- the number of a language
abbrev pub language_number : Language → ℕ
language_number First = 1
language_number Second = 2

-- the language with this number, or a refusal where there is none
abbrev pub Speaks : ℕ → Result Language Refusal → Type 0
Speaks spoken (Ok language) = language_number language ≡ spoken
Speaks spoken (Err refusal) = (refusal ≡ NoSuchLanguage) × ((eqb spoken 1 || eqb spoken 2) ≡ false)

-- where a message begins and ends, or why it has no place
abbrev pub place_of : Result (ℕ × ℕ) Refusal → Place
place_of (Ok found) = record { refusal = 0; start = found.0; end = found.1 }
place_of (Err refusal) = record { refusal = number refusal; start = 0; end = 0 }

-- the bytes of the part that is the answer, none if refused
abbrev pub bytes_of : Result (Bor (List ℕ)) Refusal → List ℕ
bytes_of (Ok text) = text.now
bytes_of (Err refusal) = []
