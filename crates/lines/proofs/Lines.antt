-- The lines of a text have no line end in them, and every list of messages without one is the lines of a text: of `text_of messages`.
-- By the bytes of a text and of a message, then by induction on the messages.
use Prim.Native.Nat.{ℕ, zero, suc, ◌<◌}
use native.Mathlib.Omega.{arith}
use mathlib.Core.Path.{◌≡◌, refl, ap, ◌∙◌}
use mathlib.Core.Bool.{Bool, true, false, cond}
use mathlib.Core.List.{List, [], ◌∷◌, ◌++◌, flat_map}
use lib.Dec.{eqb}
use lib.ListN.{length, get_or}
use borrow.Author.Tests.{ne_eqb, eqb-false}
use Rattle.lines.specs.Lines.{line_end, onto, lines, text_of}
use Rattle.lines.specs.Making.{Unbroken}

-- ---- no line has a line end in it
onto_unbroken : (byte : ℕ) (lines : List (List ℕ)) → (byte ≡ line_end → ⊥) → Unbroken lines → Unbroken (onto byte lines)
unfolding onto
onto_unbroken byte [] n h zero zero l m e = n e
onto_unbroken byte [] n h zero (suc k) l m e = absurd (omega arith)
onto_unbroken byte [] n h (suc i) k l m e = absurd (omega arith)
onto_unbroken byte (line ∷ rest) n h zero zero l m e = n e
onto_unbroken byte (line ∷ rest) n h zero (suc k) l m e = h 0 k (omega arith) (omega arith) e
onto_unbroken byte (line ∷ rest) n h (suc i) k l m e = h (suc i) k l m e

pub lines_unbroken : (text : List ℕ) → Unbroken (lines text)
unfolding lines
lines_unbroken [] = λ i k l m e. absurd (omega arith)
lines_unbroken (byte ∷ text) = go (eqb byte line_end) refl (lines_unbroken text)
  where
    go : (b : Bool) → eqb byte line_end ≡ b → Unbroken (lines text) → Unbroken (cond b ([] ∷ lines text) (onto byte (lines text)))
    go true e h zero k l m f = absurd (omega arith)
    go true e h (suc i) k l m f = h i k (omega arith) m f
    go false e h i k l m f = onto_unbroken byte (lines text) (eqb-false _ _ e) h i k l m f

-- ---- messages without a line end are lines
line_apart : (message rest : List ℕ) → ((k : ℕ) → k < length message → get_or message k 0 ≡ line_end → ⊥)
    → lines (message ++ (line_end ∷ []) ++ rest) ≡ message ∷ lines rest
unfolding lines onto
line_apart [] rest h = refl
line_apart (byte ∷ message) rest h =
    rw (ne_eqb byte line_end (h 0 (omega arith)), line_apart message rest (λ k l. h (suc k) (omega arith)))

pub lines_text : (messages : List (List ℕ)) → Unbroken messages → lines (text_of messages) ≡ messages
unfolding text_of flat_map lines
lines_text [] h = refl
lines_text (message ∷ messages) h =
    line_apart message (text_of messages) (λ k l. h 0 k (omega arith) l)
    ∙ ap (λ (x : List (List ℕ)). message ∷ x) (lines_text messages (λ i k l. h (suc i) k (omega arith)))
