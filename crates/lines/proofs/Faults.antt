-- The fault that is told is that of the first line at fault: those before it fit, and what is looked for before it in that line is not wrong.
-- By the three tests of a line, by induction on the lines.
use Prim.Native.Nat.{ℕ, suc, ◌+◌, ◌≤◌, ◌<◌}
use native.Mathlib.Omega.{arith}
use mathlib.Core.Path.{◌≡◌, refl, sym, ap, ◌∙◌}
use mathlib.Core.Bool.{Bool, true, false, not, cond, decide, decide_iff, true≢false}
use mathlib.Core.List.{List, [], ◌∷◌, flatten}
use lib.Dec.{ltb}
use lib.ListN.{length, get_or, take, length-append}
use lib.Seq.{length-take-le}
use borrow.Author.Tests.{ltb-true, ltb-false, not-true, not-false}
use Rattle.utf8.specs.Utf8.{Utf8}
use Rattle.utf8.proofs.Utf8.{utf8?}
use Rattle.texts.specs.Table.{most_messages, most_bytes, header_width}
use Rattle.lines.specs.Made.{bad, made_after, made_of}
use Rattle.lines.specs.Making.{table_length, FirstFit, FirstFault, no_line, too_many, too_long, not_utf8}
use Rattle.lines.specs.declared.FaultKind.{FaultKind}
use Rattle.lines.specs.declared.FaultKind.TheVariants.{NoLine, TooMany, TooLong, NotUtf8}
use Rattle.lines.proofs.Judged.{bad_is, each_on}

-- ---- after so many lines with so many bytes: the bytes of the table of those and of the first k of the rest
bytes_to : ℕ → ℕ → List (List ℕ) → ℕ → ℕ
bytes_to count bytes rest k = header_width (count + k) + bytes + length (flatten (take k rest))

data Wrong (count bytes : ℕ) (rest : List (List ℕ)) (k : ℕ) (fault : FaultKind) : Type 0 where
  many : fault ≡ TooMany → most_messages ≤ count + k → Wrong count bytes rest k fault
  long : fault ≡ TooLong → count + k < most_messages → most_bytes < bytes_to count bytes rest (suc k) → Wrong count bytes rest k fault
  ill : fault ≡ NotUtf8 → count + k < most_messages → bytes_to count bytes rest (suc k) ≤ most_bytes
      → (Utf8 (get_or rest k []) → ⊥) → Wrong count bytes rest k fault

record After (count bytes : ℕ) (rest : List (List ℕ)) (fault : FaultKind) (line : ℕ) : Type 0 where
  k : ℕ
  told : line ≡ count + k + 1
  there : k < length rest
  most : count + k ≤ most_messages
  short : bytes_to count bytes rest k ≤ most_bytes
  each : (i : ℕ) → i < k → Utf8 (get_or rest i [])
  wrong : Wrong count bytes rest k fault

-- a line more in front
bytes_on : (count bytes : ℕ) (line : List ℕ) (rest : List (List ℕ)) (k : ℕ)
    → bytes_to count bytes (line ∷ rest) (suc k) ≡ bytes_to (count + 1) (bytes + length line) rest k
unfolding bytes_to flatten
bytes_on count bytes line rest k = let n = length-append line (flatten (take k rest)) in omega arith

first_bytes : (count bytes : ℕ) (rest : List (List ℕ)) → bytes_to count bytes rest 0 ≡ header_width count + bytes
unfolding bytes_to flatten
first_bytes count bytes rest = omega arith

wrong_on : (count bytes : ℕ) (line : List ℕ) (rest : List (List ℕ)) (k : ℕ) (fault : FaultKind) → Wrong (count + 1) (bytes + length line) rest k fault
    → Wrong count bytes (line ∷ rest) (suc k) fault
wrong_on count bytes line rest k fault (many e h) = many e (omega arith)
wrong_on count bytes line rest k fault (long e h l) = long e (omega arith) (rw (bytes_on count bytes line rest (suc k)) l)
wrong_on count bytes line rest k fault (ill e h l u) = ill e (omega arith) (rw (bytes_on count bytes line rest (suc k)) l) u

-- ---- the first fault after so many lines
-- the line itself is at fault
here : (count bytes : ℕ) (line : List ℕ) (rest : List (List ℕ)) (fault : FaultKind) (told : ℕ)
    → count ≤ most_messages → header_width count + bytes ≤ most_bytes → told ≡ count + 1 → Wrong count bytes (line ∷ rest) 0 fault
    → After count bytes (line ∷ rest) fault told
here count bytes line rest fault told l h e w =
    record {
      k = 0;
      told = omega arith;
      there = omega arith;
      most = omega arith;
      short = rw first_bytes h;
      each = λ i k. absurd (omega arith);
      wrong = w;
    }

-- one behind it is
behind : (count bytes : ℕ) (line : List ℕ) (rest : List (List ℕ)) (fault : FaultKind) (told : ℕ) → Utf8 line
    → After (count + 1) (bytes + length line) rest fault told → After count bytes (line ∷ rest) fault told
behind count bytes line rest fault told u a =
    record {
      k = suc a.k;
      told = omega (arith, a.told);
      there = omega (arith, a.there);
      most = omega (arith, a.most);
      short = rw bytes_on a.short;
      each = each_on line rest a.k u a.each;
      wrong = wrong_on count bytes line rest a.k fault a.wrong;
    }

fault_after : (rest : List (List ℕ)) (count bytes : ℕ) (fault : FaultKind) (told : ℕ) → count ≤ most_messages → header_width count + bytes ≤ most_bytes
    → made_after count bytes rest ≡ bad fault told → After count bytes rest fault told
unfolding made_after
fault_after [] count bytes fault told l h e = absurd (let k : ◌≡◌ {A = ℕ} 0 1 = cc in omega arith)
fault_after (line ∷ rest) count bytes fault told l h e =
    go (ltb most_messages (count + 1)) (ltb most_bytes (header_width (count + 1) + bytes + length line)) (not (decide (utf8? line))) refl refl refl e
    (fault_after rest (count + 1) (bytes + length line) fault told)
  where
    size : bytes_to count bytes (line ∷ rest) 1 ≡ header_width (count + 1) + bytes + length line
    size = bytes_on count bytes line rest 0 ∙ first_bytes (count + 1) (bytes + length line) rest ∙ omega arith

    go : (a b c : Bool) → ltb most_messages (count + 1) ≡ a → ltb most_bytes (header_width (count + 1) + bytes + length line) ≡ b
        → not (decide (utf8? line)) ≡ c
        → cond a (bad TooMany (count + 1)) (cond b (bad TooLong (count + 1)) (cond c (bad NotUtf8 (count + 1))
        (made_after (count + 1) (bytes + length line) rest)))
        ≡ bad fault told
        → (count + 1 ≤ most_messages → header_width (count + 1) + (bytes + length line) ≤ most_bytes
        → made_after (count + 1) (bytes + length line) rest ≡ bad fault told → After (count + 1) (bytes + length line) rest fault told)
        → After count bytes (line ∷ rest) fault told
    go true b c x y z e on =
        let same = bad_is TooMany fault (count + 1) told e in
        let f : fault ≡ TooMany = same.0 in
        let n : told ≡ count + 1 = same.1 in
        let beyond = ltb-true most_messages (count + 1) x in
        here count bytes line rest fault told l h n (many f (omega arith))
    go false true c x y z e on =
        let same = bad_is TooLong fault (count + 1) told e in
        let f : fault ≡ TooLong = same.0 in
        let n : told ≡ count + 1 = same.1 in
        let room = ltb-false most_messages (count + 1) x in
        here count bytes line rest fault told l h n (long f (omega arith) (rw size (ltb-true _ _ y)))
    go false false true x y z e on =
        let same = bad_is NotUtf8 fault (count + 1) told e in
        let f : fault ≡ NotUtf8 = same.0 in
        let n : told ≡ count + 1 = same.1 in
        let room = ltb-false most_messages (count + 1) x in
        let not_well : Utf8 line → ⊥ = λ u. true≢false (sym ((decide_iff (utf8? line)).1 u) ∙ not-true _ z) in
        here count bytes line rest fault told l h n (ill f (omega arith) (rw size (ltb-false _ _ y)) not_well)
    go false false false x y z e on =
        let room = ltb-false most_messages (count + 1) x in
        let fits = ltb-false most_bytes (header_width (count + 1) + bytes + length line) y in
        behind count bytes line rest fault told ((decide_iff (utf8? line)).0 (not-false _ z)) (on (omega arith) (omega arith) e)

-- ---- of a whole list of lines
module _ (messages : List (List ℕ)) (fault : FaultKind) (told : ℕ) where
  -- what is counted from 0 on is what the table of the first k would be
  all_bytes : (k : ℕ) → k ≤ length messages → bytes_to 0 0 messages k ≡ table_length (take k messages)
  unfolding bytes_to
  all_bytes k l = let n = length-take-le k messages l in omega arith

  told_after : After 0 0 messages fault told → FirstFault messages fault told
  told_after a = go a.wrong
    where
      k : ℕ
      k = a.k

      fit : FirstFit messages k
      fit = record { most = omega (arith, a.most); short = rw (all_bytes k (omega (arith, a.there))) at a.short; utf8 = a.each }

      line : told ≡ k + 1
      line = omega (arith, a.told)

      there : told ≤ length messages
      there = omega (arith, line, a.there)

      size : bytes_to 0 0 messages (suc k) ≡ table_length (take told messages)
      size =
          let n : suc k ≡ told = omega (arith, line) in
          all_bytes (suc k) (omega (arith, a.there)) ∙ ap (λ (m : ℕ). table_length (take m messages)) n

      go : Wrong 0 0 messages k fault → FirstFault messages fault told
      go (many e h) =
          let n : k ≡ most_messages = omega (arith, a.most) in
          too_many e (omega (arith, line)) there (rw n at fit)
      go (long e h l) = too_long k e line there fit (omega (arith, line)) (rw size at l)
      go (ill e h l u) = not_utf8 k e line there fit (omega (arith, line)) (rw size at l) u

pub fault_first : (messages : List (List ℕ)) (fault : FaultKind) (told : ℕ) → made_of messages ≡ bad fault told → FirstFault messages fault told
unfolding made_of
fault_first [] fault told e =
    let same = bad_is NoLine fault 1 told e in
    no_line same.0 same.1 refl
fault_first (line ∷ rest) fault told e =
    told_after (line ∷ rest) fault told (fault_after (line ∷ rest) 0 0 fault told (omega arith) (omega arith) e)
