-- The bytes say which scalar values they are: the value is read back from its encoding, so that encodings, end to end, come apart in one way.
-- By the size of the value, then by induction on the values.
use Prim.Native.Nat.{ℕ, ◌+◌, ◌*◌, ◌-◌, ◌/◌, ◌≤◌, ◌<◌}
use native.Mathlib.Omega.{arith}
use mathlib.Core.Path.{◌≡◌, refl, sym, ap, ap₂, ◌∙◌}
use mathlib.Core.Bool.{cond}
use mathlib.Core.List.{List, [], ◌∷◌, ◌++◌, flat_map, append_cancel_left}
use lib.Dec.{leb}
use lib.ListN.{length, get_or, length-append}
use borrow.Author.Tests.{le-leb, lt-leb}
use Rattle.utf8.specs.Utf8.{Scalar, Scalars, encoding, ReadOneWay}
use Rattle.utf8.proofs.Encoding.{Sized, in_one, in_two, in_three, in_four, sized, scalar_most}
use Rattle.utf8.proofs.Width.{width_some}

-- the value whose encoding begins the bytes
first : List ℕ → ℕ
first bytes =
    let a = get_or bytes 0 0 in
    let b = get_or bytes 1 0 - 0x80 in
    let c = get_or bytes 2 0 - 0x80 in
    let d = get_or bytes 3 0 - 0x80 in
    cond (leb a 0x7F) a
    (cond (leb a 0xDF) ((a - 0xC0) * 64 + b)
    (cond (leb a 0xEF) ((a - 0xE0) * 4096 + b * 64 + c)
    ((a - 0xF0) * 262144 + b * 4096 + c * 64 + d)))

first_encoding : (v : ℕ) (rest : List ℕ) → v ≤ 0x10FFFF → first (encoding v ++ rest) ≡ v
unfolding first
first_encoding v rest s = go (sized v)
  where
    go : Sized v → first (encoding v ++ rest) ≡ v
    go (in_one h e) = rw (e, le-leb _ _ h)
    go (in_two l h e) = rw (e, lt-leb (0xC0 + v / 64) 0x7F (omega arith), le-leb (0xC0 + v / 64) 0xDF (omega arith)) (omega arith)
    go (in_three l h e) =
        let a : ℕ = 0xE0 + v / 4096 in
        rw (e, lt-leb a 0x7F (omega arith), lt-leb a 0xDF (omega arith), le-leb a 0xEF (omega arith)) (omega arith)
    go (in_four l e) =
        let y : v / 4096 ≡ v / 64 / 64 = omega arith in
        let z : v / 262144 ≡ v / 64 / 64 / 64 = omega arith in
        let a : ℕ = 0xF0 + v / 262144 in
        rw (e, lt-leb a 0x7F (omega arith), lt-leb a 0xDF (omega arith), lt-leb a 0xEF (omega arith)) (omega arith)

encoding_apart : (v w : ℕ) (rest other : List ℕ) → Scalar v → Scalar w → encoding v ++ rest ≡ encoding w ++ other → v ≡ w
encoding_apart v w rest other s t e =
    sym (first_encoding v rest (scalar_most v s)) ∙ ap first e ∙ first_encoding w other (scalar_most w t)

some_bytes : (v : ℕ) (rest : List ℕ) → 0 < length (encoding v ++ rest)
some_bytes v rest = let h = width_some v in rw length-append (omega arith)

apart : (values others : List ℕ) → Scalars values → Scalars others → flat_map encoding values ≡ flat_map encoding others → values ≡ others
unfolding flat_map
apart [] [] s t e = refl
apart [] (w ∷ others) s t e = absurd (let h = some_bytes w (flat_map encoding others) in let n = ap length e in omega arith)
apart (v ∷ values) [] s t e = absurd (let h = some_bytes v (flat_map encoding values) in let n = ap length e in omega arith)
apart (v ∷ values) (w ∷ others) s t e =
    let same : v ≡ w = encoding_apart v w _ _ s.0 t.0 e in
    ap₂ (λ (x : ℕ) (y : List ℕ). x ∷ y) same
    (apart values others s.1 t.1 (append_cancel_left (encoding w) _ _ (rw same at e)))

pub read_one_way : ReadOneWay
read_one_way bytes one other = apart one.values other.values one.scalars other.scalars (one.encoded ∙ sym other.encoded)
