-- What a type whose values may be out of range has to prove.
use Rattle.std.specs.Prelude.{◌≡◌, Bool, true}

-- the test says that a value is in range, and the other way round; that it is has one proof at most
pub record RangedLaws {A : Type 0} (ranges : A → Type 0) (test : A → Bool) : Type 0 where
  pub tested : (x : A) → test x ≡ true → ranges x
  pub tests : (x : A) → ranges x → test x ≡ true
  pub one_proof : (x : A) → IsProp (ranges x)
