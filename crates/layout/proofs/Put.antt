-- Bytes that are put at a place: those of `written` where they fit, else nothing; they stay as many, and no other byte changes.
-- By whether they fit, and then from the laws of `written`. Assumes nothing.
use Prim.Native.Nat.{ℕ, ◌+◌, ◌≤◌, ◌<◌}
use mathlib.Core.Path.{◌≡◌, refl}
use mathlib.Core.Bool.{Bool, true, false, cond}
use mathlib.Core.Logic.{◌⊎◌, ⊎_elim}
use mathlib.Core.List.{List}
use borrow.Author.Tests.{leb-true, le-leb}
use lib.Dec.{leb}
use lib.ListN.{length, get_or}
use Rattle.layout.specs.Layout.{written, put}
use Rattle.layout.proofs.Written.{length-written, written_below, written_above}

module _ (l : List ℕ) (at : ℕ) (new : List ℕ) where
  pub put_fits : at + length new ≤ length l → put l at new ≡ written l at new
  unfolding put
  put_fits fits = rw (le-leb _ _ fits)

  -- by the test that the code makes
  pub put_yes : leb (at + length new) (length l) ≡ true → put l at new ≡ written l at new
  put_yes e = put_fits (leb-true _ _ e)

  pub put_no : leb (at + length new) (length l) ≡ false → put l at new ≡ l
  unfolding put
  put_no e = rw e

  -- what holds of the bytes as they were, and of them with the new ones in their place
  put_keeps : (P : List ℕ → Type 0) → P l → (at + length new ≤ length l → P (written l at new)) → P (put l at new)
  unfolding put
  put_keeps P was is = go (leb (at + length new) (length l)) refl
    where
      go : (t : Bool) → leb (at + length new) (length l) ≡ t → P (cond t (written l at new) l)
      go true e = is (leb-true _ _ e)
      go false e = was

  pub put_length : length (put l at new) ≡ length l
  put_length = put_keeps (λ x. length x ≡ length l) refl (length-written l at new)

  pub put_other : (k : ℕ) → (k < at) ⊎ (at + length new ≤ k) → get_or (put l at new) k 0 ≡ get_or l k 0
  put_other k apart =
      put_keeps (λ x. get_or x k 0 ≡ get_or l k 0) refl
      (λ fits. ⊎_elim (written_below l at new fits k) (written_above l at new fits k) apart)
