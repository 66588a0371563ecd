-- `put_card` writes what `put_card` says: the test is that of `put`, and the ten u16 are the card's bytes.
use mathlib.Core.Path.{sym, ◌∙◌}
use mathlib.Core.List.{flat_map}
use Rattle.layout.proofs.Put.{put_yes, put_no}
use Rattle.card.specs.Card.{put_card}
use Rattle.card.proofs.put_card.Goals as goal

pub returns-then-fits : goal.returns-then-fits
unfolding put_card flat_map
returns-then-fits c = c.put_u16s.ensures ∙ sym (put_yes _ _ _ (sym c.fits.ensures ∙ c.if-fits.true))

pub returns-else-fits : goal.returns-else-fits
unfolding put_card flat_map
returns-else-fits c = sym (put_no _ _ _ (sym c.fits.ensures ∙ c.if-fits.false))
