-- `tlv::write::put_number` meets its contract: the number's bytes are the value of a field, or nothing changes.
use mathlib.Core.Path.{refl, sym, ◌∙◌}
use Rattle.tlv.proofs.Writing.{front_counted, number_put_lem, number_wide, number_misfit}
use Rattle.tlv.proofs.write.put_number.Goals as goal

pub returns-then-width-gt-MAX_WIDTH : goal.returns-then-width-gt-MAX_WIDTH
returns-then-width-gt-MAX_WIDTH c = number_wide _ _ _ _ _ _ c.if-width-gt-MAX_WIDTH.true

pub returns-then-not-fits : goal.returns-then-not-fits
returns-then-not-fits c = number_misfit _ _ _ _ _ _ (sym c.fits.ensures ∙ c.if-not-fits.true)

pub slice_bounds-put_field-end : goal.slice_bounds-put_field-end
slice_bounds-put_field-end c =
    let write-be = c.write_be in
    front_counted _ _ _ _ refl c.if-width-gt-MAX_WIDTH.false write-be.ensures

pub returns : goal.returns
returns c =
    let put-field = c.put_field in
    let stored = c in
    number_put_lem _ _ _ _ refl stored.if-width-gt-MAX_WIDTH.false stored.write_be.ensures _ _ _ _ _
    (sym stored.fits.ensures ∙ stored.if-not-fits.false) put-field.ensures
