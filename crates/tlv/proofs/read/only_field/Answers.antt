-- `tlv::read::only_field` meets its contract: what is read there, with its type and its stop tested.
use mathlib.Core.Path.{◌∙◌}
use mathlib.Core.Logic.{inl, inr}
use Rattle.tlv.proofs.Reading.{only_none, read_ok, other_type, more_behind, the_only}
use Rattle.tlv.proofs.read.only_field.Goals as goal

pub returns-in_err-field : goal.returns-in_err-field
returns-in_err-field c = c.from_residual.ensures ∙ only_none _ _ _ _ _ c.field_in.ensures c.in_err-field.ensures.value

pub returns-then-field-area : goal.returns-then-field-area
returns-then-field-area c =
    let a = c.args in
    let read = read_ok a.form a.tag a.area.now a.at c.in_ok-field.field c.field_in.result c.in_ok-field.ensures.value in
    the_only _ _ _ _ _ (read ∙ c.field_in.ensures) c.if-field-tag.true c.if-field-area.true

pub returns : goal.returns
returns c =
    let a = c.args in
    let read = read_ok a.form a.tag a.area.now a.at c.in_ok-field.field c.field_in.result c.in_ok-field.ensures.value in
    elim c.else-field-tag.either [
      | inl h ↦ more_behind _ _ _ _ _ (read ∙ c.field_in.ensures) h.0 h.1
      | inr h ↦ other_type _ _ _ _ _ (read ∙ c.field_in.ensures) h
    ]
