-- `ranges::owed::entry` meets its contract: no state, a cut entry, or what is answered of its contents.
use mathlib.Core.Path.{sym, ap, ◌∙◌}
use Rattle.fields.specs.Answer.{answer_of}
use Rattle.fields.proofs.Handed.{handed_on}
use Rattle.ranges.proofs.Entering.{no_state, entry_cut, entry_refused, entry_passed}
use Rattle.ranges.proofs.owed.entry.Goals as goal

pub returns-then-not-is_state : goal.returns-then-not-is_state
returns-then-not-is_state c =
    let both = no_state _ _ _ (sym c.is_state.ensures ∙ c.if-not-is_state.true) in
    record { answered = both.0; stored = both.1 }

pub take_contents-requires : goal.take_contents-requires
take_contents-requires c = sym c.is_state.ensures ∙ c.if-not-is_state.false

pub returns-in_default : goal.returns-in_default
returns-in_default c =
    let both = entry_cut _ _ _ (sym c.is_state.ensures ∙ c.if-not-is_state.false) _ (sym c.in_default.is ∙ c.field_in.ensures) in
    record { answered = both.0; stored = both.1 }

pub returns-in_err-take_contents : goal.returns-in_err-take_contents
returns-in_err-take_contents c =
    let both = entry_refused _ _ _ (sym c.is_state.ensures ∙ c.if-not-is_state.false) _ (sym c.in-Ok.is ∙ c.field_in.ensures) _ _ _
    c.value.ensures c.take_contents.ensures _ (ap answer_of (sym c.in_err-take_contents.was)) in
    record { answered = handed_on _ _ c.from_residual.ensures.1 ∙ both.0; stored = both.1 }

pub returns : goal.returns
returns c =
    let both = entry_passed _ _ _ (sym c.is_state.ensures ∙ c.if-not-is_state.false) _ (sym c.in-Ok.is ∙ c.field_in.ensures) _ _ _
    c.value.ensures c.take_contents.ensures (ap answer_of (sym c.in_ok-take_contents.was)) in
    record { answered = both.0; stored = both.1 }
