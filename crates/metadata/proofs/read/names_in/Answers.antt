-- `metadata::read::names_in` meets its contract: source, destination and options, one behind the other.
use mathlib.Core.Path.{sym, ◌∙◌}
use Rattle.metadata.proofs.Names.{kept, source_fits, source_goes, destination_fits, destination_goes, option_fits}
use Rattle.metadata.proofs.read.names_in.Goals as goal

pub told-requires : goal.told-requires
told-requires c = λ e p. source_fits c.args.from c.args.content.now c.args.at c.requires.0 c.requires.1 e (sym p ∙ c.field_in.ensures)

pub told-requires-2 : goal.told-requires-2
told-requires-2 c =
    let a = c.args in
    let s = kept _ _ _ c.in_ok-source.ensures ∙ c.field_in.ensures in
    λ e p. destination_fits a.from a.content.now a.at c.requires.0 c.requires.1 _ s e (sym p ∙ c.field_in-2.ensures)

pub told-requires-3 : goal.told-requires-3
told-requires-3 c =
    let a = c.args in
    let s = kept _ _ _ c.in_ok-source.ensures ∙ c.field_in.ensures in
    let d = kept _ _ _ c.in_ok-destination.ensures ∙ c.field_in-2.ensures in
    λ e p. option_fits a.from a.content.now a.at c.requires.0 c.requires.1 _ s _ d e (sym p ∙ c.first_cut.ensures)

pub moved-requires : goal.moved-requires
moved-requires c =
    let a = c.args in
    source_goes a.from a.content.now a.at c.requires.0 c.requires.1 _ (kept _ _ _ c.in_ok-source.ensures ∙ c.field_in.ensures)

pub moved-requires-2 : goal.moved-requires-2
moved-requires-2 c =
    let a = c.args in
    let s = kept _ _ _ c.in_ok-source.ensures ∙ c.field_in.ensures in
    destination_goes a.from a.content.now a.at c.requires.0 c.requires.1 _ s _ (kept _ _ _ c.in_ok-destination.ensures ∙ c.field_in-2.ensures)
