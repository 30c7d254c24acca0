-- `cfdp::read::cfdp_nak_pair` meets its contract: the pair of that index, or two zeros, is stored.
use Prim.Native.Nat.{ℕ}
use mathlib.Core.List.{[], ◌∷◌}
use mathlib.Core.Path.{ap, ◌∙◌}
use Rattle.std.specs.Prelude.{Option}
use Rattle.std.specs.Option.{unwrap_or}
use Rattle.std.proofs.lemmas.Option.{unwrap_or-slice_get}
use Rattle.cfdp.specs.Pairs.{pairs_in}
use Rattle.cfdp.proofs.read.cfdp_nak_pair.Goals as goal

pub returns-clause-stored : goal.returns-clause-stored
returns-clause-stored c =
    let a = c.args in
    let is = c.unwrap_or-start.ensures ∙ ap (λ (o : Option (ℕ × ℕ)). unwrap_or o (0, 0)) c.pair_at-found.ensures in
    ap (λ (p : ℕ × ℕ). p.0 ∷ p.1 ∷ []) (is ∙ unwrap_or-slice_get (pairs_in a.large a.area.now) a.index (0, 0))
