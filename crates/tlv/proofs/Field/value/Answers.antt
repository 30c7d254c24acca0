-- `tlv::Field::value` meets its contract: the part of the bytes, or none.
use mathlib.Core.Path.{refl, ap, ◌∙◌}
use mathlib.Core.List.{List}
use Prim.Native.Nat.{ℕ}
use Rattle.std.proofs.Common.{Bor}
use Rattle.tlv.proofs.Reading.{part_or_empty}
use Rattle.tlv.proofs.Field.value.Goals as goal

pub returns : goal.returns
returns c = ap (λ (x : Bor (List ℕ)). x.now) c.unwrap_or.ensures ∙ part_or_empty _ _ _ _ c.get.ensures.lookup refl
