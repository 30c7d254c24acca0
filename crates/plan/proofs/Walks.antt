-- The NAKs of a plan as the code walks them: what its tests of one NAK say of those that are left.
-- Assumes nothing.
use Prim.Native.Nat.{ℕ, ◌+◌, ◌≤◌, ◌<◌}
use mathlib.Core.Path.{◌≡◌, ap, ◌∙◌}
use mathlib.Core.Bool.{true, false, and-false}
use mathlib.Core.List.{List, [], ◌∷◌}
use native.Mathlib.Omega.{arith}
use lib.Dec.{eqb}
use lib.ListN.{length, get_or, take, drop, length-drop}
use lib.Seq.{drop-cons}
use Rattle.std.proofs.Common.{add-one}
use borrow.Author.Tests.{le-leb, lt-leb}
use Rattle.std.proofs.lemmas.List.{nil_from_length, length-map, take-map, drop-map}
use Rattle.plan.specs.Plans.{all_within, each_within}
use Rattle.plan.specs.Gaps.{pairs, naks_of}

module _ (ns rs : List (List ℕ)) (i : ℕ) (h : i < length ns) where
  abbrev nak : List ℕ
  nak = get_or ns i []

  step : each_within (naks_of (drop i ns)) (pairs rs)
      ≡
      each_within (record { start = get_or nak 0 0; end = get_or nak 1 0; count = get_or nak 2 0 } ∷ naks_of (drop (i + 1) ns)) (pairs rs)
  step =
      let e : drop i ns ≡ nak ∷ drop (i + 1) ns = rw add-one (drop-cons ns i [] h) in
      ap (λ (l : List (List ℕ)). each_within (naks_of l) (pairs rs)) e

  pub each_lack : length rs < get_or nak 2 0 → each_within (naks_of (drop i ns)) (pairs rs) ≡ false
  each_lack l = step ∙ rw (length-map, lt-leb _ _ l)

  module _ (enough : get_or nak 2 0 ≤ length rs) (own others : List (List ℕ)) (o : own ≡ take (get_or nak 2 0) rs) (r : others ≡ drop (get_or nak 2 0) rs) where
    pub each_out : all_within (get_or nak 0 0) (get_or nak 1 0) (pairs own) ≡ false → each_within (naks_of (drop i ns)) (pairs rs) ≡ false
    each_out l =
        let k : all_within (get_or nak 0 0) (get_or nak 1 0) (take (get_or nak 2 0) (pairs rs)) ≡ false = rw (take-map, ← o) l in
        step ∙ rw (k, and-false)

    pub each_on : all_within (get_or nak 0 0) (get_or nak 1 0) (pairs own) ≡ true
        → each_within (naks_of (drop i ns)) (pairs rs) ≡ each_within (naks_of (drop (i + 1) ns)) (pairs others)
    each_on l =
        let k : all_within (get_or nak 0 0) (get_or nak 1 0) (take (get_or nak 2 0) (pairs rs)) ≡ true = rw (take-map, ← o) l in
        step ∙ rw (k, length-map, le-leb _ _ enough, drop-map, ← r)

pub each_end : (ns rs : List (List ℕ)) (i : ℕ) → length ns ≤ i → each_within (naks_of (drop i ns)) (pairs rs) ≡ eqb (length rs) 0
each_end ns rs i h =
    let e : drop i ns ≡ [] = nil_from_length (drop i ns) (omega (arith, length-drop i ns)) in
    rw (e, length-map)
