-- The definition computed on small lists.
-- Assumes nothing.
use mathlib.Core.Path.{◌≡◌, refl}
use mathlib.Core.List.{[], ◌∷◌}
use Rattle.ranges.specs.declared.merge.Rule.TheVariants.{Differ, Either, Without}
use Rattle.ranges.specs.Runs.{range, in_front, runs}
use Rattle.ranges.specs.Merging.{labelling}

-- overlapping; touching at 20, where the side changes
differ_case : runs (labelling Differ ((0, 10) ∷ (15, 20) ∷ []) ((5, 8) ∷ (20, 22) ∷ [])) 0 30 ≡ range 0 5 1 ∷ range 8 10 1 ∷ range 15 20 1 ∷ range 20 22 2 ∷ []
unfolding runs in_front
differ_case = refl

-- pairs that touch are one range
either_case : runs (labelling Either ((0, 4) ∷ (4, 6) ∷ []) ((6, 9) ∷ (12, 13) ∷ [])) 0 20 ≡ range 0 9 1 ∷ range 12 13 1 ∷ []
unfolding runs in_front
either_case = refl

without_case : runs (labelling Without ((0, 20) ∷ []) ((3, 5) ∷ (9, 30) ∷ [])) 0 40 ≡ range 0 3 1 ∷ range 5 9 1 ∷ []
unfolding runs in_front
without_case = refl
