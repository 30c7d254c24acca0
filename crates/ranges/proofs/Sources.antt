-- The reader at the start of a NAK's request area: it has the area's pairs before it, and they are few.
-- Assumes nothing.
use Prim.Native.Nat.{ℕ, ◌*◌, ◌/◌, ◌≤◌}
use mathlib.Core.Path.{◌≡◌}
use mathlib.Core.List.{List}
use native.Mathlib.Omega.{arith}
use lib.ListN.{length}
use Rattle.header.specs.declared.flags.LargeFileFlag.{LargeFileFlag}
use Rattle.header.specs.declared.flags.LargeFileFlag.TheVariants.{Normal, Large}
use Rattle.nak.specs.declared.Nak.{Nak}
use Rattle.nak.specs.declared.iter.SegmentRequestIter.{SegmentRequestIter}
use Rattle.nak.specs.Nak.{pair_size}
use Rattle.nak.specs.Requests.{area_of, pairs_of}
use Rattle.nak.proofs.Walking.{area_short, pairs_count, left_whole}
use Rattle.ranges.specs.Sources.{requests_ahead}

module _ (n : Nak) (s : List ℕ) where
  pub requests_start : (r : SegmentRequestIter) → (r.cursor ≡ record { at = 0 }) × (r.area.now ≡ area_of n s) × (r.file ≡ n.header.file)
      → requests_ahead r ≡ pairs_of n.header.file (area_of n s)
  requests_start r h = rw (h.0, h.1, h.2) (left_whole n.header.file (area_of n s))

  -- they are fewer than the bytes
  pub requests_few : (ps : List (ℕ × ℕ)) → ps ≡ pairs_of n.header.file (area_of n s) → 8 * length ps ≤ length s
  requests_few ps e = rw (e, pairs_count n.header.file (area_of n s)) (go n.header.file)
    where
      go : (f : LargeFileFlag) → 8 * (length (area_of n s) / pair_size f) ≤ length s
      go Normal = omega (arith, area_short n s)
      go Large = omega (arith, area_short n s)
