-- The starred cases of document 01, 'Cases on each side', as one table: what is given, and the numbers that it gives.
use Rattle.std.specs.Prelude.{ℕ, List, [], ◌∷◌, ◌++◌, take, set, replicate}
use Rattle.fields.specs.Checksum.{checksum_of}
use Rattle.fields.specs.Answer.{Answer, accepted, short, refused}
use Rattle.fields.specs.Staged.{run}
use Rattle.nak.specs.declared.Nak.{Nak}
use Rattle.nak.specs.Reading.{reading_nak}
use Rattle.nak.specs.Requests.{area_of, pairs_of}

-- bytes of which the checksum is asked, or bytes that are read
pub data Given : Type 0 where
  sum : List ℕ → Given
  read : List ℕ → Given

-- pairs as numbers, start and end by turns
abbrev pub flat : List (ℕ × ℕ) → List ℕ
flat [] = []
flat (p ∷ ps) = p.0 ∷ p.1 ∷ flat ps

-- an accepted NAK as numbers: 0; source, sequence number, destination; scope; E; how many pairs, and these
abbrev pub shown : List ℕ → Answer Nak → List ℕ
shown s (accepted n) = 0 ∷ n.header.source.0 ∷ n.header.sequence.0.value ∷ n.header.destination.0 ∷ n.start ∷ n.end ∷ n.stop ∷ n.count ∷ flat (pairs_of n.header.file (area_of n s))
shown s (short l n) = 1 ∷ l ∷ n ∷ []
shown s (refused ns) = ns

abbrev pub gives : Given → List ℕ
gives (sum s) = checksum_of s ∷ []
gives (read s) = shown s (run reading_nak s)

abbrev pub N : List ℕ
N = 0x28 ∷ 0x00 ∷ 0x11 ∷ 0x00 ∷ 0x01 ∷ 0x02 ∷ 0x03 ∷ 0x08 ∷ 0x00 ∷ 0x00 ∷ 0x00 ∷ 0x00 ∷ 0x00 ∷ 0x00 ∷ 0x03 ∷ 0xE8 ∷ 0x00 ∷ 0x00 ∷ 0x00 ∷ 0x64 ∷ 0x00 ∷ 0x00 ∷ 0x00 ∷ 0xC8 ∷ []

-- N is accepted: 1 2 3, scope 0 1000, end 24, one pair 100, 200
abbrev pub reading_of_n : List ℕ
reading_of_n = 0 ∷ 1 ∷ 2 ∷ 3 ∷ 0 ∷ 1000 ∷ 24 ∷ 1 ∷ 100 ∷ 200 ∷ []

abbrev pub starred : List (Given × List ℕ)
starred =
    (sum [], 0xFFFF ∷ []) ∷
    (sum (0x31 ∷ 0x32 ∷ 0x33 ∷ 0x34 ∷ 0x35 ∷ 0x36 ∷ 0x37 ∷ 0x38 ∷ 0x39 ∷ []), 0x29B1 ∷ []) ∷
    (read N, reading_of_n) ∷
    (read (N ++ (1 ∷ 2 ∷ 3 ∷ 4 ∷ 5 ∷ [])), reading_of_n) ∷
    (read (take 3 N), 1 ∷ 3 ∷ 4 ∷ []) ∷
    (read (take 6 N), 1 ∷ 6 ∷ 7 ∷ []) ∷
    (read (take 23 N), 1 ∷ 23 ∷ 24 ∷ []) ∷
    (read (set N 0 0x48), 2 ∷ 2 ∷ []) ∷
    (read (set N 3 0x20), 3 ∷ 3 ∷ []) ∷
    (read (set N 3 0x02), 4 ∷ 3 ∷ []) ∷
    (read (set N 7 0x06), 8 ∷ 6 ∷ []) ∷
    (read (set N 7 0x0A), 7 ∷ 10 ∷ []) ∷
    (read ((0x28 ∷ 0x00 ∷ 0x02 ∷ 0x00 ∷ 0x01 ∷ 0x02 ∷ 0x03 ∷ 0x08 ∷ []) ++ replicate 12 0), 6 ∷ 9 ∷ 16 ∷ []) ∷
    []
