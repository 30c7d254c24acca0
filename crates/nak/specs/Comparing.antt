-- Comparing a buffer with a NAK to be written (document 01): 'the reader's refusals, then the writer's but 11; else yes exactly when all header fields (identifiers by number), d and scope equal those handed back and the request area is exactly the pairs'.
use Rattle.std.specs.Prelude.{ℕ, Bool, ◌&&◌, List, [], ◌∷◌, eqb, leb, length, drop}
use Rattle.fields.specs.BigEndian.{number_at}
use Rattle.fields.specs.Answer.{Answer, accepted, and_then}
use Rattle.fields.specs.Staged.{run}
use Rattle.header.specs.declared.PduHeader.{PduHeader}
use Rattle.header.specs.declared.flags.LargeFileFlag.{LargeFileFlag}
use Rattle.header.specs.Comparing.{same_header}
use Rattle.nak.specs.declared.Nak.{Nak}
use Rattle.header.specs.Size.{size_width}
use Rattle.nak.specs.Reading.{reading_nak}
use Rattle.nak.specs.Requests.{area_of}
use Rattle.nak.specs.Writing.{judging_nak}

-- a NAK that was read has that header and that scope
unfoldable pub same_nak : Nak → PduHeader → ℕ → ℕ → Bool
same_nak n w start end = same_header n.header w && eqb n.start start && eqb n.end end

-- an area is exactly those numbers of w bytes, one behind the other, and nothing behind them
unfoldable pub holds_numbers : ℕ → List ℕ → List ℕ → Bool
holds_numbers w area [] = eqb (length area) 0
holds_numbers w area (v ∷ vs) = leb w (length area) && eqb (number_at area 0 w) v && holds_numbers w (drop w area) vs

-- the reader's refusals, then the writer's but 11; else yes exactly when header and scope are those handed back, and the area is exactly the numbers
unfoldable pub comparing : LargeFileFlag → PduHeader → ℕ → ℕ → List ℕ → List ℕ → Answer Bool
comparing file h start end numbers s =
    and_then (run reading_nak s) (λ n.
    and_then (judging_nak file h start end (length numbers)) (λ w.
    accepted (same_nak n w start end && holds_numbers (size_width file) (area_of n s) numbers)))
