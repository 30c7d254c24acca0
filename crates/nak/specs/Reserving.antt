-- Reserving room for requests, and finishing the NAK around them (document 01): the answers, and the lent memory at exit.
use Rattle.std.specs.Prelude.{ℕ, ◌-◌, List, [], ◌∷◌, take, drop}
use Rattle.fields.specs.Answer.{Answer, accepted, and_then, Test}
use Rattle.header.specs.declared.PduHeader.{PduHeader}
use Rattle.header.specs.declared.pdu.PduWritten.{PduWritten}
use Rattle.header.specs.declared.flags.LargeFileFlag.{LargeFileFlag}
use Rattle.header.specs.Header.{data_end}
use Rattle.header.specs.Pdu.{writing_pdu, pdu_memory}
use Rattle.nak.specs.declared.reserve.ReservedNak.{ReservedNak}
use Rattle.nak.specs.Nak.{area_start}
use Rattle.nak.specs.Writing.{nak_data, filled, scope_too_large, too_many}

-- reserving and finishing keep the file flag; direction and length of n pairs are filled in
abbrev pub keeping : PduHeader → ℕ → PduHeader
keeping h n = filled h.file n h

-- ---- reserving

-- a header that was filled in for n pairs, their count, and the place of the request area
abbrev pub placed : PduHeader → ℕ → ReservedNak
placed w n = record { header = w; count = n; area = area_start w; stop = data_end w }

-- '3, 4, 14', since C-05 21, '10, 11' (13 is given where a record is built, C-12)
unfoldable pub reserving : PduHeader → ℕ → ℕ → Answer ReservedNak
reserving h n room = and_then (writing_pdu (keeping h n) (too_many h.file n ∷ []) room) (λ w. accepted (placed w.header n))

-- ---- finishing: direction and length are worked out anew from the record's flags, widths and pair count

-- '10' of n pairs, '9'
unfoldable pub finish_tests : LargeFileFlag → ℕ → ℕ → ℕ → List Test
finish_tests file n start end = too_many file n ∷ scope_too_large file start end ∷ []

-- '3, 4, 14', since C-05 21, then those, 11
unfoldable pub finishing : ReservedNak → ℕ → ℕ → ℕ → Answer PduWritten
finishing r start end room = writing_pdu (keeping r.header r.count) (finish_tests r.header.file r.count start end) room

-- the request bytes as the caller filled them
unfoldable pub area_in : PduHeader → List ℕ → List ℕ
area_in w s = take (data_end w - area_start w) (drop (area_start w) s)

-- the buffer at exit: header, directive and scope, the request bytes as they were, the checksum; a refusal changes nothing
unfoldable pub finished_memory : ReservedNak → ℕ → ℕ → List ℕ → List ℕ
finished_memory r start end s =
    pdu_memory (keeping r.header r.count) (finish_tests r.header.file r.count start end)
    (nak_data r.header.file start end (area_in (keeping r.header r.count) s)) s
