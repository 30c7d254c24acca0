-- Writing a directive PDU around its data (CCSDS 727.0-B-5, 5.2; documents 01 and 02): its bytes, its tests in their order, the answers, and the lent memory at exit.
use Rattle.std.specs.Prelude.{ℕ, List, [], ◌∷◌, ◌++◌, length}
use Rattle.fields.specs.Answer.{Answer, accepted, short, refused, and_then, Test, first_of, leaves, all_of}
use Rattle.header.specs.declared.PduHeader.{PduHeader}
use Rattle.header.specs.declared.pdu.PduWritten.{PduWritten}
use Rattle.header.specs.Header.{header_bytes, pdu_length, data_end, with_length}
use Rattle.header.specs.Judging.{record_tests}
use Rattle.header.specs.Writing.{no_room}
use Rattle.header.specs.Verifying.{checksum_bytes, crc_added}
use Rattle.header.specs.Directive.{not_a_directive}

-- the header's bytes, the data, and with the flag the checksum of both
unfoldable pub pdu_over : PduHeader → List ℕ → List ℕ
pdu_over h content = (header_bytes h ++ content) ++ checksum_bytes h.crc (header_bytes h ++ content)

-- ---- judging

-- 3, 4, 14, and 'after 14' 21 (C-05)
unfoldable pub directive_tests : PduHeader → List Test
directive_tests h = record_tests h ++ (not_a_directive h ∷ [])

-- whether a directive PDU can have the record
unfoldable pub judging_directive : PduHeader → Answer (Unit {0})
judging_directive h = all_of (directive_tests h)

-- ---- writing

-- what is handed back: the header, and the bytes of its PDU
abbrev pub handed_back : PduHeader → PduWritten
handed_back h = record { header = h; length = pdu_length h }

-- writing the PDU of the header h, its length filled in: '3; 4; 14', 21, the PDU's own tests, 11, 'needing the whole PDU'
unfoldable pub writing_pdu : PduHeader → List Test → ℕ → Answer PduWritten
writing_pdu h own room = first_of (directive_tests h ++ (own ++ (no_room room (pdu_length h) ∷ []))) (handed_back h)

-- the buffer at exit: the PDU in front, the rest as it was; a refusal changes nothing
unfoldable pub pdu_memory : PduHeader → List Test → List ℕ → List ℕ → List ℕ
pdu_memory h own content s = leaves (writing_pdu h own (length s)) (λ w. pdu_over w.header content) s

-- ---- its beginning, for any outcome of the PDU's own tests: a refusal, or d

-- the header with d filled in, where there is one
unfoldable pub with_data : Answer ℕ → PduHeader → PduHeader
with_data (accepted d) h = with_length d h
with_data (short l n) h = h
with_data (refused ns) h = h

-- '3; 4; 14', 21; that outcome; 11; else P of the header, its length filled in
unfoldable pub beginning : PduHeader → Answer ℕ → ℕ → Answer ℕ
beginning h own room =
    and_then (judging_directive h) (λ _.
    and_then own (λ _.
    first_of (no_room room (pdu_length h) ∷ []) (pdu_length h)))

-- the buffer then: the header's bytes in front, the rest as it was; a refusal changes nothing
unfoldable pub begun_memory : PduHeader → Answer ℕ → List ℕ → List ℕ
begun_memory h own s = leaves (beginning h own (length s)) (λ _. header_bytes h) s

-- its end: the checksum behind the data, with the flag
unfoldable pub sealed_memory : PduHeader → List ℕ → List ℕ
sealed_memory h s = crc_added h.crc (data_end h) s
