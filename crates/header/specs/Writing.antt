-- Writing a header: the answer, and the buffer at exit.
use Rattle.std.specs.Prelude.{ℕ, List, [], ◌∷◌, ◌++◌, ltb, length}
use Rattle.fields.specs.Answer.{Answer, Test, when, first_of, leaves}
use Rattle.header.specs.declared.PduHeader.{PduHeader}
use Rattle.header.specs.Header.{header_length, header_bytes}
use Rattle.header.specs.Judging.{record_tests}

-- 11: output buffer short
abbrev pub no_room : ℕ → ℕ → Test
no_room room needed = when (ltb room needed) (11 ∷ room ∷ needed ∷ [])

-- '3, 4, 14, then 11'; 'it needs h for every buffer below h' (C-02); else the written length
unfoldable pub writing_header : PduHeader → ℕ → Answer ℕ
writing_header h room = first_of (record_tests h ++ (no_room room (header_length h) ∷ [])) (header_length h)

-- the buffer at exit: the header's bytes in front, the rest as it was; a refusal changes nothing
unfoldable pub header_memory : PduHeader → List ℕ → List ℕ
header_memory h s = leaves (writing_header h (length s)) (λ _. header_bytes h) s
