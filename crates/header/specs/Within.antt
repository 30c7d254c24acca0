-- What private functions promise each other, by the definitions of the other files. No public promise cites this file.
use Rattle.std.specs.Prelude.{ℕ, ◌+◌, ◌≤◌, ◌≡◌, List, [], ◌∷◌, length, take, Result, Ok, Err}
use Rattle.fields.specs.declared.refusal.Refusal.{Refusal}
use Rattle.fields.specs.Answer.{accepted, told, Test}
use Rattle.fields.specs.Refusal.{paper}
use Rattle.fields.specs.Staged.{Staged, accept, ◌>>=◌, ◌>>◌, bytes, test, run}
use Rattle.header.specs.declared.PduHeader.{PduHeader}
use Rattle.header.specs.declared.directive.DirectivePdu.{DirectivePdu}
use Rattle.header.specs.Header.{header_length, data_end}
use Rattle.header.specs.Reading.{header_length_in, header_in, reading_header}
use Rattle.header.specs.Verifying.{pdu_bytes}
use Rattle.header.specs.Code.{unknown_directive, wrong_directive}
use Rattle.header.specs.Directive.{data_short, not_a_directive, least_length, code_in, content_of, PduRead}

-- the header that is read from the bytes s has so many bytes, or is refused like this
abbrev pub Measured : Result ℕ Refusal → List ℕ → Type 0
Measured (Err r) s = told (paper r) ≡ run reading_header s
Measured (Ok n) s = (n ≤ length s) × (header_length_in (take n s) ≤ length (take n s)) × (accepted (header_in (take n s)) ≡ run reading_header s)

-- ---- the stages of `reading_directive`, one behind the other, as the functions share them

-- of a header that was read: 'length below P (1, needs P); 5', else E
unfoldable pub verifying_read : PduHeader → Staged ℕ
verifying_read h = pdu_bytes h >> accept (data_end h)

-- E against 9, 21, and E against h + 1
unfoldable pub behind_nine : PduHeader → ℕ → List Test
behind_nine h stop = data_short stop least_length ∷ not_a_directive h ∷ data_short stop (header_length h + 1) ∷ []

-- in the PDU p: the tests against 9, 21, and E against h + 1
unfoldable pub directive_part : PduHeader → List ℕ → Staged (List ℕ)
directive_part h p = do
  bytes least_length
  test (data_short (data_end h) least_length)
  test (not_a_directive h)
  test (data_short (data_end h) (header_length h + 1))
  accept p

unfoldable pub directive_bytes : PduHeader → Staged (List ℕ)
directive_bytes h = pdu_bytes h >>= directive_part h

-- of a header that was read: those, else E
unfoldable pub verifying_directive : PduHeader → Staged ℕ
verifying_directive h = directive_bytes h >> accept (data_end h)

-- up to the code: the header, and then those
unfoldable pub reading_up_to_code : Staged DirectivePdu
reading_up_to_code = do
  h ← reading_header
  stop ← verifying_directive h
  accept (record { header = h; stop = stop })

-- in the PDU p: '7; 8'
unfoldable pub code_part : ℕ → PduHeader → List ℕ → Staged PduRead
code_part own h p = do
  test (unknown_directive (code_in h p))
  test (wrong_directive own (code_in h p))
  accept (record { header = h; content = content_of h p })

unfoldable pub own_part : ℕ → PduHeader → Staged PduRead
own_part own h = directive_bytes h >>= code_part own h
