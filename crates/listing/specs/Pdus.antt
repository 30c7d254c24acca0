-- Whether a PDU is accepted by the reader of its own directive, for NAK, EOF, ACK and Metadata.
use Rattle.std.specs.Prelude.{ℕ, Bool, true, false, List, eqb, get_or, if◌then◌else◌}
use Rattle.fields.specs.Answer.{Answer, accepted, short, refused}
use Rattle.fields.specs.Staged.{run}
use Rattle.nak.specs.declared.Nak.{Nak}
use Rattle.nak.specs.Reading.{reading_nak}
use Rattle.eof.specs.Reading.{reading_eof}
use Rattle.ack.specs.Reading.{reading_ack}
use Rattle.metadata.specs.Reading.{reading_metadata}
use Rattle.listing.specs.Listing.{is_accepted}

-- where the NAK's reader refuses with 8 and a code that has a reader here, that reader decides
unfoldable pub is_listed_as : ℕ → ℕ → List ℕ → Bool
is_listed_as number code s =
    if eqb number 8
    then (if eqb code 4 then is_accepted (run reading_eof s) else if eqb code 6 then is_accepted (run reading_ack s) else if eqb code 7 then is_accepted (run reading_metadata s) else false)
    else false

-- what the NAK's reader says decides, or names the directive
abbrev pub decided : List ℕ → Answer Nak → Bool
decided s (accepted n) = true
decided s (short l n) = false
decided s (refused ns) = is_listed_as (get_or ns 0 0) (get_or ns 1 0) s

unfoldable pub is_listed : List ℕ → Bool
is_listed s = decided s (run reading_nak s)
