-- The data of an ACK (CCSDS 727.0-B-5, 5.2.4): directive code 6; acknowledged directive code in the upper four bits of a byte, subtype in the lower; condition code in the upper four bits of a byte, two spare bits, transaction status in the lowest two.
use Rattle.std.specs.Prelude.{ℕ, ◌/◌, ◌%◌, Bool, ◌||◌, not, List, [], ◌∷◌, eqb, get_or, if◌then◌else◌}
use Rattle.fields.specs.Answer.{Test, when}
use Rattle.header.specs.declared.PduHeader.{PduHeader}
use Rattle.header.specs.declared.flags.Direction.{Direction}
use Rattle.header.specs.declared.flags.Direction.TheVariants.{TowardsReceiver, TowardsSender}
use Rattle.header.specs.Condition.{reserved_condition}
use Rattle.ack.specs.declared.Ack.{Ack}
use Rattle.ack.specs.declared.status.TransactionStatus.{TransactionStatus}
use Rattle.ack.specs.declared.status.TransactionStatus.TheVariants.{Undefined, Active, Terminated, Unrecognized}

-- the codes of an ACK, and of the directives that are acknowledged
abbrev pub ack_code : ℕ
ack_code = 6

abbrev pub eof_code : ℕ
eof_code = 4

abbrev pub finished_code : ℕ
finished_code = 5

-- the bytes of the data
abbrev pub ack_size : ℕ
ack_size = 3

-- ---- the acknowledged directive

-- 'ACK for EOF and Finished only'
unfoldable pub is_acked : ℕ → Bool
is_acked code = eqb code eof_code || eqb code finished_code

-- its subtype: 1 of a Finished, else 0
unfoldable pub subtype_of : ℕ → ℕ
subtype_of code = if eqb code finished_code then 1 else 0

-- which way its ACK goes: 1 of an EOF, 0 of a Finished
unfoldable pub direction_for : ℕ → Direction
direction_for code = if eqb code eof_code then TowardsSender else TowardsReceiver

-- ---- the transaction status

abbrev pub status_bits : TransactionStatus → ℕ
status_bits Undefined = 0
status_bits Active = 1
status_bits Terminated = 2
status_bits Unrecognized = 3

-- a number that is none of 0, 1 and 2 is unrecognized
unfoldable pub status_of : ℕ → TransactionStatus
status_of n = if eqb n 0 then Undefined else if eqb n 1 then Active else if eqb n 2 then Terminated else Unrecognized

-- ---- the tests of an ACK's own

-- 17: acknowledged directive not allowed
abbrev pub not_allowed : ℕ → Test
not_allowed code = when (not (is_acked code)) (17 ∷ [])

-- '16 reserved condition code; 17 acknowledged directive not allowed'
unfoldable pub code_tests : ℕ → ℕ → List Test
code_tests condition acked = reserved_condition condition ∷ not_allowed acked ∷ []

-- ---- in the data c, counted from the directive's code

abbrev pub acked_in : List ℕ → ℕ
acked_in c = get_or c 1 0 / 16

abbrev pub condition_in : List ℕ → ℕ
condition_in c = get_or c 2 0 / 16

abbrev pub status_in : List ℕ → TransactionStatus
status_in c = status_of (get_or c 2 0 % 4)

-- the ACK with that header
unfoldable pub ack_in : PduHeader → List ℕ → Ack
ack_in h c = record { header = h; acked = acked_in c; condition = condition_in c; status = status_in c }
