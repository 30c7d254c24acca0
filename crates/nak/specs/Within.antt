-- What private functions promise each other, by the definitions of the other files. No public promise cites this file.
use Rattle.std.specs.Prelude.{ℕ, Bool, ◌&&◌}
use Rattle.fields.specs.Answer.{Answer, accepted, and_then}
use Rattle.header.specs.declared.PduHeader.{PduHeader}
use Rattle.header.specs.declared.flags.LargeFileFlag.{LargeFileFlag}
use Rattle.header.specs.declared.flags.Direction.TheVariants.{TowardsSender}
use Rattle.header.specs.Header.{with_direction, with_file_flag}
use Rattle.nak.specs.declared.Nak.{Nak}
use Rattle.nak.specs.Writing.{judging_nak}
use Rattle.nak.specs.Comparing.{same_nak}

-- the header that a NAK is begun with: direction 1, the file flag of the list
abbrev pub towards_sender : LargeFileFlag → PduHeader → PduHeader
towards_sender file h = with_file_flag file (with_direction TowardsSender h)

-- comparing, of a NAK that was read; `held` is whether its area is exactly the numbers
unfoldable pub comparing_read : LargeFileFlag → PduHeader → ℕ → ℕ → ℕ → Nak → Bool → Answer Bool
comparing_read file h start end count n held = and_then (judging_nak file h start end count) (λ w. accepted (same_nak n w start end && held))
