-- The data of an EOF (CCSDS 727.0-B-5, 5.2.2): directive code 4; condition code in the upper four bits of a byte, the lower four spare; file checksum, 4 bytes; file size, 4 bytes or 8 with the large file flag; then nothing, or the fault location.
use Rattle.std.specs.Prelude.{ℕ, ◌+◌, ◌/◌, List, get_or, drop}
use Rattle.fields.specs.BigEndian.{number_at}
use Rattle.header.specs.declared.PduHeader.{PduHeader}
use Rattle.header.specs.declared.flags.LargeFileFlag.{LargeFileFlag}
use Rattle.header.specs.Size.{size_width}
use Rattle.eof.specs.declared.Eof.{Eof}
use Rattle.eof.specs.Fault.{fault_of}

-- the code of an EOF
abbrev pub eof_code : ℕ
eof_code = 4

-- where the file checksum and the file size stand, counted from the directive's code
abbrev pub file_checksum_at : ℕ
file_checksum_at = 2

abbrev pub file_checksum_width : ℕ
file_checksum_width = 4

abbrev pub size_at : ℕ
size_at = file_checksum_at + file_checksum_width

-- the bytes through the file size
abbrev pub least_size : LargeFileFlag → ℕ
least_size file = size_at + size_width file

-- ---- in the data c, counted from the directive's code

abbrev pub condition_in : List ℕ → ℕ
condition_in c = get_or c 1 0 / 16

-- the bytes after the file size
abbrev pub after_size : LargeFileFlag → List ℕ → List ℕ
after_size file c = drop (least_size file) c

-- the EOF with that header
unfoldable pub eof_in : PduHeader → List ℕ → Eof
eof_in h c =
    record {
      header = h;
      condition = condition_in c;
      file_checksum = number_at c file_checksum_at file_checksum_width;
      size = number_at c size_at (size_width h.file);
      fault = fault_of (after_size h.file c);
    }
