-- A NAK's data (CCSDS 727.0-B-5, 5.2.6, table 5-10): directive code 8, start of scope, end of scope, then pairs of start and end offset; each number has 4 bytes, or 8 with the large file flag.
use Rattle.std.specs.Prelude.{ℕ, ◌+◌, ◌-◌, ◌*◌, ◌/◌, List}
use Rattle.fields.specs.BigEndian.{number_at}
use Rattle.header.specs.declared.PduHeader.{PduHeader}
use Rattle.header.specs.declared.flags.LargeFileFlag.{LargeFileFlag}
use Rattle.header.specs.Header.{header_length, data_end}
use Rattle.header.specs.Size.{size_width}
use Rattle.nak.specs.declared.Nak.{Nak}

abbrev pub nak_code : ℕ
nak_code = 8

-- F: 'the size of the scope and of one pair', 8 or 16
abbrev pub pair_size : LargeFileFlag → ℕ
pair_size file = 2 * size_width file

-- where the scope stands in the data: behind the code
abbrev pub scope_at : ℕ
scope_at = 1

-- h + 1 + F: where the request area starts
unfoldable pub area_start : PduHeader → ℕ
area_start h = header_length h + scope_at + pair_size h.file

-- the NAK with that header and those data: its scope; 'bytes h + 1 + F up to E as the request area'; '(E - h - 1 - F) / F whole pairs, rounded down'
unfoldable pub nak_in : PduHeader → List ℕ → Nak
nak_in h content =
    record {
      header = h;
      start = number_at content scope_at (size_width h.file);
      end = number_at content (scope_at + size_width h.file) (size_width h.file);
      area = area_start h;
      stop = data_end h;
      count = (data_end h - area_start h) / pair_size h.file;
    }
