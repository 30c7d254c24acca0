-- `eof::read::eof_in` meets its contract: each exit's answer is that of the tests.
use mathlib.Core.Path.{sym, ◌∙◌}
use Rattle.eof.proofs.Data.{eof_read}
use Rattle.eof.proofs.read.eof_in.Goals as goal

pub returns : goal.returns
returns c =
    let a = c.args in
    let pre = c.requires in
    eof_read a.header a.content.now _ _ _ c.data_end.ensures c.header_len.ensures.0 c.size_width-least.ensures.0
    c.in_ok-judge_data.ensures
    c.in_ok-judge_condition.ensures _ _ _ (pre ∙ sym c.data_end.ensures) c.read_be-file_checksum.ensures.0 c.read_size-size.ensures
    c.in_ok-fault.ensures
