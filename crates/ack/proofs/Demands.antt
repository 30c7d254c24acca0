-- The statements of specs/Demands, proved.
-- Assumes nothing.
use Rattle.std.specs.Prelude.{Ok, Err}
use mathlib.Core.Path.{◌≡◌, refl, ap, ◌∙◌}
use lib.ListN.{length, drop}
use Rattle.fields.specs.Answer.{answer_of}
use Rattle.fields.specs.Staged.{run}
use Rattle.fields.proofs.OneToOne.{one_answer}
use Rattle.fields.proofs.Demand3.{code_demand3}
use Rattle.header.specs.declared.pdu.PduWritten.{PduWritten}
use Rattle.header.specs.Pdu.{pdu_over}
use Rattle.header.proofs.Directives.{reader_demand3}
use Rattle.header.proofs.Pdus.{written_has, memory_has}
use Rattle.ack.specs.Ack.{ack_in}
use Rattle.ack.specs.Reading.{read_tests, reading_ack}
use Rattle.ack.specs.Writing.{ack_data, filled, own_tests, writing_ack, ack_memory}
use Rattle.ack.specs.Demands.{under, WrittenReadsBack, CodeReadsBack, AckDemand3, AckCodeDemand3}
use Rattle.ack.proofs.Data.{reads_back}

pub ack_demand3 : AckDemand3
unfolding reading_ack
ack_demand3 = reader_demand3 6 read_tests ack_in

pub ack_code_demand3 : AckCodeDemand3
ack_code_demand3 = code_demand3 (run reading_ack) answer_of Err (λ x. refl) 4 ack_demand3 (one_answer _)

pub written_reads_back : WrittenReadsBack
unfolding writing_ack
written_reads_back a room t w p =
    let x = written_has (filled a) (own_tests a) room w p in
    let is : w.header ≡ filled a = ap (λ (z : PduWritten). z.header) x.handed_back_lem in
    reads_back a w.header t x.own_passed is (rw is x.good)

pub code_reads_back : CodeReadsBack
unfolding writing_ack ack_memory
code_reads_back a s w r p q =
    let m = memory_has (filled a) (own_tests a) (ack_data a) s w p in
    one_answer _ r (Ok (under w.header a))
    (q ∙ ap (run reading_ack) m ∙ written_reads_back a (length s) (drop (length (pdu_over w.header (ack_data a))) s) w p)
