-- The statements of specs/Demands, proved.
-- Assumes nothing.
use Rattle.std.specs.Prelude.{Ok, Err}
use mathlib.Core.Path.{◌≡◌, refl, ap, ◌∙◌}
use lib.ListN.{length, drop}
use Rattle.fields.specs.Answer.{answer_of}
use Rattle.fields.specs.Staged.{run}
use Rattle.fields.proofs.OneToOne.{one_answer}
use Rattle.fields.proofs.Demand3.{code_demand3}
use Rattle.header.specs.declared.pdu.PduWritten.{PduWritten}
use Rattle.header.specs.Pdu.{pdu_over}
use Rattle.header.proofs.Directives.{reader_demand3}
use Rattle.header.proofs.Pdus.{written_has, memory_has}
use Rattle.eof.specs.Eof.{eof_in}
use Rattle.eof.specs.Reading.{read_tests, reading_eof}
use Rattle.eof.specs.Writing.{eof_data, filled, own_tests, writing_eof, eof_memory}
use Rattle.eof.specs.Demands.{under, WrittenReadsBack, CodeReadsBack, EofDemand3, EofCodeDemand3}
use Rattle.eof.proofs.Back.{reads_back}

pub eof_demand3 : EofDemand3
unfolding reading_eof
eof_demand3 = reader_demand3 4 read_tests eof_in

pub eof_code_demand3 : EofCodeDemand3
eof_code_demand3 = code_demand3 (run reading_eof) answer_of Err (λ x. refl) 4 eof_demand3 (one_answer _)

pub written_reads_back : WrittenReadsBack
unfolding writing_eof
written_reads_back e room t w small p =
    let x = written_has (filled e) (own_tests e) room w p in
    let is : w.header ≡ filled e = ap (λ (z : PduWritten). z.header) x.handed_back_lem in
    reads_back e small x.own_passed w.header t is (rw is x.good)

pub code_reads_back : CodeReadsBack
unfolding writing_eof eof_memory
code_reads_back e s w r small p q =
    let m = memory_has (filled e) (own_tests e) (eof_data e) s w p in
    one_answer _ r (Ok (under w.header e))
    (q ∙ ap (run reading_eof) m ∙ written_reads_back e (length s) (drop (length (pdu_over w.header (eof_data e))) s) w small p)
