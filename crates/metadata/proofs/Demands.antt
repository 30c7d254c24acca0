-- The statements of specs/Demands, proved.
-- Assumes nothing.
use Rattle.std.specs.Prelude.{Ok, Err}
use mathlib.Core.Path.{◌≡◌, refl, ap, ◌∙◌}
use mathlib.Core.List.{◌++◌}
use lib.ListN.{length, drop}
use Rattle.fields.specs.Answer.{answer_of}
use Rattle.fields.specs.Staged.{run}
use Rattle.fields.proofs.OneToOne.{one_answer}
use Rattle.fields.proofs.Demand3.{code_demand3}
use Rattle.header.specs.declared.pdu.PduWritten.{PduWritten}
use Rattle.header.specs.Pdu.{pdu_over}
use Rattle.header.proofs.Directives.{reader_demand3}
use Rattle.header.proofs.Pdus.{written_has, memory_has}
use Rattle.metadata.specs.Metadata.{metadata_in}
use Rattle.metadata.specs.Reading.{read_tests, reading_metadata}
use Rattle.metadata.specs.Writing.{metadata_data, filled, own_tests, writing_metadata, metadata_memory}
use Rattle.metadata.specs.Demands.{WrittenReadsBack, CodeReadsBack, MetadataDemand3, MetadataCodeDemand3}
use Rattle.metadata.proofs.Back.{reads_back}

pub metadata_demand3 : MetadataDemand3
unfolding reading_metadata
metadata_demand3 = reader_demand3 7 read_tests metadata_in

pub metadata_code_demand3 : MetadataCodeDemand3
metadata_code_demand3 = code_demand3 (run reading_metadata) answer_of Err (λ x. refl) 4 metadata_demand3 (one_answer _)

pub written_reads_back : WrittenReadsBack
unfolding writing_metadata
written_reads_back p source destination options room t w e =
    let x = written_has (filled p source destination options) (own_tests p source destination options) room w e in
    let is : w.header ≡ filled p source destination options = ap (λ (z : PduWritten). z.header) x.handed_back_lem in
    let k = reads_back p source destination options x.own_passed w.header is t (rw is x.good) in
    record { read = metadata_in w.header (metadata_data p source destination options); reads = k.0; same = k.1 }

pub code_reads_back : CodeReadsBack
unfolding writing_metadata metadata_memory
code_reads_back p source destination options s w r e q =
    let content = metadata_data p source destination options in
    let m : metadata_memory p source destination options s ≡ pdu_over w.header content ++ drop (length (pdu_over w.header content)) s =
    memory_has (filled p source destination options) (own_tests p source destination options) content s w e in
    let k = written_reads_back p source destination options (length s) (drop (length (pdu_over w.header content)) s) w e in
    record {
      read = k.read;
      answers = one_answer _ r (Ok k.read) (q ∙ ap (run reading_metadata) m ∙ k.reads);
      same = rw m k.same;
    }
