-- The statements of specs/Demands on readings and on single answers, proved; those on round trips stand in RoundTrip.
-- Assumes nothing.
use Prim.Native.Nat.{ℕ, ◌-◌, ◌/◌, ◌≤◌}
use mathlib.Core.Path.{◌≡◌, refl, sym, ap, subst, ◌∙◌}
use mathlib.Core.List.{List}
use native.Mathlib.Omega.{arith}
use lib.ListN.{length, take, drop, length-take, length-drop}
use borrow.Author.Tests.{ltb-false}
use Rattle.fields.specs.Staged.{run}
use Rattle.fields.proofs.Staged.{passed_all, both}
use Rattle.std.specs.Prelude.{Err}
use Rattle.fields.specs.Answer.{answer_of}
use Rattle.fields.proofs.OneToOne.{one_answer}
use Rattle.fields.proofs.Demand3.{code_demand3}
use Rattle.header.specs.declared.PduHeader.{PduHeader}
use Rattle.header.specs.Header.{data_end}
use Rattle.header.specs.Directive.{reading_directive}
use Rattle.header.proofs.Directives.{next, reader_demand3, stops_inside}
use Rattle.nak.specs.Nak.{nak_code, pair_size, area_start, nak_in}
use Rattle.nak.specs.Reading.{reading_nak}
use Rattle.nak.specs.Requests.{area_of}
use Rattle.nak.specs.Demands.{Shows, AcceptedShows, NakDemand3, NakCodeDemand3}
use Rattle.nak.proofs.Reading.{read_tests}
use Rattle.nak.proofs.Walking.{within, pairs_count}

-- ---- demand 3

pub nak_demand3 : NakDemand3
unfolding reading_nak
nak_demand3 = reader_demand3 nak_code read_tests nak_in

pub nak_code_demand3 : NakCodeDemand3
nak_code_demand3 = code_demand3 (run reading_nak) answer_of Err (λ x. refl) 4 nak_demand3 (one_answer _)

-- ---- demand 2: what an accepted NAK shows

-- what the NAK in data shows of any bytes that hold the data
in_bytes : (h : PduHeader) (content s : List ℕ) → area_start h ≤ data_end h → data_end h ≤ length s → Shows s (nak_in h content)
unfolding nak_in
in_bytes h content s l m =
    let n = nak_in h content in
    let a : area_of n s ≡ take (data_end h - area_start h) (drop (area_start h) s) = sym (within n s l m) in
    let k : length (area_of n s) ≡ data_end h - area_start h = ap length a ∙ simp (length-take, length-drop) (omega arith) in
    record { from = refl; up_to = refl; area = a; inside = m; count = pairs_count h.file (area_of n s) ∙ ap (λ (j : ℕ). j / pair_size h.file) k }

pub accepted_shows : AcceptedShows
unfolding reading_nak
accepted_shows s n e =
    let b = both (reading_directive nak_code) (next nak_code read_tests nak_in) s n e in
    let d = b.mid in
    let k = passed_all (next nak_code read_tests nak_in d) s n b.second in
    subst (Shows s) k.1 (in_bytes d.header d.content s (ltb-false _ _ k.0) (stops_inside nak_code s d b.first))
