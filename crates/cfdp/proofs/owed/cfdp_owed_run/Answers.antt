-- `cfdp::owed::cfdp_owed_run` meets its contract: where the run stands, as numbers, and the memory that it leaves.
use mathlib.Core.Path.{sym, ap, ◌∙◌}
use Rattle.ranges.specs.Log.{stop_answer}
use Rattle.cfdp.proofs.Standing.{refused_standing, ended_standing}
use Rattle.cfdp.proofs.owed.cfdp_owed_run.Goals as goal

pub returns-in-Err : goal.returns-in-Err
returns-in-Err c =
    let run = c.run-ran in
    record { answered = refused_standing _ _ _ _ (ap stop_answer (sym c.in-Err.is) ∙ run.ensures.answered) c.show_refusal.ensures; stored = run.ensures.stored }

pub returns-in-Ok : goal.returns-in-Ok
returns-in-Ok c =
    let run = c.run-ran in
    record { answered = ended_standing _ _ _ (ap stop_answer (sym c.in-Ok.is) ∙ run.ensures.answered) c.show_few.ensures; stored = run.ensures.stored }
