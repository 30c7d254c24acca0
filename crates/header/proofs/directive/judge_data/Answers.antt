-- `header::directive::judge_data` meets its contract: where the data ends decides.
use Rattle.header.proofs.Directives.{data_short_lem, data_reaches}
use Rattle.header.proofs.directive.judge_data.Goals as goal

pub returns-then-stop-expected : goal.returns-then-stop-expected
returns-then-stop-expected c = data_short_lem _ _ c.if-stop-expected.true

pub returns : goal.returns
returns c = data_reaches _ _ c.if-stop-expected.false
