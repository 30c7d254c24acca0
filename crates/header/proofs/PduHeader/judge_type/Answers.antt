-- `header::PduHeader::judge_type` meets its contract: the type decides.
use Rattle.header.proofs.Directives.{file_data, a_directive}
use Rattle.header.proofs.PduHeader.judge_type.Goals as goal

pub returns-in-FileData : goal.returns-in-FileData
returns-in-FileData c = file_data c.args.self c.in-FileData.is

pub returns-in-FileDirective : goal.returns-in-FileDirective
returns-in-FileDirective c = a_directive c.args.self c.in-FileDirective.is
