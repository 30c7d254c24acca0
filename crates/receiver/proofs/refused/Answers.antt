-- `receiver::refused` meets its contract: what is no refusal 1 stays, and a need is held against the window.
use Rattle.receiver.proofs.Window.{other_refusal, above_window_lem, in_window}
use Rattle.receiver.proofs.refused.Goals as goal

pub returns-in_default : goal.returns-in_default
returns-in_default c = other_refusal _ c.in_default.not-FromSliceTooSmall

pub returns-then-need-gt-WINDOW_LEN : goal.returns-then-need-gt-WINDOW_LEN
returns-then-need-gt-WINDOW_LEN c = rw c.in-FromSliceTooSmall.is (above_window_lem _ _ c.if-need-gt-WINDOW_LEN.true)

pub returns : goal.returns
returns c = rw c.in-FromSliceTooSmall.is (in_window _ _ c.if-need-gt-WINDOW_LEN.false)
