-- `header::code::DirectiveKind::from_code` meets its contract: the arms of the codes.
use native.Mathlib.Omega.{arith}
use Rattle.header.proofs.Codes.{known_twelve, known_range, unknown_low, unknown_high, own_code, known_code, unknown_code}
use Rattle.header.proofs.code.DirectiveKind.from_code.Goals as goal
use Rattle.header.proofs.code.DirectiveKind.from_code.Goals.{in-12-1, in_default+else-code-lt4+then-code-lt10}

pub returns-then-code-own : goal.returns-then-code-own
returns-then-code-own c =
    elim c.in-4-to-9-1.branch [
      | in-12-1 w ↦ own_code _ _ (known_twelve _ (omega arith)) c.if-code-own.true
      | in_default+else-code-lt4+then-code-lt10 w ↦ own_code _ _ (known_range _ (omega arith) (omega arith)) c.if-code-own.true
    ]

pub returns-in_default : goal.returns-in_default
returns-in_default c = unknown_code _ _ (unknown_low _ (omega arith))

pub returns-in_default-2 : goal.returns-in_default-2
returns-in_default-2 c = unknown_code _ _ (unknown_high _ (omega arith) (λ e. omega arith))

pub returns-else-code-own : goal.returns-else-code-own
returns-else-code-own c =
    elim c.in-4-to-9-1.branch [
      | in-12-1 w ↦ known_code _ _ (known_twelve _ (omega arith)) c.if-code-own.false
      | in_default+else-code-lt4+then-code-lt10 w ↦ known_code _ _ (known_range _ (omega arith) (omega arith)) c.if-code-own.false
    ]
