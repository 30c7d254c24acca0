-- A run over a log as numbers: 0, or the refusal's number and its values; and at place 3, behind these, the offset where it stands.
use Rattle.std.specs.Prelude.{ℕ, List, [], set}
use Rattle.fields.specs.Answer.{Answer}
use Rattle.cfdp.specs.Shown.{shown}

-- what was accepted has no number of its own
abbrev pub no_numbers : Unit {0} → List ℕ
no_numbers t = []

unfoldable pub standing : Answer (Unit {0}) × ℕ → List ℕ
standing o = set (shown no_numbers o.0) 3 o.1
