-- Directive codes (CCSDS 727.0-B-5, 5.2, table 5-4; document 01): which are known, and what a code says to a reader of one directive.
use Rattle.std.specs.Prelude.{ℕ, Bool, ◌&&◌, ◌||◌, not, [], ◌∷◌, eqb, leb, if◌then◌else◌}
use Rattle.fields.specs.Answer.{Test, when}
use Rattle.header.specs.declared.code.DirectiveKind.{DirectiveKind}
use Rattle.header.specs.declared.code.DirectiveKind.TheVariants.{Own, Known, Unknown}

-- 'Codes 4 to 9 and 12 are known directives. Codes 0 to 3, 10, 11 and 13 to 255 are unknown.'
unfoldable pub is_known : ℕ → Bool
is_known code = leb 4 code && leb code 9 || eqb code 12

-- to a reader of the directive `own`: its own, another that is known, or unknown
unfoldable pub kind_of : ℕ → ℕ → DirectiveKind
kind_of own code = if is_known code then (if eqb code own then Own else Known) else Unknown

-- 7: unknown directive
abbrev pub unknown_directive : ℕ → Test
unknown_directive code = when (not (is_known code)) (7 ∷ code ∷ [])

-- 8: known directive, not the reader's own
abbrev pub wrong_directive : ℕ → ℕ → Test
wrong_directive own code = when (not (eqb code own)) (8 ∷ code ∷ [])
