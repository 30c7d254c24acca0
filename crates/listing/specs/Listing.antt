-- Whether a reading was accepted, and whether a byte of a name is printed as it is.
use Rattle.std.specs.Prelude.{ℕ, Bool, true, false, ◌&&◌, not, leb, eqb}
use Rattle.fields.specs.Answer.{Answer, accepted, short, refused}

abbrev pub is_accepted : {A : Type 0} → Answer A → Bool
is_accepted (accepted a) = true
is_accepted (short l n) = false
is_accepted (refused ns) = false

-- from the blank to '~', but for the backslash, with which the others begin
unfoldable pub is_plain : ℕ → Bool
is_plain b = leb 32 b && (leb b 126 && not (eqb b 92))
