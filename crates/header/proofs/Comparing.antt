-- Comparing headers: a header is the same as itself, and what two headers that are the same share.
-- Assumes nothing.
use Prim.Native.Nat.{ℕ}
use mathlib.Core.Path.{◌≡◌, sym, ap, ◌∙◌}
use mathlib.Core.Bool.{Bool, true, ◌&&◌, and-eq-true_iff}
use lib.Dec.{eqb}
use borrow.Author.Tests.{eqb-true}
use Rattle.header.specs.declared.PduHeader.{PduHeader}
use Rattle.header.specs.Flags.{FlagLaws, pdu_type_laws, direction_laws, mode_laws, crc_laws, file_laws, control_laws, metadata_laws}
use Rattle.header.specs.Comparing.{same_flags, same_header, same_header_equiv}
use Rattle.header.specs.Demands.{SameHeaderShares}

pub same_self : (h : PduHeader) → same_header h h ≡ true
same_self = same_header_equiv.refl

-- both of two are true
pub both_true : (a b : Bool) → (a && b) ≡ true → (a ≡ true) × (b ≡ true)
both_true a b e = (and-eq-true_iff a b).0 e

-- a flag whose bit is the bit of another is that flag
same_flag : {F : Type 0} {bit : F → ℕ} {flag_if : Bool → F} → FlagLaws bit flag_if → (f g : F) → eqb (bit f) (bit g) ≡ true → f ≡ g
same_flag {bit = bit} {flag_if = flag_if} laws f g e = sym (laws.back f) ∙ ap (λ (n : ℕ). flag_if (eqb n 1)) (eqb-true (bit f) (bit g) e) ∙ laws.back g

pub same_header_shares : SameHeaderShares
unfolding same_header same_flags
same_header_shares a b e =
    let p = both_true _ _ e in
    let q = both_true _ _ p.0 in
    let r = both_true _ _ q.0 in
    let s = both_true _ _ r.0 in
    let u = both_true _ _ s.0 in
    let v = both_true _ _ u.0 in
    let w = both_true _ _ v.0 in
    let x = both_true _ _ w.0 in
    let y = both_true _ _ x.0 in
    let z = both_true _ _ y.0 in
    record {
      kind = same_flag pdu_type_laws a.kind b.kind z.0;
      direction = same_flag direction_laws a.direction b.direction z.1;
      mode = same_flag mode_laws a.mode b.mode y.1;
      crc = same_flag crc_laws a.crc b.crc x.1;
      file = same_flag file_laws a.file b.file w.1;
      control = same_flag control_laws a.control b.control v.1;
      metadata = same_flag metadata_laws a.metadata b.metadata u.1;
      length = eqb-true _ _ s.1;
      source = eqb-true _ _ r.1;
      sequence = eqb-true _ _ q.1;
      destination = eqb-true _ _ p.1;
    }
