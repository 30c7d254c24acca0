-- The data of a directive PDU that was read through its code are the bytes behind its header, up to E.
-- Assumes nothing.
use Prim.Native.Nat.{ℕ, ◌-◌}
use mathlib.Core.Path.{◌≡◌, refl, sym, ap, ◌∙◌}
use mathlib.Core.List.{List, []}
use lib.ListN.{take, drop}
use Rattle.fields.specs.Answer.{accepted}
use Rattle.fields.specs.Staged.{run, accept}
use Rattle.fields.proofs.Judging.{same_accepted}
use Rattle.fields.proofs.Staged.{accepted_bind}
use Rattle.header.specs.declared.PduHeader.{PduHeader}
use Rattle.header.specs.declared.directive.DirectivePdu.{DirectivePdu}
use Rattle.header.specs.Header.{header_length, data_end}
use Rattle.header.specs.Directive.{PduRead, reading_directive, reading_own}
use Rattle.header.proofs.Directives.{OwnRead, next, read_own}

pub record DataIn (s : List ℕ) (r : PduRead) : Type 0 where
  pub lies : OwnRead r.header s (data_end r.header) (header_length r.header)
  pub is : take (data_end r.header - header_length r.header) (drop (header_length r.header) s) ≡ r.content

abbrev told_stop : PduRead → DirectivePdu
told_stop r = record { header = r.header; stop = data_end r.header }

abbrev both_of : PduHeader → List ℕ → PduRead
both_of h c = record { header = h; content = c }

pub data_in : (own : ℕ) (s : List ℕ) (r : PduRead) → run (reading_directive own) s ≡ accepted r → DataIn s r
unfolding reading_own
data_in own s r e =
    let stops : accepted (told_stop r) ≡ run (reading_own own) s = accepted_bind (reading_directive own) (λ d. accept (told_stop d)) s r (sym e) in
    let k = read_own own (λ _ _. []) both_of s (told_stop r) (header_length r.header) stops refl in
    let same = k.1 ∙ sym (accepted_bind (reading_directive own) (next own (λ _ _. []) both_of) s r (sym e)) in
    record { lies = k.0; is = ap (λ (x : PduRead). x.content) (same_accepted _ _ same) }
