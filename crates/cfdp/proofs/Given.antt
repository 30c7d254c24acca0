-- What is answered and left where a header's numbers give one and where they give none.
-- Assumes nothing.
use Prim.Native.Nat.{ℕ}
use mathlib.Core.Path.{◌≡◌, refl, sym, ap, ◌∙◌}
use mathlib.Core.Bool.{Bool}
use mathlib.Core.List.{List}
use Rattle.fields.specs.declared.refusal.Refusal.{Refusal}
use Rattle.fields.specs.Refusal.{paper}
use Rattle.std.specs.Prelude.{Result, Ok, Err, MatchResult, IsErrAnd}
use Rattle.fields.specs.Answer.{Answer, accepted, told, and_then, answer_of}
use Rattle.fields.specs.Staged.{run}
use Rattle.fields.proofs.Judging.{told_on, told_either}
use Rattle.header.specs.declared.PduHeader.{PduHeader}
use Rattle.header.specs.declared.flags.LargeFileFlag.{LargeFileFlag}
use Rattle.nak.proofs.Comparing.{reading_first}
use Rattle.nak.specs.Reading.{reading_nak}
use Rattle.nak.specs.Comparing.{comparing}
use Rattle.cfdp.specs.Given.{left_by, comparing_from}
use Rattle.cfdp.specs.Shown.{shown, refusal_shown}
use Rattle.cfdp.proofs.Shown.{refused_shown}

-- ---- no header was given: that refusal is shown, and no byte changes

pub none_shown : {A : Type 0} (numbers : A → List ℕ) (r : Refusal) (o : Answer PduHeader) (f : PduHeader → Answer A) (out : List ℕ)
    → told (paper r) ≡ o → out ≡ refusal_shown r → out ≡ shown numbers (and_then o f)
none_shown numbers r o f out e p = refused_shown numbers r (and_then o f) out (sym (told_on (paper r) f) ∙ ap (λ (x : Answer PduHeader). and_then x f) e) p

pub none_left : (ns : List ℕ) (o : Answer PduHeader) (memory : PduHeader → List ℕ) (s : List ℕ) → told ns ≡ o → s ≡ left_by o memory s
none_left ns o memory s e =
    sym (told_either (λ (x : Answer PduHeader). left_by x memory s) s ns (λ _ _. refl) (λ _. refl)) ∙ ap (λ (x : Answer PduHeader). left_by x memory s) e

-- ---- one was given: what is shown and left of it

pub given_shown : {A : Type 0} (numbers : A → List ℕ) (h : PduHeader) (o : Answer PduHeader) (f : PduHeader → Answer A) (out : List ℕ)
    → accepted h ≡ o → out ≡ shown numbers (f h) → out ≡ shown numbers (and_then o f)
given_shown numbers h o f out e p = p ∙ ap (λ (x : Answer PduHeader). shown numbers (and_then x f)) e

pub given_left : (h : PduHeader) (o : Answer PduHeader) (memory : PduHeader → List ℕ) (s t : List ℕ) → accepted h ≡ o → t ≡ memory h → t ≡ left_by o memory s
given_left h o memory s t e p = p ∙ ap (λ (x : Answer PduHeader). left_by x memory s) e

-- ---- a header goes on to what is made of it

pub chained : {A : Type 0} (made : PduHeader → Type 0) (r : Result PduHeader Refusal) (res : Result A Refusal) (o : Answer PduHeader) (f : PduHeader → Answer A)
    → answer_of r ≡ o
    → ((h : PduHeader) → made h → answer_of res ≡ f h)
    → MatchResult r made (λ e. res ≡ Err e)
    → answer_of res ≡ and_then o f
chained made (Ok h) res o f e g m = g h m ∙ ap (λ (x : Answer PduHeader). and_then x f) e
chained made (Err q) res o f e g m = ap answer_of m ∙ sym (told_on (paper q) f) ∙ ap (λ (x : Answer PduHeader). and_then x f) e

-- and to what is left of the lent buffer
pub lent : {A : Type 0} (made : PduHeader → Type 0) (r : Result PduHeader Refusal) (res : Result A Refusal) (o : Answer PduHeader) (f : PduHeader → Answer A)
    (memory : PduHeader → List ℕ) (s t : List ℕ)
    → answer_of r ≡ o
    → ((h : PduHeader) → made h → (answer_of res ≡ f h) × (t ≡ memory h))
    → MatchResult r made (λ e. (res ≡ Err e) × (t ≡ s))
    → (answer_of res ≡ and_then o f) × (t ≡ left_by o memory s)
lent made (Ok h) res o f memory s t e g m =
    let p = g h m in
    (p.0 ∙ ap (λ (x : Answer PduHeader). and_then x f) e, p.1 ∙ ap (λ (x : Answer PduHeader). left_by x memory s) e)
lent made (Err q) res o f memory s t e g m =
    (ap answer_of m.0 ∙ sym (told_on (paper q) f) ∙ ap (λ (x : Answer PduHeader). and_then x f) e, m.1 ∙ none_left (paper q) o memory s e)

-- ---- comparing, which reads first

pub compared : (file : PduHeader → LargeFileFlag) (made : PduHeader → Type 0) (failed : Refusal → Refusal → Type 0) (r t : Result PduHeader Refusal) (res : Result Bool Refusal)
    (o : Answer PduHeader) (start end : ℕ) (numbers s : List ℕ)
    → answer_of r ≡ o
    → MatchResult r (λ h. t ≡ Ok h) (λ e. IsErrAnd t (failed e))
    → ((q p : Refusal) → failed q p → ◌≡◌ {A = Answer Bool} (told (paper p)) (and_then (run reading_nak s) (λ _. told (paper q))))
    → ((h : PduHeader) → made h → answer_of res ≡ comparing (file h) h start end numbers s)
    → MatchResult t made (λ e. res ≡ Err e)
    → answer_of res ≡ comparing_from o (λ k. comparing (file k) k start end numbers s) s
compared file made failed (Ok h) (Ok k) res o start end numbers s e m l g n =
    let same : k ≡ h = cc in
    g k n ∙ sym (reading_first (file k) k start end numbers s)
    ∙ ap (λ (x : Answer PduHeader). comparing_from x (λ i. comparing (file i) i start end numbers s) s) (ap accepted same ∙ e)
compared file made failed (Ok h) (Err p) res o start end numbers s e m l g n = cc
compared file made failed (Err q) (Ok k) res o start end numbers s e m l g n = absurd m
compared file made failed (Err q) (Err p) res o start end numbers s e m l g n =
    let f : PduHeader → Answer Bool = λ k. comparing (file k) k start end numbers s in
    ap answer_of n ∙ l q p m
    ∙ ap (λ (x : Answer Bool). and_then (run reading_nak s) (λ _. x)) (sym (told_on (paper q) f) ∙ ap (λ (x : Answer PduHeader). and_then x f) e)
