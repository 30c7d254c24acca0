-- What every reader of a directive PDU asks for: at most 28 bytes for the header, and behind it P and 9; an accepted PDU has all its P bytes.
-- Assumes nothing.
use Prim.Native.Nat.{ℕ, ◌≤◌, ◌<◌}
use mathlib.Core.Path.{◌≡◌, refl, sym, ap, subst, ◌∙◌}
use mathlib.Core.List.{List, [], ◌∷◌}
use native.Mathlib.Omega.{arith}
use lib.ListN.{length}
use borrow.Author.Tests.{lt-ltb}
use Rattle.fields.specs.Answer.{Answer, accepted, short, refused, and_then, Test}
use Rattle.fields.specs.Staged.{Staged, accept, run, ◌>>=◌, ◌>>◌, tests}
use Rattle.fields.specs.Demand3.{AtMost}
use Rattle.fields.proofs.Judging.{NoneSays, passed}
use Rattle.fields.proofs.Staged.{run_bind, both, passed_all, at_most_bind, run_tests, tests_none}
use Rattle.fields.proofs.Waiting.{Asks, asks_bind}
use Rattle.header.specs.declared.PduHeader.{PduHeader}
use Rattle.header.specs.Header.{pdu_length}
use Rattle.header.specs.Reading.{reading_header}
use Rattle.header.specs.Verifying.{pdu_bytes}
use Rattle.header.specs.Directive.{least_length, PduRead, reading_directive}
use Rattle.header.specs.Within.{directive_part, directive_bytes, code_part}
use Rattle.header.proofs.Directives.{directive_two, directive_is, staged, next, reader}

-- the longest header: 4 bytes and three numbers of 8
abbrev pub longest_header : ℕ
longest_header = 28

pub header_asks : (m : ℕ) → longest_header ≤ m → Asks m reading_header
unfolding reading_header
header_asks m l = (omega arith, λ b. (λ e. omega arith, λ _. (λ e. omega arith, λ _. (λ e. omega arith, λ _. (omega arith, λ _. tt)))))

tests_ask : {A : Type 0} (m : ℕ) (ts : List Test) (a : A) → NoneSays 1 ts → Asks m (tests ts >> accept a)
tests_ask m [] a h = tt
tests_ask m (t ∷ ts) a h = (h.0, λ _. tests_ask m ts a h.1)

code_asks : (own m : ℕ) (h : PduHeader) (p : List ℕ) → Asks m (code_part own h p)
unfolding code_part
code_asks own m h p = (λ e. omega arith, λ _. (λ e. omega arith, λ _. tt))

code_none : (own : ℕ) (h : PduHeader) (p : List ℕ) → AtMost (code_part own h p) 0
unfolding code_part
code_none own h p = tt

code_header : (own : ℕ) (h : PduHeader) (p s : List ℕ) (r : PduRead) → run (code_part own h p) s ≡ accepted r → h ≡ r.header
unfolding code_part
code_header own h p s r e = ap (λ (x : PduRead). x.header) (passed_all (code_part own h p) s r e).1.1

bytes_ask : (m : ℕ) (h : PduHeader) → pdu_length h ≤ m → least_length ≤ m → Asks m (directive_bytes h)
unfolding directive_bytes directive_part pdu_bytes
bytes_ask m h l k = (l, λ b. (λ e. omega arith, λ _. (k, λ _. (λ e. omega arith, λ _. (λ e. omega arith, λ _. (λ e. omega arith, λ _. tt))))))

module _ {A : Type 0} (own : ℕ) (ts : PduHeader → List ℕ → List Test) (x : PduHeader → List ℕ → A) where
  -- the reader's stages behind the header
  abbrev pub behind : PduHeader → Staged A
  behind h = directive_bytes h >>= code_part own h >>= next own ts x

  pub behind_two : (h : PduHeader) → AtMost (behind h) 2
  behind_two h =
      at_most_bind (directive_bytes h >>= code_part own h) (next own ts x) 2 0
      (at_most_bind (directive_bytes h) (code_part own h) 2 0 (directive_two h) (code_none own h))
      (λ d. tests_none (ts d.header d.content) (x d.header d.content))

  pub behind_asks : (m : ℕ) (h : PduHeader) → pdu_length h ≤ m → least_length ≤ m → ((k : PduHeader) (content : List ℕ) → NoneSays 1 (ts k content))
      → Asks m (behind h)
  behind_asks m h l k none =
      asks_bind m (directive_bytes h >>= code_part own h) (next own ts x)
      (asks_bind m (directive_bytes h) (code_part own h) (bytes_ask m h l k) (code_asks own m h))
      (λ d. tests_ask m (ts d.header d.content) (x d.header d.content) (none d.header d.content))

  -- below P it is short
  pub behind_short : (h : PduHeader) (s : List ℕ) → length s < pdu_length h → run (behind h) s ≡ short (length s) (pdu_length h)
  unfolding directive_bytes pdu_bytes
  behind_short h s l = rw (lt-ltb _ _ l)

  module _ (s : List ℕ) where
    -- behind the header they are the reader
    pub headed_reader : run (reading_header >>= behind) s ≡ run (reader own ts x) s
    headed_reader =
        run_bind reading_header behind s
        ∙ go (run reading_header s)
        ∙ ap (λ (o : Answer PduRead). and_then o (λ d. run (next own ts x d) s))
        (sym (run_bind reading_header (λ h. directive_bytes h >>= code_part own h) s) ∙ staged own s)
        ∙ sym (run_bind (reading_directive own) (next own ts x) s)
      where
        go : (o : Answer PduHeader)
            → and_then o (λ h. run (behind h) s) ≡ and_then (and_then o (λ h. run (directive_bytes h >>= code_part own h) s)) (λ d. run (next own ts x d) s)
        go (accepted h) = run_bind (directive_bytes h >>= code_part own h) (next own ts x) s
        go (short l n) = refl
        go (refused ns) = refl

    -- what was accepted has a header, and all the bytes that it speaks of
    pub record Whole (a : A) : Type 0 where
      pub header : PduHeader
      pub content : List ℕ
      pub headed : run reading_header s ≡ accepted header
      pub long : pdu_length header ≤ length s
      pub is : a ≡ x header content

    pub accepted_whole : (a : A) → run (reader own ts x) s ≡ accepted a → Whole a
    accepted_whole a e =
        let b = both (reading_directive own) (next own ts x) s a e in
        let r = b.mid in
        let c = both reading_header (λ k. directive_bytes k >>= code_part own k) s r (staged own s ∙ b.first) in
        let d = both (directive_bytes c.mid) (code_part own c.mid) s r c.second in
        let same = code_header own c.mid d.mid s r d.second in
        let last = passed (ts r.header r.content) a (x r.header r.content)
        (sym b.second ∙ run_tests (ts r.header r.content) (x r.header r.content) s) in
        record {
          header = r.header;
          content = r.content;
          headed = c.first ∙ ap accepted same;
          long = subst (λ (k : PduHeader). pdu_length k ≤ length s) same (directive_is c.mid s d.mid d.first).0;
          is = last.1;
        }
