-- What a receiver of a stream has to know of NAKs: their stages behind the header, and the bytes that an accepted NAK has and shows.
-- Assumes nothing.
use Prim.Native.Nat.{ℕ, ◌-◌, ◌≤◌, ◌<◌}
use mathlib.Core.Path.{◌≡◌, refl, sym, ap, subst, ◌∙◌}
use mathlib.Core.Bool.{Bool, true, false}
use mathlib.Core.List.{List, ◌++◌}
use native.Mathlib.Omega.{arith}
use lib.Dec.{ltb}
use lib.ListN.{length, take, drop, length-drop}
use lib.Seq.{take-append-le, drop-append-le}
use borrow.Author.Tests.{ltb-true, ltb-false}
use Rattle.fields.specs.Answer.{accepted, short}
use Rattle.fields.specs.Staged.{Staged, run, ◌>>=◌}
use Rattle.fields.specs.Demand3.{Final, AtMost}
use Rattle.fields.proofs.Waiting.{Asks}
use Rattle.header.specs.declared.PduHeader.{PduHeader}
use Rattle.header.specs.Header.{pdu_length}
use Rattle.header.specs.Reading.{reading_header}
use Rattle.header.specs.Directive.{least_length}
use Rattle.header.proofs.Behind.{behind, behind_two, behind_asks, behind_short, headed_reader, accepted_whole}
use Rattle.nak.specs.declared.Nak.{Nak}
use Rattle.nak.specs.Nak.{nak_code, nak_in}
use Rattle.nak.specs.Reading.{reading_nak}
use Rattle.nak.specs.Requests.{area_of}
use Rattle.nak.proofs.Reading.{read_tests}
use Rattle.nak.proofs.Demands.{nak_demand3, accepted_shows}

-- ---- the stages behind the header

abbrev pub nak_behind : PduHeader → Staged Nak
nak_behind h = behind nak_code read_tests nak_in h

pub headed_nak : (s : List ℕ) → run (reading_header >>= nak_behind) s ≡ run reading_nak s
unfolding reading_nak
headed_nak s = headed_reader nak_code read_tests nak_in s

pub nak_two : (h : PduHeader) → AtMost (nak_behind h) 2
nak_two h = behind_two nak_code read_tests nak_in h

pub nak_asks : (m : ℕ) (h : PduHeader) → pdu_length h ≤ m → least_length ≤ m → Asks m (nak_behind h)
nak_asks m h l k = behind_asks nak_code read_tests nak_in m h l k (λ _ _. (λ e. omega arith, tt))

pub nak_short : (h : PduHeader) (s : List ℕ) → length s < pdu_length h → run (nak_behind h) s ≡ short (length s) (pdu_length h)
nak_short h s l = behind_short nak_code read_tests nak_in h s l

-- ---- an accepted NAK has all its P bytes, and shows the same requests whatever follows them

pub nak_long : (s : List ℕ) (n : Nak) → run reading_nak s ≡ accepted n → pdu_length n.header ≤ length s
unfolding reading_nak nak_in
nak_long s n e =
    let w = accepted_whole nak_code read_tests nak_in s n e in
    subst (λ (h : PduHeader). pdu_length h ≤ length s) (sym (ap (λ (m : Nak). m.header) w.is)) w.long

pub same_area : (s t : List ℕ) (n : Nak) → run reading_nak s ≡ accepted n → area_of n (s ++ t) ≡ area_of n s
same_area s t n e =
    let f : Final (run reading_nak s) = subst Final (sym e) tt in
    let there = accepted_shows s n e in
    (accepted_shows (s ++ t) n (nak_demand3.final s t f ∙ e)).area ∙ go (ltb (length s) n.area) refl there.inside ∙ sym there.area
  where
    go : (c : Bool) → ltb (length s) n.area ≡ c → n.stop ≤ length s
        → take (n.stop - n.area) (drop n.area (s ++ t)) ≡ take (n.stop - n.area) (drop n.area s)
    go true c i =
        let b : length s < n.area = ltb-true (length s) n.area c in
        let z : n.stop - n.area ≡ 0 = omega arith in
        rw z
    go false c i =
        let b : n.area ≤ length s = ltb-false (length s) n.area c in
        ap (take (n.stop - n.area)) (drop-append-le n.area s t b)
        ∙ take-append-le (n.stop - n.area) (drop n.area s) t (omega (arith, length-drop n.area s))
