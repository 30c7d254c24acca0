-- NAKs laid end to end are given one by one: a proper beginning of a PDU is short, since an accepted NAK has all its P bytes, and so nothing is given before a PDU's last byte.
-- Assumes nothing.
use Prim.Native.Nat.{ℕ, suc, ◌+◌, ◌≤◌, ◌<◌}
use mathlib.Core.Path.{◌≡◌, refl, sym, ap, ap₂, subst, ◌∙◌}
use mathlib.Core.List.{List, [], ◌∷◌, ◌++◌, map, append_assoc, append-nil}
use native.Mathlib.Omega.{arith}
use lib.ListN.{length, take, drop, set, length-set, length-append, length-replicate, take-append-drop}
use lib.Seq.{take-suc-set}
use Rattle.fields.specs.Answer.{Answer, accepted, short, refused}
use Rattle.fields.specs.Staged.{run}
use Rattle.fields.specs.Demand3.{Final}
use Rattle.fields.proofs.Judging.{same_accepted}
use Rattle.header.specs.Header.{pdu_length}
use Rattle.header.proofs.Verifying.{at_least}
use Rattle.nak.specs.declared.Nak.{Nak}
use Rattle.nak.specs.Reading.{reading_nak}
use Rattle.nak.specs.Requests.{area_of, pairs_of}
use Rattle.nak.specs.Archive.{Archived, bytes_of, contents_of, end_to_end, archive}
use Rattle.nak.proofs.Streams.{nak_long, same_area}
use Rattle.nak.proofs.Archive.{turns_length, archived_back, archived_length}
use Rattle.receiver.specs.declared.Receiver.{Receiver}
use Rattle.receiver.specs.Receiving.{window_length, receiving, fresh, status, put, begun, state_of}
use Rattle.receiver.specs.Within.{capped}
use Rattle.receiver.specs.Demands.{Given, shown, and_before, session, AllGiven, Written, asked, WrittenAreGiven, Pdu, LaidEndToEnd}
use Rattle.receiver.proofs.Reading.{capped_reading, receiving_demand3}
use Rattle.receiver.proofs.Given.{read_again}
use Rattle.receiver.proofs.Cutting.{stream, by_status, fresh_waits, hears}

record Short (s : List ℕ) : Type 0 where
  found : ℕ
  need : ℕ
  says : run receiving s ≡ short found need

module _ (s t : List ℕ) (n : Nak) (e : run reading_nak (s ++ t) ≡ accepted n) (k : length (s ++ t) ≤ window_length) where
  whole_read : run receiving (s ++ t) ≡ accepted n
  whole_read = capped_reading (s ++ t) k ∙ ap capped e

  -- a proper beginning of a PDU is short
  begins_short : length s < pdu_length n.header → Short s
  begins_short l = go (run receiving s) refl
    where
      go : (o : Answer Nak) → run receiving s ≡ o → Short s
      go (accepted m) d =
          let f : Final (run receiving s) = subst Final (sym d) tt in
          let q : accepted m ≡ accepted n = sym (receiving_demand3.final s t f ∙ d) ∙ whole_read in
          let m≡n : m ≡ n = same_accepted m n q in
          let p : pdu_length n.header ≤ length s = subst (λ (x : Nak). pdu_length x.header ≤ length s) m≡n
          (nak_long s m (read_again s m (omega (arith, length-append s t)) d)) in
          absurd (let b : ⊥ = omega arith in b)
      go (short j m) d = record { found = j; need = m; says = d }
      go (refused ns) d =
          let f : Final (run receiving s) = subst Final (sym d) tt in
          let q : ◌≡◌ {A = Answer Nak} (refused ns) (accepted n) = sym (receiving_demand3.final s t f ∙ d) ∙ whole_read in
          let z : ◌≡◌ {A = ℕ} 0 1 = cc in
          absurd (let b : ⊥ = omega arith in b)

-- the stream behind a PDU of those bytes, from a window of the same length
record Behind (n : Nak) (bytes w : List ℕ) (at : ℕ) (s g : List ℕ) : Type 0 where
  window : List ℕ
  same : length window ≡ window_length
  is : stream (state_of w at) (s ++ g) ≡ and_before (shown n bytes) (stream (state_of window 0) g)

-- a window that begins with those bytes shows their requests
same_shown : (bytes w : List ℕ) (at : ℕ) (n : Nak) → take at w ≡ bytes → run reading_nak bytes ≡ accepted n → shown n w ≡ shown n bytes
same_shown bytes w at n t e =
    let a : w ≡ bytes ++ drop at w = sym (take-append-drop at w) ∙ ap (λ (x : List ℕ). x ++ drop at w) t in
    ap (λ (area : List ℕ). record { nak = n; requests = pairs_of n.header.file area }) (ap (area_of n) a ∙ same_area bytes (drop at w) n e)

-- one byte more: with it the window holds a NAK, or lacks bytes still
module _ (w : List ℕ) (at x : ℕ) (g : List ℕ) where
  abbrev q : Receiver
  q = state_of (set w at x) (suc at)

  byte_gives : (n : Nak) → run receiving (take (suc at) (set w at x)) ≡ accepted n
      → stream (state_of w at) (x ∷ g) ≡ and_before (shown n (set w at x)) (stream (state_of (set w at x) 0) g)
  unfolding status put begun
  byte_gives n r = ap (λ (o : Answer Nak). by_status o q (λ y. stream y g)) r

  byte_lacks : (l m : ℕ) → run receiving (take (suc at) (set w at x)) ≡ short l m → stream (state_of w at) (x ∷ g) ≡ stream q g
  unfolding status put
  byte_lacks l m r = ap (λ (o : Answer Nak). by_status o q (λ y. stream y g)) r

-- the bytes `pre` of a PDU are in the window, and the bytes s of it follow
given_behind : (s pre w : List ℕ) (at : ℕ) (n : Nak) (g : List ℕ) → 0 < length s → length w ≡ window_length → take at w ≡ pre → length pre ≡ at
    → run reading_nak (pre ++ s) ≡ accepted n → length (pre ++ s) ≡ pdu_length n.header → length (pre ++ s) ≤ window_length → Behind n (pre ++ s) w at s g
given_behind [] pre w at n g z k p l e whole holds = absurd (let b : ⊥ = omega arith in b)
given_behind (x ∷ []) pre w at n g z k p l e whole holds =
    let m = length-append pre (x ∷ []) in
    let t : take (suc at) (set w at x) ≡ pre ++ (x ∷ []) = take-suc-set w at x (omega arith) ∙ ap (λ (q : List ℕ). q ++ (x ∷ [])) p in
    let r : run receiving (take (suc at) (set w at x)) ≡ accepted n = ap (run receiving) t ∙ capped_reading (pre ++ (x ∷ [])) holds ∙ ap capped e in
    record {
      window = set w at x;
      same = length-set w at x ∙ k;
      is =
          byte_gives w at x g n r
          ∙ ap (λ (y : Given). and_before y (stream (state_of (set w at x) 0) g)) (same_shown (pre ++ (x ∷ [])) (set w at x) (suc at) n t e);
    }
given_behind (x ∷ y ∷ s) pre w at n g z k p l e whole holds =
    let m : length (pre ++ (x ∷ y ∷ s)) ≡ length pre + suc (suc (length s)) = length-append pre (x ∷ y ∷ s) in
    let t : take (suc at) (set w at x) ≡ pre ++ (x ∷ []) = take-suc-set w at x (omega arith) ∙ ap (λ (q : List ℕ). q ++ (x ∷ [])) p in
    let j : length (pre ++ (x ∷ [])) ≡ suc at = length-append pre (x ∷ []) ∙ (let i : length pre + 1 ≡ suc at = omega arith in i) in
    let a : (pre ++ (x ∷ [])) ++ (y ∷ s) ≡ pre ++ (x ∷ y ∷ s) = append_assoc pre (x ∷ []) (y ∷ s) in
    let e' : run reading_nak ((pre ++ (x ∷ [])) ++ (y ∷ s)) ≡ accepted n = ap (run reading_nak) a ∙ e in
    let b : length ((pre ++ (x ∷ [])) ++ (y ∷ s)) ≡ length (pre ++ (x ∷ y ∷ s)) = ap length a in
    let q = begins_short (pre ++ (x ∷ [])) (y ∷ s) n e' (omega arith) (omega arith) in
    let r : run receiving (take (suc at) (set w at x)) ≡ short q.found q.need = ap (run receiving) t ∙ q.says in
    let rest = subst (λ (bytes : List ℕ). Behind n bytes (set w at x) (suc at) (y ∷ s) g) a
    (given_behind (y ∷ s) (pre ++ (x ∷ [])) (set w at x) (suc at) n g (omega arith) (length-set w at x ∙ k) t j e' (b ∙ whole) (omega arith)) in
    record { window = rest.window; same = rest.same; is = byte_lacks w at x (y ∷ s ++ g) q.found q.need r ∙ rest.is }

-- ---- PDU behind PDU

abbrev all_bytes : List Pdu → List ℕ
all_bytes ps = end_to_end (map (λ (p : Pdu). p.bytes) ps)

abbrev all_shown : List Pdu → List Given
all_shown ps = map (λ (p : Pdu). shown p.whole.nak p.bytes) ps

all_given : (ps : List Pdu) (w : List ℕ) → length w ≡ window_length → AllGiven (all_shown ps) (stream (state_of w 0) (all_bytes ps))
all_given [] w k = record { naks = refl; ends = refl; begins = refl }
all_given (p ∷ ps) w k =
    let b = given_behind p.bytes [] w 0 p.whole.nak (all_bytes ps)
    (omega (arith, at_least p.whole.nak.header (length p.bytes) p.whole.ends)) k refl refl p.whole.read p.whole.ends p.holds in
    let rest = all_given ps b.window b.same in
    subst (AllGiven (all_shown (p ∷ ps))) (sym b.is)
    record { naks = ap (λ (ns : List Given). shown p.whole.nak p.bytes ∷ ns) rest.naks; ends = rest.ends; begins = rest.begins }

pub laid_end_to_end : LaidEndToEnd
unfolding fresh
laid_end_to_end ps fs m e h =
    subst (AllGiven (all_shown ps)) (sym (hears m fresh fs fresh_waits h ∙ ap (stream fresh) e))
    (all_given ps fresh.window (length-replicate {A = ℕ} window_length 0))

-- ---- of what was written

module _ (w : Written) where
  abbrev k : Archived
  k = w.nak

  abbrev given : Given
  given = asked (contents_of k)

  alone : bytes_of k ++ [] ≡ bytes_of k
  alone = append-nil (bytes_of k)

  reads : run reading_nak (bytes_of k) ≡ accepted given.nak
  reads = rw (turns_length k.numbers) (ap (run reading_nak) (sym alone) ∙ (archived_back k []).read)

  pdu_of : Pdu
  pdu_of = record { bytes = bytes_of k; whole = record { nak = given.nak; read = reads; ends = archived_length k }; holds = w.holds }

  shows : shown given.nak (bytes_of k) ≡ given
  shows =
      let pairs : pairs_of given.nak.header.file (area_of given.nak (bytes_of k)) ≡ given.requests = rw (turns_length k.numbers, ← alone)
      (archived_back k []).pairs in
      ap (λ (rs : List (ℕ × ℕ)). record { nak = given.nak; requests = rs }) pairs

written_bytes : (ws : List Written) → all_bytes (map pdu_of ws) ≡ archive (map (λ (w : Written). w.nak) ws)
unfolding pdu_of
written_bytes [] = refl
written_bytes (w ∷ ws) = ap (λ (x : List ℕ). bytes_of w.nak ++ x) (written_bytes ws)

written_shown : (ws : List Written) → all_shown (map pdu_of ws) ≡ map given ws
unfolding pdu_of
written_shown [] = refl
written_shown (w ∷ ws) = ap₂ (λ (x : Given) (xs : List Given). x ∷ xs) (shows w) (written_shown ws)

pub written_are_given : WrittenAreGiven
written_are_given ws fs m e h =
    subst (λ (ns : List Given). AllGiven ns (session m fresh fs)) (written_shown ws) (laid_end_to_end (map pdu_of ws) fs m (e ∙ sym (written_bytes ws)) h)
