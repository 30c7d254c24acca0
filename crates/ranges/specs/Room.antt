-- Room for a comparison (document 02, C-10): of two NAKs that were read, what is proved of the code's own answers.
use Rattle.std.specs.Prelude.{ℕ, ◌+◌, ◌*◌, ◌≤◌, ◌≡◌, List, length, Ok, Err}
use Rattle.fields.specs.declared.refusal.Refusal.TheVariants.{NoRoom}
use Rattle.fields.specs.Answer.{accepted, answer_of}
use Rattle.fields.specs.Staged.{run}
use Rattle.nak.specs.declared.Nak.{Nak}
use Rattle.nak.specs.Reading.{reading_nak}
use Rattle.ranges.specs.declared.differ.Differences.{Differences}
use Rattle.ranges.specs.Order.{others}
use Rattle.ranges.specs.Differing.{requests_in, differing}

-- the requests in the first NAK and in the second together, 'leaving out the metadata pair' of each
abbrev pub requests_of_both : Nak → List ℕ → Nak → List ℕ → ℕ
requests_of_both m s n t = length (others (requests_in m s)) + length (others (requests_in n t))

-- 'the ranges it writes never outnumber' them
abbrev pub NeverOutnumber : Type 0
NeverOutnumber =
    (s t lent : List ℕ) (m n : Nak) (d : Differences) → run reading_nak s ≡ accepted m → run reading_nak t ≡ accepted n
    → answer_of (Ok d) ≡ differing s t (length lent) → d.ranges ≤ requests_of_both m s n t

-- 'so with that much room refusal 20 is never given'
abbrev pub NeverNoRoom : Type 0
NeverNoRoom =
    (s t lent : List ℕ) (m n : Nak) → run reading_nak s ≡ accepted m → run reading_nak t ≡ accepted n → 3 * requests_of_both m s n t ≤ length lent
    → answer_of (Err NoRoom) ≡ differing s t (length lent) → ⊥

-- nor with room for every pair that the two readings count
abbrev pub EnoughByCount : Type 0
EnoughByCount =
    (s t lent : List ℕ) (m n : Nak) → run reading_nak s ≡ accepted m → run reading_nak t ≡ accepted n → 3 * (m.count + n.count) ≤ length lent
    → answer_of (Err NoRoom) ≡ differing s t (length lent) → ⊥
