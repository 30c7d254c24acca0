-- What is proved of the log (document 02, C-13), beside the promises of the functions.
use Rattle.std.specs.Prelude.{ℕ, zero, suc, ◌+◌, ◌≤◌, ◌<◌, ◌≡◌, Bool, true, false, Option, List, [], ◌∷◌, ◌++◌, ltb, length, drop, replicate, if◌then◌else◌, Result, Ok}
use Rattle.fields.specs.Answer.{Answer, accepted, short, refused}
use Rattle.tlv.specs.declared.Form.TheVariants.{LongTlv}
use Rattle.tlv.specs.Walking.{first_cut}
use Rattle.ranges.specs.declared.owed.FirstNak.{FirstNak}
use Rattle.ranges.specs.declared.owed.Stopped.{Stopped}
use Rattle.ranges.specs.Pairs.{asks}
use Rattle.ranges.specs.Merging.{largest}
use Rattle.ranges.specs.Owing.{Entry, heard, resent, owes, ranges_of, State, fresh, most, differs, after, judging}
use Rattle.ranges.specs.Memory.{state_size, ranges_in, is_state, memory_of}
use Rattle.ranges.specs.Log.{reading_entry, entry_size, entering, Ran, running, stop_answer}

-- the memory before the first entry: zeros
abbrev pub fresh_memory : List ℕ
fresh_memory = replicate state_size 0

-- which is the memory of the fresh state
abbrev pub FreshState : Type 0
FreshState = memory_of fresh ≡ fresh_memory

-- ---- a prefix of the log

-- an entry that was read, and those behind it
abbrev pub and_more : Answer Entry → List Entry → List Entry
and_more (accepted e) es = e ∷ es
and_more (short l n) es = []
and_more (refused ns) es = []

-- the entries of the bytes s that begin before the offset `stop`, where the first byte has the offset `at`, at most n
unfoldable pub entries_for : ℕ → ℕ → ℕ → List ℕ → List Entry
entries_for zero stop at s = []
entries_for (suc n) stop at s = if ltb at stop then and_more (reading_entry at s) (entries_for n stop (at + entry_size s) (drop (entry_size s) s)) else []

-- the entries of a log before a place in it
unfoldable pub entries_before : ℕ → List ℕ → List Entry
entries_before stop log = entries_for (length log) stop 0 log

-- where a run over a log stands, at its end or at an entry that is refused
abbrev pub stands_at : List ℕ → ℕ
stands_at log = (running 0 log fresh_memory).stop.1

-- and the ranges that are owed there
abbrev pub owed_there : List ℕ → List (ℕ × ℕ)
owed_there log = ranges_in (running 0 log fresh_memory).memory

-- the state is the longest ranges of the bytes owed after the prefix of the log up to there; every prefix of a log is a log
abbrev pub OwesThePrefix : Type 0
OwesThePrefix = (log : List ℕ) → owed_there log ≡ ranges_of (owes (entries_before (stands_at log) log))

-- 'and see what is owed at each line': it asks for exactly these bytes
abbrev pub AsksExactly : Type 0
AsksExactly = (log : List ℕ) (b : ℕ) → b < largest → asks (owed_there log) b ≡ owes (entries_before (stands_at log) log) b

-- 'as few as the owed bytes allow': no list of ranges of these bytes is shorter
abbrev pub NoneShorter : Type 0
NoneShorter = (log : List ℕ) (qs : List (ℕ × ℕ)) → ((b : ℕ) → asks qs b ≡ asks (owed_there log) b) → length (owed_there log) ≤ length qs

-- what an entry leaves that is taken is a state again: at most 256 ranges, which rise
abbrev pub StateAgain : Type 0
StateAgain = (at : ℕ) (s m : List ℕ) (t : State) → entering at s m ≡ accepted t → is_state (memory_of t) ≡ true

-- ---- 'room given up is used again'

-- a state of those ranges
abbrev pub holding : List (ℕ × ℕ) → Option FirstNak → State
holding ps f = record { ranges = ps; first = f }

-- 256 ranges of the bytes g are owed, among them p: p is resent, and a NAK of the transaction that asks for any other range is taken
abbrev pub RoomIsUsedAgain : Type 0
RoomIsUsedAgain =
    (g : ℕ → Bool) (f : Option FirstNak) (ps qs : List (ℕ × ℕ)) (p q : ℕ × ℕ) (at next source sequence : ℕ)
    → ranges_of g ≡ ps ++ (p ∷ qs) → length (ranges_of g) ≡ most → q.0 < q.1 → q.1 ≤ largest → differs f source sequence ≡ false
    → (judging (holding (ranges_of g) f) at (resent p) ≡ accepted (holding (ps ++ qs) f))
    × (judging (holding (ps ++ qs) f) next (heard source sequence (q ∷ [])) ≡ accepted (after (holding (ps ++ qs) f) (heard source sequence (q ∷ []))))

-- ---- a log in parts

-- what a run that reached its end goes on with
abbrev pub on_end : Answer (Unit {0}) → Ran → (List ℕ → Ran) → Ran
on_end (accepted t) r more = more r.memory
on_end (short l n) r more = r
on_end (refused ns) r more = r

-- a run that reached its end goes on with another
abbrev pub then_run : Ran → (List ℕ → Ran) → Ran
then_run r more = on_end r.stop.0 r more

-- split between entries, the parts run one behind the other give the same, whatever the memory holds
abbrev pub SplitsBetweenEntries : Type 0
SplitsBetweenEntries =
    (at : ℕ) (xs ys m : List ℕ) → first_cut LongTlv xs 0 ≡ Ok tt
    → running at (xs ++ ys) m ≡ then_run (running at xs m) (running (at + length xs) ys)

-- ---- 'How much each promise says': the answers leave one value

abbrev pub OneRunResult : Type 0
OneRunResult = (a b : Result ℕ Stopped) → stop_answer a ≡ stop_answer b → a ≡ b
