-- The stores of a NAK's data: code and scope, the numbers, and bytes that stand in their place already. Once for both widths.
-- Assumes nothing.
use Prim.Native.Nat.{ℕ, ◌+◌, ◌-◌, ◌*◌, ◌/◌, ◌%◌, ◌^◌, ◌≤◌, ◌<◌}
use mathlib.Core.Path.{◌≡◌, refl, sym, ap, ap₂, ◌∙◌}
use mathlib.Core.Bool.{true}
use mathlib.Core.List.{List, [], ◌∷◌, ◌++◌, append_assoc, append-nil}
use native.Mathlib.Nat.{zero-add, mul-le-mul_left}
use native.Mathlib.Omega.{arith}
use lib.Arith.{digits_lt, digits_div, digits_mod}
use lib.Dec.{lit<}
use lib.ListN.{length, get_or, take, drop, length-append, length-drop, take-append-drop, drop_of_length-le}
use lib.Seq.{sets, sets-eq, length-take-le, drop-drop}
use Rattle.std.proofs.lemmas.Bool.{eq-eqb}
use Rattle.fields.specs.BigEndian.{be_bytes, be_put}
use Rattle.fields.proofs.BigEndian.{be_length, be_beside, put_sets, put_behind, sets_append}
use Rattle.header.specs.declared.PduHeader.{PduHeader}
use Rattle.header.specs.declared.flags.LargeFileFlag.{LargeFileFlag}
use Rattle.header.specs.Header.{header_length}
use Rattle.header.specs.Size.{size_width}
use Rattle.nak.specs.Nak.{area_start}
use Rattle.nak.specs.Writing.{numbers_bytes, pair_put, scope_bytes, nak_data, scope_fits}
use Rattle.nak.proofs.Tests.{scope_fits_lem}

-- ---- code and scope

pub scope_length : (file : LargeFileFlag) (start end : ℕ) → length (scope_bytes file start end) ≡ 1 + 2 * size_width file
unfolding scope_bytes
scope_length file start end = simp (length-append, be_length) (omega arith)

pub scope_stored : (h : PduHeader) (start end a w : ℕ) (s b₁ b₂ b₃ : List ℕ) → area_start h ≤ length s → scope_fits h.file start end ≡ true
    → a ≡ header_length h → w ≡ size_width h.file → w ≤ 8
    → b₁ ≡ be_put s a 1 8 → b₂ ≡ be_put b₁ (a + 1) w start → b₃ ≡ be_put b₂ (a + 1 + w) w end
    → b₃ ≡ sets s (header_length h) (scope_bytes h.file start end)
unfolding scope_bytes area_start
scope_stored h start end a w s b₁ b₂ b₃ room scope pa pw small e₁ e₂ e₃ =
    let f = scope_fits_lem h.file start end scope in
    let l : a + 1 + 2 * w ≤ length s = rw (pa, pw) room in
    let x = be_bytes 1 8 in
    let y = be_bytes w start in
    let p₁ : b₁ ≡ sets s a x = e₁ ∙ put_sets s a 1 8 (omega arith) (omega arith) (lit< tt) in
    let p₂ : b₂ ≡ sets s a (x ++ y) = put_behind s x a (a + 1) w start (ap (λ (n : ℕ). a + n) (be_length 1 8)) small (omega arith) (rw pw f.0) p₁ e₂ in
    let n : a + length (x ++ y) ≡ a + 1 + w = simp (length-append, be_length) (omega arith) in
    let p₃ : b₃ ≡ sets s a ((x ++ y) ++ be_bytes w end) = put_behind s (x ++ y) a (a + 1 + w) w end n small (omega arith) (rw pw f.1) p₂ e₃ in
    p₃ ∙ ap₂ (λ (i j : ℕ). sets s i ((x ++ be_bytes j start) ++ be_bytes j end)) pa pw

pub data_length_lem : (file : LargeFileFlag) (start end : ℕ) (area : List ℕ) → length (nak_data file start end area) ≡ 1 + 2 * size_width file + length area
unfolding nak_data
data_length_lem file start end area = simp (length-append, scope_length)

-- ---- the numbers

pub numbers_length : (w : ℕ) (ns : List ℕ) → length (numbers_bytes w ns) ≡ w * length ns
unfolding numbers_bytes
numbers_length w [] = omega arith
numbers_length w (n ∷ ns) = simp (length-append, be_length, numbers_length w ns) (omega arith)

-- two numbers whose halves are exchanged
pub exchanged_pair : (n x y two v : ℕ) → x < n → y < n → two ≡ y * n + x → v ≡ two % n * n + two / n → (v ≡ x * n + y) × (v < n * n)
exchanged_pair n x y two v h k e p =
    let low : two % n ≡ x = ap (λ (t : ℕ). t % n) e ∙ digits_mod y h in
    let high : two / n ≡ y = ap (λ (t : ℕ). t / n) e ∙ digits_div y h in
    let is : v ≡ x * n + y = p ∙ ap₂ (λ (a b : ℕ). a * n + b) low high in
    (is, rw is (digits_lt h k))

numbers_append : (w : ℕ) (xs ys : List ℕ) → numbers_bytes w (xs ++ ys) ≡ numbers_bytes w xs ++ numbers_bytes w ys
unfolding numbers_bytes
numbers_append w [] ys = refl
numbers_append w (x ∷ xs) ys = ap (λ (t : List ℕ). be_bytes w x ++ t) (numbers_append w xs ys) ∙ sym (append_assoc (be_bytes w x) (numbers_bytes w xs) (numbers_bytes w ys))

numbers_two : (w : ℕ) (ns : List ℕ) → length ns ≡ 2 → numbers_bytes w ns ≡ be_bytes w (get_or ns 0 0) ++ be_bytes w (get_or ns 1 0)
unfolding numbers_bytes
numbers_two w [] e = absurd (omega arith)
numbers_two w (a ∷ []) e = absurd (omega arith)
numbers_two w (a ∷ b ∷ []) e = rw append-nil refl
numbers_two w (a ∷ b ∷ c ∷ ns) e = absurd (omega arith)

-- all of a slice is written over
all_set : (s xs : List ℕ) → length xs ≡ length s → sets s 0 xs ≡ xs
all_set s xs e = sets-eq xs s 0 (omega arith) ∙ ap (λ (t : List ℕ). xs ++ t) (drop_of_length-le s {i = 0 + length xs} (omega arith)) ∙ append-nil xs

-- a pair is stored as one number
pub pair_as_one : (w v : ℕ) (s m ns : List ℕ) → w + w ≤ 8 → length s ≡ w + w → length ns ≡ 2 → get_or ns 1 0 < 256 ^ w → v ≡ get_or ns 0 0 * 256 ^ w + get_or ns 1 0
    → v < 256 ^ (w + w) → m ≡ be_put s 0 (w + w) v → m ≡ numbers_bytes w ns
pair_as_one w v s m ns small room two fb is fv p =
    p
    ∙ put_sets s 0 (w + w) v small (omega arith) fv
    ∙ all_set s (be_bytes (w + w) v) (be_length (w + w) v ∙ sym room)
    ∙ ap (be_bytes (w + w)) is
    ∙ be_beside w w (get_or ns 0 0) (get_or ns 1 0) fb
    ∙ sym (numbers_two w ns two)

-- or one behind the other
pub pair_as_two : (w : ℕ) (s m₁ m ns : List ℕ) → w ≤ 8 → length s ≡ w + w → length ns ≡ 2 → get_or ns 0 0 < 256 ^ w → get_or ns 1 0 < 256 ^ w
    → m₁ ≡ be_put s 0 w (get_or ns 0 0) → m ≡ be_put m₁ w w (get_or ns 1 0) → m ≡ numbers_bytes w ns
pair_as_two w s m₁ m ns small room two fa fb p q =
    let a = get_or ns 0 0 in
    let b = get_or ns 1 0 in
    put_behind s (be_bytes w a) 0 w w b (zero-add (length (be_bytes w a)) ∙ be_length w a) small (omega arith) fb (p ∙ put_sets s 0 w a small (omega arith) fa) q
    ∙ all_set s (be_bytes w a ++ be_bytes w b) (simp (length-append, be_length) (sym room))
    ∙ sym (numbers_two w ns two)

-- which is what is promised of a pair in memory that has just its bytes
pub pair_fits : (w : ℕ) (s ns : List ℕ) → length s ≡ 2 * w → length ns ≡ 2 → numbers_bytes w ns ≡ pair_put w ns s
unfolding pair_put
pair_fits w s ns room two = rw (eq-eqb (length s) (2 * w) room, eq-eqb (length ns) 2 two) refl

-- a pair's bytes, and that they are there
pub pair_length : (w i : ℕ) (ns : List ℕ) → 2 * i + 2 ≤ length ns → length (numbers_bytes w (take 2 (drop (2 * i) ns))) ≡ 2 * w
pair_length w i ns h =
    let two : length (take 2 (drop (2 * i) ns)) ≡ 2 = length-take-le 2 (drop (2 * i) ns) (omega (arith, length-drop (2 * i) ns)) in
    numbers_length w (take 2 (drop (2 * i) ns)) ∙ ap (λ (n : ℕ). w * n) two ∙ omega arith

pub pair_part : (w u f i : ℕ) (buf ns : List ℕ) → u ≡ w → f + 2 * u ≤ length buf → 2 * i + 2 ≤ length ns
    → numbers_bytes w (take 2 (drop (2 * i) ns)) ≡ pair_put w (take 2 (drop (2 * i) ns)) (take (f + 2 * u - f) (drop f buf))
pair_part w u f i buf ns e there h =
    let two : length (take 2 (drop (2 * i) ns)) ≡ 2 = length-take-le 2 (drop (2 * i) ns) (omega (arith, length-drop (2 * i) ns)) in
    let some : f + 2 * u - f ≤ length (drop f buf) = omega (arith, length-drop f buf) in
    let room : length (take (f + 2 * u - f) (drop f buf)) ≡ 2 * w = length-take-le (f + 2 * u - f) (drop f buf) some ∙ omega (arith, e) in
    pair_fits w (take (f + 2 * u - f) (drop f buf)) (take 2 (drop (2 * i) ns)) room two

pub pair_there : (w u at i n room : ℕ) → u ≡ w → at + w * n ≤ room → i < n / 2 → at + 2 * u * i + 2 * u ≤ room
pair_there w u at i n room e h l =
    let k : w * (2 * (i + 1)) ≤ w * n = mul-le-mul_left w (omega arith) in
    rw e (omega arith)

-- a part that is written over whole
pub part_set : (s p xs : List ℕ) (from to : ℕ) → to ≡ from + length xs → to ≤ length s → p ≡ xs
    → take from s ++ (p ++ drop (to - from) (drop from s)) ≡ sets s from xs
part_set s p xs from to e room is =
    let n : from + (to - from) ≡ from + length xs = omega arith in
    ap (λ (x : List ℕ). take from s ++ (x ++ drop (to - from) (drop from s))) is
    ∙ ap (λ (d : List ℕ). take from s ++ (xs ++ d)) (drop-drop (to - from) from s ∙ ap (λ (k : ℕ). drop k s) n)
    ∙ sym (append_assoc (take from s) xs (drop (from + length xs) s))
    ∙ sym (sets-eq xs s from (omega arith))

-- a turn of the loop over the pairs, and its end: what is left to do
pub pairs_turn : (w pair at i : ℕ) (l m ns : List ℕ) → pair ≡ 2 * w → 2 * i + 2 ≤ length ns → m ≡ sets l (at + pair * i) (numbers_bytes w (take 2 (drop (2 * i) ns)))
    → sets m (at + pair * (i + 1)) (numbers_bytes w (drop (2 * (i + 1)) ns)) ≡ sets l (at + pair * i) (numbers_bytes w (drop (2 * i) ns))
pairs_turn w pair at i l m ns e h p =
    let X = take 2 (drop (2 * i) ns) in
    let Y = drop (2 * (i + 1)) ns in
    let behind : drop 2 (drop (2 * i) ns) ≡ Y = drop-drop 2 (2 * i) ns ∙ ap (λ (n : ℕ). drop n ns) (omega arith) in
    let all : drop (2 * i) ns ≡ X ++ Y = sym (take-append-drop 2 (drop (2 * i) ns)) ∙ ap (λ (t : List ℕ). X ++ t) behind in
    let next : at + pair * (i + 1) ≡ at + pair * i + length (numbers_bytes w X) = omega (arith, pair_length w i ns h, e) in
    ap₂ (λ (b : List ℕ) (n : ℕ). sets b n (numbers_bytes w Y)) p next
    ∙ sym (sets_append (numbers_bytes w X) (numbers_bytes w Y) l (at + pair * i))
    ∙ ap (sets l (at + pair * i)) (sym (numbers_append w X Y) ∙ ap (numbers_bytes w) (sym all))

pub pairs_done : (w n i : ℕ) (l m ns : List ℕ) → length ns ≤ 2 * i → sets l n (numbers_bytes w (drop (2 * i) ns)) ≡ m → l ≡ m
unfolding numbers_bytes
pairs_done w n i l m ns e h = rw (drop_of_length-le ns e) at h

-- ---- what stands in its place already

-- bytes that are stored in front leave those behind them in place
pub in_place : (xs s : List ℕ) (n : ℕ) → length xs + n ≤ length s → sets s 0 xs ≡ sets s 0 (xs ++ take n (drop (length xs) s))
in_place xs s n h =
    let D = drop (length xs) s in
    let T = take n D in
    let lD : length D ≡ length s - length xs = length-drop (length xs) s in
    let lT : length T ≡ n = length-take-le n D (omega arith) in
    let lX : length (xs ++ T) ≡ length xs + n = length-append xs T ∙ ap (λ (x : ℕ). length xs + x) lT in
    let left : sets s 0 xs ≡ xs ++ D = sets-eq xs s 0 (omega arith) ∙ ap (λ (j : ℕ). xs ++ drop j s) (zero-add (length xs)) in
    let right : sets s 0 (xs ++ T) ≡ (xs ++ T) ++ drop n D =
    sets-eq (xs ++ T) s 0 (omega arith)
    ∙ ap (λ (j : ℕ). (xs ++ T) ++ drop j s) (zero-add (length (xs ++ T)) ∙ lX)
    ∙ ap (λ (z : List ℕ). (xs ++ T) ++ z) (sym (drop-drop n (length xs) s)) in
    left ∙ sym (right ∙ append_assoc xs T (drop n D) ∙ ap (λ (z : List ℕ). xs ++ z) (take-append-drop n D))
