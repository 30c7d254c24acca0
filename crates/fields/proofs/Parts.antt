-- A part of a slice that has just the bytes of what is read or written there: a number, once over the width, and bytes that are copied to it.
-- Assumes nothing.
use Prim.Native.Nat.{ℕ, suc, ◌+◌, ◌-◌, ◌^◌, ◌≤◌, ◌<◌}
use mathlib.Core.Path.{◌≡◌, sym, ap, ◌∙◌}
use mathlib.Core.List.{List, [], ◌++◌, append_assoc}
use native.Mathlib.Nat.{add-zero}
use native.Mathlib.Omega.{arith}
use native.Mathlib.Numerals.{add-one}
use lib.ListN.{length, get_or, take, drop, set, length-take, length-drop, drop_of_length-le}
use lib.Seq.{drop-drop, drop-cons, sets, sets-eq}
use Rattle.fields.specs.BigEndian.{be_bytes, number_at, be_at, be_put}
use Rattle.fields.proofs.BigEndian.{be_length, at_number, number_take, number_behind, put_sets}

part_length : (s : List ℕ) (at w : ℕ) → at + w ≤ length s → length (take w (drop at s)) ≡ w
part_length s at w k = omega (arith, length-take w (drop at s), length-drop at s)

-- a number of a part is the same in the whole
pub number_part : (s : List ℕ) (from k at w : ℕ) → at + w ≤ k → number_at (take k (drop from s)) at w ≡ number_at s (from + at) w
number_part s from k at w h = number_take (drop from s) k at w h ∙ number_behind s from at w

pub part_read : (s : List ℕ) (at w e : ℕ) → e ≡ at + w → w ≤ 8 → at + w ≤ length s → be_at (take (e - at) (drop at s)) 0 w ≡ number_at s at w
part_read s at w e p h k =
    let n : e - at ≡ w = omega arith in
    let l : 0 + w ≤ length (take w (drop at s)) = omega (arith, part_length s at w k) in
    rw n (at_number (take w (drop at s)) 0 w h l ∙ number_part s at w 0 w (omega arith) ∙ ap (λ (m : ℕ). number_at s m w) (add-zero at))

pub part_put : (s p : List ℕ) (at w e v : ℕ) → e ≡ at + w → w ≤ 8 → e ≤ length s → v < 256 ^ w → p ≡ be_put (take (e - at) (drop at s)) 0 w v
    → take at s ++ (p ++ drop (e - at) (drop at s)) ≡ be_put s at w v
part_put s p at w e v pe h k f q =
    let n : e - at ≡ w = omega arith in
    let X = take w (drop at s) in
    let B = be_bytes w v in
    let l : length X ≡ w = part_length s at w (omega arith) in
    let b : length B ≡ w = be_length w v in
    let none : drop (0 + length B) X ≡ [] = drop_of_length-le X {i = 0 + length B} (omega arith) in
    let p' : p ≡ B ++ [] = (rw n at q) ∙ put_sets X 0 w v h (omega arith) f ∙ sets-eq B X 0 (omega arith) ∙ ap (λ (d : List ℕ). B ++ d) none in
    let whole : be_put s at w v ≡ take at s ++ (B ++ drop (at + w) s) =
    put_sets s at w v h (omega arith) f
    ∙ sets-eq B s at (omega arith)
    ∙ ap (λ (m : ℕ). (take at s ++ B) ++ drop (at + m) s) b
    ∙ append_assoc (take at s) B (drop (at + w) s) in
    ap (λ (x : List ℕ). take at s ++ (x ++ drop (e - at) (drop at s))) p'
    ∙ ap (λ (x : List ℕ). take at s ++ x) (append_assoc B [] (drop (e - at) (drop at s)))
    ∙ ap (λ (m : ℕ). take at s ++ (B ++ drop m (drop at s))) n
    ∙ ap (λ (x : List ℕ). take at s ++ (B ++ x)) (drop-drop w at s)
    ∙ sym whole

-- bytes that are copied one by one: those that are left, stored, give what is to be stored
pub byte_turn : (w w₀ bytes : List ℕ) (at i : ℕ) → i < length bytes → sets w (at + i) (drop i bytes) ≡ sets w₀ at bytes
    → sets (set w (at + i) (get_or bytes i 0)) (at + (i + 1)) (drop (i + 1) bytes) ≡ sets w₀ at bytes
byte_turn w w₀ bytes at i h e =
    let p : at + (i + 1) ≡ suc (at + i) = omega arith in
    rw (p, add-one i) ((ap (sets w (at + i)) (sym (drop-cons bytes i 0 h))) ∙ e)

pub bytes_done : (w w₀ bytes : List ℕ) (i at : ℕ) → length bytes ≤ i → sets w (at + i) (drop i bytes) ≡ sets w₀ at bytes → w ≡ sets w₀ at bytes
bytes_done w w₀ bytes i at h e = ap (sets w (at + i)) (sym (drop_of_length-le bytes {i = i} h)) ∙ e
