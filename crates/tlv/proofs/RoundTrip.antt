-- What is written reads back: one field between other bytes, one that takes all bytes, and fields one behind the other.
-- Assumes nothing.
use Prim.Native.Nat.{ℕ, ◌+◌, ◌-◌, ◌^◌, ◌≤◌, ◌<◌}
use mathlib.Core.Path.{◌≡◌, refl, sym, ap, ap₂, ◌∙◌}
use mathlib.Core.List.{List, [], ◌∷◌, ◌++◌, map, append_assoc, append-nil}
use native.Mathlib.Nat.{add_assoc}
use native.Mathlib.Omega.{arith}
use lib.ListN.{length, drop, take, length-append, length-drop}
use lib.Seq.{take_at, drop_at, take_all}
use Rattle.fields.specs.BigEndian.{be_bytes, number_at}
use Rattle.fields.proofs.BigEndian.{be_length, number_back}
use Rattle.tlv.specs.declared.Form.{Form}
use Rattle.tlv.specs.declared.Field.{Field}
use Rattle.std.specs.Prelude.{Ok}
use Rattle.tlv.specs.Form.{tag_bytes, length_bytes, head_bytes, head_of, field_bytes, fields_bytes}
use Rattle.tlv.specs.Reading.{tag_at, length_at, stop_at, field_at, field_in, value_of, shown}
use Rattle.tlv.specs.Walking.{shown_from, reach}
use Rattle.tlv.specs.RoundTrip.{placed, ReadsBack, FieldReadsBack, OnlyReadsBack, OnlyIsAll, AllFit, FieldsReadBack}
use Rattle.tlv.proofs.Reading.{head_some, within, field_whole, is_field, the_only, is_only}
use Rattle.tlv.proofs.Walking.{of_first, of_none, reach_on, reach_here}
use Rattle.tlv.proofs.Writing.{field_length, head_length}
use Rattle.tlv.proofs.Shown.{field_is, reach_uncut}

-- ---- one field

module _ (form : Form) (pre post : List ℕ) (tag : ℕ) (value : List ℕ) (at : ℕ) (e : length pre ≡ at) (ft : tag < 256 ^ tag_bytes form) (fs : length value < 256 ^ length_bytes form) where
  abbrev A : List ℕ
  A = pre ++ (field_bytes form tag value ++ post)

  area_length : length A ≡ at + (head_bytes form + length value) + length post
  area_length = simp (length-append, field_length) (omega arith)

  tag_back : tag_at form A at ≡ tag
  unfolding tag_at field_bytes head_of
  tag_back =
      let T = be_bytes (tag_bytes form) tag in
      let W = be_bytes (length_bytes form) (length value) in
      let p : pre ++ (((T ++ W) ++ value) ++ post) ≡ pre ++ (T ++ (W ++ (value ++ post))) = simp append_assoc in
      ap (λ (x : List ℕ). number_at x at (tag_bytes form)) p ∙ number_back pre (W ++ (value ++ post)) at (tag_bytes form) tag e ft

  length_back : length_at form A at ≡ length value
  unfolding length_at field_bytes head_of
  length_back =
      let T = be_bytes (tag_bytes form) tag in
      let W = be_bytes (length_bytes form) (length value) in
      let p : pre ++ (((T ++ W) ++ value) ++ post) ≡ (pre ++ T) ++ (W ++ (value ++ post)) = simp append_assoc in
      let l : length (pre ++ T) ≡ at + tag_bytes form = length-append pre T ∙ ap₂ (λ (x y : ℕ). x + y) e (be_length (tag_bytes form) tag) in
      ap (λ (x : List ℕ). number_at x (at + tag_bytes form) (length_bytes form)) p
      ∙ number_back (pre ++ T) (value ++ post) (at + tag_bytes form) (length_bytes form) (length value) l fs

  stop_back : stop_at form A at ≡ at + head_bytes form + length value
  stop_back = ap (λ (n : ℕ). at + head_bytes form + n) length_back

  stops_in : stop_at form A at ≤ length A
  stops_in = omega (arith, stop_back, area_length)

  abbrev F : Field
  F = record { tag = tag; start = at + head_bytes form; stop = at + head_bytes form + length value }

  field_back : field_at form A at ≡ F
  field_back = λ i. record { tag = tag_back i; start = at + head_bytes form; stop = stop_back i }

  value_back : value_of F A ≡ value
  unfolding field_bytes
  value_back =
      let H = head_of form tag (length value) in
      let p : pre ++ ((H ++ value) ++ post) ≡ (pre ++ H) ++ (value ++ post) = simp append_assoc in
      let l : length (pre ++ H) ≡ at + head_bytes form = length-append pre H ∙ ap₂ (λ (x y : ℕ). x + y) e (head_length form tag (length value)) in
      let n : at + head_bytes form + length value - (at + head_bytes form) ≡ length value = omega arith in
      let k : at + head_bytes form + length value ≤ length A = omega (arith, area_length) in
      sym (within F A (omega arith) k)
      ∙ ap₂ (λ (m : ℕ) (x : List ℕ). take m (drop (at + head_bytes form) x)) n p
      ∙ ap (take (length value)) (drop_at (pre ++ H) (value ++ post) (at + head_bytes form) l)
      ∙ take_at value post (length value) refl

  back : ReadsBack form A at (tag, value)
  back = record { read = sym (field_whole form A at stops_in) ∙ ap Ok field_back; value = value_back }

  shown_back : shown A (field_at form A at) ≡ (tag, value)
  shown_back = ap (shown A) field_back ∙ ap (λ (v : List ℕ). (tag, v)) value_back

pub field_reads_back : FieldReadsBack
field_reads_back form pre post p f = back form pre post p.0 p.1 (length pre) refl f.tag f.size

pub only_reads_back : OnlyReadsBack
only_reads_back form pre p f =
    let X = field_bytes form p.0 p.1 in
    let r : field_in form (pre ++ X) (length pre) ≡ Ok (placed form (length pre) p) =
    ap (λ (x : List ℕ). field_in form (pre ++ x) (length pre)) (sym (append-nil X)) ∙ (field_reads_back form pre [] p f).read in
    let l : length (pre ++ X) ≡ length pre + (head_bytes form + length p.1) = length-append pre X
    ∙ ap (λ (n : ℕ). length pre + n) (field_length form p.0 p.1) in
    sym (the_only form p.0 (pre ++ X) (length pre) (placed form (length pre) p) (sym r) refl (omega arith))

-- a number that was written as a value comes back
pub number_reads_back : (form : Form) (tag w v : ℕ) → v < 256 ^ w → number_at (field_bytes form tag (be_bytes w v)) (head_bytes form) w ≡ v
unfolding field_bytes
number_reads_back form tag w v h =
    let X = be_bytes w v in
    let head = head_of form tag (length X) in
    ap (λ (x : List ℕ). number_at (head ++ x) (head_bytes form) w) (sym (append-nil X))
    ∙ number_back head [] (head_bytes form) w v (head_length form tag (length X)) h

pub only_is_all : OnlyIsAll
only_is_all form tag area at f b e =
    let o = is_only form tag area at f e in
    let w = is_field form area at f o.read in
    let t : stop_at form area at ≡ length area = ap (λ (x : Field). x.stop) w.1 ∙ o.stop in
    sym (take_all (stop_at form area at - at) (drop at area) (omega (arith, length-drop at area)))
    ∙ sym (field_is form area at b w.0)
    ∙ ap (λ (x : Field). field_bytes form x.tag (value_of x area)) w.1
    ∙ ap (λ (n : ℕ). field_bytes form n (value_of f area)) o.type

-- ---- a list of fields

fields_back : (form : Form) (ps : List (ℕ × List ℕ)) (pre : List ℕ) (at : ℕ) → length pre ≡ at → AllFit form ps
    → (shown_from form (pre ++ fields_bytes form ps) at ≡ ps) × (reach form (pre ++ fields_bytes form ps) at ≡ length (pre ++ fields_bytes form ps))
unfolding fields_bytes
fields_back form [] pre at e f =
    let A = pre ++ [] in
    let z : length A ≡ at = ap length (append-nil pre) ∙ e in
    let l : length A < stop_at form A at = omega (arith, head_some form) in
    (ap (map (shown A)) (of_none form A at l), sym (reach_here form A at l) ∙ sym z)
fields_back form (p ∷ ps) pre at e f =
    let X = field_bytes form p.0 p.1 in
    let R = fields_bytes form ps in
    let A = pre ++ (X ++ R) in
    let t = f.0.tag in
    let u = f.0.size in
    let l : stop_at form A at ≤ length A = stops_in form pre R p.0 p.1 at e t u in
    let st : stop_at form A at ≡ at + head_bytes form + length p.1 = stop_back form pre R p.0 p.1 at e t u in
    let pq : (pre ++ X) ++ R ≡ A = append_assoc pre X R in
    let lx : length (pre ++ X) ≡ stop_at form A at = length-append pre X
    ∙ ap₂ (λ (x y : ℕ). x + y) e (field_length form p.0 p.1)
    ∙ sym (st ∙ add_assoc at (head_bytes form) (length p.1)) in
    let more = fields_back form ps (pre ++ X) (stop_at form A at) lx f.1 in
    let m₀ : shown_from form A (stop_at form A at) ≡ ps = ap (λ (x : List ℕ). shown_from form x (stop_at form A at)) (sym pq) ∙ more.0 in
    let m₁ : reach form A (stop_at form A at) ≡ length A = ap (λ (x : List ℕ). reach form x (stop_at form A at)) (sym pq) ∙ more.1 ∙ ap length pq in (
      ap (map (shown A)) (of_first form A at l) ∙ ap₂ (λ (a : ℕ × List ℕ) (b : List (ℕ × List ℕ)). a ∷ b) (shown_back form pre R p.0 p.1 at e t u) m₀,
      sym (reach_on form A at l) ∙ m₁,
    )

pub fields_read_back : FieldsReadBack
fields_read_back form pre ps f =
    let b = fields_back form ps pre (length pre) refl f in
    record { shows = b.0; uncut = reach_uncut form (pre ++ fields_bytes form ps) (length pre) (omega (arith, b.1)) }
