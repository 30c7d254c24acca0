-- Names and options as parts of the bytes that a PDU was read from: a part of its data is a part of these, and the options that are walked there are the ones that the reader went over.
-- Assumes nothing.
use Prim.Native.Nat.{ℕ, ◌+◌, ◌-◌, ◌≤◌, ◌<◌}
use mathlib.Core.Path.{◌≡◌, refl, sym, ap, ap₂, ◌∙◌, subst}
use mathlib.Core.Bool.{true, false, not}
use mathlib.Core.Logic.{⊎_elim}
use mathlib.Core.List.{List}
use native.Mathlib.Omega.{arith}
use lib.ListN.{length, take, drop, length-drop}
use lib.Seq.{drop-drop, take_all}
use Rattle.std.specs.Prelude.{Result, Ok, Err}
use Rattle.fields.specs.BigEndian.{Bytes}
use Rattle.fields.specs.Answer.{accepted}
use Rattle.fields.specs.Staged.{run}
use Rattle.fields.proofs.BigEndian.{part_take, bytes_take, bytes_drop}
use Rattle.fields.proofs.Judging.{Passed, passed}
use Rattle.fields.proofs.Staged.{both, run_tests}
use Rattle.header.specs.declared.PduHeader.{PduHeader}
use Rattle.header.specs.Header.{header_length, data_end}
use Rattle.header.specs.Directive.{reading_directive}
use Rattle.header.proofs.Directives.{OwnRead, next}
use Rattle.header.proofs.OwnData.{data_in}
use Rattle.tlv.specs.declared.Form.TheVariants.{Lv, Tlv}
use Rattle.tlv.specs.declared.Cut.{Cut}
use Rattle.tlv.specs.Reading.{stop_at, is_whole}
use Rattle.tlv.specs.Walking.{first_cut}
use Rattle.tlv.specs.Parts.{further_on}
use Rattle.tlv.proofs.Reading.{within, whole?, not_whole}
use Rattle.tlv.proofs.Parts.{part_shows}
use Rattle.tlv.proofs.Shown.{uncut_is_walked}
use Rattle.metadata.specs.declared.Part.{Part}
use Rattle.metadata.specs.declared.Metadata.{Metadata}
use Rattle.metadata.specs.Metadata.{names_at, names_in, metadata_in, part_of}
use Rattle.metadata.specs.Reading.{option_cut, name_tests, read_tests, reading_metadata}
use Rattle.metadata.specs.Demands.{OptionsAreWalked}

-- the bytes c that begin at `from` and lie in s: a part of c, counted from there, is a part of s
pub part_in : (s c : List ℕ) (from n a b : ℕ) → take n (drop from s) ≡ c → from + n ≤ length s → a ≤ b → b ≤ n
    → part_of (record { start = from + a; stop = from + b }) s ≡ take (b - a) (drop a c)
unfolding part_of
part_in s c from n a b e l ab bn =
    let size : from + b - (from + a) ≡ b - a = omega arith in
    sym (within (record { tag = 0; start = from + a; stop = from + b }) s (omega arith) (omega arith))
    ∙ ap₂ (λ (i : ℕ) (x : List ℕ). take i x) size (sym (drop-drop a from s))
    ∙ sym (part_take (drop from s) n a (b - a) (omega arith))
    ∙ ap (λ (x : List ℕ). take (b - a) (drop a x)) e

-- ---- what an accepted PDU is

-- a name that was taken ends within the data
whole_in : (c : List ℕ) (at : ℕ) → not (is_whole Lv c at) ≡ false → stop_at Lv c at ≤ length c
whole_in c at e = ⊎_elim (λ w. w) (λ l. contradicted l) (whole? Lv c at)
  where
    contradicted : length c < stop_at Lv c at → stop_at Lv c at ≤ length c
    contradicted l =
        let d : true ≡ false = ap not (sym (not_whole Lv c at l)) ∙ e in
        let z : ◌≡◌ {A = ℕ} 0 1 = cc in
        absurd (omega arith)

none_cut : (from : ℕ) (k : Result (Unit {0}) Cut) → (option_cut from k).holds ≡ false → k ≡ Ok tt
none_cut from (Err cut) e = absurd (cc)
none_cut from (Ok none) e = refl

nearer : (n : ℕ) (k : Result (Unit {0}) Cut) → further_on n k ≡ Ok tt → k ≡ Ok tt
nearer n (Err cut) e = absurd (cc)
nearer n (Ok none) e = refl

-- where the options begin
abbrev options_at : PduHeader → List ℕ → ℕ
options_at h c = stop_at Lv c (stop_at Lv c (names_at h.file))

record Accepted (s : List ℕ) (m : Metadata) : Type 0 where
  header : PduHeader
  content : List ℕ
  lies : OwnRead header s (data_end header) (header_length header)
  content_is : take (data_end header - header_length header) (drop (header_length header) s) ≡ content
  is : m ≡ metadata_in header content
  inside : options_at header content ≤ length content
  uncut : first_cut Tlv content (options_at header content) ≡ Ok tt

passed_says : (h : PduHeader) (c : List ℕ) → Passed (read_tests h c) → (options_at h c ≤ length c) × (first_cut Tlv c (options_at h c) ≡ Ok tt)
unfolding read_tests name_tests
passed_says h c p = (whole_in c _ p.1.1.1.0, none_cut (header_length h) _ p.1.1.1.1.0)

accepted_is : (s : List ℕ) (m : Metadata) → run reading_metadata s ≡ accepted m → Accepted s m
unfolding reading_metadata
accepted_is s m e =
    let b = both (reading_directive 7) (next 7 read_tests metadata_in) s m e in
    let h = b.mid.header in
    let c = b.mid.content in
    let k = passed (read_tests h c) m (metadata_in h c) (sym b.second ∙ run_tests (read_tests h c) (metadata_in h c) s) in
    let d = data_in 7 s b.mid b.first in
    let g = passed_says h c k.0 in
    record { header = h; content = c; lies = d.lies; content_is = d.is; is = k.1; inside = g.0; uncut = g.1 }

-- the area that it shows: the data behind the names
area_is : (s : List ℕ) (m : Metadata) (a : Accepted s m) → part_of m.options s ≡ drop (options_at a.header a.content) a.content
unfolding metadata_in names_in
area_is s m a =
    let h = header_length a.header in
    let E = data_end a.header in
    let c = a.content in
    let o = options_at a.header c in
    let size : h + length c ≡ E = ap (λ (x : List ℕ). h + length x) (sym a.content_is) ∙ a.lies.size in
    let opts : m.options ≡ record { start = h + o; stop = h + length c } = ap (λ (x : Metadata). x.options) a.is
    ∙ ap (λ (n : ℕ). record { start = h + o; stop = n }) (sym size) in
    let l : length c ≡ E - h = omega arith in
    ap (λ (x : Part). part_of x s) opts
    ∙ part_in s c h (length c) o (length c) (ap (λ (n : ℕ). take n (drop h s)) l ∙ a.content_is) (omega (arith, a.lies.inside)) a.inside (omega arith)
    ∙ take_all (length c - o) (drop o c) (omega (arith, length-drop o c))

area_uncut : (s : List ℕ) (m : Metadata) (a : Accepted s m) → first_cut Tlv (part_of m.options s) 0 ≡ Ok tt
area_uncut s m a =
    let c = a.content in
    let o = options_at a.header c in
    ap (λ (x : List ℕ). first_cut Tlv x 0) (area_is s m a) ∙ nearer o (first_cut Tlv (drop o c) 0) (sym (part_shows Tlv c o a.inside).cut ∙ a.uncut)

area_bytes : (s : List ℕ) (m : Metadata) (a : Accepted s m) → Bytes s → Bytes (part_of m.options s)
area_bytes s m a b =
    let h = header_length a.header in
    subst Bytes
    (ap (drop (options_at a.header a.content)) a.content_is ∙ sym (area_is s m a))
    (bytes_drop (options_at a.header a.content) _ (bytes_take (data_end a.header - h) _ (bytes_drop h s b)))

pub options_are_walked : OptionsAreWalked
options_are_walked s m rounds b e enough =
    let a = accepted_is s m e in
    uncut_is_walked Tlv (part_of m.options s) 0 rounds (area_bytes s m a b) (area_uncut s m a) enough
