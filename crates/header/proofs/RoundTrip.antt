-- DEMAND 2 for headers: the bytes of a sound record, followed by anything, read as that record. Once over the widths.
-- Assumes nothing.
use Prim.Native.Nat.{ℕ, ◌+◌, ◌-◌, ◌/◌, ◌%◌, ◌^◌, ◌≤◌, ◌<◌}
use mathlib.Core.Path.{◌≡◌, sym, ap, ap₂, ◌∙◌}
use mathlib.Core.Bool.{true}
use mathlib.Core.List.{List, [], ◌++◌, append_assoc}
use native.Mathlib.Omega.{arith}
use lib.Dec.{eqb, lit<}
use lib.ListN.{length, get_or, take, length-append}
use lib.Seq.{get_or-take}
use Rattle.fields.specs.Width.{is_width}
use Rattle.fields.specs.BigEndian.{be_bytes, number_at}
use Rattle.fields.specs.Answer.{accepted}
use Rattle.fields.specs.Staged.{run}
use Rattle.fields.proofs.BigEndian.{be_length, then_length, number_back, number_take, byte_back}
use Rattle.header.specs.declared.PduHeader.{PduHeader}
use Rattle.header.specs.Flags.{pdu_type_if, pdu_type_laws, direction_if, direction_laws, mode_if, mode_laws, crc_if, crc_laws, file_if, file_laws, control_if, control_laws, metadata_if, metadata_laws}
use Rattle.header.specs.Header.{entity_width, sequence_width, header_length, first_byte, fourth_byte, header_bytes}
use Rattle.header.specs.Judging.{Sound}
use Rattle.header.specs.Reading.{is_set, entity_width_in, sequence_width_in, header_length_in, header_in, reading_header}
use Rattle.header.proofs.FlagBits as bits
use Rattle.header.proofs.Reading.{whole}
use Rattle.header.proofs.Writing.{header_length_lem}

module _ (h : PduHeader) (k : Sound h) (small : h.length < 2 ^ 16) where
  abbrev e : ℕ
  e = entity_width h

  abbrev q : ℕ
  q = sequence_width h

  -- ---- bytes 0 and 3, of the header's bytes with anything behind them

  first_at : (r : List ℕ) → get_or (header_bytes h ++ r) 0 0 ≡ first_byte h
  unfolding header_bytes first_byte
  first_at r =
      let tail = be_bytes 2 h.length ++
      (be_bytes 1 (fourth_byte h) ++ (be_bytes e h.source.0 ++ (be_bytes q h.sequence.0.value ++ (be_bytes e h.destination.0 ++ r)))) in
      let s : header_bytes h ++ r ≡ be_bytes 1 (first_byte h) ++ tail = simp append_assoc in
      ap (λ (x : List ℕ). get_or x 0 0) s
      ∙ byte_back [] tail 0 (first_byte h) (λ _. 0)
      (bits.first_lt _ _ _ _ _ (pdu_type_laws.small h.kind) (direction_laws.small h.direction) (mode_laws.small h.mode) (crc_laws.small h.crc)
      (file_laws.small h.file))

  fourth_at : (r : List ℕ) → get_or (header_bytes h ++ r) 3 0 ≡ fourth_byte h
  unfolding header_bytes fourth_byte
  fourth_at r =
      let tail = be_bytes e h.source.0 ++ (be_bytes q h.sequence.0.value ++ (be_bytes e h.destination.0 ++ r)) in
      let pre = be_bytes 1 (first_byte h) ++ be_bytes 2 h.length in
      let s : header_bytes h ++ r ≡ pre ++ (be_bytes 1 (fourth_byte h) ++ tail) = simp append_assoc in
      let l : length pre ≡ 3 = simp (length-append, be_length) in
      ap (λ (x : List ℕ). get_or x 3 0) s
      ∙ byte_back pre tail 3 (fourth_byte h) l
      (bits.fourth_lt _ (e - 1) _ (q - 1) (control_laws.small h.control) (omega arith) (metadata_laws.small h.metadata) (omega arith))

  version_is : first_byte h / 32 % 8 ≡ 1
  unfolding first_byte
  version_is =
      bits.first_version _ _ _ _ _ (pdu_type_laws.small h.kind) (direction_laws.small h.direction) (mode_laws.small h.mode) (crc_laws.small h.crc)
      (file_laws.small h.file)

  entity_is : fourth_byte h / 16 % 8 + 1 ≡ e
  unfolding fourth_byte
  entity_is =
      omega
      (arith, bits.fourth_entity _ (e - 1) _ (q - 1) (control_laws.small h.control) (omega arith) (metadata_laws.small h.metadata) (omega arith))

  sequence_is : fourth_byte h % 8 + 1 ≡ q
  unfolding fourth_byte
  sequence_is =
      omega
      (arith, bits.fourth_sequence _ (e - 1) _ (q - 1) (control_laws.small h.control) (omega arith) (metadata_laws.small h.metadata) (omega arith))

  length_is : (s : List ℕ) → e ≡ entity_width_in s → q ≡ sequence_width_in s → header_length h ≡ header_length_in s
  unfolding header_length
  length_is s p r = omega arith

  four_fixed : 4 ≤ header_length h
  unfolding header_length
  four_fixed = omega arith

  -- ---- a list that has the header's bytes 0 and 3 and its numbers holds the header

  module _ (a : List ℕ) (a₀ : get_or a 0 0 ≡ first_byte h) (a₃ : get_or a 3 0 ≡ fourth_byte h) (length_at : number_at a 1 2 ≡ h.length)
      (source-at : number_at a 4 e ≡ h.source.0) (sequence-at : number_at a (4 + e) q ≡ h.sequence.0.value) (destination-at : number_at a (4 + e + q) e ≡ h.destination.0) where
    entity_in : entity_width_in a ≡ e
    entity_in = ap (λ (b : ℕ). b / 16 % 8 + 1) a₃ ∙ entity_is

    sequence_in : sequence_width_in a ≡ q
    sequence_in = ap (λ (b : ℕ). b % 8 + 1) a₃ ∙ sequence_is

    set_first : (v x : ℕ) → first_byte h / v % 2 ≡ x → is_set (get_or a 0 0) v ≡ eqb x 1
    unfolding is_set
    set_first v x p = ap (λ (b : ℕ). eqb (b / v % 2) 1) a₀ ∙ ap (λ (b : ℕ). eqb b 1) p

    set_fourth : (v x : ℕ) → fourth_byte h / v % 2 ≡ x → is_set (get_or a 3 0) v ≡ eqb x 1
    unfolding is_set
    set_fourth v x p = ap (λ (b : ℕ). eqb (b / v % 2) 1) a₃ ∙ ap (λ (b : ℕ). eqb b 1) p

    header_in_lem : header_in a ≡ h
    unfolding header_in first_byte fourth_byte
    header_in_lem =
        let t = pdu_type_laws.small h.kind in
        let d = direction_laws.small h.direction in
        let m = mode_laws.small h.mode in
        let c = crc_laws.small h.crc in
        let f = file_laws.small h.file in
        let g = control_laws.small h.control in
        let s = metadata_laws.small h.metadata in
        let le : e - 1 < 8 = omega arith in
        let lq : q - 1 < 8 = omega arith in
        λ i.
        record {
          kind = (ap pdu_type_if (set_first 16 _ (bits.first_16 _ _ _ _ _ t d m c f)) ∙ pdu_type_laws.back h.kind) i;
          direction = (ap direction_if (set_first 8 _ (bits.first_8 _ _ _ _ _ t d m c f)) ∙ direction_laws.back h.direction) i;
          mode = (ap mode_if (set_first 4 _ (bits.first_4 _ _ _ _ _ t d m c f)) ∙ mode_laws.back h.mode) i;
          crc = (ap crc_if (set_first 2 _ (bits.first_2 _ _ _ _ _ t d m c f)) ∙ crc_laws.back h.crc) i;
          file = (ap file_if (set_first 1 _ (bits.first_1 _ _ _ _ _ t d m c f)) ∙ file_laws.back h.file) i;
          length = length_at i;
          control = (ap control_if (set_fourth 128 _ (bits.fourth_128 _ (e - 1) _ (q - 1) g le s lq)) ∙ control_laws.back h.control) i;
          width = entity_in i;
          metadata = (ap metadata_if (set_fourth 8 _ (bits.fourth_8 _ (e - 1) _ (q - 1) g le s lq)) ∙ metadata_laws.back h.metadata) i;
          source = record { 0 = (ap (λ (w : ℕ). number_at a 4 w) entity_in ∙ source-at) i };
          sequence = record { 0 = record { width = sequence_in i; value = (ap₂ (λ (x y : ℕ). number_at a (4 + x) y) entity_in sequence_in ∙ sequence-at) i } };
          destination = record { 0 = (ap₂ (λ (x y : ℕ). number_at a (4 + x + y) x) entity_in sequence_in ∙ destination-at) i };
        }

  -- ---- the header's bytes with r behind them, and the parts of them in front of each number

  module _ (r : List ℕ) where
    abbrev x₁ : List ℕ
    x₁ = be_bytes 1 (first_byte h)

    abbrev x₂ : List ℕ
    x₂ = x₁ ++ be_bytes 2 h.length

    abbrev x₃ : List ℕ
    x₃ = x₂ ++ be_bytes 1 (fourth_byte h)

    abbrev x₄ : List ℕ
    x₄ = x₃ ++ be_bytes e h.source.0

    abbrev x₅ : List ℕ
    x₅ = x₄ ++ be_bytes q h.sequence.0.value

    length₁ : length x₁ ≡ 1
    length₁ = be_length 1 (first_byte h)

    length₃ : length x₃ ≡ 4
    length₃ = then_length x₂ 3 1 (fourth_byte h) (then_length x₁ 1 2 h.length length₁)

    length₄ : length x₄ ≡ 4 + e
    length₄ = then_length x₃ 4 e h.source.0 length₃

    length₅ : length x₅ ≡ 4 + e + q
    length₅ = then_length x₄ (4 + e) q h.sequence.0.value length₄

    length_back : number_at (header_bytes h ++ r) 1 2 ≡ h.length
    unfolding header_bytes
    length_back = simp append_assoc (number_back x₁ _ 1 2 h.length length₁ small)

    source_back : number_at (header_bytes h ++ r) 4 e ≡ h.source.0
    unfolding header_bytes
    source_back =
        let t : header_bytes h ++ r ≡ x₃ ++ (be_bytes e h.source.0 ++ (be_bytes q h.sequence.0.value ++ (be_bytes e h.destination.0 ++ r))) = simp append_assoc in
        rw t (number_back x₃ _ 4 e h.source.0 length₃ k.source_fits)

    sequence_back : number_at (header_bytes h ++ r) (4 + e) q ≡ h.sequence.0.value
    unfolding header_bytes
    sequence_back =
        let t : header_bytes h ++ r ≡ x₄ ++ (be_bytes q h.sequence.0.value ++ (be_bytes e h.destination.0 ++ r)) = simp append_assoc in
        rw t (number_back x₄ _ (4 + e) q h.sequence.0.value length₄ k.sequence_fits)

    destination_back : number_at (header_bytes h ++ r) (4 + e + q) e ≡ h.destination.0
    unfolding header_bytes
    destination_back =
        let t : header_bytes h ++ r ≡ x₅ ++ (be_bytes e h.destination.0 ++ r) = simp append_assoc in
        rw t (number_back x₅ r (4 + e + q) e h.destination.0 length₅ k.destination_fits)

    first_four : (i : ℕ) → i < 4 → get_or (take 4 (header_bytes h ++ r)) i 0 ≡ get_or (header_bytes h ++ r) i 0
    first_four i l = get_or-take 4 (header_bytes h ++ r) i 0 l

    long : header_length h ≤ length (header_bytes h ++ r)
    long = omega (arith, length-append (header_bytes h) r, header_length_lem h)

    -- the first h bytes are the header
    header_first : header_in (take (header_length h) (header_bytes h ++ r)) ≡ h
    unfolding header_length
    header_first =
        let m = header_bytes h ++ r in
        let n = header_length h in
        header_in_lem (take n m) (get_or-take n m 0 0 (omega arith) ∙ first_at r) (get_or-take n m 3 0 (omega arith) ∙ fourth_at r)
        (number_take m n 1 2 (omega arith) ∙ length_back)
        (number_take m n 4 e (omega arith) ∙ source_back)
        (number_take m n (4 + e) q (omega arith) ∙ sequence_back)
        (number_take m n (4 + e + q) e (omega arith) ∙ destination_back)

    pub reads_back : is_width e ≡ true → is_width q ≡ true → run reading_header (header_bytes h ++ r) ≡ accepted h
    reads_back we wq =
        let m = header_bytes h ++ r in
        let f : get_or (take 4 m) 0 0 ≡ first_byte h = first_four 0 (lit< tt) ∙ first_at r in
        let g : get_or (take 4 m) 3 0 ≡ fourth_byte h = first_four 3 (lit< tt) ∙ fourth_at r in
        let pe : e ≡ entity_width_in (take 4 m) = sym (ap (λ (b : ℕ). b / 16 % 8 + 1) g ∙ entity_is) in
        let pq : q ≡ sequence_width_in (take 4 m) = sym (ap (λ (b : ℕ). b % 8 + 1) g ∙ sequence_is) in
        let ph : header_length h ≡ header_length_in (take 4 m) = length_is (take 4 m) pe pq in
        let l : 4 ≤ header_length h = four_fixed in
        sym (whole m (omega (arith, long)) (ap (λ (b : ℕ). b / 32 % 8) f ∙ version_is) e q pe pq (rw we, (rw wq, tt)) (header_length h) ph long)
        ∙ ap accepted header_first
