-- `nak::write::put_numbers` meets its contract: the pair at i is stored, and those behind it are left.
use Rattle.std.proofs.Common.{arith, ap, sym, ◌∙◌, ℕ, ◌≡◌, ◌+◌, ◌-◌, ◌*◌, ◌≤◌, List, take, drop, length}
use Rattle.std.proofs.lemmas.List.Edits.{sets}
use Rattle.header.specs.Size.{size_width}
use Rattle.nak.specs.Writing.{numbers_bytes, pair_put}
use Rattle.nak.proofs.Offsets.{numbers_count, numbers_part}
use Rattle.nak.proofs.Storing.{pair_part, part_set, pair_length, pair_there, pairs_turn, pairs_done}
use Rattle.nak.proofs.write.put_numbers.Goals as goal

pub loop-i-init : goal.loop-i-init
loop-i-init g c =
    let t = g.T.Offset in
    let start : c.args.at + 2 * c.size_width-pair.result * 0 ≡ c.args.at = omega arith in
    ap (λ (n : ℕ). sets c.args.buf.now n (numbers_bytes (size_width t.file) (t.numbers c.args.numbers.now))) start

pub loop-i-preserved : goal.loop-i-preserved
loop-i-preserved g c =
    let t = g.T.Offset in
    let w = size_width t.file in
    let ns = c.args.numbers.now in
    let i = c.loop-i.i in
    let width = c.size_width-pair.ensures.0 ∙ ap size_width c.file_flag.ensures in
    let count = numbers_count t.number t.numbers t.each ns in
    let fits : 2 * i + 2 ≤ length (t.numbers ns) = omega (arith, count) in
    let X = take 2 (drop (2 * i) (t.numbers ns)) in
    let two : 2 * i + 2 - 2 * i ≡ 2 = omega arith in
    let u = c.size_width-pair.result in
    let from = c.args.at + 2 * u * i in
    let there = pair_there w _ c.args.at i _ _ width c.requires.0 c.loop-i-test.true in
    let room : from + 2 * u ≤ length c.loop-i.buf = omega (arith, there, c.loop-i.auto.buf) in
    let own = ap (λ (n : ℕ). t.numbers (take n (drop (2 * i) ns))) two ∙ numbers_part t.number t.numbers t.each 2 (2 * i) ns in
    let put = ap (λ (x : List ℕ). pair_put w x (take (from + 2 * u - from) (drop from c.loop-i.buf))) own in
    let stored = c.put_pair.ensures ∙ put ∙ sym (pair_part w u from i c.loop-i.buf (t.numbers ns) width room fits) in
    let set = part_set c.loop-i.buf _ (numbers_bytes w X) _ _ (omega (arith, width, pair_length w i (t.numbers ns) fits)) (omega (arith, there)) stored in
    pairs_turn w _ c.args.at i _ _ (t.numbers ns) (ap (λ (n : ℕ). 2 * n) width) fits set ∙ c.loop-i.invariant

pub returns : goal.returns
returns g c =
    let t = g.T.Offset in
    (pairs_done _ _ c.loop-i.i _ _ _ (omega (arith, numbers_count t.number t.numbers t.each c.args.numbers.now, c.requires.1)) c.loop-i.invariant, c.loop-i.auto.buf)
