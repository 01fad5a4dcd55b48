use Rattle.std.proofs.Common.{◌≡◌, ℕ, ◌-◌, List, [], ◌++◌, length, take, drop, refl, ap, ◌∙◌, append-nil, le_of_eq, arith}
use Rattle.std.proofs.lemmas.List.{drop_all, take_at}
use Rattle.checksum.specs.Crc.{crc}
use Rattle.journal.specs.declared.record.Record.{Record}
use Rattle.journal.specs.Bytes.{digits, summed, encoded, decoded, Fits}
use Rattle.journal.proofs.Codes.{two, four, eight, Front, written, length_summed, round_trip}
use Rattle.journal.proofs.record.Record.encode.Goals as goal

long : (c : goal.After-copy_from_slice-6) → length c.args.place.now ≡ 28
long c = omega arith

fit : (c : goal.After-copy_from_slice-6) → Fits c.args.self
fit c = record { sequence = omega arith; base = grind arith; address = grind arith; client = grind arith; expires = grind arith }

pub returns : goal.returns
unfolding summed
returns c =
    let r : Record = c.args.self in
    let d : List ℕ = c.args.place.now in
    let w0 : Front d 0 [] d = record { is = refl; long = refl } in
    let w1 = written d _ _ _ _ (digits 8 r.sequence) 0 8 w0 c.copy_from_slice.ensures.after (c.to_be_bytes.ensures ∙ eight r.sequence) refl in
    let w2 = written d _ _ _ _ (digits 2 r.base) 8 2 w1 c.copy_from_slice-2.ensures.after (c.to_be_bytes-2.ensures ∙ two r.base) refl in
    let w3 = written d _ _ _ _ (digits 2 r.lease.address) 10 2 w2 c.copy_from_slice-3.ensures.after (c.to_be_bytes-3.ensures ∙ two r.lease.address) refl in
    let w4 = written d _ _ _ _ (digits 4 r.lease.client) 12 4 w3 c.copy_from_slice-4.ensures.after (c.to_be_bytes-4.ensures ∙ four r.lease.client) refl in
    let w5 = written d _ _ _ _ (digits 8 r.lease.expires) 16 8 w4 c.copy_from_slice-5.ensures.after (c.to_be_bytes-5.ensures ∙ eight r.lease.expires) refl in
    let sum : c.crc32c-sum.result ≡ crc (summed r) =
    c.crc32c-sum.ensures.value ∙ ap (λ (bs : List ℕ). crc (take 24 bs)) w5.is ∙ ap crc (take_at (summed r) (drop 24 d) 24 (length_summed r)) in
    let w6 = written d _ _ _ _ (digits 4 (crc (summed r))) 24 4 w5 c.copy_from_slice-6.ensures.after (c.to_be_bytes-6.ensures ∙ four c.crc32c-sum.result ∙ ap (digits 4) sum) refl in
    let bytes = w6.is ∙ ap (λ (bs : List ℕ). encoded r ++ bs) (drop_all 28 d (le_of_eq (long c))) ∙ append-nil (encoded r) in
    record { bytes = bytes; back = ap decoded bytes ∙ round_trip r (fit c); trip = round_trip }
