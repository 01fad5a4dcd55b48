use Rattle.std.proofs.Common.{◌≡◌, Some, sym, ap, ◌∙◌, w16, w32, w64}
use Rattle.std.specs.Int.{from_be_bytes}
use Rattle.journal.specs.Bytes.{decoded, fields_of, number}
use Rattle.std.specs.List.{between}
use Rattle.journal.proofs.Codes.{decoded-short, decoded_unfit, decoded-fit, number_2, number_4, number_8, zeros_are_blank}
use Rattle.journal.proofs.record.Record.decode.Goals as goal

pub returns-then-place-ne-PLACE : goal.returns-then-place-ne-PLACE
returns-then-place-ne-PLACE c = record { value = sym (decoded-short c.args.place.now c.if-place-ne-PLACE.true); blank = zeros_are_blank }

pub returns-then-sum-from_be_bytes : goal.returns-then-sum-from_be_bytes
returns-then-sum-from_be_bytes c =
    record {
      value = sym (decoded_unfit c.args.place.now (λ e. c.if-sum-from_be_bytes.true (c.crc32c-sum.ensures.value ∙ e ∙ sym (c.from_be_bytes.ensures ∙ ap (from_be_bytes w32) c.bytes_of.ensures ∙ number_4 (between 24 28 c.args.place.now)))));
      blank = zeros_are_blank;
    }

pub returns : goal.returns
returns c =
    let d : decoded c.args.place.now ≡ Some (fields_of c.args.place.now) =
    decoded-fit c.args.place.now c.if-place-ne-PLACE.false (sym c.crc32c-sum.ensures.value ∙ c.if-sum-from_be_bytes.false ∙ c.from_be_bytes.ensures ∙ ap (from_be_bytes w32) c.bytes_of.ensures ∙ number_4 (between 24 28 c.args.place.now)) in
    let e1 : c.from_be_bytes-2.result ≡ number 8 (between 0 8 c.args.place.now) = c.from_be_bytes-2.ensures ∙ ap (from_be_bytes w64) c.bytes_of-2.ensures ∙ number_8 (between 0 8 c.args.place.now) in
    let e2 : c.from_be_bytes-3.result ≡ number 2 (between 8 10 c.args.place.now) = c.from_be_bytes-3.ensures ∙ ap (from_be_bytes w16) c.bytes_of-3.ensures ∙ number_2 (between 8 10 c.args.place.now) in
    let e3 : c.from_be_bytes-4.result ≡ number 2 (between 10 12 c.args.place.now) = c.from_be_bytes-4.ensures ∙ ap (from_be_bytes w16) c.bytes_of-4.ensures ∙ number_2 (between 10 12 c.args.place.now) in
    let e4 : c.from_be_bytes-5.result ≡ number 4 (between 12 16 c.args.place.now) = c.from_be_bytes-5.ensures ∙ ap (from_be_bytes w32) c.bytes_of-5.ensures ∙ number_4 (between 12 16 c.args.place.now) in
    let e5 : c.from_be_bytes-6.result ≡ number 8 (between 16 24 c.args.place.now) = c.from_be_bytes-6.ensures ∙ ap (from_be_bytes w64) c.bytes_of-6.ensures ∙ number_8 (between 16 24 c.args.place.now) in
    record { value = cc; blank = zeros_are_blank }
