use Rattle.std.proofs.Common.{ℕ, ◌/◌, ◌<◌, sym, ap, ◌∙◌, arith}
use lib.Bits.{bit_xor}
use Rattle.std.proofs.lemmas.Nat.{and_mask}
use Rattle.checksum.specs.Crc.{bits}
use Rattle.checksum.proofs.Crc.{step_by_table}
use Rattle.checksum.proofs.step.Goals as goal

pub returns : goal.returns
returns c =
    let s : ℕ = c.args.state in
    let b : ℕ = c.args.byte in
    let small : b < 256 = omega arith in
    ap (λ (n : ℕ). bit_xor n (s / 256)) (c.entry.ensures ∙ ap (bits 8) (and_mask (bit_xor s b) 8)) ∙ sym (step_by_table s b small)
