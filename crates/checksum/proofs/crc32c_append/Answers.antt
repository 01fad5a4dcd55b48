use Rattle.std.proofs.Common.{rules, ◌≡◌, ℕ, refl, ap, ◌∙◌}
use lib.Bits.{bit_xor}
use Rattle.std.proofs.lemmas.Fn.{fold_over, slice_gives, fronts}
use Rattle.checksum.specs.Crc.{all_ones, run, continued}
use Rattle.checksum.proofs.Crc.{run-more, crc_append}
use Rattle.checksum.proofs.crc32c_append.Goals as goal

folded : (c : goal.After-fold-state) → c.fold-state.result ≡ run (bit_xor c.args.sum all_ones) c.args.bytes.now
unfolding run
folded c =
    fold_over fronts (λ y. y.now) _ (λ bs s. s ≡ run (bit_xor c.args.sum all_ones) bs) _ (λ bs s x t f' e k. let more = run-more (bit_xor c.args.sum all_ones) bs x.now s t e in search (rules, more)) _ _ _ _ (slice_gives c.iter.result) refl
    c.fold-state.ensures.ran
    ∙ ap (run (bit_xor c.args.sum all_ones)) c.iter.ensures.rest

pub returns : goal.returns
unfolding continued
returns c =
    let whole : bit_xor c.fold-state.result all_ones ≡ continued c.args.sum c.args.bytes.now = ap (λ (n : ℕ). bit_xor n all_ones) (folded c) in
    record { value = whole; joins = λ before e. whole ∙ ap (λ (n : ℕ). continued n c.args.bytes.now) e ∙ crc_append before c.args.bytes.now }
