use Rattle.std.proofs.Common.{◌≡◌, ℕ, ◌/◌, List, [], ◌++◌, length, get_or, vec_items, sym, ap, ◌∙◌, arith, rules}
use Rattle.std.specs.Simd.{first_chunks}
use Rattle.journal.proofs.Chunks.{place-between}
use Rattle.journal.proofs.journal.Journal.open.Goals as goal

items : (c : goal.After-journal_over) → vec_items c.journal_over.result.device ≡ first_chunks 28 (length c.args.bytes.now / 28) c.args.bytes.now
items c =
    let grown : vec_items c.extend_from_slice.new.self ≡ vec_items c.clear.new.self ++ c.as_chunks.result.0.now = search rules in
    c.journal_over.ensures.device ∙ grown ∙ ap (λ (xs : List (List ℕ)). xs ++ c.as_chunks.result.0.now) c.clear.ensures.items ∙ c.as_chunks.ensures.front

pub returns : goal.returns
returns c = (
  record {
    all = sym c.journal_over.result.device.ok.0 ∙ c.journal_over.result.sized;
    each = λ k l. ap (λ (xs : List (List ℕ)). get_or xs k []) (items c) ∙ place-between 28 (length c.args.bytes.now / 28) k c.args.bytes.now (omega (arith, c.if-bytes-ne-DEVICE.false));
  },
  c.journal_over.ensures.journal,
)
