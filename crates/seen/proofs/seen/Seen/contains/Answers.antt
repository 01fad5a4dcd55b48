use Rattle.std.proofs.Common.{vec_items, reverse, ◌∙◌}
use Rattle.std.proofs.lemmas.List.Sorted.{IsPermutation-reverse, list_any-IsPermutation}
use Rattle.seen.specs.Stamp.{same}
use Rattle.seen.proofs.seen.Seen.contains.Goals as goal

pub returns : goal.returns
returns c = let xs = vec_items c.args.self.now.stamps in c.contains.ensures ∙ c.args.self.now.same c.args.stamp ∙ list_any-IsPermutation (same c.args.stamp) xs (reverse xs) (IsPermutation-reverse xs)
