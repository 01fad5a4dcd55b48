-- A device of zeros alone is blank at every place.
use Rattle.std.proofs.Common.{◌≡◌, ℕ, ◌+◌, ◌<◌, ltb, List, [], get_or, replicate, vec_items, refl, ap, ◌∙◌, arith}
use mathlib.Core.Path.{fun_ext}
use Rattle.std.proofs.lemmas.Bool.{cond_both, ltb-true}
use Rattle.std.proofs.lemmas.List.{get_or-replicate}
use Rattle.journal.specs.Place.{Blank}
use Rattle.journal.specs.Bytes.{place_of}
use Rattle.journal.specs.Device.{Side, Row0, Row1, blank_device, chosen, cursor}
use Rattle.journal.specs.Image.{device_of, found_in}
use Rattle.journal.specs.Memory.{HasRead, cursor_of, found_of, places_of}
use Rattle.journal.specs.declared.journal.Journal.{Journal}
use Rattle.journal.specs.declared.state.Found.TheVariants as found
use Rattle.journal.proofs.Codes.{zeros_are_blank}
use Rattle.journal.proofs.Choosing.{choice-tells}
use Rattle.journal.proofs.Memories.{found_chosen}

device-blank : (bs : List (List ℕ)) → ((k : ℕ) → k < 8192 → place_of (get_or bs k []) ≡ Blank) → device_of bs ≡ blank_device
device-blank bs h = fun_ext (λ s. fun_ext (λ k. at_place s k)) where
  at_place : (s : Side) (k : ℕ) → device_of bs s k ≡ Blank
  at_place Row0 k = cond_both (ltb k 4096) (place_of (get_or bs k [])) Blank (λ q. q ≡ Blank) (λ t. let l : k < 4096 = ltb-true k 4096 t in h k (omega arith)) (λ t. refl)
  at_place Row1 k = cond_both (ltb k 4096) (place_of (get_or bs (4096 + k) [])) Blank (λ q. q ≡ Blank) (λ t. let l : k < 4096 = ltb-true k 4096 t in h (4096 + k) (omega arith)) (λ t. refl)

module _ (j : Journal) (n : ℕ) (h : HasRead j) (e : n ≡ 8192) (z : vec_items j.device ≡ replicate n (replicate 28 0)) where
  pub zeros-places : places_of j ≡ blank_device
  zeros-places = device-blank (vec_items j.device) (λ k l. ap (λ (bs : List (List ℕ)). place_of (get_or bs k [])) z ∙ ap place_of (get_or-replicate n k (replicate 28 0) [] (omega arith)) ∙ zeros_are_blank)

  pub zeros-cursor : cursor_of j ≡ cursor 4096 blank_device
  zeros-cursor = h.cursor ∙ ap (cursor 4096) zeros-places

  pub zeros-new : found_of j ≡ found.New
  zeros-new = found_chosen j ∙ ap found_in (h.choice ∙ ap (chosen 4096) zeros-places ∙ (choice-tells 4096 blank_device).zeros (λ s k l. refl))
