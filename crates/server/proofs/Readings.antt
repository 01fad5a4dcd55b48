-- What a reading of the device leaves.
-- Assumes nothing.
use Rattle.std.proofs.Common.{◌≡◌, ℕ, ◌<◌, Bool, ltb, List, length, get_or, Some, None, vec_items, Option, sym, refl, ap, ◌∙◌, inl, inr, arith}
use mathlib.Core.Path.{fun_ext}
use Rattle.std.proofs.lemmas.Bool.{cases_lt, cond-true, cond-false, eq-eqb, le-ltb, lt-ltb}
use Rattle.lease.specs.declared.keeper.Keeper.{Keeper}
use Rattle.lease.specs.declared.lease.Lease.{Lease}
use Rattle.lease.specs.Settings as model
use Rattle.lease.specs.Table.{Table, at_home, loaded}
use Rattle.lease.specs.World as world
use Rattle.lease.specs.Run.{restarts}
use Rattle.lease.specs.Of.{settings_of}
use Rattle.lease.specs.Stands.{server_of, with_table, KeeperLoaded, KeeperRestarted}
use Rattle.journal.specs.declared.journal.Journal.{Journal}
use Rattle.journal.specs.Device.{Device, Choice, New, Lost, Found, chosen, cursor, leases}
use Rattle.journal.specs.Image.{device_of, found_in}
use Rattle.journal.specs.Memory.{HasRead, choice_of, found_of}
use Rattle.journal.proofs.Memories.{found_chosen}
use Rattle.journal.proofs.Runs.{filed-at}
use Rattle.server.specs.Reply.{Reply, effects_of}
use Rattle.server.specs.Server.{is_lost, pooled, reads, rereads, tells}
use Rattle.server.specs.Steps.{Comes, FiledBy, missing}
use Rattle.server.proofs.States.{same-state, state_by}

at_home_lem : (a : ℕ) (e : Option Lease) → ((l : Lease) → e ≡ Some l → l.address ≡ a) → at_home a e ≡ e
at_home_lem a None h = refl
at_home_lem a (Some l) h = cond-true _ _ _ (eq-eqb l.address a (h l refl))

-- the places that recovery filled are loaded as what the device has of the pool
pub loaded-pooled : (n : ℕ) (d : Device) (xs : List (Option Lease)) → length xs ≡ n → ((a : ℕ) → a < length xs → get_or xs a None ≡ leases 4096 d a) → loaded n xs ≡ pooled n d
loaded-pooled n d xs e h =
    fun_ext (λ a. elim (cases_lt a n) [
      | inl l ↦
          cond-true (ltb a n) (at_home a (get_or xs a None)) None (lt-ltb a n l) ∙ ap (at_home a) (h a (omega arith)) ∙ at_home_lem a (leases 4096 d a) (filed-at 4096 d (chosen 4096 d) a)
          ∙ sym (cond-true (ltb a n) (leases 4096 d a) None (lt-ltb a n l))
      | inr l ↦ cond-false (ltb a n) (at_home a (get_or xs a None)) None (le-ltb a n l) ∙ sym (cond-false (ltb a n) (leases 4096 d a) None (le-ltb a n l))
    ])

lost_as : (c : Choice) → missing (found_in c) ≡ is_lost c
lost_as New = refl
lost_as Lost = refl
lost_as (Found s) = refl

module _ (k l m : Keeper) (before after : Journal) (xs : List (Option Lease)) (clock : ℕ) (lost : Bool) (r : Reply) where
  abbrev d : Device
  d = device_of (vec_items before.device)

  pub has_read : length xs ≡ k.settings.addresses → vec_items after.device ≡ vec_items before.device →
      HasRead after →
      ((a : ℕ) → a < length xs → get_or xs a None ≡ leases 4096 (device_of (vec_items after.device)) a) →
      FiledBy (Some (settings_of k.settings)) r before after (state_by k before) → KeeperLoaded xs k l → lost ≡ missing (found_of after) → KeeperRestarted clock lost l m → effects_of r ≡ tells m.silent →
      Comes before (state_by k before) (reads (settings_of k.settings) clock (state_by k before)) r after (state_by m after)
  has_read size same rec table file load miss up says =
      let s : model.Settings = settings_of k.settings in
      let t : (a : ℕ) → a < length xs → get_or xs a None ≡ leases 4096 d a = λ a b. table a b ∙ ap (λ (bs : List (List ℕ)). leases 4096 (device_of bs) a) same in
      let p : loaded k.settings.addresses xs ≡ pooled s.addresses d = loaded-pooled s.addresses d xs size t in
      let q : server_of l ≡ with_table (server_of k) (pooled s.addresses d) = load.1 ∙ ap (λ (u : Table). with_table (server_of k) u) p in
      let e : lost ≡ is_lost (chosen 4096 d) =
      miss ∙ ap missing (found_chosen after) ∙ lost_as (choice_of after) ∙ ap is_lost rec.choice ∙ ap (λ (bs : List (List ℕ)). is_lost (chosen 4096 (device_of bs))) same in
      let z : settings_of l.settings ≡ s = ap settings_of load.0 in
      let v : server_of m ≡ rereads s clock d (server_of k) =
      up.1 ∙ ap (λ (y : model.Settings). restarts y clock lost (server_of l)) z ∙ ap (λ (y : world.Server). restarts s clock lost y) q
      ∙ ap (λ (b : Bool). restarts s clock b (with_table (server_of k) (pooled s.addresses d))) e in
      record {
        state = same-state _ _ _ _ _ _ _ _ (ap Some (ap settings_of up.0 ∙ z)) v (ap device_of same) (rec.cursor ∙ ap (λ (bs : List (List ℕ)). cursor 4096 (device_of bs)) same);
        effects = says ∙ ap (λ (y : world.Server). tells y.silent) v;
        file = file;
      }
