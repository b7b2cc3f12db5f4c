-- The chain of a board that is opened walks: first_walks.
use Rattle.std.proofs.Common.{◌≡◌, ◌≢◌, ℕ, ◌/◌, Option, Some, refl, sym, subst}
use mathlib.Core.Logic.{dite}
use native.Mathlib.Decide.{ℕ_discrete}
use Rattle.st_base.specs.declared.chain.Chain.{Chain}
use Rattle.st_base.specs.declared.limits.Limits.{Limits}
use Rattle.st_base.specs.declared.thread.Thread.{Thread}
use Rattle.st_words.specs.declared.view.Slot.TheVariants.{Cell, Mail}
use Rattle.st_words.specs.declared.view.Cargo.{Cargo}
use Rattle.st_words.specs.Careful.{Meaning}
use Rattle.st_words.specs.Plain.{first_words, first_cargoes, first_views, root_cargo, root_chain}
use Rattle.st_world.specs.World.{World, slot_of, cargo_of}
use Rattle.st_world.specs.OfPlain.{world_of}
use Rattle.st_world.proofs.Opened.{home_first, home_other, post_none, cargo_first}
use Rattle.st_walks.specs.Walking.{SlotWalks, Walking}
use Rattle.st_walks.specs.Laws.{First}

module _ (m : Meaning) (limits : Limits) (n : ℕ) (thread : Thread) (root : m.walks (root_cargo thread) root_chain) where
  abbrev world : World
  world = world_of (limits.stack / 8) (first_words limits n) (first_cargoes limits n thread) (first_views limits n)

  at_root : SlotWalks m (Cell 0) (world.home 0) (world.home_cargo 0)
  at_root = subst (λ (o : Option Chain). SlotWalks m (Cell 0) o (world.home_cargo 0)) (sym (home_first limits n))
      (subst (λ (k : Cargo). SlotWalks m (Cell 0) (Some root_chain) k) (sym (cargo_first limits n thread)) (root, λ d. absurd (d refl)))

  all_walk : Walking m (slot_of world) (cargo_of world)
  all_walk (Cell c) = dite (ℕ_discrete c 0)
      (λ (e : c ≡ 0). subst (λ (k : ℕ). SlotWalks m (Cell k) (world.home k) (world.home_cargo k)) (sym e) at_root)
      (λ (d : c ≢ 0). subst (λ (o : Option Chain). SlotWalks m (Cell c) o (world.home_cargo c)) (sym (home_other limits n c d)) tt)
  all_walk (Mail v) = subst (λ (o : Option Chain). SlotWalks m (Mail v) o (world.post_cargo v)) (sym (post_none limits n v)) tt

pub first_walks : (m : Meaning) → First m
first_walks m limits workers thread root = all_walk m limits workers thread root
