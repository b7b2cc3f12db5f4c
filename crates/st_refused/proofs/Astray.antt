-- A chain that doesn't walk is refused in a slot: chain_astray.
use Rattle.std.proofs.Common.{Option, Some, subst}
use Rattle.st_base.specs.declared.chain.Chain.{Chain}
use Rattle.st_words.specs.declared.view.Slot.TheVariants.{Cell, Mail}
use Rattle.st_words.specs.declared.view.Cargo.{Cargo}
use Rattle.st_words.specs.Careful.{Meaning}
use Rattle.st_world.specs.Functions.{put}
use Rattle.st_world.proofs.Functions.{put_here}
use Rattle.st_walks.specs.Walking.{SlotWalks}
use Rattle.st_refused.specs.Unbacked.{ChainAstray}

pub chain_astray : (m : Meaning) → ChainAstray m
chain_astray m x w (Cell c) chain cargo v astray walking =
    let a = subst (λ (o : Option Chain). SlotWalks m (Cell c) o (put x.home_cargo c cargo c)) (put_here x.home c (Some chain)) (walking (Cell c)) in
    let b : SlotWalks m (Cell c) (Some chain) cargo = subst (λ (k : Cargo). SlotWalks m (Cell c) (Some chain) k) (put_here x.home_cargo c cargo) a in
    astray b.0
chain_astray m x w (Mail at) chain cargo v astray walking =
    let a = subst (λ (o : Option Chain). SlotWalks m (Mail at) o (put x.post_cargo at cargo at)) (put_here x.post at (Some chain)) (walking (Mail at)) in
    let b : SlotWalks m (Mail at) (Some chain) cargo = subst (λ (k : Cargo). SlotWalks m (Mail at) (Some chain) k) (put_here x.post_cargo at cargo) a in
    astray b
