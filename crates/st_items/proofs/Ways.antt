-- An item's instructions, run one behind the other, lead to where their run ends: the words of a prologue or an epilogue, say, behind whose first
-- no place on the way begins an item. Read item_leads (a stretch of an item's words, also where some are jumped over), leads_once (one
-- instruction), leads_further and jump_leads.
use Rattle.std.proofs.Common.{◌≡◌, ℕ, ℤ, zero, suc, ◌+◌, ◌-◌, ◌<◌, ◌≤◌, Bool, Option, Some, None, refl, ap, sym, subst, inr, arith}
use Rattle.st_base.specs.declared.reg.Reg.TheVariants as registers
use Rattle.st_rv.specs.declared.ins.Ins.{Ins}
use Rattle.st_rv.specs.declared.ins.Op.TheVariants as ops
use Rattle.st_model.specs.declared.code.Layout.{Layout}
use Rattle.st_model.specs.declared.program.Item.{Item}
use Rattle.st_model.specs.declared.program.Program.{Program}
use Rattle.st_model.specs.declared.program.ProgramFunction.{ProgramFunction}
use Rattle.st_model.specs.Layout.{item_size, upper_ins}
use Rattle.st_model.specs.Memory.{Data}
use Rattle.st_step.specs.Moves.{move_of, from_pc}
use Rattle.st_step.specs.Runs.{Situation, moved, moved_by, Path, RunsStretch}
use Rattle.st_step.specs.Frames.{address_in}
use Rattle.st_items.specs.Code.{code_at, HasItem}
use Rattle.st_items.specs.Ways.{IsInside, Makes, OnWay, LeadsBy, Leads, JumpsTo, linked}

-- ---- ways

module _ (layout : Layout) (p : Program) (d : Data) (held : ℕ → Bool) where
  -- a way that goes one instruction further
  pub further : (n : ℕ) (s t u : Situation) → OnWay layout p d held n s t → IsInside layout p t.state → Makes layout p d held t u → OnWay layout p d held (suc n) s u
  further zero s t u way inside makes =
      subst (λ (x : Situation). IsInside layout p x.state × ((w : Situation) × Makes layout p d held x w × (w ≡ u))) (sym way) (inside, (u, makes, refl))
  further (suc n) s t u (here, (v, first, rest)) inside makes = (here, (v, first, further n v t u rest inside makes))

  pub leads : (n : ℕ) (s t : Situation) → n ≤ 20 → LeadsBy layout p d held n s t → Leads layout p d held s t
  leads n s t few (u, first, rest) = (u, first, (n, few, rest))

  pub leads_further : (n : ℕ) (s t u : Situation) → LeadsBy layout p d held n s t → IsInside layout p t.state → Makes layout p d held t u → LeadsBy layout p d held (suc n) s u
  leads_further n s t u (v, first, rest) inside makes = (v, first, further n v t u rest inside makes)

  -- one instruction
  pub leads_once : (s t : Situation) (i : Ins) → code_at layout p s.state.pc ≡ Some i → moved held s (move_of d s.state i) ≡ Some t → Leads layout p d held s t
  leads_once s t i there goes = (t, record { ins = i; there = there; goes = goes }, (0, omega arith, refl))

  -- ---- items

  makes_by : (s t : Situation) (o : Option Ins) → code_at layout p s.state.pc ≡ o → moved_by d held s o ≡ Some t → Makes layout p d held s t
  makes_by s t None there goes = absurd (let never : ⊥ = cc in never)
  makes_by s t (Some i) there goes = record { ins = i; there = there; goes = goes }

  -- a path among the words of an item behind its first
  path_way : (f : ℕ) (function : ProgramFunction) (i : ℕ) (item : Item) → HasItem p f function i item → (words n : ℕ) (s t : Situation) → words < item_size layout function item.kind
      → Path d (code_at layout p) held (address_in layout p f function i + 4) words n s t → OnWay layout p d held n s t
  path_way f function i item has words zero s t fits same = same
  path_way f function i item has words (suc n) s t fits (among, (u, goes, rest)) =
      let few = among.few in
      let at = among.at in (
        inr (record { f = f; function = function; i = i; item = item; has = has; k = among.k + 1; some = omega arith; few = omega arith; at = omega arith }),
        (u, makes_by s u (code_at layout p s.state.pc) refl goes, path_way f function i item has words n u t fits rest),
      )

  -- a whole item, or so many words of it, of which `count` are run
  pub item_leads : (f : ℕ) (function : ProgramFunction) (i : ℕ) (item : Item) → HasItem p f function i item → (words count : ℕ) (s t : Situation) → s.state.pc ≡ address_in layout p f function i → words - 1 < item_size layout function item.kind
      → RunsStretch d (code_at layout p) held words count s t → LeadsBy layout p d held (count - 1) s t
  item_leads f function i item has words count s t here fits runs =
      let counts = runs.counts in
      let rest : runs.rest ≡ count - 1 = omega arith in (
        runs.first,
        makes_by s runs.first (code_at layout p s.state.pc) refl runs.begins,
        subst (λ (n : ℕ). OnWay layout p d held n runs.first t) rest
            (path_way f function i item has (words - 1) runs.rest runs.first t fits (subst (λ (n : ℕ). Path d (code_at layout p) held (n + 4) (words - 1) runs.rest runs.first t) here runs.path)),
      )

  -- ---- jumps

  link_goes : (t : Situation) (distance : ℤ) (target : ℕ) → from_pc t.state.pc distance ≡ target → moved held t (move_of d t.state (upper_ins ops.Jal registers.Ra distance)) ≡ Some (linked t target)
  unfolding move_of
  link_goes t distance target goes = ap (λ (n : ℕ). Some (linked t n)) goes

  -- a jump that leaves the address behind it in ra
  pub jump_makes : (t : Situation) (target : ℕ) → JumpsTo layout p t.state.pc registers.Ra target → Makes layout p d held t (linked t target)
  jump_makes t target jumps = record { ins = upper_ins ops.Jal registers.Ra jumps.distance; there = jumps.there; goes = link_goes t jumps.distance target jumps.goes }

  pub jump_leads : (t : Situation) (target : ℕ) → JumpsTo layout p t.state.pc registers.Ra target → Leads layout p d held t (linked t target)
  jump_leads t target jumps = (linked t target, jump_makes t target jumps, (0, omega arith, refl))
