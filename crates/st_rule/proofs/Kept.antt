-- Each careful step keeps the rule: rule_kept.
use Rattle.std.proofs.Common.{◌≡◌, ◌≢◌, ℕ, ◌<◌, Bool, true, ◌==◌, [], ap, ◌∙◌, subst, arith, eq-eqb}
use Rattle.st_base.specs.declared.limits.Limits.{Limits}
use Rattle.st_words.specs.declared.view.Known.{Known}
use Rattle.st_words.specs.declared.view.View.{View}
use Rattle.st_words.specs.Encodings.{count_in, count_after, counter_word, head_in}
use Rattle.st_words.specs.Steps.{Step, CellChange, Answer, Number, IsDone}
use Rattle.st_words.specs.Views.{counts_cell, owner_seen}
use Rattle.st_words.specs.Careful.{Meaning, Careful}
use Rattle.st_model.specs.declared.program.Program.{Program}
use Rattle.st_model.specs.Memory.{Data}
use Rattle.st_model.specs.Heap.{Heap, Change}
use Rattle.st_made.specs.Events.{Event, GoesOn, AddsTo, change_event, state_event, counter_event}
use Rattle.st_world.specs.World.{World}
use Rattle.st_lists.specs.Laws.{KnowsKind}
use Rattle.st_lists.proofs.Cautious.{careful_tends}
use Rattle.st_counts.proofs.Cautious.{IsItem, careful_spares, careful_work}
use Rattle.st_rule.specs.Rule.{Rule}
use Rattle.st_rule.specs.Laws.{RuleKept}
use Rattle.st_rule.proofs.Groups.{Groups}
use Rattle.st_rule.proofs.Facts.{kind_known, changes_cell, lists_know, places_know, draws_know, knows_know, leases_vacant, leases_tend, counts_weigh, threads_know, names_know, limits_know}
use Rattle.st_rule.proofs.Items.{threads_go, none_begun}

head_none : (count new : ℕ) → new ≡ counter_word count 0 → head_in new ≡ 0
head_none count new e = ap head_in e ∙ omega arith

-- who counts up makes an item of its top thread
module _ (program : Program) (source : Data) (owner : ℕ) (u v : View) where
  has_top : (Is : Known → Change → Type 0) → GoesOn program source u v Is → u.threads ≢ []
  has_top Is e n = let t = e.is in let no : ⊥ = cc in no

  item_told : (c old new n : ℕ) → KnowsKind owner u c → change_event program source (n == old) c new u v → n ≡ old → IsDone u c old new → u.threads ≢ []
  item_told c old new n kind e is done =
      let b : (n == old) ≡ true = eq-eqb n old is in
      let stored : change_event program source true c new u v = subst (λ (b : Bool). change_event program source b c new u v) b e in
      let k : counts_cell (owner_seen c u.owners) ≡ true = kind.2 ∙ kind.1 done.0 in
      let counted : state_event program source true c new u v = subst (λ (k : Bool). state_event program source k c new u v) k stored in
      let z : (head_in new == 0) ≡ true = eq-eqb (head_in new) 0 (head_none (count_after (count_in old)) new done.1) in
      let goes : counter_event program source true c u v = subst (λ (z : Bool). counter_event program source z c u v) z counted in
      has_top (AddsTo u c) goes

module _ (m : Meaning) (g : Groups m) (program : Program) (source : Data) (limits : Limits) where
  item_of : (h0 h : Heap) (x : World) (r : Rule m program source limits h0 h x) (w : ℕ) → w < x.workers → (s : Step) (a : Answer) (v : View) → Careful m (x.view w) s → Event program source (x.view w) s a v → IsItem (x.view w) s a
  item_of h0 h x r w is (CellChange c old new) (Number n) v careful e = item_told program source (x.owner c) (x.view w) v c old new n (kind_known m g program source limits h0 h x r w is c (changes_cell m g program source limits h0 h x r w is c old new careful)) e
  item_of h0 h x r w is s a v careful e = tt

  pub rule_kept : RuleKept m program source limits
  rule_kept h0 h x w s a v meant numbered r is can careful f d e =
      let u = x.view w in
      let behind = g.step_goes program source h x w s a v r.threads e in
      let lists = g.lists_kept x r.lists w s a v is can (careful_tends m u s careful) (lists_know m g program source limits h0 h x r w is s can careful) f d in
      let go = threads_go program source u v s a e in
      record {
        heap = behind.0;
        goes = behind.2;
        rule = record {
          lists = lists.0;
          places = g.places_kept x r.lists w s a v lists.0 r.places is can careful (places_know m g program source limits h0 h x r w is s can careful) f d go lists.1;
          leases = g.leases_kept x w s a v r.leases is can (leases_tend m g program source limits h0 h x r w is s careful) (leases_vacant m g program source limits h0 h x r w is s can) f d;
          requests = g.requests_kept x w s a v r.requests is can f d;
          counts = g.counts_kept x w s a v r.counts is can (careful_spares m u s careful) (careful_work m u s a careful (item_of h0 h x r w is s a v careful e)) (counts_weigh m g program source limits h0 h x r w is s can careful) f d (none_begun u v s a go);
          draws = g.draws_kept x w s a v r.draws is can careful (draws_know m g program source limits h0 h x r w is s careful) f d;
          knows = g.knows_kept x w s a v r.knows is can careful (knows_know m g program source limits h0 h x r w is s can careful) f d;
          threads = g.threads_kept program source h behind.0 x w s a v r.threads is can careful (threads_know m g program source limits h0 h x r w is s can) f d behind.1;
          names = g.names_kept program source h behind.0 x w s a v meant.items r.threads r.names is can careful (names_know m g program source limits h0 h x r w is s can careful) f d behind.1;
          output = g.output_kept program source h behind.0 x w s a v r.threads r.output behind.1;
          within = g.limits_kept program source limits h0 h behind.0 x w s a v meant.items meant.met numbered r.threads r.within is can careful (limits_know m g program source limits h0 h x r w is s can) f d behind.1;
          walks = g.walks_kept x w s a v meant.made_ready r.walks careful;
        };
      }
