use Rattle.std.proofs.Common.{◌∙◌, ap, length}
use Rattle.st_words.specs.declared.words.Words.{Words}
use Rattle.st_words.specs.Plain.{Exact, view_at}
use Rattle.st_stack.proofs.Trying.{asks_store, stored_holds, stored_length}
use Rattle.st_stack.proofs.tests.Lone.store.Goals as goal

pub stack_store-requires : goal.stack_store-requires
stack_store-requires c =
    let s = c.args.self.now in
    record {
      may = record {
        serves = s.serves;
        may = asks_store (Exact s.board.words s.board.kept.cargoes 0) (view_at s.board.kept.views 0) c.args.place c.args.value s.holds c.requires;
      };
    }

pub invariant_of-self : goal.invariant_of-self
invariant_of-self c =
    let s = c.args.self.now in
    let made = c.stack_store.ensures.made in
    record {
      serves = made.serves;
      words = ap (λ (x : Words). length x.stack) made.did.words ∙ stored_length s.board.words c.args.place c.args.value ∙ s.words;
      holds = stored_holds (view_at s.board.kept.views 0) _ c.args.place c.args.value s.holds c.requires made.view;
    }
