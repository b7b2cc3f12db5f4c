use Rattle.std.specs.List.{remove}
use Rattle.std.proofs.Common.{◌≡◌, ◌+◌, ℕ, List, None, Some, suc, is_some, length, slice_get, refl, inl, inr, ap, sym, ◌∙◌, subst, arith}
use Rattle.st_base.specs.declared.chain.Note.{Note}
use Rattle.st_model.specs.Memory.{Data}
use Rattle.st_words.specs.Made.{Asked, StepMade}
use Rattle.st_words.specs.Steps.{Step, Answer, StackStore, Done}
use Rattle.st_chain.specs.declared.walk.Walk.{Walk}
use Rattle.st_chain.specs.Copying.{MayCopy, Copied}
use Rattle.st_chain.specs.Logical.{Threads}
use Rattle.st_chain.specs.Places.{begun, counted, gone_below, gone_to_bottom}
use Rattle.st_chain.specs.Taking.{GivingAbove}
use Rattle.st_chain.proofs.ForkPlaces.{forks_rise}
use Rattle.st_chain.proofs.Suspending.{rows_in}
use Rattle.st_chain.proofs.Giving as giving
use Rattle.st_chain.proofs.logical.Logical.give_step.Goals as goal

pub whole_walk-requires-clause-some : goal.whole_walk-requires-clause-some
whole_walk-requires-clause-some g c =
    let may = c.requires.may in
    let t = may.t in
    let code = may.code in
    let n = may.n in
    let gives = may.gives in
    let notes = c.args.self.now.notes in
    let open_is : c.args.self.now.open ≡ None = sym (ap (λ (l : Threads). l.open) c.self.view_is) ∙ sym c.take.ensures.value ∙ c.in_default.is in
    let can = giving.without_walk t notes c.args.self.now.open c.args.m.now c.args.s.now (suc n) open_is gives in
    let same : c.self.inside.notes.items ≡ notes = ap (λ (l : Threads). l.notes) c.self.view_is in
    let count = giving.notes_count c.args.image.now t code notes can.bottom in
    let all : length c.as_slice.result.now ≡ length notes = ap length (c.as_slice.ensures.value ∙ same) in
    omega (arith, count, all)

pub whole_walk-requires-clause-rising : goal.whole_walk-requires-clause-rising
whole_walk-requires-clause-rising g c = let may = c.requires.may in forks_rise may.t.p c.args.image.now may.code

pub whole_walk-requires-clause-place : goal.whole_walk-requires-clause-place
whole_walk-requires-clause-place g c =
    let may = c.requires.may in
    let t = may.t in
    let code = may.code in
    let n = may.n in
    let gives = may.gives in
    let notes = c.args.self.now.notes in
    let open_is : c.args.self.now.open ≡ None = sym (ap (λ (l : Threads). l.open) c.self.view_is) ∙ sym c.take.ensures.value ∙ c.in_default.is in
    let can = giving.without_walk t notes c.args.self.now.open c.args.m.now c.args.s.now (suc n) open_is gives in
    (giving.starts c.args.image.now t code notes c.args.m.now c.args.s.now n can).few

pub invariant_of-self : goal.invariant_of-self
invariant_of-self g c = c.self.invariant

pub invariant_of-self-in-Copy : goal.invariant_of-self-in-Copy
invariant_of-self-in-Copy g c = c.self.invariant

pub invariant_of-self-in-Frame : goal.invariant_of-self-in-Frame
invariant_of-self-in-Frame g c = c.self.invariant

pub invariant_of-self-then-walk-eq1 : goal.invariant_of-self-then-walk-eq1
invariant_of-self-then-walk-eq1 g c = c.self.invariant

pub invariant_of-self-in-Fork-2 : goal.invariant_of-self-in-Fork-2
invariant_of-self-in-Fork-2 g c = c.self.invariant

pub returns-in_default-clause-step : goal.returns-in_default-clause-step
returns-in_default-clause-step g c t n code data_is gives =
    let notes = c.args.self.now.notes in
    let open_is : c.args.self.now.open ≡ None = sym (ap (λ (l : Threads). l.open) c.self.view_is) ∙ sym c.take.ensures.value ∙ c.in_default.is in
    let can = giving.without_walk t notes c.args.self.now.open c.args.m.now c.args.s.now (suc n) open_is gives in
    let same : c.self.inside.notes.items ≡ notes = ap (λ (l : Threads). l.notes) c.self.view_is in
    let all : length c.as_slice.result.now ≡ length t.above + 1 = ap length (c.as_slice.ensures.value ∙ same) ∙ giving.notes_count c.args.image.now t code notes can.bottom in
    let walk_is = c.whole_walk.ensures (length t.above) all in
    (same, (c.whole_walk.result, refl, inl (inl (refl, inl (subst (λ (w : Walk). GivingAbove t notes w c.args.m.now c.args.s.now n) (sym walk_is) (giving.starts c.args.image.now t code notes c.args.m.now c.args.s.now n can).next)))))

pub returns-in_default-clause-room : goal.returns-in_default-clause-room
returns-in_default-clause-room g c = ap (λ (l : Threads). l.room) c.self.view_is

pub returns-in_default-clause-ends : goal.returns-in_default-clause-ends
returns-in_default-clause-ends g c = (refl, refl)

pub returns-in_default-clause-stays : goal.returns-in_default-clause-stays
returns-in_default-clause-stays g c f there = there

pub returns-in-Copy-clause-room : goal.returns-in-Copy-clause-room
returns-in-Copy-clause-room g c = ap (λ (l : Threads). l.room) c.self.view_is

pub returns-in-Copy-clause-ends : goal.returns-in-Copy-clause-ends
returns-in-Copy-clause-ends g c = (refl, refl)

pub returns-in-Copy-clause-stays : goal.returns-in-Copy-clause-stays
returns-in-Copy-clause-stays g c f there = there

pub returns-in-Frame-clause-room : goal.returns-in-Frame-clause-room
returns-in-Frame-clause-room g c = ap (λ (l : Threads). l.room) c.self.view_is

pub returns-in-Fork-clause-room : goal.returns-in-Fork-clause-room
returns-in-Fork-clause-room g c = ap (λ (l : Threads). l.room) c.self.view_is

pub returns-in-Fork-clause-ends : goal.returns-in-Fork-clause-ends
returns-in-Fork-clause-ends g c = (refl, refl)

pub returns-in-Fork-clause-stays : goal.returns-in-Fork-clause-stays
returns-in-Fork-clause-stays g c f there = there

pub returns-in-Fork-2-clause-room : goal.returns-in-Fork-2-clause-room
returns-in-Fork-2-clause-room g c = ap (λ (l : Threads). l.room) c.self.view_is

pub returns-in-Fork-2-clause-ends : goal.returns-in-Fork-2-clause-ends
returns-in-Fork-2-clause-ends g c = (refl, refl)

pub returns-in-Fork-2-clause-stays : goal.returns-in-Fork-2-clause-stays
returns-in-Fork-2-clause-stays g c f there = there

pub returns-in-End-clause-room : goal.returns-in-End-clause-room
returns-in-End-clause-room g c = ap (λ (l : Threads). l.room) c.self.view_is

pub returns-in-End-clause-ends : goal.returns-in-End-clause-ends
returns-in-End-clause-ends g c = (refl, refl)

pub returns-in-End-clause-stays : goal.returns-in-End-clause-stays
returns-in-End-clause-stays g c f there = there

pub place-requires : goal.place-requires
place-requires g c = let may = c.requires.may in forks_rise may.t.p c.args.image.now may.code

pub go_on-requires : goal.go_on-requires
go_on-requires g c =
    let may = c.requires.may in
    let t = may.t in
    let code = may.code in
    let n = may.n in
    let gives = may.gives in
    let notes = c.args.self.now.notes in
    let open_is : c.args.self.now.open ≡ Some c.in-Some.walk = sym (ap (λ (l : Threads). l.open) c.self.view_is) ∙ sym c.take.ensures.value ∙ c.in-Some.is in
    let here = giving.with_walk t notes c.args.self.now.open c.args.m.now c.args.s.now (suc n) c.in-Some.walk open_is gives in
    record { copying = subst (λ (d : Data). MayCopy (λ (x : Step). Asked g.B.Board.view g.B.Board.serves g.B.Board.says g.B.Board.forward g.B.Board.moves g.N.NamesView.after c.args.board.now c.args.w x) c.args.image.now d c.in-Some.walk.machine) may.data_is (giving.may_go c.args.image.now t code notes (λ (x : Step). Asked g.B.Board.view g.B.Board.serves g.B.Board.says g.B.Board.forward g.B.Board.moves g.N.NamesView.after c.args.board.now c.args.w x) c.in-Some.walk c.args.m.now c.args.s.now (suc n) (sym c.place.ensures ∙ c.in-Copy.is) may.loads here) }

pub begin-requires-clause-ascending : goal.begin-requires-clause-ascending
begin-requires-clause-ascending g c = let may = c.requires.may in rows_in may.t.p c.args.image.now may.code

pub begin-requires-clause-found : goal.begin-requires-clause-found
begin-requires-clause-found g c =
    let may = c.requires.may in
    let t = may.t in
    let code = may.code in
    let n = may.n in
    let gives = may.gives in
    let notes = c.args.self.now.notes in
    let open_is : c.args.self.now.open ≡ Some c.in-Some.walk = sym (ap (λ (l : Threads). l.open) c.self.view_is) ∙ sym c.take.ensures.value ∙ c.in-Some.is in
    let here = giving.with_walk t notes c.args.self.now.open c.args.m.now c.args.s.now (suc n) c.in-Some.walk open_is gives in
    let b = giving.begins c.args.image.now t code notes c.in-Some.walk c.args.m.now c.args.s.now n (sym c.place.ensures ∙ c.in-Frame.is) here in
    ap is_some b.found

pub begin-requires-clause-may : goal.begin-requires-clause-may
begin-requires-clause-may g c row there taken on =
    let may = c.requires.may in
    let t = may.t in
    let code = may.code in
    let n = may.n in
    let gives = may.gives in
    let notes = c.args.self.now.notes in
    let open_is : c.args.self.now.open ≡ Some c.in-Some.walk = sym (ap (λ (l : Threads). l.open) c.self.view_is) ∙ sym c.take.ensures.value ∙ c.in-Some.is in
    let here = giving.with_walk t notes c.args.self.now.open c.args.m.now c.args.s.now (suc n) c.in-Some.walk open_is gives in
    let b = giving.begins c.args.image.now t code notes c.in-Some.walk c.args.m.now c.args.s.now n (sym c.place.ensures ∙ c.in-Frame.is) here in
    giving.may_row c.args.image.now t code notes c.in-Some.walk c.args.m.now c.args.s.now n b row there taken on

pub returns-in-Frame-clause-ends : goal.returns-in-Frame-clause-ends
returns-in-Frame-clause-ends g c =
    let may = c.requires.may in
    let t = may.t in
    let code = may.code in
    let n = may.n in
    let gives = may.gives in
    let notes = c.args.self.now.notes in
    let open_is : c.args.self.now.open ≡ Some c.in-Some.walk = sym (ap (λ (l : Threads). l.open) c.self.view_is) ∙ sym c.take.ensures.value ∙ c.in-Some.is in
    let here = giving.with_walk t notes c.args.self.now.open c.args.m.now c.args.s.now (suc n) c.in-Some.walk open_is gives in
    let b = giving.begins c.args.image.now t code notes c.in-Some.walk c.args.m.now c.args.s.now n (sym c.place.ensures ∙ c.in-Frame.is) here in
    let joins = c.begin.ensures.exports b.row b.found in
    (joins.lo, joins.hi)

pub returns-in-Frame-clause-stays : goal.returns-in-Frame-clause-stays
returns-in-Frame-clause-stays g c f there =
    let may = c.requires.may in
    let t = may.t in
    let code = may.code in
    let n = may.n in
    let gives = may.gives in
    let notes = c.args.self.now.notes in
    let open_is : c.args.self.now.open ≡ Some c.in-Some.walk = sym (ap (λ (l : Threads). l.open) c.self.view_is) ∙ sym c.take.ensures.value ∙ c.in-Some.is in
    let here = giving.with_walk t notes c.args.self.now.open c.args.m.now c.args.s.now (suc n) c.in-Some.walk open_is gives in
    let b = giving.begins c.args.image.now t code notes c.in-Some.walk c.args.m.now c.args.s.now n (sym c.place.ensures ∙ c.in-Frame.is) here in
    let joins = c.begin.ensures.exports b.row b.found in
    joins.stay f there

pub returns-in-Frame-clause-step : goal.returns-in-Frame-clause-step
returns-in-Frame-clause-step g c t n code data_is gives =
    let notes = c.args.self.now.notes in
    let open_is : c.args.self.now.open ≡ Some c.in-Some.walk = sym (ap (λ (l : Threads). l.open) c.self.view_is) ∙ sym c.take.ensures.value ∙ c.in-Some.is in
    let here = giving.with_walk t notes c.args.self.now.open c.args.m.now c.args.s.now (suc n) c.in-Some.walk open_is gives in
    let b = giving.begins c.args.image.now t code notes c.in-Some.walk c.args.m.now c.args.s.now n (sym c.place.ensures ∙ c.in-Frame.is) here in
    (ap (λ (l : Threads). l.notes) c.self.view_is, (begun b.row c.in-Some.walk, ap Some (c.begin.ensures.walk b.row b.found), inl (inl (refl, b.next c.begin.new.s (c.begin.ensures.exports b.row b.found)))))

pub returns-in-Copy-clause-step : goal.returns-in-Copy-clause-step
returns-in-Copy-clause-step g c t n code data_is gives =
    let notes = c.args.self.now.notes in
    let open_is : c.args.self.now.open ≡ Some c.in-Some.walk = sym (ap (λ (l : Threads). l.open) c.self.view_is) ∙ sym c.take.ensures.value ∙ c.in-Some.is in
    let here = giving.with_walk t notes c.args.self.now.open c.args.m.now c.args.s.now (suc n) c.in-Some.walk open_is gives in
    let copied = subst (λ (d : Data). Copied (λ (x : Step) (a : Answer) b. StepMade g.B.Board.view g.B.Board.serves g.B.Board.says g.B.Board.did g.N.NamesView.after c.args.board.now c.args.w x a b) c.args.board.now c.args.image.now d c.in-Some.walk.machine c.go_on.new.self.machine c.go_on.new.board) (sym data_is) c.go_on.ensures.copied in (
      ap (λ (l : Threads). l.notes) c.self.view_is,
      (
        record c.in-Some.walk { machine = c.go_on.new.self.machine; stage = counted c.in-Some.walk.stage },
        ap Some c.go_on.ensures.rest,
        giving.went_on c.args.image.now t code notes (λ (x : Step) (a : Answer) b. StepMade g.B.Board.view g.B.Board.serves g.B.Board.says g.B.Board.did g.N.NamesView.after c.args.board.now c.args.w x a b) c.args.board.now c.go_on.new.board c.in-Some.walk c.go_on.new.self.machine c.args.m.now c.args.s.now n (sym c.place.ensures ∙ c.in-Copy.is) copied here,
      ),
    )

pub cut-requires-clause-few : goal.cut-requires-clause-few
cut-requires-clause-few g c =
    let may = c.requires.may in
    let t = may.t in
    let code = may.code in
    let n = may.n in
    let gives = may.gives in
    let notes = c.args.self.now.notes in
    let open_is : c.args.self.now.open ≡ Some c.in-Some.walk = sym (ap (λ (l : Threads). l.open) c.self.view_is) ∙ sym c.take.ensures.value ∙ c.in-Some.is in
    let here = giving.with_walk t notes c.args.self.now.open c.args.m.now c.args.s.now (suc n) c.in-Some.walk open_is gives in
    let above = giving.not_bottom c.args.image.now t code notes c.in-Some.walk c.in-Fork.handle c.args.m.now c.args.s.now (suc n) (sym c.place.ensures ∙ c.in-Fork.is) here in
    let cut = giving.cut_off c.args.image.now t code notes c.in-Some.walk c.in-Fork.handle c.args.m.now c.args.s.now n above (sym c.place.ensures ∙ c.in-Fork.is) c.if-walk-eq1.true in
    cut.few

pub cut-requires-clause-may : goal.cut-requires-clause-may
cut-requires-clause-may g c =
    let may = c.requires.may in
    let t = may.t in
    let code = may.code in
    let n = may.n in
    let gives = may.gives in
    let notes = c.args.self.now.notes in
    let open_is : c.args.self.now.open ≡ Some c.in-Some.walk = sym (ap (λ (l : Threads). l.open) c.self.view_is) ∙ sym c.take.ensures.value ∙ c.in-Some.is in
    let here = giving.with_walk t notes c.args.self.now.open c.args.m.now c.args.s.now (suc n) c.in-Some.walk open_is gives in
    let above = giving.not_bottom c.args.image.now t code notes c.in-Some.walk c.in-Fork.handle c.args.m.now c.args.s.now (suc n) (sym c.place.ensures ∙ c.in-Fork.is) here in
    let cut = giving.cut_off c.args.image.now t code notes c.in-Some.walk c.in-Fork.handle c.args.m.now c.args.s.now n above (sym c.place.ensures ∙ c.in-Fork.is) c.if-walk-eq1.true in
    subst (λ (q : ℕ). (λ (x : Step). Asked g.B.Board.view g.B.Board.serves g.B.Board.says g.B.Board.forward g.B.Board.moves g.N.NamesView.after c.args.board.now c.args.w x) (StackStore q 0x30)) (sym cut.word) may.cut

pub go_to_bottom-requires-clause-inside : goal.go_to_bottom-requires-clause-inside
go_to_bottom-requires-clause-inside g c =
    let may = c.requires.may in
    let t = may.t in
    let code = may.code in
    let n = may.n in
    let gives = may.gives in
    let notes = c.args.self.now.notes in
    let open_is : c.args.self.now.open ≡ Some c.in-Some.walk = sym (ap (λ (l : Threads). l.open) c.self.view_is) ∙ sym c.take.ensures.value ∙ c.in-Some.is in
    let here = giving.with_walk t notes c.args.self.now.open c.args.m.now c.args.s.now (suc n) c.in-Some.walk open_is gives in
    let same : c.self.inside.notes.items ≡ notes = ap (λ (l : Threads). l.notes) c.self.view_is in
    let above = giving.not_bottom c.args.image.now t code notes c.in-Some.walk c.in-Fork.handle c.args.m.now c.args.s.now (suc n) (sym c.place.ensures ∙ c.in-Fork.is) here in
    let cut = giving.cut_off c.args.image.now t code notes c.in-Some.walk c.in-Fork.handle c.args.m.now c.args.s.now n above (sym c.place.ensures ∙ c.in-Fork.is) c.if-walk-eq1.true in
    giving.got_inside_of notes c.as_slice-in-Fork.result.now 1 cut.note (c.as_slice-in-Fork.ensures.value ∙ same) cut.there

pub go_to_bottom-requires-clause-place : goal.go_to_bottom-requires-clause-place
go_to_bottom-requires-clause-place g c =
    let may = c.requires.may in
    let t = may.t in
    let code = may.code in
    let n = may.n in
    let gives = may.gives in
    let notes = c.args.self.now.notes in
    let open_is : c.args.self.now.open ≡ Some c.in-Some.walk = sym (ap (λ (l : Threads). l.open) c.self.view_is) ∙ sym c.take.ensures.value ∙ c.in-Some.is in
    let here = giving.with_walk t notes c.args.self.now.open c.args.m.now c.args.s.now (suc n) c.in-Some.walk open_is gives in
    let above = giving.not_bottom c.args.image.now t code notes c.in-Some.walk c.in-Fork.handle c.args.m.now c.args.s.now (suc n) (sym c.place.ensures ∙ c.in-Fork.is) here in
    let cut = giving.cut_off c.args.image.now t code notes c.in-Some.walk c.in-Fork.handle c.args.m.now c.args.s.now n above (sym c.place.ensures ∙ c.in-Fork.is) c.if-walk-eq1.true in
    cut.place

pub returns-in-Fork-clause-step : goal.returns-in-Fork-clause-step
returns-in-Fork-clause-step g c t n code data_is gives =
    let notes = c.args.self.now.notes in
    let open_is : c.args.self.now.open ≡ Some c.in-Some.walk = sym (ap (λ (l : Threads). l.open) c.self.view_is) ∙ sym c.take.ensures.value ∙ c.in-Some.is in
    let here = giving.with_walk t notes c.args.self.now.open c.args.m.now c.args.s.now (suc n) c.in-Some.walk open_is gives in
    let same : c.self.inside.notes.items ≡ notes = ap (λ (l : Threads). l.notes) c.self.view_is in
    let above = giving.not_bottom c.args.image.now t code notes c.in-Some.walk c.in-Fork.handle c.args.m.now c.args.s.now (suc n) (sym c.place.ensures ∙ c.in-Fork.is) here in
    let cut = giving.cut_off c.args.image.now t code notes c.in-Some.walk c.in-Fork.handle c.args.m.now c.args.s.now n above (sym c.place.ensures ∙ c.in-Fork.is) c.if-walk-eq1.true in
    let listed : c.as_slice-in-Fork.result.now ≡ notes = c.as_slice-in-Fork.ensures.value ∙ same in
    let gone = c.go_to_bottom.ensures t.taken.note cut.note (ap (λ (xs : List Note). slice_get xs 0) listed ∙ giving.bottom_note c.args.image.now t code notes above.bottom) (ap (λ (xs : List Note). slice_get xs 1) listed ∙ cut.there) in
    (same, (gone_to_bottom c.in-Some.walk c.in-Fork.handle cut.note.cell t.taken.note, ap Some gone.1, inr (subst (λ (q : ℕ). StepMade g.B.Board.view g.B.Board.serves g.B.Board.says g.B.Board.did g.N.NamesView.after c.args.board.now c.args.w (StackStore q 0x30) Done c.cut.new.board) cut.word c.cut.ensures.made, inr (cut.next gone.0))))

pub go_below-requires-clause-some : goal.go_below-requires-clause-some
go_below-requires-clause-some g c =
    let may = c.requires.may in
    let t = may.t in
    let code = may.code in
    let n = may.n in
    let gives = may.gives in
    let notes = c.args.self.now.notes in
    let open_is : c.args.self.now.open ≡ Some c.in-Some.walk = sym (ap (λ (l : Threads). l.open) c.self.view_is) ∙ sym c.take.ensures.value ∙ c.in-Some.is in
    let here = giving.with_walk t notes c.args.self.now.open c.args.m.now c.args.s.now (suc n) c.in-Some.walk open_is gives in
    let above = giving.not_bottom c.args.image.now t code notes c.in-Some.walk c.in-Fork.handle c.args.m.now c.args.s.now (suc n) (sym c.place.ensures ∙ c.in-Fork.is) here in
    let there = giving.note_here c.args.image.now t code notes c.in-Some.walk c.args.m.now c.args.s.now (suc n) above in
    let thread = above.thread in
    omega (arith, thread)

pub go_below-requires-clause-inside : goal.go_below-requires-clause-inside
go_below-requires-clause-inside g c =
    let may = c.requires.may in
    let t = may.t in
    let code = may.code in
    let n = may.n in
    let gives = may.gives in
    let notes = c.args.self.now.notes in
    let open_is : c.args.self.now.open ≡ Some c.in-Some.walk = sym (ap (λ (l : Threads). l.open) c.self.view_is) ∙ sym c.take.ensures.value ∙ c.in-Some.is in
    let here = giving.with_walk t notes c.args.self.now.open c.args.m.now c.args.s.now (suc n) c.in-Some.walk open_is gives in
    let same : c.self.inside.notes.items ≡ notes = ap (λ (l : Threads). l.notes) c.self.view_is in
    let above = giving.not_bottom c.args.image.now t code notes c.in-Some.walk c.in-Fork.handle c.args.m.now c.args.s.now (suc n) (sym c.place.ensures ∙ c.in-Fork.is) here in
    let there = giving.note_here c.args.image.now t code notes c.in-Some.walk c.args.m.now c.args.s.now (suc n) above in
    giving.got_inside_of notes c.as_slice-in-Fork-2.result.now c.in-Some.walk.thread above.u.note (c.as_slice-in-Fork-2.ensures.value ∙ same) there

pub go_below-requires-clause-place : goal.go_below-requires-clause-place
go_below-requires-clause-place g c =
    let may = c.requires.may in
    let t = may.t in
    let code = may.code in
    let n = may.n in
    let gives = may.gives in
    let notes = c.args.self.now.notes in
    let open_is : c.args.self.now.open ≡ Some c.in-Some.walk = sym (ap (λ (l : Threads). l.open) c.self.view_is) ∙ sym c.take.ensures.value ∙ c.in-Some.is in
    let here = giving.with_walk t notes c.args.self.now.open c.args.m.now c.args.s.now (suc n) c.in-Some.walk open_is gives in
    let above = giving.not_bottom c.args.image.now t code notes c.in-Some.walk c.in-Fork.handle c.args.m.now c.args.s.now (suc n) (sym c.place.ensures ∙ c.in-Fork.is) here in
    let there = giving.note_here c.args.image.now t code notes c.in-Some.walk c.args.m.now c.args.s.now (suc n) above in
    giving.fork_few c.args.image.now t code notes c.in-Some.walk c.in-Fork.handle c.args.m.now c.args.s.now (suc n) (sym c.place.ensures ∙ c.in-Fork.is) above

pub returns-in-Fork-2-clause-step : goal.returns-in-Fork-2-clause-step
returns-in-Fork-2-clause-step g c t n code data_is gives =
    let notes = c.args.self.now.notes in
    let open_is : c.args.self.now.open ≡ Some c.in-Some.walk = sym (ap (λ (l : Threads). l.open) c.self.view_is) ∙ sym c.take.ensures.value ∙ c.in-Some.is in
    let here = giving.with_walk t notes c.args.self.now.open c.args.m.now c.args.s.now (suc n) c.in-Some.walk open_is gives in
    let same : c.self.inside.notes.items ≡ notes = ap (λ (l : Threads). l.notes) c.self.view_is in
    let above = giving.not_bottom c.args.image.now t code notes c.in-Some.walk c.in-Fork.handle c.args.m.now c.args.s.now (suc n) (sym c.place.ensures ∙ c.in-Fork.is) here in
    let there = giving.note_here c.args.image.now t code notes c.in-Some.walk c.args.m.now c.args.s.now (suc n) above in
    let listed : c.as_slice-in-Fork-2.result.now ≡ notes = c.as_slice-in-Fork-2.ensures.value ∙ same in
    let gone = c.go_below.ensures above.u.note (ap (λ (xs : List Note). slice_get xs c.in-Some.walk.thread) listed ∙ there) in
    (same, (gone_below c.in-Some.walk c.in-Fork.handle above.u.note.cell, ap Some gone.1, inl (inl (refl, inl (giving.lowered c.args.image.now t code notes c.in-Some.walk c.in-Fork.handle c.args.m.now c.args.s.now n above (sym c.place.ensures ∙ c.in-Fork.is) c.if-walk-eq1.false gone.0)))))

pub taken-chain-requires : goal.taken-chain-requires
taken-chain-requires g c =
    let may = c.requires.may in
    let t = may.t in
    let code = may.code in
    let n = may.n in
    let gives = may.gives in
    let notes = c.args.self.now.notes in
    let open_is : c.args.self.now.open ≡ Some c.in-Some.walk = sym (ap (λ (l : Threads). l.open) c.self.view_is) ∙ sym c.take.ensures.value ∙ c.in-Some.is in
    let here = giving.with_walk t notes c.args.self.now.open c.args.m.now c.args.s.now (suc n) c.in-Some.walk open_is gives in
    let bottom = giving.is_bottom c.args.image.now t code notes c.in-Some.walk c.args.m.now c.args.s.now (suc n) (sym c.place.ensures ∙ c.in-End.is) here in
    ap is_some bottom.is_chain

pub remove-bottom-requires : goal.remove-bottom-requires
remove-bottom-requires g c =
    let may = c.requires.may in
    let t = may.t in
    let code = may.code in
    let n = may.n in
    let gives = may.gives in
    let notes = c.args.self.now.notes in
    let open_is : c.args.self.now.open ≡ Some c.in-Some.walk = sym (ap (λ (l : Threads). l.open) c.self.view_is) ∙ sym c.take.ensures.value ∙ c.in-Some.is in
    let here = giving.with_walk t notes c.args.self.now.open c.args.m.now c.args.s.now (suc n) c.in-Some.walk open_is gives in
    let same : c.self.inside.notes.items ≡ notes = ap (λ (l : Threads). l.notes) c.self.view_is in
    let bottom = giving.is_bottom c.args.image.now t code notes c.in-Some.walk c.args.m.now c.args.s.now (suc n) (sym c.place.ensures ∙ c.in-End.is) here in
    let some = giving.got_inside_of notes c.self.inside.notes.items 0 t.taken.note same (giving.bottom_note c.args.image.now t code notes bottom.bottom) in
    let long = c.self.inside.notes.ok in
    omega (arith, some, long)

pub returns-in-End-clause-step : goal.returns-in-End-clause-step
returns-in-End-clause-step g c t n code data_is gives =
    let notes = c.args.self.now.notes in
    let open_is : c.args.self.now.open ≡ Some c.in-Some.walk = sym (ap (λ (l : Threads). l.open) c.self.view_is) ∙ sym c.take.ensures.value ∙ c.in-Some.is in
    let here = giving.with_walk t notes c.args.self.now.open c.args.m.now c.args.s.now (suc n) c.in-Some.walk open_is gives in
    let same : c.self.inside.notes.items ≡ notes = ap (λ (l : Threads). l.notes) c.self.view_is in
    let bottom = giving.is_bottom c.args.image.now t code notes c.in-Some.walk c.args.m.now c.args.s.now (suc n) (sym c.place.ensures ∙ c.in-End.is) here in
    let left = same ∙ giving.notes_left c.args.image.now t code notes bottom.bottom in
    (c.remove-bottom.ensures.items ∙ ap (λ (xs : List Note). remove xs 0) left, c.take.ensures.after, refl, giving.ended c.args.image.now t code notes c.in-Some.walk c.taken-chain.result c.args.m.now c.args.s.now (suc n) (sym c.place.ensures ∙ c.in-End.is) c.taken-chain.ensures bottom, bottom.stands)

pub invariant_of-self-in-End : goal.invariant_of-self-in-End
invariant_of-self-in-End g c =
    let some = c.self.invariant.some in
    let most = c.self.invariant.most in
    let reserved = c.self.invariant.reserved in
    let long = c.self.inside.notes.ok in
    let left = c.remove-bottom.new.self.ok in
    let fewer = c.remove-bottom.ensures.len in
    let room = c.remove-bottom.ensures.capacity in
    record { some = some; most = omega (arith, most, long, left, fewer); reserved = omega (arith, reserved, room) }
