use Rattle.std.proofs.Common.{◌≡◌, ◌+◌, ◌<◌, List, None, Some, suc, is_some, length, refl, inl, ap, sym, ◌∙◌, subst}
use Rattle.st_base.specs.declared.chain.Chain.{Chain}
use Rattle.st_base.specs.declared.chain.Note.{Note}
use Rattle.st_base.specs.declared.chain.Waiting.TheVariants as waits
use Rattle.st_model.specs.Memory.{Data}
use Rattle.st_words.specs.Made.{Asked, StepMade}
use Rattle.st_step.specs.declared.state.State.{State}
use Rattle.st_chain.specs.declared.walk.Walk.{Walk}
use Rattle.st_chain.specs.Copying.{MayCopy, Copied}
use Rattle.st_chain.specs.Logical.{Threads, restarted}
use Rattle.st_chain.specs.Places.{Joins, begun, counted, frame_of, chain_at, downward}
use Rattle.st_chain.specs.Taking.{Suspending, IsTaken, NextGoesOn, Cuts}
use Rattle.st_chain.proofs.ForkPlaces.{forks_rise}
use Rattle.st_chain.proofs.Suspending as suspending
use Rattle.st_chain.proofs.logical.Logical.suspend_step.Goals as goal

pub first_walk-requires-clause-some : goal.first_walk-requires-clause-some
first_walk-requires-clause-some g c =
    let may = c.requires.may in
    let open_is : c.args.self.now.open ≡ None = sym (ap (λ (l : Threads). l.open) c.self.view_is) ∙ sym c.take.ensures.value ∙ c.in_default.is in
    let can = suspending.without_walk may.t c.args.wait c.args.self.now.notes c.args.self.now.notes c.args.self.now.open c.args.m.now c.args.s.now (suc may.n) refl open_is may.suspends in
    let notes_are : c.as_slice.result.now ≡ c.args.self.now.notes = c.as_slice.ensures.value ∙ ap (λ (l : Threads). l.notes) c.self.view_is in
    subst (λ (xs : List Note). 0 < length xs) (sym notes_are) (suspending.some_notes may.t c.args.self.now.notes can.top)

pub first_walk-requires-clause-place : goal.first_walk-requires-clause-place
first_walk-requires-clause-place g c =
    let may = c.requires.may in
    let open_is : c.args.self.now.open ≡ None = sym (ap (λ (l : Threads). l.open) c.self.view_is) ∙ sym c.take.ensures.value ∙ c.in_default.is in
    let can = suspending.without_walk may.t c.args.wait c.args.self.now.notes c.args.self.now.notes c.args.self.now.open c.args.m.now c.args.s.now (suc may.n) refl open_is may.suspends in
    suspending.place_few c.args.image.now may.t may.code c.args.self.now.notes c.args.m.now c.args.s.now c.args.wait (suc may.n) can

pub invariant_of-self : goal.invariant_of-self
invariant_of-self g c = c.self.invariant

pub returns-in_default-clause-step : goal.returns-in_default-clause-step
returns-in_default-clause-step g c t n code data_is suspends =
    let notes = c.args.self.now.notes in
    let open_is : c.args.self.now.open ≡ None = sym (ap (λ (l : Threads). l.open) c.self.view_is) ∙ sym c.take.ensures.value ∙ c.in_default.is in
    let can = suspending.without_walk t c.args.wait notes notes c.args.self.now.open c.args.m.now c.args.s.now (suc n) refl open_is suspends in
    let same : c.self.inside.notes.items ≡ notes = ap (λ (l : Threads). l.notes) c.self.view_is in
    let walk_is = c.first_walk.ensures _ t.taken.note (c.as_slice.ensures.value ∙ same ∙ suspending.top_notes t notes can.top) in
    (same, refl, (c.first_walk.result, refl, inl (refl, subst (λ (w : Walk). Suspending t notes w c.args.m.now c.args.s.now n) (sym walk_is) (suspending.starts c.args.image.now t code notes c.args.m.now c.args.s.now c.args.wait n can))))

pub returns-in_default-clause-room : goal.returns-in_default-clause-room
returns-in_default-clause-room g c = ap (λ (l : Threads). l.room) c.self.view_is

pub returns-in_default-clause-ends : goal.returns-in_default-clause-ends
returns-in_default-clause-ends g c = (refl, refl)

pub returns-in_default-clause-stays : goal.returns-in_default-clause-stays
returns-in_default-clause-stays g c f there = there

pub place-requires : goal.place-requires
place-requires g c = let may = c.requires.may in forks_rise may.t.p c.args.image.now may.code

pub go_on-requires : goal.go_on-requires
go_on-requires g c =
    let may = c.requires.may in
    let notes = c.args.self.now.notes in
    let open_is : c.args.self.now.open ≡ Some c.in-Some.walk = sym (ap (λ (l : Threads). l.open) c.self.view_is) ∙ sym c.take.ensures.value ∙ c.in-Some.is in
    let here = suspending.with_walk may.t c.args.wait notes notes c.args.self.now.open c.in-Some.walk c.args.m.now c.args.s.now (suc may.n) refl open_is may.suspends in
    record { copying = subst (λ (d : Data). MayCopy (λ x. Asked g.B.Board.view g.B.Board.serves g.B.Board.says g.B.Board.forward g.B.Board.moves g.N.NamesView.after c.args.board.now c.args.w x) c.args.image.now d c.in-Some.walk.machine) may.data_is (suspending.may_go c.args.image.now may.t may.code notes (λ x. Asked g.B.Board.view g.B.Board.serves g.B.Board.says g.B.Board.forward g.B.Board.moves g.N.NamesView.after c.args.board.now c.args.w x) c.in-Some.walk c.args.m.now c.args.s.now (suc may.n) (sym c.place.ensures ∙ c.in-Copy.is) may.loads here) }

pub invariant_of-self-in-Copy : goal.invariant_of-self-in-Copy
invariant_of-self-in-Copy g c = c.self.invariant

pub begin-requires-clause-ascending : goal.begin-requires-clause-ascending
begin-requires-clause-ascending g c = let may = c.requires.may in suspending.rows_in may.t.p c.args.image.now may.code

pub begin-requires-clause-found : goal.begin-requires-clause-found
begin-requires-clause-found g c =
    let may = c.requires.may in
    let notes = c.args.self.now.notes in
    let open_is : c.args.self.now.open ≡ Some c.in-Some.walk = sym (ap (λ (l : Threads). l.open) c.self.view_is) ∙ sym c.take.ensures.value ∙ c.in-Some.is in
    let here = suspending.with_walk may.t c.args.wait notes notes c.args.self.now.open c.in-Some.walk c.args.m.now c.args.s.now (suc may.n) refl open_is may.suspends in
    let b = suspending.begins c.args.image.now may.t may.code notes c.in-Some.walk c.args.m.now c.args.s.now may.n (sym c.place.ensures ∙ c.in-Frame.is) here in
    ap is_some b.found

pub begin-requires-clause-may : goal.begin-requires-clause-may
begin-requires-clause-may g c row there taken on =
    let may = c.requires.may in
    let notes = c.args.self.now.notes in
    let open_is : c.args.self.now.open ≡ Some c.in-Some.walk = sym (ap (λ (l : Threads). l.open) c.self.view_is) ∙ sym c.take.ensures.value ∙ c.in-Some.is in
    let here = suspending.with_walk may.t c.args.wait notes notes c.args.self.now.open c.in-Some.walk c.args.m.now c.args.s.now (suc may.n) refl open_is may.suspends in
    let b = suspending.begins c.args.image.now may.t may.code notes c.in-Some.walk c.args.m.now c.args.s.now may.n (sym c.place.ensures ∙ c.in-Frame.is) here in
    suspending.may_row c.args.s.now c.in-Some.walk b.row row (sym b.found ∙ there) b.may on

pub invariant_of-self-in-Frame : goal.invariant_of-self-in-Frame
invariant_of-self-in-Frame g c = c.self.invariant

pub cut-requires-clause-few : goal.cut-requires-clause-few
cut-requires-clause-few g c =
    let may = c.requires.may in
    let notes = c.args.self.now.notes in
    let open_is : c.args.self.now.open ≡ Some c.in-Some.walk = sym (ap (λ (l : Threads). l.open) c.self.view_is) ∙ sym c.take.ensures.value ∙ c.in-Some.is in
    let here = suspending.with_walk may.t c.args.wait notes notes c.args.self.now.open c.in-Some.walk c.args.m.now c.args.s.now (suc may.n) refl open_is may.suspends in
    (suspending.may_cut c.args.image.now may.t may.code notes (λ x. Asked g.B.Board.view g.B.Board.serves g.B.Board.says g.B.Board.forward g.B.Board.moves g.N.NamesView.after c.args.board.now c.args.w x) c.in-Some.walk c.in-Fork.handle c.args.m.now c.args.s.now (suc may.n) (sym c.place.ensures ∙ c.in-Fork.is) may.cut here).few

pub cut-requires-clause-may : goal.cut-requires-clause-may
cut-requires-clause-may g c =
    let may = c.requires.may in
    let notes = c.args.self.now.notes in
    let open_is : c.args.self.now.open ≡ Some c.in-Some.walk = sym (ap (λ (l : Threads). l.open) c.self.view_is) ∙ sym c.take.ensures.value ∙ c.in-Some.is in
    let here = suspending.with_walk may.t c.args.wait notes notes c.args.self.now.open c.in-Some.walk c.args.m.now c.args.s.now (suc may.n) refl open_is may.suspends in
    (suspending.may_cut c.args.image.now may.t may.code notes (λ x. Asked g.B.Board.view g.B.Board.serves g.B.Board.says g.B.Board.forward g.B.Board.moves g.N.NamesView.after c.args.board.now c.args.w x) c.in-Some.walk c.in-Fork.handle c.args.m.now c.args.s.now (suc may.n) (sym c.place.ensures ∙ c.in-Fork.is) may.cut here).may

pub taken-chain-requires : goal.taken-chain-requires
taken-chain-requires g c =
    let may = c.requires.may in
    let notes = c.args.self.now.notes in
    let open_is : c.args.self.now.open ≡ Some c.in-Some.walk = sym (ap (λ (l : Threads). l.open) c.self.view_is) ∙ sym c.take.ensures.value ∙ c.in-Some.is in
    suspending.has_chain may.t notes c.in-Some.walk c.args.m.now c.args.s.now (suc may.n) (suspending.with_walk may.t c.args.wait notes notes c.args.self.now.open c.in-Some.walk c.args.m.now c.args.s.now (suc may.n) refl open_is may.suspends)

pub go_down-requires : goal.go_down-requires
go_down-requires g c =
    let may = c.requires.may in
    let notes = c.args.self.now.notes in
    let open_is : c.args.self.now.open ≡ Some c.in-Some.walk = sym (ap (λ (l : Threads). l.open) c.self.view_is) ∙ sym c.take.ensures.value ∙ c.in-Some.is in
    let here = suspending.with_walk may.t c.args.wait notes notes c.args.self.now.open c.in-Some.walk c.args.m.now c.args.s.now (suc may.n) refl open_is may.suspends in
    (suspending.may_cut c.args.image.now may.t may.code notes (λ x. Asked g.B.Board.view g.B.Board.serves g.B.Board.says g.B.Board.forward g.B.Board.moves g.N.NamesView.after c.args.board.now c.args.w x) c.in-Some.walk c.in-Fork.handle c.args.m.now c.args.s.now (suc may.n) (sym c.place.ensures ∙ c.in-Fork.is) may.cut here).place

pub invariant_of-self-in-Fork : goal.invariant_of-self-in-Fork
invariant_of-self-in-Fork g c = c.self.invariant

pub taken-chain-requires-in-End : goal.taken-chain-requires-in-End
taken-chain-requires-in-End g c =
    let may = c.requires.may in
    let notes = c.args.self.now.notes in
    let open_is : c.args.self.now.open ≡ Some c.in-Some.walk = sym (ap (λ (l : Threads). l.open) c.self.view_is) ∙ sym c.take.ensures.value ∙ c.in-Some.is in
    suspending.has_chain may.t notes c.in-Some.walk c.args.m.now c.args.s.now (suc may.n) (suspending.with_walk may.t c.args.wait notes notes c.args.self.now.open c.in-Some.walk c.args.m.now c.args.s.now (suc may.n) refl open_is may.suspends)

pub invariant_of-self-in-End : goal.invariant_of-self-in-End
invariant_of-self-in-End g c = c.self.invariant

pub returns-in-Copy-clause-step : goal.returns-in-Copy-clause-step
returns-in-Copy-clause-step g c t n code data_is suspends =
    let notes = c.args.self.now.notes in
    let open_is : c.args.self.now.open ≡ Some c.in-Some.walk = sym (ap (λ (l : Threads). l.open) c.self.view_is) ∙ sym c.take.ensures.value ∙ c.in-Some.is in
    let here = suspending.with_walk t c.args.wait notes notes c.args.self.now.open c.in-Some.walk c.args.m.now c.args.s.now (suc n) refl open_is suspends in
    let copied = subst (λ (d : Data). Copied (λ x a b. StepMade g.B.Board.view g.B.Board.serves g.B.Board.says g.B.Board.did g.N.NamesView.after c.args.board.now c.args.w x a b) c.args.board.now c.args.image.now d c.in-Some.walk.machine c.go_on.new.self.machine c.go_on.new.board) (sym data_is) c.go_on.ensures.copied in (
      ap (λ (l : Threads). l.notes) c.self.view_is,
      refl,
      (
        record c.in-Some.walk { machine = c.go_on.new.self.machine; stage = counted c.in-Some.walk.stage },
        ap Some c.go_on.ensures.rest,
        suspending.went_on c.args.image.now t code notes (λ x a b. StepMade g.B.Board.view g.B.Board.serves g.B.Board.says g.B.Board.did g.N.NamesView.after c.args.board.now c.args.w x a b) c.args.board.now c.go_on.new.board c.in-Some.walk c.go_on.new.self.machine c.args.m.now c.args.s.now n (sym c.place.ensures ∙ c.in-Copy.is) copied here,
      ),
    )

pub returns-in-Copy-clause-room : goal.returns-in-Copy-clause-room
returns-in-Copy-clause-room g c = ap (λ (l : Threads). l.room) c.self.view_is

pub returns-in-Copy-clause-ends : goal.returns-in-Copy-clause-ends
returns-in-Copy-clause-ends g c = (refl, refl)

pub returns-in-Copy-clause-stays : goal.returns-in-Copy-clause-stays
returns-in-Copy-clause-stays g c f there = there

pub returns-in-Frame-clause-step : goal.returns-in-Frame-clause-step
returns-in-Frame-clause-step g c t n code data_is suspends =
    let notes = c.args.self.now.notes in
    let open_is : c.args.self.now.open ≡ Some c.in-Some.walk = sym (ap (λ (l : Threads). l.open) c.self.view_is) ∙ sym c.take.ensures.value ∙ c.in-Some.is in
    let here = suspending.with_walk t c.args.wait notes notes c.args.self.now.open c.in-Some.walk c.args.m.now c.args.s.now (suc n) refl open_is suspends in
    let b = suspending.begins c.args.image.now t code notes c.in-Some.walk c.args.m.now c.args.s.now n (sym c.place.ensures ∙ c.in-Frame.is) here in
    let taken = suspending.has_chain t notes c.in-Some.walk c.args.m.now c.args.s.now (suc n) here in
    let joins = subst (λ x. Joins x c.args.s.now (frame_of b.row c.in-Some.walk.machine) c.begin.new.s) taken (c.begin.ensures.exports b.row b.found) in
    (ap (λ (l : Threads). l.notes) c.self.view_is, refl, (begun b.row c.in-Some.walk, ap Some (c.begin.ensures.walk b.row b.found), inl (refl, b.next c.begin.new.s joins)))

pub returns-in-Frame-clause-room : goal.returns-in-Frame-clause-room
returns-in-Frame-clause-room g c = ap (λ (l : Threads). l.room) c.self.view_is

pub returns-in-Frame-clause-ends : goal.returns-in-Frame-clause-ends
returns-in-Frame-clause-ends g c =
    let may = c.requires.may in
    let notes = c.args.self.now.notes in
    let open_is : c.args.self.now.open ≡ Some c.in-Some.walk = sym (ap (λ (l : Threads). l.open) c.self.view_is) ∙ sym c.take.ensures.value ∙ c.in-Some.is in
    let here = suspending.with_walk may.t c.args.wait notes notes c.args.self.now.open c.in-Some.walk c.args.m.now c.args.s.now (suc may.n) refl open_is may.suspends in
    let b = suspending.begins c.args.image.now may.t may.code notes c.in-Some.walk c.args.m.now c.args.s.now may.n (sym c.place.ensures ∙ c.in-Frame.is) here in
    let joins = c.begin.ensures.exports b.row b.found in
    (joins.lo, joins.hi)

pub returns-in-Frame-clause-stays : goal.returns-in-Frame-clause-stays
returns-in-Frame-clause-stays g c f there =
    let may = c.requires.may in
    let notes = c.args.self.now.notes in
    let open_is : c.args.self.now.open ≡ Some c.in-Some.walk = sym (ap (λ (l : Threads). l.open) c.self.view_is) ∙ sym c.take.ensures.value ∙ c.in-Some.is in
    let here = suspending.with_walk may.t c.args.wait notes notes c.args.self.now.open c.in-Some.walk c.args.m.now c.args.s.now (suc may.n) refl open_is may.suspends in
    let b = suspending.begins c.args.image.now may.t may.code notes c.in-Some.walk c.args.m.now c.args.s.now may.n (sym c.place.ensures ∙ c.in-Frame.is) here in
    let joins = c.begin.ensures.exports b.row b.found in
    joins.stay f there

pub returns-in-Fork-clause-step : goal.returns-in-Fork-clause-step
returns-in-Fork-clause-step g c t n code data_is suspends =
    let notes = c.args.self.now.notes in
    let open_is : c.args.self.now.open ≡ Some c.in-Some.walk = sym (ap (λ (l : Threads). l.open) c.self.view_is) ∙ sym c.take.ensures.value ∙ c.in-Some.is in
    let here = suspending.with_walk t c.args.wait notes notes c.args.self.now.open c.in-Some.walk c.args.m.now c.args.s.now (suc n) refl open_is suspends in
    let same : c.self.inside.notes.items ≡ notes = ap (λ (l : Threads). l.notes) c.self.view_is in
    let left = suspending.left_notes t c.self.inside.notes.items c.pop-top.new.self.notes c.pop-top.result (suspending.top_of t notes c.self.inside.notes.items (sym same) here.top) c.pop-top.ensures.popped in
    let down = ap (λ (w : Walk). w.machine) c.go_down.ensures in
    let place : c.pc.result ≡ c.in-Some.walk.machine.pc + 4 = c.pc.ensures ∙ ap (λ (m : State). m.pc) down in
    let next = c.chain_at-next.ensures ∙ (λ i. chain_at (down i) (place i) c.taken-chain.result.note waits.Ready) in
    let machine : c.put_chain.new.m ≡ restarted (chain_at (downward c.in-Some.walk.machine c.in-Fork.handle c.taken-chain.result.cell) (c.in-Some.walk.machine.pc + 4) c.taken-chain.result.note waits.Ready) c.args.m.now = c.put_chain.ensures.machine ∙ ap (λ (x : Chain). restarted x c.args.m.now) next in (
      left,
      c.pop-top.ensures.stays ∙ c.take.ensures.after,
      suspending.chain_place t notes c.in-Some.walk c.taken-chain.result c.args.m.now c.args.s.now (suc n) c.taken-chain.ensures here,
      subst (λ (m : State). Cuts (λ x a b. StepMade g.B.Board.view g.B.Board.serves g.B.Board.says g.B.Board.did g.N.NamesView.after c.args.board.now c.args.w x a b) c.args.board.now t t.below c.cut.new.board (λ held. IsTaken t held c.taken-chain.result c.args.s.now × NextGoesOn t held t.below t.below_frames c.args.m.now m)) (sym machine)
          (suspending.forked c.args.image.now t code notes (λ x a b. StepMade g.B.Board.view g.B.Board.serves g.B.Board.says g.B.Board.did g.N.NamesView.after c.args.board.now c.args.w x a b) c.args.board.now c.cut.new.board c.in-Some.walk c.taken-chain.result c.in-Fork.handle c.taken-chain.result.note waits.Ready c.args.m.now c.args.s.now (suc n) (sym c.place.ensures ∙ c.in-Fork.is) c.taken-chain.ensures c.cut.ensures.made here),
    )

pub returns-in-Fork-clause-room : goal.returns-in-Fork-clause-room
returns-in-Fork-clause-room g c = c.pop-top.ensures.room ∙ ap (λ (l : Threads). l.room) c.self.view_is

pub returns-in-Fork-clause-ends : goal.returns-in-Fork-clause-ends
returns-in-Fork-clause-ends g c = (refl, refl)

pub returns-in-Fork-clause-stays : goal.returns-in-Fork-clause-stays
returns-in-Fork-clause-stays g c f there = there

pub returns-in-End-clause-step : goal.returns-in-End-clause-step
returns-in-End-clause-step g c t n code data_is suspends =
    let notes = c.args.self.now.notes in
    let open_is : c.args.self.now.open ≡ Some c.in-Some.walk = sym (ap (λ (l : Threads). l.open) c.self.view_is) ∙ sym c.take.ensures.value ∙ c.in-Some.is in
    let here = suspending.with_walk t c.args.wait notes notes c.args.self.now.open c.in-Some.walk c.args.m.now c.args.s.now (suc n) refl open_is suspends in
    let same : c.self.inside.notes.items ≡ notes = ap (λ (l : Threads). l.notes) c.self.view_is in
    let left = suspending.left_notes t c.self.inside.notes.items c.pop-top-in-End.new.self.notes c.pop-top-in-End.result (suspending.top_of t notes c.self.inside.notes.items (sym same) here.top) c.pop-top-in-End.ensures.popped in (
      left,
      c.pop-top-in-End.ensures.stays ∙ c.take.ensures.after,
      suspending.chain_place t notes c.in-Some.walk c.taken-chain-in-End.result c.args.m.now c.args.s.now (suc n) c.taken-chain-in-End.ensures here,
      suspending.ended c.args.image.now t code notes (λ x a b. StepMade g.B.Board.view g.B.Board.serves g.B.Board.says g.B.Board.did g.N.NamesView.after c.args.board.now c.args.w x a b) c.args.board.now c.in-Some.walk c.taken-chain-in-End.result c.args.m.now c.args.s.now (suc n) (sym c.place.ensures ∙ c.in-End.is) c.taken-chain-in-End.ensures here,
    )

pub returns-in-End-clause-room : goal.returns-in-End-clause-room
returns-in-End-clause-room g c = c.pop-top-in-End.ensures.room ∙ ap (λ (l : Threads). l.room) c.self.view_is

pub returns-in-End-clause-ends : goal.returns-in-End-clause-ends
returns-in-End-clause-ends g c = (refl, refl)

pub returns-in-End-clause-stays : goal.returns-in-End-clause-stays
returns-in-End-clause-stays g c f there = there

pub returns-in_default-clause-values : goal.returns-in_default-clause-values
returns-in_default-clause-values g c values = values

pub returns-in-Copy-clause-values : goal.returns-in-Copy-clause-values
returns-in-Copy-clause-values g c values = values

pub returns-in-Frame-clause-values : goal.returns-in-Frame-clause-values
returns-in-Frame-clause-values g c values = values

pub returns-in-Fork-clause-values : goal.returns-in-Fork-clause-values
returns-in-Fork-clause-values g c values = c.put_chain.ensures.values values

pub returns-in-End-clause-values : goal.returns-in-End-clause-values
returns-in-End-clause-values g c values = values
