-- A chain that was taken to run, over the views behind the steps with which it comes to run. Read come_over (the worker has it still), seen_wait (the cell at which it waits) and what its phases may ask.
use Rattle.std.proofs.Common.{◌≡◌, ◌⊎◌, inl, inr, ⊎_elim, ℕ, ◌<◌, List, [], ◌∷◌, Option, Some, refl, sym, ap, ◌∙◌, subst}
use Rattle.std.specs.List.{Contains}
use Rattle.st_base.specs.declared.chain.Chain.{Chain}
use Rattle.st_base.specs.declared.chain.Frame.{Frame}
use Rattle.st_base.specs.declared.chain.Note.{Note}
use Rattle.st_base.specs.declared.chain.Waiting.{Waiting}
use Rattle.st_base.specs.declared.chain.Waiting.TheVariants as waits
use Rattle.st_base.specs.declared.image.Image.{Image}
use Rattle.st_base.specs.declared.limits.Limits.{Limits}
use Rattle.st_base.specs.declared.thread.Thread.{Thread}
use Rattle.st_words.specs.declared.view.Carried.{Carried}
use Rattle.st_words.specs.declared.view.CellWord.TheVariants as words
use Rattle.st_words.specs.declared.view.View.{View}
use Rattle.st_words.specs.Encodings.{running, ready}
use Rattle.st_words.specs.Promises.{IsGoingOn}
use Rattle.st_words.specs.Safely.{Safe}
use Rattle.st_words.specs.Steps.{CellLoad, CellStore, IsLeased, home_of, return_place}
use Rattle.st_words.specs.Tidy.{Tidy}
use Rattle.st_words.proofs.Lists.{contains_none, contains_case, contains_here}
use Rattle.st_words.proofs.Safe.{load}
use Rattle.st_words.proofs.Waiting.{run_safe}
use Rattle.st_model.specs.declared.program.Program.{Program}
use Rattle.st_model.specs.Accepted.{IsAccepted}
use Rattle.st_model.specs.Memory.{Data}
use Rattle.st_step.specs.Runs.{AreWords}
use Rattle.st_chain.specs.Walk.{word_in}
use Rattle.st_chain.specs.Chains.{IsUnbegun, StandsFor, CanGoOn, saved_value}
use Rattle.st_chain.specs.Laws.{HasNames, AllSameHeld}
use Rattle.st_chain.proofs.Restarting.{stands_same}
use Rattle.st_framed.specs.Framed.{IsElsewhere}
use Rattle.st_cargo.specs.Cargo.{HasFrames}
use Rattle.st_run.specs.Meanings.{meaning}
use Rattle.st_phases.specs.declared.automaton.Automaton.{Automaton}
use Rattle.st_phases.specs.Waking.{cell_of}
use Rattle.st_fits.specs.Bags.{HasBag, units, with_chain}
use Rattle.st_fits.specs.Fits.{HasCome, IsToWait}
use Rattle.st_fits.specs.Laws.{MayAsk, IsReady}
use Rattle.st_kept.specs.Keeping.{Untouched}
use Rattle.st_kept.proofs.Standing.{none_kept}
use Rattle.st_kept.proofs.Stepping.{no_item_asks}

-- ---- the cell at which it waits

-- it has a name that the view has
seen_by : (p : Program) (d : Data) (limits : Limits) (u : View) (wait : Waiting) (chain : Chain) (thread : Thread) (frames : List Frame) (value : ℕ → ℕ) (pc fp : ℕ) → Tidy u → IsToWait p d limits wait → StandsFor p u.names u.held wait pc fp value thread frames → cell_of wait < u.cells
seen_by p d limits u (waits.Touch cell) chain thread frames value pc fp tidy to (ahead, far, (path, there, named), keeps, newest) = tidy.names.below _ cell named
seen_by p d limits u (waits.Join cell least) chain thread frames value pc fp tidy to (ahead, far, (maker, number, there, named, count), keeps, newest) = tidy.names.below _ cell named
seen_by p d limits u waits.Ready chain thread frames value pc fp tidy to stands = absurd to
seen_by p d limits u waits.Start chain thread frames value pc fp tidy to stands = absurd to
seen_by p d limits u waits.Trapped chain thread frames value pc fp tidy to stands = absurd to

unbegun_waits : (p : Program) (d : Data) (limits : Limits) (chain : Chain) (thread : Thread) (frames : List Frame) → IsUnbegun p d chain thread frames → IsToWait p d limits chain.wait → ⊥
unbegun_waits p d limits chain thread frames is to = subst (IsToWait p d limits) is.wait to

pub seen_wait : (p : Program) (d : Data) (limits : Limits) (u : View) (chain : Chain) (x : Carried) (frames : List Frame) → Tidy u → IsToWait p d limits chain.wait → HasFrames p d u chain x frames → cell_of chain.wait < u.cells
seen_wait p d limits u chain x frames tidy to has = ⊎_elim
    (λ unbegun. absurd (unbegun_waits p d limits chain x.known.thread frames unbegun to))
    (λ begun. seen_by p d limits u chain.wait chain x.known.thread frames (saved_value chain.saved) chain.pc chain.fp tidy to begun.0) has.stands

-- ---- what its phases may ask

module _ (p : Program) (d : Data) (limits : Limits) (image : Image) (input : List ℕ) (x : Automaton) (u : View) (ready_is : IsReady p d limits image input x u) (chain : Chain) where
  of_cell : (k : Carried) (frames : List Frame) → HasFrames p d u chain k frames → k.known.note.cell ≡ chain.cell
  of_cell k frames has = ap (λ (n : Note). n.cell) has.note ∙ has.cell

  pub may_run : (standing : ℕ) → (standing ≡ running) ⊎ (standing ≡ ready) → HasCome p d limits chain standing x u → MayAsk p d limits u (CellStore chain.cell words.Standing running)
  may_run standing going come =
      let has = come.carries.has in
      let cell = of_cell come.carried come.frames has in
      let below = come.carries.below in
      let goes : IsGoingOn come.carried = ⊎_elim (λ e. inl (come.carries.stands ∙ ap (λ n. Some n) e)) (λ e. inr (come.carries.stands ∙ ap (λ n. Some n) e)) going in
      no_item_asks p d limits u (CellStore chain.cell words.Standing running) tt
      (subst (λ c. Safe (meaning p d limits) u (CellStore c words.Standing running)) cell (run_safe (meaning p d limits) u come.carried has.there (subst (λ c. c < u.cells) (sym cell) below) goes))

  pub may_see : (standing : ℕ) → HasCome p d limits chain standing x u → IsToWait p d limits chain.wait → MayAsk p d limits u (CellLoad (cell_of chain.wait) words.State)
  may_see standing come to = no_item_asks p d limits u (CellLoad (cell_of chain.wait) words.State) tt (load (meaning p d limits) u (cell_of chain.wait) words.State (seen_wait p d limits u chain come.carried come.frames ready_is.tidy to come.carries.has))

  pub may_get : (standing : ℕ) → HasCome p d limits chain standing x u → IsToWait p d limits chain.wait → MayAsk p d limits u (CellLoad (cell_of chain.wait) words.Value)
  may_get standing come to = no_item_asks p d limits u (CellLoad (cell_of chain.wait) words.Value) tt (load (meaning p d limits) u (cell_of chain.wait) words.Value (seen_wait p d limits u chain come.carried come.frames ready_is.tidy to come.carries.has))

-- ---- over the view behind a step

pub same_held : (held : List (Option ℕ)) (fs : List Frame) → AllSameHeld held held fs
same_held held [] = tt
same_held held (f ∷ fs) = (record { held = λ q inside is. is; words = λ q inside. refl }, same_held held fs)

-- the same words and frames, and more names
pub stands_over : (p : Program) (d : Data) (chain : Chain) (u v : View) (thread : Thread) (frames : List Frame) → IsAccepted p → v.held ≡ u.held → HasNames u.names v.names
    → IsUnbegun p d chain thread frames ⊎ (StandsFor p u.names u.held chain.wait chain.pc chain.fp (saved_value chain.saved) thread frames × CanGoOn p chain.wait thread)
    → IsUnbegun p d chain thread frames ⊎ (StandsFor p v.names v.held chain.wait chain.pc chain.fp (saved_value chain.saved) thread frames × CanGoOn p chain.wait thread)
stands_over p d chain u v thread frames accepted held names (inl unbegun) = inl unbegun
stands_over p d chain u v thread frames accepted held names (inr (stands, can)) = inr (
  stands_same u.names v.names names p u.held v.held chain.wait chain.pc chain.fp (saved_value chain.saved) (saved_value chain.saved) thread frames accepted (subst (λ h. AllSameHeld u.held h frames) (sym held) (same_held u.held frames)) (λ r kept. refl) stands,
  can,
)

-- the chain of the turn has another Standing word
abbrev pub standing_at : ℕ → Carried → Carried
standing_at n k = record k { standing = Some n }

module _ (p : Program) (d : Data) (limits : Limits) (chain : Chain) (x y : Automaton) (u v : View) (accepted : IsAccepted p) (are : AreWords (word_in v.held)) (machine : y.machine ≡ x.machine) (stack : y.stack ≡ x.stack) (untouched : Untouched u v) (threads : v.threads ≡ u.threads) where
  leased_over : (f : Frame) → IsLeased u f → IsLeased v f
  leased_over f (inl at) = inl (subst (λ (fs : List Frame). Contains fs f) (sym untouched.exported) at)
  leased_over f (inr at) = inr (subst (λ (fs : List Frame). Contains fs f) (sym untouched.away) at)

  pub come_over : (before after : ℕ) (come : HasCome p d limits chain before x u) → v.chains ≡ standing_at after come.carried ∷ [] → HasBag (with_chain (standing_at after come.carried) (units 1)) v → HasCome p d limits chain after y v
  come_over before after come chains bag =
      let has = come.carries.has in
      let k = standing_at after come.carried in
      record {
        carried = k;
        frames = come.frames;
        carries = record {
          only = chains;
          has = record {
            there = subst (λ (ks : List Carried). Contains ks k) (sym chains) (contains_here k []);
            single = λ z at cell. ⊎_elim (λ (same : k ≡ z). sym same) (λ (never : Contains [] z). absurd (contains_none z never)) (contains_case z k [] (subst (λ (ks : List Carried). Contains ks z) chains at));
            note = has.note;
            cell = has.cell;
            wait = has.wait;
            stands = stands_over p d chain u v come.carried.known.thread come.frames accepted untouched.held untouched.names has.stands;
            begun = has.begun;
            leased = λ f at. leased_over f (has.leased f at);
            own = λ f at home. subst (λ (fs : List Frame). Contains fs f) (sym untouched.exported) (has.own f at (ap (λ n. home_of n (return_place f)) (sym untouched.each) ∙ home ∙ untouched.number));
            knows = λ name is there. let (c, at) = has.knows name is there in (c, untouched.names name c at);
          };
          stands = refl;
          below = subst (λ n. chain.cell < n) (sym untouched.cells) come.carries.below;
        };
        bag = bag;
        goes = come.goes;
        none = none_kept p d x y u v accepted are machine stack untouched threads come.frames come.none;
        may = record {
          apart = come.may.apart;
          some = come.may.some;
          others = λ f at. subst (λ s. Contains s.exported f ⊎ IsElsewhere s.lo s.hi f) (sym stack) (come.may.others f at);
        };
      }
