-- The laws over words that are held and names hold: each is that of a lemma. A stored return word cuts a frame (stored_cut).
use Rattle.std.proofs.Common.{◌≡◌, ◌≢◌, ◌⊎◌, inl, inr, ℕ, ◌+◌, ◌<◌, true, List, [], ◌∷◌, length, Option, Some, None, is_some, zero, suc, slice_index_or, slice_set, refl, ap, sym, ◌∙◌, subst, arith}
use Rattle.std.proofs.lemmas.List.{get_or-set_same, get_or-set_other}
use Rattle.st_base.specs.declared.chain.Frame.{Frame}
use Rattle.st_model.specs.Accepted.{HasFrame}
use Rattle.st_words.specs.Steps.{kept}
use Rattle.st_step.specs.Frames.{value_in}
use Rattle.st_step.specs.Runs.{return_word}
use Rattle.st_items.specs.Body.{SeesOutside}
use Rattle.st_items.proofs.ItemCode.{formed_of}
use Rattle.st_chain.specs.Walk.{word_in, is_held, number_or, named_by, Below}
use Rattle.st_chain.specs.Threads.{AtEnd, Lower}
use Rattle.st_chain.specs.Seen.{AllSame, IsCut, IsEven}
use Rattle.st_chain.specs.Chains.{StandsFor}
use Rattle.st_chain.specs.Logical.{restarted}
use Rattle.st_chain.specs.Laws.{StandsSame, LowerSame, OlderUnseen, ThreadCut, CopiesGive, Restarts, RestartStands}
use Rattle.st_chain.proofs.Frames as frame
use Rattle.st_chain.proofs.Outside as outside
use Rattle.st_chain.proofs.Cutting as cutting
use Rattle.st_chain.proofs.Copying as copying
use Rattle.st_chain.proofs.Restarting as restarting

pub stands_same : StandsSame
stands_same p names names' held held' wait pc fp value value' thread frames accepted more all same stands = restarting.stands_same names names' more p held held' wait pc fp value value' thread frames accepted all same stands

pub lower_same : LowerSame
lower_same p names names' held held' cell ts frames kind kept value value' fp ret accepted more all same lower =
    frame.lower_same p (named_by names) (named_by names') more (is_held held) (is_held held') (word_in held) (word_in held') accepted ts frames cell all kind kept value value' fp ret same lower

pub older_unseen : OlderUnseen
older_unseen p names held f older fs cell ts frames accepted even apart apart_lower = outside.sees_outside p (named_by names) (is_held held) accepted f even older fs cell ts frames apart apart_lower

pub restarts : Restarts
restarts c m has = restarting.restarts c m has

pub restart_stands : RestartStands
restart_stands p d c cargo names held m accepted has begun more all (inl root, open') = absurd (begun root.wait)
restart_stands p d c cargo names held m accepted has begun more all (inr (walks, can), open') =
    let is = restarting.restarts c m has in
    let saved = is.saved in
    let stands = restarting.stands_same cargo.names names more p cargo.words held c.wait c.pc c.fp _ _ cargo.carried.known.thread cargo.frames accepted all saved walks in
    (subst (λ (n : ℕ). StandsFor p names held c.wait c.pc n (value_in (restarted c m)) cargo.carried.known.thread cargo.frames) (sym is.fp) stands, can)

-- ---- a cut

within : (held : List (Option ℕ)) (q : ℕ) → is_some (slice_index_or held q None) ≡ true → q < length held
within [] q is = absurd (let never : ⊥ = cc in never)
within (x ∷ held) zero is = omega arith
within (x ∷ held) (suc q) is = let rest = within held q is in omega arith

pub stored_cut : (held : List (Option ℕ)) (g : Frame) → is_held held (return_word g.base) ≡ true → IsCut (word_in held) (word_in (slice_set held (return_word g.base) (Some 0x30))) g
stored_cut held g is = record {
  cut = ap number_or (get_or-set_same held (return_word g.base) (Some 0x30) None (within held (return_word g.base) is));
  others = λ q other. ap number_or (sym (get_or-set_other held (return_word g.base) q (Some 0x30) None other));
}

pub still_held : (held : List (Option ℕ)) (p q : ℕ) → is_held held p ≡ true → (q ≡ p) ⊎ (q ≢ p) → is_held held q ≡ true → is_held (slice_set held p (Some 0x30)) q ≡ true
still_held held p q is (inl same) here = ap (is_held (slice_set held p (Some 0x30))) same ∙ ap is_some (get_or-set_same held p (Some 0x30) None (within held p is))
still_held held p q is (inr other) here = ap is_some (get_or-set_other held p q (Some 0x30) None other) ∙ here

pub decide : (p q : ℕ) → (q ≡ p) ⊎ (q ≢ p)
decide p q = grind arith

more_held : (held held' : List (Option ℕ)) → ((q : ℕ) → is_held held q ≡ true → is_held held' q ≡ true) → (fs : List Frame) → AllSame (is_held held) (is_held held') (word_in held') (word_in held') fs
more_held held held' more [] = tt
more_held held held' more (f ∷ fs) = (record { held = λ q inside. more q; words = λ q inside. refl }, more_held held held' more fs)

pub thread_cut : ThreadCut
thread_cut p names held g f fs cell ts frames ahead pc fp value acts accepted whole last is newest =
    let q = return_word g.base in
    let held' = slice_set held q (Some 0x30) in
    let below = Lower p (named_by names) (is_held held) cell ts frames in
    let alone = cutting.newest_cut p (named_by names) (is_held held) (word_in held) (word_in held') g accepted whole (stored_cut held g is) below (cutting.lower_first p (named_by names) (is_held held) cell ts frames) ahead pc fp value acts f fs last newest in
    frame.newest_same p (named_by names) (named_by names) (λ name n has. has) (is_held held) (is_held held') (word_in held') (word_in held') accepted AtEnd AtEnd (frame.end_same p (named_by names) (named_by names) (λ name n has. has) (is_held held) (is_held held') (word_in held') (word_in held') accepted) acts (f ∷ fs) ahead pc fp value value
    (more_held held held' (λ r. still_held held q r is (decide q r)) (f ∷ fs)) (λ x kept. refl) alone

-- ---- a copy

pub copies_give : CopiesGive
copies_give p d names held ends m a older f fs cell ts frames ahead pc function accepted size on at apart apart_lower back is =
    let end = Lower p (named_by names) (is_held held) cell ts frames in
    let frame_is : HasFrame function = (formed_of p a.function function accepted is.here).frame in
    let multiple = frame_is.multiple in
    let even = is.lies.place.multiple in
    let base = is.lies.base in
    let low = is.framed.base in
    let even_frame : IsEven f = record { low = even; base = omega arith } in
    let same : f.base ≡ f.low + function.frame_bytes = omega arith in
    let sees = subst (λ (n : ℕ). SeesOutside (Below p (named_by names) (is_held held) end older fs) f.low n) same (outside.sees_outside p (named_by names) (is_held held) accepted f even_frame older fs cell ts frames apart apart_lower) in
    copying.copy_leads p d held ends m (named_by names) end a older f fs ahead pc function accepted size on at is back sees
