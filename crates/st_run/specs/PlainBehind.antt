-- What a board over vectors that is for a program tells of a worker's threads: plain_behind. Where the rule holds of a world, with cell 0 the root's, it is so of the view of each of its
-- workers (view_behind): each fact is that of one group of the rule. The proof stands here since what an impl has may name no proofs of its crate.
use Rattle.std.proofs.Common.{true, false, Bool, if◌then◌else◌, [], ◌∷◌, ◌≡◌, ◌≢◌, inl, inr, ℕ, ◌*◌, ◌/◌, ◌^◌, ◌<◌, ◌≤◌, List, length, Option, Some, None, refl, sym, ◌∙◌, ap, subst, slice_set, length-set}
use Rattle.std.proofs.lemmas.List.{length-map}
use Rattle.std.specs.List.{Contains}
use Rattle.st_base.specs.declared.chain.Frame.{Frame}
use Rattle.st_base.specs.declared.chain.Waiting.{Waiting}
use Rattle.st_base.specs.declared.chain.Waiting.TheVariants as waits
use Rattle.st_base.specs.declared.limits.Limits.{Limits}
use Rattle.st_words.specs.declared.view.Carried.{Carried}
use Rattle.st_words.specs.declared.view.Child.{Child}
use Rattle.st_words.specs.declared.view.Known.{Known}
use Rattle.st_words.specs.declared.view.View.{View}
use Rattle.st_words.specs.declared.words.Words.{Words}
use Rattle.st_words.specs.Careful.{Meaning}
use Rattle.st_words.specs.Encodings.{thread_owner, is_counter}
use Rattle.st_words.specs.Laws.{TakesForFuture}
use Rattle.st_words.specs.Views.{counts_cell, owner_seen, is_at}
use Rattle.st_words.proofs.Lists.{same_true}
use Rattle.st_words.proofs.Lists.{contains_here, contains_later}
use Rattle.st_words.specs.Plain.{Cargoes, view_at}
use Rattle.st_words.specs.Promises.{IsGoingOn}
use Rattle.st_words.specs.Steps.{HasThread, kept, home_of, return_place, HasInHand, Holds, Inside}
use Rattle.st_words.proofs.Sizes.{moved_here}
use Rattle.st_model.specs.declared.program.Program.{Program}
use Rattle.st_model.specs.Memory.{Data}
use Rattle.st_model.specs.Heap.{Heap, Reached, first_heap}
use Rattle.st_made.specs.Moves.{Made}
use Rattle.st_made.specs.Runs.{all_known, HasSeen}
use Rattle.st_world.specs.Holders.{InView}
use Rattle.st_world.specs.World.{World}
use Rattle.st_world.specs.OfPlain.{world_of}
use Rattle.st_spots.specs.Listing.{counters}
use Rattle.st_spots.proofs.Tidies.{view_laws}
use Rattle.st_holders.specs.Leasing.{WordHolds}
use Rattle.st_seats.specs.Placing.{IsOver, AreOnce, cells_of}
use Rattle.st_seats.proofs.MovedLists.{map_out}
use Rattle.st_seats.proofs.Told.{told_laws as seats_told}
use Rattle.st_threads.specs.Holding.{IsOf}
use Rattle.st_threads.proofs.Holdings.{told_laws as threads_told}
use Rattle.st_names.proofs.Follows.{told_laws as names_told}
use Rattle.st_rule.specs.Rule.{Rule}
use Rattle.st_rule.specs.Laws.{RuleLaws}
use Rattle.st_run.specs.Behind.{NoteIs, AreReady, IsBehind, Behind}
use Rattle.st_run.specs.Brought.{brought}
use Rattle.st_run.specs.Children.{reached_children}
use Rattle.st_run.specs.Meanings.{meaning}
use Rattle.st_run.specs.Noted.{few_forks, few_counters, root_first, first_root}
use Rattle.st_run.specs.OfPlain.{PlainIsFor}
use Rattle.st_run.specs.Pigeons.{few_once, fewer_once}

-- ---- any world with the rule

module _ (m : Meaning) (p : Program) (d : Data) (limits : Limits) (h0 h : Heap) (x : World) (r : Rule m p d limits h0 h x) (w : ℕ) (is : w < x.workers) where
  abbrev u : View
  u = x.view w

  seen_so : HasSeen h u
  seen_so = (names_told p d).has_seen h x w r.names
      (λ c n at. let f = (r.knows.views w).values c n at in (f.1, f.2))
      (λ c k at. ((r.knows.views w).counts c k at).1)

  of_heap : (t : Known) → Contains (all_known u) t → IsOf h t
  of_heap t at = (r.threads.views w).each t at

  -- ---- notes

  note_is : Reached p d h → x.owner 0 ≡ thread_owner 0 0 → (t : Known) → Contains (all_known u) t → NoteIs u.cells t
  note_is reached owner t at =
      let of = of_heap t at in
      let named = (r.names.views w).notes t at in
      let cells : x.cells ≡ u.cells = sym (r.lists.sized w is) in
      record {
        forks = of.forks;
        counters = of.counters;
        bytes = of.bytes;
        root = root_first p d h x r.names owner t.note.cell t.path named;
        first = first_root p d h x r.names owner t.note.cell t.path named;
        few_forks = subst (λ (n : ℕ). t.thread.forks ≤ n) cells (few_forks p d h x r.names (reached_children p d h reached) t.path t.thread of.there);
        few_counters = subst (λ (n : ℕ). t.thread.counters ≤ n) cells (few_counters p d h x r.names t.path t.thread of.there);
      }

  -- ---- words

  word_small : (q n : ℕ) → kept u.held q ≡ Some n → n < 2 ^ 64
  word_small q n e = subst (λ (k : ℕ). k < 2 ^ 64) ((r.leases.views w).held q n e).2 (r.leases.small q)

  -- a word of the worker's own stack in no leased frame is held by it, and a leased frame there is exported
  own_by : (q : ℕ) → q < x.workers * x.each → home_of x.each q ≡ w → ((f : Frame) → Contains u.exported f → Inside f q → ⊥) → (o : Option Frame) → r.leases.keeping.frame q ≡ o → WordHolds (x.workers * x.each) x.each x.stack r.leases.keeping q o → Holds u q
  own_by q l home none None e holds = (r.leases.views w).all q l (holds ∙ ap InView home)
  own_by q l home none (Some f) e holds = absurd (none f ((r.leases.views w).exports f q l e home) holds.inside)

  own_held : (q : ℕ) → q < length u.held → home_of u.each q ≡ u.number → ((f : Frame) → Contains u.exported f → Inside f q → ⊥) → Holds u q
  own_held q l home none =
      let sized = r.leases.sized w is in
      let within : q < x.workers * x.each = subst (λ (n : ℕ). q < n) sized.held l in
      let here : home_of x.each q ≡ w = (ap (λ (n : ℕ). home_of n q) (sym sized.stack) ∙ home) ∙ sized.number in
      own_by q within here none (r.leases.keeping.frame q) refl (r.leases.words q within)

  away_foreign : (f : Frame) → Contains u.away f → home_of u.each (return_place f) ≢ u.number
  away_foreign f at same =
      let sized = r.leases.sized w is in
      ((r.leases.views w).away f at).3 ((ap (λ (n : ℕ). home_of n (return_place f)) (sym sized.stack) ∙ same) ∙ sized.number)

  -- ---- threads

  -- by Owner words none of which is a counter's
  takes_by : (c : ℕ) (owners : List (ℕ × ℕ)) → ((n : ℕ) → Contains owners (c, n) → is_counter n ≡ false) → counts_cell (owner_seen c owners) ≡ false
  takes_by c [] futures = refl
  takes_by c (entry ∷ entries) futures = first_by (is_at c entry) refl (takes_by c entries (λ m at. futures m (contains_later (c, m) entry entries at)))
    where
      first_by : (b : Bool) → is_at c entry ≡ b → counts_cell (owner_seen c entries) ≡ false → counts_cell (if b then Some entry.1 else owner_seen c entries) ≡ false
      first_by true e rest =
          let here : entry.0 ≡ c = same_true entry.0 c e in
          futures entry.1 (subst (λ (k : ℕ). Contains (entry ∷ entries) (k, entry.1)) here (contains_here entry entries))
      first_by false e rest = rest

  thread_future : (c : ℕ) → HasThread u c → TakesForFuture u c
  thread_future c thread =
      let kind = (seats_told.unfilled x r.lists w c r.places (inl thread)).1 in
      takes_by c u.owners (λ n at. subst (λ (k : ℕ). is_counter k ≡ false) ((r.knows.views w).owners c n at).0 kind)

  -- ---- the turn

  goes_on : (y : Carried) → Contains u.chains y → IsGoingOn y → y.wait ≢ waits.Trapped
  goes_on y at going e = subst (λ (k : Waiting). IsOver (counters x.owner) x.state k) e (((r.places.views w).turn y at).over going)

  -- ---- cells of their own

  below_cells : (c : ℕ) → c < x.cells → c < u.cells
  below_cells c l = subst (λ (n : ℕ). c < n) (sym (r.lists.sized w is)) l

  thread_below : (c : ℕ) → Contains (cells_of u.threads) c → c < u.cells
  thread_below c at = below_cells c (seats_told.below x r.lists w c r.places (inl (map_out (λ (t : Known). t.note.cell) u.threads c at)))

  stack_length : length (cells_of u.threads) ≡ length u.threads
  stack_length = length-map u.threads (λ (t : Known). t.note.cell)

  few_on_stack : length u.threads ≤ u.cells
  few_on_stack = subst (λ (n : ℕ). n ≤ u.cells) stack_length (few_once u.cells (cells_of u.threads) (r.places.views w).threads_once thread_below)

  -- the cell of a child is none of those of the stack, since a place is one
  room_by : (o : Option Child) → u.child ≡ o → o ≢ None → length u.threads < u.cells
  room_by None e some = absurd (some refl)
  room_by (Some y) e some =
      let named = ((r.places.views w).child y e).there in
      let low : y.cell < u.cells = below_cells y.cell (seats_told.below x r.lists w y.cell r.places (inr (inr (y, e, refl)))) in
      subst (λ (n : ℕ). n < u.cells) stack_length (fewer_once u.cells y.cell (cells_of u.threads) (r.places.views w).threads_once thread_below low (λ at.
      let stack = ((r.places.views w).stack y.cell at).there in
      let no : ⊥ = cc in
      no))

  ready_below : (ns : List ℕ) → AreReady u ns → (c : ℕ) → Contains ns c → c < u.cells
  ready_below ns ready c at = view_laws.below x w c r.lists is (inr (ready c at))

  fewer_by_hand : (ns : List ℕ) (c : ℕ) → AreOnce ns → AreReady u ns → HasInHand u c → length ns < u.cells
  fewer_by_hand ns c once ready hand = fewer_once u.cells c ns once (ready_below ns ready) (view_laws.below x w c r.lists is (inl hand)) (λ at. view_laws.apart x w w c r.lists (ready c at) hand)

  pub view_behind : Reached p d h → x.owner 0 ≡ thread_owner 0 0 → IsBehind p d u
  view_behind reached owner = record {
    heap = h;
    reached = reached;
    are_in = threads_told.are_in h x w r.threads;
    seen = seen_so;
    notes = note_is reached owner;
    live = λ t at. (of_heap t at).live;
    words = word_small;
    own = own_held;
    foreign = away_foreign;
    futures = thread_future;
    going = goes_on;
    few_threads = few_on_stack;
    room = λ some. room_by u.child refl some;
    few_ready = λ ns once ready. few_once u.cells ns once (ready_below ns ready);
    fewer_ready = fewer_by_hand;
  }

-- ---- a board over vectors

module _ {Self : Type 0} (words : Self → Words) (cargoes : Self → Cargoes) (views : Self → List View) (p : Program) (d : Data) (limits : Limits) (laws : RuleLaws (meaning p d limits)) where
  pub plain_behind : Behind (λ b w. view_at (views b) w) (λ b w. w < length (views b)) (λ b. PlainIsFor p d limits (words b) (cargoes b) (views b)) (Made p d) p d
  plain_behind b w u r l made =
      let vs = views b in
      let g = brought p d limits laws (words b) (cargoes b) vs w u r l made in
      let there : w < length (slice_set vs w u) = subst (λ (n : ℕ). w < n) (sym (length-set vs w u)) l in
      let reached : Reached p d g.heap = record { first = g.first; is_first = g.is_first; steps = g.rule.within.steps; run = g.rule.within.run } in
      let behind = view_behind (meaning p d limits) p d limits (first_heap g.first) g.heap (world_of (limits.stack / 8) (words b) (cargoes b) (slice_set vs w u)) g.rule w there reached g.root in
      subst (IsBehind p d) (moved_here vs w u l) behind
