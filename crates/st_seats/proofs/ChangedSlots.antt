-- A chain goes from a slot into the turn, or from the turn into a slot: Slotted and slotted_kept; slot_mail is for the mail slots that stay.
use Rattle.std.proofs.Common.{◌≡◌, ◌≢◌, ◌⊎◌, inl, ℕ, List, Option, Some, refl, sym, ◌∙◌, subst}
use Rattle.std.specs.List.{Contains}
use Rattle.st_base.specs.declared.chain.Chain.{Chain}
use Rattle.st_base.specs.declared.chain.Waiting.{Waiting}
use Rattle.st_words.specs.declared.view.Carried.{Carried}
use Rattle.st_words.specs.declared.view.Cargo.{Cargo}
use Rattle.st_words.specs.declared.view.View.{View}
use Rattle.st_world.specs.Functions.{put}
use Rattle.st_world.specs.World.{World, seen}
use Rattle.st_world.proofs.Functions.{put_here, put_other}
use Rattle.st_spots.specs.Listing.{Spot, Lists}
use Rattle.st_seats.specs.Placing.{Place, Named, InMail, OnStack, Places, AreOnce, cells_of, chain_cells}
use Rattle.st_seats.proofs.Seats.{Placed, Holds, Turn, MailAt}
use Rattle.st_seats.proofs.Changed as changed
use Rattle.st_seats.proofs.Changed.{Mine, One, one_kept, mail_stays, apart}

module _ (x : World) (l : Lists x) (P : Places x l) (w c : ℕ) (q : Place) (v : View) (spot' : ℕ → Spot) (wait' : ℕ → Waiting) (home' : ℕ → Option Chain) (cargo' : ℕ → Cargo) (post' : ℕ → Option Chain) (post_cargo' : ℕ → Cargo) where
  abbrev pub slotted : World
  slotted = record x { home = home'; home_cargo = cargo'; post = post'; post_cargo = post_cargo' }

  abbrev pub gone_to : ℕ → Place
  gone_to = put P.place c q

  pub record Slotted : Type 0 where
    pub others : (d : ℕ) → d ≢ c → (spot' d ≡ l.spot d) × (wait' d ≡ l.wait d) × (home' d ≡ x.home d) × (cargo' d ≡ x.home_cargo d)
    pub posts : (k : ℕ) (chain : Chain) → x.post k ≡ Some chain → chain.cell ≢ c → post' k ≡ Some chain
    pub turns : (d : ℕ) → d ≢ c → Contains (chain_cells (x.view w).chains) d → Contains (chain_cells v.chains) d
    pub same : (cells_of v.threads ≡ cells_of (x.view w).threads) × (v.child ≡ (x.view w).child) × (v.filled ≡ (x.view w).filled)
    pub mine : Mine w (P.place c)
    pub no_stack : P.place c ≢ OnStack w
    pub no_child : P.place c ≢ Named w
    pub here : Holds (seen w v slotted) spot' wait' gone_to c q
    pub turn : (z : Carried) → Contains v.chains z → (Contains (x.view w).chains z × (z.known.note.cell ≢ c)) ⊎ Turn (seen w v slotted) spot' wait' gone_to w z
    pub once : AreOnce (chain_cells v.chains)

  module _ (S : Slotted) where
    slot_stays : (d : ℕ) → d ≢ c → changed.Stays x l.spot l.wait P w slotted v spot' wait' gone_to d
    slot_stays d n = let o = S.others d n in record {
      there = put_other P.place c q d n;
      number = inl o.0;
      waits = o.1;
      of = λ t. record { below = t.below; named = t.named; future = t.future; unfilled = t.unfilled };
      standing = refl;
      trap = refl;
      home = o.2;
      cargo = o.3;
      mail = λ k chain e f. S.posts k chain e (λ z. n (sym f ∙ z));
      turn = S.turns d n;
      stack = subst (λ (ds : List ℕ). Contains ds d) (sym S.same.0);
      child = λ h. (h.0, S.same.1 ∙ h.1, h.2);
    }

    one_slot : One x l.spot l.wait P w slotted v spot' wait' gone_to c
    one_slot =
        let V = P.views w in
        record {
          others = slot_stays;
          mine = S.mine;
          here = subst (Holds (seen w v slotted) spot' wait' gone_to c) (sym (put_here P.place c q)) S.here;
          turn = S.turn;
          stack = λ d m. let k = subst (λ (ds : List ℕ). Contains ds d) S.same.0 m in inl (k, apart P.place c d (P.place c) (OnStack w) refl (V.stack d k).there S.no_stack);
          child = λ z e. let k = sym S.same.1 ∙ e in inl (k, apart P.place c z.cell (P.place c) (Named w) refl (V.child z k).there S.no_child);
          chains_once = S.once;
          threads_once = subst AreOnce (sym S.same.0) V.threads_once;
          filled = λ d m. inl (subst (λ (ds : List ℕ). Contains ds d) S.same.2 m);
        }

    pub slotted_kept : ((k : ℕ) → MailAt (seen w v slotted) spot' wait' gone_to k (post' k) (post_cargo' k)) → Placed (seen w v slotted) spot' wait'
    slotted_kept mail = one_kept x l.spot l.wait P w slotted v spot' wait' gone_to refl (λ k h. h) c one_slot mail

    -- what lies in mail is another chain, and stays
    pub slot_mail : (k : ℕ) → P.place c ≢ InMail k → post' k ≡ x.post k → post_cargo' k ≡ x.post_cargo k → MailAt (seen w v slotted) spot' wait' gone_to k (post' k) (post_cargo' k)
    slot_mail k n e f = mail_stays x l.spot l.wait P w slotted v spot' wait' gone_to refl (λ j h. h) k e f (λ d h. slot_stays d (apart P.place c d (P.place c) (InMail k) refl h n))
