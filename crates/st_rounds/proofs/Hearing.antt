-- Views after steps that only tell: what a worker knows of requests, mail, the root and the stop word changes, and nothing else (IsHeard). Read hears, and a lemma for each step (stop_heard and on).
-- The steps have no item (no_item), so they may be asked where they are safe.
use Rattle.std.proofs.Common.{◌≡◌, ℕ, zero, suc, Bool, true, false, ◌==◌, ◌&&◌, ◌||◌, List, Option, is_some, refl, ap, ◌∙◌}
use Rattle.st_base.specs.declared.limits.Limits.{Limits}
use Rattle.st_words.specs.declared.view.Answering.{Answering}
use Rattle.st_words.specs.declared.view.Loaded.{Loaded}
use Rattle.st_words.specs.declared.view.View.{View}
use Rattle.st_words.specs.Encodings.{given, refused}
use Rattle.st_words.specs.Promises.{Promises}
use Rattle.st_words.specs.Safely.{Safe}
use Rattle.st_words.specs.Steps.{Step, ActiveLoad, StopLoad, RootTake, RequestLoad, RequestChange, MailLoad, MailStore, Answer, Done, Number, Looked, Took}
use Rattle.st_words.specs.Views.{view_after, request_by, own_request, other_request, requested, mail_when, mail_sent}
use Rattle.st_words.proofs.Safe.{active_load, stop_load, root_take, mail_load}
use Rattle.st_model.specs.declared.program.Program.{Program}
use Rattle.st_model.specs.Memory.{Data}
use Rattle.st_made.specs.Events.{NoItem}
use Rattle.st_run.specs.Meanings.{meaning}
use Rattle.st_fits.specs.Before.{after, threads_after}
use Rattle.st_fits.specs.Laws.{MayAsk}

-- ---- what is told

pub record Heard : Type 0 where
  pub asked : Option ℕ
  pub answering : Option Answering
  pub mail : ℕ
  pub given : Bool
  pub root : Bool
  pub inactive : Bool
  pub stop : Option ℕ
  pub loaded : List (Loaded × ℕ)

abbrev pub hears : Heard → View → View
hears h u = record u { asked = h.asked; answering = h.answering; mail = h.mail; given = h.given; root = h.root; inactive = h.inactive; stop = h.stop; loaded = h.loaded }

abbrev pub heard_of : View → Heard
heard_of v = record { asked = v.asked; answering = v.answering; mail = v.mail; given = v.given; root = v.root; inactive = v.inactive; stop = v.stop; loaded = v.loaded }

-- the view v has no more than that
abbrev pub IsHeard : View → View → Type 0
IsHeard u v = v ≡ hears (heard_of v) u

-- ---- by step

stop_view : (u : View) (n : ℕ) → IsHeard u (view_after u StopLoad (Number n))
unfolding view_after
stop_view u zero = refl
stop_view u (suc n) = refl

active_view : (u : View) (n : ℕ) → IsHeard u (view_after u ActiveLoad (Number n))
unfolding view_after
active_view u zero = refl
active_view u (suc n) = refl

root_view : (u : View) (n : ℕ) → IsHeard u (view_after u RootTake (Number n))
unfolding view_after
root_view u zero = refl
root_view u (suc n) = refl

request_view : (u : View) (at n : ℕ) → IsHeard u (view_after u (RequestLoad at) (Number n))
unfolding view_after
request_view u at n = refl

own_view : (u : View) (old new : ℕ) → IsHeard u (own_request old new u)
own_view u old zero = refl
own_view u old (suc new) = refl

other_view : (u : View) (at new : ℕ) → IsHeard u (other_request at new u)
other_view u at zero = refl
other_view u at (suc new) = refl

by_view : (b : Bool) (u : View) (at old new : ℕ) → IsHeard u (request_by b at old new u)
by_view true u at old new = own_view u old new
by_view false u at old new = other_view u at new

requested_view : (b : Bool) (u : View) (at old new : ℕ) → IsHeard u (requested b at old new u)
requested_view true u at old new = by_view (at == u.number) u at old new
requested_view false u at old new = refl

change_view : (u : View) (at old new n : ℕ) → IsHeard u (view_after u (RequestChange at old new) (Number n))
unfolding view_after
change_view u at old new n = requested_view (n == old) u at old new

when_view : (b : Bool) (u : View) (n : ℕ) → IsHeard u (mail_when b n u)
when_view true u n = refl
when_view false u n = refl

mail_view : (u : View) (n : ℕ) → IsHeard u (view_after u MailLoad (Number n))
unfolding view_after
mail_view u n = when_view (is_some u.asked && ((n == given) || (n == refused))) u n

sent_view : (b : Bool) (u : View) (n : ℕ) → IsHeard u (mail_sent b n u)
sent_view true u n = refl
sent_view false u n = refl

store_view : (u : View) (at n : ℕ) → IsHeard u (view_after u (MailStore at n) Done)
unfolding view_after
store_view u at n = sent_view (at == u.number) u n

-- ---- with its item, which is none

module _ (p : Program) (d : Data) where
  -- the threads stay
  with_threads : (u : View) (s : Step) (a : Answer) → threads_after p d u s a ≡ u.threads → IsHeard u (view_after u s a) → after p d u s a ≡ hears (heard_of (view_after u s a)) u
  unfolding after
  with_threads u s a stay heard = ap (λ ts. record (view_after u s a) { threads = ts }) stay ∙ ap (λ (v : View). record v { threads = u.threads }) heard

  pub stop_heard : (u : View) (n : ℕ) → after p d u StopLoad (Number n) ≡ hears (heard_of (view_after u StopLoad (Number n))) u
  stop_heard u n = with_threads u StopLoad (Number n) refl (stop_view u n)

  pub active_heard : (u : View) (n : ℕ) → after p d u ActiveLoad (Number n) ≡ hears (heard_of (view_after u ActiveLoad (Number n))) u
  active_heard u n = with_threads u ActiveLoad (Number n) refl (active_view u n)

  pub root_heard : (u : View) (n : ℕ) → after p d u RootTake (Number n) ≡ hears (heard_of (view_after u RootTake (Number n))) u
  root_heard u n = with_threads u RootTake (Number n) refl (root_view u n)

  pub request_heard : (u : View) (at n : ℕ) → after p d u (RequestLoad at) (Number n) ≡ hears (heard_of (view_after u (RequestLoad at) (Number n))) u
  request_heard u at n = with_threads u (RequestLoad at) (Number n) refl (request_view u at n)

  pub change_heard : (u : View) (at old new n : ℕ) → after p d u (RequestChange at old new) (Number n) ≡ hears (heard_of (view_after u (RequestChange at old new) (Number n))) u
  change_heard u at old new n = with_threads u (RequestChange at old new) (Number n) refl (change_view u at old new n)

  pub mail_heard : (u : View) (n : ℕ) → after p d u MailLoad (Number n) ≡ hears (heard_of (view_after u MailLoad (Number n))) u
  mail_heard u n = with_threads u MailLoad (Number n) refl (mail_view u n)

  pub store_heard : (u : View) (at n : ℕ) → after p d u (MailStore at n) Done ≡ hears (heard_of (view_after u (MailStore at n) Done)) u
  store_heard u at n = with_threads u (MailStore at n) Done refl (store_view u at n)

-- ---- they may be asked

pub no_item : (u v : View) (h : Heard) → v ≡ hears h u → NoItem u v
no_item u v h is = record { threads = ap (λ (w : View). w.threads) is; items = ap (λ (w : View). w.items) is; bytes = ap (λ (w : View). w.frame_bytes) is }

module _ (p : Program) (d : Data) (limits : Limits) (u : View) where
  pub ask_stop : MayAsk p d limits u StopLoad
  ask_stop = record { safe = stop_load (meaning p d limits) u; event = λ a told. by a told }
    where
      by : (a : Answer) → Promises u StopLoad a → NoItem u (after p d u StopLoad a)
      by (Number n) told = no_item u _ _ (stop_heard p d u n)
      by Done told = absurd told
      by (Looked n cargo) told = absurd told
      by (Took chain cargo) told = absurd told

  pub ask_active : MayAsk p d limits u ActiveLoad
  ask_active = record { safe = active_load (meaning p d limits) u; event = λ a told. by a told }
    where
      by : (a : Answer) → Promises u ActiveLoad a → NoItem u (after p d u ActiveLoad a)
      by (Number n) told = no_item u _ _ (active_heard p d u n)
      by Done told = absurd told
      by (Looked n cargo) told = absurd told
      by (Took chain cargo) told = absurd told

  pub ask_root : MayAsk p d limits u RootTake
  ask_root = record { safe = root_take (meaning p d limits) u; event = λ a told. by a told }
    where
      by : (a : Answer) → Promises u RootTake a → NoItem u (after p d u RootTake a)
      by (Number n) told = no_item u _ _ (root_heard p d u n)
      by Done told = absurd told
      by (Looked n cargo) told = absurd told
      by (Took chain cargo) told = absurd told

  pub ask_request : (at : ℕ) → Safe (meaning p d limits) u (RequestLoad at) → MayAsk p d limits u (RequestLoad at)
  ask_request at safe = record { safe = safe; event = λ a told. by a told }
    where
      by : (a : Answer) → Promises u (RequestLoad at) a → NoItem u (after p d u (RequestLoad at) a)
      by (Number n) told = no_item u _ _ (request_heard p d u at n)
      by Done told = absurd told
      by (Looked n cargo) told = absurd told
      by (Took chain cargo) told = absurd told

  pub ask_change : (at old new : ℕ) → Safe (meaning p d limits) u (RequestChange at old new) → MayAsk p d limits u (RequestChange at old new)
  ask_change at old new safe = record { safe = safe; event = λ a told. by a told }
    where
      by : (a : Answer) → Promises u (RequestChange at old new) a → NoItem u (after p d u (RequestChange at old new) a)
      by (Number n) told = no_item u _ _ (change_heard p d u at old new n)
      by Done told = absurd told
      by (Looked n cargo) told = absurd told
      by (Took chain cargo) told = absurd told

  pub ask_mail : MayAsk p d limits u MailLoad
  ask_mail = record { safe = mail_load (meaning p d limits) u; event = λ a told. by a told }
    where
      by : (a : Answer) → Promises u MailLoad a → NoItem u (after p d u MailLoad a)
      by (Number n) told = no_item u _ _ (mail_heard p d u n)
      by Done told = absurd told
      by (Looked n cargo) told = absurd told
      by (Took chain cargo) told = absurd told

  pub ask_store : (at n : ℕ) → Safe (meaning p d limits) u (MailStore at n) → MayAsk p d limits u (MailStore at n)
  ask_store at n safe = record { safe = safe; event = λ a told. by a told }
    where
      by : (a : Answer) → Promises u (MailStore at n) a → NoItem u (after p d u (MailStore at n) a)
      by Done told = no_item u _ _ (store_heard p d u at n)
      by (Number m) told = absurd told
      by (Looked m cargo) told = absurd told
      by (Took chain cargo) told = absurd told
