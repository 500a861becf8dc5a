-- The bank's theorems of a session put away and taken up: each is the theorem on the bank's calls among the host's.
-- Assumes nothing.
use Prim.Native.Nat.{ℕ, ◌≤◌, ◌<◌}
use mathlib.Core.Bool.{Bool, true, false, cond}
use mathlib.Core.List.{List, [], ◌∷◌, ◌++◌, Memᴰ as In}
use mathlib.Core.Logic.{inl, inr}
use mathlib.Core.Path.{◌≡◌, refl, sym, ap, ◌∙◌, subst}
use native.Mathlib.Omega.{arith}
use lib.Dec.{eqb}
use lib.ListN.{length}
use Rattle.frame_table.specs.declared.fields.Bits128.{Bits128}
use Rattle.frame_table.specs.Forms as forms
use Rattle.frame_table.specs.Names.{subscriber, order_number, form}
use Rattle.message.specs.declared.codes.ReturnCode.TheVariants as code
use Rattle.message.specs.Editions.{order_opened}
use Rattle.message.specs.OrderNumbers.{order_number_of, order_in}
use Rattle.journal.specs.declared.event.Kind.TheVariants as kind
use Rattle.journal.specs.Records.{Recorded, RecordedEnd}
use Rattle.journal.specs.Row.{Journal, row_of}
use Rattle.signers.specs.Signers.{is_signer, signer_count, is_released}
use Rattle.bank_state.specs.Clock.{advanced}
use Rattle.bank_state.specs.Limits.{series_limit}
use Rattle.bank_state.specs.Rows.{count_of}
use Rattle.bank_state.specs.State.{BankState, series_of}
use Rattle.bank.specs.Call.{FrameInput}
use Rattle.bank_history.specs.History.{Exchange, Stands, BankCall, Frame, Past, is_booking, ever, past_of}
use Rattle.bank_history.specs.FalseEconomies.{WellMadeOpening, RefusedWith, Attempt, Attempts, StillOpen}
use Rattle.bank_history.specs.Status.{Open, Drop, drops, events_of, OpenAs, OpenIn, Rising}
use Rattle.bank_history.specs.Opened.{is_own_opened, is_upload_opened}
use Rattle.bank_history.specs.ByReplies.{opened_count, own_given, number_given, standing}
use Rattle.bank_history.specs.Timely.{Timely}
use Rattle.bank_history.specs.Series.{InSeries, OwnInSeries, HeldBy, Held}
use Rattle.bank_history.specs.Journal.{journal_of, events_in}
use Rattle.bank_history.specs.JournalOrders.{NeverBooked}
use Rattle.bank_history.specs.Signatures.{signature_count}
use Rattle.bank_history.specs.Signers.{Signature, BooksOrder, InBook, signers_at, SignsOnly, is_signed_of}
use Rattle.opening_counts.specs.declared.seven.Counts.{Counts}
use Rattle.opening_counts.specs.Counts.{sum}
use Rattle.bank_counts.specs.Counts.{counts}
use Rattle.bank_counts.proofs.Theorems.{openings-end}
use Rattle.bank_history.proofs.ByReplies.{standing-is}
use Rattle.bank_history.proofs.Drops.{call-drops}
use Rattle.bank_history.proofs.FalseEconomies.{false-economies}
use Rattle.bank_history.proofs.Journal.{journal-told}
use Rattle.bank_history.proofs.JournalOrders.{journal-orders}
use Rattle.bank_history.proofs.Series.{series}
use Rattle.bank_history.proofs.Signers.{signers-told}
use Rattle.bank_history.proofs.Theorems.{history-sound}
use Rattle.bank_resumed.specs.Calls.{
  HostCall,
  frame_arrives,
  file_put,
  puts_away,
  takes_up,
  call_number,
  left_by,
  AllAllowed,
  bank_call,
  bank_calls,
}
use Rattle.bank_resumed.specs.Resumed.{history_left, bank_left, NextFrame, ResumedBank}
use Rattle.bank_resumed.proofs.Resumed.{resumed, before}

-- ---- a frame that is answered

module _ {ks : List HostCall} {e : Exchange} (n : NextFrame ks e) where
  -- the answered frames and the bank so far are those of the bank's calls
  history-is : history_left ks ≡ (past_of (bank_calls ks)).history
  history-is = ap (λ (p : Past). p.history) (resumed.past (before n.allowed).0)

  bank-is : bank_left ks ≡ (past_of (bank_calls ks)).bank_state
  bank-is = ap (λ (p : Past). p.bank_state) (resumed.past (before n.allowed).0)

  stood : {f : Exchange} {g : List Exchange} → Stands f g (history_left ks) → Stands f g (past_of (bank_calls ks)).history
  stood {f} {g} = subst (Stands f g) history-is

  -- the bank after its clock and drops, and after it
  advanced-is : advanced n.input.time (bank_left ks)
      ≡ advanced (resumed.next n).input.time (past_of (bank_calls ks)).bank_state
  advanced-is = let e = sym (resumed.input n) in λ i. advanced (e i).time (bank-is i)

  bank-after : bank_left (frame_arrives n.lent n.input ∷ ks)
      ≡ (past_of (Frame (resumed.next n).input ∷ bank_calls ks)).bank_state
  bank-after =
      ap (λ (p : Past). p.bank_state) (resumed.past n.allowed ∙ ap past_of (resumed.joins n))
      ∙ ap (λ (a : FrameInput). (past_of (Frame a ∷ bank_calls ks)).bank_state) (sym (resumed.input n))

-- ---- the journal

-- an event recorded with the ID of the upload t is an event of t
module _ (calls : List BankCall) (t : Bits128) where
  row-booked : Recorded kind.Booked t (journal_of calls).row → ever is_booking t (past_of calls).history ≡ true
  row-booked r =
      let (v, i, n, z) = journal-orders.recorded calls r (λ u. (let y : ◌≡◌ {A = ℕ} 0 1 = cc in omega arith)) in
      subst (λ (x : Bits128). ever is_booking x (past_of calls).history ≡ true) n (journal-orders.booked calls v i z)

  row-ended : RecordedEnd t (journal_of calls).row → NeverBooked calls t
  row-ended (inl r) =
      let (v, i, n, z) = journal-orders.recorded calls r (λ u. (let y : ◌≡◌ {A = ℕ} 0 1 = cc in omega arith)) in
      subst (NeverBooked calls) n (journal-orders.ended calls v i (inl z))
  row-ended (inr r) =
      let (v, i, n, z) = journal-orders.recorded calls r (λ u. (let y : ◌≡◌ {A = ℕ} 0 1 = cc in omega arith)) in
      subst (NeverBooked calls) n (journal-orders.ended calls v i (inr z))

-- the bank's calls of a longer list
call-join : (c : HostCall) (l m : List BankCall) → bank_call c (l ++ m) ≡ bank_call c l ++ m
call-join (frame_arrives m a) l n = refl
call-join (file_put rows mailboxes mailbox file) l n = refl
call-join (puts_away m buffer) l n = refl
call-join (takes_up m image) l n = refl

calls-join : (more ks : List HostCall) → bank_calls (more ++ ks) ≡ bank_calls more ++ bank_calls ks
unfolding bank_calls
calls-join [] ks = refl
calls-join (c ∷ more) ks = at (eqb (call_number c) 0) (calls-join more ks)
  where
    at : (b : Bool) → bank_calls (more ++ ks) ≡ bank_calls more ++ bank_calls ks →
        cond b (bank_call c (bank_calls (more ++ ks))) (bank_calls (more ++ ks))
        ≡ cond b (bank_call c (bank_calls more)) (bank_calls more) ++ bank_calls ks
    at true e = ap (bank_call c) e ∙ call-join c (bank_calls more) (bank_calls ks)
    at false e = e

-- what has ended is never open nor booked again
ended-stays : (ks more : List HostCall) {t : Bits128} → NeverBooked (bank_calls ks) t → AllAllowed (more ++ ks) →
    (OpenIn (bank_left (more ++ ks)) t → ⊥) × (ever is_booking t (history_left (more ++ ks)) ≡ false)
ended-stays ks more {t} n r =
    subst (λ (p : Past). (OpenIn p.bank_state t → ⊥) × (ever is_booking t p.history ≡ false))
    (sym (resumed.past r ∙ ap past_of (calls-join more ks)))
    (n.closed (bank_calls more), n.unbooked (bank_calls more))

-- ---- the drops

abbrev Dropped : Bits128 → Exchange → List Exchange → Type 0
Dropped t e h = In (Drop t) (events_of e h)

abbrev Opened : Bits128 → BankState → Type 0
Opened t w = OpenIn w t

-- ---- counts

counted-left : (ks : List HostCall) → AllAllowed ks → (left_by ks).counts ≡ counts (history_left ks)
counted-left ks r =
    resumed.counts r ∙ (openings-end.carries (bank_calls ks) ∙ ap (λ (p : Past). counts p.history) (sym (resumed.past r)))

-- ---- together

pub resumed-bank : {ks : List HostCall} → AllAllowed ks → ResumedBank ks
resumed-bank {ks} r = record {
  replay = λ n w s o z c. false-economies.replay (resumed.next n) w (stood n s) o z c;
  foreign = λ n q s o other.
      let (refused, bank) = false-economies.foreign (resumed.next n) q (stood n s) o other in
      (refused, bank-after n ∙ bank ∙ sym (advanced-is n));
  closed = λ n q s x z. false-economies.closed (resumed.next n) q (stood n s) x z;
  idle = λ n q old. false-economies.idle (resumed.next n) q
      (λ f g s x. old f g (subst (Stands f g) (sym (history-is n)) s) x);
  known = λ n q o c. false-economies.known (resumed.next n) q (subst (StillOpen _ _ _ _) (history-is n) o) c;
  five = λ {e} {t} n c a. false-economies.five (resumed.next n) (subst (Attempts t _) (history-is n) c)
      (subst (λ (h : List Exchange). Attempt t h e) (history-is n) a);
  sixth = λ n c x. false-economies.sixth (resumed.next n) (subst (Attempts _ _) (history-is n) c) x;
  numbered = λ {s} {e} {g}. resumed.holds
      (λ p j. InSeries s e g p.history →
      (number_given e < series_limit) × (order_opened e.request e.reply ≡ order_number_of (number_given e)))
      (λ calls i. series.numbered calls i) ks r;
  from = λ {e} n. resumed.holds_next
      (λ h e. is_own_opened e ≡ true → own_given (subscriber e.request) h ≤ number_given e)
      (λ calls e n. series.from n) ks e n;
  passed = λ {e} n. resumed.holds_next
      (λ h e. is_own_opened e ≡ true → (n : ℕ) → own_given (subscriber e.request) h ≤ n → n < number_given e →
      Held (subscriber e.request) n e.clock h)
      (λ calls e n. series.passed n) ks e n;
  unheld = λ {e} n. resumed.holds_next
      (λ h e. is_upload_opened e ≡ true → Held (subscriber e.request) (number_given e) e.clock h → ⊥)
      (λ calls e n. series.unheld n) ks e n;
  counters = λ s least most. resumed.holds
      (λ p j. series_of s p.bank_state.bank.series ≡ own_given s p.history)
      (λ calls. series.counters calls s least most) ks r;
  apart = λ {s} {e} {f} {g} {h}. resumed.holds
      (λ p j. OwnInSeries s e g p.history → OwnInSeries s f h p.history →
      number_given e ≡ number_given f → (e ≡ f) × (g ≡ h))
      (λ calls a b. series.apart calls a b) ks r;
  single = λ clock {s} {n} {t} {u}. resumed.holds
      (λ p j. HeldBy t s n clock p.history → HeldBy u s n clock p.history → t ≡ u)
      (λ calls a b. series.single calls clock a b) ks r;
  refused = λ {e} n. resumed.holds_next
      (λ h e. WellMadeOpening e → form e.request ≡ forms.ChosenOpening → Timely e h →
      Held (subscriber e.request) (order_in (order_number e.request)) e.clock h →
      RefusedWith code.OrderIdAlreadyExists e)
      (λ calls e n. series.refused n) ks e n;
  only_held = λ {e} n. resumed.holds_next
      (λ h e. RefusedWith code.OrderIdAlreadyExists e → (form e.request ≡ forms.ChosenOpening)
      × Held (subscriber e.request) (order_in (order_number e.request)) e.clock h)
      (λ calls e n. series.only_held n) ks e n;
  row = resumed.holds (λ p j. j.row ≡ row_of (events_in p.history)) journal-told.row ks r;
  events = resumed.holds (λ p j. j.events ≡ length (events_in p.history)) journal-told.events ks r;
  counted = counted-left ks r;
  adds = ap (λ (c : Counts). sum c) (counted-left ks r)
      ∙ resumed.holds (λ p j. sum (counts p.history) ≡ opened_count p.history) openings-end.adds ks r;
  signers = λ {o} {i} placed u. resumed.holds
      (λ p j. InBook p.bank_state o i → is_signer u (signers_at p.bank_state i) ≡ true → Signature o u p.history)
      (λ calls a. signers-told.signers calls a u) ks r placed;
  signed = λ {o} {i} placed u. resumed.holds
      (λ p j. InBook p.bank_state o i → Signature o u p.history → is_signer u (signers_at p.bank_state i) ≡ true)
      (λ calls a. signers-told.signed calls a u) ks r placed;
  booked_before = λ {o} {s}. resumed.holds (λ p j. (x : Signature o s p.history) → BooksOrder o x.before)
      (λ calls x. signers-told.booked calls x) ks r;
  count = λ {o} {i}. resumed.holds
      (λ p j. InBook p.bank_state o i → signer_count (signers_at p.bank_state i) ≡ signature_count o p.history)
      (λ calls a. signers-told.count calls a) ks r;
  signed_events = λ o. resumed.holds
      (λ p j. count_of (is_signed_of o) (events_in p.history) ≡ signature_count o p.history)
      (λ calls. signers-told.events calls o) ks r;
  released = λ {o} {i}. resumed.holds
      (λ p j. InBook p.bank_state o i → is_released (signers_at p.bank_state i) ≡ true → 2 ≤ signature_count o p.history)
      (λ calls a. signers-told.released calls a) ks r;
  unreleased = λ {o} {i}. resumed.holds
      (λ p j. InBook p.bank_state o i → is_released (signers_at p.bank_state i) ≡ false → signature_count o p.history ≤ 1)
      (λ calls a. signers-told.unreleased calls a) ks r;
  signs_only = λ {e} n s. subst (λ (w : BankState). SignsOnly e w (bank_left (frame_arrives n.lent n.input ∷ ks)))
      (sym (advanced-is n))
      (subst (SignsOnly e (advanced (resumed.next n).input.time (past_of (bank_calls ks)).bank_state)) (sym (bank-after n))
      (signers-told.only (resumed.next n) s));
  signed_replay = λ n s x z c. signers-told.replay (resumed.next n) (stood n s) x z c;
  booked = λ {t}. resumed.holds
      (λ p j. Recorded kind.Booked t j.row → ever is_booking t p.history ≡ true)
      (λ calls x. row-booked calls t x) ks r;
  ended = λ {t} x more longer.
      let j = ap (λ (j : Journal). j.row) (resumed.journal r) in
      ended-stays ks more (row-ended (bank_calls ks) t (subst (RecordedEnd t) j x)) longer;
  told = λ t d s last. resumed.holds
      (λ p j. OpenAs p.bank_state t d s last → standing t p.history ≡ Open d s last)
      (λ calls o. standing-is t (history-sound calls) ∙ call-drops.told calls t d s last o) ks r;
  shown = λ t d s last. resumed.holds
      (λ p j. standing t p.history ≡ Open d s last → OpenAs p.bank_state t d s last)
      (λ calls o. call-drops.shown calls t d s last (sym (standing-is t (history-sound calls)) ∙ o)) ks r;
  gone = λ {e} n t i.
      let (was, shut) = call-drops.gone (resumed.next n) t (subst (Dropped t e) (history-is n) i) in
      (subst (Opened t) (sym (bank-is n)) was, λ o. shut (subst (Opened t) (advanced-is n) o));
  stays = λ {e} n t d s last o i. subst (λ (w : BankState). OpenAs w t d s last) (sym (advanced-is n))
      (call-drops.stays (resumed.next n) t d s last (subst (λ (w : BankState). OpenAs w t d s last) (bank-is n) o)
      (λ k. i (subst (Dropped t e) (sym (history-is n)) k)));
  ordered = λ clock. resumed.holds (λ p j. Rising 0 (drops clock p.history))
      (λ calls. call-drops.ordered calls clock) ks r;
}
