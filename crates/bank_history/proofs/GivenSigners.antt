-- How many events signed the journal has: each comes with a signer more in the book, and no call takes a signer away.
-- Assumes nothing.
use Prim.Native.Nat.{ℕ, suc, ◌+◌, ◌≤◌, ◌<◌}
use mathlib.Core.Bool.{Bool, true, false, cond, not}
use mathlib.Core.List.{List, [], ◌∷◌, map}
use mathlib.Core.Path.{◌≡◌, refl, sym, ap, ◌∙◌}
use native.Mathlib.Omega.{arith}
use lib.ListN.{length, set}
use Rattle.frame_table.specs.declared.fields.Bits128.{Bits128}
use Rattle.frame_table.specs.declared.fields.Fields.{Fields}
use Rattle.frame_table.specs.Names.{subscriber, transaction, form}
use Rattle.signers.specs.Signers.{is_signer, signer_count}
use Rattle.signers.proofs.Counts.{count-grows}
use Rattle.bank_state.specs.declared.state.Place.{Place}
use Rattle.bank_state.specs.Limits.{place_count}
use Rattle.bank_state.specs.Rows.{count_of}
use Rattle.bank_state.specs.Search.{is_free, is_open, is_booked, free_place}
use Rattle.bank_state.specs.State.{BankState, no_place, place_at, download_at}
use Rattle.bank_state.proofs.Found.{upload-found}
use Rattle.bank_state.proofs.Rows.{first_passes}
use Rattle.bank_verdicts.specs.declared.verdict.UploadAction.{UploadAction}
use Rattle.bank_verdicts.specs.declared.verdict.UploadAction.TheVariants as up
use Rattle.bank_verdicts.specs.declared.verdict.DownloadAction.{DownloadAction}
use Rattle.bank_verdicts.specs.declared.verdict.DownloadAction.TheVariants as down
use Rattle.bank_verdicts.specs.declared.verdict.Action.TheVariants as action
use Rattle.bank_verdicts.specs.declared.verdict.SignedOrder.{SignedOrder}
use Rattle.bank_verdicts.specs.declared.verdict.Verdict.{Verdict}
use Rattle.bank_verdicts.specs.declared.verdict.Verdict.TheVariants as verdict
use Rattle.bank_verdicts.specs.Judgement.{opening_number, upload_at, download_of, order_at}
use Rattle.bank_verdicts.specs.Judgement as judgement
use Rattle.bank_openings.specs.Openings.{counted, counted_upload, new_place, open_upload, open_download}
use Rattle.bank_uploads.specs.Uploads.{place_after}
use Rattle.bank_signing.specs.Signings.{signed_place, sign}
use Rattle.bank_steps.specs.Steps.{download_acts, carry_out}
use Rattle.bank_steps.proofs.Cases.{
  ToOrder,
  Happens,
  unreadable,
  refused,
  opens_upload,
  opens_download,
  signs,
  to_upload,
  to_download,
  upload-acts,
}
use Rattle.journal.specs.declared.event.Kind.{Kind}
use Rattle.journal.specs.declared.event.Kind.TheVariants as kind
use Rattle.journal.specs.declared.event.Entry.{Entry}
use Rattle.journal.specs.declared.event.Event.{Event}
use Rattle.journal.specs.Events.{events_from}
use Rattle.journal.specs.Row.{transaction_of}
use Rattle.bank_events.specs.Entries.{order_in, action_entries}
use Rattle.bank.specs.Call.{FrameInput, respond}
use Rattle.bank_admitted.specs.State.{StateHolds}
use Rattle.bank_admitted.specs.Session.{signers_given}
use Rattle.bank_admitted.proofs.Clock.{sized}
use Rattle.bank_admitted.proofs.Signers.{given-set, given-more, unsigned, open-not-booked, free-not-booked, drops-unsigned}
use Rattle.bank_history.specs.History.{Exchange, Past, BankCall, Frame, call_exchange, exchange_of, after, start, past_of}
use Rattle.bank_history.specs.FalseEconomies.{Next}
use Rattle.bank_history.specs.Transactions.{answered}
use Rattle.bank_history.specs.Signers.{is_signed_kind}
use Rattle.bank_history.specs.Opened.{of_reply}
use Rattle.bank_history.specs.Journal.{entry_of, upload_drops, reply_entries, entries_of, events_in}
use Rattle.bank_history.proofs.Counts.{unit, count-append}
use Rattle.bank_history.proofs.Journal.{request-told}
use Rattle.bank_history.proofs.Keeps.{past-holds}
use Rattle.bank_history.proofs.Liveness.{by_call}
use Rattle.bank_history.proofs.NextCall.{judged_bank, asked, sent, judged-holds, case-is}
use Rattle.bank_history.proofs.Signatures.{has-bit}

-- the transaction ID of an entry's upload
abbrev pub entry_id : Entry → Bits128
entry_id y = record { high = y.high; low = y.low }

-- as many of the events numbered on pass a test as of their entries
pub count-from : (p : Kind → ℕ → ℕ → ℕ → Bits128 → Bool) (n clock : ℕ) (es : List Entry) →
    count_of (λ (v : Event). p v.kind v.subscriber v.order_type v.order (transaction_of v)) (events_from n clock es)
    ≡ count_of (λ (y : Entry). p y.kind y.subscriber y.order_type y.order (entry_id y)) es
unfolding count_of events_from
count-from p n clock [] = refl
count-from p n clock (e ∷ es) =
    ap (λ (m : ℕ). unit (p e.kind e.subscriber e.order_type e.order (entry_id e)) + m) (count-from p (suc n) clock es)

-- the events signed among entries, and of a history
abbrev pub signed_in : List Entry → ℕ
signed_in es = count_of (λ (y : Entry). is_signed_kind y.kind) es

abbrev pub signed_of : List Exchange → ℕ
signed_of h = count_of (λ (x : Event). is_signed_kind x.kind) (events_in h)

-- ---- one request

module _ (w : BankState) (v : StateHolds w) (q : Fields) (d : List ℕ) where
  abbrev given : ℕ
  given = signers_given w.bank.places

  -- an event signed comes with a signer more, and no signer is lost
  abbrev Gives : Verdict → Type 0
  Gives u =
      signed_in (action_entries u (order_in u w.bank q) q) + given ≤ signers_given (carry_out u w q d).bank.places

  -- a place changed whose order is not booked
  changed : (i : ℕ) → i < place_count → is_booked (place_at w.bank i).used ≡ false → (p : Place) →
      given ≤ signers_given (set w.bank.places i p)
  changed i inside unbooked p =
      given-more w.bank.places i p no_place (let l = v.sizes.places in omega arith) (unsigned w v i inside unbooked)

  upload-signs-not : (t : Bits128) (a : UploadAction) (n : ℕ) → signed_in (action_entries (verdict.Of t (action.Upload a)) n q) ≡ 0
  unfolding action_entries count_of
  upload-signs-not t (up.Opened m) n = refl
  upload-signs-not t up.Took n = refl
  upload-signs-not t up.TookLast n = refl
  upload-signs-not t (up.Point k) n = refl
  upload-signs-not t (up.Cancelled c) n = refl

  -- a download's request leaves every place
  downloads-only : (t : Bits128) (a : DownloadAction) → (download_acts a t w q).bank.places ≡ w.bank.places
  unfolding open_download counted
  downloads-only t (down.Opened n) = refl
  downloads-only t (down.Delivered n) = refl
  downloads-only t (down.SentAgain n) = refl
  downloads-only t (down.Point k) = refl
  downloads-only t down.Cancelled = refl
  downloads-only t down.Confirmed = refl
  downloads-only t down.Declined = refl

  module _ (c : ToOrder w q d) where
    abbrev p : Place
    p = place_at w.bank (order_at w.bank q)

    abbrev o : SignedOrder
    o = record { transaction = p.transaction; number = p.number }

    order-gives : (b : Bool) → is_signer (subscriber q) p.signers ≡ b →
        signed_in (action_entries (verdict.Signed o (not b)) p.number q) + given
        ≤ signers_given (sign q w.bank).places
    unfolding action_entries count_of sign
    order-gives b z =
        let l = v.sizes.places in
        let i = c.signable.inside in
        let g = given-set w.bank.places (order_at w.bank q) (signed_place (subscriber q) p) no_place (omega arith) in
        let m = count-grows (subscriber q) p.signers (has-bit (subscriber q) c.readable.known c.readable.most) in
        at b (m ∙ ap (λ (x : Bool). cond x (signer_count p.signers) (suc (signer_count p.signers))) z) g
      where
        more : ℕ
        more = signer_count (signed_place (subscriber q) p).signers

        at : (x : Bool) → more ≡ cond x (signer_count p.signers) (suc (signer_count p.signers)) →
            signers_given (sign q w.bank).places + signer_count p.signers ≡ given + more →
            signed_in (action_entries (verdict.Signed o (not x)) p.number q) + given
            ≤ signers_given (sign q w.bank).places
        at true m g = omega arith
        at false m g = omega arith

  case-gives : {first : ℕ} {u : Verdict} → Happens first w q d u → Gives u
  unfolding action_entries count_of open_upload counted_upload counted open_download free_place
  case-gives unreadable = omega arith
  case-gives (refused c z) = omega arith
  case-gives {first} (opens_upload f a g n inside numbered) =
      let l = v.sizes.places in
      let i = free_place w.bank in
      let free = first_passes (λ (r : Place). is_free r.used) w.bank.places no_place (omega arith) in
      let k = changed i inside (free-not-booked (place_at w.bank i).used free)
      (new_place (judgement.transaction_of first w.bank) (opening_number w.bank q) w.bank.clock q) in
      omega arith
  case-gives (opens_download f a g n) = omega arith
  case-gives (to_upload r a c) =
      let t = (place_at w.bank (upload_at w.bank q)).transaction in
      let i = upload_at w.bank q in
      let used = ap is_open (upload-found (subscriber q) (transaction q) (place_at w.bank i) c.found).0 in
      let k = changed i c.inside (open-not-booked (place_at w.bank i).used used)
      (place_after a w.bank.clock (length d) (place_at w.bank i)) in
      let s = ap (λ (x : BankState). signers_given x.bank.places) (upload-acts t c) in
      let none = upload-signs-not t a (order_in (verdict.Of t (action.Upload a)) w.bank q) in
      omega arith
  case-gives (to_download r a c) =
      let s = ap signers_given (downloads-only (download_at w.bank (download_of w.bank q)).transaction a) in
      omega arith
  case-gives (signs c) = order-gives c (is_signer (subscriber q) (place_at w.bank (order_at w.bank q)).signers) refl

-- ---- one call

drops-sign-not : (h : List Exchange) (l : List Bits128) → signed_in (map (λ (t : Bits128). entry_of kind.Dropped t h) l) ≡ 0
unfolding count_of
drops-sign-not h [] = refl
drops-sign-not h (t ∷ l) = let a = drops-sign-not h l in omega arith

module _ {calls : List BankCall} {e : Exchange} (n : Next calls e) where
  abbrev h : List Exchange
  h = (past_of calls).history

  abbrev past : BankState
  past = (past_of calls).bank_state

  call-gives : signed_in (entries_of e h) + signers_given past.bank.places
      ≤ signers_given (carry_out e.verdict (judged_bank n) (asked n) (sent n)).bank.places
  unfolding entries_of
  call-gives =
      let drops = map (λ (t : Bits128). entry_of kind.Dropped t h) (upload_drops e.clock h) in
      let rest = of_reply [] (reply_entries e h) (form e.reply) in
      let a = count-append (λ (y : Entry). is_signed_kind y.kind) drops rest in
      let b = drops-sign-not h (upload_drops e.clock h) in
      let c = ap signed_in (request-told n) in
      let g = case-gives (judged_bank n) (judged-holds n).state (asked n) (sent n) (case-is n) in
      let state = (past-holds calls).invariant.state in
      let u = drops-unsigned n.input.time past state (sized state.sizes) in
      omega arith

  next-few : signed_of h ≤ signers_given past.bank.places →
      signed_of (e ∷ h) ≤ signers_given (carry_out e.verdict (judged_bank n) (asked n) (sent n)).bank.places
  unfolding events_in
  next-few old =
      let a = count-append (λ (x : Event). is_signed_kind x.kind) (events_in h)
      (events_from (length (events_in h)) e.clock (entries_of e h)) in
      let b = count-from (λ (k : Kind) (s t m : ℕ) (i : Bits128). is_signed_kind k) (length (events_in h)) e.clock (entries_of e h) in
      let c = call-gives in
      omega arith

-- ---- every list of calls

-- the events signed are at most the signers in the book
pub signed-few : (calls : List BankCall) →
    signed_of (past_of calls).history ≤ signers_given (past_of calls).bank_state.bank.places
unfolding past_of start events_in count_of exchange_of respond
signed-few [] = omega arith
signed-few (c ∷ calls) =
    by_call (λ (r : Past). signed_of r.history ≤ signers_given r.bank_state.bank.places) c p (past-holds calls)
    (signed-few calls) (λ a y z. answers a (ap (λ (x : BankCall). after x p) (sym y) ∙ z) (signed-few calls)) (λ m f z. signed-few calls)
  where
    p : Past
    p = past_of calls

    answers : (a : FrameInput) → after (Frame a) p ≡ answered a p →
        signed_of p.history ≤ signers_given p.bank_state.bank.places →
        signed_of (answered a p).history ≤ signers_given (answered a p).bank_state.bank.places
    answers a z old =
        next-few {calls = calls} {e = call_exchange p.bank_state a}
        (record { input = a; entered = ap (λ (r : Past). r.history) z }) old
