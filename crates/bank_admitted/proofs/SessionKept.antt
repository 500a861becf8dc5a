-- Every call keeps what a session may hold; what it holds of the state and of idle transactions is taken as given.
use Rattle.bank.specs.declared.mailbox.FileRefusal.{FileRefusal}
use Rattle.number_table.specs.declared.table.WrongLength.{WrongLength}
use Rattle.std.specs.Prelude.{Err, Ok, Result}
use Prim.Native.Nat.{ℕ, ◌+◌, ◌*◌, ◌^◌, ◌≤◌, ◌<◌, max}
use mathlib.Core.Bool.{true, false}
use mathlib.Core.List.Memᴰ.{append_cases as in-append}
use mathlib.Core.List.{List, ◌++◌, map, Memᴰ as In}
use mathlib.Core.Logic.{◌⊎◌, inl, inr}
use mathlib.Core.Path.{◌≡◌, refl, sym, ◌∙◌, subst}
use native.Mathlib.Decide.{dec_lt}
use native.Mathlib.Omega.{arith}
use lib.ListN.{length, get_or, length-append, get_or-eq_default, length-map}
use Rattle.octets.specs.Bytes.{number}
use Rattle.octets.proofs.Numbers.{number_small}
use Rattle.octets.proofs.Tests.{never}
use Rattle.frame_table.specs.declared.fields.Fields.{Fields}
use Rattle.frame_table.specs.Table.{last_time}
use Rattle.frame_reader.specs.Reader.{read_request}
use Rattle.frame_row.specs.Row.{data_of}
use Rattle.message.specs.Verdicts.{decide}
use Rattle.message.proofs.Verdicts.{by-test}
use Rattle.bank_state.specs.declared.clock.Ended.TheVariants.{Idle}
use Rattle.bank_state.specs.declared.state.Download.{Download}
use Rattle.bank_state.specs.declared.state.Place.{Place}
use Rattle.bank_state.specs.Clock.{advanced}
use Rattle.bank_state.specs.Limits.{place_count, id_bytes}
use Rattle.bank_state.specs.Search.{is_free, is_booked}
use Rattle.bank_state.specs.State.{BankState, bank_state, no_place, no_download, place_at, download_at, with_files}
use Rattle.bank_state.proofs.Drops.{is_idle_place, AtClock, advanced-at-clock, Sized, advanced-sized, each-end_downloads}
use Rattle.bank_verdicts.specs.declared.verdict.Verdict.{Verdict}
use Rattle.bank_verdicts.specs.Judgement.{judge}
use Rattle.journal.specs.declared.event.Entry.{Entry}
use Rattle.journal.specs.Events.{max_entries}
use Rattle.journal.specs.Row.{Journal}
use Rattle.bank_events.specs.Entries.{drop_entry, dropped_uploads, order_in, action_entries, call_entries}
use Rattle.bank_steps.specs.Steps.{carry_out}
use Rattle.bank.specs.declared.mailbox.FileRefusal.TheVariants as answers
use Rattle.bank.specs.Call.{RightInput, lent_right, respond, replied, FrameInput, context_of, FrameCall, frame_call}
use Rattle.bank.specs.Journal.{entered_by, journal_after, journal_by, with_entries}
use Rattle.bank.specs.Mailbox.{file_refusals, carry_out_file, file_call}
use Rattle.bank.proofs.Right.{right-told}
use Rattle.bank_admitted.specs.State.{StateHolds, NoneIdle}
use Rattle.bank_admitted.specs.Session.{NoncesApart, JournalHolds, open_uploads, signers_given, SessionHolds, Brought}
use Rattle.bank_steps.proofs.Cases.{happens}
use Rattle.bank_admitted.proofs.Clock.{sized}
use Rattle.bank_admitted.proofs.Held.{place-counted}
use Rattle.bank_admitted.proofs.DropsKept.{advanced-place, drops-counted, drops-entered}
use Rattle.bank_admitted.proofs.JournalKept.{EntryHolds, entry-later, journal-later, journal-entered}
use Rattle.bank_admitted.proofs.NoncesKept.{nonces-later}
use Rattle.bank_admitted.proofs.OpeningRead.{nonce-read, timestamp-read}
use Rattle.bank_admitted.proofs.Signers.{given-most, unsigned, drops-unsigned}
use Rattle.bank_admitted.proofs.RequestKept.{PlaceNumbered, DownloadNumbered, free-numbered, OrderNamed, Found, Left, request-left}

-- no count of events wraps: nine more fit in 64 bits
pub events-fit : {w : BankState} {j : Journal} → SessionHolds w j → j.events + max_entries < 2 ^ 64
events-fit {w} {j} h =
    let a = h.events in
    let b = h.state.numbers in
    let c = h.state.sizes.places in
    let d = given-most w.bank.places in
    omega arith

-- ---- a frame call that is answered

module _ {w : BankState} {j : Journal} (h : SessionHolds w j) (a : FrameInput) (brought : Brought a) where
  abbrev c : ℕ
  c = max w.bank.clock a.time

  -- the bank that the request finds
  abbrev b : BankState
  b = advanced a.time w

  abbrev q : Fields
  q = read_request a.frame

  abbrev d : List ℕ
  d = data_of a.frame

  s : Sized w
  s = sized h.state.sizes

  -- what the clock leaves
  at : AtClock c w b
  at = advanced-at-clock a.time w

  found-place : (i : ℕ) → i < place_count → PlaceNumbered (place_at b.bank i)
  found-place i l =
      subst PlaceNumbered (sym (advanced-place a.time w s i l))
      (by-test PlaceNumbered (is_idle_place c (place_at w.bank i)) (λ _. free-numbered)
      (λ _. h.places i l))

  found-places : (i : ℕ) → PlaceNumbered (place_at b.bank i)
  found-places i = by (dec_lt i place_count)
    where
      by : Dec (i < place_count) → PlaceNumbered (place_at b.bank i)
      by (yes l) = found-place i l
      by (no l) =
          let n = (advanced-sized a.time w s).places in
          subst PlaceNumbered (sym (get_or-eq_default b.bank.places no_place {n = i} (omega arith))) free-numbered

  found-named : (i : ℕ) → i < place_count → is_free (place_at b.bank i).used ≡ false →
      OrderNamed b.bank.openings (place_at b.bank i)
  found-named i l =
      subst (λ (o : ℕ). is_free (place_at b.bank i).used ≡ false → OrderNamed o (place_at b.bank i)) (sym at.openings)
      (subst Named (sym (advanced-place a.time w s i l))
      (by-test Named (is_idle_place c (place_at w.bank i)) (λ _ e. never (sym e))
      (λ _ e. record { ordered = h.state.orders i l e; counted = place-counted w h.state i l e })))
    where
      Named : Place → Type 0
      Named p = is_free p.used ≡ false → OrderNamed w.bank.openings p

  found-unsigned : (i : ℕ) → i < place_count → is_booked (place_at b.bank i).used ≡ false → (place_at b.bank i).signers ≡ 0
  found-unsigned i l =
      subst Unsigned (sym (advanced-place a.time w s i l))
      (by-test Unsigned (is_idle_place c (place_at w.bank i)) (λ _ _. refl) (λ _. unsigned w h.state i l))
    where
      Unsigned : Place → Type 0
      Unsigned p = is_booked p.used ≡ false → p.signers ≡ 0

  found-nonces : NoncesApart b.bank.clock b.bank.nonces
  found-nonces =
      subst (λ (n : ℕ). NoncesApart n b.bank.nonces) (sym at.clock)
      (subst (NoncesApart c) (sym at.nonces)
      (nonces-later w.bank.clock c (omega arith) w.bank.nonces h.nonces))

  found-downloads : (i : ℕ) → DownloadNumbered (download_at b.bank i)
  found-downloads i =
      subst (λ (l : List Download). DownloadNumbered (get_or l i no_download)) (sym at.downloads)
      (each-end_downloads DownloadNumbered (record { high = omega arith; low = omega arith }) (Idle c) w.bank.downloads
      (λ k _ _. h.downloads k) i)

  found : Found b
  found =
      let n = advanced-sized a.time w s in
      record {
        rowed = n.places;
        remembered = n.nonces;
        nonces = found-nonces;
        places = found-places;
        downloads = found-downloads;
        named = found-named;
        unsigned = found-unsigned;
      }

  module _ (lent : lent_right w a ≡ true) where
    right : RightInput a
    right = (right-told w a lent).2

    abbrev v : Verdict
    v = judge (context_of a) b.bank q (length d)

    -- the bank that it leaves, and what it enters
    abbrev after : BankState
    after = carry_out v b q d

    abbrev drops : List Entry
    drops = map drop_entry (dropped_uploads c w.bank)

    abbrev acted : List Entry
    acted = action_entries v (order_in v b.bank q) q

    left : Left b after acted
    left =
        let n = advanced-sized a.time w s in
        request-left (number a.ids)
        (number_small id_bytes a.ids brought.ids right.ids) b found q d
        (record {
          nonce = nonce-read a.frame brought.frame;
          timestamp = timestamp-read a.frame brought.frame;
        })
        (happens (context_of a) b q d n.places n.downloads)

    now : after.bank.clock ≡ c
    now = left.clock ∙ at.clock

    more : w.bank.openings ≤ after.bank.openings
    more = let x = left.more in let y = at.openings in omega arith

    in-time : after.bank.clock ≤ last_time
    in-time = let x = h.clock in let y = right.in_time in let z = now in omega arith

    -- the journal before, at the call's clock and after its opening
    journal-waits : JournalHolds c after.bank.openings j
    journal-waits = journal-later (omega arith) more h.journal

    entries-hold : (e : Entry) → In e (drops ++ acted) → EntryHolds after.bank.openings e
    entries-hold e m = by (in-append drops m)
      where
        by : In e drops ⊎ In e acted → EntryHolds after.bank.openings e
        by (inl k) = entry-later more (drops-entered w h.state h.places c e k)
        by (inr k) = left.entries e k

    -- all but the journal
    with-journal : (k : Journal) → StateHolds after → NoneIdle after → JournalHolds c after.bank.openings k →
        k.events + open_uploads after.bank ≤ 2 * after.bank.openings + signers_given after.bank.places → SessionHolds after k
    with-journal k state idle journal events = record {
      state = state;
      idle = idle;
      clock = in-time;
      nonces = left.nonces;
      places = λ i _. left.places i;
      downloads = left.downloads;
      journal = subst (λ (n : ℕ). JournalHolds n after.bank.openings k) (sym now) journal;
      events = events;
    }

    -- no opening has more than two events, an open upload one, and a signer one
    few : j.events + length (drops ++ acted) + open_uploads after.bank
        ≤ 2 * after.bank.openings + signers_given after.bank.places
    few =
        let x = h.events in
        let y = drops-counted a.time w s in
        let z = left.events in
        let o = at.openings in
        let g = drops-unsigned a.time w h.state s in
        let l = length-append drops acted in
        let m = length-map (dropped_uploads c w.bank) drop_entry in
        omega arith

    answered-keeps : (r : Result ℕ WrongLength) → StateHolds after → NoneIdle after →
        SessionHolds after (journal_by r (with_entries c (drops ++ acted) j) j)
    answered-keeps (Ok n) state idle =
        with-journal (with_entries c (drops ++ acted) j) state idle
        (journal-entered c after.bank.openings (drops ++ acted) j journal-waits entries-hold) few
    answered-keeps (Err e) state idle =
        with-journal j state idle journal-waits (let x = few in omega arith)

-- ---- the calls

module _ {w : BankState} {j : Journal} (h : SessionHolds w j) where
  -- a frame call
  pub frame-keeps : (a : FrameInput) → Brought a → StateHolds (frame_call w a).bank_state →
      NoneIdle (frame_call w a).bank_state →
      SessionHolds (frame_call w a).bank_state (journal_by (frame_call w a).answer (journal_after w a j) j)
  unfolding frame_call respond journal_after entered_by call_entries
  frame-keeps a brought =
      let step = respond (context_of a) (advanced a.time w) (read_request a.frame) (data_of a.frame) in
      by-test
      (λ (x : FrameCall). StateHolds x.bank_state → NoneIdle x.bank_state →
      SessionHolds x.bank_state (journal_by x.answer (journal_after w a j) j))
      (lent_right w a) (λ lent. answered-keeps h a brought lent (replied step a.buffer).answer)
      (λ _ _ _. h)

  -- a file put into a mailbox: "brings no time and moves no clock", and enters nothing
  files-keep : (files mailboxes : List ℕ) → StateHolds (bank_state (with_files files w.bank) w.orders mailboxes) →
      NoneIdle (bank_state (with_files files w.bank) w.orders mailboxes) →
      SessionHolds (bank_state (with_files files w.bank) w.orders mailboxes) j
  files-keep files mailboxes state idle = record {
    state = state;
    idle = idle;
    clock = h.clock;
    nonces = h.nonces;
    places = h.places;
    downloads = h.downloads;
    journal = h.journal;
    events = h.events;
  }

  pub file-keeps : (mailbox : ℕ) (file : List ℕ) →
      StateHolds (bank_state (file_call w.bank mailbox file w.mailboxes).bank w.orders
      (file_call w.bank mailbox file w.mailboxes).mailboxes) →
      NoneIdle (bank_state (file_call w.bank mailbox file w.mailboxes).bank w.orders
      (file_call w.bank mailbox file w.mailboxes).mailboxes) →
      SessionHolds (bank_state (file_call w.bank mailbox file w.mailboxes).bank w.orders
      (file_call w.bank mailbox file w.mailboxes).mailboxes) j
  unfolding file_call
  file-keeps mailbox file = by (decide (file_refusals w.bank mailbox file w.mailboxes) (Ok tt))
    where
      After : Result (Unit {0}) FileRefusal → BankState
      After r =
          let x = carry_out_file r w.bank mailbox file w.mailboxes in
          bank_state x.bank w.orders x.mailboxes

      by : (r : Result (Unit {0}) FileRefusal) → StateHolds (After r) → NoneIdle (After r) → SessionHolds (After r) j
      by (Ok u) = files-keep _ _
      by (Err answers.WrongLength) = files-keep w.bank.files w.mailboxes
      by (Err answers.NoMailbox) = files-keep w.bank.files w.mailboxes
      by (Err answers.WrongFile) = files-keep w.bank.files w.mailboxes
      by (Err answers.MailboxFull) = files-keep w.bank.files w.mailboxes
