-- Every call keeps what the counts of a session hold of its bank, so that none of them can wrap. Assumes nothing.
use Rattle.bank.specs.declared.mailbox.FileRefusal.{FileRefusal}
use Rattle.number_table.specs.declared.table.WrongLength.{WrongLength}
use Rattle.std.specs.Prelude.{Err, Ok, Result}
use Prim.Native.Nat.{ℕ, suc, ◌+◌, ◌-◌, ◌^◌, ◌≤◌, ◌<◌, max}
use mathlib.Core.Bool.{Bool, true, false, cond, ◌&&◌}
use mathlib.Core.List.{List, [], ◌∷◌}
use mathlib.Core.Path.{◌≡◌, refl, sym, ap, subst}
use native.Mathlib.Omega.{arith}
use lib.ListN.{length, get_or}
use borrow.Author.Tests.{lt-ltb}
use Rattle.octets.proofs.Numbers.{number_small}
use Rattle.frame_table.specs.declared.fields.Fields.{Fields}
use Rattle.frame_reader.specs.Reader.{read_request}
use Rattle.frame_row.specs.Row.{data_of}
use Rattle.frame_writer.specs.Writer.{frame_of, write_answer}
use Rattle.frame_writer.proofs.Written.{is-accepted, accepted-written}
use Rattle.message.specs.Verdicts.{decide}
use Rattle.message.proofs.Verdicts.{by-test}
use Rattle.bank_state.specs.declared.state.Place.{Place}
use Rattle.bank_state.specs.Clock.{is_idle, advanced}
use Rattle.bank_state.specs.Limits.{id_bytes, max_openings}
use Rattle.bank_state.specs.Rows.{count_of}
use Rattle.bank_state.specs.Search.{is_open, is_booked, open_count}
use Rattle.bank_state.specs.State.{Bank, BankState, no_place, fresh, with_files}
use Rattle.bank_state.proofs.Drops.{is_idle_place, advanced-at-clock, advanced-sized}
use Rattle.bank_clock.proofs.Falls.{advanced-falls}
use Rattle.opening_counts.specs.declared.seven.Counts.{Counts}
use Rattle.opening_counts.specs.Counts.{no_counts, counts_after, most_moved, fits, can_grow}
use Rattle.opening_counts.proofs.Laws.{ends_by, after-sum, after-pending}
use Rattle.bank_steps.proofs.Cases.{happens}
use Rattle.bank.specs.declared.mailbox.FileRefusal.TheVariants as answers
use Rattle.bank.specs.Call.{Step, answer_of, lent_right, respond, FrameInput, context_of, FrameCall, frame_call}
use Rattle.bank.specs.Mailbox.{file_refusals, carry_out_file, file_call}
use Rattle.bank.proofs.RequestBounds.{read-bounded}
use Rattle.bank.proofs.Right.{right-told}
use Rattle.bank.proofs.WrittenReplies.{respond-written}
use Rattle.bank_session.specs.Counts.{gone_by, counts_over, counts_by}
use Rattle.bank_admitted.specs.State.{StateHolds}
use Rattle.bank_admitted.specs.Session.{Brought}
use Rattle.bank_admitted.specs.Counts.{booked_orders, CountsHold}
use Rattle.bank_admitted.proofs.Clock.{advanced-keeps, sized}
use Rattle.bank_admitted.proofs.DropsKept.{advanced-place}
use Rattle.bank_admitted.proofs.InRange.{state-in-range}
use Rattle.bank_admitted.proofs.Signers.{open-not-booked}
use Rattle.bank_admitted.proofs.CountsMoved.{after-booked, request-moved}

-- ---- the clock

abbrev unit : Bool → ℕ
unit t = cond t 1 0

abbrev in_book : Place → Bool
in_book p = is_booked p.used

module _ (clock : ℕ) where
  one-booked : (p : Place) → unit (in_book (cond (is_idle_place clock p) no_place p)) ≡ unit (in_book p)
  one-booked p = at (is_open p.used) (is_idle clock p.last) refl
    where
      at : (s t : Bool) → is_open p.used ≡ s → unit (in_book (cond (s && t) no_place p)) ≡ unit (in_book p)
      at true true e = sym (ap unit (open-not-booked p.used e))
      at true false e = refl
      at false t e = refl

  book-stays : (l m : List Place) → length m ≡ length l →
      ((i : ℕ) → i < length l → get_or m i no_place ≡ cond (is_idle_place clock (get_or l i no_place)) no_place (get_or l i no_place)) →
      count_of in_book m ≡ count_of in_book l
  unfolding count_of
  book-stays [] [] h f = refl
  book-stays [] (y ∷ m) h f = absurd (omega arith)
  book-stays (x ∷ l) [] h f = absurd (omega arith)
  book-stays (x ∷ l) (y ∷ m) h f =
      let a = book-stays l m (omega arith) (λ i k. f (suc i) (omega arith)) in
      let b = ap (λ (p : Place). unit (in_book p)) (f 0 (omega arith)) in
      let c = one-booked x in
      omega (arith, a, b, c)

-- the clock drops what is open, so nothing from the book
drops-unbooked : (time : ℕ) (w : BankState) → StateHolds w → booked_orders (advanced time w).bank ≡ booked_orders w.bank
drops-unbooked time w v =
    let s = sized v.sizes in
    let n = (advanced-sized time w s).places in
    let k = v.sizes.places in
    book-stays (max w.bank.clock time) w.bank.places (advanced time w).bank.places (omega (arith, n, k))
    (λ i h. advanced-place time w s i (omega (arith, h, k)))

-- ---- a frame call

module _ (w : BankState) (v : StateHolds w) (a : FrameInput) where
  -- the bank that the request finds
  abbrev b : BankState
  b = advanced a.time w

  found : StateHolds b
  found = advanced-keeps a.time w v

  abbrev q : Fields
  q = read_request a.frame

  abbrev d : List ℕ
  d = data_of a.frame

  abbrev step : Step
  step = respond (context_of a) b q d

  -- where nothing gets number 1 there is a reply
  pub replies : Brought a → lent_right w a ≡ true →
      answer_of (write_answer step.reply step.reply_data a.buffer) ≡ Ok (length (frame_of step.reply step.reply_data))
  replies brought lent =
      let right = (right-told w a lent).2 in
      let r = respond-written (context_of a) b q d (number_small id_bytes a.ids brought.ids right.ids)
      (state-in-range b found) found.sizes.places found.sizes.downloads found.sizes.mailboxes
      (read-bounded a.frame brought.frame refl) in
      let room = right.room in
      ap answer_of
      (accepted-written step.reply step.reply_data a.buffer
      (is-accepted step.reply step.reply_data a.buffer r.written.accepted (omega (arith, r.most, room)))).0

  module _ (c : Counts) (h : CountsHold w.bank c) where
    -- the counts after an answered call
    after_holds : CountsHold step.bank_state.bank
        (counts_after step.verdict (gone_by w a) (open_count b.bank - open_count step.bank_state.bank - 1) c)
    unfolding respond
    after_holds =
        let m = request-moved b found q d (happens (context_of a) b q d found.sizes.places found.sizes.downloads) in
        let others = open_count b.bank - open_count step.bank_state.bank - 1 in
        let fall = advanced-falls a.time w v.sizes.places in
        let few : gone_by w a + ends_by step.verdict others ≤ c.pending = omega (arith, h.pending, m.few, fall) in
        let x = after-pending step.verdict (gone_by w a) others c few in
        let y = after-sum step.verdict (gone_by w a) others c few in
        let z = after-booked step.verdict (gone_by w a) others c in
        let o = (advanced-at-clock a.time w).openings in
        let k = drops-unbooked a.time w v in
        record {
          pending = omega (arith, h.pending, m.pending, m.few, fall, x);
          booked = omega (arith, h.booked, m.booked, k, z);
          all = omega (arith, h.all, m.openings, o, y);
        }

    pub frame-counts : Brought a →
        CountsHold (frame_call w a).bank_state.bank (counts_by (frame_call w a).answer (counts_over w a c) c)
    unfolding frame_call counts_over
    frame-counts brought =
        by-test
        (λ (x : FrameCall). CountsHold x.bank_state.bank
        (counts_by x.answer
        (counts_after step.verdict (gone_by w a) (open_count b.bank - open_count x.bank_state.bank - 1) c) c))
        (lent_right w a)
        (λ lent.
        subst (λ (r : Result ℕ WrongLength). CountsHold step.bank_state.bank
        (counts_by r
        (counts_after step.verdict (gone_by w a) (open_count b.bank - open_count step.bank_state.bank - 1) c) c))
        (sym (replies brought lent)) after_holds)
        (λ _. h)

-- ---- a file call

module _ (w : BankState) (c : Counts) (h : CountsHold w.bank c) where
  files-count : (files : List ℕ) → CountsHold (with_files files w.bank) c
  unfolding open_count
  files-count files = record { pending = h.pending; booked = h.booked; all = h.all }

  pub file-counts : (mailbox : ℕ) (file : List ℕ) → CountsHold (file_call w.bank mailbox file w.mailboxes).bank c
  unfolding file_call
  file-counts mailbox file = by (decide (file_refusals w.bank mailbox file w.mailboxes) (Ok tt))
    where
      by : (r : Result (Unit {0}) FileRefusal) → CountsHold (carry_out_file r w.bank mailbox file w.mailboxes).bank c
      by (Ok u) = files-count _
      by (Err answers.WrongLength) = h
      by (Err answers.NoMailbox) = h
      by (Err answers.WrongFile) = h
      by (Err answers.MailboxFull) = h

-- ---- a fresh session

pub fresh-counts : CountsHold fresh no_counts
unfolding fresh open_count count_of
fresh-counts = record { pending = refl; booked = refl; all = refl }

-- ---- no count wraps

one-fits : (n : ℕ) → n ≤ max_openings → fits n ≡ true
unfolding fits
one-fits n h = lt-ltb (n + most_moved) (2 ^ 64) (omega (arith, h))

pub counts-grow : {b : Bank} {c : Counts} → CountsHold b c → b.openings ≤ max_openings → can_grow c ≡ true
unfolding can_grow
counts-grow {b} {c} h few =
    let all = h.all in
    rw (
      one-fits c.pending (omega (arith, all, few)),
      one-fits c.booked (omega (arith, all, few)),
      one-fits c.fetched (omega (arith, all, few)),
      one-fits c.skipped (omega (arith, all, few)),
      one-fits c.ended (omega (arith, all, few)),
      one-fits c.cancelled (omega (arith, all, few)),
      one-fits c.dropped (omega (arith, all, few)),
    )
