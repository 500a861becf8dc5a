-- The journal's events signed: of each order as many as it has signers. An exchange more adds one to both where it is the
-- first signature of its subscriber, and else to neither. By induction on the calls. Assumes nothing.
use Prim.Native.Nat.{ℕ, ◌+◌}
use mathlib.Core.Bool.{Bool, true, false, cond, not, ◌&&◌}
use mathlib.Core.List.{List, [], ◌∷◌, map}
use mathlib.Core.Path.{◌≡◌, refl, sym, ap, ◌∙◌}
use native.Mathlib.Omega.{arith}
use lib.Dec.{eqb}
use lib.ListN.{length}
use Rattle.frame_table.specs.declared.fields.Bits128.{Bits128}
use Rattle.frame_table.specs.declared.table.Form.{Form}
use Rattle.frame_table.specs.declared.table.Form.TheVariants.{NoForm, Request, Reply}
use Rattle.frame_table.specs.declared.table.ReplyForm.TheVariants as replies
use Rattle.frame_table.specs.Forms as forms
use Rattle.frame_table.specs.Names.{subscriber, transaction, segment, return_code, form}
use Rattle.octets.proofs.Tests.{and-true-right}
use Rattle.message.specs.declared.codes.ReturnCode.TheVariants as code
use Rattle.message.specs.Codes.{code_field}
use Rattle.message.specs.Editions.{edition_of}
use Rattle.message.specs.OrderNumbers.{order_number_of}
use Rattle.bank_state.specs.Rows.{count_of}
use Rattle.journal.specs.declared.event.Kind.{Kind}
use Rattle.journal.specs.declared.event.Kind.TheVariants as kind
use Rattle.journal.specs.declared.event.Entry.{Entry}
use Rattle.journal.specs.declared.event.OrderName.{OrderName}
use Rattle.journal.proofs.Lookup.{same-name}
use Rattle.journal.specs.Events.{event_of, events_from}
use Rattle.journal.specs.Records.{name_of}
use Rattle.bank_events.specs.Entries.{entry}
use Rattle.bank_history.specs.History.{Exchange, newest, BankCall, start, past_of}
use Rattle.bank_history.specs.Signatures.{signed_name, same_name, is_signed, signs, has_signed, signature_count}
use Rattle.bank_history.specs.Sound.{is_cancelling, SoundSigning}
use Rattle.bank_history.specs.Opened.{of_reply, is_upload_opened}
use Rattle.bank_history.specs.ByReplies.{number_given, segment_count_of, is_upload_id, is_code}
use Rattle.bank_history.specs.FalseEconomies.{Next}
use Rattle.bank_history.specs.Journal.{entry_of, upload_drops, booked_as, signed_entries, reply_entries, entries_of, events_in}
use Rattle.bank_history.specs.Signers.{is_signed_kind, is_signed_of}
use Rattle.bank_history.proofs.Closed.{by-exchange, booked-status}
use Rattle.bank_history.proofs.Counts.{unit, count-append, count_map, count_none}
use Rattle.bank_history.proofs.Entries.{and_no}
use Rattle.bank_history.proofs.GivenSigners.{count-from}
use Rattle.bank_history.proofs.Keeps.{past-holds}
use Rattle.bank_history.proofs.NextCall.{all_sound}
use Rattle.bank_history.proofs.Positions.{signing-sound}
use Rattle.bank_history.proofs.Replies.{verdict_form, verdict-form}
use Rattle.bank_history.proofs.SignedHistory.{same-named, signed-signs, signatures-more, signatures-same, no-signatures}
use Rattle.bank_history.proofs.SignedOrders.{signed-entry}
use Rattle.bank_history.proofs.SignedVerdicts.{IsSigned, next-signed}
use Rattle.bank_history.proofs.Theorems.{history-sound, reply-is}

-- an entry signed of the order o
abbrev is_signed_entry : OrderName → Entry → Bool
is_signed_entry o y = is_signed_kind y.kind && same_name (name_of (event_of 0 0 y)) o

-- the entries numbered on
count-signed : (o : OrderName) (n clock : ℕ) (es : List Entry) →
    count_of (is_signed_of o) (events_from n clock es) ≡ count_of (is_signed_entry o) es
count-signed o =
    count-from (λ (k : Kind) (s t m : ℕ) (i : Bits128). is_signed_kind k
    && same_name (record { subscriber = s; order_type = t; number = order_number_of m }) o)

module _ {calls : List BankCall} {e : Exchange} (n : Next calls e) (o : OrderName) where
  abbrev h : List Exchange
  h = (past_of calls).history

  abbrev u : ℕ
  u = subscriber e.request

  -- the first signature of its subscriber
  abbrev is_first : Bool
  is_first = signs o e && not (has_signed o u h)

  -- what a reply says of a cancellation
  abbrev cancelled : List Entry
  cancelled =
      let t = transaction e.request in
      cond (is_cancelling (return_code e.reply) && is_upload_id t h) (entry_of kind.Cancelled t h ∷ []) []

  -- ---- an accepted signing

  module _ (z : is_signed e ≡ true) where
    own : IsSigned e.verdict
    own = next-signed n (signed-signs e z)

    told : SoundSigning own.0 own.1 e h
    told = signing-sound (all_sound n) newest own.2

    refused-form : form e.reply ≡ forms.Refusal
    refused-form =
        ap form (reply-is (all_sound n) newest) ∙ (verdict-form e.verdict e.request ∙ ap (verdict_form (edition_of e.request)) own.2)

    abbrev name : OrderName
    name = signed_name e

    abbrev event : Entry
    event = entry kind.Signed name.subscriber own.0.number own.0.transaction

    -- the entries that the booked upload of its name gives
    entered : map (λ (t : Bits128). entry_of kind.Signed t h) (booked_as name h) ≡ event ∷ []
    entered =
        signed-entry (history-sound calls) told (past_of calls).bank_state (past-holds calls).invariant
        (λ t. booked-status t calls)

    event-named : is_signed_entry o event ≡ same_name name o
    event-named =
        ap (λ (r : OrderName). same_name r o) (same-name refl (sym told.typed) (sym told.named))

    first-event : (b : Bool) → count_of (is_signed_entry o) (cond b [] (event ∷ [])) ≡ unit (same_name name o && not b)
    unfolding count_of
    first-event true = ap unit (sym (and_no (same_name name o)))
    first-event false =
        let a : unit (is_signed_entry o event) ≡ unit (same_name name o && true) =
        ap unit (event-named ∙ and-true-right (same_name name o)) in
        omega arith

    same-order : (b : Bool) → same_name name o ≡ b → (b && not (has_signed name u h)) ≡ (b && not (has_signed o u h))
    same-order true y = ap (λ (r : OrderName). not (has_signed r u h)) (same-named name o y)
    same-order false y = refl

    signing-adds : count_of (is_signed_entry o) (of_reply [] (reply_entries e h) (form e.reply)) ≡ unit is_first
    signing-adds =
        ap (λ (f : Form). count_of (is_signed_entry o) (of_reply [] (reply_entries e h) f)) refused-form
        ∙ (ap (λ (b : Bool). count_of (is_signed_entry o) (cond b (signed_entries e h) cancelled)) z
        ∙ (ap (λ (l : List Entry). count_of (is_signed_entry o) (cond (has_signed name u h) [] l)) entered
        ∙ (first-event (has_signed name u h)
        ∙ (ap unit (same-order (same_name name o) refl)
        ∙ ap (λ (b : Bool). unit (b && same_name name o && not (has_signed o u h))) (sym z)))))

    signature-adds : signature_count o (e ∷ h) ≡ unit is_first + signature_count o h
    signature-adds = signatures-more o e h told.known told.most

  -- ---- any other exchange

  module _ (z : is_signed e ≡ false) where
    none_first : unit is_first ≡ 0
    none_first = ap (λ (b : Bool). unit (b && same_name (signed_name e) o && not (has_signed o u h))) z

    none-or-one : (b : Bool) (y : Entry) → is_signed_kind y.kind ≡ false → count_of (is_signed_entry o) (cond b (y ∷ []) []) ≡ 0
    unfolding count_of
    none-or-one true y other = rw other refl
    none-or-one false y other = refl

    none-entered : (f : Form) → count_of (is_signed_entry o) (of_reply [] (reply_entries e h) f) ≡ 0
    unfolding count_of
    none-entered NoForm = refl
    none-entered (Request x) = refl
    none-entered (Reply replies.UploadOpened) = refl
    none-entered (Reply replies.DownloadOpened) = refl
    none-entered (Reply replies.SegmentTaken) =
        none-or-one
        (is_code (code_field code.Ok) e && eqb (segment e.request) (segment_count_of (transaction e.reply) h))
        (entry_of kind.Booked (transaction e.reply) h) refl
    none-entered (Reply replies.DownloadSegment) = refl
    none-entered (Reply replies.ReceiptAnswered) =
        none-or-one (is_upload_opened e) (entry kind.Opened u (number_given e) (transaction e.reply)) refl
    none-entered (Reply replies.Refusal) =
        ap (λ (b : Bool). count_of (is_signed_entry o) (cond b (signed_entries e h) cancelled)) z
        ∙ none-or-one (is_cancelling (return_code e.reply) && is_upload_id (transaction e.request) h)
        (entry_of kind.Cancelled (transaction e.request) h) refl
    none-entered (Reply replies.Unreadable) = refl

  -- ---- both

  request-adds : count_of (is_signed_entry o) (of_reply [] (reply_entries e h) (form e.reply)) ≡ unit is_first
  request-adds = at (is_signed e) refl
    where
      at : (b : Bool) → is_signed e ≡ b →
          count_of (is_signed_entry o) (of_reply [] (reply_entries e h) (form e.reply)) ≡ unit is_first
      at true z = signing-adds z
      at false z = none-entered z (form e.reply) ∙ sym (none_first z)

  signatures-next : signature_count o (e ∷ h) ≡ unit is_first + signature_count o h
  signatures-next = at (is_signed e) refl
    where
      at : (b : Bool) → is_signed e ≡ b → signature_count o (e ∷ h) ≡ unit is_first + signature_count o h
      at true z = signature-adds z
      at false z = let a = signatures-same o e h z in let b = none_first z in omega arith

  drops-none : count_of (is_signed_entry o) (map (λ (t : Bits128). entry_of kind.Dropped t h) (upload_drops e.clock h)) ≡ 0
  drops-none =
      count_map (is_signed_entry o) (λ (t : Bits128). entry_of kind.Dropped t h) (upload_drops e.clock h)
      ∙ count_none _ (upload_drops e.clock h) (λ t i. refl)

  events-next : count_of (is_signed_of o) (events_in h) ≡ signature_count o h →
      count_of (is_signed_of o) (events_in (e ∷ h)) ≡ signature_count o (e ∷ h)
  unfolding events_in entries_of
  events-next old =
      let drops = map (λ (t : Bits128). entry_of kind.Dropped t h) (upload_drops e.clock h) in
      let rest = of_reply [] (reply_entries e h) (form e.reply) in
      let a = count-append (is_signed_of o) (events_in h) (events_from (length (events_in h)) e.clock (entries_of e h)) in
      let b = count-signed o (length (events_in h)) e.clock (entries_of e h) in
      let c = count-append (is_signed_entry o) drops rest in
      let d = drops-none in
      let f = request-adds in
      let g = signatures-next in
      omega arith

pub signed-events : (calls : List BankCall) (o : OrderName) →
    count_of (is_signed_of o) (events_in (past_of calls).history) ≡ signature_count o (past_of calls).history
unfolding past_of start events_in count_of
signed-events [] o = sym (no-signatures o)
signed-events (c ∷ calls) o =
    by-exchange (λ (g : List Exchange). count_of (is_signed_of o) (events_in g) ≡ signature_count o g) calls c
    (signed-events calls o) (λ e n. events-next n o (signed-events calls o))
