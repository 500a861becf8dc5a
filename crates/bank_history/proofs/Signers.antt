-- The signers of the orders in the book: a signing answered 000000 is one that the bank judged so, its order was booked
-- before, and the places' signers are the history's by the invariant. Assumes nothing.
use Prim.Native.Nat.{ℕ, ◌+◌, ◌≤◌, ◌<◌}
use mathlib.Core.Bool.{Bool, true, false, cond, not, ◌&&◌, ◌||◌}
use mathlib.Core.List.{List, [], ◌∷◌}
use mathlib.Core.Logic.{◌⊎◌, inl, inr}
use mathlib.Core.Path.{◌≡◌, refl, sym, ap, ◌∙◌, subst}
use native.Mathlib.Decide.{dec_lt}
use native.Mathlib.Omega.{arith}
use lib.Dec.{leb}
use lib.ListN.{set, get_or-eq_default}
use lib.Seq.{get_or-set_same, get_or-set_other}
use borrow.Author.Tests.{le-ltb, lt-leb, leb-true, leb-false}
use Rattle.frame_table.specs.declared.fields.Bits128.{Bits128}
use Rattle.frame_table.specs.declared.fields.Fields.{Fields}
use Rattle.frame_table.specs.Forms as forms
use Rattle.frame_table.specs.Names.{subscriber, order_type, nonce, timestamp, return_code, order_number, owner, form}
use Rattle.frame_table.specs.Table.{is_request_form}
use Rattle.octets.proofs.Tests.{and-true, or_right}
use Rattle.message.specs.declared.codes.ReturnCode.TheVariants as code
use Rattle.message.specs.Codes.{code_field}
use Rattle.message.specs.Editions.{edition_of}
use Rattle.message.specs.Limits.{ful, subscribers}
use Rattle.signers.specs.Signers.{releasing, has_bit, is_signer, signer_count, is_released}
use Rattle.journal.specs.declared.event.OrderName.{OrderName}
use Rattle.journal.proofs.Lookup.{same-name}
use Rattle.bank_state.specs.declared.state.Place.{Place}
use Rattle.bank_state.specs.Limits.{place_count, nonce_count, window}
use Rattle.bank_state.specs.Rows.{count_of}
use Rattle.bank_state.specs.Search.{is_booked, free_nonce, is_remembered}
use Rattle.bank_state.specs.State.{Bank, BankState, bank_state, no_place, place_at}
use Rattle.bank_state.proofs.Rows.{first_passes}
use Rattle.bank_verdicts.specs.declared.verdict.Verdict.{Verdict}
use Rattle.bank_verdicts.specs.declared.verdict.Verdict.TheVariants as verdict
use Rattle.bank_verdicts.specs.Refusals.{unknown_type, in_time, is_replay, no_owner, signs_download, is_order, find_order, not_booked, no_memory, signing_rows}
use Rattle.bank_verdicts.specs.Judgement.{order_at, signed, judge_signing}
use Rattle.bank_verdicts.proofs.Signing.{order-found}
use Rattle.bank_signing.specs.Signings.{signed_place, sign}
use Rattle.bank_steps.specs.Steps.{carry_out}
use Rattle.bank_steps.proofs.Cases.{ToOrder}
use Rattle.bank.specs.Call.{context_of}
use Rattle.bank_admitted.proofs.Signers.{unsigned}
use Rattle.bank_history.specs.History.{Exchange, Stands, newest, BankCall, Frame, remembers}
use Rattle.bank_history.specs.Signatures.{signed_name, signature_count, signers_in}
use Rattle.bank_history.specs.Sound.{SoundSigning}
use Rattle.bank_history.specs.FalseEconomies.{Next, WellMadeOpening, Opens, RefusedWith}
use Rattle.bank_history.specs.Timely.{is_kept, Timely}
use Rattle.bank_history.specs.Signers.{WellMadeSigning, Signs, Signature, BooksOrder, InBook, signers_at, bank_after, history_after, SignsOnly, SignersTold}
use Rattle.bank_history.proofs.Book.{order-at, opens-named, books-named, in-book-books, books-in-book, books-later, book-later, book-earlier}
use Rattle.bank_history.proofs.DropOrder.{OpensAs}
use Rattle.bank_history.proofs.Entries.{and_no}
use Rattle.bank_history.proofs.FalseEconomies.{nonce-seen, seen-refused, opens-remembered}
use Rattle.bank_history.proofs.FreshNonces.{no-replay, some-room, no_room}
use Rattle.bank_history.proofs.NextCall.{judged_bank, asked, sent, all_sound, verdict-is, request-is, clock-is, judged-holds, bank-after, refused-with, well-made}
use Rattle.bank_history.proofs.Positions.{stands-behind, signing-sound}
use Rattle.bank_history.proofs.Replies.{verdict_form, verdict_code, verdict-form}
use Rattle.bank_history.proofs.SentSegments.{sound-before}
use Rattle.bank_history.proofs.Signatures.{has-bit, signer-told, signatures-told}
use Rattle.bank_history.proofs.SignedEvents.{signed-events}
use Rattle.bank_history.proofs.SignedHistory.{has-signature, signature-has}
use Rattle.bank_history.proofs.SignedOrders.{signed-upload}
use Rattle.bank_history.proofs.SignedVerdicts.{signing-case, signs-by, IsSigned, all-signed, coded, asks-signing}
use Rattle.bank_history.proofs.Theorems.{invariant, history-sound, reply-is}
use Rattle.bank_history.proofs.UploadRequests.{verdict-by-form}

-- the bank's signers of an order are the history's
signers-at : (calls : List BankCall) {o : OrderName} {i : ℕ} → InBook (bank_after calls) o i →
    signers_at (bank_after calls) i ≡ signers_in o (history_after calls)
signers-at calls {o} {i} b =
    let v = invariant calls in
    ap (λ (j : ℕ). signers_at (bank_after calls) j) (sym (order-at (bank_after calls) v.state b))
    ∙ (v.signers o.subscriber o.number
    ∙ ap (λ (u : OrderName). signers_in u (history_after calls)) (same-name refl (ap (λ (u : OrderName). u.order_type) b.named) refl))

-- ---- one signature of a history

module _ (calls : List BankCall) {o : OrderName} {s : ℕ} (x : Signature o s (history_after calls)) where
  own : IsSigned x.exchange.verdict
  own = all-signed calls x.exchange x.before x.stands x.signs

  told : SoundSigning own.0 own.1 x.exchange x.before
  told = signing-sound (history-sound calls) x.stands own.2

  -- the signer has a bit
  bit : has_bit s ≡ true
  bit = ap has_bit (sym x.by) ∙ has-bit (subscriber x.exchange.request) told.known told.most

  -- the order was booked before
  signed-books : BooksOrder o x.before
  signed-books =
      let sound = sound-before (history-sound calls) x.stands in
      let within : (e : Exchange) (k : List Exchange) → Stands e k x.before → Stands e k (history_after calls) =
      λ e k p. stands-behind p x.stands in
      books-named calls sound within own.0.transaction
      (opens-named calls sound within own.0.transaction own.0.number
      (subst (λ (m : ℕ). OpensAs m own.0.number own.0.transaction x.before) (ap (λ (u : OrderName). u.subscriber) x.named)
      (signed-upload sound told))
      (sym told.typed ∙ ap (λ (u : OrderName). u.order_type) x.named)
      (sym told.named ∙ ap (λ (u : OrderName). u.number) x.named)) told.booked

  -- it is in the book still
  signed-stays : (i : ℕ) × InBook (bank_after calls) o i
  signed-stays = books-in-book calls (books-later x.stands signed-books)

-- ---- exactly the subscribers who have signed

signer-signed : (calls : List BankCall) {o : OrderName} {i : ℕ} → InBook (bank_after calls) o i → (s : ℕ) →
    is_signer s (signers_at (bank_after calls) i) ≡ true → Signature o s (history_after calls)
unfolding is_signer
signer-signed calls {o} {i} b s z =
    let bit = (and-true (has_bit s) _ z).0 in
    has-signature o s (history_after calls)
    (sym (signer-told o s bit (history_after calls)) ∙ (ap (is_signer s) (sym (signers-at calls b)) ∙ z))

signed-signer : (calls : List BankCall) {o : OrderName} {i : ℕ} → InBook (bank_after calls) o i → (s : ℕ) →
    Signature o s (history_after calls) → is_signer s (signers_at (bank_after calls) i) ≡ true
signed-signer calls {o} b s x =
    ap (is_signer s) (signers-at calls b)
    ∙ (signer-told o s (bit calls x) (history_after calls) ∙ signature-has o s x)

-- ---- their number

counted : (calls : List BankCall) {o : OrderName} {i : ℕ} → InBook (bank_after calls) o i →
    signer_count (signers_at (bank_after calls) i) ≡ signature_count o (history_after calls)
counted calls {o} b = ap signer_count (signers-at calls b) ∙ signatures-told o (history_after calls)

from-two : (calls : List BankCall) {o : OrderName} {i : ℕ} → InBook (bank_after calls) o i →
    is_released (signers_at (bank_after calls) i) ≡ true → 2 ≤ signature_count o (history_after calls)
unfolding is_released
from-two calls {o} {i} b z =
    let a = leb-true releasing (signer_count (signers_at (bank_after calls) i)) z in let c = counted calls b in omega arith

at_one : (calls : List BankCall) {o : OrderName} {i : ℕ} → InBook (bank_after calls) o i →
    is_released (signers_at (bank_after calls) i) ≡ false → signature_count o (history_after calls) ≤ 1
unfolding is_released
at_one calls {o} {i} b z =
    let a = leb-false releasing (signer_count (signers_at (bank_after calls) i)) z in let c = counted calls b in omega arith

-- a place that is not booked has no signers; beyond the eight there is none
none-unbooked : (calls : List BankCall) (i : ℕ) → is_booked (place_at (bank_after calls).bank i).used ≡ false →
    signers_at (bank_after calls) i ≡ 0
none-unbooked calls i z = at (dec_lt i place_count)
  where
    at : Dec (i < place_count) → signers_at (bank_after calls) i ≡ 0
    at (yes l) = unsigned (bank_after calls) (invariant calls).state i l z
    at (no l) =
        let long = (invariant calls).state.sizes.places in
        ap (λ (r : Place). r.signers) (get_or-eq_default (bank_after calls).bank.places no_place {n = i} (omega arith))

-- ---- how a signing is judged, where no line above 091103 refuses it

-- the lines 091103, 091114 and 061099, by what their tests give
abbrev lines : Bank → Fields → Bool → Bool → Bool → Verdict
lines b q replay unknown full =
    cond replay (verdict.Refused code.MessageReplay)
    (cond unknown (verdict.Refused code.OrderIdUnknown) (cond full (verdict.Refused code.InternalError) (signed b q)))

judged-lines : (b : Bank) (q : Fields) → 1 ≤ owner q → owner q ≤ subscribers → order_type q ≡ ful →
    judge_signing b q ≡ lines b q (is_replay b q) (not_booked b q) (no_memory b)
unfolding judge_signing signing_rows no_owner unknown_type signs_download
judged-lines b q known most typed = rw (typed, le-ltb (owner q) 1 known, le-ltb subscribers (owner q) most)

-- ---- one call

module _ {calls : List BankCall} {e : Exchange} (n : Next calls e) where
  abbrev w : BankState
  w = judged_bank n

  abbrev q : Fields
  q = asked n

  -- "the reply is 01 03 0D"
  next-reply : Signs e → (form e.reply ≡ forms.Refusal) × (e.reply_data ≡ [])
  next-reply s =
      let own = (signs-by n s).1 in (
        ap form (reply-is (all_sound n) newest) ∙ (verdict-form e.verdict e.request ∙ ap (verdict_form (edition_of e.request)) own),
        (signing-sound (all_sound n) newest own).bare,
      )

  -- the order found has the name signed
  book-found : order_type q ≡ ful → is_order (owner q) (order_number q) (place_at w.bank (order_at w.bank q)) ≡ true →
      order_at w.bank q < place_count → InBook w (signed_name e) (order_at w.bank q)
  book-found typed passes inside =
      let f = order-found (owner q) (order_number q) (place_at w.bank (order_at w.bank q)) passes in
      let same = sym (request-is n) in
      record {
        inside = inside;
        booked = ap is_booked f.0;
        named = same-name (f.1 ∙ ap owner same) (sym typed ∙ ap order_type same) (f.2 ∙ ap order_number same);
      }

  only-signs : ToOrder w q (sent n) → SignsOnly e w (bank_state (sign q w.bank) w.orders w.mailboxes)
  unfolding sign free_nonce
  only-signs t =
      let i = order_at w.bank q in
      let inside = t.signable.inside in
      let long = (judged-holds n).state.sizes.places in
      let same = sym (request-is n) in
      record {
        clock = refl;
        openings = refl;
        series = refl;
        downloads = refl;
        files = refl;
        orders = refl;
        mailboxes = refl;
        nonces = ap (λ (r : Fields). set w.bank.nonces (free_nonce w.bank) (record { used = true; value = nonce r; timestamp = timestamp r }))
            same;
        place = i;
        order = book-found t.signable.upload t.found inside;
        signed = get_or-set_same w.bank.places i (signed_place (subscriber q) (place_at w.bank i)) no_place (omega arith)
            ∙ ap (λ (r : Fields). signed_place (subscriber r) (place_at w.bank i)) same;
        others = λ j apart. get_or-set_other w.bank.places i j (signed_place (subscriber q) (place_at w.bank i)) no_place apart;
      }

  next-only : Signs e → SignsOnly e w (bank_after (Frame n.input ∷ calls))
  next-only s =
      let t = signs-by n s in
      subst (SignsOnly e w) (sym (bank-after n ∙ ap (λ (v : Verdict). carry_out v w q (sent n)) t.1)) (only-signs t.0)

  next-refused : form e.request ≡ forms.Signing → (return_code e.reply ≡ code_field code.Ok → ⊥) →
      bank_after (Frame n.input ∷ calls) ≡ w
  next-refused asks other =
      bank-after n
      ∙ signing-case n (λ (v : Verdict). (code_field (verdict_code v) ≡ code_field code.Ok → ⊥) → carry_out v w q (sent n) ≡ w)
      (asks-signing n asks) (λ _. refl) (λ c r _. refl) (λ t no. absurd (no refl)) (λ z. other (coded n ∙ z))

  -- ---- a signing that no line above 091103 refuses

  module _ (m : WellMadeSigning e) where
    abbrev same : q ≡ e.request
    same = sym (request-is n)

    typed : order_type q ≡ ful
    typed = ap order_type same ∙ m.typed

    verdict-so : e.verdict ≡ lines w.bank q (is_replay w.bank q) (not_booked w.bank q) (no_memory w.bank)
    verdict-so =
        let z = asks-signing n m.asked in
        verdict-is n
        ∙ (verdict-by-form (context_of n.input) w q (sent n) forms.Signing z (well-made n m.made (ap is_request_form z))
        ∙ judged-lines w.bank q (rw (sym (request-is n)) m.known) (rw (sym (request-is n)) m.most) typed)

    replayed : is_replay w.bank q ≡ true → RefusedWith code.MessageReplay e
    replayed z =
        refused-with n code.MessageReplay
        (verdict-so ∙ ap (λ (r : Bool). lines w.bank q r (not_booked w.bank q) (no_memory w.bank)) z)

    next-untimely : (e.clock + window < timestamp e.request) ⊎ (timestamp e.request + window < e.clock) →
        RefusedWith code.MessageReplay e
    unfolding is_replay in_time
    next-untimely z = replayed (at z)
      where
        clock : e.clock ≡ w.bank.clock
        clock = clock-is n

        time : timestamp e.request ≡ timestamp q
        time = ap timestamp (request-is n)

        seen : Bool
        seen = is_remembered (nonce q) w.bank

        at : (e.clock + window < timestamp e.request) ⊎ (timestamp e.request + window < e.clock) →
            not (leb (timestamp q) (w.bank.clock + window) && leb w.bank.clock (timestamp q + window)) || seen ≡ true
        at (inl l) = rw (lt-leb (timestamp q) (w.bank.clock + window) (omega (arith, clock, time))) refl
        at (inr l) =
            ap (λ (b : Bool). not (leb (timestamp q) (w.bank.clock + window) && b) || seen)
            (lt-leb w.bank.clock (timestamp q + window) (omega (arith, clock, time)))
            ∙ ap (λ (b : Bool). not b || seen) (and_no (leb (timestamp q) (w.bank.clock + window)))

    so : {r k m : Bool} → is_replay w.bank q ≡ r → not_booked w.bank q ≡ k → no_memory w.bank ≡ m →
        e.verdict ≡ lines w.bank q r k m
    so x y z = verdict-so ∙ (λ i. lines w.bank q (x i) (y i) (z i))

    -- ---- in time and with a new nonce

    module _ (t : Timely e (history_after calls)) where
      in-book-found : BooksOrder (signed_name e) (history_after calls) → not_booked w.bank q ≡ false
      unfolding not_booked
      in-book-found booked =
          let (i, b) = books-in-book calls booked in
          let at = ap (λ (r : Fields). find_order (owner r) (order_number r) w.bank) same
          ∙ order-at w (judged-holds n).state (book-later calls n.input.time b) in
          let inside = b.inside in
          lt-leb place_count (find_order (owner q) (order_number q) w.bank) (omega arith)

      not_found : (BooksOrder (signed_name e) (history_after calls) → ⊥) → not_booked w.bank q ≡ true
      unfolding not_booked find_order
      not_found none = at (leb place_count i) refl
        where
          i : ℕ
          i = order_at w.bank q

          at : (b : Bool) → leb place_count i ≡ b → b ≡ true
          at true z = refl
          at false z =
              let inside = leb-false place_count i z in
              let long = (judged-holds n).state.sizes.places in
              absurd (none (in-book-books calls (book-earlier calls n.input.time (book-found typed
              (first_passes (is_order (owner q) (order_number q)) w.bank.places no_place (omega arith)) inside))))

      next-answered : BooksOrder (signed_name e) (history_after calls) → count_of (is_kept e.clock) (history_after calls) < nonce_count →
          Signs e
      next-answered booked few = record {
        asked = m.asked;
        coded = coded n ∙ ap (λ (v : Verdict). code_field (verdict_code v)) (so (no-replay n t) (in-book-found booked) (some-room n few));
      }

      next-full : BooksOrder (signed_name e) (history_after calls) → nonce_count ≤ count_of (is_kept e.clock) (history_after calls) →
          RefusedWith code.InternalError e
      next-full booked many = refused-with n code.InternalError (so (no-replay n t) (in-book-found booked) (no_room n many))

      next-unknown : (BooksOrder (signed_name e) (history_after calls) → ⊥) → RefusedWith code.OrderIdUnknown e
      next-unknown none = refused-with n code.OrderIdUnknown (so (no-replay n t) (not_found none) refl)

  -- ---- its nonce

  next-seen : WellMadeSigning e → is_remembered (nonce q) w.bank ≡ true → RefusedWith code.MessageReplay e
  unfolding is_replay
  next-seen m z = replayed m (or_right (not (in_time (timestamp q) w.bank.clock)) (is_remembered (nonce q) w.bank) z)

signs-remembered : (calls : List BankCall) {f : Exchange} {g : List Exchange} → Stands f g (history_after calls) → Signs f →
    remembers f.verdict ≡ true
signs-remembered calls {f} {g} stands s = ap remembers (all-signed calls f g stands s).2

nonce-replayed : {calls : List BankCall} {e f : Exchange} {g : List Exchange} {t : Bits128} → Next calls e →
    Stands f g (history_after calls) →
    (WellMadeSigning e × (Signs f ⊎ Opens t f)) ⊎ (WellMadeOpening e × Signs f) →
    nonce e.request ≡ nonce f.request → e.clock ≤ timestamp f.request + window →
    RefusedWith code.MessageReplay e
nonce-replayed {calls} n stands (inl (m, inl s)) same recent =
    next-seen n m (nonce-seen n stands (signs-remembered calls stands s) same recent)
nonce-replayed {calls} n stands (inl (m, inr o)) same recent =
    next-seen n m (nonce-seen n stands (opens-remembered (history-sound calls) stands o) same recent)
nonce-replayed {calls} n stands (inr (m, s)) same recent =
    seen-refused n m (nonce-seen n stands (signs-remembered calls stands s) same recent)

-- ---- together

pub signers-told : SignersTold
signers-told = record {
  books = in-book-books;
  in_book = books-in-book;
  one = λ calls a b. let v = (invariant calls).state in sym (order-at (bank_after calls) v a) ∙ order-at (bank_after calls) v b;
  signers = signer-signed;
  signed = signed-signer;
  booked = signed-books;
  stays = signed-stays;
  unsigned = none-unbooked;
  count = counted;
  released = from-two;
  unreleased = at_one;
  answered = next-answered;
  full = next-full;
  unknown = next-unknown;
  reply = next-reply;
  only = next-only;
  refused = next-refused;
  replay = nonce-replayed;
  untimely = next-untimely;
  events = signed-events;
}
