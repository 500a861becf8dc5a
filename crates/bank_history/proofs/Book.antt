-- The orders in the book: they are exactly those whose segment N got 000000, each in one place, and the clock drops none
-- of them. By the invariant. Assumes nothing.
use Prim.Native.Nat.{ℕ, ◌≤◌, ◌<◌, max}
use mathlib.Core.Bool.{Bool, true, false, cond, ◌&&◌}
use mathlib.Core.List.{List}
use mathlib.Core.Logic.{inr}
use mathlib.Core.Path.{◌≡◌, refl, sym, ap, ◌∙◌, subst}
use native.Mathlib.Omega.{arith}
use borrow.Author.Tests.{eq-eqb}
use Rattle.frame_table.specs.declared.fields.Bits128.{Bits128}
use Rattle.frame_table.specs.Names.{subscriber, segments, transaction}
use Rattle.octets.proofs.Tests.{never}
use Rattle.message.specs.Editions.{edition_of, order_opened}
use Rattle.message.specs.Limits.{ful}
use Rattle.message.specs.OrderNumbers.{order_number_of}
use Rattle.journal.specs.declared.event.OrderName.{OrderName}
use Rattle.journal.proofs.Lookup.{same-name}
use Rattle.bank_state.specs.declared.state.Place.{Place}
use Rattle.bank_state.specs.Clock.{is_idle, advanced}
use Rattle.bank_state.specs.Limits.{place_count}
use Rattle.bank_state.specs.Search.{is_free, is_open, is_booked}
use Rattle.bank_state.specs.State.{BankState, no_place, place_at}
use Rattle.bank_state.proofs.Drops.{is_idle_place}
use Rattle.bank_state.proofs.Rows.{first_passes}
use Rattle.bank_verdicts.specs.declared.verdict.UploadAction.TheVariants as up
use Rattle.bank_verdicts.specs.declared.verdict.Action.TheVariants as action
use Rattle.bank_verdicts.specs.declared.verdict.Verdict.TheVariants as verdict
use Rattle.bank_verdicts.specs.Refusals.{is_order, find_order}
use Rattle.bank_verdicts.proofs.Signing.{order-found}
use Rattle.bank_admitted.specs.State.{StateHolds}
use Rattle.bank_admitted.proofs.Clock.{sized}
use Rattle.bank_admitted.proofs.DropsKept.{advanced-place}
use Rattle.bank_admitted.proofs.Held.{order-limited}
use Rattle.bank_admitted.proofs.Rows.{first-at-most}
use Rattle.bank_admitted.proofs.Signers.{open-not-booked}
use Rattle.bank_history.specs.History.{Exchange, Stands, BankCall, is_booking, ActionIn, ever}
use Rattle.bank_history.specs.Opened.{is_upload_opened}
use Rattle.bank_history.specs.Sound.{SoundUploadOpening, AllSound}
use Rattle.bank_history.specs.Invariant.{place_name}
use Rattle.bank_history.specs.ByReplies.{owner_of, order_of}
use Rattle.bank_history.specs.JournalOrders.{OpensOrder}
use Rattle.bank_history.specs.Signers.{BooksOrder, InBook, bank_after, history_after}
use Rattle.bank_history.specs.Transactions.{Order}
use Rattle.bank_history.proofs.ByReplies.{formed-as, coded-as, carries, sound-as, at-opened}
use Rattle.bank_history.proofs.ByReplies.{upload-opened as is-opening}
use Rattle.bank_history.proofs.DropOrder.{OpensAs, owner-is, order_is, opened-order, opened-as}
use Rattle.bank_history.proofs.FalseEconomies.{takes-action}
use Rattle.bank_history.proofs.Opened.{order-opened}
use Rattle.bank_history.proofs.OrderNumbers.{one-order-number}
use Rattle.bank_history.proofs.Positions.{sound-at, stands-behind, taken-last-books, booking-last, ever-stands, stands-ever}
use Rattle.bank_history.proofs.Replies.{opened-answers}
use Rattle.bank_history.proofs.SentSegments.{sound-before}
use Rattle.bank_history.proofs.UploadTypes.{series-typed}
use Rattle.bank_history.proofs.Theorems.{invariant, history-sound, booked-order, in-book, upload-opened}

-- ---- the order in the book is the one that is found

module _ (w : BankState) (v : StateHolds w) {o : OrderName} {i : ℕ} (b : InBook w o i) where
  abbrev p : Place
  p = place_at w.bank i

  found : is_order o.subscriber o.number p ≡ true
  unfolding is_order
  found = rw (
    b.booked,
    eq-eqb p.subscriber o.subscriber (ap (λ (u : OrderName). u.subscriber) b.named),
    eq-eqb (order_number_of p.number) o.number (ap (λ (u : OrderName). u.number) b.named),
  )

  -- no two orders in the book have one name
  pub order-at : find_order o.subscriber o.number w.bank ≡ i
  unfolding find_order
  order-at =
      let j = find_order o.subscriber o.number w.bank in
      let long = v.sizes.places in
      let inside = b.inside in
      let most : j ≤ i = first-at-most (is_order o.subscriber o.number) w.bank.places no_place i (omega arith) found in
      let f = order-found o.subscriber o.number (place_at w.bank j)
      (first_passes (is_order o.subscriber o.number) w.bank.places no_place (omega arith)) in
      let g = order-found o.subscriber o.number p found in
      let x : is_free (place_at w.bank j).used ≡ false = ap is_free f.0 in
      let y : is_free p.used ≡ false = ap is_free g.0 in
      let inner : j < place_count = omega arith in
      v.places_apart j i inner inside x y (inr (
        f.1 ∙ sym g.1,
        one-order-number (place_at w.bank j).number p.number (order-limited w v j inner x) (order-limited w v i inside y)
            (f.2 ∙ sym g.2),
      ))

-- ---- an order in the book, and its booking by the replies

-- the upload t, opened and booked in a part of the history, under its name
module _ (calls : List BankCall) {g : List Exchange} (sound : AllSound g)
    (within : (e : Exchange) (k : List Exchange) → Stands e k g → Stands e k (history_after calls)) {o : OrderName} (t : Bits128) where
  pub opens-named : (n : ℕ) → OpensAs o.subscriber n t g → ful ≡ o.order_type → order_number_of n ≡ o.number → OpensOrder o t g
  opens-named n x typed numbered =
      let e = x.exchange in
      let z = sound-at sound x.stands in
      let opened : is_upload_opened e ≡ true = is-opening z x.is in
      record {
        exchange = e;
        before = x.before;
        stands = x.stands;
        opened = opened;
        id = carries z x.is (opened-answers (edition_of e.request));
        named = same-name x.owner
            (series-typed calls (record { stands = within e x.before x.stands; opened = opened; owner = x.owner }) ∙ typed)
            (order-opened z x.is ∙ numbered);
      }

  pub books-named : OpensOrder o t g → ever is_booking t g ≡ true → BooksOrder o g
  books-named opened booked =
      let (f, k, stands, a) = ever-stands is_booking t g booked in
      let z = sound-at sound stands in
      let last : f.verdict ≡ verdict.Of t (action.Upload up.TookLast) = a.is ∙ ap (verdict.Of t) (booking-last a.action a.kind) in
      record {
        id = t;
        opened = opened;
        exchange = f;
        before = k;
        stands = stands;
        taken = record {
          formed = formed-as z last;
          coded = coded-as z last;
          id = carries z last (λ y. let b : ◌≡◌ {A = ℕ} 0 1 = cc in omega arith);
        };
        last = (sound-as z last).last ∙ sym (at-opened (λ (e : Exchange). segments e.request) 0 t (sound-before sound stands));
      }

-- what is in the book was booked
pub in-book-books : (calls : List BankCall) {o : OrderName} {i : ℕ} → InBook (bank_after calls) o i → BooksOrder o (history_after calls)
in-book-books calls {o} {i} b =
    let v = invariant calls in
    let p = place_at (bank_after calls).bank i in
    let t = p.transaction in
    let r = booked-order v i b.inside (order-found o.subscriber o.number p (found (bank_after calls) v.state b)).0 in
    let x = opened-order t v.sound r.opened in
    let owned : owner_of t (history_after calls) ≡ o.subscriber =
    owner-is t v.sound ∙ (sym r.owner ∙ ap (λ (u : OrderName). u.subscriber) b.named) in
    let numbered : order_number_of (order_of t (history_after calls)) ≡ o.number =
    ap order_number_of (order_is t v.sound r.opened ∙ sym r.number) ∙ ap (λ (u : OrderName). u.number) b.named in
    books-named calls v.sound (λ e k s. s) t
    (opens-named calls v.sound (λ e k s. s) t (order_of t (history_after calls))
    (subst (λ (s : ℕ). OpensAs s (order_of t (history_after calls)) t (history_after calls)) owned x)
    (ap (λ (u : OrderName). u.order_type) b.named) numbered) r.last

-- what was booked is in the book
pub books-in-book : (calls : List BankCall) {o : OrderName} → BooksOrder o (history_after calls) → (i : ℕ) × InBook (bank_after calls) o i
books-in-book calls {o} b = (
  place.0,
  record {
    inside = r.inside;
    booked = ap is_booked r.used;
    named = same-name (r.owner ∙ (sym (owner-is t sound) ∙ (same.0 ∙ ap (λ (u : OrderName). u.subscriber) c.named)))
        (sym (series-typed calls (record { stands = c.stands; opened = c.opened; owner = refl }))
        ∙ ap (λ (u : OrderName). u.order_type) c.named)
        (ap order_number_of (r.number ∙ (sym (order_is t sound r.opened) ∙ same.1))
        ∙ (sym u.3 ∙ ap (λ (u : OrderName). u.number) c.named));
  },
)
  where
    h : List Exchange
    h = history_after calls

    sound : AllSound h
    sound = history-sound calls

    t : Bits128
    t = b.id

    c : OpensOrder o t h
    c = b.opened

    u : (n : ℕ) × (c.exchange.verdict ≡ verdict.Of (transaction c.exchange.reply) (action.Upload (up.Opened n)))
        × SoundUploadOpening n (transaction c.exchange.reply) c.exchange c.before
        × (order_opened c.exchange.request c.exchange.reply ≡ order_number_of n)
    u = upload-opened sound c.stands c.opened

    same : (owner_of t h ≡ subscriber c.exchange.request) × (order_of t h ≡ u.0)
    same = opened-as sound (record {
      exchange = c.exchange;
      before = c.before;
      stands = c.stands;
      is = u.1 ∙ ap (λ (i : Bits128). verdict.Of i (action.Upload (up.Opened u.0))) c.id;
      owner = refl;
    })

    -- segment N taken books it
    last : ActionIn is_booking t b.exchange
    last =
        taken-last-books t sound b.stands (takes-action sound b.stands b.taken)
        (b.last ∙ at-opened (λ (e : Exchange). segments e.request) 0 t (sound-before sound b.stands))

    place : (i : ℕ) × Order (bank_after calls) h t i
    place = in-book (invariant calls) t (stands-ever is_booking t b.stands last)

    r : Order (bank_after calls) h t place.0
    r = place.1

-- what was booked before an exchange of the history was booked in it
pub books-later : {o : OrderName} {e : Exchange} {g h : List Exchange} → Stands e g h → BooksOrder o g → BooksOrder o h
books-later p b = record {
  id = b.id;
  opened = record {
    exchange = b.opened.exchange;
    before = b.opened.before;
    stands = stands-behind b.opened.stands p;
    opened = b.opened.opened;
    id = b.opened.id;
    named = b.opened.named;
  };
  exchange = b.exchange;
  before = b.before;
  stands = stands-behind b.stands p;
  taken = b.taken;
  last = b.last;
}

-- ---- the clock drops no order in the book, and books none

module _ (calls : List BankCall) (time : ℕ) where
  abbrev w : BankState
  w = advanced time (bank_after calls)

  -- a place after the clock: free where it was open and idle, else as it was
  book-place : (i : ℕ) → i < place_count →
      place_at w.bank i ≡ cond (is_idle_place (max (bank_after calls).bank.clock time) (place_at (bank_after calls).bank i))
      no_place (place_at (bank_after calls).bank i)
  book-place i = advanced-place time (bank_after calls) (sized (invariant calls).state.sizes) i

  pub book-later : {o : OrderName} {i : ℕ} → InBook (bank_after calls) o i → InBook w o i
  book-later {o} {i} b =
      let p = place_at (bank_after calls).bank i in
      let c = max (bank_after calls).bank.clock time in
      let same : place_at w.bank i ≡ p =
      book-place i b.inside ∙ ap (λ (t : Bool). cond t no_place p) (not-idle c p b.booked) in
      record {
        inside = b.inside;
        booked = ap (λ (r : Place). is_booked r.used) same ∙ b.booked;
        named = ap place_name same ∙ b.named;
      }
    where
      not-idle : (c : ℕ) (p : Place) → is_booked p.used ≡ true → is_idle_place c p ≡ false
      not-idle c p z = at (is_open p.used) refl
        where
          at : (t : Bool) → is_open p.used ≡ t → t && is_idle c p.last ≡ false
          at true y = never (sym (open-not-booked p.used y) ∙ z)
          at false y = refl

  pub book-earlier : {o : OrderName} {i : ℕ} → InBook w o i → InBook (bank_after calls) o i
  book-earlier {o} {i} b =
      at (is_idle_place (max (bank_after calls).bank.clock time) (place_at (bank_after calls).bank i))
      (book-place i b.inside)
    where
      at : (t : Bool) → place_at w.bank i ≡ cond t no_place (place_at (bank_after calls).bank i) → InBook (bank_after calls) o i
      at true z = never (sym (ap (λ (r : Place). is_booked r.used) z) ∙ b.booked)
      at false z = record {
        inside = b.inside;
        booked = ap (λ (r : Place). is_booked r.used) (sym z) ∙ b.booked;
        named = ap place_name (sym z) ∙ b.named;
      }
