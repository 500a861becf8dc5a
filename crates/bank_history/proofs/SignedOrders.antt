-- The order that an accepted signing names: by requests, replies and clocks it is the one booked upload of that name.
-- Assumes nothing.
use Prim.Native.Nat.{ℕ, ◌<◌}
use mathlib.Core.Bool.{Bool, true}
use mathlib.Core.List.Memᴰ.{eq_of_singleton as in_one}
use mathlib.Core.List.Memᴰ.{head as here}
use mathlib.Core.List.{
  List,
  [],
  ◌∷◌,
  map,
  Memᴰ as In,
}
use mathlib.Core.Path.{◌≡◌, refl, sym, ap, ◌∙◌, subst}
use native.Mathlib.Omega.{arith}
use lib.Dec.{eqb}
use borrow.Author.Tests.{eqb-true, eq-eqb}
use Rattle.frame_table.specs.declared.fields.Bits128.{Bits128}
use Rattle.frame_table.specs.Names.{owner}
use Rattle.octets.proofs.Tests.{never, and-true}
use Rattle.message.specs.OrderNumbers.{order_number_of}
use Rattle.journal.specs.declared.event.Kind.TheVariants as kind
use Rattle.journal.specs.declared.event.Entry.{Entry}
use Rattle.journal.specs.declared.event.OrderName.{OrderName}
use Rattle.bank_state.specs.Limits.{series_limit}
use Rattle.bank_state.specs.Rows.{keep}
use Rattle.bank_state.specs.State.{BankState}
use Rattle.bank_verdicts.specs.declared.verdict.UploadAction.TheVariants as up
use Rattle.bank_verdicts.specs.declared.verdict.Action.TheVariants as action
use Rattle.bank_verdicts.specs.declared.verdict.SignedOrder.{SignedOrder}
use Rattle.bank_verdicts.specs.declared.verdict.Verdict.TheVariants as verdict
use Rattle.bank_events.specs.Entries.{entry}
use Rattle.bank_history.specs.History.{Exchange, is_booking, ever}
use Rattle.bank_history.specs.Signatures.{signed_name}
use Rattle.bank_history.specs.Sound.{SoundSigning, AllSound}
use Rattle.bank_history.specs.Invariant.{Invariant}
use Rattle.bank_history.specs.ByReplies.{opened_ids, owner_of, order_of, standing}
use Rattle.bank_history.specs.Journal.{entry_of, is_booked_status, is_booked_as, booked_as}
use Rattle.bank_history.specs.Status.{
  Status,
  NotOpened,
  Open,
  Booked,
  Fetched,
  Skipped,
  EndedByReceipt,
  Cancelled,
  Dropped,
  status,
  Rising,
  end,
  next,
}
use Rattle.bank_history.proofs.ByReplies.{standing-is, opened-ids}
use Rattle.bank_history.proofs.Closed.{status-booked}
use Rattle.bank_history.proofs.DropOrder.{OpensAs, owner-is, order_is, opened-order, same-rising}
use Rattle.bank_history.proofs.Drops.{in-keep, keep-in, listed, rising-keep, opened-numbered}
use Rattle.bank_history.proofs.HeldNumbers.{booked-once}
use Rattle.bank_history.proofs.OrderNumbers.{one-order-number}
use Rattle.bank_history.proofs.Positions.{action-sound}
use Rattle.bank_history.proofs.Theorems.{in-book}

is-booked : (x : Status) → is_booked_status x ≡ true → x ≡ Booked
is-booked NotOpened z = never z
is-booked (Open d s last) z = never z
is-booked Booked z = refl
is-booked Fetched z = never z
is-booked Skipped z = never z
is-booked EndedByReceipt z = never z
is-booked Cancelled z = never z
is-booked Dropped z = never z

-- the number of an upload is one of its series
order_below : (t : Bits128) {s n : ℕ} {h : List Exchange} → AllSound h → OpensAs s n t h → n < series_limit
order_below t r o = (action-sound r o.stands o.is).limited

module _ {n : SignedOrder} {added : Bool} {e : Exchange} {h : List Exchange} (r : AllSound h) (s : SoundSigning n added e h) where
  abbrev t : Bits128
  t = n.transaction

  order-told : order_of t h ≡ n.number
  order-told = order_is t r s.opened ∙ s.order

  owner-told : owner_of t h ≡ owner e.request
  owner-told = owner-is t r ∙ s.owned

  -- the upload whose order it signs
  pub signed-upload : OpensAs (owner e.request) n.number t h
  signed-upload =
      let x = opened-order t r s.opened in
      record {
        exchange = x.exchange;
        before = x.before;
        stands = x.stands;
        is = x.is ∙ ap (λ (m : ℕ). verdict.Of t (action.Upload (up.Opened m))) order-told;
        owner = x.owner ∙ owner-told;
      }

  -- where the bank holds what was booked, and how it stands says so
  module _ (w : BankState) (v : Invariant w h) (stays : (u : Bits128) → ever is_booking u h ≡ true → status u h ≡ Booked) where
    abbrev o : OrderName
    o = signed_name e

    only : (u : Bits128) → is_booked_as o h u ≡ true → u ≡ t
    only u z =
        let a = and-true (is_booked_status (standing u h)) _ z in
        let b = and-true (eqb (owner_of u h) o.subscriber) (eqb (order_number_of (order_of u h)) o.number) a.1 in
        let booked = status-booked u h (sym (standing-is u r) ∙ is-booked (standing u h) a.0) in
        let opening = opened-order u r (in-book v u booked).1.opened in
        booked-once w h v booked s.booked (eqb-true (owner_of u h) o.subscriber b.0 ∙ sym owner-told)
        (one-order-number (order_of u h) n.number (order_below u r opening) (order_below t r signed-upload)
        (eqb-true (order_number_of (order_of u h)) o.number b.1 ∙ s.named) ∙ sym order-told)

    own : is_booked_as o h t ≡ true
    own =
        let a : is_booked_status (standing t h) ≡ true = ap is_booked_status (standing-is t r ∙ stays t s.booked) in
        let b = eq-eqb (owner_of t h) o.subscriber owner-told in
        let c = eq-eqb (order_number_of (order_of t h)) o.number (ap order_number_of order-told ∙ sym s.named) in
        rw (a, b, c)

    t-listed : In t (opened_ids h)
    t-listed =
        let x = signed-upload in
        subst (λ (l : List Bits128). In t l) (sym (opened-ids r))
        (listed x.stands (record { action = action.Upload (up.Opened n.number); is = x.is; kind = refl }))

    pub signed-booked : booked_as o h ≡ t ∷ []
    unfolding booked_as
    signed-booked =
        same-rising
        (subst (λ (l : List Bits128). Rising 0 (keep (is_booked_as o h) l)) (sym (opened-ids r))
        (rising-keep (is_booked_as o h) 0 (omega arith) (opened-numbered r).0))
        (next {m = 0} {t = t} (omega arith) end)
        (λ u i. here (only u (keep-in (is_booked_as o h) (opened_ids h) i).1))
        (λ u i. subst (λ (x : Bits128). In x (keep (is_booked_as o h) (opened_ids h))) (sym (in_one i))
        (in-keep (is_booked_as o h) (opened_ids h) t-listed own))

    -- its event: "kind signed, once a signer, under the owner"
    pub signed-entry : map (λ (u : Bits128). entry_of kind.Signed u h) (booked_as o h)
        ≡ entry kind.Signed (owner e.request) n.number t ∷ []
    signed-entry =
        let same : entry_of kind.Signed t h ≡ entry kind.Signed (owner e.request) n.number t = rw (owner-told, order-told) in
        ap (map (λ (u : Bits128). entry_of kind.Signed u h)) signed-booked ∙ ap (λ (x : Entry). x ∷ []) same
