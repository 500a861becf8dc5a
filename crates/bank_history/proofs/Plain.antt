-- The events of the journal go by request, reply and clock of each exchange alone.
use Prim.Native.Nat.{ℕ, max}
use mathlib.Core.Bool.{Bool, true, false, cond, ◌&&◌}
use mathlib.Core.List.{List, [], ◌∷◌, ◌++◌, map}
use mathlib.Core.Path.{◌≡◌, refl, ap, ◌∙◌}
use lib.Dec.{eqb}
use lib.ListN.{length}
use Rattle.frame_table.specs.declared.fields.Bits128.{Bits128}
use Rattle.frame_table.specs.declared.table.Form.{Form}
use Rattle.frame_table.specs.declared.table.Form.TheVariants.{NoForm, Request, Reply}
use Rattle.frame_table.specs.declared.table.ReplyForm.{ReplyForm}
use Rattle.frame_table.specs.declared.table.ReplyForm.TheVariants as replies
use Rattle.frame_table.specs.Names.{subscriber, transaction, segments, segment, form, same_bits}
use Rattle.bank_state.specs.Rows.{keep}
use Rattle.journal.specs.declared.event.Kind.{Kind}
use Rattle.journal.specs.declared.event.Kind.TheVariants as kind
use Rattle.journal.specs.declared.event.Entry.{Entry}
use Rattle.journal.specs.declared.event.Event.{Event}
use Rattle.journal.specs.declared.event.OrderName.{OrderName}
use Rattle.journal.specs.Events.{events_from}
use Rattle.bank_history.specs.History.{Exchange}
use Rattle.bank_history.specs.Signatures.{signed_name, signs, has_signed}
use Rattle.bank_history.specs.Status.{Status, drop_idle}
use Rattle.bank_history.specs.Opened.{of_reply, is_opened, is_upload_opened}
use Rattle.bank_history.specs.ByReplies.{
  is_sending_form,
  number_given,
  opened_ids,
  at_opened,
  owner_of,
  order_of,
  segment_count_of,
  is_upload_id,
  sent_up_to,
  reply_status,
  standing,
}
use Rattle.bank_history.specs.Journal.{
  entry_of,
  is_idle_upload_at,
  upload_drops,
  is_booked_as,
  booked_as,
  signed_entries,
  reply_entries,
  entries_of,
  events_in,
  plain,
}

abbrev plains : List Exchange → List Exchange
plains h = map plain h

pub ids-plain : (h : List Exchange) → opened_ids (plains h) ≡ opened_ids h
unfolding opened_ids
ids-plain [] = refl
ids-plain (e ∷ h) =
    ap (λ (l : List Bits128). l ++ cond (is_opened e) (transaction e.reply ∷ []) []) (ids-plain h)

-- something of the exchange that opened a transaction
at_plain : {A : Type 0} (f : Exchange → A) (d : A) (t : Bits128) → ((e : Exchange) → f (plain e) ≡ f e) →
    (h : List Exchange) → at_opened f d t (plains h) ≡ at_opened f d t h
unfolding at_opened
at_plain f d t k [] = refl
at_plain {A} f d t k (e ∷ h) =
    ap (λ (x : A). cond (is_opened e && same_bits t (transaction e.reply)) x (at_opened f d t (plains h))) (k e)
    ∙ ap (λ (x : A). cond (is_opened e && same_bits t (transaction e.reply)) (f e) x) (at_plain f d t k h)

module _ (t : Bits128) (h : List Exchange) where
  owner-plain : owner_of t (plains h) ≡ owner_of t h
  owner-plain = at_plain (λ (e : Exchange). subscriber e.request) 0 t (λ e. refl) h

  order-plain : order_of t (plains h) ≡ order_of t h
  order-plain = at_plain (λ (e : Exchange). number_given e) 0 t (λ e. refl) h

  segments-plain : segment_count_of t (plains h) ≡ segment_count_of t h
  segments-plain = at_plain (λ (e : Exchange). segments e.request) 0 t (λ e. refl) h

  upload-plain : is_upload_id t (plains h) ≡ is_upload_id t h
  upload-plain = at_plain (λ (e : Exchange). is_upload_opened e) false t (λ e. refl) h

  entry-plain : (k : Kind) → entry_of k t (plains h) ≡ entry_of k t h
  entry-plain k = rw (owner-plain, order-plain)

sent-plain : (t : Bits128) (h : List Exchange) → sent_up_to t (plains h) ≡ sent_up_to t h
unfolding sent_up_to
sent-plain t [] = refl
sent-plain t (e ∷ h) =
    ap (λ (n : ℕ). cond (of_reply false is_sending_form (form e.reply) && same_bits t (transaction e.reply))
    (max n (segment e.reply)) n) (sent-plain t h)

status-plain : (t : Bits128) (e : Exchange) (h : List Exchange) (x : Status) (f : ReplyForm) →
    reply_status t (plain e) (plains h) x f ≡ reply_status t e h x f
status-plain t e h x replies.UploadOpened = refl
status-plain t e h x replies.DownloadOpened = refl
status-plain t e h x replies.SegmentTaken = rw (segments-plain t h)
status-plain t e h x replies.DownloadSegment = rw (sent-plain t h)
status-plain t e h x replies.ReceiptAnswered = refl
status-plain t e h x replies.Refusal = refl
status-plain t e h x replies.Unreadable = refl

form-plain : {A : Type 0} (d : A) (f g : ReplyForm → A) → ((x : ReplyForm) → f x ≡ g x) → (x : Form) →
    of_reply d f x ≡ of_reply d g x
form-plain d f g k NoForm = refl
form-plain d f g k (Request x) = refl
form-plain d f g k (Reply x) = k x

pub standing-plain : (t : Bits128) (h : List Exchange) → standing t (plains h) ≡ standing t h
unfolding standing
standing-plain t [] = refl
standing-plain t (e ∷ h) =
    ap (λ (y : Status). let x = drop_idle e.clock y in of_reply x (reply_status t (plain e) (plains h) x) (form e.reply))
    (standing-plain t h)
    ∙ (let x = drop_idle e.clock (standing t h) in
    form-plain x (reply_status t (plain e) (plains h) x) (reply_status t e h x) (status-plain t e h x) (form e.reply))

keep_same : (p q : Bits128 → Bool) → ((t : Bits128) → p t ≡ q t) → (l : List Bits128) → keep p l ≡ keep q l
unfolding keep
keep_same p q k [] = refl
keep_same p q k (t ∷ l) = rw (k t, keep_same p q k l)

drops-plain : (clock : ℕ) (h : List Exchange) → upload_drops clock (plains h) ≡ upload_drops clock h
unfolding upload_drops
drops-plain clock h =
    ap (keep (λ (t : Bits128). is_idle_upload_at clock (standing t (plains h)))) (ids-plain h)
    ∙ keep_same (λ (t : Bits128). is_idle_upload_at clock (standing t (plains h)))
    (λ (t : Bits128). is_idle_upload_at clock (standing t h)) (λ t. ap (is_idle_upload_at clock) (standing-plain t h)) (opened_ids h)

map_same : (f g : Bits128 → Entry) → ((t : Bits128) → f t ≡ g t) → (l : List Bits128) → map f l ≡ map g l
map_same f g k [] = refl
map_same f g k (t ∷ l) = ap (λ (x : Entry). x ∷ map f l) (k t) ∙ ap (λ (x : List Entry). g t ∷ x) (map_same f g k l)

-- what a signing's reply tells
signed-plain : (o : OrderName) (s : ℕ) (h : List Exchange) → has_signed o s (plains h) ≡ has_signed o s h
unfolding has_signed
signed-plain o s [] = refl
signed-plain o s (e ∷ h) =
    ap (λ (b : Bool). cond (signs o e && eqb (subscriber e.request) s) true b) (signed-plain o s h)

booked-plain : (o : OrderName) (h : List Exchange) (t : Bits128) → is_booked_as o (plains h) t ≡ is_booked_as o h t
booked-plain o h t = rw (standing-plain t h, owner-plain t h, order-plain t h)

named-plain : (o : OrderName) (h : List Exchange) → booked_as o (plains h) ≡ booked_as o h
unfolding booked_as
named-plain o h =
    ap (keep (is_booked_as o (plains h))) (ids-plain h)
    ∙ keep_same (is_booked_as o (plains h)) (is_booked_as o h) (booked-plain o h) (opened_ids h)

signed-entries-plain : (e : Exchange) (h : List Exchange) → signed_entries (plain e) (plains h) ≡ signed_entries e h
signed-entries-plain e h =
    ap (λ (b : Bool). cond b [] (map (λ (t : Bits128). entry_of kind.Signed t (plains h)) (booked_as (signed_name e) (plains h))))
    (signed-plain (signed_name e) (subscriber e.request) h)
    ∙ ap (cond (has_signed (signed_name e) (subscriber e.request) h) [])
    (ap (map (λ (t : Bits128). entry_of kind.Signed t (plains h))) (named-plain (signed_name e) h)
    ∙ map_same (λ (t : Bits128). entry_of kind.Signed t (plains h)) (λ (t : Bits128). entry_of kind.Signed t h)
    (λ t. entry-plain t h kind.Signed) (booked_as (signed_name e) h))

reply-plain : (e : Exchange) (h : List Exchange) (f : ReplyForm) → reply_entries (plain e) (plains h) f ≡ reply_entries e h f
reply-plain e h replies.UploadOpened = refl
reply-plain e h replies.DownloadOpened = refl
reply-plain e h replies.SegmentTaken =
    rw (segments-plain (transaction e.reply) h, entry-plain (transaction e.reply) h kind.Booked)
reply-plain e h replies.DownloadSegment = refl
reply-plain e h replies.ReceiptAnswered = refl
reply-plain e h replies.Refusal =
    rw (
      signed-entries-plain e h,
      upload-plain (transaction e.request) h,
      entry-plain (transaction e.request) h kind.Cancelled,
    )
reply-plain e h replies.Unreadable = refl

entries-plain : (e : Exchange) (h : List Exchange) → entries_of (plain e) (plains h) ≡ entries_of e h
unfolding entries_of
entries-plain e h =
    ap (λ (l : List Entry). l ++ of_reply [] (reply_entries (plain e) (plains h)) (form e.reply))
    (ap (map (λ (t : Bits128). entry_of kind.Dropped t (plains h))) (drops-plain e.clock h)
    ∙ map_same (λ (t : Bits128). entry_of kind.Dropped t (plains h)) (λ (t : Bits128). entry_of kind.Dropped t h)
    (λ t. entry-plain t h kind.Dropped) (upload_drops e.clock h))
    ∙ ap (λ (l : List Entry). map (λ (t : Bits128). entry_of kind.Dropped t h) (upload_drops e.clock h) ++ l)
    (form-plain [] (reply_entries (plain e) (plains h)) (reply_entries e h) (reply-plain e h) (form e.reply))

pub events-plain : (h : List Exchange) → events_in (plains h) ≡ events_in h
unfolding events_in
events-plain [] = refl
events-plain (e ∷ h) =
    ap (λ (l : List Event). l ++ events_from (length l) e.clock (entries_of (plain e) (plains h))) (events-plain h)
    ∙ ap (λ (es : List Entry). events_in h ++ events_from (length (events_in h)) e.clock es) (entries-plain e h)
