-- The stores hold bytes after every call, and so do images written and stores taken up. Assumes nothing.
use Rattle.bank.specs.declared.mailbox.FileRefusal.{FileRefusal}
use Rattle.std.specs.Prelude.{Err, Ok, Result}
use Prim.Native.Nat.{ℕ, zero, suc, ◌+◌, ◌-◌, ◌*◌, ◌<◌, ◌/◌, ◌%◌}
use mathlib.Core.Bool.{Bool, true, false, cond, ◌&&◌}
use mathlib.Core.List.{List, [], ◌∷◌, ◌++◌}
use native.Mathlib.Omega.{arith}
use native.Mathlib.Nat.{mod-lt, zero-lt-suc}
use lib.ListN.{length, get_or, take, drop, replicate}
use Rattle.octets.specs.Bytes.{Bytes, number, bytes_of, overwrite}
use Rattle.octets.proofs.Numbers.{bytes_take, bytes_drop}
use Rattle.message.specs.Limits.{file_bytes}
use Rattle.message.specs.Verdicts.{decide}
use Rattle.message.proofs.Verdicts.{by-test}
use Rattle.frame_table.specs.declared.fields.Fields.{Fields}
use Rattle.frame_table.specs.Table.{data_tag}
use Rattle.frame_row.specs.Row.{field_size, content, behind, data_of}
use Rattle.frame_reader.specs.Reader.{read_request}
use Rattle.bank_state.specs.declared.state.Place.{Place}
use Rattle.bank_state.specs.Clock.{is_idle, freed, drop_upload, drop_uploads, advanced}
use Rattle.bank_state.specs.Limits.{place_count}
use Rattle.bank_state.specs.Search.{is_open}
use Rattle.bank_state.specs.State.{Bank, BankState, place_at}
use Rattle.bank_state.specs.Store.{part_at, with_part, zeroed}
use Rattle.bank_verdicts.specs.declared.verdict.Action.TheVariants as action
use Rattle.bank_verdicts.specs.declared.verdict.DownloadAction.{DownloadAction}
use Rattle.bank_verdicts.specs.declared.verdict.DownloadAction.TheVariants as down
use Rattle.bank_verdicts.specs.declared.verdict.UploadAction.{UploadAction}
use Rattle.bank_verdicts.specs.declared.verdict.UploadAction.TheVariants as up
use Rattle.bank_verdicts.specs.declared.verdict.Verdict.{Verdict}
use Rattle.bank_verdicts.specs.declared.verdict.Verdict.TheVariants as verdict
use Rattle.bank_verdicts.specs.Judgement.{judge}
use Rattle.bank_uploads.specs.Uploads.{bytes_after}
use Rattle.bank_steps.specs.Steps.{on_upload, carry_out}
use Rattle.bank.specs.declared.mailbox.FileRefusal.TheVariants as put
use Rattle.bank.specs.Call.{context_of, FrameInput, FrameCall, lent_right, respond, frame_call}
use Rattle.bank.specs.Mailbox.{file_refusals, carry_out_file, file_call}
use Rattle.image.specs.Items.{Item, constant, part, store}
use Rattle.image.specs.Image.{pack, stores_of}

-- ---- lists of bytes

pub bytes-append : (a b : List ℕ) → Bytes a → Bytes b → Bytes (a ++ b)
bytes-append [] b h k i = k i
bytes-append (x ∷ a) b h k zero = h zero
bytes-append (x ∷ a) b h k (suc i) = bytes-append a b (λ n. h (suc n)) k i

pub bytes-zeros : (n : ℕ) → Bytes (replicate n 0)
bytes-zeros zero i = omega arith
bytes-zeros (suc n) zero = omega arith
bytes-zeros (suc n) (suc i) = bytes-zeros n i

pub bytes-overwrite : (d : List ℕ) (at : ℕ) (x : List ℕ) → Bytes d → Bytes x → Bytes (overwrite d at x)
unfolding overwrite
bytes-overwrite d at x h k =
    bytes-append (take at d) (x ++ drop (at + length x) d) (bytes_take at d h)
    (bytes-append x (drop (at + length x) d) k (bytes_drop (at + length x) d h))

bytes_one : (x : ℕ) → x < 256 → Bytes (x ∷ [])
bytes_one x h zero = h
bytes_one x h (suc i) = omega arith

bytes-of : (w x : ℕ) → Bytes (bytes_of w x)
unfolding bytes_of
bytes-of zero x i = omega arith
bytes-of (suc w) x i =
    bytes-append (bytes_of w (x / 256)) (x % 256 ∷ []) (bytes-of w (x / 256)) (bytes_one (x % 256) (mod-lt x (zero-lt-suc 255))) i

-- ---- a frame's data

bytes-behind : (k t : ℕ) (s : List ℕ) → Bytes s → Bytes (behind k t s)
unfolding behind
bytes-behind zero t s h = h
bytes-behind (suc k) t s h = bytes-behind k _ (drop (field_size t s) s) (bytes_drop (field_size t s) s h)

bytes-content : (t : ℕ) (s : List ℕ) → Bytes s → Bytes (content t s)
unfolding content
bytes-content t s h = bytes_take (field_size t s - 3) (drop 3 s) (bytes_drop 3 s h)

bytes-data : (s : List ℕ) → Bytes s → Bytes (data_of s)
unfolding data_of
bytes-data s h = bytes-content data_tag (behind data_tag 0 s) (bytes-behind data_tag 0 s h)

-- ---- the bank's stores

pub record StoresHold (w : BankState) : Type 0 where
  pub orders : Bytes w.orders
  pub mailboxes : Bytes w.mailboxes

bytes-zeroed : (d : List ℕ) (i : ℕ) → Bytes d → Bytes (zeroed d i)
unfolding zeroed with_part
bytes-zeroed d i h = bytes-overwrite d _ (replicate file_bytes 0) h (bytes-zeros file_bytes)

drop-holds : (i : ℕ) (w : BankState) → StoresHold w → StoresHold (drop_upload i w)
unfolding drop_upload freed
drop-holds i w h = at (is_open (place_at w.bank i).used && is_idle w.bank.clock (place_at w.bank i).last)
  where
    at : (b : Bool) → StoresHold (cond b (freed i w) w)
    at true = record { orders = bytes-zeroed w.orders i h.orders; mailboxes = h.mailboxes }
    at false = h

drops-hold : (n : ℕ) (w : BankState) → StoresHold w → StoresHold (drop_uploads n w)
unfolding drop_uploads
drops-hold zero w h = h
drops-hold (suc n) w h = drop-holds n (drop_uploads n w) (drops-hold n w h)

advanced-holds : (time : ℕ) (w : BankState) → StoresHold w → StoresHold (advanced time w)
unfolding advanced
advanced-holds time w h = drops-hold place_count _ (record { orders = h.orders; mailboxes = h.mailboxes })

bytes_after_lem : (a : UploadAction) (p : Place) (d bytes : List ℕ) → Bytes d → Bytes bytes → Bytes (bytes_after a p d bytes)
bytes_after_lem (up.Opened number) p d bytes h k = k
bytes_after_lem up.Took p d bytes h k = bytes-overwrite bytes p.length d k h
bytes_after_lem up.TookLast p d bytes h k = bytes-overwrite bytes p.length d k h
bytes_after_lem (up.Point n) p d bytes h k = k
bytes_after_lem (up.Cancelled c) p d bytes h k = bytes-zeros (length bytes)

bytes-part : (d : List ℕ) (i : ℕ) → Bytes d → Bytes (part_at d i)
unfolding part_at
bytes-part d i h = bytes_take file_bytes (drop (i * file_bytes) d) (bytes_drop (i * file_bytes) d h)

upload-holds : (a : UploadAction) (i : ℕ) (w : BankState) (d : List ℕ) → Bytes d → StoresHold w → StoresHold (on_upload a i w d)
unfolding with_part
upload-holds a i w d b h = record {
  orders = bytes-overwrite w.orders (i * file_bytes) (bytes_after a (place_at w.bank i) d (part_at w.orders i)) h.orders
      (bytes_after_lem a (place_at w.bank i) d (part_at w.orders i) b (bytes-part w.orders i h.orders));
  mailboxes = h.mailboxes;
}

carried-holds : (v : Verdict) (w : BankState) (q : Fields) (d : List ℕ) → Bytes d → StoresHold w → StoresHold (carry_out v w q d)
carried-holds verdict.Unreadable w q d b h = h
carried-holds (verdict.Refused c) w q d b h = h
carried-holds (verdict.Signed n added) w q d b h = record { orders = h.orders; mailboxes = h.mailboxes }
carried-holds (verdict.Of t (action.Upload (up.Opened n))) w q d b h = record { orders = h.orders; mailboxes = h.mailboxes }
carried-holds (verdict.Of t (action.Upload up.Took)) w q d b h = upload-holds up.Took _ w d b h
carried-holds (verdict.Of t (action.Upload up.TookLast)) w q d b h = upload-holds up.TookLast _ w d b h
carried-holds (verdict.Of t (action.Upload (up.Point k))) w q d b h = upload-holds (up.Point k) _ w d b h
carried-holds (verdict.Of t (action.Upload (up.Cancelled c))) w q d b h = upload-holds (up.Cancelled c) _ w d b h
carried-holds (verdict.Of t (action.Download a)) w q d b h = at a
  where
    at : (x : DownloadAction) → StoresHold (carry_out (verdict.Of t (action.Download x)) w q d)
    at (down.Opened n) = record { orders = h.orders; mailboxes = h.mailboxes }
    at (down.Delivered n) = record { orders = h.orders; mailboxes = h.mailboxes }
    at (down.SentAgain n) = record { orders = h.orders; mailboxes = h.mailboxes }
    at (down.Point k) = record { orders = h.orders; mailboxes = h.mailboxes }
    at down.Cancelled = record { orders = h.orders; mailboxes = h.mailboxes }
    at down.Confirmed = record { orders = h.orders; mailboxes = bytes-zeroed w.mailboxes _ h.mailboxes }
    at down.Declined = record { orders = h.orders; mailboxes = h.mailboxes }

pub frame-holds : (w : BankState) (a : FrameInput) → Bytes a.frame → StoresHold w → StoresHold (frame_call w a).bank_state
unfolding frame_call respond
frame-holds w a b h =
    by-test (λ (c : FrameCall). StoresHold c.bank_state) (lent_right w a)
    (λ _. carried-holds (judge (context_of a) (advanced a.time w).bank (read_request a.frame) (length (data_of a.frame)))
    (advanced a.time w) (read_request a.frame) (data_of a.frame) (bytes-data a.frame b) (advanced-holds a.time w h))
    (λ _. h)

pub file-holds : (b : Bank) (mailbox : ℕ) (file mailboxes : List ℕ) → Bytes file → Bytes mailboxes →
    Bytes (file_call b mailbox file mailboxes).mailboxes
unfolding file_call
file-holds b mailbox file mailboxes h k = at (decide (file_refusals b mailbox file mailboxes) (Ok tt))
  where
    at : (x : Result (Unit {0}) FileRefusal) → Bytes (carry_out_file x b mailbox file mailboxes).mailboxes
    at (Ok u) = bytes-overwrite mailboxes _ file k h
    at (Err put.WrongLength) = k
    at (Err put.NoMailbox) = k
    at (Err put.WrongFile) = k
    at (Err put.MailboxFull) = k

-- ---- images

-- each store of a list holds bytes
abbrev pub AllHold : List (List ℕ) → Type 0
AllHold ss = (n : ℕ) → Bytes (get_or ss n [])

no_bytes : Bytes []
no_bytes i = omega arith

rest-hold : (ss : List (List ℕ)) → AllHold ss → AllHold (drop 1 ss)
rest-hold [] h n = no_bytes
rest-hold (s ∷ ss) h n = h (suc n)

pub packed-holds : (l : List Item) (xs : List ℕ) (ss : List (List ℕ)) → AllHold ss → Bytes (pack l xs ss)
unfolding pack
packed-holds [] xs ss h = no_bytes
packed-holds (constant w v ∷ l) xs ss h = bytes-append (bytes_of w v) _ (bytes-of w v) (packed-holds l xs ss h)
packed-holds (part w ∷ l) xs ss h = bytes-append (bytes_of w (get_or xs 0 0)) _ (bytes-of w (get_or xs 0 0)) (packed-holds l (drop 1 xs) ss h)
packed-holds (store z ∷ l) xs ss h = bytes-append (get_or ss 0 []) _ (h 0) (packed-holds l xs (drop 1 ss) (rest-hold ss h))

pub stores-hold : (l : List Item) (s : List ℕ) → Bytes s → AllHold (stores_of l s)
unfolding stores_of
stores-hold [] s h n = no_bytes
stores-hold (constant w v ∷ l) s h n = stores-hold l (drop w s) (bytes_drop w s h) n
stores-hold (part w ∷ l) s h n = stores-hold l (drop w s) (bytes_drop w s h) n
stores-hold (store z ∷ l) s h zero = bytes_take z s h
stores-hold (store z ∷ l) s h (suc n) = stores-hold l (drop z s) (bytes_drop z s h) n
