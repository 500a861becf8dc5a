-- From call to call: what a frame call leaves, which calls change a mailbox, and that nothing gone comes back.
use Rattle.bank.specs.declared.mailbox.FileRefusal.{FileRefusal}
use Rattle.number_table.specs.declared.table.WrongLength.{WrongLength}
use Rattle.std.specs.Prelude.{Err, Ok, Result}
use Prim.Native.Nat.{ℕ, ◌-◌, ◌≤◌, ◌<◌}
use mathlib.Core.Bool.{true, false}
use mathlib.Core.List.{List, []}
use mathlib.Core.Logic.{◌⊎◌, inl, inr}
use mathlib.Core.Path.{◌≡◌, refl, sym, ap, ◌∙◌, subst}
use native.Mathlib.Decide.{ℕ_discrete}
use native.Mathlib.Omega.{arith}
use lib.ListN.{length, get_or, set, take}
use lib.Seq.{get_or-set_same}
use Rattle.frame_table.specs.declared.fields.Bits128.{Bits128}
use Rattle.frame_table.specs.declared.fields.Fields.{Fields}
use Rattle.octets.specs.Bytes.{number}
use Rattle.frame_table.specs.Names.{subscriber, transaction}
use Rattle.frame_table.specs.Table.{last_time}
use Rattle.frame_reader.specs.Reader.{read_request}
use Rattle.frame_row.specs.Row.{data_of}
use Rattle.octets.proofs.Tests.{never}
use Rattle.message.specs.Limits.{subscribers}
use Rattle.bank_state.specs.declared.clock.Ended.{Ended}
use Rattle.bank_state.specs.declared.clock.Ended.TheVariants as ended
use Rattle.bank_state.specs.declared.state.Download.{Download}
use Rattle.bank_state.specs.declared.state.Place.{Place}
use Rattle.bank_state.specs.declared.state.Use.TheVariants.{Open}
use Rattle.bank_state.specs.Clock.{advanced, end_downloads}
use Rattle.bank_state.specs.Search.{is_free}
use Rattle.bank_state.specs.State.{BankState, bank_state, no_place, no_download, place_at, file_length, with_download}
use Rattle.bank_state.specs.Store.{part_at, file_of}
use Rattle.bank_openings.specs.Openings.{counted, counted_upload, open_upload, open_download}
use Rattle.bank_verdicts.specs.declared.verdict.UploadAction.{UploadAction}
use Rattle.bank_verdicts.specs.declared.verdict.UploadAction.TheVariants as up
use Rattle.bank_verdicts.specs.declared.verdict.DownloadAction.{DownloadAction}
use Rattle.bank_verdicts.specs.declared.verdict.DownloadAction.TheVariants as down
use Rattle.bank_verdicts.specs.declared.verdict.Action.TheVariants as action
use Rattle.bank_verdicts.specs.declared.verdict.Verdict.{Verdict}
use Rattle.bank_verdicts.specs.declared.verdict.Verdict.TheVariants as verdict
use Rattle.bank_verdicts.specs.Judgement.{upload_at, download_of, order_at}
use Rattle.bank_signing.specs.Signings.{sign}
use Rattle.bank_uploads.specs.Uploads.{grown, booked, attempted, place_after}
use Rattle.bank.specs.declared.mailbox.FileRefusal.TheVariants as put
use Rattle.bank_steps.specs.Steps.{on_upload, download_acts, emptied, carry_out}
use Rattle.bank.specs.Call.{context_of, Step, FrameCall, lent_right, replied, respond, frame_call, FrameInput}
use Rattle.bank.specs.Mailbox.{file_number, carry_out_file, file_call}
use Rattle.bank.proofs.Right.{right-told}
use Rattle.bank_admitted.specs.State.{mailbox_file}
use Rattle.bank_history.specs.History.{Exchange, Past, BankCall, Frame, File, is_opening, exchange_of, entered, placed, after, call_exchange}
use Rattle.bank_admitted.specs.State.{Sizes}
use Rattle.bank_history.specs.Invariant.{Invariant, Holds}
use Rattle.bank_admitted.proofs.Files.{filled}
use Rattle.bank_history.specs.Transactions.{Emptied, Filled, Gone, answered}
use Rattle.bank_state.proofs.Drops.{each-end_downloads}
use Rattle.bank_admitted.proofs.Rows.{each-set-all}
use Rattle.message.proofs.Verdicts.{by-test}
use Rattle.bank_steps.proofs.Cases.{Happens, unreadable, refused, opens_upload, opens_download, signs, to_upload, to_download, upload-acts, happens}
use Rattle.bank_history.proofs.GoesOn.{download-goes-on}
use Rattle.bank_state.proofs.Found.{upload-found}
use Rattle.bank_history.proofs.Uploads.{entry}
use Rattle.bank_admitted.proofs.Downloads.{mailbox-other}
use Rattle.bank_admitted.proofs.Clock.{advanced-mailbox, each-advanced, each-download, advanced-openings}
use Rattle.bank_history.proofs.Clock.{advanced-keeps}
use Rattle.bank_admitted.proofs.Files.{FileSound, rejected, done, judged-file, filled-same, filled-other}

-- ---- what a call leaves

-- a frame call is given a number and changes nothing, or it is answered
pub after_frame_lem : (a : FrameInput) (p : Past) →
    (after (Frame a) p ≡ p) ⊎ (after (Frame a) p ≡ answered a p)
unfolding after frame_call
after_frame_lem a p =
    by-test (λ (c : FrameCall). (entered c.answer c.bank_state x p ≡ p) ⊎
    (entered c.answer c.bank_state x p ≡ answered a p))
    (lent_right p.bank_state a) (λ _. at (replied s a.buffer).answer) (λ _. inl refl)
  where
    s : Step
    s = respond (context_of a) (advanced a.time p.bank_state) (read_request a.frame) (data_of a.frame)

    x : Exchange
    x = call_exchange p.bank_state a

    at : (r : Result ℕ WrongLength) → (entered r s.bank_state x p ≡ p) ⊎ (entered r s.bank_state x p ≡ answered a p)
    at (Ok n) = inr refl
    at (Err e) = inl refl

-- a call at a time over the last one leaves all as it was
pub late-frame : (a : FrameInput) (p : Past) → last_time < a.time → after (Frame a) p ≡ p
unfolding after frame_call
late-frame a p late =
    by-test (λ (c : FrameCall). entered c.answer c.bank_state (call_exchange p.bank_state a) p ≡ p)
    (lent_right p.bank_state a)
    (λ right. absurd (let t = (right-told p.bank_state a right).2.in_time in omega arith)) (λ _. refl)

-- an empty mailbox has no file
pub no-file : (w : BankState) (m : ℕ) → file_length m w.bank.files ≡ 0 → mailbox_file w m ≡ []
unfolding mailbox_file file_of
no-file w m e = ap (λ (n : ℕ). take n (part_at w.mailboxes (m - 1))) e

-- a file call is given a number and changes nothing, or its file goes in
pub after-file : (mailbox : ℕ) (file : List ℕ) (p : Past) → Holds p →
    (after (File mailbox file) p ≡ p)
    ⊎ ((after (File mailbox file) p ≡ record { bank_state = filled mailbox file p.bank_state; history = p.history }) × Filled p.bank_state
    (filled mailbox file p.bank_state) mailbox file)
unfolding after file_call
after-file mailbox file p holds = at (judged-file p.bank_state.bank mailbox file p.bank_state.mailboxes)
  where
    c : Result (Unit {0}) FileRefusal → Past
    c a = let f = carry_out_file a p.bank_state.bank mailbox file p.bank_state.mailboxes in placed f.answer f.bank f.mailboxes p

    Out : Past → Type 0
    Out r = (r ≡ p) ⊎ ((r ≡ record { bank_state = filled mailbox file p.bank_state; history = p.history }) × Filled p.bank_state
        (filled mailbox file p.bank_state) mailbox file)

    stays : (a : Result (Unit {0}) FileRefusal) → 0 < file_number a → c a ≡ p
    stays (Ok u) h = absurd (omega arith)
    stays (Err put.WrongLength) h = refl
    stays (Err put.NoMailbox) h = refl
    stays (Err put.WrongFile) h = refl
    stays (Err put.MailboxFull) h = refl

    at : {a : Result (Unit {0}) FileRefusal} → FileSound p.bank_state.bank mailbox file p.bank_state.mailboxes a → Out (c a)
    at {a} (rejected h) = inl (stays a h)
    at (done known most some short empty) = inr (
      refl,
      record {
        was = no-file p.bank_state mailbox empty;
        now = filled-same p.bank_state holds.invariant.state mailbox file known most some short empty;
        others = λ n k d. filled-other p.bank_state holds.invariant.state mailbox file known most some short empty n
            (λ e. d (omega arith));
      },
    )

-- ---- mailboxes

module _ (first : ℕ) (w : BankState) (h : List Exchange) (v : Invariant w h) (q : Fields) (d : List ℕ) (m : ℕ) (one : 1 ≤ m) where
  -- a verdict leaves the mailbox m, or has emptied it
  abbrev Mailbox : Verdict → Type 0
  Mailbox u = (mailbox_file (carry_out u w q d) m ≡ mailbox_file w m) ⊎ Emptied (carry_out u w q d) m (entry u w q d)

  -- a receipt of the subscriber of m, answered 011000, empties m; one of another subscriber leaves it
  confirmed-mailbox : 1 ≤ subscriber q → subscriber q ≤ subscribers → (t : Bits128) →
      Mailbox (verdict.Of t (action.Download down.Confirmed))
  unfolding file_length
  confirmed-mailbox known most t = own (ℕ_discrete (subscriber q) m)
    where
      own : Dec (subscriber q ≡ m) → Mailbox (verdict.Of t (action.Download down.Confirmed))
      own (yes e) = inr (record {
        id = t;
        confirmed = refl;
        owner = e;
        empty = no-file (emptied (subscriber q) w) m
            (ap (λ (z : ℕ). get_or (set w.bank.files (subscriber q - 1) 0) (z - 1) 0) (sym e)
            ∙ get_or-set_same w.bank.files (subscriber q - 1) 0 0 (let z = v.state.sizes.files in omega arith));
      })
      own (no n) = inl (
          mailbox-other w (subscriber q - 1) v.state.sizes.mailboxes (omega arith) w.bank.clock w.bank.openings
          (end_downloads (ended.Mailbox (subscriber q)) w.bank.downloads) w.bank.nonces m (λ e. n (omega arith)))

  download-mailbox : 1 ≤ subscriber q → subscriber q ≤ subscribers → (t : Bits128) (a : DownloadAction) →
      Mailbox (verdict.Of t (action.Download a))
  unfolding mailbox_file file_length open_download counted
  download-mailbox known most t (down.Opened n) = inl refl
  download-mailbox known most t (down.Delivered n) = inl refl
  download-mailbox known most t (down.SentAgain n) = inl refl
  download-mailbox known most t (down.Point k) = inl refl
  download-mailbox known most t down.Cancelled = inl refl
  download-mailbox known most t down.Confirmed = confirmed-mailbox known most t
  download-mailbox known most t down.Declined = inl refl

  -- a request empties the mailbox of its subscriber by 011000, or leaves it; it leaves the others
  case-mailbox : {u : Verdict} → Happens first w q d u → Mailbox u
  unfolding mailbox_file file_length open_upload counted_upload open_download counted sign
  case-mailbox unreadable = inl refl
  case-mailbox (refused c e) = inl refl
  case-mailbox (signs c) = inl refl
  case-mailbox (opens_upload asked a g n inside below) = inl refl
  case-mailbox (opens_download asked a g n) = inl refl
  case-mailbox (to_upload r a t) =
      inl (ap (λ (z : BankState). mailbox_file z m) (upload-acts (place_at w.bank (upload_at w.bank q)).transaction t))
  case-mailbox (to_download r a t) = download-mailbox t.readable.known t.readable.most _ a

-- a mailbox changes by a file put in, or by a receipt of its subscriber answered 011000
pub frame-mailbox : (a : FrameInput) (p : Past) (m : ℕ) → Holds p → 1 ≤ m →
    (mailbox_file (answered a p).bank_state m ≡ mailbox_file p.bank_state m)
    ⊎ Emptied (answered a p).bank_state m (call_exchange p.bank_state a)
unfolding exchange_of respond
frame-mailbox a p m holds one =
    at (case-mailbox (number a.ids) w p.history v (read_request a.frame) (data_of a.frame) m one
    (happens (context_of a) w (read_request a.frame) (data_of a.frame) v.state.sizes.places
    v.state.sizes.downloads))
  where
    w : BankState
    w = advanced a.time p.bank_state

    v : Invariant w p.history
    v = advanced-keeps a.time p.bank_state p.history holds.invariant

    at : {E : Type 0} → (mailbox_file (answered a p).bank_state m ≡ mailbox_file w m) ⊎ E →
        (mailbox_file (answered a p).bank_state m ≡ mailbox_file p.bank_state m) ⊎ E
    at (inl e) = inl (e ∙ advanced-mailbox a.time p.bank_state m)
    at (inr z) = inr z

-- ---- nothing gone comes back

module _ (t : Bits128) where
  -- a place or a record that is not of t
  abbrev PlaceNot : Place → Type 0
  PlaceNot p = is_free p.used ≡ false → p.transaction ≡ t → ⊥

  abbrev DownloadNot : Download → Type 0
  DownloadNot e = e.used ≡ true → e.transaction ≡ t → ⊥

  advanced-gone : (time : ℕ) (w : BankState) → Sizes w → Gone w t → Gone (advanced time w) t
  advanced-gone time w s g = record {
    known = rw (advanced-openings time w) g.known;
    places = each-advanced time w (λ (i : ℕ) (p : Place). PlaceNot p) (λ i e. never (sym e)) s (λ i _. g.places i);
    downloads = each-download time w DownloadNot (λ e. never e) (λ j _. g.downloads j);
  }

  module _ (w : BankState) (g : Gone w t) where
    place-gone : (i : ℕ) (p : Place) → PlaceNot p → (k : ℕ) → PlaceNot (get_or (set w.bank.places i p) k no_place)
    place-gone i p new = each-set-all PlaceNot w.bank.places i p no_place new g.places

    download-gone : (j : ℕ) (e : Download) → DownloadNot e → (k : ℕ) → DownloadNot (get_or (set w.bank.downloads j e) k no_download)
    download-gone j e new = each-set-all DownloadNot w.bank.downloads j e no_download new g.downloads

    moved-gone : (j : ℕ) (e : Download) → DownloadNot e →
        Gone (bank_state (with_download j e w.bank) w.orders w.mailboxes) t
    moved-gone j e new = record { known = g.known; places = g.places; downloads = download-gone j e new }

    ended-gone : (which : Ended) (k : ℕ) → DownloadNot (get_or (end_downloads which w.bank.downloads) k no_download)
    ended-gone which = each-end_downloads DownloadNot (λ e. never e) which w.bank.downloads (λ i _ _. g.downloads i)

    after-not : (a : UploadAction) (clock n : ℕ) (p : Place) → p.used ≡ Open → PlaceNot p → PlaceNot (place_after a clock n p)
    unfolding grown booked attempted
    after-not (up.Opened m) clock n p opened old = old
    after-not up.Took clock n p opened old = old
    after-not up.TookLast clock n p opened old = λ _. old (ap is_free opened)
    after-not (up.Point k) clock n p opened old = old
    after-not (up.Cancelled c) clock n p opened old = λ e. never (sym e)

    upload-gone : (i : ℕ) (d : List ℕ) → (place_at w.bank i).used ≡ Open → (a : UploadAction) → Gone (on_upload a i w d) t
    upload-gone i d opened a = record {
      known = g.known;
      places = place-gone i _ (after-not a w.bank.clock (length d) (place_at w.bank i) opened (g.places i));
      downloads = g.downloads;
    }

    download-step-gone : (q : Fields) (u : Bits128) (a : DownloadAction) → is_opening (action.Download a) ≡ false →
        Gone (download_acts a u w q) t
    download-step-gone q u (down.Opened n) e = never (sym e)
    download-step-gone q u (down.Delivered n) e = moved-gone (download_of w.bank q) _ (g.downloads (download_of w.bank q))
    download-step-gone q u (down.SentAgain n) e = moved-gone (download_of w.bank q) _ (g.downloads (download_of w.bank q))
    download-step-gone q u (down.Point d) e = moved-gone (download_of w.bank q) _ (g.downloads (download_of w.bank q))
    download-step-gone q u down.Cancelled e = record { known = g.known; places = g.places; downloads = ended-gone _ }
    download-step-gone q u down.Confirmed e = record { known = g.known; places = g.places; downloads = ended-gone _ }
    download-step-gone q u down.Declined e = record { known = g.known; places = g.places; downloads = ended-gone _ }

    -- a new transaction has a new number
    fresh-number : (u : Bits128) → u.low ≡ w.bank.openings → u ≡ t → ⊥
    fresh-number u n e = let k = g.known in let z = ap (λ (b : Bits128). b.low) e in omega arith

    pub case-gone : (first : ℕ) (q : Fields) (d : List ℕ) {v : Verdict} → Happens first w q d v → Gone (carry_out v w q d) t
    unfolding open_upload counted_upload open_download counted sign
    case-gone first q d unreadable = g
    case-gone first q d (refused c e) = g
    case-gone first q d (signs c) =
        let i = order_at w.bank q in
        record { known = g.known; places = place-gone i _ (g.places i); downloads = g.downloads }
    case-gone first q d (opens_upload asked a f n inside below) =
        record { known = let k = g.known in omega arith; places = place-gone _ _ (λ _. fresh-number _ refl); downloads = g.downloads }
    case-gone first q d (opens_download asked a f n) =
        record { known = let k = g.known in omega arith; places = g.places; downloads = download-gone _ _ (λ _. fresh-number _ refl) }
    case-gone first q d (to_upload r a c) =
        let i = upload_at w.bank q in
        subst (λ (z : BankState). Gone z t) (sym (upload-acts (place_at w.bank i).transaction c))
        (upload-gone i d (upload-found (subscriber q) (transaction q) (place_at w.bank i) c.found).0 a)
    case-gone first q d (to_download r a c) = download-step-gone q _ a (download-goes-on c.sound)

  -- an answered frame brings back nothing that is gone when its request is judged
  pub answered-gone : (a : FrameInput) (p : Past) → Holds p → Gone (advanced a.time p.bank_state) t →
      Gone (answered a p).bank_state t
  unfolding respond
  answered-gone a p holds g =
      let v = advanced-keeps a.time p.bank_state p.history holds.invariant in
      case-gone (advanced a.time p.bank_state) g (number a.ids) (read_request a.frame) (data_of a.frame)
      (happens (context_of a) (advanced a.time p.bank_state) (read_request a.frame) (data_of a.frame)
      v.state.sizes.places
      v.state.sizes.downloads)

  -- what is gone stays gone, whatever the call
  pub gone-stays : (c : BankCall) (p : Past) → Holds p → Gone p.bank_state t → Gone (after c p).bank_state t
  gone-stays (Frame a) p holds g = at (after_frame_lem a p)
    where
      new : Gone (answered a p).bank_state t
      new = answered-gone a p holds (advanced-gone a.time p.bank_state holds.invariant.state.sizes g)

      at : (after (Frame a) p ≡ p) ⊎ (after (Frame a) p ≡ answered a p) →
          Gone (after (Frame a) p).bank_state t
      at (inl e) = subst (λ (r : Past). Gone r.bank_state t) (sym e) g
      at (inr e) = subst (λ (r : Past). Gone r.bank_state t) (sym e) new
  gone-stays (File mailbox file) p holds g = at (after-file mailbox file p holds)
    where
      new : Gone (filled mailbox file p.bank_state) t
      new = record { known = g.known; places = g.places; downloads = g.downloads }

      at : (after (File mailbox file) p ≡ p)
          ⊎ ((after (File mailbox file) p ≡ record { bank_state = filled mailbox file p.bank_state; history = p.history }) × Filled p.bank_state
          (filled mailbox file p.bank_state) mailbox file) →
          Gone (after (File mailbox file) p).bank_state t
      at (inl e) = subst (λ (r : Past). Gone r.bank_state t) (sym e) g
      at (inr e) = subst (λ (r : Past). Gone r.bank_state t) (sym e.0) new
