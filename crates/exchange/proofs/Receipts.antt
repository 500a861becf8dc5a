-- "as it issued that receipt, its file was the mailbox's": so of each receipt answered 011000. Assumes nothing.
use Rattle.std.specs.Prelude.{Result, Ok, Err}
use Rattle.client_run.specs.declared.run.Refusal.{Refusal}
use Prim.Native.Nat.{ℕ, ◌<◌}
use mathlib.Core.Bool.{true, false}
use mathlib.Core.List.Memᴰ.{head as here}
use mathlib.Core.List.Memᴰ.{not-nil as in-none}
use mathlib.Core.List.Memᴰ.{tail as there}
use mathlib.Core.List.{
  List,
  [],
  ◌∷◌,
  List-discrete,
  Memᴰ as In,
}
use mathlib.Core.Logic.{◌⊎◌, inl, inr}
use mathlib.Core.Path.{◌≡◌, refl, sym, ap, ◌∙◌, subst}
use native.Mathlib.Decide.{ℕ_discrete, dec_lt}
use native.Mathlib.Omega.{arith}
use lib.ListN.{get_or-eq_default}
use borrow.Author.Tests.{eq-eqb}
use Rattle.frame_table.specs.declared.fields.Bits128.{Bits128}
use Rattle.frame_table.specs.declared.table.Form.{Form}
use Rattle.frame_table.specs.Forms as forms
use Rattle.frame_table.specs.Names.{subscriber, transaction, return_code, form}
use Rattle.frame_reader.specs.Reader.{read_request, read_reply}
use Rattle.frame_row.specs.Row.{data_of}
use Rattle.octets.proofs.Tests.{never}
use Rattle.message.specs.declared.codes.ReturnCode.TheVariants as code
use Rattle.message.specs.Codes.{code_field}
use Rattle.message.specs.declared.editions.Edition.{Edition}
use Rattle.message.specs.Editions.{edition_of, opening_form}
use Rattle.bank_state.specs.Clock.{advanced}
use Rattle.bank_state.specs.declared.state.Download.{Download}
use Rattle.bank_state.specs.declared.state.Place.{Place}
use Rattle.bank_state.specs.declared.state.Use.{Use}
use Rattle.bank_state.specs.declared.state.Use.TheVariants.{Free, Open, Booked}
use Rattle.bank_state.specs.Limits.{place_count}
use Rattle.bank_state.specs.Search.{is_free}
use Rattle.bank_state.specs.State.{BankState, no_place, place_at, download_at}
use Rattle.bank_state.specs.Store.{part_at}
use Rattle.bank_verdicts.specs.declared.verdict.Action.TheVariants as action
use Rattle.bank_verdicts.specs.declared.verdict.UploadAction.TheVariants as up
use Rattle.bank_verdicts.specs.declared.verdict.Verdict.TheVariants as verdict
use Rattle.bank.specs.Call.{context_of, respond, FrameInput}
use Rattle.bank_admitted.specs.State.{mailbox_file}
use Rattle.bank_history.specs.History.{Past, Frame, File, newest, is_action, is_upload_opening, ever, opened_by, exchange_of}
use Rattle.bank_history.specs.History as bank
use Rattle.bank_history.specs.Invariant as bank_invariant
use Rattle.bank_history.specs.Sound.{AllSound}
use Rattle.bank_history.specs.Transactions.{Gone}
use Rattle.bank_steps.proofs.Cases.{happens}
use Rattle.bank_admitted.proofs.Clock.{each-download}
use Rattle.bank_history.proofs.Clock.{advanced-keeps}
use Rattle.bank_history.proofs.Downloads.{download-open}
use Rattle.bank_history.proofs.Positions.{action-sound}
use Rattle.bank_history.proofs.Theorems.{ever-stands, stands-ever, gone-stays}
use Rattle.client_run.specs.declared.run.Answer.{Answer}
use Rattle.client_run.specs.declared.run.Answer.TheVariants as answer
use Rattle.client.specs.Calls.{begin_call, reply_call, no_reply_call}
use Rattle.client_run.specs.Run.{ClientCall}
use Rattle.client_run.proofs.Apart.{not-both}
use Rattle.client_history.specs.History.{BankReplies}
use Rattle.client_run.specs.declared.run.Step.{Step}
use Rattle.client_history.specs.History as history
use Rattle.client_history.specs.Invariant.{
  DownloadIssue,
  download_opens,
  asks,
  confirms,
  ReceiptIssued,
  Invariant,
  not-begun,
  upload,
  download,
}
use Rattle.client_history.proofs.Requests.{form-download_opening, form-download_transfer, form-receipt}
use Rattle.client_history.proofs.Theorems.{receipt-issued, one-subscriber, not-opening}
use Rattle.exchange.specs.Course.{
  Call,
  frame_arrives,
  file_put,
  begins,
  reply_arrives,
  no_reply,
  journal_handed,
  puts_away,
  takes_up,
  Issue,
  Exchange,
  Course,
  start,
  mailbox_of,
  call_number,
  issued_by,
  after_run,
  carry_out,
  exec,
  after,
}
use Rattle.exchange.specs.Demand3.{Premise, Allowed, AllAllowed, OneExchangeNumber}
use Rattle.exchange.proofs.Events.{case-empties}
use Rattle.exchange.proofs.Told.{one-opened, opening-at, upload-opening, upload-kind, done-confirmed, Gave, file_in, bank-replies}
use Rattle.exchange.proofs.Calls.{by_number}
use Rattle.exchange.proofs.Images.{taken-stays}
use Rattle.exchange.proofs.Bank.{BankPart, same-mailbox, Entered, frame-enters}
use Rattle.exchange.proofs.Clients.{as_issue, issues_of, issued-in, OpenedBy, Parts, own_past}
use Rattle.exchange.proofs.Issues.{in-more, call-issues, numbers-before}
use Rattle.exchange.proofs.Courses.{call-keeps, Copied, copied-call}
use Rattle.exchange.proofs.Joint.{sound}
use Rattle.exchange.proofs.Outcome.{receipt-id, inv, HeldWhole, AllHeldWhole, emptied-held}
use Rattle.exchange.proofs.Foreign.{confirming, request-opened}
use Rattle.exchange.proofs.Concerns.{file-bank}

-- the mailbox of the subscriber of the request's run, now
abbrev box_now : Course → Issue → List ℕ
box_now s x = mailbox_of s.bank (s.runs x.run).subscriber

-- the request was issued with its run's file in the mailbox, or its transaction is gone
abbrev pub HeldOrGone : BankState → Issue → Type 0
HeldOrGone w x = (x.file ≡ x.box) ⊎ Gone w (transaction (read_request x.frame))

-- ---- a receipt issued, at a course

module _ (s : Course) (v : Parts s) (copies : Copied s) (numbers : OneExchangeNumber s) (x : Issue) (m : In x s.issued)
    (asked : form (read_request x.frame) ≡ forms.Receipt) where
  abbrev h : List bank.Exchange
  h = v.bank.past.history

  abbrev t : Bits128
  t = transaction (read_request x.frame)

  all_sound : AllSound h
  all_sound = sound s v copies numbers

  replies : BankReplies (Gave h) (file_in h)
  replies = bank-replies h all_sound v.bank.proper

  receipt : ReceiptIssued (own_past v x.run) (file_in h (s.runs x.run).transaction) (as_issue x)
  receipt = receipt-issued (Gave h) (file_in h) replies (own_past v x.run) (v.runs x.run).own (as_issue x) (issued-in x.run m refl) asked

  opened : (y : Form) × OpenedBy y h t (issues_of x.run s.issued)
  opened = request-opened s v copies numbers m refl (confirming asked)

  opener : opened_by t h ≡ (s.runs x.run).subscriber
  opener =
      let o = opened.1 in
      opening-at (λ (e : bank.Exchange). subscriber e.request) 0 all_sound o.stands o.opening ∙ ap subscriber o.asked
      ∙ one-subscriber (Gave h) (file_in h) replies (own_past v x.run) (v.runs x.run).own o.issue o.own

  -- "a download keeps its mailbox's file while it is open"
  while-open : (j : ℕ) → (download_at s.bank.bank j).used ≡ true → (download_at s.bank.bank j).transaction ≡ t → x.file ≡ box_now s x
  while-open j used own =
      let d = download-open s.bank h (inv s v copies numbers) j used in
      receipt.file ∙ ap (file_in h) (sym (receipt-id receipt) ∙ sym own) ∙ d.1.unchanged
      ∙ ap (mailbox_file s.bank) (sym d.1.owner ∙ ap (λ (u : Bits128). opened_by u h) own ∙ opener) ∙ sym (same-mailbox s.bank _)

  -- its run opens no upload, so no place has its transaction ID
  no-opening : (y : history.Issue) → In y (issues_of x.run s.issued) → (w : Edition) → form y.request ≡ opening_form w → ⊥
  no-opening y n w e = at (v.runs x.run).own
    where
      other : {f : Form} → form y.request ≡ f → (f ≡ forms.UploadOpening → ◌≡◌ {A = ℕ} 0 1) →
          (f ≡ forms.ChosenOpening → ◌≡◌ {A = ℕ} 0 1) → ⊥
      other g z k = let u = not-opening w z k (sym g ∙ e) in omega arith

      each : {u k next : ℕ} {i : Bits128} {at : Step} {f : List ℕ} → DownloadIssue u k i at next f y → ⊥
      each (download_opens k time nonce q d) = other (ap form q ∙ form-download_opening _ _ _ _) (λ z. cc) (λ z. cc)
      each (asks k j a b c f q d) = other (ap form q ∙ form-download_transfer _ _ _ _) (λ z. cc) (λ z. cc)
      each (confirms k a b f q d) = other (ap form q ∙ form-receipt _ _ _ _) (λ z. cc) (λ z. cc)

      at : Invariant (Gave h) (file_in h) (own_past v x.run) → ⊥
      at (not-begun a g) = in-none (subst (In y) g n)
      at (upload b u) = not-both u.direction receipt.download-run
      at (download b u) = each (u.each y n)

  not-upload : ever is_upload_opening t h ≡ true → ⊥
  not-upload z =
      let e = ever-stands is_upload_opening t h z in
      let o = opened.1 in
      let same : e.0 ≡ o.exchange = one-opened all_sound e.2 o.stands (upload-opening e.3) o.opening in
      let k = upload-kind e.3.action e.3.kind in
      let own : e.0.verdict ≡ verdict.Of t (action.Upload (up.Opened k.0)) = e.3.is ∙ ap (verdict.Of t) k.1 in
      no-opening o.issue o.own (edition_of e.0.request)
      (ap form (sym o.asked) ∙ ap (λ (f : bank.Exchange). form f.request) (sym same)
      ∙ (action-sound all_sound e.2 own).opening.asked)

  place-not : (i : ℕ) → is_free (place_at s.bank.bank i).used ≡ false → (place_at s.bank.bank i).transaction ≡ t → ⊥
  place-not i used = at (dec_lt i place_count)
    where
      by : (u : Use) → is_free u ≡ false →
          bank_invariant.PlaceTold u h (place_at s.bank.bank i) (part_at s.bank.orders i) →
          (place_at s.bank.bank i).transaction ≡ t → ⊥
      by Free f p z = never (sym f)
      by Open f p z = not-upload (ap (λ (u : Bits128). ever is_upload_opening u h) (sym z) ∙ p.place.opened)
      by Booked f p z = not-upload (ap (λ (u : Bits128). ever is_upload_opening u h) (sym z) ∙ p.place.opened)

      at : Dec (i < place_count) → (place_at s.bank.bank i).transaction ≡ t → ⊥
      at (yes l) = by (place_at s.bank.bank i).used used ((inv s v copies numbers).places i l)
      at (no l) = λ _. never (sym used ∙ ap (λ (p : Place). is_free p.used)
          (get_or-eq_default s.bank.bank.places no_place {n = i}
          (let z = (inv s v copies numbers).state.sizes.places in omega arith)))

  -- where it was issued with the mailbox as it is now, the run's file is the mailbox's, or the transaction is gone
  pub held-or-gone : x.box ≡ box_now s x → HeldOrGone s.bank x
  held-or-gone b = at (List-discrete ℕ_discrete x.file x.box)
    where
      at : Dec (x.file ≡ x.box) → HeldOrGone s.bank x
      at (yes e) = inl e
      at (no n) =
          let o = opened.1 in
          inr (record {
            known = (inv s v copies numbers).known t
                (stands-ever is_action t o.stands (record { action = o.opening.action; is = o.opening.is; kind = refl }));
            places = place-not;
            downloads = λ j used own. n (while-open j used own ∙ sym b);
          })

-- ---- what a call issues

-- a request is issued with the mailbox of its run's subscriber
run-box : (s : Course) (i : ℕ) (k : ClientCall) (payload : List ℕ) (a : Result Answer Refusal) (x : Issue) → In x (issued_by a i k s) →
    In x s.issued ⊎ (x.box ≡ box_now (after_run i k payload s) x)
run-box s i k payload (Ok (answer.Request n)) x (here z) =
    inr (rw (eq-eqb x.run i (ap (λ (y : Issue). y.run) z)) (ap (λ (y : Issue). y.box) z))
run-box s i k payload (Ok (answer.Request n)) x (there m) = inl m
run-box s i k payload (Ok answer.Ignored) x m = inl m
run-box s i k payload (Ok (answer.Closed w)) x m = inl m
run-box s i k payload (Err r) x m = inl m

carried-box : (k : Call) (s : Course) (x : Issue) → In x (carry_out k s).issued → In x s.issued ⊎ (x.box ≡ box_now (carry_out k s) x)
carried-box (frame_arrives n a) s x m = inl m
carried-box (file_put rows mailboxes n file) s x m = inl m
carried-box (begins i c params l) s x m = let k = begin_call c params l in run-box s i k l.payload k.answer x m
carried-box (reply_arrives i c reply l) s x m = let k = reply_call c reply l in run-box s i k l.payload k.answer x m
carried-box (no_reply i c l) s x m = let k = no_reply_call c l in run-box s i k l.payload k.answer x m
carried-box (journal_handed i c row) s x m = inl m
carried-box (puts_away n buffer) s x m = inl m
carried-box (takes_up n image) s x m = inl m

call-box : (k : Call) (s : Course) (x : Issue) → In x (exec k s).issued → In x s.issued ⊎ (x.box ≡ box_now (exec k s) x)
call-box k s x =
    by_number k s (λ (t : Course). In x t.issued → In x s.issued ⊎ (x.box ≡ box_now t x)) (λ m. inl m) (λ _. carried-box k s x)

-- ---- what a call is to the bank

-- nothing, a file put, or a frame answered
data BankMove (s : Course) (b : BankPart s) (t : Course) : Type 0 where
  rests : t.bank ≡ s.bank → t.exchanged ≡ s.exchanged → BankMove s b t
  puts : (m : ℕ) (file : List ℕ) → t.bank ≡ (bank.after (File m file) b.past).bank_state → t.exchanged ≡ s.exchanged → BankMove s b t
  answers : (a : FrameInput) → Entered s b a t → t.issued ≡ s.issued → BankMove s b t

carried-move : (k : Call) (s : Course) (v : Parts s) → Premise k s → call_number k ≡ 0 → BankMove s v.bank (carry_out k s)
carried-move (frame_arrives m a) s v q z = answers a (frame-enters s v.bank m a q.0 q.1 z) refl
carried-move (file_put rows mailboxes m file) s v q z = puts m file (file-bank s v rows mailboxes m file q z).0 refl
carried-move (begins i c params l) s v q z = rests refl refl
carried-move (reply_arrives i c reply l) s v q z = rests refl refl
carried-move (no_reply i c l) s v q z = rests refl refl
carried-move (journal_handed i c row) s v q z = rests refl refl
carried-move (puts_away m buffer) s v q z = rests refl refl
carried-move (takes_up m image) s v q z = rests (ap (λ (t : Course). t.bank) (taken-stays m image s v.images q z)) refl

bank-move : (k : Call) (s : Course) (v : Parts s) → Allowed k s → BankMove s v.bank (exec k s)
bank-move k s v q = by_number k s (BankMove s v.bank) (rests refl refl) (λ z. carried-move k s v (q z) z)

-- what is gone stays gone
move-gone : {s t : Course} (b : BankPart s) → BankMove s b t → {u : Bits128} → Gone s.bank u → Gone t.bank u
move-gone {s} {t} b d {u} g = at d
  where
    was : Gone b.past.bank_state u
    was = subst (λ (w : BankState). Gone w u) (sym b.bank_state) g

    at : BankMove s b t → Gone t.bank u
    at (rests e z) = subst (λ (w : BankState). Gone w u) (sym e) g
    at (puts m file e z) = subst (λ (w : BankState). Gone w u) (sym e) (gone-stays u (File m file) b.past b.holds was)
    at (answers a en z) =
        subst (λ (w : BankState). Gone w u) (ap (λ (p : Past). p.bank_state) en.next ∙ sym en.bank)
        (gone-stays u (Frame a) b.past b.holds was)

-- the transaction of a receipt answered 011000 was not gone
not-gone : {s t : Course} (b : BankPart s) (a : FrameInput) (en : Entered s b a t) →
    return_code (read_reply en.exchange.reply) ≡ code_field code.DownloadPostprocessDone →
    Gone s.bank (transaction (read_request a.frame)) → ⊥
unfolding exchange_of respond
not-gone b a en z g =
    let w = b.past.bank_state in
    let n = advanced-keeps a.time w b.past.history b.holds.invariant in
    let e = case-empties
    (happens (context_of a) (advanced a.time w) (read_request a.frame) (data_of a.frame)
    n.state.sizes.places
    n.state.sizes.downloads) n.state.sizes
    (done-confirmed en.sound newest en.proper (ap return_code (sym en.same.reply) ∙ z)).0 in
    each-download a.time w (λ (r : Download). r.used ≡ true →
    r.transaction ≡ transaction (read_request a.frame) → ⊥) (λ u. never u)
    (λ j _. (subst (λ (y : BankState). Gone y (transaction (read_request a.frame)))
    (sym b.bank_state) g).downloads j) e.row e.used e.own

-- ---- over the calls of a list

pub record Receipts (s : Course) : Type 0 where
  -- as each receipt was issued, its run's file was the mailbox's, or its transaction is gone
  pub issued : (x : Issue) → In x s.issued → form (read_request x.frame) ≡ forms.Receipt → HeldOrGone s.bank x
  pub held : AllHeldWhole s

receipts-call : (k : Call) (s : Course) → Parts s → Copied s → Allowed k s → OneExchangeNumber (exec k s) → Receipts s → Receipts (exec k s)
receipts-call k s v copies q numbers r = record { issued = issued; held = held }
  where
    t : Course
    t = exec k s

    w : Parts t
    w = call-keeps k s v numbers q

    later : Copied t
    later = copied-call k s copies q

    move : BankMove s v.bank t
    move = bank-move k s v q

    issued : (x : Issue) → In x t.issued → form (read_request x.frame) ≡ forms.Receipt → HeldOrGone t.bank x
    issued x m asked = at (call-box k s x m)
      where
        old : HeldOrGone s.bank x → HeldOrGone t.bank x
        old (inl e) = inl e
        old (inr g) = inr (move-gone v.bank move g)

        at : In x s.issued ⊎ (x.box ≡ box_now t x) → HeldOrGone t.bank x
        at (inl n) = old (r.issued x n asked)
        at (inr b) = held-or-gone t w later numbers x m asked b

    held : AllHeldWhole t
    held e m z = by move
      where
        old : In e s.exchanged → HeldWhole t e
        old n =
            let o = r.held e n z in
            (o.0, (o.1.0, in-more (call-issues k s) o.1.1, o.1.2, o.1.3, o.1.4))

        new : (a : FrameInput) (en : Entered s v.bank a t) → t.issued ≡ s.issued →
            e ≡ en.exchange → HeldWhole t e
        new a en same y =
            let o = emptied-held t w later numbers e m z in
            at o (r.issued o.1.0 (subst (In o.1.0) same o.1.1) (ap (λ (l : List ℕ). form (read_request l)) o.1.2 ∙ o.0))
          where
            at : (o : (form (read_request e.request) ≡ forms.Receipt)
                × ((x : Issue) × In x t.issued × (x.frame ≡ e.request) × (x.file ≡ e.box))) →
                (o.1.0.file ≡ o.1.0.box) ⊎ Gone s.bank (transaction (read_request o.1.0.frame)) → HeldWhole t e
            at o (inl f) = (o.0, (o.1.0, o.1.1, o.1.2, f, o.1.3))
            at o (inr g) = absurd (not-gone v.bank a en
                (ap (λ (x : Exchange). return_code (read_reply x.reply)) (sym y) ∙ z)
                (subst (λ (l : List ℕ). Gone s.bank (transaction (read_request l)))
                (o.1.2 ∙ ap (λ (x : Exchange). x.request) y ∙ en.request) g))

        by : BankMove s v.bank t → HeldWhole t e
        by (rests a b) = old (subst (In e) b m)
        by (puts n file a b) = old (subst (In e) b m)
        by (answers a en same) = at (subst (In e) en.exchanged m)
          where
            at : In e (en.exchange ∷ s.exchanged) → HeldWhole t e
            at (here y) = new a en same y
            at (there n) = old n

pub receipts-start : Receipts start
unfolding start
receipts-start = record { issued = λ x m _. absurd (in-none m); held = λ e m _. absurd (in-none m) }

pub receipts : (ks : List Call) (s : Course) → Parts s → Copied s → AllAllowed ks s → OneExchangeNumber (after ks s) → Receipts s →
    Receipts (after ks s)
unfolding after
receipts [] s v c q n r = r
receipts (k ∷ ks) s v c q n r =
    let later = numbers-before ks (exec k s) n in
    receipts ks (exec k s) (call-keeps k s v later q.0) (copied-call k s c q.0) q.1 n (receipts-call k s v c q.0 later r)
